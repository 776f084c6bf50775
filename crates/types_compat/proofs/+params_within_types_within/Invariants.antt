-- What falls where `types_compat::params_within` and `types_compat::types_within` call one another, and the loop of the first.
use Rattle.std.proofs.Common.{◌≡◌, ◌+◌, ◌*◌, drop}
use Rattle.btf_view.specs.Lent.{lent}
use Rattle.rules.specs.Limits.{max_resolve_depth}
use Rattle.rules.specs.Types.{pairs, params}
use Rattle.types_compat.specs.Steps.{step_within}
use Rattle.types_compat.proofs.+params_within_types_within.Given as goal

abbrev pub decreases-params_within : goal.decreases-params_within
decreases-params_within l = 2 * l.left + 2

abbrev pub decreases-types_within : goal.decreases-types_within
decreases-types_within l = 2 * l.left + 1

abbrev pub invariant-params_within-loop-k : goal.invariant-params_within-loop-k
invariant-params_within-loop-k l =
    pairs (step_within (lent l.local).typ (lent l.target).typ l.left max_resolve_depth)
    (drop l.k ((lent l.local).typ l.i).entries) (drop l.k ((lent l.target).typ l.j).entries)
    ≡ params (step_within (lent l.local).typ (lent l.target).typ l.left max_resolve_depth)
    ((lent l.local).typ l.i).entries ((lent l.target).typ l.j).entries

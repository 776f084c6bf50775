-- The loop of `btf_accept::first_unfit`.
use Prim.Native.Nat.{◌-◌}
use Rattle.btf_accept.specs.Limits.{max_types}
use Rattle.btf_accept.proofs.FitLaws.{Fitting}
use Rattle.btf_accept.proofs.first_unfit.Given as goal

abbrev pub invariant-loop-n : goal.invariant-loop-n
invariant-loop-n l = Fitting max_types l.types l.room l.last l.at l.n

abbrev pub decreases-loop-n : goal.decreases-loop-n
decreases-loop-n l = l.last - l.n

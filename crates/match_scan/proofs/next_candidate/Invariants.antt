-- The loop of `match_scan::next_candidate`.
use Prim.Native.Nat.{suc, ◌-◌}
use mathlib.Core.Path.{◌≡◌}
use Rattle.btf_view.specs.Lent.{lent}
use Rattle.match_scan.specs.Candidates.{first_from}
use Rattle.match_scan.proofs.next_candidate.Given as goal

abbrev pub invariant-loop-id : goal.invariant-loop-id
invariant-loop-id l = first_from (lent l.target) l.kind l.name l.id (suc l.target.btf.last - l.id) ≡ first_from (lent l.target) l.kind l.name l.from (suc l.target.btf.last - l.from)

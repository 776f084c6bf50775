-- The loop of `btf_accept::survey`.
use Prim.Native.Nat.{◌-◌}
use lib.ListN.{length}
use Rattle.btf_accept.proofs.MarkLaws.{Marking}
use Rattle.btf_accept.proofs.survey.Given as goal

abbrev pub invariant-loop-at : goal.invariant-loop-at
invariant-loop-at l = Marking l.types l.initial.marks l.marks l.far l.top l.at l.n l.j

abbrev pub decreases-loop-at : goal.decreases-loop-at
decreases-loop-at l = length l.types - l.at

-- The loop of `btf_pass::highest`.
use Rattle.btf_pass.proofs.ReachLaws.{Topping}
use Rattle.btf_pass.proofs.highest.Given as goal

abbrev pub invariant-loop-left : goal.invariant-loop-left
invariant-loop-left l = Topping l.types l.step l.from l.count l.at l.left l.high

abbrev pub decreases-loop-left : goal.decreases-loop-left
decreases-loop-left l = l.left

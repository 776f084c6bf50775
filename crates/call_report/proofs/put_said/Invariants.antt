-- The loop of `call_report::put_said`.
use Rattle.btf_view.specs.Lent.{lent}
use Rattle.call_report.proofs.Laws.{Going}
use Rattle.call_report.proofs.put_said.Given as goal

abbrev pub invariant-loop-k : goal.invariant-loop-k
invariant-loop-k l = Going (lent l.local) (lent l.target) l.section l.records l.said.applied l.said.ending l.initial.out l.out l.at l.k

-- The loop of `call_records::run_records`.
use Rattle.btf_view.specs.Lent.{lent}
use Rattle.call_records.proofs.Run.{Going}
use Rattle.call_records.proofs.run_records.Given as goal

abbrev pub invariant-loop-k : goal.invariant-loop-k
invariant-loop-k l = Going (lent l.local) (lent l.target) l.section l.records l.initial.insns l.n l.k l.insns

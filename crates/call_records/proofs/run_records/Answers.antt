-- `call_records::run_records` meets its contract.
use Rattle.std.proofs.Common.{refl, arith}
use Rattle.call_records.proofs.Run.{going-first, going_end, going-refused, going_next}
use Rattle.call_records.proofs.run_records.Goals as goal

pub loop-k-init : goal.loop-k-init
loop-k-init c = going-first _ _ _ _ _ _ refl (omega arith)

pub returns-in-Refused : goal.returns-in-Refused
returns-in-Refused c = going-refused c.loop-k.invariant c.loop-k-test.true c.record_at.ensures c.apply_record-a.ensures _ c.in-Refused.is

pub loop-k-preserved : goal.loop-k-preserved
loop-k-preserved c =
    going_next c.loop-k.invariant c.loop-k-test.true c.record_at.ensures c.apply_record-a.ensures c.in_default.not-Refused
    (omega (arith, c.apply_record-a.auto.insns))

pub returns : goal.returns
returns c = going_end c.loop-k.invariant c.loop-k-test.false

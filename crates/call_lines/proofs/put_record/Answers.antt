-- `call_lines::put_record` meets its contract.
use native.Mathlib.Omega.{arith}
use Rattle.rules.specs.Report.{lines}
use Rattle.call_lines.proofs.Laws.{join}
use Rattle.call_lines.proofs.put_record.Goals as goal

pub returns : goal.returns
unfolding lines
returns c =
    join (omega arith) (join (omega arith) (join (omega arith) c.put_line-answer_at.ensures (rw c.answer_number.ensures at c.put_line-insn_at.ensures))
    c.put_insn-value_at.ensures) c.put_value.ensures

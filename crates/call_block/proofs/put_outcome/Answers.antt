-- `call_block::put_outcome` meets its contract.
use native.Mathlib.Omega.{arith}
use Rattle.call_lines.proofs.Laws.{join}
use Rattle.call_block.specs.Block.{outcome_line}
use Rattle.call_block.proofs.put_outcome.Goals as goal

pub returns : goal.returns
unfolding outcome_line
returns c =
    join (omega arith) (join (omega arith) (join (omega arith) (rw c.ending_number.ensures at c.put_field-shown_at.ensures) c.put_ending-applied_at.ensures)
    c.put_field-end_at.ensures) c.put_byte.ensures

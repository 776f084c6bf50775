-- `call_block::put_ending` meets its contract.
use Rattle.std.proofs.Common.{arith}
use Rattle.call_lines.proofs.Laws.{join}
use Rattle.call_block.specs.Block.{ending_shown}
use Rattle.call_block.proofs.put_ending.Goals as goal

pub returns-in-BadBtf : goal.returns-in-BadBtf
unfolding ending_shown
returns-in-BadBtf c = rw c.in-BadBtf.is (join (omega arith) c.put_which-id_at.ensures c.put_field.ensures)

pub returns-in-TableShort : goal.returns-in-TableShort
unfolding ending_shown
returns-in-TableShort c = rw c.in-TableShort.is (join (omega arith) c.put_which-entries_at.ensures c.put_field-in-TableShort.ensures)

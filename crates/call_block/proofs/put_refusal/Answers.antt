-- `call_block::put_refusal` meets its contract.
use Rattle.std.proofs.Common.{arith}
use Rattle.call_lines.proofs.Laws.{join}
use Rattle.call_block.specs.Block.{refusal_shown}
use Rattle.call_block.proofs.put_refusal.Goals as goal

pub returns-in-IndexTooBig : goal.returns-in-IndexTooBig
unfolding refusal_shown
returns-in-IndexTooBig c = rw c.in-IndexTooBig.is (join (omega arith) c.put_field-count_at.ensures c.put_field-in-IndexTooBig.ensures)

pub returns-in-Conflict : goal.returns-in-Conflict
unfolding refusal_shown
returns-in-Conflict c = rw c.in-Conflict.is (join (omega arith) c.put_field-count_at-in-Conflict.ensures c.put_field-in-Conflict.ensures)

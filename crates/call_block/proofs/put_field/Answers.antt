-- `call_block::put_field` meets its contract.
use native.Mathlib.Omega.{arith}
use Rattle.call_lines.proofs.Laws.{join}
use Rattle.call_block.proofs.put_field.Goals as goal

pub returns : goal.returns
returns c = join (omega arith) c.put_piece-number_at.ensures c.put_decimal.ensures

-- `call_lines::put_line` meets its contract.
use native.Mathlib.Omega.{arith}
use Rattle.call_lines.proofs.Laws.{join}
use Rattle.call_lines.proofs.put_line.Goals as goal

pub returns : goal.returns
returns c = join (omega arith) (join (omega arith) c.put_piece-shown.ensures c.put_decimal-end.ensures) c.put_byte.ensures

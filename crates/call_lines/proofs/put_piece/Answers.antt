-- `call_lines::put_piece` meets its contract.
use Rattle.std.proofs.Common.{arith}
use Rattle.call_lines.proofs.Laws.{more}
use Rattle.call_lines.proofs.put_piece.Goals as goal

pub loop-byte-preserved : goal.loop-byte-preserved
loop-byte-preserved c = more _ _ (omega arith) c.loop-byte-test.true c.loop-byte.invariant c.put_byte-next.ensures

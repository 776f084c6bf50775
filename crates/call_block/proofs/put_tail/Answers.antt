-- `call_block::put_tail` meets its contract.
use native.Mathlib.Omega.{arith}
use Rattle.call_lines.proofs.Laws.{join}
use Rattle.call_block.specs.Block.{tail}
use Rattle.call_block.proofs.put_tail.Goals as goal

pub returns : goal.returns
unfolding tail
returns c =
    join (omega arith) (join (omega arith) (join (omega arith) c.put_outcome-insns_at.ensures c.put_piece-hex_at.ensures) c.put_hex-end_at.ensures)
    c.put_piece.ensures

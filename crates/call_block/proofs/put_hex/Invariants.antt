-- The loop of `call_block::put_hex`.
use Rattle.std.proofs.Common.{take}
use Rattle.call_lines.specs.Pieces.{Wrote}
use Rattle.call_block.specs.Block.{hex}
use Rattle.call_block.proofs.put_hex.Given as goal

abbrev pub invariant-loop-byte : goal.invariant-loop-byte
invariant-loop-byte l = Wrote l.initial.out l.at (hex (take l.byte-index l.bytes)) l.out l.next

-- The loop of `call_lines::put_piece`.
use Rattle.std.proofs.Common.{take}
use Rattle.call_lines.specs.Pieces.{Wrote}
use Rattle.call_lines.proofs.put_piece.Given as goal

abbrev pub invariant-loop-byte : goal.invariant-loop-byte
invariant-loop-byte l = Wrote l.initial.out l.at (take l.byte-index l.piece) l.out l.next

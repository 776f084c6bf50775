-- Pieces of text written one after the other into a lent buffer. What does not fit is counted and not written.
use Rattle.std.specs.Prelude.{ℕ, ◌+◌, ◌^◌, min, ◌≡◌, List, length}
use Rattle.std.proofs.lemmas.List.Edits.{sets}

-- No buffer reaches this place, and a count stays there.
abbrev pub far : ℕ
far = 2 ^ 63

-- A piece is written at a place of a buffer: the buffer afterwards, and the next place
pub record Wrote (before : List ℕ) (at : ℕ) (piece after : List ℕ) (next : ℕ) : Type 0 where
  pub bytes : after ≡ sets before at piece
  pub place : next ≡ min (at + length piece) far

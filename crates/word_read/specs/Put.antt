-- A number of n bytes written at a place, in either order. What would lie past the end is not written.
-- Assumes nothing.
use Rattle.std.specs.Prelude.{ℕ, zero, suc, ◌+◌, ◌/◌, ◌%◌, ◌^◌, List, set}
use Rattle.word_read.specs.Num.{Order, little, big}

-- of a number of n + 1 bytes: the byte that stands first, and the number that the n others make
abbrev pub first : Order → ℕ → ℕ → ℕ
first little n v = v % 256
first big n v = v / 256 ^ n % 256

abbrev pub rest : Order → ℕ → ℕ → ℕ
rest little n v = v / 256
rest big n v = v % 256 ^ n

-- the bytes after the write: order, n, bytes, place, number
unfoldable pub put_at : Order → ℕ → List ℕ → ℕ → ℕ → List ℕ
put_at o zero xs at v = xs
put_at o (suc n) xs at v = put_at o n (set xs at (first o n v)) (at + 1) (rest o n v)

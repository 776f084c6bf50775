-- Worked examples of numbers in bytes, by computation.
-- Assumes nothing.
use Prim.Native.Nat.{◌-◌, ◌^◌}
use mathlib.Core.Path.{◌≡◌, refl}
use mathlib.Core.List.{[], ◌∷◌}
use Rattle.word_read.specs.Num.{little, big, num_at}
use Rattle.word_read.specs.Put.{put_at}
use Rattle.word_read.specs.Sign.{extended}

read_little : num_at little 4 (1 ∷ 2 ∷ 3 ∷ 4 ∷ []) 0 ≡ 0x04030201
unfolding num_at
read_little = refl

read_big : num_at big 4 (1 ∷ 2 ∷ 3 ∷ 4 ∷ []) 0 ≡ 0x01020304
unfolding num_at
read_big = refl

-- what is past the end counts as 0, and is not written
read_over : num_at little 4 (1 ∷ 2 ∷ []) 1 ≡ 2
unfolding num_at
read_over = refl

put-over : put_at little 4 (0 ∷ 0 ∷ 0 ∷ []) 1 0x04030201 ≡ 0 ∷ 1 ∷ 2 ∷ []
unfolding put_at
put-over = refl

-- document 01, section 8: 32767 writes `ff 7f`
put-off : put_at little 2 (0x61 ∷ 0x12 ∷ 8 ∷ 0 ∷ []) 2 32767 ≡ 0x61 ∷ 0x12 ∷ 0xff ∷ 0x7f ∷ []
unfolding put_at
put-off = refl

-- -1 widened
all_ones : extended 0xffffffff ≡ 2 ^ 64 - 1
unfolding extended
all_ones = refl

plain : extended 0x7fffffff ≡ 0x7fffffff
unfolding extended
plain = refl

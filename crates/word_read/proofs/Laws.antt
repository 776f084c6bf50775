-- The laws of numbers in bytes, over the order and the width.
-- Assumes nothing.
use mathlib.Core.Path.{◌≡◌, refl, sym, ◌∙◌}
use mathlib.Core.List.{List}
use Prim.Native.Nat.{ℕ, zero, suc, ◌+◌, ◌*◌, ◌^◌, ◌≤◌, ◌<◌}
use native.Mathlib.Nat.{zero-add, add-zero, suc-add, add_assoc, pow-suc, mul_assoc, mul_comm, mul-add, mul-le-mul_left}
use native.Mathlib.Omega.{arith}
use lib.ListN.{length, get_or, get_or-eq_default}
use lib.Pow.{pow-add}
use Rattle.word_read.specs.Num.{Order, little, big, joined, num_at}

-- one byte
pub one : (o : Order) (xs : List ℕ) (at : ℕ) → num_at o 1 xs at ≡ get_or xs at 0
unfolding num_at
one little xs at = omega arith
one big xs at = omega arith

further : (at m : ℕ) → at + suc m ≡ at + 1 + m
further at m = omega arith

-- a number of m + n bytes is one of m bytes and one of n after it
pub joins : (o : Order) (m n : ℕ) (xs : List ℕ) (at : ℕ) → num_at o (m + n) xs at ≡ joined o m n (num_at o m xs at) (num_at o n xs (at + m))
unfolding num_at
joins little zero n xs at = simp (zero-add, add-zero) (omega arith)
joins big zero n xs at = simp (zero-add, add-zero) (omega arith)
joins little (suc m) n xs at =
    rw (suc-add m n, joins little m n xs (at + 1), pow-suc 256 m, further at m, mul_comm (256 ^ m) 256, mul_assoc 256 (256 ^ m))
    (omega arith)
joins big (suc m) n xs at =
    rw (suc-add m n, joins big m n xs (at + 1), pow-add 256 m n, further at m, mul_comm (256 ^ m) (256 ^ n), mul_assoc (256 ^ n) (256 ^ m), mul-add)
    (omega arith)

-- what n bytes can hold
pub bound : (o : Order) (n : ℕ) (xs : List ℕ) (at : ℕ) → ((k : ℕ) → get_or xs k 0 < 256) → num_at o n xs at < 256 ^ n
unfolding num_at
bound o zero xs at h = omega arith
bound little (suc n) xs at h = rw (pow-suc 256 n) (omega (arith, h at, bound little n xs (at + 1) h))
bound big (suc n) xs at h =
    let a : 256 ^ n * get_or xs at 0 ≤ 256 ^ n * 255 = mul-le-mul_left (256 ^ n) (omega (arith, h at)) in
    rw (pow-suc 256 n) (omega (arith, bound big n xs (at + 1) h))

-- past the end there are only zeros
pub past : (o : Order) (n : ℕ) (xs : List ℕ) (at : ℕ) → length xs ≤ at → num_at o n xs at ≡ 0
unfolding num_at
past o zero xs at h = refl
past little (suc n) xs at h = rw (get_or-eq_default xs 0 h) (omega (arith, past little n xs (at + 1) (omega arith)))
past big (suc n) xs at h = rw (get_or-eq_default xs 0 h) (omega (arith, past big n xs (at + 1) (omega arith)))

-- two halves that were read make the whole
pub halves : (o : Order) (m n : ℕ) {a b : ℕ} (xs : List ℕ) (at : ℕ) → a ≡ num_at o m xs at → b ≡ num_at o n xs (at + m) → joined o m n a b ≡ num_at o (m + n) xs at
halves o m n xs at f g = rw (f, g, joins o m n xs at)

pub bytes : (o : Order) {a b : ℕ} (xs : List ℕ) (at : ℕ) → a ≡ get_or xs at 0 → b ≡ get_or xs (at + 1) 0 → joined o 1 1 a b ≡ num_at o 2 xs at
bytes o xs at f g = halves o 1 1 xs at (f ∙ sym (one o xs at)) (g ∙ sym (one o xs (at + 1)))

-- four bytes, written out
pub four : (xs : List ℕ) (at : ℕ) → num_at little 4 xs at ≡ get_or xs at 0 + 256 * get_or xs (at + 1) 0 + 65536 * get_or xs (at + 2) 0 + 16777216 * get_or xs (at + 3) 0
unfolding num_at
four xs at = simp add_assoc (omega arith)

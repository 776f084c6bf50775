-- The laws of numbers written into bytes, over the order and the width.
-- Assumes nothing.
use mathlib.Core.Path.{◌≡◌, refl, sym, ap, ◌∙◌}
use mathlib.Core.List.{List}
use Prim.Native.Nat.{ℕ, zero, suc, ◌+◌, ◌*◌, ◌/◌, ◌%◌, ◌^◌, ◌≤◌, ◌<◌}
use native.Mathlib.Nat.{zero-add, add-zero, suc-add, pow-suc, mul_comm, mod-lt, div-one, mod-one, mod-mod, div-div-eq-div-mul}
use native.Mathlib.Omega.{arith}
use lib.ListN.{length, set, get_or, length-set}
use lib.Seq.{set_out, set_comm, get_or-set_other, get_or-set_same}
use lib.Pow.{pow-add}
use lib.Arith.{mod-mul, digits_div, digits_mod}
use Rattle.word_read.specs.Num.{Order, little, big, joined, num_at}
use Rattle.word_read.specs.Put.{first, rest, put_at}

-- past the end nothing is written
pub past : (o : Order) (n : ℕ) (xs : List ℕ) (at v : ℕ) → length xs ≤ at → put_at o n xs at v ≡ xs
unfolding put_at
past o zero xs at v h = refl
past o (suc n) xs at v h = rw (set_out xs at (first o n v) h) (past o n xs (at + 1) (rest o n v) (omega arith))

-- the length stays
pub long : (o : Order) (n : ℕ) (xs : List ℕ) (at v : ℕ) → length (put_at o n xs at v) ≡ length xs
unfolding put_at
long o zero xs at v = refl
long o (suc n) xs at v = long o n (set xs at (first o n v)) (at + 1) (rest o n v) ∙ length-set xs at (first o n v)

full : (n : ℕ) → 0 < 256 ^ n
full zero = omega arith
full (suc n) = rw (pow-suc 256 n) (omega (arith, full n))

-- of v below m * c: the part above c, and the part below
module _ (v m c : ℕ) (hm : 0 < m) (hc : 0 < c) where
  above : v % (m * c) / c ≡ v / c % m
  above = rw (mod-mul v hm hc) (digits_div (v / c % m) (mod-lt v hc))

  below : v % (m * c) % c ≡ v % c
  below = rw (mod-mul v hm hc) (digits_mod (v / c % m) (mod-lt v hc))

-- a number of m + n bytes: the m that stand first, and the n after them
abbrev pub lead : Order → ℕ → ℕ → ℕ → ℕ
lead little m n v = v % 256 ^ m
lead big m n v = v / 256 ^ n

abbrev pub trail : Order → ℕ → ℕ → ℕ → ℕ
trail little m n v = v / 256 ^ m
trail big m n v = v % 256 ^ n

twice : (a : ℕ) → a % 256 % 256 ≡ a % 256
twice a = omega arith

further : (at m : ℕ) → at + suc m ≡ at + 1 + m
further at m = omega arith

-- what lies above n bytes is not looked at
wraps : (n : ℕ) (xs : List ℕ) (at v : ℕ) → put_at big n xs at v ≡ put_at big n xs at (v % 256 ^ n)
unfolding put_at
wraps zero xs at v = refl
wraps (suc n) xs at v =
    rw (pow-suc 256 n, mul_comm (256 ^ n) 256, above v 256 (256 ^ n) (full 1) (full n), below v 256 (256 ^ n) (full 1) (full n), twice (v / 256 ^ n))

pub splits : (o : Order) (m n : ℕ) (xs : List ℕ) (at v : ℕ) → put_at o (m + n) xs at v ≡ put_at o n (put_at o m xs at (lead o m n v)) (at + m) (trail o m n v)
unfolding put_at
splits little zero n xs at v = rw (zero-add n, add-zero at, div-one v)
splits big zero n xs at v = rw (zero-add n, add-zero at) (wraps n xs at v)
splits little (suc m) n xs at v =
    rw (
      suc-add m n,
      splits little m n (set xs at (v % 256)) (at + 1) (v / 256),
      further at m,
      pow-suc 256 m,
      above v (256 ^ m) 256 (full m) (full 1),
      below v (256 ^ m) 256 (full m) (full 1),
      mul_comm (256 ^ m) 256,
      ← div-div-eq-div-mul v 256 (256 ^ m),
    )
splits big (suc m) n xs at v =
    rw (
      suc-add m n,
      splits big m n (set xs at (v / 256 ^ (m + n) % 256)) (at + 1) (v % 256 ^ (m + n)),
      pow-add 256 m n,
      further at m,
      above v (256 ^ m) (256 ^ n) (full m) (full n),
      below v
          (256 ^ m) (256 ^ n) (full m) (full n),
      mul_comm (256 ^ m) (256 ^ n),
      ← div-div-eq-div-mul v (256 ^ n) (256 ^ m),
    )

-- two bytes, written out
pub two : (xs : List ℕ) (at v : ℕ) → v < 2 ^ 16 → put_at little 2 xs at v ≡ set (set xs at (v % 256)) (at + 1) (v / 256)
unfolding put_at
two xs at v h = ap (set (set xs at (v % 256)) (at + 1)) (omega arith)

-- a byte past what is written, and two numbers that do not meet: the order of the writes does not matter
pub set-put : (o : Order) (n : ℕ) (xs : List ℕ) (at v i b : ℕ) → at + n ≤ i → set (put_at o n xs at v) i b ≡ put_at o n (set xs i b) at v
unfolding put_at
set-put o zero xs at v i b h = refl
set-put o (suc n) xs at v i b h =
    rw (set-put o n (set xs at (first o n v)) (at + 1) (rest o n v) i b (omega arith), set_comm xs at i (first o n v) b (λ (e : at ≡ i). omega arith))

pub commute : (o p : Order) (m n : ℕ) (xs : List ℕ) (a u b v : ℕ) → a + m ≤ b → put_at p n (put_at o m xs a u) b v ≡ put_at o m (put_at p n xs b v) a u
unfolding put_at
commute o p m zero xs a u b v h = refl
commute o p m (suc n) xs a u b v h =
    rw (set-put o m xs a u b (first p n v) h) (commute o p m n (set xs b (first p n v)) a u (b + 1) (rest p n v) (omega arith))

-- a byte outside what is written stays
pub before : (o : Order) (n : ℕ) (xs : List ℕ) (at v k : ℕ) → k < at → get_or (put_at o n xs at v) k 0 ≡ get_or xs k 0
unfolding put_at
before o zero xs at v k h = refl
before o (suc n) xs at v k h = before o n (set xs at (first o n v)) (at + 1) (rest o n v) k (omega arith) ∙ get_or-set_other xs at k (first o n v) 0 (λ (e : k ≡ at). omega arith)

pub behind : (o : Order) (n : ℕ) (xs : List ℕ) (at v k : ℕ) → at + n ≤ k → get_or (put_at o n xs at v) k 0 ≡ get_or xs k 0
unfolding put_at
behind o zero xs at v k h = refl
behind o (suc n) xs at v k h = behind o n (set xs at (first o n v)) (at + 1) (rest o n v) k (omega arith) ∙ get_or-set_other xs at k (first o n v) 0 (λ (e : k ≡ at). omega arith)

-- so does a number outside
pub num_before : (o p : Order) (m n : ℕ) (xs : List ℕ) (at v k : ℕ) → k + m ≤ at → num_at p m (put_at o n xs at v) k ≡ num_at p m xs k
unfolding num_at
num_before o p zero n xs at v k h = refl
num_before o p (suc m) n xs at v k h =
    rw (before o n xs at v k (omega arith), num_before o p m n xs at v (k + 1) (omega arith))

pub num_behind : (o p : Order) (m n : ℕ) (xs : List ℕ) (at v k : ℕ) → at + n ≤ k → num_at p m (put_at o n xs at v) k ≡ num_at p m xs k
unfolding num_at
num_behind o p zero n xs at v k h = refl
num_behind o p (suc m) n xs at v k h =
    rw (behind o n xs at v k h, num_behind o p m n xs at v (k + 1) (omega arith))

-- what was written is read back
pub trip : (o : Order) (n : ℕ) (xs : List ℕ) (at v : ℕ) → at + n ≤ length xs → num_at o n (put_at o n xs at v) at ≡ v % 256 ^ n
unfolding put_at num_at
trip o zero xs at v h = sym (mod-one v)
trip o (suc n) xs at v h =
    let ys = set xs at (first o n v) in
    let long : at + 1 + n ≤ length ys = omega (arith, length-set xs at (first o n v)) in
    rw (before o n ys (at + 1) (rest o n v) at (omega arith), get_or-set_same xs at (first o n v) 0 (omega arith), trip o n ys (at + 1) (rest o n v) long) (go o)
  where
    go : (o : Order) → joined o 1 n (first o n v) (rest o n v % 256 ^ n) ≡ v % 256 ^ suc n
    go little = rw (pow-suc 256 n, mod-mul v (full n) (full 1)) (omega arith)
    go big = rw (pow-suc 256 n, mul_comm (256 ^ n) 256, mod-mul v (full 1) (full n), mod-mod v (256 ^ n), mul_comm (256 ^ n) (v / 256 ^ n % 256))

-- two halves that were written one after the other
pub halves : (o : Order) (m n : ℕ) {ys zs : List ℕ} (xs : List ℕ) (at v : ℕ) → ys ≡ put_at o m xs at (lead o m n v) → zs ≡ put_at o n ys (at + m) (trail o m n v) → zs ≡ put_at o (m + n) xs at v
halves o m n xs at v e f = f ∙ ap (λ (l : List ℕ). put_at o n l (at + m) (trail o m n v)) e ∙ sym (splits o m n xs at v)

pub bytes : {ys zs : List ℕ} (xs : List ℕ) (at v : ℕ) → v < 2 ^ 16 → ys ≡ set xs at (v % 256) → zs ≡ set ys (at + 1) (v / 256) → zs ≡ put_at little 2 xs at v
bytes xs at v h e f = f ∙ ap (λ (l : List ℕ). set l (at + 1) (v / 256)) e ∙ sym (two xs at v h)

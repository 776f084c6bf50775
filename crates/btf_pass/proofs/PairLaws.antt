-- The laws of a list of names and types, whose columns are read four words a turn.
-- Assumes nothing.
use Prim.Native.Nat.{ℕ, zero, suc, ◌+◌, ◌*◌, ◌-◌, ◌^◌, ◌≤◌, ◌<◌}
use mathlib.Core.Path.{◌≡◌, sym, ap, ◌∙◌}
use mathlib.Core.Logic.{⊎_elim}
use mathlib.Core.List.{List}
use native.Mathlib.Omega.{arith}
use native.Mathlib.Nat.{add-zero, mul-suc, mul-le-mul_left, mul-le-mul_right}
use lib.ListN.{length}
use borrow.Author.Tests.{lt-ltb, le-ltb}
use Rattle.word_read.specs.Num.{word}
use Rattle.btf_kinds.proofs.Keys.{split, in_range}
use Rattle.btf_pass.specs.Reach.{larger, lesser, topmost, entry_word, four_of}
use Rattle.btf_pass.specs.Shape.{Column}
use Rattle.btf_pass.proofs.ReachLaws.{larger-left, larger-right}

-- the larger and the lesser among numbers
module _ (a b : ℕ) where
  pub lesser-left : a < b → a ≡ lesser a b
  unfolding lesser
  lesser-left h = rw (lt-ltb a b h)

  pub lesser-right : b ≤ a → b ≡ lesser a b
  unfolding lesser
  lesser-right h = rw (le-ltb a b h)

  lesser-first : a ≤ b → lesser a b ≡ a
  lesser-first h = ⊎_elim (λ l. sym (lesser-left l)) (λ l. let e : b ≡ a = omega arith in sym (lesser-right l) ∙ e) (split a b)

  pub lesser-most : lesser a b ≤ b
  lesser-most =
      ⊎_elim (λ l. omega (arith, lesser-left l)) (λ l. omega (arith, lesser-right l)) (split a b)

  larger-first : a ≤ larger a b
  larger-first = ⊎_elim (λ l. omega (arith, larger-right a b l)) (λ l. omega (arith, larger-left a b l)) (split a b)

  larger-second : b ≤ larger a b
  larger-second = ⊎_elim (λ l. omega (arith, larger-right a b l)) (λ l. omega (arith, larger-left a b l)) (split a b)

  larger-most : {x : ℕ} → a ≤ x → b ≤ x → larger a b ≤ x
  larger-most p q = ⊎_elim (λ l. omega (arith, larger-right a b l)) (λ l. omega (arith, larger-left a b l)) (split a b)

-- each word is at most the largest, and the largest is at most what none exceeds
next_word : (t : List ℕ) (step at k : ℕ) → word t (at + step + step * k) ≡ word t (at + step * suc k)
next_word t step at k = let e : at + step + step * k ≡ at + step * suc k = omega (arith, mul-suc step k) in ap (word t) e

first_word : (t : List ℕ) (step at : ℕ) → word t (at + step * 0) ≡ word t at
first_word t step at = let e : at + step * 0 ≡ at = omega arith in ap (word t) e

topmost-word : (t : List ℕ) (step n at k : ℕ) → k < n → word t (at + step * k) ≤ topmost t step at n
unfolding topmost
topmost-word t step zero at k h = absurd (omega arith)
topmost-word t step (suc n) at zero h = omega (arith, first_word t step at, larger-first (word t at) (topmost t step (at + step) n))
topmost-word t step (suc n) at (suc k) h =
    omega (arith, next_word t step at k, topmost-word t step n (at + step) k (omega arith), larger-second (word t at) (topmost t step (at + step) n))

topmost-least : (t : List ℕ) (step x n at : ℕ) → ((k : ℕ) → k < n → word t (at + step * k) ≤ x) → topmost t step at n ≤ x
unfolding topmost
topmost-least t step x zero at h = omega arith
topmost-least t step x (suc n) at h =
    larger-most (word t at) (topmost t step (at + step) n) (omega (arith, first_word t step at, h 0 (omega arith)))
    (topmost-least t step x n (at + step) (λ k l. omega (arith, next_word t step at k, h (suc k) (omega arith))))

-- the largest of five: each of them counts, and nothing else
abbrev five : ℕ → ℕ → ℕ → ℕ → ℕ → ℕ
five high a b c d = larger high (larger (larger a b) (larger c d))

module _ (high a b c d : ℕ) where
  inner : larger (larger a b) (larger c d) ≤ five high a b c d
  inner = larger-second high (larger (larger a b) (larger c d))

  left : larger a b ≤ five high a b c d
  left = omega (arith, inner, larger-first (larger a b) (larger c d))

  right : larger c d ≤ five high a b c d
  right = omega (arith, inner, larger-second (larger a b) (larger c d))

  record Five : Type 0 where
    pub first : high ≤ five high a b c d
    pub second : a ≤ five high a b c d
    pub third : b ≤ five high a b c d
    pub fourth : c ≤ five high a b c d
    pub fifth : d ≤ five high a b c d

  each : Five
  each = record {
    first = larger-first high (larger (larger a b) (larger c d));
    second = omega (arith, left, larger-first a b);
    third = omega (arith, left, larger-second a b);
    fourth = omega (arith, right, larger-first c d);
    fifth = omega (arith, right, larger-second c d);
  }

  five-most : {x : ℕ} → high ≤ x → a ≤ x → b ≤ x → c ≤ x → d ≤ x → five high a b c d ≤ x
  five-most h p q r s =
      larger-most high (larger (larger a b) (larger c d)) h (larger-most (larger a b) (larger c d) (larger-most a b p q) (larger-most c d r s))

-- four words, as the code has joined them
pub four_is : (t : List ℕ) (step from i last high : ℕ) {w x y z a b m r : ℕ} → w ≡ entry_word t step from last i → x ≡ entry_word t step from last (i + 1)
    → y ≡ entry_word t step from last (i + 2) → z ≡ entry_word t step from last (i + 3) → a ≡ larger w x → b ≡ larger y z → m ≡ larger a b → r ≡ larger high m
    → r ≡ four_of t step from i last high
unfolding four_of
four_is t step from i last high ew ex ey ez ea eb em er = rw (er, em, ea, eb, ew, ex, ey, ez)

-- a column of `count` words after i of them: none of the i exceeds what was found, and that is one of the column's
pub record Rising (t : List ℕ) (step from count i high : ℕ) : Type 0 where
  pub above : (k : ℕ) → k < i → k < count → word t (from + step * k) ≤ high
  pub below : high ≤ topmost t step from count

pub rising-first : (t : List ℕ) (step from count : ℕ) → Rising t step from count 0 0
rising-first t step from count = record { above = λ k l m. absurd (omega arith); below = omega arith }

module _ {t : List ℕ} {step from count i high : ℕ} (r : Rising t step from count i high) where
  pub rising-next : {x : ℕ} → i < count → x ≡ four_of t step from i (count - 1) high → Rising t step from count (i + 4) x
  unfolding four_of
  rising-next {x} h e = record { above = above; below = rw e below }
    where
      w : ℕ → ℕ
      w j = entry_word t step from (count - 1) j

      most : (j : ℕ) → w j ≤ topmost t step from count
      most j = topmost-word t step count from (lesser j (count - 1)) (omega (arith, lesser-most j (count - 1)))

      below : five high (w i) (w (i + 1)) (w (i + 2)) (w (i + 3)) ≤ topmost t step from count
      below = five-most high (w i) (w (i + 1)) (w (i + 2)) (w (i + 3)) r.below (most i) (most (i + 1)) (most (i + 2)) (most (i + 3))

      there : (k : ℕ) → k < count → word t (from + step * k) ≡ w k
      there k m = let q : k ≡ lesser k (count - 1) = sym (lesser-first k (count - 1) (omega arith)) in ap (λ (n : ℕ). word t (from + step * n)) q

      five-is : x ≡ five high (w i) (w (i + 1)) (w (i + 2)) (w (i + 3))
      five-is = e

      all : Five high (w i) (w (i + 1)) (w (i + 2)) (w (i + 3))
      all = each high (w i) (w (i + 1)) (w (i + 2)) (w (i + 3))

      turn : (j : ℕ) → j < 4 → w (i + j) ≤ x
      turn j l =
          in_range (λ j. w (i + j) ≤ x) 0 4 j
          (omega (arith, all.second, five-is, ap w (add-zero i)), (omega (arith, all.third, five-is), (omega (arith, all.fourth, five-is), (omega (arith, all.fifth, five-is), tt))))
          (omega arith) l

      above : (k : ℕ) → k < i + 4 → k < count → word t (from + step * k) ≤ x
      above k l m =
          ⊎_elim (λ o. omega (arith, r.above k o m, all.first, five-is))
          (λ o. let q : i + (k - i) ≡ k = omega arith in omega (arith, there k m, turn (k - i) (omega arith), ap w q))
          (split k i)

  pub rising-end : count ≤ i → high ≡ topmost t step from count
  rising-end h = omega (arith, r.below, topmost-least t step high count from (λ k l. r.above k (omega arith) l))

-- a word of a column lies in the section, and its place fits
pub record Place (t : List ℕ) (from step m : ℕ) : Type 0 where
  pub small : step * m < 2 ^ 32
  pub inside : from + step * m + 4 ≤ length t

pub column-place : (t : List ℕ) (from step last i : ℕ) {m : ℕ} → Column t from step last → m ≡ lesser i last → Place t from step m
column-place t from step last i {m} c e =
    let l : m ≤ last = omega (arith, lesser-most i last) in
    let p : step * m ≤ step * last = mul-le-mul_left step l in
    let q : step * m ≤ 12 * m = mul-le-mul_right m c.0 in
    record { small = omega (arith, c.1); inside = omega (arith, c.2) }

-- both columns of a list that lies in the section
pub record Pairing (t : List ℕ) (step from count i far top : ℕ) : Type 0 where
  pub names : Rising t step from count i far
  pub types : Rising t step (from + 4) count i top

pub pair-columns : (t : List ℕ) (from step count : ℕ) → 8 ≤ step → step ≤ 12 → count < 65536 → from + step * count ≤ length t → 0 < count
    → Column t from step (count - 1) × Column t (from + 4) step (count - 1)
pair-columns t from step count l u m h n =
    let one : count ≡ suc (count - 1) = omega arith in
    let p : step * count ≡ step * (count - 1) + step = ap (λ (k : ℕ). step * k) one ∙ mul-suc step (count - 1) in
    ((u, omega arith, omega arith), (u, omega arith, omega arith))

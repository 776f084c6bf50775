-- The bits of signed numbers, over the width.
-- Assumes nothing.
use mathlib.Core.Path.{◌≡◌, refl, sym, ap, ◌∙◌, subst}
use mathlib.Core.Bool.{Bool, true, false, cond}
use Prim.Native.Nat.{ℕ, zero, suc, ◌+◌, ◌-◌, ◌^◌, ◌≤◌, ◌<◌}
use native.Mathlib.Omega.{arith}
use native.Mathlib.Nat.{not-suc-le-zero}
use borrow.Author.Tests.{le-ltb, leb-false}
use lib.Dec.{T, ltb}
use lib.IntN.{ℤ, pos, negsuc, nat_abs, ◌-ℤ◌}
use lib.Signed.{le_z, non_neg}
use mir.Syntax.{Width, w32, w64}
use mir.Facts.{sfits_widen}
use mir.Val.{bits, hbits, Fits, SFits, of_z, to_z, sel}
use mir.ValLaws.{to_z-of_z, to_z_pos, half_full, pow-bits}
use Rattle.word_read.specs.Sign.{extended}

-- -1 - n
less : (n : ℕ) → negsuc 0 -ℤ pos n ≡ negsuc n
less zero = refl
less (suc n) = ap negsuc (omega arith)

-- -1 - -(n + 1)
more : (n : ℕ) → negsuc 0 -ℤ negsuc n ≡ pos n
more n = rw (le-ltb (suc n) 1 (omega arith)) (ap pos (omega arith))

-- what a branch `0 <= v` and a cast `v as u..` ask, and give
pub record Plain (w : Width) (v z : ℤ) : Type 0 where
  pub cast : T (non_neg z) × Fits w (nat_abs z)
  pub is : nat_abs z ≡ of_z w v

-- as a need has it: v read back from its bits
abbrev pub PlainAt : Width → ℤ → Type 0
PlainAt w v = Plain w v (to_z w (of_z w v))

pub plain : (w : Width) (v : ℤ) → SFits w v → le_z (pos 0) (to_z w (of_z w v)) ≡ true → PlainAt w v
plain w v h = subst (λ (z : ℤ). (le_z (pos 0) z ≡ true → Plain w v z)) (sym (to_z-of_z w v h)) (go v h)
  where
    go : (v : ℤ) → SFits w v → le_z (pos 0) v ≡ true → Plain w v v
    go (pos n) h t = record { cast = (tt, record { fits = half_full w h.sfits }); is = refl }
    go (negsuc n) h t = absurd (subst T (sym t) tt)

-- what the other branch asks and gives: (2^w - 1) - ((-1 - v) as u..); y is -1 - v, and z is y read back from its bits
pub record Other (w : Width) (v y z : ℤ) : Type 0 where
  pub sub : SFits w y
  pub cast : T (non_neg z) × Fits w (nat_abs z)
  pub le : nat_abs z ≤ 2 ^ bits w - 1
  pub is : 2 ^ bits w - 1 - nat_abs z ≡ of_z w v

abbrev pub OtherAt : Width → ℤ → Type 0
OtherAt w v = Other w v (negsuc 0 -ℤ to_z w (of_z w v)) (to_z w (of_z w (negsuc 0 -ℤ to_z w (of_z w v))))

pub other : (w : Width) (v : ℤ) → SFits w v → le_z (pos 0) (to_z w (of_z w v)) ≡ false → OtherAt w v
other w v h =
    subst (λ (z : ℤ). (le_z (pos 0) z ≡ false → Other w v (negsuc 0 -ℤ z) (to_z w (of_z w (negsuc 0 -ℤ z))))) (sym (to_z-of_z w v h)) (go v h)
  where
    go : (v : ℤ) → SFits w v → le_z (pos 0) v ≡ false → Other w v (negsuc 0 -ℤ v) (to_z w (of_z w (negsuc 0 -ℤ v)))
    go (pos n) h t = absurd (not-suc-le-zero (leb-false 0 n t))
    go (negsuc n) h t =
        let f : n < 2 ^ bits w = half_full w h.sfits in
        subst (λ (y : ℤ). Other w (negsuc n) y (to_z w (of_z w y))) (sym (more n))
        (subst (λ (z : ℤ). Other w (negsuc n) (pos n) z) (sym (to_z_pos w n h.sfits))
        (record { sub = record { sfits = h.sfits }; cast = (tt, record { fits = f }); le = omega arith; is = omega arith }))

-- what reading x as signed asks and gives where its high bit is set: -1 - ((2^w - 1 - x) as i..)
pub record High (w : Width) (x : ℕ) (y : ℤ) : Type 0 where
  pub sub : SFits w y
  pub is : to_z w (of_z w y) ≡ to_z w x

abbrev pub HighAt : Width → ℕ → Type 0
HighAt w x = High w x (negsuc 0 -ℤ to_z w (2 ^ bits w - 1 - x))

pub high : (w : Width) (x : ℕ) → 2 ^ hbits w ≤ x → x < 2 ^ bits w → HighAt w x
high w x l u =
    let n = 2 ^ bits w - 1 - x in
    let small : n < 2 ^ hbits w = omega (arith, pow-bits w) in
    let s : SFits w (negsuc n) = record { sfits = small } in
    subst (λ (z : ℤ). High w x (negsuc 0 -ℤ z)) (sym (to_z_pos w n small))
    (subst (λ (y : ℤ). High w x y) (sym (less n))
    (record {
      sub = s;
      is = to_z-of_z w (negsuc n) s ∙ ap negsuc (omega arith) ∙ sym (ap (λ (b : Bool). sel b (pos x) (negsuc (2 ^ bits w - suc x))) (le-ltb x (2 ^ hbits w) l));
    }))

-- the rule on plain numbers is the signed number's bits at 64
pub extends : (x : ℕ) → x < 2 ^ 32 → of_z w64 (to_z w32 x) ≡ extended x
unfolding extended
extends x h = go (ltb x (2 ^ 31))
  where
    go : (t : Bool) → of_z w64 (sel t (pos x) (negsuc (2 ^ 32 - suc x))) ≡ cond t x (x + (2 ^ 64 - 2 ^ 32))
    go true = refl
    go false = omega arith

-- a number of 32 bits widened to 64: the cast's need, and its value
pub widens : (v : ℤ) → SFits w32 v → SFits w64 (to_z w32 (of_z w32 v))
widens v h = sfits_widen tt (subst (SFits w32) (sym (to_z-of_z w32 v h)) h)

pub widens-back : (v : ℤ) → SFits w32 v → to_z w64 (of_z w64 (to_z w32 (of_z w32 v))) ≡ v
widens-back v h = to_z-of_z w64 (to_z w32 (of_z w32 v)) (widens v h) ∙ to_z-of_z w32 v h

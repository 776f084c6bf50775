-- Two names compared from an index on: one law for each way through the loop.
-- Assumes nothing.
use Prim.Native.Nat.{ℕ, zero, suc, ◌+◌, ◌-◌, ◌≤◌, ◌<◌}
use mathlib.Core.Path.{◌≡◌, refl, sym, subst, ap, ◌∙◌}
use mathlib.Core.Bool.{Bool, true, false, cond, ◌&&◌}
use mathlib.Core.List.{List, [], ◌∷◌}
use native.Mathlib.Nat.{add-zero}
use native.Mathlib.Numerals.{add-one}
use native.Mathlib.Omega.{arith}
use lib.Dec.{T, eqb, ltb}
use lib.ListN.{length, get_or, take, drop, drop_of_length-le, get_or-eq_default}
use lib.Seq.{drop-cons, get_or-drop}
use borrow.Author.Tests.{eq-eqb, ne_eqb, ltb-true, ltb-false}
use Rattle.std.specs.Prelude.{min}
use Rattle.std.proofs.lemmas.List.{take_rest, drop_min}
use Rattle.std.specs.Cmp.Lexicographic.{pointwise}
use Rattle.btf_view.specs.Text.{cut, text_at}
use Rattle.rules.specs.Types.{is_empty, same_text, flavour_begins, flavourless, same_flavourless}

-- What `==` of two slices says
pub text_pointwise : (xs ys : List ℕ) → pointwise eqb xs ys ≡ same_text xs ys
unfolding same_text
text_pointwise [] [] = refl
text_pointwise [] (y ∷ ys) = refl
text_pointwise (x ∷ xs) [] = refl
text_pointwise (x ∷ xs) (y ∷ ys) = ap (λ (t : Bool). eqb x y && t) (text_pointwise xs ys)

-- Names

empty_flavoured : (t : Bool) (x : ℕ) (xs : List ℕ) → is_empty (cond t [] (x ∷ xs)) ≡ t
empty_flavoured true x xs = refl
empty_flavoured false x xs = refl

-- What a name has left, from an index on
module _ (s : List ℕ) (i : ℕ) where
  pub nothing_left : length s ≤ i → true ≡ is_empty (flavourless (drop i s))
  unfolding flavourless
  nothing_left h = rw (drop_of_length-le s h)

  flavour_or_byte : i < length s → flavourless (drop i s) ≡ cond (flavour_begins (drop i s)) [] (get_or s i 0 ∷ flavourless (drop (suc i) s))
  unfolding flavourless
  flavour_or_byte h = rw (drop-cons s i 0 h)

  pub left : i < length s → is_empty (flavourless (drop i s)) ≡ flavour_begins (drop i s)
  left h = rw (flavour_or_byte h) (empty_flavoured (flavour_begins (drop i s)) (get_or s i 0) (flavourless (drop (suc i) s)))

  module _ {b : Bool} (e : b ≡ is_empty (flavourless (drop i s))) (q : b ≡ false) (h : i < length s) where
    byte_left : flavourless (drop i s) ≡ get_or s i 0 ∷ flavourless (drop (suc i) s)
    byte_left = flavour_or_byte h ∙ rw (sym (left h) ∙ sym e ∙ q)

-- A name ends at its zero
cut-nothing : (xs : List ℕ) → get_or xs 0 0 ≡ 0 → cut xs ≡ []
unfolding cut
cut-nothing [] e = refl
cut-nothing (zero ∷ xs) e = refl
cut-nothing (suc x ∷ xs) e = absurd (omega arith)

cut-byte : (x : ℕ) (xs : List ℕ) → (x ≡ 0 → ⊥) → cut (x ∷ xs) ≡ x ∷ cut xs
unfolding cut
cut-byte zero xs h = absurd (h refl)
cut-byte (suc x) xs h = refl

-- and no flavour has one.
cut_flavour : (xs : List ℕ) → flavour_begins (cut xs) ≡ flavour_begins xs
unfolding cut
cut_flavour [] = refl
cut_flavour (zero ∷ xs) = refl
cut_flavour (suc x ∷ []) = refl
cut_flavour (suc x ∷ zero ∷ xs) = refl
cut_flavour (suc x ∷ suc y ∷ []) = refl
cut_flavour (suc x ∷ suc y ∷ zero ∷ xs) = refl
cut_flavour (suc x ∷ suc y ∷ suc z ∷ xs) = refl

-- What a name in the strings has left; x is the byte there.
module _ (s : List ℕ) (i : ℕ) {x : ℕ} (e : x ≡ get_or s i 0) where
  pub zero_left : x ≡ 0 → true ≡ is_empty (flavourless (cut (drop i s)))
  unfolding flavourless
  zero_left h = sym (rw (cut-nothing (drop i s) (get_or-drop i s 0 0 ∙ rw (add-zero i) (sym e ∙ h))))

  module _ (h : x ≡ 0 → ⊥) where
    pub within : i < length s
    within = go (ltb i (length s)) refl
      where
        go : (t : Bool) → ltb i (length s) ≡ t → i < length s
        go true t = ltb-true i (length s) t
        go false t = absurd (h (e ∙ get_or-eq_default s 0 (ltb-false i (length s) t)))

    text-on : cut (drop i s) ≡ get_or s i 0 ∷ cut (drop (suc i) s)
    text-on = rw (drop-cons s i 0 within) (cut-byte (get_or s i 0) (drop (suc i) s) (λ p. h (e ∙ p)))

    flavour_in : flavour_begins (get_or s i 0 ∷ cut (drop (suc i) s)) ≡ flavour_begins (drop i s)
    flavour_in = ap flavour_begins (sym text-on) ∙ cut_flavour (drop i s)

    flavour_or_text : flavourless (cut (drop i s)) ≡ cond (flavour_begins (drop i s)) [] (get_or s i 0 ∷ flavourless (cut (drop (suc i) s)))
    unfolding flavourless
    flavour_or_text = ap flavourless text-on ∙ ap (λ (t : Bool). cond t [] (get_or s i 0 ∷ flavourless (cut (drop (suc i) s)))) flavour_in

    pub left_in : is_empty (flavourless (cut (drop i s))) ≡ flavour_begins (drop i s)
    left_in = rw flavour_or_text (empty_flavoured (flavour_begins (drop i s)) (get_or s i 0) (flavourless (cut (drop (suc i) s))))

module _ (s : List ℕ) (i : ℕ) {b : Bool} (e : b ≡ is_empty (flavourless (cut (drop i s)))) (q : b ≡ false) where
  no_zero : get_or s i 0 ≡ 0 → ⊥
  no_zero p = subst T (zero_left s i refl p ∙ sym e ∙ q) tt

  pub inside-in : i < length s
  inside-in = within s i refl no_zero

  text-left : flavourless (cut (drop i s)) ≡ get_or s i 0 ∷ flavourless (cut (drop (suc i) s))
  text-left = flavour_or_text s i refl no_zero ∙ rw (sym (left_in s i refl no_zero) ∙ sym e ∙ q)

-- Two texts of which one has nothing
first-empty : (xs ys : List ℕ) → is_empty xs ≡ true → is_empty ys ≡ same_text xs ys
unfolding same_text
first-empty [] [] e = refl
first-empty [] (y ∷ ys) e = refl
first-empty (x ∷ xs) ys e = absurd (subst T (sym e) tt)

second_empty : (xs ys : List ℕ) → is_empty xs ≡ false → is_empty ys ≡ true → false ≡ same_text xs ys
unfolding same_text
second_empty [] ys e f = absurd (subst T e tt)
second_empty (x ∷ xs) [] e f = refl
second_empty (x ∷ xs) (y ∷ ys) e f = absurd (subst T (sym f) tt)

-- A name and one in the strings agree before an index.
abbrev pub Alike : List ℕ → List ℕ → ℕ → Type 0
Alike a s i = same_flavourless (drop i a) (cut (drop i s)) ≡ same_flavourless a (cut s)

module _ (a s : List ℕ) (i : ℕ) (p : Alike a s i) {v : Bool} where
  pub name-past : length a ≤ i → i ≤ length a → v ≡ is_empty (flavourless (cut (drop (length a) s))) → v ≡ same_flavourless a (cut s)
  name-past h g f = let e : length a ≡ i = omega arith in (rw e at f) ∙ first-empty _ _ (sym (nothing_left a i h)) ∙ p

  module _ (f : v ≡ is_empty (flavourless (cut (drop i s)))) {u : Bool} (e : u ≡ is_empty (flavourless (drop i a))) where
    pub name-ends : u ≡ true → v ≡ same_flavourless a (cut s)
    name-ends h = f ∙ first-empty _ _ (sym e ∙ h) ∙ p

    module _ (h : u ≡ false) where
      pub other-ends : v ≡ true → false ≡ same_flavourless a (cut s)
      other-ends g = second_empty _ _ (sym e ∙ h) (sym f ∙ g) ∙ p

      module _ (g : v ≡ false) (l : i < length a) where
        both_go : same_flavourless (drop i a) (cut (drop i s)) ≡ (eqb (get_or a i 0) (get_or s i 0) && same_flavourless (drop (suc i) a) (cut (drop (suc i) s)))
        unfolding same_text
        both_go = rw (byte_left a i e h l, text-left s i f g)

        pub name_differs : (get_or a i 0 ≡ get_or s i 0 → ⊥) → false ≡ same_flavourless a (cut s)
        name_differs q = sym (both_go ∙ rw (ne_eqb (get_or a i 0) (get_or s i 0) q)) ∙ p

        pub name_goes : get_or a i 0 ≡ get_or s i 0 → Alike a s (i + 1)
        name_goes q = rw add-one (sym (both_go ∙ rw (eq-eqb (get_or a i 0) (get_or s i 0) q)) ∙ p)

-- The strings from an offset on, which may lie past their end
pub text-from : (s : List ℕ) (o : ℕ) {m : ℕ} → m ≡ min o (length s) → cut (take (length s - m) (drop m s)) ≡ text_at s o
unfolding text_at
text-from s o e = rw (e, take_rest, drop_min)

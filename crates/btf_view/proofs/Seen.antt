-- The laws of a name as a loop finds it.
-- Assumes nothing.
use Prim.Native.Nat.{ℕ, zero, suc, ◌+◌, ◌-◌, ◌≤◌, ◌<◌}
use mathlib.Core.Path.{◌≡◌, refl, sym, ap, ◌∙◌}
use mathlib.Core.List.{List, [], ◌∷◌, ◌++◌, append_assoc, append-nil}
use native.Mathlib.Omega.{arith}
use native.Mathlib.Numerals.{add-one}
use lib.ListN.{length, get_or, take, drop, length-drop, drop_of_length-le}
use lib.Seq.{take-suc, drop-cons, get_or-drop}
use Rattle.btf_view.specs.Text.{cut, text_at}

-- no zero from `from` up to e
pub record Seen (z : List ℕ) (from e : ℕ) : Type 0 where
  pub low : from ≤ e
  pub high : e ≤ length z
  pub same : text_at z from ≡ take (e - from) (drop from z) ++ cut (drop e z)

cut-zero : (x : ℕ) (xs : List ℕ) → x ≡ 0 → cut (x ∷ xs) ≡ []
unfolding cut
cut-zero x xs h = rw h

cut-more : (x : ℕ) (xs : List ℕ) → (x ≡ 0 → ⊥) → cut (x ∷ xs) ≡ x ∷ cut xs
unfolding cut
cut-more zero xs h = absurd (h refl)
cut-more (suc x) xs h = refl

pub seen_first : (z : List ℕ) (from : ℕ) → from ≤ length z → Seen z from from
unfolding text_at
seen_first z from h = let e : from - from ≡ 0 = omega arith in record { low = omega arith; high = h; same = rw e }

pub text-none : (z : List ℕ) (from : ℕ) → length z < from → [] ≡ text_at z from
unfolding text_at cut
text-none z from h = sym (ap cut (drop_of_length-le z {i = from} (omega arith)))

module _ {z : List ℕ} {from e : ℕ} (i : Seen z from e) where
  pub seen-zero : e < length z → get_or z e 0 ≡ 0 → take (e - from) (drop from z) ≡ text_at z from
  seen-zero h p = sym (i.same ∙ rw (drop-cons z e 0 h, cut-zero (get_or z e 0) (drop (suc e) z) p, append-nil))

  pub seen_next : e < length z → (get_or z e 0 ≡ 0 → ⊥) → Seen z from (e + 1)
  seen_next h p =
      let q : e + 1 - from ≡ suc (e - from) = omega (arith, i.low) in
      let r : from + (e - from) ≡ e = omega (arith, i.low) in
      let l : e - from < length (drop from z) = omega (arith, length-drop from z, i.low) in
      record {
        low = omega (arith, i.low);
        high = omega arith;
        same = i.same ∙ rw (drop-cons z e 0 h, cut-more (get_or z e 0) (drop (suc e) z) p, q, take-suc (drop from z) (e - from) 0 l, get_or-drop from z (e - from) 0, r, append_assoc, add-one);
      }

  pub seen_end : length z ≤ e → take (e - from) (drop from z) ≡ text_at z from
  unfolding cut
  seen_end h = sym (i.same ∙ rw (drop_of_length-le z h, append-nil))

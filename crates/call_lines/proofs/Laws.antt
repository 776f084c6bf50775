-- The laws of pieces written one after the other.
-- Assumes nothing.
use mathlib.Core.Path.{◌≡◌, refl, sym, ap, ◌∙◌}
use mathlib.Core.Bool.{Bool, true, false}
use mathlib.Core.List.{List, [], ◌∷◌, ◌++◌}
use Prim.Native.Nat.{ℕ, suc, ◌+◌, ◌≤◌, ◌<◌, min}
use native.Mathlib.Nat.{add-zero}
use native.Mathlib.Numerals.{add-one}
use native.Mathlib.Omega.{arith}
use lib.ListN.{length, get_or, take, set, length-append}
use lib.Seq.{sets, set_out, length-sets, take-suc}
use lib.Dec.{ltb}
use borrow.Author.Tests.{ltb-true, ltb-false}
use Rattle.call_lines.specs.Pieces.{far, Wrote}

-- Past the end nothing is written.
pub sets_out : (xs : List ℕ) (at : ℕ) (vs : List ℕ) → length xs ≤ at → sets xs at vs ≡ xs
sets_out xs at [] h = refl
sets_out xs at (v ∷ vs) h = rw (set_out xs at v h) (sets_out xs (suc at) vs (omega arith))

-- Two pieces, one after the other, are one.
pub sets_append : (xs : List ℕ) (at : ℕ) (us vs : List ℕ) → sets (sets xs at us) (at + length us) vs ≡ sets xs at (us ++ vs)
sets_append xs at [] vs = rw (add-zero at)
sets_append xs at (u ∷ us) vs =
    let e : at + suc (length us) ≡ suc at + length us = omega arith in
    rw e (sets_append (set xs at u) (suc at) us vs)

-- A place that was counted too far is as good as where the count stays.
sets_near : (xs : List ℕ) (at : ℕ) (vs : List ℕ) → length xs ≤ far → sets xs (min at far) vs ≡ sets xs at vs
sets_near xs at vs h = go (ltb at far) refl
  where
    go : (t : Bool) → ltb at far ≡ t → sets xs (min at far) vs ≡ sets xs at vs
    go true e = let m : min at far ≡ at = omega (arith, ltb-true at far e) in rw m
    go false e =
        let f : far ≤ at = ltb-false at far e in
        sets_out xs (min at far) vs (omega arith) ∙ sym (sets_out xs at vs (omega arith))

-- Nothing written
pub none : (xs : List ℕ) (at : ℕ) → Wrote xs at [] xs (min at far)
none xs at = record { bytes = refl; place = rw (add-zero at) }

module _ {xs ys us : List ℕ} {at m : ℕ} where
  pub stays : Wrote xs at us ys m → length ys ≡ length xs
  stays u = ap length u.bytes ∙ length-sets xs at us

  -- One piece and then another are the two as one.
  pub join : {zs vs : List ℕ} {n : ℕ} → length xs ≤ far → Wrote xs at us ys m → Wrote ys m vs zs n → Wrote xs at (us ++ vs) zs n
  join {zs} {vs} {n} h u v = record { bytes = stored; place = v.place ∙ counted }
    where
      stored : zs ≡ sets xs at (us ++ vs)
      stored =
          v.bytes ∙ ap (λ (k : ℕ). sets ys k vs) u.place ∙ sets_near ys (at + length us) vs (omega (arith, stays u))
          ∙ ap (λ (l : List ℕ). sets l (at + length us) vs) u.bytes ∙ sets_append xs at us vs

      counted : min (m + length vs) far ≡ min (at + length (us ++ vs)) far
      counted = rw (u.place, length-append us vs) (omega arith)

  -- The same piece by another name
  pub called : {vs : List ℕ} → us ≡ vs → Wrote xs at us ys m → Wrote xs at vs ys m
  called e u = rw e at u

-- One byte more of a piece
module _ {xs ys : List ℕ} {at m : ℕ} (piece : List ℕ) (i : ℕ) where
  pub more : {zs : List ℕ} {n : ℕ} → length xs ≤ far → i < length piece → Wrote xs at (take i piece) ys m → Wrote ys m (get_or piece i 0 ∷ []) zs n → Wrote xs at (take (i + 1) piece) zs n
  more h k u v = rw (add-one i, take-suc piece i 0 k) (join h u v)

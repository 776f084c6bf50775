-- What two fields' types come to: one law for each way through the tests, and through the loop over elements.
-- Assumes nothing.
use Prim.Native.Nat.{ℕ, ◌+◌, ◌-◌, ◌≤◌, ◌<◌}
use mathlib.Core.Path.{◌≡◌, refl, sym, subst, ◌∙◌}
use mathlib.Core.Bool.{Bool, true, false, cond, ◌&&◌, ◌||◌, not}
use mathlib.Core.List.{List}
use native.Mathlib.Omega.{arith}
use lib.Dec.{T, eqb}
use borrow.Author.Tests.{eq-eqb, ne_eqb, eqb-true, eqb-false}
use Rattle.btf_kinds.specs.Types.{Ty}
use Rattle.btf_view.specs.View.{View}
use Rattle.rules.specs.Kinds.{is_composite, is_enum, alike}
use Rattle.btf_kinds.specs.Names.{INT, PTR, ARRAY, FWD, FLOAT}
use Rattle.rules.specs.Types.{resolve, meet_fields, fields_within, Compat}
use Rattle.rules.proofs.Turns.{fields_turn}
use Rattle.types_field_compat.specs.Names.{no_further}
use Rattle.rules.specs.Refusal.{Reply}
use Rattle.std.specs.Prelude.{Err, Ok}
use Rattle.rules.specs.declared.Refusal.{Refusal}
use Rattle.rules.specs.declared.Refusal.TheVariants.{Unresolved}

-- Only two arrays lead further.
module _ (down : ℕ → ℕ → Compat) (ltext ttext : ℕ → List ℕ) (l t : Ty) where
  arrays : (x y : Bool) → eqb l.kind ARRAY ≡ x → eqb t.kind ARRAY ≡ y → (x && y) ≡ true → meet_fields down ltext ttext l t ≡ down l.ref t.ref
  unfolding meet_fields
  arrays true true e f h = rw (eqb-true l.kind ARRAY e, eqb-true t.kind ARRAY f)
  arrays true false e f h = absurd (subst T (sym h) tt)
  arrays false y e f h = absurd (subst T (sym h) tt)

  others : (x y : Bool) → eqb l.kind ARRAY ≡ x → eqb t.kind ARRAY ≡ y → (x && y) ≡ false → meet_fields down ltext ttext l t ≡ meet_fields no_further ltext ttext l t
  unfolding meet_fields
  others true true e f h = absurd (subst T h tt)
  others true false e f h = rw (eqb-true l.kind ARRAY e, ne_eqb 3 t.kind (λ p. eqb-false t.kind ARRAY f (sym p)))
  others false y e f h = rw e

-- One turn of `most`, of which `turn` were taken
module _ (L T : View) (most turn u v : ℕ) (h : turn < most) {x : Reply ℕ} (e : x ≡ resolve L.typ u) where
  pub field-endless : {r : Refusal} → x ≡ Err r → Err r ≡ fields_within L T (most - turn) u v
  field-endless p = sym (fields_turn L T (most - turn) u v (omega arith) ∙ rw (← e, p))

  module _ {i : ℕ} {y : Reply ℕ} (p : x ≡ Ok i) (f : y ≡ resolve T.typ v) where
    pub field-endless_2 : {r : Refusal} → y ≡ Err r → Err r ≡ fields_within L T (most - turn) u v
    field-endless_2 q = sym (fields_turn L T (most - turn) u v (omega arith) ∙ rw (← e, p, ← f, q))

    module _ {j : ℕ} {b : Bool} (q : y ≡ Ok j) (g : b ≡ (eqb (L.typ i).kind ARRAY && eqb (T.typ j).kind ARRAY)) where
      pub field_meets : {c : Compat} → b ≡ false → c ≡ meet_fields no_further L.text T.text (L.typ i) (T.typ j) → c ≡ fields_within L T (most - turn) u v
      field_meets r s =
          s ∙ sym (fields_turn L T (most - turn) u v (omega arith) ∙ rw (← e, p, ← f, q) (others _ _ _ (L.typ i) (T.typ j) _ _ refl refl (sym g ∙ r)))

      pub field_goes : {s t : ℕ} → b ≡ true → s ≡ (L.typ i).ref → t ≡ (T.typ j).ref
          → fields_within L T (most - (turn + 1)) s t ≡ fields_within L T (most - turn) u v
      field_goes r m n =
          let z : most - (turn + 1) ≡ most - turn - 1 = omega arith in
          rw (m, n, z) (sym (fields_turn L T (most - turn) u v (omega arith) ∙ rw (← e, p, ← f, q) (arrays _ _ _ (L.typ i) (T.typ j) _ _ refl refl (sym g ∙ r))))

pub field-long : (L T : View) (most turn u v : ℕ) → most ≤ turn → Err Unresolved ≡ fields_within L T (most - turn) u v
unfolding fields_within
field-long L T most turn u v h = let z : most - turn ≡ 0 = omega arith in rw z

-- One law for each way through the loops over a chain.
-- Assumes nothing.
use Prim.Native.Nat.{ℕ, ◌+◌, ◌-◌, ◌≤◌, ◌<◌}
use mathlib.Core.Path.{◌≡◌, refl, sym, subst, ◌∙◌}
use mathlib.Core.Bool.{Bool, true, false, cond, ◌||◌}
use native.Mathlib.Omega.{arith}
use lib.Dec.{T, eqb}
use borrow.Author.Tests.{eq-eqb, ne_eqb}
use Rattle.btf_kinds.specs.Types.{Ty}
use Rattle.btf_kinds.specs.Kinds.{has_size}
use Rattle.rules.specs.Kinds.{is_modifier, sized_by_ref}
use Rattle.btf_kinds.specs.Names.{ARRAY}
use Rattle.rules.specs.declared.Why.TheVariants.{ChainTooLong, KindWithoutSize}
use Rattle.rules.specs.Types.{chain, product, elements}
use Rattle.rules.proofs.Turns.{chain-turn, elements-turn}
use Rattle.std.specs.Prelude.{Err, Ok}
use Rattle.rules.specs.declared.Refusal.TheVariants.{Unresolved}

-- A chain of `most` types, of which `turn` were looked at, from a type of kind k on; b is what the test of a modifier said.
module _ (typ : ℕ → Ty) (most turn i : ℕ) {k : ℕ} {b : Bool} (e : k ≡ (typ i).kind) (h : turn < most) (m : b ≡ is_modifier k) where
  pub chain-ends : b ≡ false → chain typ (most - turn) i ≡ Ok i
  chain-ends p = chain-turn typ (most - turn) i (omega arith) ∙ rw (← e, ← m, p)

  pub chain_goes : b ≡ true → chain typ (most - turn) i ≡ chain typ (most - (turn + 1)) (typ i).ref
  chain_goes p =
      let g : most - (turn + 1) ≡ most - turn - 1 = omega arith in
      chain-turn typ (most - turn) i (omega arith) ∙ rw (← e, ← m, p, g)

pub chain-long : (typ : ℕ → Ty) (most turn i : ℕ) → most ≤ turn → chain typ (most - turn) i ≡ Err Unresolved
unfolding chain
chain-long typ most turn i h = let e : most - turn ≡ 0 = omega arith in rw e

-- The size of c elements, likewise
module _ (typ : ℕ → Ty) (most turn c i : ℕ) {k : ℕ} (e : k ≡ (typ i).kind) (h : turn < most) where
  pub size_pointer : k ≡ 2 → elements typ (most - turn) c i ≡ product i c 8
  size_pointer p = elements-turn typ (most - turn) c i (omega arith) ∙ rw (← e, eq-eqb k 2 p)

  module _ {b : Bool} (p : k ≡ 2 → ⊥) (m : b ≡ has_size k) where
    pub size-own : {s : ℕ} → b ≡ true → s ≡ (typ i).size → elements typ (most - turn) c i ≡ product i c s
    size-own q z = elements-turn typ (most - turn) c i (omega arith) ∙ rw (← e, ne_eqb k 2 p, ← m, q, z)

    module _ {d : Bool} (q : b ≡ false) (o : d ≡ (eqb k ARRAY || sized_by_ref k)) where
      pub size_none : d ≡ false → elements typ (most - turn) c i ≡ Err (record { why = KindWithoutSize; id = i })
      size_none r = elements-turn typ (most - turn) c i (omega arith) ∙ rw (← e, ne_eqb k 2 p, ← m, q) (go (eqb k ARRAY) (sized_by_ref k) (sym o ∙ r))
        where
          go : (a b : Bool) → (a || b) ≡ false
              → cond a (elements typ (most - turn - 1) (typ i).extra (typ i).ref) (cond b (elements typ (most - turn - 1) c (typ i).ref) (Err (record { why = KindWithoutSize; id = i })))
              ≡ Err (record { why = KindWithoutSize; id = i })
          go true b t = absurd (subst T t tt)
          go false true t = absurd (subst T t tt)
          go false false t = refl

      pub size_goes : d ≡ true → elements typ (most - turn) c i ≡ elements typ (most - (turn + 1)) (cond (eqb k ARRAY) (typ i).extra c) (typ i).ref
      size_goes r = let g : most - (turn + 1) ≡ most - turn - 1 = omega arith in elements-turn typ (most - turn) c i (omega arith) ∙ rw (← e, ne_eqb k 2 p, ← m, q, g) (go (eqb k ARRAY) (sized_by_ref k) (sym o ∙ r))
        where
          go : (a b : Bool) → (a || b) ≡ true
              → cond a (elements typ (most - turn - 1) (typ i).extra (typ i).ref) (cond b (elements typ (most - turn - 1) c (typ i).ref) (Err (record { why = KindWithoutSize; id = i })))
              ≡ elements typ (most - turn - 1) (cond a (typ i).extra c) (typ i).ref
          go true b t = refl
          go false true t = refl
          go false false t = absurd (subst T (sym t) tt)

pub size-long : (typ : ℕ → Ty) (most turn c i : ℕ) → most ≤ turn → elements typ (most - turn) c i ≡ Err (record { why = ChainTooLong; id = i })
unfolding elements
size-long typ most turn c i h = let e : most - turn ≡ 0 = omega arith in rw e

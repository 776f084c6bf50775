-- The laws of one type: its words, and what a step past it tells.
-- Assumes nothing.
use Prim.Native.Nat.{ℕ, ◌+◌, ◌≤◌}
use mathlib.Core.Path.{◌≡◌, refl, sym, ◌∙◌}
use mathlib.Core.Bool.{Bool, true, false, cond, ◌&&◌, ◌||◌}
use mathlib.Core.List.{List}
use native.Mathlib.Omega.{arith}
use lib.ListN.{length}
use lib.Dec.{leb, eqb}
use borrow.Author.Tests.{leb-true, eq-eqb, ne_eqb}
use Rattle.word_read.specs.Num.{word}
use Rattle.btf_kinds.specs.Kinds.{is_kind, encodes, has_type, extra_bytes}
use Rattle.btf_kinds.specs.Types.{kind_at, extra_at, type_at, type_bytes, after}
use Rattle.btf_pass.specs.declared.Passing.TheVariants.{Next, Off}
use Rattle.btf_pass.specs.Good.{encoding_fine, good}
use Rattle.btf_pass.specs.Reach.{reach, reach_of}
use Rattle.btf_pass.specs.Shape.{step_at}
use Rattle.btf_pass.proofs.Tests.{and_l, and_r}

-- a type takes twelve bytes at least
pub least : (t : List ℕ) (at : ℕ) → 12 ≤ type_bytes t at
unfolding type_bytes
least t at = omega arith

-- the words that a kind keeps behind its twelve bytes are fields of the type
module _ (t : List ℕ) (at : ℕ) {k : ℕ} (e : k ≡ (type_at t at).kind) where
  kind-there : kind_at t at ≡ k
  unfolding type_at
  kind-there = sym e

  module _ (h : k ≡ 1) where
    pub int_word : {x : ℕ} → x ≡ word t (at + 12) → x ≡ (type_at t at).extra
    unfolding type_at extra_at extra_bytes
    int_word p = p ∙ rw (kind-there, h)

  module _ (h : k ≡ 3) where
    pub array-element : {x : ℕ} → x ≡ word t (at + 12) → x ≡ (type_at t at).ref
    unfolding type_at extra_at extra_bytes has_type
    array-element p = p ∙ rw (kind-there, h)

    pub array-index : {x : ℕ} → x ≡ word t (at + 16) → x ≡ (type_at t at).index
    unfolding type_at extra_at extra_bytes
    array-index p = p ∙ rw (kind-there, h)

  pub no_index : (k ≡ 3 → ⊥) → 0 ≡ (type_at t at).index
  unfolding type_at extra_at extra_bytes
  no_index h = rw (kind-there, ne_eqb k 3 h) (go (eqb k 1 || eqb k 14 || eqb k 17))
    where
      go : (b : Bool) → 0 ≡ cond (leb 8 (cond b 4 0)) (word t (at + 16)) 0
      go true = refl
      go false = refl

-- one type
module _ (t : List ℕ) (at : ℕ) where
  -- what a step tells
  pub told-next : {x f g : ℕ} → Next x f g ≡ step_at t at → (good t at ≡ true) × (x ≡ after t at) × (reach f g ≡ reach_of (type_at t at))
  unfolding step_at
  told-next {x} {f} {g} = go (good t at)
    where
      go : (b : Bool) → Next x f g ≡ cond b (Next (after t at) (reach_of (type_at t at)).far (reach_of (type_at t at)).top) Off
          → (b ≡ true) × (x ≡ after t at) × (reach f g ≡ reach_of (type_at t at))
      go true h =
          let p : f ≡ (reach_of (type_at t at)).far = cc in
          let q : g ≡ (reach_of (type_at t at)).top = cc in
          (refl, cc, rw (p, q))
      go false h = let y : ◌≡◌ {A = ℕ} 0 1 = cc in absurd (omega arith)

  pub told_fault : Off ≡ step_at t at → good t at ≡ false
  unfolding step_at
  told_fault = go (good t at)
    where
      go : (b : Bool) → Off ≡ cond b (Next (after t at) (reach_of (type_at t at)).far (reach_of (type_at t at)).top) Off → b ≡ false
      go true h = cc
      go false h = refl

  -- a good type lies in the section
  pub good-fits : good t at ≡ true → after t at ≤ length t
  unfolding good
  good-fits h =
      leb-true (after t at) (length t)
      (and_l (leb (after t at) (length t)) (encoding_fine (type_at t at))
      (and_r (is_kind (kind_at t at)) (leb (after t at) (length t) && encoding_fine (type_at t at))
      (and_r (leb (at + 12) (length t)) (is_kind (kind_at t at) && (leb (after t at) (length t) && encoding_fine (type_at t at))) h)))

  pub int_is : {k x : ℕ} {b : Bool} → k ≡ (type_at t at).kind → k ≡ 1 → x ≡ (type_at t at).extra → b ≡ encodes x → b ≡ encoding_fine (type_at t at)
  unfolding encoding_fine
  int_is {k} e h p q = q ∙ rw (p, ← e, eq-eqb k 1 h)

  pub int_not : {k : ℕ} → k ≡ (type_at t at).kind → (k ≡ 1 → ⊥) → true ≡ encoding_fine (type_at t at)
  unfolding encoding_fine
  int_not {k} e h = rw (← e, ne_eqb k 1 h)

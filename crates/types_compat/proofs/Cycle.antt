-- A step of a check as the code meets it: with none allowed, and with `left` steps, after which `left - 1` are.
-- Assumes nothing.
use Prim.Native.Nat.{ℕ, zero, suc, ◌-◌}
use mathlib.Core.Path.{◌≡◌, refl, ap, ◌∙◌}
use mathlib.Core.Bool.{cond}
use native.Mathlib.Omega.{arith}
use lib.Dec.{eqb}
use Rattle.btf_kinds.specs.Types.{Ty}
use Rattle.rules.specs.Limits.{max_resolve_depth}
use Rattle.rules.specs.Types.{resolve, both, meet, types_within}
use Rattle.rules.specs.declared.Refusal.TheVariants.{TooDeep, Unresolved}
use Rattle.types_compat.specs.Steps.{step_within}
use Rattle.std.specs.Prelude.{Err}

pub step_beyond : (L T : ℕ → Ty) (left own a b : ℕ) → left ≡ 0 → step_within L T left own a b ≡ Err TooDeep
unfolding step_within
step_beyond L T left own a b h = rw h

turn : (L T : ℕ → Ty) (left own a b : ℕ) → step_within L T (suc left) own a b
    ≡ cond (eqb own 0) (Err Unresolved) (both (meet (step_within L T left (own - 1)) (step_within L T left max_resolve_depth)) L T (resolve L a) (resolve T b))
unfolding step_within types_within
turn L T zero own a b = refl
turn L T (suc left) own a b = refl

pub step_turn : (L T : ℕ → Ty) (left own a b : ℕ) → (left ≡ 0 → ⊥) → step_within L T left own a b
    ≡ cond (eqb own 0) (Err Unresolved) (both (meet (step_within L T (left - 1) (own - 1)) (step_within L T (left - 1) max_resolve_depth)) L T (resolve L a) (resolve T b))
step_turn L T left own a b h =
    let whole : left ≡ suc (left - 1) = omega arith in
    ap (λ (n : ℕ). step_within L T n own a b) whole ∙ turn L T (left - 1) own a b

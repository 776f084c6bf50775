-- A kind that no row of the table names has nothing behind its twelve bytes.
-- Assumes nothing.
use mathlib.Core.Path.{◌≡◌}
use mathlib.Core.Logic.{inl, inr}
use mathlib.Core.List.{[], ◌∷◌}
use Prim.Native.Nat.{ℕ}
use borrow.Author.Tests.{ne_eqb}
use types.Run.{OneOf}
use Rattle.btf_kinds.specs.declared.Tail.{Tail}
use Rattle.btf_kinds.specs.Kinds.{tail_of, extra_bytes, entry_bytes}

pub others : (k : ℕ) → (OneOf (1 ∷ 14 ∷ 17 ∷ []) k → ⊥) → (k ≡ 3 → ⊥) → (OneOf (15 ∷ 19 ∷ []) k → ⊥) → (OneOf (6 ∷ 13 ∷ []) k → ⊥) → (k ≡ 4 → ⊥) → (k ≡ 5 → ⊥)
    → ◌≡◌ {A = Tail} (record { once = 0; each = 0 }) (tail_of k)
unfolding extra_bytes entry_bytes
others k a b c d e f =
    rw (
      ne_eqb k 1 (λ p. a (inl p)),
      ne_eqb k 14 (λ p. a (inr (inl p))),
      ne_eqb k 17 (λ p. a (inr (inr p))),
      ne_eqb k 3 b,
      ne_eqb k 4 e,
      ne_eqb k 5 f,
      ne_eqb k 15 (λ p. c (inl p)),
      ne_eqb k 19 (λ p. c (inr p)),
      ne_eqb k 6 (λ p. d (inl p)),
      ne_eqb k 13 (λ p. d (inr p)),
    )

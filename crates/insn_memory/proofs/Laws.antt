-- The ways of a load or store, over plain bytes: what each branch of the code has written is what the rules say.
-- Assumes nothing.
use mathlib.Core.Path.{◌≡◌}
use mathlib.Core.List.{List}
use Prim.Native.Nat.{ℕ, ◌≤◌, ◌<◌}
use native.Mathlib.Omega.{arith}
use mir.Syntax.{w16}
use mir.Val.{of_z, to_z}
use mir.ValLaws.{of_z-to_z}
use borrow.Author.Tests.{ne_eqb, lt-ltb, le-ltb}
use Rattle.word_read.specs.Num.{little}
use Rattle.word_read.specs.Put.{put_at}
use Rattle.rules.specs.declared.Refusal.TheVariants.{BadInstruction}
use Rattle.rules.specs.declared.Resize.{Resize}
use Rattle.rules.specs.Apply.{stopped, with_off, patch_memory, size_bits, resize}
use Rattle.std.specs.Prelude.{None}

-- Any other size has no bits.
pub no_bits : (s : ℕ) → (s ≡ 1 → ⊥) → (s ≡ 2 → ⊥) → (s ≡ 4 → ⊥) → (s ≡ 8 → ⊥) → size_bits s ≡ None
unfolding size_bits
no_bits s a b c d = rw (ne_eqb s 1 a, ne_eqb s 2 b, ne_eqb s 4 c, ne_eqb s 8 d)

-- A load or store
module _ (xs : List ℕ) (n : ℕ) (z : Resize) where
  pub too_far : 32767 < n → stopped (BadInstruction 2) xs ≡ patch_memory xs n z
  unfolding patch_memory
  too_far h = rw (lt-ltb 32767 n h)

  -- n goes as a signed number, read back from its bits
  pub near : n ≤ 32767 → {ys : List ℕ} → ys ≡ put_at little 2 xs 2 (of_z w16 (to_z w16 n)) → resize ys z ≡ patch_memory xs n z
  unfolding patch_memory with_off
  near h p = rw (le-ltb 32767 n h, p, of_z-to_z w16 n (record { fits = omega arith }))

-- The laws of hexadecimal.
-- Assumes nothing.
use mathlib.Core.Path.{◌≡◌, refl}
use mathlib.Core.List.{List, [], ◌∷◌, ◌++◌}
use Prim.Native.Nat.{ℕ, ◌+◌, ◌≤◌, ◌<◌}
use native.Mathlib.Numerals.{add-one}
use lib.ListN.{length, get_or, take}
use lib.Seq.{take-suc}
use Rattle.call_lines.specs.Pieces.{far, Wrote}
use Rattle.call_lines.proofs.Laws.{join}
use Rattle.call_block.specs.Block.{hex}

pub hex-append : (xs ys : List ℕ) → hex (xs ++ ys) ≡ hex xs ++ hex ys
unfolding hex
hex-append [] ys = refl
hex-append (x ∷ xs) ys = rw (hex-append xs ys)

-- One byte more
module _ {xs ys : List ℕ} {at m : ℕ} (bytes : List ℕ) (i : ℕ) where
  pub more-hex : {zs : List ℕ} {n : ℕ} → length xs ≤ far → i < length bytes → Wrote xs at (hex (take i bytes)) ys m → Wrote ys m (hex (get_or bytes i 0 ∷ [])) zs n
      → Wrote xs at (hex (take (i + 1) bytes)) zs n
  more-hex h k u v = rw (add-one i, take-suc bytes i 0 k, hex-append (take i bytes) (get_or bytes i 0 ∷ [])) (join h u v)

-- The encoding bits of an INT, counted and masked.
-- Assumes nothing.
use mathlib.Core.Path.{◌≡◌, refl}
use mathlib.Core.Bool.{Bool, true, false}
use Prim.Native.Nat.{ℕ, ◌+◌, ◌*◌, ◌^◌, ◌≤◌, ◌<◌}
use native.Mathlib.Omega.{arith}
use borrow.Author.Tests.{le-leb, lt-leb, eqb-true, eqb-false, eq-eqb, ne_eqb}
use lib.Dec.{eqb}
use lib.Bits.{bit_and, and_high}
use Rattle.word_read.specs.Bits.{bit}
use Rattle.btf_kinds.specs.Kinds.{encodes}

-- a test of bit 27 by a mask
pub high : (x : ℕ) → eqb (bit_and x 0x0800_0000) 0 ≡ eqb (bit 27 x) 0
high x = rw (and_high x 1 27) (go (eqb (bit 27 x) 0) refl)
  where
    go : (t : Bool) → eqb (bit 27 x) 0 ≡ t → eqb (bit 27 x * 2 ^ 27) 0 ≡ t
    go true e = eq-eqb (bit 27 x * 2 ^ 27) 0 (omega (arith, eqb-true (bit 27 x) 0 e))
    go false e = ne_eqb (bit 27 x * 2 ^ 27) 0 (λ (p : bit 27 x * 2 ^ 27 ≡ 0). eqb-false (bit 27 x) 0 e (omega arith))

-- the two ways
pub few : (x n : ℕ) → n ≡ bit 24 x + bit 25 x + bit 26 x → n ≤ 1 → eqb (bit 27 x) 0 ≡ encodes x
unfolding encodes
few x n e h = rw (← e, le-leb n 1 h)

pub many : (x n : ℕ) → n ≡ bit 24 x + bit 25 x + bit 26 x → 1 < n → false ≡ encodes x
unfolding encodes
many x n e h = rw (← e, lt-leb n 1 h)

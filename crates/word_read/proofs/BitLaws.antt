-- The laws of bits counted and masked.
-- Assumes nothing.
use mathlib.Core.Path.{◌≡◌, sym, ap, ◌∙◌}
use Prim.Native.Nat.{ℕ, ◌+◌, ◌-◌, ◌*◌, ◌/◌, ◌%◌, ◌^◌}
use native.Mathlib.Nat.{add-zero}
use native.Mathlib.Omega.{arith}
use lib.Pow.{shr-shr, pow_pos}
use lib.Bits.{and_high}
use lib.Count.{ones, ones_step, ones_cat}
use Rattle.word_read.specs.Bits.{bit, ones_masked}

-- one digit of three, and the next
low : (q : ℕ) → q % 8 % 2 ≡ q % 2
low q = omega arith

middle : (q : ℕ) → q % 8 / 2 % 2 ≡ q / 2 % 2
middle q = omega arith

top : (q : ℕ) → q % 8 / 2 / 2 % 2 ≡ q / 4 % 2
top q = omega arith

gone : (q : ℕ) → q % 8 / 2 / 2 / 2 ≡ 0
gone q = omega arith

three : (q : ℕ) → ones (q % 8) ≡ q % 2 + q / 2 % 2 + q / 4 % 2
unfolding ones
three q =
    rw (ones_step (q % 8), ones_step (q % 8 / 2), ones_step (q % 8 / 2 / 2), gone q, low q, middle q, top q) (omega arith)

-- the ones of three bits from bit k on
pub three-at : (k x : ℕ) → ones (x / 2 ^ k % 8) ≡ bit k x + bit (k + 1) x + bit (k + 2) x
three-at k x = rw (three (x / 2 ^ k), shr-shr x k 1, shr-shr x k 2)

-- the same of the word under a mask of these three bits
pub three_masked : (k x : ℕ) → ones_masked x (2 ^ (3 + k) - 2 ^ k) ≡ bit k x + bit (k + 1) x + bit (k + 2) x
unfolding ones ones_masked
three_masked k x =
    ap ones (and_high x 3 k ∙ sym (add-zero (x / 2 ^ k % 8 * 2 ^ k))) ∙ ones_cat k (x / 2 ^ k % 8) 0 (pow_pos k) ∙ add-zero _ ∙ three-at k x

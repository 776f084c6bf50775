-- The ones among the masked bits of a number.
-- Assumes nothing.
use Rattle.std.specs.Prelude.{ℕ, ◌/◌, ◌%◌, ◌^◌}
use Rattle.std.specs.Int.Bits.{bit_and}
use Rattle.std.specs.Int.Count.{ones}

-- bit k of x
abbrev pub bit : ℕ → ℕ → ℕ
bit k x = x / 2 ^ k % 2

unfoldable pub ones_masked : ℕ → ℕ → ℕ
ones_masked x mask = ones (bit_and x mask)

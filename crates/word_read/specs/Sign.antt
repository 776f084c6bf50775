-- Signed numbers as bits: `of_z w v` is the pattern of v at a width, `to_z w x` the pattern x read as signed (both the kit's, mir.Val).
-- Assumes nothing.
use Rattle.std.specs.Prelude.{ℕ, ◌+◌, ◌-◌, ◌^◌, cond, ltb}

-- a pattern of 32 bits with its sign extended to 64, as a rule on plain numbers
unfoldable pub extended : ℕ → ℕ
extended x = cond (ltb x (2 ^ 31)) x (x + (2 ^ 64 - 2 ^ 32))

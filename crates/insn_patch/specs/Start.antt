-- Where the part that is patched begins.
-- Assumes nothing.
use Rattle.std.specs.Prelude.{ℕ, ◌*◌, cond, ltb}

-- Where instruction i begins in so many bytes, or their end
unfoldable pub start_of : ℕ → ℕ → ℕ
start_of n i = cond (ltb (8 * i) n) (8 * i) n

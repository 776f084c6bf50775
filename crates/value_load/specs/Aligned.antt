-- What `aligned` promises beside its value.
use Rattle.std.specs.Prelude.{ℕ, ◌+◌, ◌*◌, ◌≤◌, ◌<◌, ◌≡◌}
use Rattle.rules.specs.Value.{aligned}

-- The bytes from `at` on hold the bit.
pub record Aligned (bits size at : ℕ) : Type 0 where
  pub is : at ≡ aligned bits size
  pub from : 8 * at ≤ bits
  pub to : bits < 8 * at + 8 * size

-- `value_load::aligned_to` meets its contract.
use native.Mathlib.Omega.{arith}
use borrow.Author.Rules.{rules}
use Rattle.value_load.proofs.Loads.{aligned-low, aligned-holds}
use Rattle.value_load.proofs.aligned_to.Goals as goal

pub overflow_mul-result : goal.overflow_mul-result
overflow_mul-result c = record { fits = omega (arith, aligned-low c.args.bits c.args.size) }

pub returns : goal.returns
returns c = aligned-holds _ _ (search rules)

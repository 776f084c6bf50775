-- `types_compat::types_within` meets its contract where no step is allowed.
use Rattle.std.proofs.Common.{arith}
use Rattle.std.proofs.lemmas.Grind.{common_steps}
use Rattle.types_compat.proofs.Cycle.{step_beyond}
use Rattle.types_compat.proofs.+params_within_types_within.Goals as goal

pub types_within-returns-in_err-left : goal.types_within-returns-in_err-left
types_within-returns-in_err-left t c = grind (arith, common_steps, step_beyond)

-- `btf_pass::past_variables` meets its contract.
use native.Mathlib.Omega.{arith}
use Rattle.btf_pass.specs.Shape.{past_variables}
use Rattle.btf_pass.proofs.StepLaws.{up_off, past_variables_lem}
use Rattle.btf_pass.proofs.past_variables.Goals as goal

pub returns-then-types-from : goal.returns-then-types-from
unfolding past_variables
returns-then-types-from c = up_off _ _ _ _ (omega arith)

pub returns : goal.returns
returns c = past_variables_lem _ _ _ _ (omega arith) c.highest.ensures

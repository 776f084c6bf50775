-- `btf_pass::past_array` meets its contract.
use native.Mathlib.Omega.{arith}
use Rattle.btf_pass.specs.Shape.{past_array}
use Rattle.btf_pass.proofs.StepLaws.{up_off, past_array_lem}
use Rattle.btf_pass.proofs.past_array.Goals as goal

pub returns-then-types-from-lt12 : goal.returns-then-types-from-lt12
unfolding past_array
returns-then-types-from-lt12 c = up_off _ _ _ _ (omega arith)

pub returns : goal.returns
returns c = past_array_lem _ _ _ (omega arith) c.u32_in.ensures c.u32_in-2.ensures c.larger_of.ensures

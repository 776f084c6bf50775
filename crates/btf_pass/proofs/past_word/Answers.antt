-- `btf_pass::past_word` meets its contract.
use native.Mathlib.Omega.{arith}
use Rattle.btf_pass.proofs.StepLaws.{up_to_lem, up_off}
use Rattle.btf_pass.proofs.past_word.Goals as goal

pub returns-then-types-from-lt4 : goal.returns-then-types-from-lt4
returns-then-types-from-lt4 c = up_off _ _ _ _ (omega arith)

pub returns : goal.returns
returns c = up_to_lem _ _ _ _ (omega arith)

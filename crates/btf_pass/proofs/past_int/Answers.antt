-- `btf_pass::past_int` meets its contract.
use native.Mathlib.Omega.{arith}
use Rattle.btf_pass.proofs.StepLaws.{int-off, past_int_lem, int-bad}
use Rattle.btf_pass.proofs.past_int.Goals as goal

pub returns-then-types-from-lt4 : goal.returns-then-types-from-lt4
returns-then-types-from-lt4 c = int-off _ _ _ (omega arith)

pub returns-then-encoding_fine : goal.returns-then-encoding_fine
returns-then-encoding_fine c = past_int_lem _ _ _ (omega arith) c.u32_in.ensures c.encoding_fine.ensures c.if-encoding_fine.true

pub returns-else-encoding_fine : goal.returns-else-encoding_fine
returns-else-encoding_fine c = int-bad _ _ _ (omega arith) c.u32_in.ensures c.encoding_fine.ensures c.if-encoding_fine.false

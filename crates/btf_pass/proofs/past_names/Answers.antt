-- `btf_pass::past_names` meets its contract.
use native.Mathlib.Omega.{arith}
use Rattle.btf_pass.specs.Shape.{past_names}
use Rattle.btf_pass.proofs.StepLaws.{listed_small, up_off, past_names_lem}
use Rattle.btf_pass.proofs.past_names.Goals as goal

pub overflow_mul-size : goal.overflow_mul-size
overflow_mul-size c = omega (arith, listed_small c.args.types.now c.args.from _ _ c.requires)

pub overflow_cast-size : goal.overflow_cast-size
overflow_cast-size c = omega (arith, listed_small c.args.types.now c.args.from _ _ c.requires)

pub returns-then-types-from : goal.returns-then-types-from
unfolding past_names
returns-then-types-from c = up_off _ _ _ _ (omega arith)

pub returns : goal.returns
returns c = past_names_lem _ _ _ _ _ (omega arith) c.highest.ensures c.larger_of.ensures

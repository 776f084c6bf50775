-- `btf_pass::larger_of` meets its contract.
use Rattle.btf_pass.proofs.ReachLaws.{larger-right, larger-left}
use Rattle.btf_pass.proofs.larger_of.Goals as goal

pub returns-then-a-b : goal.returns-then-a-b
returns-then-a-b c = larger-right _ _ c.if-a-b.true

pub returns-else-a-b : goal.returns-else-a-b
returns-else-a-b c = larger-left _ _ c.if-a-b.false

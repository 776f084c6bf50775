-- `btf_pass::lesser_of` meets its contract.
use Rattle.btf_pass.proofs.PairLaws.{lesser-left, lesser-right}
use Rattle.btf_pass.proofs.lesser_of.Goals as goal

pub returns-then-a-b : goal.returns-then-a-b
returns-then-a-b c = lesser-left _ _ c.if-a-b.true

pub returns-else-a-b : goal.returns-else-a-b
returns-else-a-b c = lesser-right _ _ c.if-a-b.false

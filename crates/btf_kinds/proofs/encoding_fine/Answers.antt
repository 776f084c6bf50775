-- `btf_kinds::encoding_fine` meets its contract.
use mathlib.Core.Path.{◌∙◌}
use Rattle.word_read.proofs.BitLaws.{three_masked}
use Rattle.btf_kinds.proofs.Bits.{high, few, many}
use Rattle.btf_kinds.proofs.encoding_fine.Goals as goal

pub returns-then-at_most_one : goal.returns-then-at_most_one
returns-then-at_most_one c = let x = c.args.x in high x ∙ few x _ (c.ones_masked-at_most_one.ensures ∙ three_masked 24 x) c.if-at_most_one.true

pub returns-else-at_most_one : goal.returns-else-at_most_one
returns-else-at_most_one c = let x = c.args.x in many x _ (c.ones_masked-at_most_one.ensures ∙ three_masked 24 x) c.if-at_most_one.false

-- `btf_kinds::tail_of` meets its contract.
use mathlib.Core.Path.{refl, ◌∙◌}
use Rattle.btf_kinds.proofs.RowLaws.{columns-row}
use Rattle.btf_kinds.proofs.tail_of.Goals as goal

pub returns : goal.returns
returns c = c.tail_in.ensures ∙ columns-row _ _ _ (refl, refl)

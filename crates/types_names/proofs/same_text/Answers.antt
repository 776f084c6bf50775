-- `types_names::same_text` meets its contract.
use mathlib.Core.Path.{◌∙◌}
use Rattle.types_names.proofs.Names.{text_pointwise}
use Rattle.types_names.proofs.same_text.Goals as goal

pub returns : goal.returns
returns c = c.eq.ensures ∙ text_pointwise c.args.a.now c.args.b.now

-- `match_scan::type_name` meets its contract.
use mathlib.Core.Path.{◌∙◌}
use Rattle.match_scan.proofs.type_name.Goals as goal

pub returns : goal.returns
returns c = c.text_of.ensures ∙ rw c.name_of.ensures

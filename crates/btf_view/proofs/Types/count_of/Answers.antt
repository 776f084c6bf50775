-- `btf_view::count_of` meets its contract.
use mathlib.Core.Path.{◌∙◌}
use Rattle.btf_view.proofs.PlaceLaws.{entries-long}
use Rattle.btf_view.proofs.Types.count_of.Goals as goal

pub returns : goal.returns
returns c = c.count_at.ensures ∙ entries-long _ _ _ _ _ c.place_of.ensures.0

-- `btf_view::name_of` meets its contract.
use mathlib.Core.Path.{◌∙◌, ap}
use Rattle.btf_kinds.specs.Types.{Ty}
use Rattle.btf_view.proofs.PlaceLaws.{at_place}
use Rattle.btf_view.proofs.Types.name_of.Goals as goal

pub returns : goal.returns
returns c = c.name_at.ensures ∙ ap (λ (ty : Ty). ty.name) (at_place _ _ _ _ c.place_of.ensures.0)

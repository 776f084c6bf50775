-- `btf_view::flag_of` meets its contract.
use mathlib.Core.Path.{◌∙◌, ap}
use Rattle.btf_kinds.specs.Types.{Ty}
use Rattle.btf_view.proofs.PlaceLaws.{at_place}
use Rattle.btf_view.proofs.Types.flag_of.Goals as goal

pub returns : goal.returns
returns c = c.flag_at.ensures ∙ ap (λ (ty : Ty). ty.flag) (at_place _ _ _ _ c.place_of.ensures.0)

-- `btf_view::extra_of` meets its contract.
use mathlib.Core.Path.{◌∙◌, ap}
use Rattle.btf_kinds.specs.Types.{Ty}
use Rattle.btf_view.proofs.PlaceLaws.{at_place}
use Rattle.btf_view.proofs.Types.extra_of.Goals as goal

pub returns : goal.returns
returns c = c.extra_at.ensures ∙ ap (λ (ty : Ty). ty.extra) (at_place _ _ _ _ c.place_of.ensures.0)

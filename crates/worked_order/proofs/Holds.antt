-- The two records that are apart meet the hypotheses, so that they may be applied in any order.
use mathlib.Core.Path.{◌≡◌, refl}
use mathlib.Core.Bool.{Bool, true, false, ◌||◌}
use mathlib.Core.List.{[], ◌∷◌}
use lib.Dec.{eqb}
use borrow.Author.Tests.{eqb-true}
use Rattle.rules.specs.Apply.{code}
use Rattle.law_growth.specs.Demand3.{btf_in}
use Rattle.worked_growth.specs.Worked.{mine, old}
use Rattle.law_order.specs.AnyOrder.{touches, NoCommon, AnyOrder}
use Rattle.law_order.proofs.Lists.{any_order}
use Rattle.worked_order.specs.Worked.{three_insns, value_of_x0, offset_at2}
use Rattle.worked_order.proofs.Computed.{worked}

no_common : NoCommon 0 three_insns value_of_x0 offset_at2
unfolding touches code
no_common k h = go (eqb k 0) refl (eqb k 1) refl h
  where
    go : (a : Bool) → eqb k 0 ≡ a → (b : Bool) → eqb k 1 ≡ b → (a || b) ≡ true → (eqb k 2 || false) ≡ false
    go true e b f g = rw (eqb-true k 0 e)
    go false e true f g = rw (eqb-true k 1 f)
    go false e false f g = cc

pub met : AnyOrder (btf_in mine) (btf_in old) 0 three_insns (value_of_x0 ∷ offset_at2 ∷ []) (offset_at2 ∷ value_of_x0 ∷ [])
met =
    any_order (btf_in mine) (btf_in old) 0 three_insns (value_of_x0 ∷ offset_at2 ∷ []) (offset_at2 ∷ value_of_x0 ∷ [])
    (worked.accepted_x, (no_common, tt), (worked.accepted_2, tt, tt)) (value_of_x0 ∷ [], [], refl, ([], [], refl, refl))

-- `word_put::sign_extend` meets its contract.
use mathlib.Core.Path.{◌∙◌, ap}
use mir.Syntax.{w32, w64}
use mir.Val.{of_z}
use mir.ValLaws.{to_z-of_z}
use Rattle.word_put.proofs.SignLaws.{extends}
use Rattle.word_put.proofs.sign_extend.Goals as goal

pub returns : goal.returns
returns c =
    let s = c.signed32 in
    c.widened.ensures
    ∙ ap (of_z w64) (to_z-of_z w32 s.result (record { sfits = s.type_inv }) ∙ s.ensures)
    ∙ extends c.args.x c.ranges.x.fits

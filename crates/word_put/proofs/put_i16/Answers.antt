-- `word_put::put_i16` meets its contract.
use mathlib.Core.Path.{◌∙◌, ap}
use Rattle.word_read.specs.Num.{little}
use Rattle.word_read.specs.Put.{put_at}
use mir.Syntax.{w16}
use mir.Val.{of_z}
use mir.ValLaws.{to_z-of_z}
use Rattle.word_put.proofs.put_i16.Goals as goal

pub returns : goal.returns
returns c =
    let a = c.args in
    let f = c.ranges.v in
    c.put_u16.ensures
    ∙ ap (put_at little 2 a.bytes.now a.at) (c.bits16.ensures ∙ ap (of_z w16) (to_z-of_z w16 a.v f))

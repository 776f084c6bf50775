-- `word_put::put_i32` meets its contract.
use mathlib.Core.Path.{◌∙◌, ap}
use Rattle.word_read.specs.Num.{little}
use Rattle.word_read.specs.Put.{put_at}
use mir.Syntax.{w32}
use mir.Val.{of_z}
use mir.ValLaws.{to_z-of_z}
use Rattle.word_put.proofs.put_i32.Goals as goal

pub returns : goal.returns
returns c =
    let a = c.args in
    let f = c.ranges.v in
    c.put_u32.ensures
    ∙ ap (put_at little 4 a.bytes.now a.at) (c.bits32.ensures ∙ ap (of_z w32) (to_z-of_z w32 a.v f))

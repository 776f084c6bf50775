-- `word_put::put_u32` meets its contract.
use mathlib.Core.Path.{sym}
use Rattle.word_read.specs.Num.{little}
use Rattle.word_read.proofs.PutLaws.{past, halves}
use Rattle.word_put.proofs.put_u32.Goals as goal

pub returns-then-at-bytes : goal.returns-then-at-bytes
returns-then-at-bytes c =
    let a = c.args in
    halves little 2 2 a.bytes.now a.at a.v c.put_u16.ensures c.put_u16-then-at-bytes.ensures

pub returns-else-at-bytes : goal.returns-else-at-bytes
returns-else-at-bytes c = let a = c.args in sym (past little 4 a.bytes.now a.at a.v c.if-at-bytes.false)

-- `word_read::u16_at` meets its contract.
use mathlib.Core.Path.{sym}
use Rattle.word_read.specs.Num.{little}
use Rattle.word_read.proofs.Laws.{bytes, past}
use Rattle.word_read.proofs.u16_at.Goals as goal

pub returns-then-at-bytes : goal.returns-then-at-bytes
returns-then-at-bytes c =
    let a = c.args in
    bytes little a.bytes.now a.at c.u8_at.ensures c.u8_at-then-at-bytes.ensures

pub returns-else-at-bytes : goal.returns-else-at-bytes
returns-else-at-bytes c = sym (past little 2 _ _ c.if-at-bytes.false)

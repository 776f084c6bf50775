-- `word_read::u64_at` meets its contract.
use mathlib.Core.Path.{sym}
use Rattle.word_read.specs.Num.{little}
use Rattle.word_read.proofs.Laws.{halves, past}
use Rattle.word_read.proofs.u64_at.Goals as goal

pub returns-then-at-bytes : goal.returns-then-at-bytes
returns-then-at-bytes c =
    let a = c.args in
    halves little 4 4 a.bytes.now a.at c.u32_at.ensures c.u32_at-then-at-bytes.ensures

pub returns-else-at-bytes : goal.returns-else-at-bytes
returns-else-at-bytes c = sym (past little 8 _ _ c.if-at-bytes.false)

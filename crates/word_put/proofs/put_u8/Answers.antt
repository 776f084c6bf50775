-- `word_put::put_u8` meets its contract.
use mathlib.Core.Path.{sym}
use lib.Seq.{set_out}
use Rattle.word_put.proofs.put_u8.Goals as goal

pub returns-else-at-bytes : goal.returns-else-at-bytes
returns-else-at-bytes c = let a = c.args in sym (set_out a.bytes.now a.at a.v c.if-at-bytes.false)

-- `btf_fields::word_at` meets its contract.
use native.Mathlib.Omega.{arith}
use mathlib.Core.Path.{sym}
use Rattle.word_read.specs.Num.{little}
use Rattle.word_read.proofs.Laws.{past}
use Rattle.btf_fields.proofs.word_at.Goals as goal

pub returns-else-at-bytes : goal.returns-else-at-bytes
returns-else-at-bytes c = sym (past little 4 _ _ (omega arith))

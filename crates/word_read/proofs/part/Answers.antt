-- `word_read::part` meets its contract.
use native.Mathlib.Omega.{arith}
use Rattle.word_read.proofs.Parts.{part_none, part_cut, part-whole}
use Rattle.word_read.proofs.part.Goals as goal

pub returns-then-start-bytes : goal.returns-then-start-bytes
returns-then-start-bytes c = part_none _ _ _ (omega arith)

pub returns-then-size-bytes : goal.returns-then-size-bytes
returns-then-size-bytes c = part_cut _ _ _ (omega arith)

pub returns : goal.returns
returns c = part-whole _ _ _

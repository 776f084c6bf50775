-- `word_read::ones_masked` meets its contract.
use mathlib.Core.Path.{refl}
use Rattle.word_read.specs.Bits.{ones_masked}
use Rattle.word_read.proofs.ones_masked.Goals as goal

pub returns : goal.returns
unfolding ones_masked
returns c = refl

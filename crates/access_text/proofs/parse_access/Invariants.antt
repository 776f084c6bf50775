-- The loop of `access_text::parse_access`.
use lib.ListN.{length}
use Rattle.access_text.specs.Few.{items_of}
use Rattle.access_text.proofs.Parts.{Going}
use Rattle.access_text.proofs.parse_access.Given as goal

abbrev pub invariant-loop-one : goal.invariant-loop-one
invariant-loop-one l = Going l.text (items_of l.parts) l.too_many (length l.yielded)

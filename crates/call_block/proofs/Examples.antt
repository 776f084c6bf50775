-- Lines of docs/CASES.md, one for each shape, computed.
use mathlib.Core.Path.{◌≡◌, refl}
use mathlib.Core.List.{[], ◌∷◌}
use Rattle.rules.specs.declared.Refusal.TheVariants.{Conflict}
use Rattle.rules.specs.declared.Which.TheVariants.{Local}
use Rattle.rules.specs.declared.Ending.TheVariants.{Done, BadBtf, Stopped}
use Rattle.rules.specs.Ascii.{ascii}
use Rattle.rules.specs.Call.{ending_said, ended}
use Rattle.rules.specs.Report.{in_decimal, in_decimal_up_to}
use Rattle.call_block.specs.Block.{which_shown, refusal_shown, ending_shown, outcome_line, hex, tail}

-- A line of docs/CASES.md for each shape
pub at_a-btf : outcome_line (ended (BadBtf Local 7) 0) ≡ ascii "outcome=1 btf=local id=7 applied=0\n"
unfolding outcome_line ending_shown which_shown ending_said in_decimal in_decimal_up_to
at_a-btf = refl

pub at_a_record : outcome_line (ended (Stopped 3 (Conflict 12 2)) 3) ≡ ascii "outcome=10 id=12 count=2 applied=3\n"
unfolding outcome_line ending_shown refusal_shown ending_said in_decimal in_decimal_up_to
at_a_record = refl

pub at_the_end : tail (ended Done 1) (183 ∷ 1 ∷ 0 ∷ 0 ∷ 16 ∷ 0 ∷ 0 ∷ 0 ∷ []) ≡ ascii "outcome=0 applied=1\ninsns=b701000010000000\nend\n"
unfolding tail outcome_line ending_shown ending_said in_decimal in_decimal_up_to hex
at_the_end = refl

-- The example of document 01, section 9, computed.
use mathlib.Core.Path.{◌≡◌, refl}
use mathlib.Core.List.{◌++◌}
use Rattle.rules.specs.declared.Answer.TheVariants.{Applied, Refused}
use Rattle.rules.specs.declared.Refusal.TheVariants.{NoMatch}
use Rattle.rules.specs.Ascii.{ascii}
use Rattle.rules.specs.Report.{in_decimal_up_to, in_decimal, insn_shown, value_shown, lines}

-- Section 9's example
pub example : lines 0 2 (Applied 16) ++ lines 1 4 (Refused NoMatch) ≡ ascii "record=0\nanswer=0\ninsn=2\nvalue=16\nrecord=1\nanswer=13\ninsn=4\nvalue=none\n"
unfolding lines insn_shown value_shown in_decimal in_decimal_up_to
example = refl

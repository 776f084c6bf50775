-- The report: four lines for each record answered, up to and including the first refused (document 01, section 9).
use Rattle.std.specs.Prelude.{ℕ, zero, suc, ◌+◌, ◌/◌, ◌%◌, cond, ◌||◌, List, [], ◌∷◌, ◌++◌, ltb, eqb, Err, Ok}
use Prim.Native.String.{String}
use Rattle.btf_view.specs.View.{View}
use Rattle.rules.specs.declared.Record.{Record}
use Rattle.rules.specs.declared.Answer.{Answer}
use Rattle.rules.specs.declared.Answer.TheVariants.{Applied, Poisoned, Refused}
use Rattle.rules.specs.declared.Write.{Write}
use Rattle.rules.specs.declared.Ending.{Ending}
use Rattle.rules.specs.declared.Ending.TheVariants.{Done, BadBtf, OverLimit, TableShort, Stopped, Misshapen}
use Rattle.rules.specs.declared.Said.{Said}
use Rattle.rules.specs.Ascii.{ascii}
use Rattle.rules.specs.Refusal.{Reply, number}
use Rattle.rules.specs.Record.{index_of, relocated, shown}
use Rattle.rules.specs.List.{list_of}

-- A digit
abbrev pub digit_shown : ℕ → List ℕ
digit_shown d = (48 + d) ∷ []

-- A number in decimal, of at most f digits
unfoldable pub in_decimal_up_to : ℕ → ℕ → List ℕ
in_decimal_up_to zero n = []
in_decimal_up_to (suc f) n = let front = in_decimal_up_to f (n / 10) in cond (ltb n 10) (digit_shown n) (front ++ digit_shown (n % 10))

-- A number of 64 bits in decimal: 20 digits suffice
unfoldable pub in_decimal : ℕ → List ℕ
in_decimal n = in_decimal_up_to 20 n

-- A line: a key with its `=`, what it shows, LF
abbrev pub line : String → List ℕ → List ℕ
line key shown = ascii key ++ shown ++ ascii "\n"

-- Document 01's number of an answer
abbrev pub number_of : Answer → ℕ
number_of (Applied v) = 0
number_of Poisoned = 0
number_of (Refused r) = number r

-- Refusals 4 and 5 show no instruction.
unfoldable pub insn_shown : ℕ → Answer → List ℕ
insn_shown i a = cond (eqb (number_of a) 4 || eqb (number_of a) 5) (ascii "none") (in_decimal i)

-- Poison and refusal show `poison` and `none`.
unfoldable pub value_shown : Answer → List ℕ
value_shown (Applied v) = in_decimal v
value_shown Poisoned = ascii "poison"
value_shown (Refused r) = ascii "none"

-- The lines of record number n, at instruction i
unfoldable pub lines : ℕ → ℕ → Answer → List ℕ
lines n i a =
    line "record=" (in_decimal n) ++ line "answer=" (in_decimal (number_of a)) ++ line "insn=" (insn_shown i a) ++ line "value=" (value_shown a)

-- The lines of the records that have an answer, from number n on
unfoldable pub report_from : ℕ → ℕ → List Record → List Answer → List ℕ
report_from section n [] more = []
report_from section n (r ∷ rs) [] = []
report_from section n (r ∷ rs) (a ∷ more) = lines n (index_of section r) a ++ report_from section (n + 1) rs more

-- The whole report
unfoldable pub report : View → View → ℕ → List ℕ → List Record → List ℕ
report L T section xs rs = report_from section 0 rs (list_of L T section xs rs).answers

-- The report of a call that was made before: the patched instructions do not tell the values, and are not needed for them.

-- What an applied record shows, by what it writes
abbrev pub answered : Reply Write → Answer
answered (Ok w) = shown w
answered (Err r) = Refused r

-- The answer with which a call ended at a record
abbrev pub answer_at_end : Ending → List Answer
answer_at_end Done = []
answer_at_end (BadBtf w i) = []
answer_at_end (OverLimit w) = []
answer_at_end (TableShort w n) = []
answer_at_end (Stopped k r) = Refused r ∷ []
answer_at_end Misshapen = []

-- The answers again, of a call that applied n records and ended so: those of the n by their views, then the refusal
unfoldable pub again : View → View → List Record → ℕ → Ending → List Answer
again L T [] n e = []
again L T (r ∷ rs) zero e = answer_at_end e
again L T (r ∷ rs) (suc n) e = answered (relocated L T r) ∷ again L T rs n e

-- The report of what a call said, for any that it may be
unfoldable pub report_said : View → View → ℕ → List Record → Said → List ℕ
report_said L T section rs s = report_from section 0 rs (again L T rs s.applied s.ending)

-- The block of a case after its report (docs/CASES.md): the outcome, the instructions left, `end`.
use Rattle.std.specs.Prelude.{ℕ, ◌/◌, ◌%◌, List, [], ◌∷◌, ◌++◌, get_or}
use Prim.Native.String.{String}
use Rattle.rules.specs.declared.Refusal.{Refusal}
use Rattle.rules.specs.declared.Refusal.TheVariants.{KindTooBig, NotInFunction, NoSuccessor, BadAccess, IndexTooBig, WrongKind, Conflict, MaximumNesting}
use Rattle.rules.specs.declared.Refusal.TheVariants.{BadInstruction, NoMatch, Unresolved, TooManyParts, BitsTooBig, TooDeep}
use Rattle.rules.specs.declared.Which.{Which}
use Rattle.rules.specs.declared.Which.TheVariants.{Local, Target}
use Rattle.rules.specs.declared.Ending.{Ending}
use Rattle.rules.specs.declared.Ending.TheVariants.{Done, BadBtf, OverLimit, TableShort, Stopped, Misshapen}
use Rattle.rules.specs.declared.Said.{Said}
use Rattle.rules.specs.Ascii.{ascii}
use Rattle.rules.specs.Call.{ending_said}
use Rattle.rules.specs.Report.{in_decimal}

-- Document 01's number of an ending: the first that it says
abbrev pub ending_number : Ending → ℕ
ending_number e = get_or (ending_said e) 0 0

-- A number under a name
abbrev pub field : String → ℕ → List ℕ
field name n = ascii name ++ in_decimal n

-- Which BTF
unfoldable pub which_shown : Which → List ℕ
which_shown Local = ascii " btf=local"
which_shown Target = ascii " btf=target"

-- What a refusal of record number k returns
unfoldable pub refusal_shown : ℕ → Refusal → List ℕ
refusal_shown k (KindTooBig n) = field " kind=" n
refusal_shown k NotInFunction = field " record=" k
refusal_shown k (NoSuccessor i) = field " index=" i
refusal_shown k BadAccess = field " record=" k
refusal_shown k (IndexTooBig i n) = field " index=" i ++ field " count=" n
refusal_shown k WrongKind = field " record=" k
refusal_shown k (Conflict i n) = field " id=" i ++ field " count=" n
refusal_shown k (MaximumNesting i) = field " id=" i
refusal_shown k (BadInstruction w) = field " reason=" w
refusal_shown k NoMatch = field " record=" k
refusal_shown k Unresolved = field " record=" k
refusal_shown k TooManyParts = field " record=" k
refusal_shown k BitsTooBig = field " record=" k
refusal_shown k TooDeep = field " record=" k

-- What an ending returns
unfoldable pub ending_shown : Ending → List ℕ
ending_shown Done = []
ending_shown (BadBtf w i) = which_shown w ++ field " id=" i
ending_shown (OverLimit w) = which_shown w
ending_shown (TableShort w n) = which_shown w ++ field " entries=" n
ending_shown (Stopped k r) = refusal_shown k r
ending_shown Misshapen = []

-- The line of the outcome
unfoldable pub outcome_line : Said → List ℕ
outcome_line s = field "outcome=" (ending_number s.ending) ++ ending_shown s.ending ++ field " applied=" s.applied ++ ascii "\n"

-- A digit of hexadecimal, in lower case
abbrev pub hex_digit : ℕ → ℕ
hex_digit d = get_or (ascii "0123456789abcdef") d 0

-- Bytes in hexadecimal
unfoldable pub hex : List ℕ → List ℕ
hex [] = []
hex (x ∷ xs) = hex_digit (x / 16) ∷ hex_digit (x % 16) ∷ hex xs

-- The block after its report: what the call said, and the instructions as it left them
unfoldable pub tail : Said → List ℕ → List ℕ
tail s xs = outcome_line s ++ ascii "insns=" ++ hex xs ++ ascii "\nend\n"

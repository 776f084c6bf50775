-- Why a record is refused, with document 01's numbers (section 3), and the stages of a record's work.
use Rattle.std.specs.Prelude.{ℕ, cond, List, [], ◌∷◌, ltb, Result, Ok, Err}
use Rattle.rules.specs.declared.Refusal.{Refusal}
use Rattle.rules.specs.declared.Refusal.TheVariants.{KindTooBig, NotInFunction, NoSuccessor, BadAccess, IndexTooBig, WrongKind, Conflict}
use Rattle.rules.specs.declared.Refusal.TheVariants.{MaximumNesting, BadInstruction, NoMatch, Unresolved, TooManyParts, BitsTooBig, TooDeep}
use Rattle.rules.specs.Limits.{bit_limit}

-- Document 01's number of a refusal
abbrev pub number : Refusal → ℕ
number (KindTooBig k) = 4
number NotInFunction = 5
number (NoSuccessor i) = 6
number BadAccess = 7
number (IndexTooBig i n) = 8
number WrongKind = 9
number (Conflict i n) = 10
number (MaximumNesting i) = 11
number (BadInstruction r) = 12
number NoMatch = 13
number Unresolved = 14
number TooManyParts = 15
number BitsTooBig = 16
number TooDeep = 17

-- What document 01 returns beside the number, for the record with this index
unfoldable pub returned : ℕ → Refusal → List ℕ
returned r (KindTooBig k) = k ∷ []
returned r NotInFunction = r ∷ []
returned r (NoSuccessor i) = i ∷ []
returned r BadAccess = r ∷ []
returned r (IndexTooBig i n) = i ∷ n ∷ []
returned r WrongKind = r ∷ []
returned r (Conflict i n) = i ∷ n ∷ []
returned r (MaximumNesting i) = i ∷ []
returned r (BadInstruction w) = w ∷ []
returned r NoMatch = r ∷ []
returned r Unresolved = r ∷ []
returned r TooManyParts = r ∷ []
returned r BitsTooBig = r ∷ []
returned r TooDeep = r ∷ []

-- A stage's answer: what it found, or why the record is refused
abbrev pub Reply : Type 0 → Type 0
Reply A = Result A Refusal

-- The next stage, where this one found something
abbrev pub bind : {A B : Type 0} → Reply A → (A → Reply B) → Reply B
bind (Ok a) next = next a
bind (Err r) next = Err r

-- A bit offset, found by a sum or a product
abbrev pub bit_offset : ℕ → Reply ℕ
bit_offset n = cond (ltb n bit_limit) (Ok n) (Err BitsTooBig)

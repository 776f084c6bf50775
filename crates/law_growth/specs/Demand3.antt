-- Demand 3 (document 01, sections 5 and 11): growing the target's type list never changes a number already found.
-- This file says it, and no more; it is proved in Proved. In plain words, with C structs: docs/DEMAND-3.md.
use Rattle.std.specs.Prelude.{ℕ, zero, suc, ◌-◌, ◌≤◌, ◌<◌, ◌≡◌, Bool, true, false, cond, ◌&&◌, ◌||◌, not, List, [], ◌∷◌, ◌++◌, length, eqb, Err, None}
use Rattle.std.specs.Prelude.{Ok, Option, Some}
use Rattle.btf_kinds.specs.Types.{void}
use Rattle.btf_accept.specs.declared.Btf.{Btf}
use Rattle.btf_accept.specs.declared.Whole.{Whole}
use Rattle.btf_accept.specs.declared.Whole.TheVariants.{Accepted, Faulty, Over}
use Rattle.btf_accept.specs.Sections.{types_in, strings_in}
use Rattle.btf_accept.specs.Accept.{accepted}
use Rattle.btf_view.specs.View.{View, doc_view}
use Rattle.rules.specs.declared.Refusal.{Refusal}
use Rattle.rules.specs.declared.Refusal.TheVariants.{Conflict}
use Rattle.rules.specs.declared.Value.{Value}
use Rattle.rules.specs.declared.Match.{Match}
use Rattle.rules.specs.declared.Record.{Record}
use Rattle.rules.specs.declared.Answer.{Answer}
use Rattle.rules.specs.declared.Answer.TheVariants.{Applied, Poisoned, Refused}
use Rattle.rules.specs.declared.Ending.{Ending}
use Rattle.rules.specs.declared.Ending.TheVariants.{Done, BadBtf, OverLimit, TableShort, Stopped, Misshapen}
use Rattle.rules.specs.Kinds.{type_id_local}
use Rattle.rules.specs.Refusal.{Reply, number}
use Rattle.rules.specs.Access.{Access}
use Rattle.rules.specs.Value.{local_value}
use Rattle.rules.specs.Record.{over, event_at, accessed, refuse, record_of, Matches}
use Rattle.rules.specs.List.{list_of}
use Rattle.rules.specs.Call.{ended, Effect}
use Rattle.rules.specs.Matching.{Event}

-- Two targets

-- The target s' has the types of the target s and then maybe more, the strings of s and then maybe more. Both are
-- accepted. Headers may differ, and where the sections lie.
pub record Extended (s s' : List ℕ) : Type 0 where
  pub old : Btf
  pub new : Btf
  pub old_accepted : Accepted old ≡ accepted s
  pub new_accepted : Accepted new ≡ accepted s'
  pub more_types : List ℕ
  pub more_strings : List ℕ
  pub types : types_in s' new ≡ types_in s old ++ more_types
  pub strings : strings_in s' new ≡ strings_in s old ++ more_strings

-- The types and names that bytes hold: none where they are not accepted
abbrev pub held : List ℕ → Whole → View
held s (Accepted b) = doc_view s b
held s (Faulty i) = record { count = 0; room = 0; typ = λ i. void; text = λ o. [] }
held s Over = record { count = 0; room = 0; typ = λ i. void; text = λ o. [] }

unfoldable pub btf_in : List ℕ → View
btf_in s = held s (accepted s)

-- An id of E past the last id of T
abbrev pub Past : View → View → ℕ → Type 0
Past T E i = (T.count < i) × (i ≤ E.count)

-- What a type gives a record

-- By what the record accesses: a type that is no candidate gives nothing.
abbrev pub given_to : View → View → Record → ℕ → Reply Access → Event
given_to L T r i (Ok a) = event_at L T r a (local_value L.typ r.kind a) i
given_to L T r i (Err q) = Ok None

-- What the target's type i gives: nothing, a match, or a refusal. `TypeIdLocal` looks at no target.
unfoldable pub gives : View → View → Record → ℕ → Event
gives L T r i = cond (eqb r.kind type_id_local) (Ok None) (given_to L T r i (accessed L r))

-- The record's first match among all of the target's types
unfoldable pub first_match : View → View → Record → Matches
first_match L T r = over (gives L T r) (Ok None) 0 (suc T.count)

-- Harm

-- A candidate whose own matching or value gives 11, 14, 16 or 17 causes a refusal.
unfoldable pub causes : Refusal → Bool
causes q = eqb (number q) 11 || eqb (number q) 14 || eqb (number q) 16 || eqb (number q) 17

-- Another value, where both have one
abbrev pub other_value : Option Value → Option Value → Bool
other_value None w = false
other_value (Some v) None = false
other_value (Some v) (Some w) = not (eqb v.number w.number)

-- What harms a first match m: a refusal; a match with another bit offset, or with another value
abbrev pub harms : Match → Event → Bool
harms m (Ok None) = false
harms m (Err q) = causes q
harms m (Ok (Some n)) = not (eqb m.bits n.bits) || other_value m.value n.value

abbrev pub harms_first : Matches → Event → Bool
harms_first (Ok None) e = false
harms_first (Ok (Some k)) e = harms k.first e
harms_first (Err q) e = false

-- The type i of the grown target E is harmful to what the record found in T.
unfoldable pub harmful : View → View → View → Record → ℕ → Bool
harmful L T E r i = harms_first (first_match L T r) (gives L E r i)

-- What the record is refused with then

-- A type's own refusal, or what is found among the others
abbrev pub own_or : Event → Option Refusal → Option Refusal
own_or (Ok m) other = other
own_or (Err q) other = Some q

-- The first refusal that one of n types, from id i on, gives itself
unfoldable pub first_own : (ℕ → Event) → ℕ → ℕ → Option Refusal
first_own f i zero = None
first_own f i (suc n) = own_or (f i) (first_own f (suc i) n)

-- Those of n ids, from i on, for which a test holds
unfoldable pub those : (ℕ → Bool) → ℕ → ℕ → List ℕ
those p i zero = []
those p i (suc n) = let more = those p (suc i) n in cond (p i) (i ∷ more) more

-- A type's own refusal comes first, wherever it stands. Else it is a conflict: the first harmful id, and how many there are.
abbrev pub owed : Option Refusal → List ℕ → Option Refusal
owed (Some q) ids = Some q
owed None [] = None
owed None (i ∷ more) = Some (Conflict i (suc (length more)))

-- The harmful ids past the old end, in order
unfoldable pub harmful_ids : View → View → View → Record → List ℕ
harmful_ids L T E r = those (harmful L T E r) (suc T.count) (E.count - T.count)

-- The refusal that the types past the old end make due, if any
unfoldable pub due : View → View → View → Record → Option Refusal
due L T E r = owed (first_own (gives L E r) (suc T.count) (E.count - T.count)) (harmful_ids L T E r)

-- One of the numbers 10, 11, 14, 16 and 17
abbrev pub is_due_number : ℕ → Bool
is_due_number n = eqb n 10 || eqb n 11 || eqb n 14 || eqb n 16 || eqb n 17

-- One record

abbrev pub is_refused : Answer → Bool
is_refused (Applied v) = false
is_refused Poisoned = false
is_refused (Refused q) = true

abbrev pub has_match : Matches → Bool
has_match (Ok None) = false
has_match (Ok (Some k)) = true
has_match (Err q) = false

-- The record has a match in the target T; or it is `TypeIdLocal`, which needs none.
abbrev pub is_matched : View → View → Record → Bool
is_matched L T r = eqb r.kind type_id_local || has_match (first_match L T r)

-- A record that is accepted against the target T, with at least one matching type
pub record Settled (L T : View) (section : ℕ) (insns : List ℕ) (r : Record) : Type 0 where
  pub accepted : is_refused (record_of L T section insns r).answer ≡ false
  pub matched : is_matched L T r ≡ true

-- Refused with what is due, and every instruction byte as it was
pub record RefusedAsDue (L T E : View) (section : ℕ) (insns : List ℕ) (r : Record) : Type 0 where
  pub refusal : Refusal
  pub is_due : due L T E r ≡ Some refusal
  pub numbered : is_due_number (number refusal) ≡ true
  pub outcome : record_of L E section insns r ≡ refuse insns refusal

-- THE DEMAND: local types L, target T grown into E, a function that begins at `section` with these instructions, a record.
pub record Demand3 (L T E : View) (section : ℕ) (insns : List ℕ) (r : Record) : Type 0 where
  -- Where no type past the old end is harmful: the same answer, the same value, the same instruction bytes
  pub kept : ((i : ℕ) → Past T E i → harmful L T E r i ≡ false) → record_of L E section insns r ≡ record_of L T section insns r
  -- Where one is: refused
  pub then_refused : (i : ℕ) → Past T E i → harmful L T E r i ≡ true → RefusedAsDue L T E section insns r
  -- And refused only then
  pub only_then : is_refused (record_of L E section insns r).answer ≡ true → (i : ℕ) × Past T E i × (harmful L T E r i ≡ true)

-- A list of records

abbrev pub any_refused : List Answer → Bool
any_refused [] = false
any_refused (a ∷ more) = is_refused a || any_refused more

unfoldable pub all_matched : View → View → List Record → Bool
all_matched L T [] = true
all_matched L T (r ∷ rs) = is_matched L T r && all_matched L T rs

-- A list that is accepted against T, each of its records with a match
pub record SettledList (L T : View) (section : ℕ) (insns : List ℕ) (rs : List Record) : Type 0 where
  pub accepted : any_refused (list_of L T section insns rs).answers ≡ false
  pub matched : all_matched L T rs ≡ true

-- No type past the old end is harmful to any of the records.
abbrev pub Unharmed : View → View → View → List Record → Type 0
Unharmed L T E [] = Unit {0}
Unharmed L T E (r ∷ rs) = ((i : ℕ) → Past T E i → harmful L T E r i ≡ false) × Unharmed L T E rs

-- The first record of a list that is harmed: the records in front of it, itself, those behind it, and the harmful id
pub record FirstHarmed (L T E : View) (rs : List Record) : Type 0 where
  pub front : List Record
  pub this : Record
  pub back : List Record
  pub whole : rs ≡ front ++ (this ∷ back)
  pub unharmed : Unharmed L T E front
  pub id : ℕ
  pub past : Past T E id
  pub harm : harmful L T E this id ≡ true

-- The records in front go as they went against T, the harmed one is refused with what is due, and changes no byte.
pub record StoppedAsDue (L T E : View) (section : ℕ) (insns : List ℕ) (front : List Record) (r : Record) (rs : List Record) : Type 0 where
  pub refusal : Refusal
  pub is_due : due L T E r ≡ Some refusal
  pub numbered : is_due_number (number refusal) ≡ true
  pub run : list_of L E section insns rs
      ≡ record { answers = (list_of L T section insns front).answers ++ (Refused refusal ∷ []); insns = (list_of L T section insns front).insns }

-- The demand of a list
pub record Demand3List (L T E : View) (section : ℕ) (insns : List ℕ) (rs : List Record) : Type 0 where
  pub kept : Unharmed L T E rs → list_of L E section insns rs ≡ list_of L T section insns rs
  pub then_refused : (h : FirstHarmed L T E rs) → StoppedAsDue L T E section insns h.front h.this rs
  pub only_then : any_refused (list_of L E section insns rs).answers ≡ true → FirstHarmed L T E rs

-- Two calls

abbrev pub is_done : Ending → Bool
is_done Done = true
is_done (BadBtf w i) = false
is_done (OverLimit w) = false
is_done (TableShort w n) = false
is_done (Stopped k q) = false
is_done Misshapen = false

-- A call against T that did all of its records, each of them with a match
pub record SettledCall (L T : View) (rs : List Record) (before : Effect) : Type 0 where
  pub done : is_done before.said.ending ≡ true
  pub matched : all_matched L T rs ≡ true

-- A call that ended at the harmed record, whose number in the list is also how many were applied
pub record CallStopped (L T E : View) (section : ℕ) (insns : List ℕ) (front : List Record) (r : Record) (after : Effect) : Type 0 where
  pub refusal : Refusal
  pub is_due : due L T E r ≡ Some refusal
  pub numbered : is_due_number (number refusal) ≡ true
  pub effect : after ≡ record { said = ended (Stopped (length front) refusal) (length front); insns = (list_of L T section insns front).insns }

-- The demand of two calls, against T and against E: what they say and the instructions that they leave
pub record Demand3Call (L T E : View) (section : ℕ) (insns : List ℕ) (rs : List Record) (before after : Effect) : Type 0 where
  pub kept : Unharmed L T E rs → after ≡ before
  pub then_refused : (h : FirstHarmed L T E rs) → CallStopped L T E section insns h.front h.this after
  pub only_then : is_done after.said.ending ≡ false → FirstHarmed L T E rs

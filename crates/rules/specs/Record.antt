-- One record, in document 01's order: 4, 5, type id, access string offset, parse, 15, the type's chain, access, candidates, 10, apply (section 3).
use Rattle.std.specs.Prelude.{ℕ, zero, suc, ◌-◌, ◌/◌, Bool, true, false, cond, ◌&&◌, ◌||◌, not, List, [], ◌∷◌, leb, eqb, ltb, Err, None, Ok, Option, Some}
use Rattle.btf_kinds.specs.Types.{Ty}
use Rattle.btf_view.specs.View.{View}
use Rattle.rules.specs.declared.Refusal.{Refusal}
use Rattle.rules.specs.declared.Refusal.TheVariants.{KindTooBig, NotInFunction, Conflict, NoMatch, Unresolved}
use Rattle.rules.specs.declared.Value.{Value}
use Rattle.rules.specs.declared.Match.{Match}
use Rattle.rules.specs.declared.Kept.{Kept}
use Rattle.rules.specs.declared.Resize.{Resize}
use Rattle.rules.specs.declared.Resize.TheVariants.{Same, OneSided, Unlike, To}
use Rattle.rules.specs.declared.Write.{Write}
use Rattle.rules.specs.declared.Write.TheVariants.{Put, Poison}
use Rattle.rules.specs.declared.Record.{Record}
use Rattle.rules.specs.declared.Answer.{Answer}
use Rattle.rules.specs.declared.Answer.TheVariants.{Applied, Poisoned, Refused}
use Rattle.rules.specs.Kinds.{type_id_local, type_id_target, type_size, enum_value, asks_existence}
use Rattle.btf_kinds.specs.Names.{INT, PTR}
use Rattle.rules.specs.Fields.{int_signed}
use Rattle.rules.specs.Refusal.{Reply, bind, number, returned}
use Rattle.rules.specs.Types.{resolve}
use Rattle.rules.specs.Access.{Access, parse, local_access}
use Rattle.rules.specs.Value.{plain, local_value}
use Rattle.rules.specs.Matching.{is_candidate, event, Event}
use Rattle.rules.specs.Apply.{Patch, done, stopped, has_slot, patch}

-- Candidates, one by one

-- Two values conflict only where both are there.
abbrev pub agree : Option Value → Option Value → Bool
agree None v = true
agree (Some u) None = true
agree (Some u) (Some v) = eqb u.number v.number

-- A match does not conflict with the first: at its bits, with no other value.
abbrev pub agrees : Match → Match → Bool
agrees first m = eqb first.bits m.bits && agree first.value m.value

-- The first conflicting id, when i conflicts after n others
abbrev pub first_of : ℕ → ℕ → ℕ → ℕ
first_of zero c i = i
first_of (suc n) c i = c

-- Id i matches: the first match is kept, conflicts with it are counted.
abbrev pub keep : Option Kept → ℕ → Match → Kept
keep None i m = record { first = m; conflict = 0; count = 0 }
keep (Some k) i m =
    cond (agrees k.first m) k (record { first = k.first; conflict = first_of k.count k.conflict i; count = suc k.count })

-- What is kept of the matches, or the record's refusal
abbrev pub Matches : Type 0
Matches = Reply (Option Kept)

-- Id i gives an event: a match is kept, a refusal ends all.
unfoldable pub turn : Matches → ℕ → Event → Matches
turn (Err r) i e = Err r
turn (Ok kept) i (Ok None) = Ok kept
turn (Ok kept) i (Ok (Some m)) = Ok (Some (keep kept i m))
turn (Ok kept) i (Err r) = Err r

-- n ids from i on
unfoldable pub over : (ℕ → Event) → Matches → ℕ → ℕ → Matches
over f s i zero = s
over f s i (suc n) = over f (turn s i (f i)) (suc i) n

-- A type that is no candidate gives nothing.
unfoldable pub event_at : View → View → Record → Access → Reply Value → ℕ → Event
event_at L T r a mine i =
    let l = L.typ r.typ in
    let t = T.typ i in
    let e = event L T r.kind r.typ a mine i in
    cond (is_candidate l (L.text l.name) t (T.text t.name)) e (Ok None)

-- All target types, in id order from 0
unfoldable pub matches : View → View → Record → Access → Reply Value → Matches
matches L T r a mine = over (event_at L T r a mine) (Ok None) 0 (suc T.count)

-- The value

-- Where nothing matched: existence is 0, a type's id or size is refused, anything else has no value.
unfoldable pub absent : ℕ → Reply (Option Value)
absent k =
    cond (eqb k type_id_target || eqb k type_size) (Err NoMatch)
    (cond (asks_existence k) (Ok (Some (plain 0))) (Ok None))

-- The target's value, from what was kept
unfoldable pub conclude : ℕ → Matches → Reply (Option Value)
conclude k (Ok None) = absent k
conclude k (Ok (Some m)) = cond (eqb m.count 0) (Ok m.first.value) (Err (Conflict m.conflict m.count))
conclude k (Err r) = Err r

-- Of one kind: pointers, or unsigned INTs
unfoldable pub resizable : Ty → Ty → Bool
resizable l t =
    cond (eqb t.kind l.kind) (cond (eqb l.kind PTR) true (cond (eqb l.kind INT) (not (int_signed l) && not (int_signed t)) false)) false

-- A size of s bytes, between a local and a target type, where both are there
abbrev pub resize_between : (ℕ → Ty) → (ℕ → Ty) → ℕ → Option ℕ → Option ℕ → Resize
resize_between L T s None y = OneSided
resize_between L T s (Some a) None = OneSided
resize_between L T s (Some a) (Some b) = cond (resizable (L a) (T b)) (To s) Unlike

-- The change of size from the local value to the target's
unfoldable pub resizing : (ℕ → Ty) → (ℕ → Ty) → Value → Value → Resize
resizing L T mine theirs = cond (eqb mine.size theirs.size) Same (resize_between L T theirs.size mine.typ theirs.typ)

-- What is written for a local value and the target's, if it has one
abbrev pub writing : (ℕ → Ty) → (ℕ → Ty) → Value → Option Value → Write
writing L T mine None = Poison
writing L T mine (Some v) = Put v.number (resizing L T mine v)

-- The local value is asked for after the candidates, where no match has done so.
abbrev pub computed : (ℕ → Ty) → (ℕ → Ty) → Reply Value → Reply (Option Value) → Reply Write
computed L T mine theirs = bind theirs (λ t. bind mine (λ m. Ok (writing L T m t)))

-- A record that accesses a: `TypeIdLocal` writes its own type id and looks at no target.
unfoldable pub compute : View → View → Record → Access → Reply Write
compute L T r a =
    let mine = local_value L.typ r.kind a in
    cond (eqb r.kind type_id_local) (Ok (Put r.typ Same))
    (computed L.typ T.typ mine (conclude r.kind (matches L T r a mine)))

-- What the parts access, at the type that a chain ends at
abbrev pub access_at : View → ℕ → Reply ℕ → List ℕ → Reply Access
access_at L k end parts = bind end (λ i. local_access L k i parts)

-- What a record accesses, from its type id on; the local BTF alone decides
unfoldable pub accessed : View → Record → Reply Access
accessed L r =
    cond (ltb L.count r.typ) (Err Unresolved)
    (cond (leb L.room r.access) (Err Unresolved)
    (bind (parse (L.text r.access)) (access_at L r.kind (resolve L.typ r.typ))))

-- What a record writes, before any instruction is looked at
unfoldable pub relocated : View → View → Record → Reply Write
relocated L T r = bind (accessed L r) (compute L T r)

-- The answer

-- Document 01's number of an answer to the record with this index, and what it returns: the value, nothing for poison
unfoldable pub answer_numbers : ℕ → Answer → List ℕ
answer_numbers n (Applied v) = 0 ∷ v ∷ []
answer_numbers n Poisoned = 0 ∷ []
answer_numbers n (Refused r) = number r ∷ returned n r

-- The answer, and the instructions afterwards
pub record Outcome : Type 0 where
  pub answer : Answer
  pub insns : List ℕ

-- What an applied record shows
abbrev pub shown : Write → Answer
shown (Put n z) = Applied n
shown Poison = Poisoned

-- An applied record shows what was written; a patch that stopped shows why.
abbrev pub outcome : Write → Patch → Outcome
outcome w (done xs) = record { answer = shown w; insns = xs }
outcome w (stopped r xs) = record { answer = Refused r; insns = xs }

-- Refused, with every byte as it was
abbrev pub refuse : List ℕ → Refusal → Outcome
refuse xs r = record { answer = Refused r; insns = xs }

-- What was computed, applied to instruction i
unfoldable pub apply : List ℕ → ℕ → Reply Write → Outcome
apply xs i (Err r) = refuse xs r
apply xs i (Ok w) = outcome w (patch xs i w)

-- The instruction's index, in a function that begins here in the section
abbrev pub index_of : ℕ → Record → ℕ
index_of section r = (r.offset - section) / 8

-- The record names an instruction of this function.
abbrev pub in_function : ℕ → List ℕ → Record → Bool
in_function section xs r = leb section r.offset && has_slot xs (index_of section r)

-- One record
unfoldable pub record_of : View → View → ℕ → List ℕ → Record → Outcome
record_of L T section xs r =
    cond (ltb enum_value r.kind) (refuse xs (KindTooBig r.kind))
    (cond (not (in_function section xs r)) (refuse xs NotInFunction)
    (apply xs (index_of section r) (relocated L T r)))

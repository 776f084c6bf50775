-- Candidates and their matches (document 01, section 5; the crate's find_candidates, match_candidate, match_member).
--   local:  struct a { int x; int y; };          "0:1" is .y
--   target: struct a___v2 { char c; struct { int x; int y; }; };
--   a___v2 is a candidate; the search for `y` passes c, goes down into the unnamed struct, finds y there at bit 32 and adds 32 on the way back.
use Rattle.std.specs.Prelude.{ℕ, zero, suc, ◌+◌, Bool, cond, ◌&&◌, not, List, [], ◌∷◌, length, leb, eqb, Err, None, Ok, Option, Some, false, true}
use Rattle.rules.specs.Kinds.{is_composite, is_enum, enum_exists}
use Rattle.btf_kinds.specs.Names.{ARRAY, STRUCT}
use Rattle.rules.specs.Limits.{max_spec_len, max_levels}
use Rattle.btf_kinds.specs.declared.Entry.{Entry}
use Rattle.btf_kinds.specs.Types.{Ty}
use Rattle.btf_view.specs.View.{View}
use Rattle.rules.specs.declared.Accessor.{Accessor}
use Rattle.rules.specs.declared.Value.{Value}
use Rattle.rules.specs.declared.Target.{Target}
use Rattle.rules.specs.declared.Match.{Match}
use Rattle.rules.specs.declared.Refusal.TheVariants.{MaximumNesting, TooDeep}
use Rattle.rules.specs.Fields.{member_bits, nth_entry}
use Rattle.rules.specs.Refusal.{Reply, bind, bit_offset}
use Rattle.rules.specs.Types.{resolve, is_empty, same_text, same_flavourless, types_compatible, fields_compatible, Compat}
use Rattle.rules.specs.Access.{member, element, nowhere, element_bits, Access, whole, variant, path}
use Rattle.rules.specs.Value.{plain, field_value, variant_value, type_value}

-- Candidates

-- A target type is a candidate where it has the local type's kind and its name without flavour.
unfoldable pub is_candidate : Ty → List ℕ → Ty → List ℕ → Bool
is_candidate l name t name' = eqb l.kind t.kind && same_flavourless name name'

-- Types as a whole

-- What a candidate gives: a match, nothing, or the record's refusal
abbrev pub Event : Type 0
Event = Reply (Option Match)

-- A match at these bits, with the target's value, where it has one
abbrev pub matched : ℕ → Option Value → Event
matched b v = Ok (Some (record { bits = b; value = v }))

-- A value that must be there
abbrev pub worth : Reply Value → Event
worth v = bind v (λ w. matched 0 (Some w))

-- A compatible type matches, at bit 0, with its value.
abbrev pub type_event : Compat → Reply Value → Event
type_event fit v = bind fit (λ b. cond b (worth v) (Ok None))

-- Enums

-- The first variant of a name, but for flavours
unfoldable pub variant_named : (ℕ → List ℕ) → List ℕ → List Entry → Option Entry
variant_named text name [] = None
variant_named text name (e ∷ es) = let rest = variant_named text name es in cond (same_flavourless name (text e.name)) (Some e) rest

-- The variant that was found in the enum t, if any: that it exists, or its value
abbrev pub variant_event : ℕ → Ty → Option Entry → Event
variant_event k t None = Ok None
variant_event k t (Some e) = matched 0 (Some (plain (cond (eqb k enum_exists) 1 (variant_value t e))))

-- A variant of this name in the type t
unfoldable pub enum_event : (ℕ → List ℕ) → ℕ → List ℕ → Ty → Event
enum_event text k name t = cond (is_enum t.kind) (variant_event k t (variant_named text name t.entries)) (Ok None)

-- The same in the type that a chain ends at
abbrev pub enum_event_at : View → ℕ → List ℕ → Reply ℕ → Event
enum_event_at T k name end = bind end (λ j. enum_event T.text k name (T.typ j))

-- Fields: where the target's walk has come to

-- A place, none, or the record's refusal
abbrev pub Search : Type 0
Search = Reply (Option Target)

-- The step after one that led on
abbrev pub next : Search → (Target → Search) → Search
next (Ok (Some s)) go = go s
next (Ok None) go = Ok None
next (Err r) go = Err r

-- The rest is tried where nothing was found.
abbrev pub or_else : Search → Search → Search
or_else (Ok (Some s)) rest = Ok (Some s)
or_else (Ok None) rest = rest
or_else (Err r) rest = Err r

-- A place, or the record's refusal
abbrev pub reached : Reply Target → Search
reached s = bind s (λ t. Ok (Some t))

-- On the way back from a member: its bit offset is added, and one part, untested.
abbrev pub grown : ℕ → Search → Search
grown b (Ok None) = Ok None
grown b (Err r) = Err r
grown b (Ok (Some s)) = reached (bind (bit_offset (s.bits + b)) (λ n. Ok (record { typ = s.typ; last = s.last; bits = n; parts = suc s.parts })))

-- The first equal name decides.
abbrev pub decided : Compat → Search → Search
decided fit s = bind fit (λ b. cond b s (Ok None))

-- What is looked for: a name, on behalf of a candidate, from a place of its walk
pub record Sought : Type 0 where
  pub name : List ℕ
  pub candidate : ℕ
  pub from : Target

-- From s to the member k of type i, whose own type is j; its bits and its part are not counted yet.
abbrev pub at_member : Target → ℕ → ℕ → ℕ → Target
at_member s i k j = record { typ = j; last = member i k; bits = s.bits; parts = s.parts }

-- The members of the type i (t) from index k on. `down` searches an unnamed member's type; `fits` tells whether a type fits the local member.
unfoldable pub level : (ℕ → Search) → (ℕ → Compat) → (ℕ → List ℕ) → Sought → ℕ → Ty → ℕ → List Entry → Search
level down fits text q i t k [] = Ok None
level down fits text q i t k (m ∷ ms) =
    let rest = level down fits text q i t (suc k) ms in
    let below = down m.typ in
    let fit = fits m.typ in
    cond (eqb q.from.parts max_spec_len) (Err (MaximumNesting q.candidate))
    (cond (is_empty (text m.name)) (or_else (grown (member_bits t m) below) rest)
    (cond (same_text q.name (text m.name)) (decided fit (grown (member_bits t m) (Ok (Some (at_member q.from i k m.typ))))) rest))

-- The members of a type, where it has any
abbrev pub members_of : (ℕ → Search) → (ℕ → Compat) → View → Sought → Reply ℕ → Search
members_of down fits T q end =
    bind end (λ i. cond (is_composite (T.typ i).kind) (level down fits T.text q i (T.typ i) 0 (T.typ i).entries) (Ok None))

-- An unnamed level that may not be entered
abbrev pub no_level : ℕ → Search
no_level i = Err TooDeep

-- The search from a type on, with this many unnamed levels below it allowed
unfoldable pub search : (ℕ → Compat) → View → Sought → ℕ → ℕ → Search
search fits T q zero i = members_of no_level fits T q (resolve T.typ i)
search fits T q (suc levels) i = members_of (search fits T q levels) fits T q (resolve T.typ i)

-- The local member m, in the target
unfoldable pub target_member : View → View → ℕ → Target → Entry → Search
target_member L T c s m =
    search (fields_compatible L T m.typ) T (record { name = L.text m.name; candidate = c; from = s }) max_levels s.typ

-- The element k of type j: the target counts its bits.
unfoldable pub at_element : (ℕ → Ty) → ℕ → Target → ℕ → ℕ → Reply Target
at_element typ c s k j =
    cond (eqb s.parts max_spec_len) (Err (MaximumNesting c))
    (bind (element_bits typ s.bits k j) (λ b. Ok (record { typ = j; last = element j k; bits = b; parts = suc s.parts })))

-- A target array of 0 elements is open where it is its struct's last member.
unfoldable pub target_open : Ty → Ty → ℕ → Bool
target_open array parent index = eqb array.extra 0 && (eqb parent.kind STRUCT && eqb (suc index) (length parent.entries))

-- The element k of the type t, which must be an array of more than k or open; p is the type of the accessor before
unfoldable pub target_element : (ℕ → Ty) → ℕ → Target → ℕ → Ty → Ty → Search
target_element typ c s k t p =
    let there = reached (bind (resolve typ t.ref) (at_element typ c s k)) in
    cond (not (eqb t.kind ARRAY)) (Ok None)
    (cond (not (target_open t p s.last.index) && leb t.extra k) (Ok None) there)

-- The same in the type that a chain ends at
abbrev pub target_element_at : (ℕ → Ty) → ℕ → Target → ℕ → Reply ℕ → Search
target_element_at typ c s k end = bind end (λ j. target_element typ c s k (typ j) (typ s.last.typ))

-- One accessor of the local path
unfoldable pub target_step : View → View → ℕ → Target → Accessor → Search
target_step L T c s a =
    cond a.named (target_member L T c s (nth_entry (L.typ a.typ) a.index))
    (target_element_at T.typ c s a.index (resolve T.typ s.typ))

-- The accessors after the first
unfoldable pub target_steps : View → View → ℕ → Target → List Accessor → Search
target_steps L T c s [] = Ok (Some s)
target_steps L T c s (a ∷ more) = next (target_step L T c s a) (λ u. target_steps L T c u more)

-- Before the first index
abbrev pub origin : Target
origin = record { typ = 0; last = nowhere; bits = 0; parts = 0 }

-- The local path followed in candidate c: its first index, then the rest
unfoldable pub field_match : View → View → List Accessor → ℕ → Search
field_match L T [] c = Ok None
field_match L T (a ∷ more) c =
    next (reached (bind (resolve T.typ c) (at_element T.typ c origin a.index))) (λ s. target_steps L T c s more)

-- A target's value need not be there.
abbrev pub perhaps : Reply Value → Option Value
perhaps (Ok v) = Some v
perhaps (Err r) = None

-- A match asks for the local value first, which must be there.
abbrev pub valued : Reply Value → ℕ → Reply Value → Event
valued mine bits theirs = bind mine (λ v. matched bits (perhaps theirs))

-- A path that leads somewhere matches, at its bits, with its last accessor's value.
abbrev pub field_event : (ℕ → Ty) → ℕ → Reply Value → Search → Event
field_event typ k mine (Ok None) = Ok None
field_event typ k mine (Err r) = Err r
field_event typ k mine (Ok (Some s)) = valued mine s.bits (field_value typ k s.last s.bits)

-- What candidate i gives to a record of kind k on the local type id, given what it accesses and its local value
unfoldable pub event : View → View → ℕ → ℕ → Access → Reply Value → ℕ → Event
event L T k id whole mine i = type_event (types_compatible L.typ T.typ id i) (type_value T.typ k i)
event L T k id (variant e x) mine i = enum_event_at T k (L.text (nth_entry (L.typ e) x).name) (resolve T.typ i)
event L T k id (path steps bits) mine i = field_event T.typ k mine (field_match L T steps i)

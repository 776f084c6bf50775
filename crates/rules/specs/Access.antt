-- An access string, and where it leads in the local types (document 01, section 5; the crate's AccessSpec::new).
--   struct a { int x; struct b { int y; struct { int z[4]; }; } s; };
--   "0:1:1:0:2" on a is ((struct a *)p)[0].s.z[2]: the accessors are [0], .s, .z, [2]; the unnamed struct's 1 adds its bits alone.
use Rattle.std.specs.Prelude.{ℕ, suc, ◌+◌, ◌-◌, ◌*◌, Bool, true, false, cond, ◌&&◌, not, List, [], ◌∷◌, ◌++◌, length, get_or, leb, eqb, ltb, Err, None, Ok, Option, Some}
use Rattle.rules.specs.Kinds.{is_composite, is_enum, is_field, is_type}
use Rattle.btf_kinds.specs.Names.{ARRAY, STRUCT}
use Rattle.rules.specs.Limits.{max_parts, number_limit}
use Rattle.btf_kinds.specs.Types.{Ty}
use Rattle.btf_view.specs.View.{View}
use Rattle.rules.specs.declared.Accessor.{Accessor}
use Rattle.rules.specs.declared.Step.{Step}
use Rattle.rules.specs.declared.Refusal.TheVariants.{BadAccess, IndexTooBig, WrongKind, TooManyParts}
use Rattle.rules.specs.Fields.{member_bits, nth_entry}
use Rattle.rules.specs.Refusal.{Reply, bind, bit_offset}
use Rattle.rules.specs.Types.{resolve, size_of, sized}

-- The string

-- `0` to `9`
abbrev pub is_digit : ℕ → Bool
is_digit x = leb 48 x && leb x 57

-- The number that digits make, after what was read; none where it passes 64 bits
unfoldable pub digits : ℕ → List ℕ → Option ℕ
digits n [] = cond (ltb n number_limit) (Some n) None
digits n (x ∷ xs) = let more = digits (10 * n + (x - 48)) xs in cond (is_digit x) more None

-- At least one digit
unfoldable pub decimal : List ℕ → Option ℕ
decimal [] = None
decimal (x ∷ xs) = digits 0 (x ∷ xs)

-- One leading `+` is allowed.
unfoldable pub part : List ℕ → Option ℕ
part [] = None
part (x ∷ xs) = cond (eqb x 43) (decimal xs) (decimal (x ∷ xs))

-- A byte put before the first of some texts
abbrev pub onto : ℕ → List (List ℕ) → List (List ℕ)
onto x [] = (x ∷ []) ∷ []
onto x (p ∷ ps) = (x ∷ p) ∷ ps

-- The texts between the colons
unfoldable pub split : List ℕ → List (List ℕ)
split [] = [] ∷ []
split (x ∷ xs) = let rest = split xs in cond (eqb x 58) ([] ∷ rest) (onto x rest)

-- One number more, where all are numbers
abbrev pub also : Option ℕ → Option (List ℕ) → Option (List ℕ)
also None ns = None
also (Some n) None = None
also (Some n) (Some ns) = Some (n ∷ ns)

-- The numbers of some texts; none where one of them is no number
unfoldable pub numbers : List (List ℕ) → Option (List ℕ)
numbers [] = Some []
numbers (t ∷ ts) = also (part t) (numbers ts)

-- All parts must be numbers, and then be no more than `max_parts`.
abbrev pub counted : Option (List ℕ) → Reply (List ℕ)
counted None = Err BadAccess
counted (Some ns) = cond (leb (length ns) max_parts) (Ok ns) (Err TooManyParts)

-- The parts of an access string, or refusal 7 or 15
unfoldable pub parse : List ℕ → Reply (List ℕ)
parse text = counted (numbers (split text))

-- The walk

-- The member k of the composite type i
abbrev pub member : ℕ → ℕ → Accessor
member i k = record { typ = i; index = k; named = true }

-- The element k, of type j
abbrev pub element : ℕ → ℕ → Accessor
element j k = record { typ = j; index = k; named = false }

-- Where a walk has come to: a type, by these accessors, at this bit offset
pub record Walk : Type 0 where
  pub typ : ℕ
  pub path : List Accessor
  pub bits : ℕ

-- The last accessor; a path always has its first index.
unfoldable pub last_from : Accessor → List Accessor → Accessor
last_from a [] = a
last_from a (b ∷ bs) = last_from b bs

-- Stands before any accessor
abbrev pub nowhere : Accessor
nowhere = element 0 0

-- The accessor that a path ends with
abbrev pub last : List Accessor → Accessor
last path = last_from nowhere path

-- FIRST ODDITY: the local walk's first index counts the type's bytes, though the sum is of bits. (The target's counts bits.)
unfoldable pub local_first_bits : ℕ → ℕ → ℕ
local_first_bits size index = index * size

-- SECOND ODDITY: the local array of 0 elements is open where the ARRAY INDEX is that of its struct's last member.
unfoldable pub local_open : Ty → Ty → ℕ → Bool
local_open array parent index = eqb array.extra 0 && (eqb parent.kind STRUCT && eqb (suc index) (length parent.entries))

-- To a type at some bits, by an accessor or by none
abbrev pub by : Accessor → ℕ → ℕ → Step
by a j b = record { by = Some a; typ = j; bits = b }

abbrev pub within : ℕ → ℕ → Step
within j b = record { by = None; typ = j; bits = b }

-- What was accessed, by the record's kind: a type as a whole, a variant of an enum, a path of fields
pub data Access : Type 0 where
  whole : Access
  variant : ℕ → ℕ → Access
  path : List Accessor → ℕ → Access

-- To the member k of the type i (t): its bits count, and where it has a name it is an accessor.
unfoldable pub local_member : ℕ → ℕ → ℕ → Ty → Reply Step
local_member bits k i t =
    let m = nth_entry t k in
    cond (leb (length t.entries) k) (Err (IndexTooBig k (length t.entries)))
    (bind (bit_offset (bits + member_bits t m)) (λ b. Ok (cond (eqb m.name 0) (within m.typ b) (by (member i k) m.typ b))))

-- The bits of the element k, of type j, in an array that begins at some bits
unfoldable pub element_bits : (ℕ → Ty) → ℕ → ℕ → ℕ → Reply ℕ
element_bits typ bits k j = sized (size_of typ j) (λ s. bind (bit_offset (k * s * 8)) (λ e. bit_offset (bits + e)))

-- To the element k of the array t, its type j being resolved; `parent` is the type of the accessor before it
unfoldable pub local_element : (ℕ → Ty) → Ty → ℕ → ℕ → Ty → ℕ → Reply Step
local_element typ parent bits k t j =
    let there = bind (element_bits typ bits k j) (λ b. Ok (by (element j k) j b)) in
    cond (local_open t parent k) there (cond (leb t.extra k) (Err (IndexTooBig k t.extra)) there)

-- One part, at the resolved type i
unfoldable pub local_step : (ℕ → Ty) → Ty → ℕ → ℕ → ℕ → Reply Step
local_step typ parent bits k i =
    let t = typ i in
    cond (is_composite t.kind) (local_member bits k i t)
    (cond (eqb t.kind ARRAY) (bind (resolve typ t.ref) (local_element typ parent bits k t)) (Err WrongKind))

-- A path, an accessor further where the step has one
abbrev pub onward : List Accessor → Option Accessor → List Accessor
onward front None = front
onward front (Some a) = front ++ a ∷ []

-- A walk, a step further
abbrev pub walked : Walk → Step → Walk
walked w s = record { typ = s.typ; path = onward w.path s.by; bits = s.bits }

-- The parts after the first, each at the type come to, without its modifiers
unfoldable pub local_steps : (ℕ → Ty) → Walk → List ℕ → Reply Walk
local_steps typ w [] = Ok w
local_steps typ w (k ∷ ks) =
    bind (bind (resolve typ w.typ) (local_step typ (typ (last w.path).typ) w.bits k)) (λ s. local_steps typ (walked w s) ks)

-- The walk that begins with the index k of type i
abbrev pub begun : ℕ → ℕ → ℕ → Walk
begun i k b = record { typ = i; path = element i k ∷ []; bits = b }

-- The bits of the first index, k, of type i
unfoldable pub first_bits : (ℕ → Ty) → ℕ → ℕ → Reply ℕ
first_bits typ k i = sized (size_of typ i) (λ s. bit_offset (local_first_bits s k))

-- The first index, then the rest (there is always a first)
unfoldable pub local_walk : (ℕ → Ty) → ℕ → List ℕ → Reply Walk
local_walk typ i [] = Err BadAccess
local_walk typ i (k ∷ ks) = bind (first_bits typ k i) (λ b. local_steps typ (begun i k b) ks)

-- What a walk has found
abbrev pub found : Walk → Reply Access
found w = Ok (path w.path w.bits)

-- A field of the type i
unfoldable pub field_access : (ℕ → Ty) → ℕ → List ℕ → Reply Access
field_access typ i ks = bind (local_walk typ i ks) found

-- A type as a whole takes exactly the part 0.
unfoldable pub type_access : List ℕ → Reply Access
type_access ks = cond (eqb (length ks) 1 && eqb (get_or ks 0 0) 0) (Ok whole) (Err BadAccess)

-- A variant takes exactly one part, below the n variants of the enum i.
unfoldable pub variant_at : ℕ → ℕ → List ℕ → Reply Access
variant_at i n ks =
    let k = get_or ks 0 0 in
    cond (not (eqb (length ks) 1)) (Err BadAccess)
    (cond (ltb k n) (Ok (variant i k)) (Err (IndexTooBig k n)))

-- A variant of the enum i; anything else is the wrong kind, whatever the parts
unfoldable pub enum_access : (ℕ → Ty) → ℕ → List ℕ → Reply Access
enum_access typ i ks = cond (is_enum (typ i).kind) (variant_at i (length (typ i).entries) ks) (Err WrongKind)

-- What a record of kind k accesses, at the type i that is no modifier
unfoldable pub local_access : View → ℕ → ℕ → List ℕ → Reply Access
local_access L k i ks = cond (is_field k) (field_access L.typ i ks) (cond (is_type k) (type_access ks) (enum_access L.typ i ks))

-- Questions about one type and about two (document 01, section 5; the crate's resolve_type, type_size, types_are_compatible, fields_are_compatible).
use Rattle.std.specs.Prelude.{ℕ, zero, suc, ◌-◌, ◌*◌, Bool, true, false, cond, ◌&&◌, ◌||◌, not, List, [], ◌∷◌, length, get_or, eqb, ltb, Err, None, Ok, Option, Result, Some}
use Rattle.rules.specs.Kinds.{is_modifier, is_composite, is_enum, sized_by_ref, alike}
use Rattle.btf_kinds.specs.Names.{VOID, INT, PTR, ARRAY, FWD, FUNC_PROTO, FLOAT}
use Rattle.rules.specs.Limits.{max_resolve_depth, max_steps, size_limit}
use Rattle.btf_kinds.specs.declared.Entry.{Entry}
use Rattle.btf_kinds.specs.Kinds.{has_size}
use Rattle.btf_kinds.specs.Types.{Ty}
use Rattle.btf_view.specs.View.{View}
use Rattle.rules.specs.declared.Why.TheVariants.{ChainTooLong, KindWithoutSize, ProductTooBig}
use Rattle.rules.specs.declared.Refusal.TheVariants.{Unresolved, TooDeep}
use Rattle.rules.specs.Fields.{int_offset}
use Rattle.rules.specs.Refusal.{Reply, bind}
use Rattle.rules.specs.declared.Unsized.{Unsized}

-- Chains

-- The modifiers from an id on are skipped, with f types looked at.
unfoldable pub chain : (ℕ → Ty) → ℕ → ℕ → Reply ℕ
chain typ zero i = Err Unresolved
chain typ (suc f) i = let next = chain typ f (typ i).ref in cond (is_modifier (typ i).kind) next (Ok i)

-- The type that an id names, whatever qualifies it (`resolve_type`)
unfoldable pub resolve : (ℕ → Ty) → ℕ → Reply ℕ
resolve typ i = chain typ max_resolve_depth i

-- Sizes

-- A size of its own: the size word, and 8 for a pointer
abbrev pub own_size : Ty → Option ℕ
own_size t = cond (eqb t.kind PTR) (Some 8) (cond (has_size t.kind) (Some t.size) None)

-- n times s bytes, met at the id i
abbrev pub product : ℕ → ℕ → ℕ → Result ℕ Unsized
product i n s = cond (ltb (n * s) size_limit) (Ok (n * s)) (Err (record { why = ProductTooBig; id = i }))

-- Where a type has a size of its own, it counts n times; else the size comes from elsewhere.
abbrev pub times : ℕ → ℕ → Option ℕ → Result ℕ Unsized → Result ℕ Unsized
times i n (Some s) other = product i n s
times i n None other = other

-- The size of n elements of a type, with f types looked at. The innermost length of nested arrays alone counts.
unfoldable pub elements : (ℕ → Ty) → ℕ → ℕ → ℕ → Result ℕ Unsized
elements typ zero n i = Err (record { why = ChainTooLong; id = i })
elements typ (suc f) n i =
    let element = elements typ f (typ i).extra (typ i).ref in
    let same = elements typ f n (typ i).ref in
    times i n (own_size (typ i))
    (cond (eqb (typ i).kind ARRAY) element (cond (sized_by_ref (typ i).kind) same (Err (record { why = KindWithoutSize; id = i }))))

-- The size of a type (`type_size`)
unfoldable pub size_of : (ℕ → Ty) → ℕ → Result ℕ Unsized
size_of typ i = elements typ max_resolve_depth 1 i

-- The stage after a size
abbrev pub sized : {A : Type 0} → Result ℕ Unsized → (ℕ → Reply A) → Reply A
sized (Ok n) next = next n
sized (Err z) next = Err Unresolved

-- Names

-- No name at all
abbrev pub is_empty : List ℕ → Bool
is_empty [] = true
is_empty (x ∷ xs) = false

-- Byte for byte the same
unfoldable pub same_text : List ℕ → List ℕ → Bool
same_text [] [] = true
same_text [] (y ∷ ys) = false
same_text (x ∷ xs) [] = false
same_text (x ∷ xs) (y ∷ ys) = eqb x y && same_text xs ys

-- Three underscores stand first.
abbrev pub flavour_begins : List ℕ → Bool
flavour_begins xs = eqb (get_or xs 0 0) 95 && (eqb (get_or xs 1 0) 95 && eqb (get_or xs 2 0) 95)

-- A name up to its first `___`
unfoldable pub flavourless : List ℕ → List ℕ
flavourless [] = []
flavourless (x ∷ xs) = let rest = flavourless xs in cond (flavour_begins (x ∷ xs)) [] (x ∷ rest)

-- The same but for flavours
abbrev pub same_flavourless : List ℕ → List ℕ → Bool
same_flavourless xs ys = same_text (flavourless xs) (flavourless ys)

-- Compatibility

-- Whether two types are compatible. It cannot be told where a chain or a depth of the crate's own does not end or a kind cannot stand there (14),
-- or past the bound of nested steps (17).
abbrev pub Compat : Type 0
Compat = Reply Bool

-- What comes next, where all is compatible so far
abbrev pub and_then : Compat → Compat → Compat
and_then fit next = bind fit (λ b. cond b next (Ok false))

-- Two types without their modifiers, handed to a check
abbrev pub both : (Ty → Ty → Compat) → (ℕ → Ty) → (ℕ → Ty) → Reply ℕ → Reply ℕ → Compat
both check L T x y = bind x (λ i. bind y (λ j. check (L i) (T j)))

-- Two INTs are compatible where neither has an offset.
abbrev pub ints_agree : Ty → Ty → Bool
ints_agree l t = eqb (int_offset l) 0 && eqb (int_offset t) 0

-- Kinds that are compatible with their like whatever they hold
abbrev pub always : ℕ → Bool
always k = eqb k VOID || is_composite k || is_enum k || eqb k FWD || eqb k FLOAT

-- The parameters of two lists of one length, in pairs
unfoldable pub pairs : (ℕ → ℕ → Compat) → List Entry → List Entry → Compat
pairs check [] qs = Ok true
pairs check (p ∷ ps) [] = Ok true
pairs check (p ∷ ps) (q ∷ qs) = let rest = pairs check ps qs in and_then (check p.typ q.typ) rest

-- The parameter lists of two functions
unfoldable pub params : (ℕ → ℕ → Compat) → List Entry → List Entry → Compat
params check ps qs = let all = pairs check ps qs in cond (eqb (length ps) (length qs)) all (Ok false)

-- Two types without modifiers. `down` goes a step on, to pointees, elements or return types; `param` a step into a parameter.
unfoldable pub meet : (ℕ → ℕ → Compat) → (ℕ → ℕ → Compat) → Ty → Ty → Compat
meet down param l t =
    let next = down l.ref t.ref in
    let list = params param l.entries t.entries in
    cond (not (alike l.kind t.kind)) (Ok false)
    (cond (always l.kind) (Ok true)
    (cond (eqb l.kind INT) (Ok (ints_agree l t))
    (cond (eqb l.kind PTR || eqb l.kind ARRAY) next
    (cond (eqb l.kind FUNC_PROTO) (and_then list next) (Err Unresolved)))))

-- A step that may not be taken
abbrev pub no_step : ℕ → ℕ → Compat
no_step a b = Err TooDeep

-- Type compatibility with `left` nested steps allowed, and `own` turns in the crate's own loop, which begins afresh for each parameter
unfoldable pub types_within : (ℕ → Ty) → (ℕ → Ty) → ℕ → ℕ → ℕ → ℕ → Compat
types_within L T zero own a b = cond (eqb own 0) (Err Unresolved) (both (meet no_step no_step) L T (resolve L a) (resolve T b))
types_within L T (suc left) own a b =
    let met = both (meet (types_within L T left (own - 1)) (types_within L T left max_resolve_depth)) L T (resolve L a) (resolve T b) in
    cond (eqb own 0) (Err Unresolved) met

-- The two types that these ids name (`types_are_compatible`)
unfoldable pub types_compatible : (ℕ → Ty) → (ℕ → Ty) → ℕ → ℕ → Compat
types_compatible L T a b = types_within L T max_steps max_resolve_depth a b

-- Two fields' types without modifiers; `down` goes on to elements. FWDs and enums are compared by name.
unfoldable pub meet_fields : (ℕ → ℕ → Compat) → (ℕ → List ℕ) → (ℕ → List ℕ) → Ty → Ty → Compat
meet_fields down ltext ttext l t =
    let next = down l.ref t.ref in
    cond (is_composite l.kind && is_composite t.kind) (Ok true)
    (cond (not (alike l.kind t.kind)) (Ok false)
    (cond (eqb l.kind FWD || is_enum l.kind) (Ok (same_flavourless (ltext l.name) (ttext t.name)))
    (cond (eqb l.kind INT) (Ok (ints_agree l t))
    (cond (eqb l.kind FLOAT || eqb l.kind PTR) (Ok true)
    (cond (eqb l.kind ARRAY) next (Err Unresolved))))))

-- Field compatibility with `own` turns in the crate's loop
unfoldable pub fields_within : View → View → ℕ → ℕ → ℕ → Compat
fields_within L T zero a b = Err Unresolved
fields_within L T (suc own) a b =
    both (meet_fields (fields_within L T own) L.text T.text) L.typ T.typ (resolve L.typ a) (resolve T.typ b)

-- The types of two members (`fields_are_compatible`)
unfoldable pub fields_compatible : View → View → ℕ → ℕ → Compat
fields_compatible L T a b = fields_within L T max_resolve_depth a b

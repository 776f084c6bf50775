-- Field compatibility, worked (document 01, section 5).
use Prim.Native.Nat.{ℕ}
use mathlib.Core.Path.{◌≡◌, refl}
use mathlib.Core.List.{List, [], ◌∷◌}
use Rattle.btf_kinds.specs.Types.{Ty}
use Rattle.rules.specs.Types.{chain, resolve, same_text, flavourless, meet_fields, fields_within, fields_compatible, Compat}
use Rattle.worked_types.proofs.Make.{sized_as, refers, named, int_at, int, ints, function, types, linked, view_of}
use Rattle.std.specs.Prelude.{Err, Ok, false, true}
use Rattle.rules.specs.declared.Refusal.TheVariants.{Unresolved}

-- Types by id against types by id, from id 1 on, where nothing has a name
abbrev pub check : (ℕ → Ty) → (ℕ → Ty) → Compat
check L T = fields_compatible (view_of L []) (view_of T []) 1 1

-- One type against another
abbrev pub pair : Ty → Ty → Compat
pair l t = check (types (l ∷ [])) (types (t ∷ []))

-- A type of a kind against itself, under these names
abbrev pub names : ℕ → List ℕ → List ℕ → Compat
names k xs ys = fields_compatible (view_of (types (named k 1 ∷ [])) xs) (view_of (types (named k 1 ∷ [])) ys) 1 1

-- 31 arrays pass, 32 are a fault of the crate's own.
pub arrays : (check (linked (refers 3) 31 ints) (linked (refers 3) 31 ints) ≡ Ok true)
    × (check (linked (refers 3) 32 ints) (linked (refers 3) 32 ints) ≡ Err Unresolved)
unfolding fields_compatible fields_within meet_fields resolve chain
arrays = (refl, refl)

-- 31 modifiers are skipped on either side, 32 are a fault.
pub modifiers : (check (linked (refers 8) 31 ints) ints ≡ Ok true) × (check ints (linked (refers 18) 31 ints) ≡ Ok true)
    × (check (linked (refers 8) 32 ints) ints ≡ Err Unresolved) × (check ints (linked (refers 18) 32 ints) ≡ Err Unresolved)
unfolding fields_compatible fields_within meet_fields resolve chain
modifiers = (refl, refl, refl, refl)

-- STRUCT 4 and UNION 5 are alike; PTR 2 and FLOAT 16 whatever they are of; an INT's offset counts on either side.
pub likes : (pair (sized_as 4 4) (sized_as 5 8) ≡ Ok true) × (pair (sized_as 4 4) int ≡ Ok false) × (pair (refers 2 0) (refers 2 1) ≡ Ok true)
    × (pair (sized_as 16 4) (sized_as 16 8) ≡ Ok true) × (pair (int_at 65536) int ≡ Ok false) × (pair int (int_at 65536) ≡ Ok false)
unfolding fields_compatible fields_within meet_fields resolve chain
likes = (refl, refl, refl, refl, refl, refl)

-- FWD 7, ENUM 6 and ENUM64 19 go by their names without flavour: `ab` and `ab___c`, `ab` and `a`.
pub by_name : (names 7 (97 ∷ 98 ∷ []) (97 ∷ 98 ∷ 95 ∷ 95 ∷ 95 ∷ 99 ∷ []) ≡ Ok true) × (names 7 (97 ∷ 98 ∷ []) (97 ∷ []) ≡ Ok false)
    × (names 6 (97 ∷ 98 ∷ []) (97 ∷ 98 ∷ 95 ∷ 95 ∷ 95 ∷ 99 ∷ []) ≡ Ok true) × (names 19 (97 ∷ 98 ∷ []) (97 ∷ []) ≡ Ok false)
    × (pair (sized_as 6 4) (sized_as 19 8) ≡ Ok true)
unfolding fields_compatible fields_within meet_fields resolve chain flavourless same_text
by_name = (refl, refl, refl, refl, refl)

-- Void and functions cannot be a member's type.
pub impossible : (check (types []) (types []) ≡ Err Unresolved) × (pair (function [] 0) (function [] 0) ≡ Err Unresolved)
unfolding fields_compatible fields_within meet_fields resolve chain
impossible = (refl, refl)

-- Type compatibility, worked (document 01, sections 2 and 5).
use Prim.Native.Nat.{ℕ}
use mathlib.Core.Path.{◌≡◌, refl}
use mathlib.Core.List.{[], ◌∷◌}
use Rattle.btf_kinds.specs.Types.{Ty}
use Rattle.rules.specs.Types.{chain, resolve, pairs, params, meet, types_within, types_compatible, Compat}
use Rattle.worked_types.proofs.Make.{sized_as, refers, int_at, int, ints, function, types, linked}
use Rattle.std.specs.Prelude.{Err, Ok, false, true}
use Rattle.rules.specs.declared.Refusal.TheVariants.{TooDeep, Unresolved}

-- Types by id against types by id, from id 1 on; and types against themselves
abbrev pub check : (ℕ → Ty) → (ℕ → Ty) → Compat
check L T = types_compatible L T 1 1

abbrev pub itself : (ℕ → Ty) → Compat
itself L = check L L

-- 31 modifiers are skipped on either side, 32 are a fault of the crate's own.
pub modifiers : (check (linked (refers 8) 31 ints) (types (int ∷ [])) ≡ Ok true) × (check (types (int ∷ [])) (linked (refers 10) 31 ints) ≡ Ok true)
    × (check (linked (refers 8) 32 ints) (types (int ∷ [])) ≡ Err Unresolved) × (check (types (int ∷ [])) (linked (refers 10) 32 ints) ≡ Err Unresolved)
unfolding types_compatible types_within meet params pairs resolve chain
modifiers = (refl, refl, refl, refl)

-- 31 pointers, or arrays, pass; 32 are a fault of the crate's own.
pub pointers : (itself (linked (refers 2) 31 ints) ≡ Ok true) × (itself (linked (refers 2) 32 ints) ≡ Err Unresolved)
    × (itself (linked (refers 3) 31 ints) ≡ Ok true) × (itself (linked (refers 3) 32 ints) ≡ Err Unresolved)
unfolding types_compatible types_within meet params pairs resolve chain
pointers = (refl, refl, refl, refl)

-- A function that takes the next, and gives nothing
abbrev pub takes : ℕ → Ty
takes i = function (i ∷ []) 0

-- A function that takes nothing, and gives the next
abbrev pub gives : ℕ → Ty
gives i = function [] i

-- 32 steps through parameters pass, 33 are beyond the bound.
pub nested_32 : itself (linked takes 32 ints) ≡ Ok true
unfolding types_compatible types_within meet params pairs resolve chain
nested_32 = refl

pub nested_33 : itself (linked takes 33 ints) ≡ Err TooDeep
unfolding types_compatible types_within meet params pairs resolve chain
nested_33 = refl

-- Return types are the crate's own turns: 31 pass, 32 are its fault.
pub returned : (itself (linked gives 31 ints) ≡ Ok true) × (itself (linked gives 32 ints) ≡ Err Unresolved)
unfolding types_compatible types_within meet params pairs resolve chain
returned = (refl, refl)

-- A parameter that is 31 pointers deep is 32 steps away. One that is 32 deep is beyond the bound, before the crate's own fault.
pub parameter_31 : itself (linked takes 1 (linked (refers 2) 32 ints)) ≡ Ok true
unfolding types_compatible types_within meet params pairs resolve chain
parameter_31 = refl

pub parameter_32 : itself (linked takes 1 (linked (refers 2) 33 ints)) ≡ Err TooDeep
unfolding types_compatible types_within meet params pairs resolve chain
parameter_32 = refl

-- Behind 31 pointers a function's parameter is looked at, before its return type is the crate's fault.
pub behind-pointers : (itself (linked (refers 2) 31 (linked takes 32 ints)) ≡ Err Unresolved)
    × (check (linked (refers 2) 31 (linked takes 32 ints)) (linked (refers 2) 31 (linked takes 32 (λ i. sized_as 4 4))) ≡ Ok false)
unfolding types_compatible types_within meet params pairs resolve chain
behind-pointers = (refl, refl)

-- Functions of two parameters: each counts, the last too; and how many there are is asked first.
abbrev pub two : Ty → ℕ → Ty
two t = types (function (2 ∷ 3 ∷ []) 0 ∷ int ∷ t ∷ [])

pub lists : (check (two int) (two (sized_as 4 4)) ≡ Ok false) × (check (two int) (two int) ≡ Ok true)
    × (check (two int) (types (function (2 ∷ []) 0 ∷ int ∷ [])) ≡ Ok false) × (check (types (function (2 ∷ []) 0 ∷ int ∷ [])) (two int) ≡ Ok false)
unfolding types_compatible types_within meet params pairs resolve chain
lists = (refl, refl, refl, refl)

-- A return type counts.
pub results : check (types (function [] 2 ∷ int ∷ [])) (types (function [] 2 ∷ sized_as 4 4 ∷ [])) ≡ Ok false
unfolding types_compatible types_within meet params pairs resolve chain
results = refl

-- An INT's offset, bits 16 to 23, on either side; its size and its other bits do not count.
pub offsets : (check (types (int_at 65536 ∷ [])) (types (int ∷ [])) ≡ Ok false) × (check (types (int ∷ [])) (types (int_at 65536 ∷ [])) ≡ Ok false)
    × (check (types (int_at 16777248 ∷ [])) (types (sized_as 1 8 ∷ [])) ≡ Ok true)
unfolding types_compatible types_within meet params pairs resolve chain
offsets = (refl, refl, refl)

-- ENUM 6 and ENUM64 19 are alike, STRUCT 4 and UNION 5 are not; structs are alike whatever they hold.
pub likes : (check (types (sized_as 6 4 ∷ [])) (types (sized_as 19 8 ∷ [])) ≡ Ok true)
    × (check (types (sized_as 4 4 ∷ [])) (types (sized_as 5 4 ∷ [])) ≡ Ok false)
    × (check (types (sized_as 4 4 ∷ [])) (types (sized_as 4 8 ∷ [])) ≡ Ok true) × (check (types []) (types []) ≡ Ok true)
unfolding types_compatible types_within meet params pairs resolve chain
likes = (refl, refl, refl, refl)

-- FUNC 12, VAR 14, DATASEC 15 and DECL_TAG 17 cannot stand there.
pub impossible : (itself (types (refers 12 0 ∷ [])) ≡ Err Unresolved) × (itself (types (refers 14 0 ∷ [])) ≡ Err Unresolved)
    × (itself (types (sized_as 15 0 ∷ [])) ≡ Err Unresolved) × (itself (types (refers 17 0 ∷ [])) ≡ Err Unresolved)
unfolding types_compatible types_within meet params pairs resolve chain
impossible = (refl, refl, refl, refl)

-- Chains and sizes, worked (document 01, sections 2 and 5).
use mathlib.Core.Path.{◌≡◌, refl}
use mathlib.Core.List.{[], ◌∷◌}
use Rattle.btf_kinds.specs.Kinds.{has_size}
use Rattle.rules.specs.declared.Why.TheVariants.{ChainTooLong, KindWithoutSize, ProductTooBig}
use Rattle.rules.specs.Types.{chain, resolve, elements, size_of}
use Rattle.worked_types.proofs.Make.{refers, int, array, function, types, linked, ints}
use Rattle.std.specs.Prelude.{Err, Ok}
use Rattle.rules.specs.declared.Refusal.TheVariants.{Unresolved}

-- TYPEDEF 8, VOLATILE 9, CONST 10, RESTRICT 11 and TYPE_TAG 18 are skipped, 31 of them.
pub modifiers_31 : (resolve (linked (refers 8) 31 ints) 1 ≡ Ok 32) × (resolve (linked (refers 9) 31 ints) 1 ≡ Ok 32)
    × (resolve (linked (refers 10) 31 ints) 1 ≡ Ok 32) × (resolve (linked (refers 11) 31 ints) 1 ≡ Ok 32) × (resolve (linked (refers 18) 31 ints) 1 ≡ Ok 32)
unfolding resolve chain
modifiers_31 = (refl, refl, refl, refl, refl)

-- 32 of them end nowhere.
pub modifiers_32 : (resolve (linked (refers 8) 32 ints) 1 ≡ Err Unresolved) × (resolve (linked (refers 9) 32 ints) 1 ≡ Err Unresolved)
    × (resolve (linked (refers 10) 32 ints) 1 ≡ Err Unresolved) × (resolve (linked (refers 11) 32 ints) 1 ≡ Err Unresolved)
    × (resolve (linked (refers 18) 32 ints) 1 ≡ Err Unresolved)
unfolding resolve chain
modifiers_32 = (refl, refl, refl, refl, refl)

-- FWD 7, FUNC 12 and DECL_TAG 17 are no modifiers.
pub no-modifiers : (resolve (linked (refers 7) 1 ints) 1 ≡ Ok 1) × (resolve (linked (refers 12) 1 ints) 1 ≡ Ok 1)
    × (resolve (linked (refers 17) 1 ints) 1 ≡ Ok 1)
unfolding resolve chain
no-modifiers = (refl, refl, refl)

-- The size behind 31 typedefs, and behind 32, where the id not looked at any more is named
pub size-behind : (size_of (linked (refers 8) 31 ints) 1 ≡ Ok 4) × (size_of (linked (refers 8) 32 ints) 1 ≡ Err (record { why = ChainTooLong; id = 33 }))
unfolding size_of elements has_size
size-behind = (refl, refl)

-- `int a[2][3]` has 12 bytes and `int a[0][5]` has 20: the innermost length alone counts.
pub nested_arrays : (size_of (types (array 2 2 ∷ array 3 3 ∷ int ∷ [])) 1 ≡ Ok 12) × (size_of (types (array 0 2 ∷ array 5 3 ∷ int ∷ [])) 1 ≡ Ok 20)
unfolding size_of elements has_size
nested_arrays = (refl, refl)

-- A pointer, and what has the size of another: a function its return type's, VAR 14 and DECL_TAG 17 their type's
pub borrowed_sizes : (size_of (types (refers 2 0 ∷ [])) 1 ≡ Ok 8) × (size_of (types (function [] 2 ∷ int ∷ [])) 1 ≡ Ok 4)
    × (size_of (types (refers 14 2 ∷ int ∷ [])) 1 ≡ Ok 4) × (size_of (types (refers 17 2 ∷ int ∷ [])) 1 ≡ Ok 4)
unfolding size_of elements has_size
borrowed_sizes = (refl, refl, refl, refl)

-- Void, FWD 7 and FUNC 12 have none.
pub no-sizes : (size_of (types []) 0 ≡ Err (record { why = KindWithoutSize; id = 0 }))
    × (size_of (types (refers 7 0 ∷ [])) 1 ≡ Err (record { why = KindWithoutSize; id = 1 }))
    × (size_of (types (refers 12 0 ∷ [])) 1 ≡ Err (record { why = KindWithoutSize; id = 1 }))
unfolding size_of elements has_size
no-sizes = (refl, refl, refl)

-- 2^32 - 4 bytes pass, 2^32 do not; the element is named.
pub greatest : (size_of (types (array 1073741823 2 ∷ int ∷ [])) 1 ≡ Ok 4294967292)
    × (size_of (types (array 1073741824 2 ∷ int ∷ [])) 1 ≡ Err (record { why = ProductTooBig; id = 2 }))
unfolding size_of elements has_size
greatest = (refl, refl)

-- The examples that the definitions' comments tell in C, computed.
-- Assumes nothing.
use mathlib.Core.Path.{◌≡◌, refl}
use mathlib.Core.Bool.{true}
use Prim.Native.Nat.{ℕ}
use mathlib.Core.List.{List, [], ◌∷◌, ◌++◌}
use Rattle.btf_kinds.specs.Kinds.{has_size}
use Rattle.btf_view.specs.Text.{text_at, cut}
use Rattle.btf_view.specs.View.{View}
use Rattle.rules.specs.declared.Why.TheVariants.{KindWithoutSize}
use Rattle.btf_kinds.specs.Names.{PTR}
use Rattle.rules.specs.Types.{resolve, chain, size_of, elements, flavourless, same_text, types_compatible, types_within, meet, fields_compatible}
use Rattle.rules.specs.Types.{fields_within, meet_fields}
use Rattle.rules.specs.Access.{member, element, last_from, local_first_bits, local_open, local_member, element_bits, local_element, local_step}
use Rattle.rules.specs.Access.{local_steps, first_bits, local_walk}
use Rattle.rules.specs.declared.Refusal.TheVariants.{NoSuccessor}
use Rattle.rules.specs.declared.Write.TheVariants.{Poison}
use Rattle.rules.specs.Apply.{done, stopped, code, poisoned, also_next, poison, patch_front, patch}
use Rattle.rules.specs.Matching.{is_candidate, field_match, target_steps, target_step, target_member, search, level, at_element}
use Rattle.worked_rules.specs.Make.{listed, int_of, struct, array_of, to, view_from}
use Rattle.std.specs.Prelude.{Err, Ok, Some, false}

-- struct a { int x; struct b { int y; struct { int z[4]; }; } s; };
--   1 int; 2 struct a; 3 struct b; 4 the unnamed struct; 5 int[4]; 6 int[2][4]; 7 const struct a; 8 struct a *
abbrev pub A : View
A = view_from (
    int_of 4 0x1000020 ∷ struct 1 24 (listed 3 1 0 ∷ listed 5 3 32 ∷ []) ∷ struct 7 20 (listed 9 1 0 ∷ listed 0 4 32 ∷ []) ∷ struct 0 16 (listed 11 5 0 ∷ [])
    ∷ array_of 1 4 ∷ array_of 5 2 ∷ to 10 2 ∷ to PTR 2 ∷ []
    ) (0 ∷ 97 ∷ 0 ∷ 120 ∷ 0 ∷ 115 ∷ 0 ∷ 98 ∷ 0 ∷ 121 ∷ 0 ∷ 122 ∷ 0 ∷ [])

-- const struct a is struct a.
pub chains : resolve A.typ 7 ≡ Ok 2
unfolding resolve chain
chains = refl

-- It has 24 bytes; int[2][4] has 16, as the crate counts; void has no size.
pub sizes : (size_of A.typ 7 ≡ Ok 24) × (size_of A.typ 6 ≡ Ok 16) × (size_of A.typ 0 ≡ Err (record { why = KindWithoutSize; id = 0 }))
unfolding size_of elements has_size
sizes = (refl, refl, refl)

-- a___v2 without its flavour is a; a__v has none.
pub flavours : (flavourless (97 ∷ 95 ∷ 95 ∷ 95 ∷ 118 ∷ 50 ∷ []) ≡ 97 ∷ []) × (flavourless (97 ∷ 95 ∷ 95 ∷ 118 ∷ []) ≡ 97 ∷ 95 ∷ 95 ∷ 118 ∷ [])
unfolding flavourless
flavours = (refl, refl)

-- "0:1:1:0:2" on a: [0], .s, .z, [2], at bit 32 + 32 + 0 + 64
pub walk : local_walk A.typ 2 (0 ∷ 1 ∷ 1 ∷ 0 ∷ 2 ∷ [])
    ≡ Ok (record { typ = 1; path = element 2 0 ∷ member 2 1 ∷ member 4 0 ∷ element 1 2 ∷ []; bits = 128 })
unfolding local_walk first_bits local_steps local_step local_member local_element element_bits local_open local_first_bits last_from resolve chain size_of elements has_size
walk = refl

-- struct a { int x; int y; };
--   1 int; 2 struct a
abbrev pub B : View
B = view_from (int_of 4 0x1000020 ∷ struct 1 8 (listed 3 1 0 ∷ listed 5 1 32 ∷ []) ∷ []) (0 ∷ 97 ∷ 0 ∷ 120 ∷ 0 ∷ 121 ∷ 0 ∷ [])

-- struct a___v2 { char c; struct { int x; int y; }; };
--   1 int; 2 char; 3 the unnamed struct; 4 struct a___v2
abbrev pub C : View
C = view_from (int_of 4 0x1000020 ∷ int_of 1 8 ∷ struct 0 8 (listed 1 1 0 ∷ listed 3 1 32 ∷ []) ∷ struct 5 12 (listed 12 2 0 ∷ listed 0 3 32 ∷ []) ∷ [])
    (0 ∷ 120 ∷ 0 ∷ 121 ∷ 0 ∷ 97 ∷ 95 ∷ 95 ∷ 95 ∷ 118 ∷ 50 ∷ 0 ∷ 99 ∷ 0 ∷ [])

-- a___v2 is a candidate for a.
pub candidate : is_candidate (B.typ 2) (B.text 1) (C.typ 4) (C.text 5) ≡ true
unfolding is_candidate same_text flavourless text_at cut
candidate = refl

-- y of a, in a___v2: at bit 32 of the unnamed struct at bit 32; three parts
pub match : field_match B C (element 2 0 ∷ member 2 1 ∷ []) 4 ≡ Ok (Some (record { typ = 1; last = member 3 1; bits = 64; parts = 3 }))
unfolding field_match target_steps target_step target_member search level at_element element_bits resolve chain size_of elements same_text fields_compatible fields_within meet_fields text_at cut has_size
match = refl

-- A struct is compatible with any struct, and not with a pointer.
pub compatible : (types_compatible A.typ C.typ 7 4 ≡ Ok true) × (types_compatible A.typ A.typ 2 8 ≡ Ok false)
unfolding types_compatible types_within meet resolve chain
compatible = (refl, refl)

-- Section 7: poison, of the second of two instructions, of both halves of a 64-bit immediate, and of one without its successor
abbrev pub call : List ℕ
call = 0x85 ∷ 0 ∷ 0 ∷ 0 ∷ 0x10 ∷ 0x23 ∷ 0xad ∷ 0x0b ∷ []

abbrev pub load : List ℕ
load = 0x61 ∷ 0x12 ∷ 8 ∷ 0 ∷ 0 ∷ 0 ∷ 0 ∷ 0 ∷ []

abbrev pub wide : List ℕ
wide = 0x18 ∷ 1 ∷ 0 ∷ 0 ∷ 4 ∷ 0 ∷ 0 ∷ 0 ∷ []

pub poisons : (patch (load ++ load) 1 Poison ≡ done (load ++ call)) × (patch (wide ++ load) 0 Poison ≡ done (call ++ call))
    × (patch (load ++ wide) 1 Poison ≡ stopped (NoSuccessor 2) (load ++ call))
unfolding patch patch_front poison code poisoned also_next
poisons = (refl, refl, refl)

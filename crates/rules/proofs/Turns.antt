-- One turn of each walk as the code's loops meet it: with n turns left and then n - 1, or at an index k and then k + 1.
use Prim.Native.Nat.{ℕ, zero, suc, ◌-◌, ◌*◌, ◌<◌}
use mathlib.Core.Path.{◌≡◌, refl, sym, ap, ◌∙◌}
use mathlib.Core.Bool.{cond}
use mathlib.Core.List.{List}
use native.Mathlib.Nat.{not-suc-le-zero}
use native.Mathlib.Numerals.{sub-one}
use lib.ListN.{length, get_or, drop}
use lib.Seq.{drop-cons}
use lib.Dec.{eqb, leb}
use Rattle.rules.specs.Kinds.{is_modifier, sized_by_ref}
use Rattle.btf_kinds.specs.Names.{ARRAY}
use Rattle.rules.specs.Limits.{max_spec_len}
use Rattle.btf_kinds.specs.Types.{Ty}
use Rattle.btf_view.specs.View.{View}
use Rattle.btf_view.specs.Places.{no_entry}
use Rattle.rules.specs.declared.Why.TheVariants.{KindWithoutSize}
use Rattle.rules.specs.declared.Refusal.TheVariants.{MaximumNesting, Unresolved}
use Rattle.rules.specs.Fields.{nth_entry, member_bits}
use Rattle.rules.specs.Refusal.{bind}
use Rattle.rules.specs.Types.{chain, resolve, own_size, times, elements, is_empty, same_text, same_flavourless, and_then, both, pairs, meet_fields, fields_within, Compat}
use Rattle.rules.specs.Access.{Walk, last, local_step, walked, local_steps}
use Rattle.rules.specs.Value.{aligned, end_from, bitfield_load}
use Rattle.rules.specs.Matching.{variant_named, or_else, grown, decided, Sought, at_member, level, Search}
use Rattle.std.specs.Prelude.{Err, Ok, Some}

-- A definition's clause for suc, at the code's n and n - 1
peel {ℓ} : {A : Type ℓ} (f g : ℕ → A) → ((k : ℕ) → f (suc k) ≡ g k) → (n : ℕ) → 0 < n → f n ≡ g (n - 1)
peel f g e zero h = absurd (not-suc-le-zero h)
peel f g e (suc k) h = e k ∙ ap g (sym (sub-one (suc k)))

pub chain-turn : (typ : ℕ → Ty) (n i : ℕ) → 0 < n → chain typ n i ≡ cond (is_modifier (typ i).kind) (chain typ (n - 1) (typ i).ref) (Ok i)
unfolding chain
chain-turn typ n i h = peel (λ j. chain typ j i) _ (λ j. refl) n h

pub elements-turn : (typ : ℕ → Ty) (n c i : ℕ) → 0 < n → elements typ n c i ≡ times i c (own_size (typ i))
    (cond (eqb (typ i).kind ARRAY) (elements typ (n - 1) (typ i).extra (typ i).ref)
    (cond (sized_by_ref (typ i).kind) (elements typ (n - 1) c (typ i).ref) (Err (record { why = KindWithoutSize; id = i }))))
unfolding elements
elements-turn typ n c i h = peel (λ j. elements typ j c i) _ (λ j. refl) n h

pub bitfield-turn : (n bits width s : ℕ) → 0 < n → bitfield_load n bits width s
    ≡ cond (leb (end_from (aligned bits s) bits width) (8 * s)) (Ok (record { offset = aligned bits s; size = s; width = width }))
    (cond (leb 8 s) (Err Unresolved) (bitfield_load (n - 1) bits width (2 * s)))
unfolding bitfield_load
bitfield-turn n bits width s h = peel (λ j. bitfield_load j bits width s) _ (λ j. refl) n h

pub fields_turn : (L T : View) (own a b : ℕ) → 0 < own → fields_within L T own a b
    ≡ both (meet_fields (fields_within L T (own - 1)) L.text T.text) L.typ T.typ (resolve L.typ a) (resolve T.typ b)
unfolding fields_within
fields_turn L T own a b h = peel (λ j. fields_within L T j a b) _ (λ j. refl) own h

-- The parts of an access from the k-th on
pub steps_turn : (typ : ℕ → Ty) (w : Walk) (ks : List ℕ) (k : ℕ) → k < length ks → local_steps typ w (drop k ks)
    ≡ bind (bind (resolve typ w.typ) (local_step typ (typ (last w.path).typ) w.bits (get_or ks k 0))) (λ s. local_steps typ (walked w s) (drop (suc k) ks))
unfolding local_steps
steps_turn typ w ks k h = rw (drop-cons ks k 0 h)

-- The parameters of two functions from index k on
pub pairs-turn : (check : ℕ → ℕ → Compat) (l t : Ty) (k : ℕ) → k < length l.entries → k < length t.entries
    → pairs check (drop k l.entries) (drop k t.entries)
    ≡ and_then (check (nth_entry l k).typ (nth_entry t k).typ) (pairs check (drop (suc k) l.entries) (drop (suc k) t.entries))
unfolding pairs
pairs-turn check l t k h g = rw (drop-cons l.entries k no_entry h, drop-cons t.entries k no_entry g)

pub variant-turn : (text : ℕ → List ℕ) (name : List ℕ) (t : Ty) (k : ℕ) → k < length t.entries → variant_named text name (drop k t.entries)
    ≡ cond (same_flavourless name (text (nth_entry t k).name)) (Some (nth_entry t k)) (variant_named text name (drop (suc k) t.entries))
unfolding variant_named
variant-turn text name t k h = rw (drop-cons t.entries k no_entry h)

-- The members of a type from index k on
pub level-turn : (down : ℕ → Search) (fits : ℕ → Compat) (text : ℕ → List ℕ) (q : Sought) (i : ℕ) (t : Ty) (k : ℕ) → k < length t.entries
    → level down fits text q i t k (drop k t.entries)
    ≡ cond (eqb q.from.parts max_spec_len) (Err (MaximumNesting q.candidate))
    (cond (is_empty (text (nth_entry t k).name)) (or_else (grown (member_bits t (nth_entry t k)) (down (nth_entry t k).typ)) (level down fits text q i t (suc k) (drop (suc k) t.entries)))
    (cond (same_text q.name (text (nth_entry t k).name))
    (decided (fits (nth_entry t k).typ) (grown (member_bits t (nth_entry t k)) (Ok (Some (at_member q.from i k (nth_entry t k).typ)))))
    (level down fits text q i t (suc k) (drop (suc k) t.entries))))
unfolding level
level-turn down fits text q i t k h = rw (drop-cons t.entries k no_entry h)

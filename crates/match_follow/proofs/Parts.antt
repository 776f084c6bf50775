-- How many parts a walk has by then: 33 more at most with each accessor, for the unnamed levels of one member search and the member.
-- Assumes nothing.
use Prim.Native.Nat.{ℕ, suc, ◌+◌, ◌≤◌}
use mathlib.Core.Bool.{Bool, true, false, cond, ◌&&◌, not}
use native.Mathlib.Omega.{arith}
use lib.Dec.{leb, eqb}
use Rattle.btf_kinds.specs.Types.{Ty}
use Rattle.btf_view.specs.View.{View}
use Rattle.rules.specs.declared.Accessor.{Accessor}
use Rattle.rules.specs.declared.Target.{Target}
use Rattle.rules.specs.declared.Refusal.TheVariants.{MaximumNesting}
use Rattle.btf_kinds.specs.Names.{ARRAY}
use Rattle.rules.specs.Limits.{max_spec_len, max_levels}
use Rattle.rules.specs.Fields.{nth_entry}
use Rattle.rules.specs.Refusal.{Reply, bind}
use Rattle.rules.specs.Types.{resolve, fields_compatible}
use Rattle.rules.specs.Access.{element, element_bits}
use Rattle.rules.specs.Matching.{reached, at_element, target_open, target_element, target_element_at, target_member, target_step}
use Rattle.match_search.specs.Parts.{part_count}
use Rattle.match_search.proofs.Parts.{either, search-parts}
use Rattle.match_follow.specs.Walk.{accessor_step}
use Rattle.std.specs.Prelude.{Err, None, Ok}

element-parts : (typ : ℕ → Ty) (c : ℕ) (s : Target) (k j : ℕ) → part_count (reached (at_element typ c s k j)) ≤ s.parts + 33
unfolding at_element
element-parts typ c s k j = go (eqb s.parts max_spec_len)
  where
    placed : (x : Reply ℕ) → part_count (reached (bind x (λ b. Ok (record { typ = j; last = element j k; bits = b; parts = suc s.parts })))) ≤ s.parts + 33
    placed (Ok b) = omega arith
    placed (Err r) = omega arith

    go : (b : Bool) → part_count (reached
        (cond b (Err (MaximumNesting c))
        (bind (element_bits typ s.bits k j) (λ b. Ok (record { typ = j; last = element j k; bits = b; parts = suc s.parts }))))) ≤ s.parts + 33
    go true = omega arith
    go false = placed (element_bits typ s.bits k j)

resolved-parts : (typ : ℕ → Ty) (c : ℕ) (s : Target) (k : ℕ) (x : Reply ℕ) → part_count (reached (bind x (at_element typ c s k))) ≤ s.parts + 33
resolved-parts typ c s k (Ok j) = element-parts typ c s k j
resolved-parts typ c s k (Err r) = omega arith

array_parts : (typ : ℕ → Ty) (c : ℕ) (s : Target) (k : ℕ) (x : Reply ℕ) → part_count (target_element_at typ c s k x) ≤ s.parts + 33
unfolding target_element
array_parts typ c s k (Err r) = omega arith
array_parts typ c s k (Ok j) =
    either _ (not (eqb (typ j).kind ARRAY)) (Ok None) _ (omega arith)
    (either _ (not (target_open (typ j) (typ s.last.typ) s.last.index) && leb (typ j).extra k) (Ok None) _ (omega arith)
    (resolved-parts typ c s k (resolve typ (typ j).ref)))

pub step-parts : (L T : View) (c k : ℕ) (s : Target) (a : Accessor) → part_count (accessor_step L T c k s a) ≤ s.parts + 33
unfolding accessor_step target_step target_member
step-parts L T c k s a =
    let m = nth_entry (L.typ a.typ) a.index in
    let found : part_count (target_member L T c s m) ≤ s.parts + 33 =
    omega (arith, search-parts (fields_compatible L T m.typ) T (record { name = L.text m.name; candidate = c; from = s }) max_levels s.typ) in
    either _ (eqb k 0) _ _ (resolved-parts T.typ c s a.index (resolve T.typ c))
    (either _ a.named _ _ found (array_parts T.typ c s a.index (resolve T.typ s.typ)))

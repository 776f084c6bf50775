-- The local path followed in the candidate i, at the accessor k: where the rest leads is where the whole path leads.
-- Assumes nothing.
use Prim.Native.Nat.{ℕ, suc, ◌+◌, ◌*◌, ◌≤◌, ◌<◌, min}
use mathlib.Core.Path.{◌≡◌, refl, sym, ◌∙◌}
use mathlib.Core.Bool.{Bool, true, false}
use mathlib.Core.List.{List, [], ◌∷◌}
use native.Mathlib.Omega.{arith}
use native.Mathlib.Numerals.{add-one}
use lib.ListN.{length, get_or, take, drop, drop_of_length-le}
use lib.Dec.{leb}
use borrow.Author.Tests.{leb-true, leb-false}
use lib.Seq.{drop-cons, length-take-le, take_all}
use Rattle.btf_view.specs.View.{View}
use Rattle.rules.specs.declared.Accessor.{Accessor}
use Rattle.rules.specs.declared.Target.{Target}
use Rattle.rules.specs.declared.Refusal.{Refusal}
use Rattle.rules.specs.Access.{nowhere}
use Rattle.rules.specs.Matching.{next, origin, field_match, Search}
use Rattle.match_follow.specs.Walk.{accessor_step}
use Rattle.match_follow.proofs.Walk.{walk_from, match-walked}
use Rattle.match_follow.proofs.Parts.{step-parts}
use Rattle.std.specs.Prelude.{Err, None, Ok, Some}

-- At the place s the steps from k on are left; `met` is where all of them lead.
pub record Following (L T : View) (path : List Accessor) (i : ℕ) (met : Search) (s : Target) (k : ℕ) : Type 0 where
  pub room : length path ≤ 64
  pub few : s.parts ≤ 33 * k
  pub rest : walk_from L T i k s (drop k path) ≡ met

-- The steps that are followed: no more than 64 of them
pub capped : (steps : List Accessor) {m : ℕ} → m ≡ min (length steps) 64 → take m steps ≡ take 64 steps
capped steps {m} e = go (leb (length steps) 64) refl
  where
    go : (b : Bool) → leb (length steps) 64 ≡ b → take m steps ≡ take 64 steps
    go true h = let all : length steps ≤ 64 = leb-true (length steps) 64 h in take_all m steps (omega arith) ∙ sym (take_all 64 steps all)
    go false h = let some : 64 < length steps = leb-false (length steps) 64 h in let n : m ≡ 64 = omega arith in rw n

walked : (L T : View) (path : List Accessor) (i : ℕ) → 0 < length path → field_match L T path i ≡ walk_from L T i 0 origin path
walked L T [] i h = absurd (omega arith)
walked L T (a ∷ more) i h = match-walked L T i a more

-- An empty path leads nowhere.
pub following-none : (L T : View) (path : List Accessor) (i : ℕ) → length path ≡ 0 → Ok None ≡ field_match L T path i
unfolding field_match
following-none L T [] i z = refl
following-none L T (a ∷ more) i z = absurd (omega arith)

pub following-first : (L T : View) (steps : List Accessor) (i : ℕ) {m : ℕ} {s : Target} → (length steps ≡ 0 → ⊥) → m ≡ min (length steps) 64 → s ≡ origin
    → Following L T (take m steps) i (field_match L T (take 64 steps) i) s 0
following-first L T steps i {m} g e o =
    let long : length (take m steps) ≡ m = length-take-le m steps (omega arith) in
    rw o (record { room = omega arith; few = omega arith; rest = sym (walked L T (take m steps) i (omega arith)) ∙ rw (capped steps e) })

-- The ways on from there: the end of the path, a refusal, nothing, the next place
module _ {L T : View} {path : List Accessor} {i : ℕ} {met : Search} {s : Target} {k : ℕ} (v : Following L T path i met s k) where
  pub following-end : length path ≤ k → Ok (Some s) ≡ met
  unfolding walk_from
  following-end h = rw (drop_of_length-le path {i = k} h) at v.rest

  module _ (h : k < length path) {step : Search} (q : step ≡ accessor_step L T i k s (get_or path k nowhere)) where
    turned : next step (λ u. walk_from L T i (suc k) u (drop (suc k) path)) ≡ met
    unfolding walk_from
    turned = rw q (rw (drop-cons path k nowhere h) at v.rest)

    pub following-refused : {r : Refusal} → step ≡ Err r → Err r ≡ met
    following-refused e = rw e at turned

    pub following-nothing : step ≡ Ok None → Ok None ≡ met
    following-nothing e = rw e at turned

    pub following-next : {u : Target} → step ≡ Ok (Some u) → Following L T path i met u (k + 1)
    following-next {u} e =
        let parts : u.parts ≤ s.parts + 33 = rw (sym q ∙ e) at (step-parts L T i k s (get_or path k nowhere)) in
        record { room = v.room; few = omega (arith, v.few); rest = rw add-one (rw e at turned) }

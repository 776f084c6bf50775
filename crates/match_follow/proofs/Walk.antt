-- The accessors followed one by one are the rules' match.
-- Assumes nothing.
use Prim.Native.Nat.{ℕ, suc}
use mathlib.Core.Path.{◌≡◌, refl, sym}
use mathlib.Core.List.{List, [], ◌∷◌}
use native.Mathlib.Omega.{arith}
use borrow.Author.Tests.{ne_eqb}
use Rattle.btf_view.specs.View.{View}
use Rattle.rules.specs.declared.Accessor.{Accessor}
use Rattle.rules.specs.declared.Target.{Target}
use Rattle.rules.specs.Refusal.{bind}
use Rattle.rules.specs.Types.{resolve}
use Rattle.rules.specs.Matching.{next, reached, at_element, target_step, target_steps, origin, field_match, Search}
use Rattle.match_follow.specs.Walk.{accessor_step}
use Rattle.std.specs.Prelude.{Err, None, Ok, Some}

-- The accessors from k on
unfoldable pub walk_from : View → View → ℕ → ℕ → Target → List Accessor → Search
walk_from L T c k s [] = Ok (Some s)
walk_from L T c k s (a ∷ more) = next (accessor_step L T c k s a) (λ u. walk_from L T c (suc k) u more)

-- All of them are the rules' match.

next-same : (x : Search) (f g : Target → Search) → ((s : Target) → f s ≡ g s) → next x f ≡ next x g
next-same (Ok (Some s)) f g h = h s
next-same (Ok None) f g h = refl
next-same (Err r) f g h = refl

steps_walked : (L T : View) (c k : ℕ) (s : Target) (path : List Accessor) → walk_from L T c (suc k) s path ≡ target_steps L T c s path
unfolding walk_from target_steps accessor_step
steps_walked L T c k s [] = refl
steps_walked L T c k s (a ∷ more) =
    rw (ne_eqb (suc k) 0 (λ e. omega arith)) (next-same (target_step L T c s a) _ _ (λ u. steps_walked L T c (suc k) u more))

pub match-walked : (L T : View) (c : ℕ) (a : Accessor) (more : List Accessor) → field_match L T (a ∷ more) c ≡ walk_from L T c 0 origin (a ∷ more)
unfolding walk_from field_match accessor_step
match-walked L T c a more = sym (next-same (reached (bind (resolve T.typ c) (at_element T.typ c origin a.index))) _ _ (λ u. steps_walked L T c 0 u more))

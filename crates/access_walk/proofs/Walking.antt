-- Laws of the local walk: a path's last accessor, and where the loop over the parts stands.
-- Assumes nothing.
use mathlib.Core.Path.{◌≡◌, refl}
use mathlib.Core.List.{List, [], ◌∷◌}
use Prim.Native.Nat.{ℕ, suc, ◌+◌, ◌-◌, ◌≤◌, ◌<◌}
use native.Mathlib.Numerals.{add-one}
use native.Mathlib.Omega.{arith}
use lib.ListN.{length, get_or, drop, drop_of_length-le}
use Rattle.btf_kinds.specs.Types.{Ty}
use Rattle.rules.specs.declared.Accessor.{Accessor}
use Rattle.rules.specs.declared.Refusal.{Refusal}
use Rattle.rules.specs.declared.Step.{Step}
use Rattle.rules.specs.Refusal.{Reply, bind}
use Rattle.rules.specs.Types.{resolve}
use Rattle.rules.specs.Access.{Walk, path, nowhere, last_from, last, onward, walked, local_step, local_steps, found}
use Rattle.std.specs.Prelude.{Ok, Err, Option, Some, None, slice_get}
use Rattle.std.specs.Option.{unwrap_or}
use Rattle.std.proofs.lemmas.List.{length_push}
use Rattle.rules.proofs.Turns.{steps_turn}

-- the last accessor of a path; it stands before any, where there is none
last_at : (a : Accessor) (l : List Accessor) → slice_get (a ∷ l) (length l) ≡ Some (last_from a l)
unfolding last_from
last_at a [] = refl
last_at a (b ∷ l) = last_at b l

pub last_is : (l : List Accessor) → unwrap_or (slice_get l (length l - 1)) nowhere ≡ last l
unfolding last_from
last_is [] = refl
last_is (a ∷ l) = let e : suc (length l) - 1 ≡ length l = omega arith in rw (e, last_at a l)

-- a turn of the loop over the parts, by the part k, from a walk whose last accessor is of type p
module _ (typ : ℕ → Ty) (w : Walk) (ks : List ℕ) (i : ℕ) (h : i < length ks) {p k : ℕ} (q : p ≡ (last w.path).typ) (e : k ≡ get_or ks i 0)
    {r : Reply Step} (n : r ≡ bind (resolve typ w.typ) (local_step typ (typ p) w.bits k)) where
  turn : bind (local_steps typ w (drop i ks)) found ≡ bind (bind r (λ s. local_steps typ (walked w s) (drop (i + 1) ks))) found
  turn = rw (n, q, e, add-one i) (rw (steps_turn typ w ks i h))

  pub walk_on : (s : Step) → r ≡ Ok s → bind (local_steps typ w (drop i ks)) found ≡ bind (local_steps typ (walked w s) (drop (i + 1) ks)) found
  walk_on s o = rw o at turn

  pub walk_refused : (x : Refusal) → r ≡ Err x → bind (local_steps typ w (drop i ks)) found ≡ Err x
  walk_refused x o = rw o at turn

pub walk_ends : (typ : ℕ → Ty) (w : Walk) (ks : List ℕ) (i : ℕ) → length ks ≤ i → bind (local_steps typ w (drop i ks)) found ≡ Ok (path w.path w.bits)
unfolding local_steps
walk_ends typ w ks i h = rw (drop_of_length-le ks h)

-- a path grows by one accessor at most
pub onward-more : (l : List Accessor) (by : Option Accessor) → length (onward l by) ≤ length l + 1
onward-more l None = omega arith
onward-more l (Some a) = omega (arith, length_push l a)

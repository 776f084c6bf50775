-- The search for a candidate, at the id i.
-- Assumes nothing.
use Prim.Native.Nat.{ℕ, suc, ◌+◌, ◌-◌, ◌≤◌, ◌<◌}
use mathlib.Core.Path.{◌≡◌, sym, ◌∙◌}
use mathlib.Core.Bool.{Bool, true, false, cond}
use native.Mathlib.Omega.{arith}
use native.Mathlib.Numerals.{add-one}
use mathlib.Core.List.{List}
use Rattle.std.specs.Prelude.{Some, None}
use Rattle.btf_view.specs.View.{View}
use Rattle.match_scan.specs.Candidates.{candidate_by, first_from}

module _ (T : View) (own : ℕ) (name : List ℕ) (last i : ℕ) where
  pub none_from : last < i → first_from T own name i (suc last - i) ≡ None
  unfolding first_from
  none_from h = let z : suc last - i ≡ 0 = omega arith in rw z

  module _ (h : i ≤ last) {is : Bool} (c : is ≡ candidate_by own name T i) where
    turned : first_from T own name i (suc last - i) ≡ cond is (Some i) (first_from T own name (suc i) (last - i))
    unfolding first_from
    turned = let z : suc last - i ≡ suc (last - i) = omega arith in rw (z, ← c)

    pub found_from : is ≡ true → first_from T own name i (suc last - i) ≡ Some i
    found_from b = turned ∙ rw b

    pub later-from : is ≡ false → first_from T own name (i + 1) (suc last - (i + 1)) ≡ first_from T own name i (suc last - i)
    later-from b = let z : suc last - (i + 1) ≡ last - i = omega arith in rw (z, add-one i) (sym (turned ∙ rw b))

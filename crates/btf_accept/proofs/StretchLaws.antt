-- The laws of some types passed in turn.
-- Assumes nothing.
use Prim.Native.Nat.{ℕ, zero, suc, ◌+◌, ◌-◌, ◌≤◌, ◌<◌}
use mathlib.Core.Path.{◌≡◌, refl, sym, ap, ◌∙◌}
use mathlib.Core.Bool.{Bool, true, false, cond}
use mathlib.Core.List.{List}
use native.Mathlib.Omega.{arith}
use lib.ListN.{length}
use borrow.Author.Tests.{lt-ltb, le-ltb}
use Rattle.btf_kinds.specs.Types.{type_at, after}
use Rattle.btf_pass.specs.declared.Passing.TheVariants.{Next, Off}
use Rattle.btf_pass.specs.Good.{good}
use Rattle.btf_pass.specs.Reach.{larger, reach_of}
use Rattle.btf_pass.specs.Shape.{step_at}
use Rattle.btf_pass.proofs.TypeLaws.{told-next, told_fault}
use Rattle.btf_pass.proofs.ReachLaws.{zero-larger}
use Rattle.btf_accept.specs.declared.Stretched.{Stretched}
use Rattle.btf_accept.specs.declared.Stretched.TheVariants.{Passed, Stuck}
use Rattle.btf_accept.specs.Shape.{stretch_of}

-- a step past a type that is good, or not
module _ (t : List ℕ) (at : ℕ) where
  pub step-good : good t at ≡ true → Next (after t at) (reach_of (type_at t at)).far (reach_of (type_at t at)).top ≡ step_at t at
  unfolding step_at
  step-good e = rw e

  pub step-bad : good t at ≡ false → Off ≡ step_at t at
  unfolding step_at
  step-bad e = rw e

pub stretch_end : (t : List ℕ) (left at n far top : ℕ) → length t ≤ at → Passed at n far top ≡ stretch_of t left at n far top
unfolding stretch_of
stretch_end t zero at n far top h = refl
stretch_end t (suc left) at n far top h = rw (le-ltb at (length t) h)

module _ (t : List ℕ) (stop at n far top : ℕ) where
  pub stretch_stop : stop ≤ n → Passed at n far top ≡ stretch_of t (stop - n) at n far top
  unfolding stretch_of
  stretch_stop h = let e : stop - n ≡ 0 = omega arith in rw e

  module _ (h : at < length t) (m : n < stop) where
    less : stop - n ≡ suc (stop - (n + 1))
    less = omega arith

    pub stretch_fault : Off ≡ step_at t at → Stuck (n + 1) ≡ stretch_of t (stop - n) at n far top
    unfolding stretch_of
    stretch_fault p = sym (ap (λ (k : ℕ). stretch_of t k at n far top) less ∙ rw (lt-ltb at (length t) h, told_fault t at p))

    pub stretch_next : {x a b f g : ℕ} → Next x a b ≡ step_at t at → f ≡ larger far a → g ≡ larger top b
        → stretch_of t (stop - n) at n far top ≡ stretch_of t (stop - (n + 1)) x (n + 1) f g
    unfolding stretch_of
    stretch_next {x} {a} {b} p ef eg =
        let q = told-next t at p in
        let qa : a ≡ (reach_of (type_at t at)).far = ap (λ r. r.far) q.2 in
        let qb : b ≡ (reach_of (type_at t at)).top = ap (λ r. r.top) q.2 in
        ap (λ (k : ℕ). stretch_of t k at n far top) less ∙ rw (lt-ltb at (length t) h, q.0, ef, eg, qa, qb, q.1)

-- one type alone
module _ (t : List ℕ) (at n : ℕ) (h : at < length t) {r : Stretched} (e : r ≡ stretch_of t (n + 1 - n) at n 0 0) where
  alone : r ≡ cond (good t at) (Passed (after t at) (n + 1) (reach_of (type_at t at)).far (reach_of (type_at t at)).top) (Stuck (n + 1))
  unfolding stretch_of
  alone =
      let k : n + 1 - n ≡ 1 = omega arith in
      e ∙ ap (λ (i : ℕ). stretch_of t i at n 0 0) k ∙ rw (lt-ltb at (length t) h, zero-larger (reach_of (type_at t at)).far, zero-larger (reach_of (type_at t at)).top)

  pub one-next : {x m f g : ℕ} → r ≡ Passed x m f g → Next x f g ≡ step_at t at
  one-next {x} {m} {f} {g} p = go (good t at) refl
    where
      go : (b : Bool) → good t at ≡ b → Next x f g ≡ step_at t at
      go true q =
          let y : Passed x m f g ≡ Passed (after t at) (n + 1) (reach_of (type_at t at)).far (reach_of (type_at t at)).top = sym p ∙ alone ∙ rw q in
          let ex : x ≡ after t at = cc in
          let ef : f ≡ (reach_of (type_at t at)).far = cc in
          let eg : g ≡ (reach_of (type_at t at)).top = cc in
          rw (ex, ef, eg) (step-good t at q)
      go false q =
          let y : Passed x m f g ≡ Stuck (n + 1) = sym p ∙ alone ∙ rw q in
          let z : ◌≡◌ {A = ℕ} 0 1 = cc in
          absurd (omega arith)

  pub one_fault : {i : ℕ} → r ≡ Stuck i → Off ≡ step_at t at
  one_fault {i} p = go (good t at) refl
    where
      go : (b : Bool) → good t at ≡ b → Off ≡ step_at t at
      go true q =
          let y : Stuck i ≡ Passed (after t at) (n + 1) (reach_of (type_at t at)).far (reach_of (type_at t at)).top = sym p ∙ alone ∙ rw q in
          let z : ◌≡◌ {A = ℕ} 0 1 = cc in
          absurd (omega arith)
      go false q = step-bad t at q

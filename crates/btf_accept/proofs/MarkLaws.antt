-- The laws of the first pass from mark to mark.
-- Assumes nothing.
use Prim.Native.Nat.{ℕ, zero, suc, ◌+◌, ◌*◌, ◌-◌, ◌≤◌, ◌<◌}
use mathlib.Core.Path.{◌≡◌, refl, sym, ap, ◌∙◌, subst}
use mathlib.Core.Logic.{◌⊎◌, ⊎_elim, inl, inr}
use mathlib.Core.Bool.{Bool, true, false, cond}
use mathlib.Core.List.{List}
use native.Mathlib.Omega.{arith}
use lib.Dec.{ltb}
use lib.ListN.{length, get_or, set, length-set}
use lib.Seq.{get_or-set_same, get_or-set_other}
use borrow.Author.Tests.{ltb-true, ltb-false}
use Rattle.btf_kinds.specs.Types.{type_at, after}
use Rattle.btf_kinds.proofs.Keys.{split}
use Rattle.btf_pass.specs.Good.{good}
use Rattle.btf_pass.specs.Reach.{larger, reach_of}
use Rattle.btf_pass.proofs.TypeLaws.{least}
use Rattle.btf_accept.specs.declared.Stretched.{Stretched}
use Rattle.btf_accept.specs.declared.Stretched.TheVariants.{Passed, Stuck}
use Rattle.btf_accept.specs.declared.Scan.{Scan}
use Rattle.btf_accept.specs.declared.Scan.TheVariants.{Count, Stop, Many}
use Rattle.btf_accept.specs.declared.Btf.{Btf}
use Rattle.btf_accept.specs.declared.Whole.TheVariants.{Accepted, Faulty, Over}
use Rattle.btf_accept.specs.Limits.{max_types}
use Rattle.btf_accept.specs.Sections.{types_in}
use Rattle.btf_accept.specs.Accept.{scan, unfit, first_or, then_fits}
use Rattle.btf_accept.specs.Shape.{place_of, stretch_of, Marked, MarkedIf, MarkedIn, stop_after}
use Rattle.btf_accept.proofs.ScanLaws.{scanned_fault}
use Rattle.btf_accept.proofs.FitLaws.{Surveyed, surveyed-first, surveyed-next}
use Rattle.btf_accept.proofs.StretchLaws.{step-good, step-bad}

-- a mark that is read
pub mark_is : {t : List ℕ} {last : ℕ} {marks : List ℕ} → Marked t last marks → (i n : ℕ) {x : ℕ} → x ≡ get_or marks i 0 → 1024 * i < last → n ≡ 1024 * i → x ≡ place_of t n
mark_is {t} m i n e h p = e ∙ m.place i h ∙ ap (place_of t) (sym p)

-- nothing is marked where nothing is counted, or nothing accepted
module _ (t marks : List ℕ) where
  pub unmarked_many : MarkedIf t Many marks
  unmarked_many = record { counted = λ n p. let y : ◌≡◌ {A = ℕ} 0 1 = cc in absurd (omega arith) }

  pub unmarked_fault : (i : ℕ) → MarkedIf t (Stop i) marks
  unmarked_fault i = record { counted = λ n p. let y : ◌≡◌ {A = ℕ} 0 1 = cc in absurd (omega arith) }

  pub unmarked_over : MarkedIn t Over marks
  unmarked_over = record { accepted = λ b p. let y : ◌≡◌ {A = ℕ} 0 1 = cc in absurd (omega arith) }

  pub unmarked_bad : (i : ℕ) → MarkedIn t (Faulty i) marks
  unmarked_bad i = record { accepted = λ b p. let y : ◌≡◌ {A = ℕ} 0 1 = cc in absurd (omega arith) }

pub marked_in : (s : List ℕ) {b : Btf} {t marks : List ℕ} → t ≡ types_in s b → Marked t b.last marks → MarkedIn s (Accepted b) marks
marked_in s {b} {t} {marks} e m = record { accepted = λ a p. let q : a ≡ b = cc in rw (q, ← e) m }

pub record Near (n stop : ℕ) : Type 0 where
  pub more : n < stop
  pub most : stop ≤ max_types
  pub near : stop ≤ n + 1024
  pub whole : stop < max_types → stop ≡ n + 1024

pub stop-near : (n : ℕ) → n < max_types → Near n (stop_after n)
unfolding stop_after
stop-near n h = go (ltb n (max_types - 1024)) refl
  where
    go : (b : Bool) → ltb n (max_types - 1024) ≡ b → Near n (cond b (n + 1024) max_types)
    go true e =
        let l : n < max_types - 1024 = ltb-true n (max_types - 1024) e in
        record { more = omega arith; most = omega arith; near = omega arith; whole = λ s. refl }
    go false e =
        let l : max_types - 1024 ≤ n = ltb-false n (max_types - 1024) e in
        record { more = h; most = omega arith; near = omega arith; whole = λ s. absurd (omega arith) }

-- what a stretch has come to: its last count, or the section's end, or the first fault of all
abbrev pub Came : List ℕ → ℕ → ℕ → ℕ → Stretched → Type 0
Came t from before stop (Passed x n far top) =
    Surveyed max_types t far top x n × (n ≤ stop) × (12 * n + from ≤ x + 12 * before) × ((n ≡ stop) ⊎ (length t ≤ x))
Came t from before stop (Stuck i) = Stop i ≡ scan t max_types 0 0

pub came-is : (t : List ℕ) (from before stop : ℕ) {r s : Stretched} → r ≡ s → Came t from before stop r → Came t from before stop s
came-is t from before stop = subst (Came t from before stop)

-- a stretch from the next type on is one from this type on
came-next : (t : List ℕ) (at x n stop : ℕ) (r : Stretched) → at + 12 ≤ x → Came t x (n + 1) stop r → Came t at n stop r
came-next t at x n stop (Passed y m far top) h c = (c.0, c.1, omega (arith, c.2), c.3)
came-next t at x n stop (Stuck i) h c = c

-- a turn of it
module _ {t : List ℕ} {far top at n : ℕ} (left : ℕ) (s : Surveyed max_types t far top at n) (h : n + suc left ≤ max_types) where
  turn-next : at < length t → good t at ≡ true → Surveyed max_types t (larger far (reach_of (type_at t at)).far) (larger top (reach_of (type_at t at)).top) (after t at) (n + 1)
  turn-next l g = surveyed-next s l (λ k. omega arith) (step-good t at g) refl refl

  turn-came : (rest : Stretched) → (at < length t → good t at ≡ true → Came t (after t at) (n + 1) (n + suc left) rest)
      → Came t at n (n + suc left) (cond (ltb at (length t)) (cond (good t at) rest (Stuck (n + 1))) (Passed at n far top))
  turn-came rest c = outer (ltb at (length t)) refl
    where
      inner : at < length t → (g : Bool) → good t at ≡ g → Came t at n (n + suc left) (cond g rest (Stuck (n + 1)))
      inner l true e = came-next t at (after t at) n (n + suc left) rest (omega (arith, least t at)) (c l e)
      inner l false e = scanned_fault s.scanned l (λ k. omega arith) (step-bad t at e)

      outer : (b : Bool) → ltb at (length t) ≡ b → Came t at n (n + suc left) (cond b (cond (good t at) rest (Stuck (n + 1))) (Passed at n far top))
      outer true e = inner (ltb-true at (length t) e) (good t at) refl
      outer false e = (s, omega arith, omega arith, inr (ltb-false at (length t) e))

-- what every stretch of the first pass has come to
pub stretch_came : {t : List ℕ} (left : ℕ) {far top at n : ℕ} → Surveyed max_types t far top at n → n + left ≤ max_types → Came t at n (n + left) (stretch_of t left at n far top)
unfolding stretch_of
stretch_came {t} zero {far} {top} {at} {n} s h = (s, omega arith, omega arith, inl (omega arith))
stretch_came {t} (suc left) {far} {top} {at} {n} s h =
    let r : n + 1 + left ≡ n + suc left = omega arith in
    turn-came left s h _ (λ l g. rw (← r) (stretch_came left (turn-next left s h l g) (omega arith)))

-- the first pass, at a mark
pub record Marking (t marks₀ marks : List ℕ) (far top at n j : ℕ) : Type 0 where
  pub seen : Surveyed max_types t far top at n
  pub upto : n ≤ 1024 * j
  pub even : at < length t → n < max_types → n ≡ 1024 * j
  pub marked : (i : ℕ) → i < j → get_or marks i 0 ≡ place_of t (1024 * i)
  pub len : length marks ≡ length marks₀

pub marking-first : (t marks : List ℕ) → Marking t marks marks 0 0 0 0 0
marking-first t marks = record {
  seen = surveyed-first max_types t;
  upto = omega arith;
  even = λ h l. refl;
  marked = λ i h. absurd (omega arith);
  len = refl;
}

module _ {t marks₀ marks : List ℕ} {far top at n j : ℕ} (i : Marking t marks₀ marks far top at n j) where
  pub marking-end : Marked t n marks
  marking-end = record { place = λ k h. i.marked k (omega (arith, i.upto)) }

  -- where a name or an id does not fit, there is no count
  pub marking_counts : (room : ℕ) {r : Scan} → r ≡ first_or n (unfit t room n n 0 0) → MarkedIf t r marks
  marking_counts room e = record { counted = λ k p. rw (counted k (unfit t room n n 0 0) (p ∙ e)) marking-end }
    where
      counted : (k u : ℕ) → Count k ≡ first_or n u → k ≡ n
      counted k zero h = cc
      counted k (suc u) h = let y : ◌≡◌ {A = ℕ} 0 1 = cc in absurd (omega arith)

  module _ (h : at < length t) (m : n ≡ max_types → ⊥) where
    pub marking-few : n < max_types
    marking-few = omega (arith, i.seen.scanned.few, m)

    here : n ≡ 1024 * j
    here = i.even h marking-few

    pub marking-index : j < 1024
    marking-index = omega (arith, here, marking-few)

    module _ {s : ℕ} {r : Stretched} (e : s ≡ stop_after n) (all : r ≡ stretch_of t (s - n) at n far top) where
      stop : Near n s
      stop = rw e (stop-near n marking-few)

      came-all : Came t at n s r
      came-all =
          let k : n + (s - n) ≡ s = omega (arith, stop.more) in
          came-is t at n s (sym all) (rw k at (stretch_came (s - n) i.seen (omega (arith, k, stop.most))))

      -- a stretch that ends at a fault
      pub marking_fault : (room : ℕ) {k : ℕ} → r ≡ Stuck k → Stop k ≡ then_fits t room (scan t max_types 0 0)
      marking_fault room {k} p = let q : Stop k ≡ scan t max_types 0 0 = came-is t at n s p came-all in rw (← q)

    module _ {x c f g s : ℕ} {r : Stretched} (e : s ≡ stop_after n) (all : r ≡ stretch_of t (s - n) at n far top) (p : r ≡ Passed x c f g) where
      came : Came t at n s (Passed x c f g)
      came = came-is t at n s p (came-all e all)

      near : Near n s
      near = stop e all

      pub marking-less : length t - x < length t - at
      marking-less = ⊎_elim (λ e. omega (arith, came.2, near.more)) (λ l. omega arith) came.3

      pub marking-next : 1024 ≤ length marks₀ → Marking t marks₀ (set marks j at) f g x c (j + 1)
      marking-next room = record {
        seen = came.0;
        upto = omega (arith, came.1, near.near, here);
        even = λ l k. ⊎_elim (λ e. omega (arith, near.whole (omega arith), here)) (λ e. absurd (omega arith)) came.3;
        marked = kept;
        len = length-set marks j at ∙ i.len;
      }
        where
          kept : (k : ℕ) → k < j + 1 → get_or (set marks j at) k 0 ≡ place_of t (1024 * k)
          kept k l =
              ⊎_elim
              (λ (s : k < j). get_or-set_other marks j k at 0 (λ e. omega arith) ∙ i.marked k s)
              (λ (s : j ≤ k).
              let e : k ≡ j = omega arith in
              rw e (get_or-set_same marks j at 0 (omega (arith, marking-index, i.len)) ∙ i.seen.scanned.place ∙ ap (place_of t) here))
              (split k j)

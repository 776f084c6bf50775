-- Demand 3 of two calls: proved, for BTFs that were read before, and for the call from bytes to bytes.
use Prim.Native.Nat.{ℕ, suc, ◌+◌}
use mathlib.Core.Path.{◌≡◌, refl, sym, ap, ◌∙◌, subst}
use mathlib.Core.Bool.{Bool, true, false, cond, not}
use mathlib.Core.List.{List, [], ◌∷◌, ◌++◌}
use native.Mathlib.Omega.{arith}
use native.Mathlib.Nat.{zero-add}
use lib.ListN.{length}
use lib.Dec.{ltb}
use borrow.Author.Tests.{not-true, not-false}
use Rattle.btf_accept.specs.declared.Btf.{Btf}
use Rattle.btf_accept.specs.declared.Whole.{Whole}
use Rattle.btf_accept.specs.declared.Whole.TheVariants.{Accepted, Faulty, Over}
use Rattle.btf_accept.specs.declared.Reading.TheVariants.{Read, TooShort}
use Rattle.btf_accept.specs.Accept.{accepted}
use Rattle.btf_accept.specs.Table.{roomy, decode}
use Rattle.btf_view.specs.View.{View, doc_view}
use Rattle.btf_view.proofs.Extends.{Closed, Extends}
use Rattle.rules.specs.declared.Refusal.{Refusal}
use Rattle.rules.specs.declared.Record.{Record}
use Rattle.rules.specs.declared.Answer.{Answer}
use Rattle.rules.specs.declared.Answer.TheVariants.{Applied, Poisoned, Refused}
use Rattle.rules.specs.declared.Which.TheVariants.{Local, Target}
use Rattle.rules.specs.declared.Ending.TheVariants.{Stopped, Misshapen}
use Rattle.rules.specs.Record.{record_of}
use Rattle.rules.specs.List.{Run, follow, list_of}
use Rattle.rules.specs.Call.{records_in, ended, end_of, Effect, unrun, run_of, shaped, read_then, relocate_of, relocate_read}
use Rattle.law_growth.specs.Demand3.{is_refused, any_refused, all_matched, SettledList, FirstHarmed, StoppedAsDue, is_done, SettledCall, CallStopped}
use Rattle.law_growth.specs.Demand3.{Demand3Call}
use Rattle.law_growth.proofs.Whole.{head, others, demand3_list-view}

-- What the answers say

-- All is done where none is refused.
end-done : (k : ℕ) (ys : List Answer) → is_done (end_of k ys).ending ≡ not (any_refused ys)
unfolding end_of
end-done k [] = refl
end-done k (Applied v ∷ ys) = end-done (k + 1) ys
end-done k (Poisoned ∷ ys) = end-done (k + 1) ys
end-done k (Refused q ∷ ys) = refl

-- A refusal after answers that are none
end-stopped : (k : ℕ) (ys : List Answer) (q : Refusal) → any_refused ys ≡ false
    → end_of k (ys ++ (Refused q ∷ [])) ≡ ended (Stopped (k + length ys) q) (k + length ys)
unfolding end_of
end-stopped k [] q h = let e : k + 0 ≡ k = omega arith in rw e
end-stopped k (Applied v ∷ ys) q h = let e : k + suc (length ys) ≡ k + 1 + length ys = omega arith in rw e (end-stopped (k + 1) ys q h)
end-stopped k (Poisoned ∷ ys) q h = let e : k + suc (length ys) ≡ k + 1 + length ys = omega arith in rw e (end-stopped (k + 1) ys q h)
end-stopped k (Refused q' ∷ ys) q h = cc

-- An answer for each record, where none is refused
record Counted (rs : List Record) (ys : List Answer) : Type 0 where
  calm : any_refused ys ≡ false
  many : length ys ≡ length rs

follow-counted : (r : Record) (rs : List Record) (a : Answer) (xs : List ℕ) (f : List ℕ → Run) → is_refused a ≡ false → Counted rs (f xs).answers
    → Counted (r ∷ rs) (follow a xs f).answers
follow-counted r rs (Applied v) xs f n c = record { calm = c.calm; many = ap suc c.many }
follow-counted r rs Poisoned xs f n c = record { calm = c.calm; many = ap suc c.many }
follow-counted r rs (Refused q) xs f n c = absurd (cc)

-- The records in front of one, in a settled list
front-counted : (L T : View) (section : ℕ) (insns : List ℕ) (front more : List Record) → SettledList L T section insns (front ++ more)
    → Counted front (list_of L T section insns front).answers
unfolding list_of
front-counted L T section insns [] more s = record { calm = refl; many = refl }
front-counted L T section insns (r ∷ front) more s =
    let left = record_of L T section insns r in
    follow-counted r front left.answer left.insns (λ zs. list_of L T section zs front) (head s).accepted
    (front-counted L T section left.insns front more (others s))

-- By views

module _ {T E : View} (cl : Closed T) (cl' : Closed E) (ex : Extends T E) (L : View) (section : ℕ) (insns rs : List ℕ) where
  refusing : is_done (run_of L E section insns rs).said.ending ≡ false → any_refused (list_of L E section insns (records_in rs)).answers ≡ true
  unfolding run_of
  refusing h =
      not-false (any_refused (list_of L E section insns (records_in rs)).answers) (sym (end-done 0 (list_of L E section insns (records_in rs)).answers) ∙ h)

  stopping : SettledList L T section insns (records_in rs) → (h : FirstHarmed L T E (records_in rs))
      → StoppedAsDue L T E section insns h.front h.this (records_in rs) → CallStopped L T E section insns h.front h.this (run_of L E section insns rs)
  unfolding run_of
  stopping s h x =
      let c = front-counted L T section insns h.front (h.this ∷ h.back) (subst (SettledList L T section insns) h.whole s) in
      let ys = (list_of L T section insns h.front).answers in
      let e : end_of 0 (ys ++ (Refused x.refusal ∷ [])) ≡ ended (Stopped (length h.front) x.refusal) (length h.front) =
      end-stopped 0 ys x.refusal c.calm ∙ rw (zero-add (length ys), c.many) in
      record { refusal = x.refusal; is_due = x.is_due; numbered = x.numbered; effect = rw (x.run, e) }

  demand_of_run : SettledList L T section insns (records_in rs)
      → Demand3Call L T E section insns (records_in rs) (run_of L T section insns rs) (run_of L E section insns rs)
  unfolding run_of
  demand_of_run s =
      let d = demand3_list-view cl cl' ex L section insns (records_in rs) s in
      record { kept = λ u. rw (d.kept u); then_refused = λ h. stopping s h (d.then_refused h); only_then = λ h. d.only_then (refusing h) }

  -- A call that did all its records had bytes of the right shape.
  settled-run : is_done (run_of L T section insns rs).said.ending ≡ true → all_matched L T (records_in rs) ≡ true → SettledList L T section insns (records_in rs)
  unfolding run_of
  settled-run h m = record {
    accepted = not-true (any_refused (list_of L T section insns (records_in rs)).answers) (sym (end-done 0 (list_of L T section insns (records_in rs)).answers) ∙ h);
    matched = m;
  }

  -- Two calls on BTFs that were read before
  pub demand3_read : SettledCall L T (records_in rs) (relocate_read L T insns section rs)
      → Demand3Call L T E section insns (records_in rs) (relocate_read L T insns section rs) (relocate_read L E insns section rs)
  unfolding relocate_read
  demand3_read s = go (shaped insns section rs) s.done
    where
      go : (b : Bool) → is_done (cond b (run_of L T section insns rs) (unrun Misshapen insns)).said.ending ≡ true
          → Demand3Call L T E section insns (records_in rs) (cond b (run_of L T section insns rs) (unrun Misshapen insns)) (cond b (run_of L E section insns rs) (unrun Misshapen insns))
      go true h = demand_of_run (settled-run h s.matched)
      go false h = absurd (cc)

-- From bytes

-- A call on accepted bytes, with tables long enough, is the call on what they hold.
pub call_read : (l : List ℕ) (lroom : ℕ) (t : List ℕ) (troom : ℕ) (lb tb : Btf) (insns : List ℕ) (section : ℕ) (rs : List ℕ)
    → Accepted lb ≡ accepted l → ltb lb.last lroom ≡ true → Accepted tb ≡ accepted t → ltb tb.last troom ≡ true
    → relocate_of l lroom t troom insns section rs ≡ relocate_read (doc_view l lb) (doc_view t tb) insns section rs
unfolding relocate_of relocate_read decode
call_read l lroom t troom lb tb insns section rs p q p' q' = rw (← p, ← p', q, q')

-- What a call that did all its records tells of its BTFs
pub record Reads (l : List ℕ) (lroom : ℕ) (tb : Btf) (troom : ℕ) : Type 0 where
  pub lb : Btf
  pub is_btf : Accepted lb ≡ accepted l
  pub room : ltb lb.last lroom ≡ true
  pub room' : ltb tb.last troom ≡ true

pub reads : (l : List ℕ) (lroom : ℕ) (t : List ℕ) (troom : ℕ) (tb : Btf) (insns : List ℕ) (section : ℕ) (rs : List ℕ) → Accepted tb ≡ accepted t
    → is_done (relocate_of l lroom t troom insns section rs).said.ending ≡ true → Reads l lroom tb troom
unfolding relocate_of decode
reads l lroom t troom tb insns section rs p h = shape (shaped insns section rs) (subst by (sym p) h)
  where
    next : Btf → Btf → Effect
    next lb b = run_of (doc_view l lb) (doc_view t b) section insns rs

    by : Whole → Type 0
    by x = is_done (cond (shaped insns section rs) (read_then Local insns (roomy lroom (accepted l)) (λ lb. read_then Target insns (roomy troom x) (next lb)))
        (unrun Misshapen insns)).said.ending ≡ true

    target : (lb : Btf) → Accepted lb ≡ accepted l → ltb lb.last lroom ≡ true → (u : Bool) → ltb tb.last troom ≡ u
        → is_done (read_then Target insns (cond u (Read tb) (TooShort (tb.last + 1))) (next lb)).said.ending ≡ true → Reads l lroom tb troom
    target lb e f true g d = record { lb = lb; is_btf = e; room = f; room' = g }
    target lb e f false g d = absurd (cc)

    local : (lb : Btf) → Accepted lb ≡ accepted l → (u : Bool) → ltb lb.last lroom ≡ u
        → is_done (read_then Local insns (cond u (Read lb) (TooShort (lb.last + 1)))
        (λ b. read_then Target insns (cond (ltb tb.last troom) (Read tb) (TooShort (tb.last + 1))) (next b))).said.ending ≡ true → Reads l lroom tb troom
    local lb e true f d = target lb e f (ltb tb.last troom) refl d
    local lb e false f d = absurd (cc)

    whole : (x : Whole) → x ≡ accepted l
        → is_done (read_then Local insns (roomy lroom x)
        (λ b. read_then Target insns (cond (ltb tb.last troom) (Read tb) (TooShort (tb.last + 1))) (next b))).said.ending ≡ true → Reads l lroom tb troom
    whole (Accepted lb) e d = local lb e (ltb lb.last lroom) refl d
    whole (Faulty i) e d = absurd (cc)
    whole Over e d = absurd (cc)

    shape : (b : Bool) → is_done (cond b (read_then Local insns (roomy lroom (accepted l))
        (λ lb. read_then Target insns (cond (ltb tb.last troom) (Read tb) (TooShort (tb.last + 1))) (next lb))) (unrun Misshapen insns)).said.ending ≡ true
        → Reads l lroom tb troom
    shape true d = whole (accepted l) refl d
    shape false d = absurd (cc)

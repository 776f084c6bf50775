-- The report of what a call said is the report of its run: no value is lost with the instructions.
-- Assumes nothing.
use mathlib.Core.Path.{◌≡◌, refl, sym, ap, ap₂, subst, ◌∙◌}
use mathlib.Core.Bool.{Bool, true, false, cond, not}
use mathlib.Core.List.{List, [], ◌∷◌}
use Prim.Native.Nat.{ℕ, ◌+◌}
use native.Mathlib.Nat.{zero-add, add-zero}
use native.Mathlib.Omega.{arith}
use lib.Dec.{ltb}
use Rattle.btf_view.specs.View.{View}
use Rattle.rules.specs.declared.Record.{Record}
use Rattle.rules.specs.declared.Answer.{Answer}
use Rattle.rules.specs.declared.Answer.TheVariants.{Applied, Poisoned, Refused}
use Rattle.rules.specs.declared.Refusal.{Refusal}
use Rattle.rules.specs.declared.Write.{Write}
use Rattle.rules.specs.declared.Ending.{Ending}
use Rattle.rules.specs.declared.Ending.TheVariants.{Misshapen}
use Rattle.rules.specs.Refusal.{Reply}
use Rattle.rules.specs.Kinds.{enum_value}
use Rattle.rules.specs.Apply.{Patch, done, stopped, patch}
use Rattle.rules.specs.Record.{outcome, refuse, apply, in_function, index_of, record_of, relocated}
use Rattle.rules.specs.List.{follow, list_of, applied_of}
use Rattle.rules.specs.Call.{records_in, end_of, ended, unrun, run_of, shaped, relocate_read}
use Rattle.rules.specs.Report.{answered, answer_at_end, again, report_from, report, report_said}
use Rattle.std.specs.Prelude.{Err, Ok}

-- An answer that is no refusal
abbrev went : Answer → Bool
went (Applied v) = true
went Poisoned = true
went (Refused r) = false

wrong : false ≡ true → ⊥
wrong e = subst (λ (b : Bool). cond b ⊥ Unit) e tt

-- A record that is not refused is answered by what it writes.
module _ (xs : List ℕ) (i : ℕ) where
  patched : (w : Write) (p : Patch) → went (outcome w p).answer ≡ true → answered (Ok w) ≡ (outcome w p).answer
  patched w (done ys) h = refl
  patched w (stopped r ys) h = absurd (wrong h)

  written : (w : Reply Write) → went (apply xs i w).answer ≡ true → answered w ≡ (apply xs i w).answer
  unfolding apply
  written (Ok w) h = patched w (patch xs i w) h
  written (Err r) h = absurd (wrong h)

told : (L T : View) (section : ℕ) (xs : List ℕ) (r : Record) → went (record_of L T section xs r).answer ≡ true → answered (relocated L T r) ≡ (record_of L T section xs r).answer
unfolding record_of
told L T section xs r h = go (ltb enum_value r.kind) (not (in_function section xs r)) _ _ h
  where
    go : (b d : Bool) (k n : Refusal)
        → went (cond b (refuse xs k) (cond d (refuse xs n) (apply xs (index_of section r) (relocated L T r)))).answer ≡ true
        → answered (relocated L T r) ≡ (cond b (refuse xs k) (cond d (refuse xs n) (apply xs (index_of section r) (relocated L T r)))).answer
    go true d k n h = absurd (wrong h)
    go false true k n h = absurd (wrong h)
    go false false k n h = written xs (index_of section r) (relocated L T r) h

-- What a call said of a run's answers, from record number k on: how many were applied, and the answers again
record Kept (L T : View) (rs : List Record) (k : ℕ) (all : List Answer) : Type 0 where
  pub count : (end_of k all).applied ≡ k + applied_of all
  pub same : again L T rs (applied_of all) (end_of k all).ending ≡ all

module _ (L T : View) (section : ℕ) where
  kept : (rs : List Record) (xs : List ℕ) (k : ℕ) → Kept L T rs k (list_of L T section xs rs).answers
  unfolding list_of end_of applied_of again
  kept [] xs k = record { count = sym (add-zero k); same = refl }
  kept (r ∷ rs) xs k =
      let one = record_of L T section xs r in
      go one.answer one.insns (told L T section xs r) (kept rs one.insns (k + 1))
    where
      go : (a : Answer) (ys : List ℕ) → (went a ≡ true → answered (relocated L T r) ≡ a) → Kept L T rs (k + 1) (list_of L T section ys rs).answers
          → Kept L T (r ∷ rs) k (follow a ys (λ zs. list_of L T section zs rs)).answers
      go (Applied v) ys e h = record { count = h.count ∙ omega arith; same = ap₂ ◌∷◌ (e refl) h.same }
      go Poisoned ys e h = record { count = h.count ∙ omega arith; same = ap₂ ◌∷◌ (e refl) h.same }
      go (Refused w) ys e h = record { count = sym (add-zero k); same = refl }

  -- The answers again are the run's.
  pub again-run : (rs : List Record) (xs : List ℕ) →
      let all = (list_of L T section xs rs).answers in again L T rs (end_of 0 all).applied (end_of 0 all).ending ≡ all
  again-run rs xs =
      let all = (list_of L T section xs rs).answers in
      let h = kept rs xs 0 in
      ap (λ (n : ℕ). again L T rs n (end_of 0 all).ending) (h.count ∙ zero-add (applied_of all)) ∙ h.same

  -- The report of what a call said is section 9's report of its run.
  pub said-run : (rs : List Record) (xs : List ℕ) → report_said L T section rs (end_of 0 (list_of L T section xs rs).answers) ≡ report L T section xs rs
  unfolding report_said report
  said-run rs xs = ap (report_from section 0 rs) (again-run rs xs)

  -- A call that ended before its first record reports nothing.
  pub unrun-nothing : (rs : List Record) (e : Ending) → answer_at_end e ≡ [] → report_said L T section rs (ended e 0) ≡ []
  unfolding report_said report_from again
  unrun-nothing [] e h = refl
  unrun-nothing (r ∷ rs) e h = ap (report_from section 0 (r ∷ rs)) h

  -- The report of what a call on read BTFs said: its run's, or nothing where the bytes have a wrong shape
  pub said_read : (xs rs : List ℕ) →
      report_said L T section (records_in rs) (relocate_read L T xs section rs).said ≡ cond (shaped xs section rs) (report L T section xs (records_in rs)) []
  unfolding relocate_read run_of
  said_read xs rs = go (shaped xs section rs)
    where
      go : (t : Bool) → report_said L T section (records_in rs) (cond t (run_of L T section xs rs) (unrun Misshapen xs)).said ≡ cond t (report L T section xs (records_in rs)) []
      go true = said-run (records_in rs) xs
      go false = unrun-nothing (records_in rs) Misshapen refl

-- The records of a call, one by one: what is written and what is left to write.
-- Assumes nothing.
use mathlib.Core.Path.{◌≡◌, refl, sym, ap, ◌∙◌}
use mathlib.Core.Bool.{Bool, true, false}
use mathlib.Core.List.{List, [], ◌∷◌, ◌++◌, append-nil, append_assoc}
use Prim.Native.Nat.{ℕ, zero, suc, ◌+◌, ◌-◌, ◌/◌, ◌≤◌, ◌<◌, min}
use native.Mathlib.Nat.{zero-add, sub-zero}
use native.Mathlib.Omega.{arith}
use lib.Dec.{leb}
use lib.ListN.{length, drop}
use lib.Seq.{sets-eq}
use borrow.Author.Tests.{le-leb, lt-leb, leb-true, leb-false}
use Rattle.btf_view.specs.View.{View}
use Rattle.rules.specs.declared.Record.{Record}
use Rattle.rules.specs.declared.Answer.{Answer}
use Rattle.rules.specs.declared.Answer.TheVariants.{Refused}
use Rattle.rules.specs.declared.Refusal.{Refusal}
use Rattle.rules.specs.declared.Ending.{Ending}
use Rattle.rules.specs.declared.Ending.TheVariants.{Stopped}
use Rattle.rules.specs.Record.{index_of, relocated}
use Rattle.rules.specs.Call.{record_at, records_from}
use Rattle.rules.specs.Report.{lines, report_from, answered, answer_at_end, again}
use Rattle.call_lines.specs.Pieces.{far, Wrote}
use Rattle.call_lines.proofs.Laws.{join, called}
use Rattle.std.specs.Prelude.{Ok, Err}
use Rattle.call_report.specs.Reported.{lines_again, lines_last, reported, holding}

-- What is left to report from record k on, of m records of which n were applied
abbrev pub left : View → View → ℕ → List ℕ → ℕ → ℕ → ℕ → Ending → List ℕ
left L T section bytes k m n e = let rs = records_from bytes k m in report_from section k rs (again L T rs n e)

module _ (L T : View) (section : ℕ) (bytes : List ℕ) where
  step : (k m n : ℕ) (e : Ending) → left L T section bytes k (suc m) (suc n) e ≡ lines_again L T section bytes k ++ left L T section bytes (k + 1) m n e
  unfolding records_from report_from again lines_again
  step k m n e = refl

  last : (k m : ℕ) (e : Ending) → left L T section bytes k m 0 e ≡ report_from section k (records_from bytes k m) (answer_at_end e)
  unfolding records_from report_from again
  last k zero e = refl
  last k (suc m) e = refl

  gone : (k n : ℕ) (e : Ending) → left L T section bytes k 0 n e ≡ report_from section k (records_from bytes k 0) (answer_at_end e)
  unfolding records_from report_from
  gone k n e = refl

  -- as the code comes to them
  pub applied : {r : Record} {i : ℕ} {a : Answer} (k : ℕ) → r ≡ record_at bytes k → i ≡ index_of section r → a ≡ answered (relocated L T r) → lines k i a ≡ lines_again L T section bytes k
  unfolding lines_again
  applied k p q e = rw (q, e, p)

-- The text so far, at record k, and what is left of the whole, where n were applied and the call ended so
pub record Going (L T : View) (section : ℕ) (bytes : List ℕ) (n : ℕ) (e : Ending) (xs out : List ℕ) (at k : ℕ) : Type 0 where
  pub text : List ℕ
  pub wrote : Wrote xs 0 text out at
  pub rest : text ++ left L T section bytes k (length bytes / 16 - k) (n - k) e ≡ left L T section bytes 0 (length bytes / 16) n e
  pub here : k ≤ min (length bytes / 16) n

module _ (L T : View) (section : ℕ) (bytes : List ℕ) (n : ℕ) (e : Ending) (xs : List ℕ) where
  pub begin : Going L T section bytes n e xs xs 0 0
  begin =
      record { text = []; wrote = record { bytes = refl; place = refl }; rest = rw (sub-zero (length bytes / 16), sub-zero n); here = omega arith }

  pub more : {out next : List ℕ} {at m k : ℕ} → length xs ≤ far → k < min (length bytes / 16) n → Going L T section bytes n e xs out at k
      → Wrote out at (lines_again L T section bytes k) next m → Going L T section bytes n e xs next m (k + 1)
  more {k = k} h lt g w =
      record {
        text = g.text ++ lines_again L T section bytes k;
        wrote = join h g.wrote w;
        rest = append_assoc g.text (lines_again L T section bytes k) _ ∙ ap (λ (l : List ℕ). g.text ++ l) (sym opened) ∙ g.rest;
        here = omega arith;
      }
    where
      opened : left L T section bytes k (length bytes / 16 - k) (n - k) e
          ≡ lines_again L T section bytes k ++ left L T section bytes (k + 1) (length bytes / 16 - (k + 1)) (n - (k + 1)) e
      opened =
          let a : length bytes / 16 - k ≡ suc (length bytes / 16 - (k + 1)) = omega arith in
          let b : n - k ≡ suc (n - (k + 1)) = omega arith in
          rw (a, b) (step L T section bytes k (length bytes / 16 - (k + 1)) (n - (k + 1)) e)

  pub end : {out next : List ℕ} {at m k : ℕ} → length xs ≤ far → min (length bytes / 16) n ≤ k → Going L T section bytes n e xs out at k
      → Wrote out at (lines_last section bytes k e) next m → Wrote xs 0 (left L T section bytes 0 (length bytes / 16) n e) next m
  unfolding lines_last
  end {k = k} h ge g w = called (ap (λ (l : List ℕ). g.text ++ l) (sym (closed (leb n k) refl)) ∙ g.rest) (join h g.wrote w)
    where
      closed : (t : Bool) → leb n k ≡ t → left L T section bytes k (length bytes / 16 - k) (n - k) e ≡ lines_last section bytes k e
      closed true f = let a : n - k ≡ 0 = omega (arith, leb-true n k f) in rw a (last L T section bytes k (length bytes / 16 - k) e)
      closed false f =
          let b : length bytes / 16 - k ≡ 0 = omega (arith, leb-false n k f) in
          rw b (gone L T section bytes k (n - k) e)

-- The lines of the record at which a call ended: none past the last record, none where it ended otherwise
no-answers : (section n : ℕ) (rs : List Record) → report_from section n rs [] ≡ []
unfolding report_from
no-answers section n [] = refl
no-answers section n (r ∷ rs) = refl

module _ (section : ℕ) (bytes : List ℕ) (k : ℕ) where
  pub last_past : (e : Ending) → length bytes / 16 ≤ k → [] ≡ lines_last section bytes k e
  unfolding lines_last records_from report_from
  last_past e h = let z : length bytes / 16 - k ≡ 0 = omega arith in sym (rw z)

  pub last_none : (e : Ending) → answer_at_end e ≡ [] → [] ≡ lines_last section bytes k e
  unfolding lines_last
  last_none e h = sym (rw h (no-answers section k _))

  pub last_stopped : {r : Record} {i : ℕ} (j : ℕ) (w : Refusal) → r ≡ record_at bytes k → i ≡ index_of section r → k < length bytes / 16 → lines k i (Refused w) ≡ lines_last section bytes k (Stopped j w)
  unfolding lines_last records_from report_from
  last_stopped j w p q lt =
      let z : length bytes / 16 - k ≡ suc (length bytes / 16 - (k + 1)) = omega arith in
      let l = lines k (index_of section (record_at bytes k)) (Refused w) in
      rw (q, p) (sym (rw z (ap (λ (t : List ℕ). l ++ t) (no-answers section (k + 1) (records_from bytes (k + 1) (length bytes / 16 - (k + 1)))) ∙ append-nil l)))

-- What the count tells: it does not fit, or it does and is written.
module _ (text xs : List ℕ) {n : ℕ} (c : n ≡ min (0 + length text) far) where
  pub short : length xs < n → (Err (record { needed = n }) ≡ reported text xs) × (xs ≡ holding text xs)
  unfolding reported holding
  short h =
      let b : leb (length text) (length xs) ≡ false = lt-leb (length text) (length xs) (omega arith) in
      let e : n ≡ min (length text) far = omega arith in
      (sym (rw (b, e)), sym (rw b))

  pub enough : {ys : List ℕ} {m : ℕ} → length xs < far → n ≤ length xs → Wrote xs 0 text ys m → (Ok m ≡ reported text xs) × (ys ≡ holding text xs)
  unfolding reported holding
  enough {ys} {m} l h w =
      let f : length text ≤ length xs = omega arith in
      let b : leb (length text) (length xs) ≡ true = le-leb (length text) (length xs) f in
      let e : m ≡ length text = w.place ∙ omega arith in
      let p : 0 + length text ≤ length xs = omega arith in
      (sym (rw (b, e)), w.bytes ∙ sets-eq text xs 0 p ∙ ap (λ (k : ℕ). text ++ drop k xs) (zero-add (length text)) ∙ sym (rw b))

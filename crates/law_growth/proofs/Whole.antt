-- Demand 3 of a list of records, over views: proved.
use Prim.Native.Nat.{ℕ}
use mathlib.Core.Path.{◌≡◌, refl, sym, ap, subst}
use mathlib.Core.Bool.{Bool, true, false}
use mathlib.Core.List.{List, [], ◌∷◌, ◌++◌}
use Rattle.btf_pass.proofs.Tests.{and_l, and_r}
use Rattle.btf_view.specs.View.{View}
use Rattle.btf_view.proofs.Extends.{Closed, Extends}
use Rattle.rules.specs.declared.Refusal.{Refusal}
use Rattle.rules.specs.declared.Record.{Record}
use Rattle.rules.specs.declared.Answer.{Answer}
use Rattle.rules.specs.declared.Answer.TheVariants.{Applied, Poisoned, Refused}
use Rattle.rules.specs.Record.{Outcome, record_of}
use Rattle.rules.specs.List.{Run, follow, list_of}
use Rattle.law_growth.specs.Demand3.{Past, harmful, is_refused, is_matched, Settled, Demand3, all_matched, SettledList, Unharmed, FirstHarmed}
use Rattle.law_growth.specs.Demand3.{any_refused, StoppedAsDue, Demand3List}
use Rattle.law_growth.proofs.One.{demand3-view}

follow-same : (a : Answer) (xs : List ℕ) (f g : List ℕ → Run) → f xs ≡ g xs → follow a xs f ≡ follow a xs g
follow-same (Applied v) xs f g h = rw h
follow-same Poisoned xs f g h = rw h
follow-same (Refused q) xs f g h = refl

-- A run, and one refusal after it
abbrev ending : Run → Refusal → Run
ending run q = record { answers = run.answers ++ (Refused q ∷ []); insns = run.insns }

follow-ending : (a : Answer) (xs : List ℕ) (f g : List ℕ → Run) (q : Refusal) → is_refused a ≡ false → f xs ≡ ending (g xs) q → follow a xs f ≡ ending (follow a xs g) q
follow-ending (Applied v) xs f g q n h = rw h
follow-ending Poisoned xs f g q n h = rw h
follow-ending (Refused q') xs f g q n h = cc

follow-accepted : (a : Answer) (xs : List ℕ) (f : List ℕ → Run) → any_refused (follow a xs f).answers ≡ false → (is_refused a ≡ false) × (any_refused (f xs).answers ≡ false)
follow-accepted (Applied v) xs f h = (refl, h)
follow-accepted Poisoned xs f h = (refl, h)
follow-accepted (Refused q) xs f h = absurd (cc)

follow-refused : (a : Answer) (xs : List ℕ) (f : List ℕ → Run) → is_refused a ≡ false → any_refused (follow a xs f).answers ≡ true → any_refused (f xs).answers ≡ true
follow-refused (Applied v) xs f n h = h
follow-refused Poisoned xs f n h = h
follow-refused (Refused q) xs f n h = cc

-- A settled list: its first record is settled, and the others are on the instructions that it leaves.
module _ {L T : View} {section : ℕ} {insns : List ℕ} {r : Record} {rs : List Record} (s : SettledList L T section insns (r ∷ rs)) where
  parts : (is_refused (record_of L T section insns r).answer ≡ false)
      × (any_refused (list_of L T section (record_of L T section insns r).insns rs).answers ≡ false)
  parts = follow-accepted (record_of L T section insns r).answer (record_of L T section insns r).insns (λ ys. list_of L T section ys rs) (unfold list_of in s.accepted)

  pub head : Settled L T section insns r
  head = record { accepted = parts.0; matched = and_l (is_matched L T r) (all_matched L T rs) (unfold all_matched in s.matched) }

  pub others : SettledList L T section (record_of L T section insns r).insns rs
  others = record { accepted = parts.1; matched = and_r (is_matched L T r) (all_matched L T rs) (unfold all_matched in s.matched) }

module _ {T E : View} (cl : Closed T) (cl' : Closed E) (ex : Extends T E) (L : View) (section : ℕ) where
  one : (insns : List ℕ) (r : Record) → Settled L T section insns r → Demand3 L T E section insns r
  one insns r s = demand3-view cl cl' ex L section insns r s

  list-kept : (insns : List ℕ) (rs : List Record) → SettledList L T section insns rs → Unharmed L T E rs
      → list_of L E section insns rs ≡ list_of L T section insns rs
  unfolding list_of
  list-kept insns [] s u = refl
  list-kept insns (r ∷ rs) s u =
      rw ((one insns r (head s)).kept u.0)
      (follow-same (record_of L T section insns r).answer (record_of L T section insns r).insns _ _ (list-kept (record_of L T section insns r).insns rs (others s) u.1))

  list-stopped : (insns : List ℕ) (front : List Record) (r : Record) (back : List Record) (i : ℕ) → SettledList L T section insns (front ++ (r ∷ back))
      → Unharmed L T E front → Past T E i → harmful L T E r i ≡ true → StoppedAsDue L T E section insns front r (front ++ (r ∷ back))
  unfolding list_of
  list-stopped insns [] r back i s u p h =
      let x = (one insns r (head s)).then_refused i p h in
      record { refusal = x.refusal; is_due = x.is_due; numbered = x.numbered; run = rw x.outcome }
  list-stopped insns (f ∷ front) r back i s u p h =
      let left = record_of L T section insns f in
      let x = list-stopped left.insns front r back i (others s) u.1 p h in
      record {
        refusal = x.refusal;
        is_due = x.is_due;
        numbered = x.numbered;
        run = rw ((one insns f (head s)).kept u.0) (follow-ending left.answer left.insns _ _ x.refusal (head s).accepted x.run);
      }

  -- A record that is not refused has nothing harmful past the old end.
  unharmed : (insns : List ℕ) (r : Record) → Settled L T section insns r → is_refused (record_of L E section insns r).answer ≡ false
      → (i : ℕ) → Past T E i → harmful L T E r i ≡ false
  unharmed insns r s h i p = go (harmful L T E r i) refl
    where
      go : (t : Bool) → harmful L T E r i ≡ t → t ≡ false
      go false e = refl
      go true e =
          let x = (one insns r s).then_refused i p e in
          cc (h, ap (λ (o : Outcome). is_refused o.answer) x.outcome)

  list-only : (insns : List ℕ) (rs : List Record) → SettledList L T section insns rs → any_refused (list_of L E section insns rs).answers ≡ true → FirstHarmed L T E rs
  unfolding list_of
  list-only insns [] s h = absurd (cc)
  list-only insns (r ∷ rs) s h = go (is_refused (record_of L E section insns r).answer) refl (list-only (record_of L T section insns r).insns rs (others s))
    where
      went : is_refused (record_of L E section insns r).answer ≡ false → any_refused (list_of L E section (record_of L T section insns r).insns rs).answers ≡ true
      went e =
          let same = (one insns r (head s)).kept (unharmed insns r (head s) e) in
          rw (← same) (follow-refused (record_of L E section insns r).answer (record_of L E section insns r).insns (λ ys. list_of L E section ys rs) e h)

      go : (t : Bool) → is_refused (record_of L E section insns r).answer ≡ t
          → (any_refused (list_of L E section (record_of L T section insns r).insns rs).answers ≡ true → FirstHarmed L T E rs) → FirstHarmed L T E (r ∷ rs)
      go true e rest =
          let x = (one insns r (head s)).only_then e in
          record { front = []; this = r; back = rs; whole = refl; unharmed = tt; id = x.0; past = x.1; harm = x.2 }
      go false e rest =
          let x = rest (went e) in
          record {
            front = r ∷ x.front;
            this = x.this;
            back = x.back;
            whole = ap (λ (ys : List Record). r ∷ ys) x.whole;
            unharmed = (unharmed insns r (head s) e, x.unharmed);
            id = x.id;
            past = x.past;
            harm = x.harm;
          }

  -- The demand, of every list of settled records
  pub demand3_list-view : (insns : List ℕ) (rs : List Record) → SettledList L T section insns rs → Demand3List L T E section insns rs
  demand3_list-view insns rs s = record {
    kept = list-kept insns rs s;
    then_refused = λ h. subst (StoppedAsDue L T E section insns h.front h.this) (sym h.whole)
        (list-stopped insns h.front h.this h.back h.id (subst (SettledList L T section insns) h.whole s) h.unharmed h.past h.harm);
    only_then = list-only insns rs s;
  }

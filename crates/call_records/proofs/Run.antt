-- The list as the loop goes, from record k on.
use Prim.Native.Nat.{ℕ, suc, ◌+◌, ◌-◌, ◌/◌, ◌^◌, ◌≤◌, ◌<◌}
use mathlib.Core.Path.{◌≡◌, refl, sym, ap, ◌∙◌}
use mathlib.Core.List.{List}
use native.Mathlib.Omega.{arith}
use lib.ListN.{length}
use Rattle.btf_view.specs.View.{View}
use Rattle.rules.specs.declared.Refusal.{Refusal}
use Rattle.rules.specs.declared.Record.{Record}
use Rattle.rules.specs.declared.Answer.{Answer}
use Rattle.rules.specs.declared.Answer.TheVariants.{Applied, Poisoned, Refused}
use Rattle.rules.specs.declared.Ending.TheVariants.{Done, Stopped}
use Rattle.rules.specs.Record.{record_of}
use Rattle.rules.specs.List.{Run, list_of}
use Rattle.rules.specs.Call.{record_at, records_from, ended, end_of, Effect, run_of}
use Rattle.call_apply.specs.Applied.{outcome_of}

-- What the answers of a run say from record number k on, and the instructions left
abbrev effect : ℕ → Run → Effect
effect k run = record { said = end_of k run.answers; insns = run.insns }

-- n records from number k on
unfoldable pub run_from : View → View → ℕ → List ℕ → ℕ → ℕ → List ℕ → Effect
run_from L T section rs k n xs = effect k (list_of L T section xs (records_from rs k n))

module _ (L T : View) (section : ℕ) (rs : List ℕ) where
  pub run-whole : (xs : List ℕ) → run_from L T section rs 0 (length rs / 16) xs ≡ run_of L T section xs rs
  unfolding run_from run_of
  run-whole xs = refl

  pub run_end : (k : ℕ) (xs : List ℕ) → run_from L T section rs k 0 xs ≡ record { said = ended Done k; insns = xs }
  unfolding run_from records_from list_of end_of
  run_end k xs = refl

  -- one record of n + 1: refused, with a value, poisoned
  module _ (k n : ℕ) (xs ys : List ℕ) where
    refuses : (q : Refusal) → outcome_of (Refused q) ys ≡ record_of L T section xs (record_at rs k)
        → run_from L T section rs k (suc n) xs ≡ record { said = ended (Stopped k q) k; insns = ys }
    unfolding run_from records_from list_of end_of
    refuses q e = rw (← e)

    applies : (v : ℕ) → outcome_of (Applied v) ys ≡ record_of L T section xs (record_at rs k)
        → run_from L T section rs k (suc n) xs ≡ run_from L T section rs (k + 1) n ys
    unfolding run_from records_from list_of end_of
    applies v e = rw (← e)

    poisons : outcome_of Poisoned ys ≡ record_of L T section xs (record_at rs k) → run_from L T section rs k (suc n) xs ≡ run_from L T section rs (k + 1) n ys
    unfolding run_from records_from list_of end_of
    poisons e = rw (← e)

  -- the same as a loop counts: m records in all, k of them passed
  module _ (k m : ℕ) (xs ys : List ℕ) (h : k < m) where
    one : m - k ≡ suc (m - (k + 1))
    one = omega arith

    pub run-refused : {a : Answer} (q : Refusal) → a ≡ Refused q → outcome_of a ys ≡ record_of L T section xs (record_at rs k)
        → run_from L T section rs k (m - k) xs ≡ record { said = ended (Stopped k q) k; insns = ys }
    run-refused q e f =
        ap (λ (n : ℕ). run_from L T section rs k n xs) one ∙ refuses k (m - (k + 1)) xs ys q (ap (λ (b : Answer). outcome_of b ys) (sym e) ∙ f)

    pub run-applied : (a : Answer) → ((q : Refusal) → a ≡ Refused q → ⊥) → outcome_of a ys ≡ record_of L T section xs (record_at rs k)
        → run_from L T section rs k (m - k) xs ≡ run_from L T section rs (k + 1) (m - (k + 1)) ys
    run-applied (Applied v) other f = ap (λ (n : ℕ). run_from L T section rs k n xs) one ∙ applies k (m - (k + 1)) xs ys v f
    run-applied Poisoned other f = ap (λ (n : ℕ). run_from L T section rs k n xs) one ∙ poisons k (m - (k + 1)) xs ys f
    run-applied (Refused q) other f = absurd (other q refl)

-- The loop: k of n records are passed, the instructions are xs, and what is left to do from here is what was to do from xs₀
pub record Going (L T : View) (section : ℕ) (rs xs₀ : List ℕ) (n k : ℕ) (xs : List ℕ) : Type 0 where
  pub few : k ≤ n
  pub all : n ≡ length rs / 16
  pub small : n < 2 ^ 63
  pub long : length xs ≡ length xs₀
  pub rest : run_from L T section rs k (n - k) xs ≡ run_of L T section xs₀ rs

module _ (L T : View) (section : ℕ) (rs xs₀ : List ℕ) where
  pub going-first : (n : ℕ) → n ≡ length rs / 16 → n < 2 ^ 63 → Going L T section rs xs₀ n 0 xs₀
  going-first n e s =
      let z : n - 0 ≡ length rs / 16 = omega (arith, e) in
      record { few = omega arith; all = e; small = s; long = refl; rest = ap (λ (m : ℕ). run_from L T section rs 0 m xs₀) z ∙ run-whole L T section rs xs₀ }

module _ {L T : View} {section : ℕ} {rs xs₀ : List ℕ} {n k : ℕ} {xs : List ℕ} (g : Going L T section rs xs₀ n k xs) where
  pub going_end : n ≤ k → record { said = ended Done n; insns = xs } ≡ run_of L T section xs₀ rs
  going_end h =
      let e : n ≡ k = omega (arith, g.few, h) in
      let z : n - k ≡ 0 = omega (arith, h) in
      sym (ap (λ (m : ℕ). run_from L T section rs k m xs) z ∙ run_end L T section rs k xs ∙ rw e) ∙ g.rest

  module _ (h : k < n) {r : Record} (e : r ≡ record_at rs k) {a : Answer} {ys : List ℕ} (f : outcome_of a ys ≡ record_of L T section xs r) where
    told : outcome_of a ys ≡ record_of L T section xs (record_at rs k)
    told = f ∙ ap (record_of L T section xs) e

    pub going-refused : (q : Refusal) → a ≡ Refused q → record { said = ended (Stopped k q) k; insns = ys } ≡ run_of L T section xs₀ rs
    going-refused q i = sym (run-refused L T section rs k n xs ys h q i told) ∙ g.rest

    pub going_next : ((q : Refusal) → a ≡ Refused q → ⊥) → length ys ≡ length xs → Going L T section rs xs₀ n (k + 1) ys
    going_next i l = record {
      few = omega (arith, h);
      all = g.all;
      small = g.small;
      long = l ∙ g.long;
      rest = sym (run-applied L T section rs k n xs ys h a i told) ∙ g.rest;
    }

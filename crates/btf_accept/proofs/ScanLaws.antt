-- The laws of the first pass: each type in turn, and what a count of the types tells the later passes.
-- Assumes nothing.
use Prim.Native.Nat.{ℕ, zero, suc, ◌+◌, ◌-◌, ◌≤◌, ◌<◌}
use mathlib.Core.Path.{◌≡◌, refl, sym, ap, ◌∙◌}
use mathlib.Core.Bool.{Bool, true, false, cond}
use mathlib.Core.List.{List}
use native.Mathlib.Omega.{arith}
use native.Mathlib.Nat.{sub-zero}
use native.Mathlib.Numerals.{add-one}
use native.Mathlib.Decide.{dec_lt}
use lib.ListN.{length}
use lib.Dec.{ltb}
use borrow.Author.Tests.{lt-ltb, le-ltb}
use Rattle.btf_kinds.specs.Types.{after}
use Rattle.btf_pass.specs.declared.Passing.TheVariants.{Next, Off}
use Rattle.btf_accept.specs.declared.Scan.{Scan}
use Rattle.btf_accept.specs.declared.Scan.TheVariants.{Count, Stop, Many}
use Rattle.btf_pass.specs.Good.{good}
use Rattle.btf_accept.specs.Accept.{scan}
use Rattle.btf_pass.specs.Shape.{step_at}
use Rattle.btf_pass.proofs.TypeLaws.{least, told-next, told_fault, good-fits}
use Rattle.btf_accept.specs.Shape.{place_of, Walking, Lies}

pub place-first : (t : List ℕ) → 0 ≡ place_of t 0
unfolding place_of
place-first t = refl

pub place-next : (t : List ℕ) (n : ℕ) → place_of t (n + 1) ≡ after t (place_of t n)
unfolding place_of
place-next t n = rw (add-one n)

-- a turn of the scan, where `most` types are allowed and n have passed
module _ (t : List ℕ) (most at n : ℕ) (few : n < most) (h : at < length t) where
  less : most - n ≡ suc (most - (n + 1))
  less = omega arith

  scan-go : good t at ≡ true → scan t (most - n) at n ≡ scan t (most - (n + 1)) (after t at) (n + 1)
  unfolding scan
  scan-go g = ap (λ (f : ℕ). scan t f at n) less ∙ rw (lt-ltb at (length t) h, g)

  scan-stop : good t at ≡ false → scan t (most - n) at n ≡ Stop (n + 1)
  unfolding scan
  scan-stop g = ap (λ (f : ℕ). scan t f at n) less ∙ rw (lt-ltb at (length t) h, g)

scan-end : (t : List ℕ) (left at n : ℕ) → length t ≤ at → scan t left at n ≡ Count n
unfolding scan
scan-end t zero at n h = rw (le-ltb at (length t) h)
scan-end t (suc left) at n h = rw (le-ltb at (length t) h)

scan-many : (t : List ℕ) (left at n : ℕ) → left ≡ 0 → at < length t → scan t left at n ≡ Many
unfolding scan
scan-many t left at n z h = rw (z, lt-ltb at (length t) h)

-- a scan passes no more types than it may
pub scan-most : (t : List ℕ) (left at n last : ℕ) → scan t left at n ≡ Count last → last ≤ n + left
unfolding scan
scan-most t zero at n last h = go (ltb at (length t)) h
  where
    go : (b : Bool) → cond b Many (Count n) ≡ Count last → last ≤ n + 0
    go true q = let y : ◌≡◌ {A = ℕ} 0 1 = cc in absurd (omega arith)
    go false q = let l : n ≡ last = cc in omega arith
scan-most t (suc left) at n last h =
    go (ltb at (length t)) (good t at) (scan t left (after t at) (n + 1)) (scan-most t left (after t at) (n + 1) last) h
  where
    go : (b g : Bool) (r : Scan) → (r ≡ Count last → last ≤ n + 1 + left) → cond b (cond g r (Stop (n + 1))) (Count n) ≡ Count last → last ≤ n + suc left
    go true true r i q = let l : last ≤ n + 1 + left = i q in omega arith
    go true false r i q = let y : ◌≡◌ {A = ℕ} 0 1 = cc in absurd (omega arith)
    go false g r i q = let l : n ≡ last = cc in omega arith

-- the first pass, after n types
pub record Scanned (most : ℕ) (t : List ℕ) (at n : ℕ) : Type 0 where
  pub few : n ≤ most
  pub high : at ≤ length t
  pub place : at ≡ place_of t n
  pub same : scan t most 0 0 ≡ scan t (most - n) at n

pub scanned-first : (most : ℕ) (t : List ℕ) → Scanned most t 0 0
unfolding place_of
scanned-first most t = record { few = omega arith; high = omega arith; place = refl; same = rw sub-zero }

module _ {most : ℕ} {t : List ℕ} {at n : ℕ} (i : Scanned most t at n) where
  pub scanned-next : {x f g : ℕ} → at < length t → (n ≡ most → ⊥) → Next x f g ≡ step_at t at → Scanned most t x (n + 1) × (length t - x < length t - at)
  scanned-next {x} h m p =
      let q = told-next t at p in
      let g : after t at ≤ length t = good-fits t at q.0 in (
        record {
          few = omega (arith, i.few);
          high = omega arith;
          place = q.1 ∙ ap (λ (a : ℕ). after t a) i.place ∙ sym (place-next t n);
          same = i.same ∙ scan-go t most at n (omega (arith, i.few)) h q.0 ∙ rw (← q.1);
        },
        omega (arith, least t at),
      )

  pub scanned_fault : at < length t → (n ≡ most → ⊥) → Off ≡ step_at t at → Stop (n + 1) ≡ scan t most 0 0
  scanned_fault h m p = sym (i.same ∙ scan-stop t most at n (omega (arith, i.few)) h (told_fault t at p))

  pub scanned-many : at < length t → n ≡ most → Many ≡ scan t most 0 0
  scanned-many h m = sym (i.same ∙ scan-many t (most - n) at n (omega arith) h)

  pub scanned-end : length t ≤ at → Count n ≡ scan t most 0 0
  scanned-end h = sym (i.same ∙ scan-end t (most - n) at n h)

pub walking-first : (most : ℕ) (t : List ℕ) (n : ℕ) → Count n ≡ scan t most 0 0 → Walking most t n 0 0
walking-first most t n p = record { few = omega arith; high = omega arith; rest = rw sub-zero (sym p) }

pub walking-most : {most : ℕ} {t : List ℕ} {last : ℕ} → Walking most t last 0 0 → last ≤ most
walking-most {most} {t} {last} w = omega (arith, scan-most t (most - 0) 0 0 last w.rest)

module _ {most : ℕ} {t : List ℕ} {last at n : ℕ} (i : Walking most t last at n) (h : n < last) where
  pub walking-inside : at < length t
  walking-inside = go (dec_lt at (length t))
    where
      go : Dec (at < length t) → at < length t
      go (yes p) = p
      go (no p) =
          let q : Count last ≡ Count n = sym i.rest ∙ scan-end t (most - n) at n (omega arith) in
          let r : last ≡ n = cc in
          absurd (omega arith)

  room : n < most
  room = go (dec_lt n most)
    where
      go : Dec (n < most) → n < most
      go (yes p) = p
      go (no p) =
          let q : Count last ≡ Many = sym i.rest ∙ scan-many t (most - n) at n (omega arith) walking-inside in
          let z : ◌≡◌ {A = ℕ} 0 1 = cc in
          absurd (omega arith)

  pub walking-good : good t at ≡ true
  walking-good = go (good t at) refl
    where
      go : (b : Bool) → good t at ≡ b → good t at ≡ true
      go true g = g
      go false g =
          let q : Count last ≡ Stop (n + 1) = sym i.rest ∙ scan-stop t most at n room walking-inside g in
          let z : ◌≡◌ {A = ℕ} 0 1 = cc in
          absurd (omega arith)

  pub walking-fits : after t at ≤ length t
  walking-fits = good-fits t at walking-good

  pub walking-next : Walking most t last (after t at) (n + 1)
  walking-next = record {
    few = omega (arith, room);
    high = walking-fits;
    rest = sym (scan-go t most at n room walking-inside walking-good) ∙ i.rest;
  }

-- so it is after any number of them
pub walking-at : {most : ℕ} {t : List ℕ} {last : ℕ} → Walking most t last 0 0 → (n : ℕ) → n ≤ last → Walking most t last (place_of t n) n
unfolding place_of
walking-at w zero h = w
walking-at w (suc n) h = rw (← add-one n) (walking-next (walking-at w n (omega arith)) (omega arith))

pub walking-lies : {most : ℕ} {t : List ℕ} {last : ℕ} → Walking most t last 0 0 → Lies t last
walking-lies w k h = walking-fits (walking-at w k (omega arith)) h

pub lies_at : (t : List ℕ) (n : ℕ) {m at : ℕ} → Lies t m → at ≡ place_of t n → n < m → after t at ≤ length t
lies_at t n l p h = rw p (l n h)

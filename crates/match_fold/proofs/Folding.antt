-- The fold over the candidates at the id i: what is left to do from there is what was to do from the start.
-- Assumes nothing.
use Prim.Native.Nat.{ℕ, zero, suc, ◌+◌, ◌-◌, ◌≤◌, ◌<◌}
use mathlib.Core.Path.{◌≡◌, refl, sym, ap, ◌∙◌}
use mathlib.Core.Bool.{Bool, true, false, cond}
use mathlib.Core.List.{List}
use native.Mathlib.Omega.{arith}
use native.Mathlib.Numerals.{add-one}
use Rattle.std.specs.Prelude.{Option, Some, None, Ok, Err}
use Rattle.btf_view.specs.View.{View}
use Rattle.match_scan.specs.Candidates.{candidate_by, first_from}
use Rattle.rules.specs.declared.Refusal.{Refusal}
use Rattle.rules.specs.declared.Match.{Match}
use Rattle.rules.specs.declared.Kept.{Kept}
use Rattle.rules.specs.Matching.{Event}
use Rattle.rules.specs.Record.{agrees, first_of, keep, turn, over, Matches}
use Rattle.match_fold.specs.Folded.{among, folded_by, conflicts}

keep-few : (s : Option Kept) (i : ℕ) (m : Match) → conflicts (Some (keep s i m)) ≤ conflicts s + 1
keep-few None i m = omega arith
keep-few (Some k) i m = go (agrees k.first m)
  where
    go : (t : Bool) → conflicts (Some (cond t k (record { first = k.first; conflict = first_of k.count k.conflict i; count = suc k.count }))) ≤ k.count + 1
    go true = omega arith
    go false = omega arith

over-refused : (f : ℕ → Event) (r : Refusal) (i n : ℕ) → over f (Err r) i n ≡ Err r
unfolding over turn
over-refused f r i zero = refl
over-refused f r i (suc n) = over-refused f r (suc i) n

-- One id: nothing, a match, or a refusal
module _ (f : ℕ → Event) (s : Option Kept) (i n : ℕ) where
  over-nothing : f i ≡ Ok None → over f (Ok s) i (suc n) ≡ over f (Ok s) (suc i) n
  unfolding over turn
  over-nothing e = rw e

  over-match : {m : Match} → f i ≡ Ok (Some m) → over f (Ok s) i (suc n) ≡ over f (Ok (Some (keep s i m))) (suc i) n
  unfolding over turn
  over-match e = rw e

  over-bad : {r : Refusal} → f i ≡ Err r → over f (Ok s) i (suc n) ≡ Err r
  unfolding over turn
  over-bad {r} e = rw e (over-refused f r (suc i) n)

-- What the search among n ids from i on tells of a fold: all of them give nothing, or those before the one found do
pub record Found (f g : ℕ → Event) (i n id : ℕ) : Type 0 where
  pub low : i ≤ id
  pub high : id < i + n
  pub is : f id ≡ g id
  pub skip : (s : Option Kept) → over f (Ok s) i n ≡ over f (Ok s) id (i + n - id)

abbrev pub Told : (ℕ → Event) → (ℕ → Event) → ℕ → ℕ → Option ℕ → Type 0
Told f g i n None = (s : Option Kept) → over f (Ok s) i n ≡ Ok s
Told f g i n (Some id) = Found f g i n id

module _ (T : View) (own : ℕ) (name : List ℕ) (g : ℕ → Event) where
  candidate : (i : ℕ) → candidate_by own name T i ≡ true → among T own name g i ≡ g i
  unfolding among
  candidate i c = rw c

  none : (i : ℕ) → candidate_by own name T i ≡ false → among T own name g i ≡ Ok None
  unfolding among
  none i c = rw c

  later : (i n : ℕ) (o : Option ℕ) → candidate_by own name T i ≡ false → Told (among T own name g) g (suc i) n o → Told (among T own name g) g i (suc n) o
  later i n None c t = λ s. over-nothing (among T own name g) s i n (none i c) ∙ t s
  later i n (Some id) c t =
      let e : i + suc n - id ≡ suc i + n - id = omega arith in
      record {
        low = omega (arith, t.low);
        high = omega (arith, t.high);
        is = t.is;
        skip = λ s. over-nothing (among T own name g) s i n (none i c) ∙ t.skip s ∙ rw e;
      }

  pub told : (i n : ℕ) → Told (among T own name g) g i n (first_from T own name i n)
  unfolding first_from over
  told i zero = λ s. refl
  told i (suc n) = go (candidate_by own name T i) refl (told (suc i) n)
    where
      here : candidate_by own name T i ≡ true → Found (among T own name g) g i (suc n) i
      here c =
          let e : i + suc n - i ≡ suc n = omega arith in
          record { low = omega arith; high = omega arith; is = candidate i c; skip = λ s. rw e }

      go : (t : Bool) → candidate_by own name T i ≡ t → Told (among T own name g) g (suc i) n (first_from T own name (suc i) n)
          → Told (among T own name g) g i (suc n) (cond t (Some i) (first_from T own name (suc i) n))
      go true c v = here c
      go false c v = later i n (first_from T own name (suc i) n) c v

-- ids 0 to `last`, of which those before i are done; `end` is what the whole fold comes to
pub record Folding (T : View) (own : ℕ) (name : List ℕ) (g : ℕ → Event) (last : ℕ) (end : Matches) (s : Option Kept) (i : ℕ) : Type 0 where
  pub high : i ≤ suc last
  pub few : conflicts s ≤ i
  pub rest : over (among T own name g) (Ok s) i (suc last - i) ≡ end

pub folding-first : (T : View) (own : ℕ) (name : List ℕ) (g : ℕ → Event) → Folding T own name g T.count (folded_by T own name g) None 0
unfolding folded_by
folding-first T own name g =
    let z : suc T.count - 0 ≡ suc T.count = omega arith in
    record { high = omega arith; few = omega arith; rest = rw z }

-- The candidate id is found, and those before it are done.
pub record Standing (T : View) (own : ℕ) (name : List ℕ) (g : ℕ → Event) (last : ℕ) (end : Matches) (s : Option Kept) (id : ℕ) : Type 0 where
  pub upto : id ≤ last
  pub few : conflicts s ≤ id
  pub is : among T own name g id ≡ g id
  pub left : over (among T own name g) (Ok s) id (suc (last - id)) ≡ end

module _ {T : View} {own : ℕ} {name : List ℕ} {g : ℕ → Event} {last : ℕ} {end : Matches} {s : Option Kept} {i : ℕ} (v : Folding T own name g last end s i) where
  tells : {o : Option ℕ} → o ≡ first_from T own name i (suc last - i) → Told (among T own name g) g i (suc last - i) o
  tells p = rw p (told T own name g i (suc last - i))

  pub folding-over : {o : Option ℕ} → o ≡ first_from T own name i (suc last - i) → o ≡ None → Ok s ≡ end
  folding-over p q = sym (tells (sym q ∙ p) s) ∙ v.rest

  module _ {o : Option ℕ} {id : ℕ} (p : o ≡ first_from T own name i (suc last - i)) (q : o ≡ Some id) where
    found : Found (among T own name g) g i (suc last - i) id
    found = tells (sym q ∙ p)

    pub less : suc last - (id + 1) < suc last - i
    less = omega (arith, found.low, found.high, v.high)

    pub standing : Standing T own name g last end s id
    standing =
        let e : i + (suc last - i) - id ≡ suc (last - id) = omega (arith, found.high, v.high) in
        record {
          upto = omega (arith, found.high, v.high);
          few = omega (arith, v.few, found.low);
          is = found.is;
          left = rw e at (sym (found.skip s)) ∙ v.rest;
        }

module _ {T : View} {own : ℕ} {name : List ℕ} {g : ℕ → Event} {last : ℕ} {end : Matches} {s : Option Kept} {id : ℕ} (v : Standing T own name g last end s id) where
  next : {t : Option Kept} → conflicts t ≤ id + 1 → over (among T own name g) (Ok t) (suc id) (last - id) ≡ end → Folding T own name g last end t (id + 1)
  next {t} c e =
      let z : suc last - (id + 1) ≡ last - id = omega arith in
      record { high = omega (arith, v.upto); few = c; rest = rw (z, add-one id) e }

  pub pass_next : g id ≡ Ok None → Folding T own name g last end s (id + 1)
  pass_next e = next (omega (arith, v.few)) (sym (over-nothing (among T own name g) s id (last - id) (v.is ∙ e)) ∙ v.left)

  pub keep_next : {m : Match} → g id ≡ Ok (Some m) → {k : Kept} → k ≡ keep s id m → Folding T own name g last end (Some k) (id + 1)
  keep_next {m} e h = rw h (next (omega (arith, keep-few s id m, v.few)) (sym (over-match (among T own name g) s id (last - id) (v.is ∙ e)) ∙ v.left))

  pub stop : {r : Refusal} → g id ≡ Err r → Err r ≡ end
  stop e = sym (over-bad (among T own name g) s id (last - id) (v.is ∙ e)) ∙ v.left

-- Laws of rules' fold over the ids (Record: turn, over, conclude), and of what the types past the old end make due.
use Prim.Native.Nat.{ℕ, zero, suc, ◌+◌, ◌≤◌, ◌<◌}
use mathlib.Core.Path.{◌≡◌, refl, sym, ap, ◌∙◌}
use mathlib.Core.Bool.{Bool, true, false, cond, ◌&&◌, ◌||◌, not}
use mathlib.Core.List.{List, [], ◌∷◌}
use native.Mathlib.Omega.{arith}
use native.Mathlib.Nat.{zero-add}
use native.Mathlib.Decide.{ℕ_discrete}
use lib.ListN.{length}
use lib.Dec.{eqb}
use borrow.Author.Tests.{ne_eqb}
use Rattle.rules.specs.declared.Value.{Value}
use Rattle.rules.specs.declared.Match.{Match}
use Rattle.rules.specs.declared.Kept.{Kept}
use Rattle.rules.specs.declared.Refusal.{Refusal}
use Rattle.rules.specs.declared.Refusal.TheVariants.{Conflict}
use Rattle.rules.specs.Refusal.{Reply, number}
use Rattle.rules.specs.Record.{agree, agrees, first_of, turn, over, conclude, Matches}
use Rattle.law_growth.specs.Demand3.{causes, other_value, harms, own_or, first_own, those, owed, is_due_number}
use Rattle.rules.specs.Matching.{Event}
use Rattle.std.specs.Prelude.{Err, None, Ok, Option, Some}

-- The fold in two parts, and by events that are the same

pub over-more : (f : ℕ → Event) (s : Matches) (i n m : ℕ) → over f s i (n + m) ≡ over f (over f s i n) (i + n) m
unfolding over
over-more f s i zero m =
    let e : zero + m ≡ m = omega arith in
    let g : i + zero ≡ i = omega arith in
    rw (e, g)
over-more f s i (suc n) m =
    let e : suc n + m ≡ suc (n + m) = omega arith in
    let g : i + suc n ≡ suc i + n = omega arith in
    rw (e, g) (over-more f (turn s i (f i)) (suc i) n m)

pub over-same : (f g : ℕ → Event) (s : Matches) (i n : ℕ) → ((j : ℕ) → j < i + n → f j ≡ g j) → over f s i n ≡ over g s i n
unfolding over
over-same f g s i zero h = refl
over-same f g s i (suc n) h =
    ap (λ (e : Event). over f (turn s i e) (suc i) n) (h i (omega arith)) ∙ over-same f g (turn s i (g i)) (suc i) n (λ j l. h j (omega arith))

over-halted : (f : ℕ → Event) (q : Refusal) (i n : ℕ) → over f (Err q) i n ≡ Err q
unfolding over turn
over-halted f q i zero = refl
over-halted f q i (suc n) = over-halted f q (suc i) n

-- A match harms where it does not agree.

other-agree : (v w : Option Value) → other_value v w ≡ not (agree v w)
other-agree None w = refl
other-agree (Some v) None = refl
other-agree (Some v) (Some w) = refl

harms-agrees : (m n : Match) → harms m (Ok (Some n)) ≡ not (agrees m n)
harms-agrees m n = rw (other-agree m.value n.value) (go (eqb m.bits n.bits) (agree m.value n.value))
  where
    go : (x y : Bool) → (not x || not y) ≡ not (x && y)
    go true y = refl
    go false y = refl

-- The fold from a first match on

-- With it n conflicts are kept, the first of them with id c.
abbrev kept : Match → ℕ → ℕ → Kept
kept m c n = record { first = m; conflict = c; count = n }

-- The conflicting ids counted
abbrev counted : Match → ℕ → ℕ → List ℕ → Matches
counted m c n [] = Ok (Some (kept m c n))
counted m c n (j ∷ js) = counted m (first_of n c j) (suc n) js

-- A refusal of a type's own stands before them.
abbrev ended : Option Refusal → Matches → Matches
ended None s = s
ended (Some q) s = Err q

-- The value of the first match, or what is due
abbrev pub unless : Option Value → Option Refusal → Reply (Option Value)
unless v None = Ok v
unless v (Some q) = Err q

module _ (f : ℕ → Event) (p : ℕ → Bool) (m : Match) (eq : (j : ℕ) → p j ≡ harms m (f j)) where
  -- One id before the rest
  step : (i l : ℕ) → ((c n : ℕ) → over f (Ok (Some (kept m c n))) (suc i) l ≡ ended (first_own f (suc i) l) (counted m c n (those p (suc i) l)))
      → (c n : ℕ) (e : Event) → f i ≡ e → over f (turn (Ok (Some (kept m c n))) i e) (suc i) l
      ≡ ended (own_or e (first_own f (suc i) l)) (counted m c n (cond (p i) (i ∷ those p (suc i) l) (those p (suc i) l)))
  unfolding turn
  step i l rest c n (Ok None) h = let g : p i ≡ false = eq i ∙ rw h in rw g (rest c n)
  step i l rest c n (Err q) h = over-halted f q (suc i) l
  step i l rest c n (Ok (Some m')) h = go (agrees m m') (eq i ∙ rw h (harms-agrees m m'))
    where
      go : (t : Bool) → p i ≡ not t → over f (Ok (Some (cond t (kept m c n) (kept m (first_of n c i) (suc n))))) (suc i) l
          ≡ ended (first_own f (suc i) l) (counted m c n (cond (p i) (i ∷ those p (suc i) l) (those p (suc i) l)))
      go true g = rw g (rest c n)
      go false g = rw g (rest (first_of n c i) (suc n))

  folded : (i l c n : ℕ) → over f (Ok (Some (kept m c n))) i l ≡ ended (first_own f i l) (counted m c n (those p i l))
  unfolding over first_own those
  folded i zero c n = refl
  folded i (suc l) c n = step i l (folded (suc i) l) c n (f i) refl

  pub concluded : (k i l c : ℕ) → conclude k (over f (Ok (Some (kept m c 0))) i l) ≡ unless m.value (owed (first_own f i l) (those p i l))
  unfolding conclude
  concluded k i l c = rw (folded i l c 0) (go (first_own f i l) (those p i l))
    where
      many : (d n : ℕ) (js : List ℕ) → counted m d (suc n) js ≡ Ok (Some (kept m d (suc (n + length js))))
      many d n [] = let e : n + 0 ≡ n = omega arith in rw e
      many d n (j ∷ js) = let e : n + suc (length js) ≡ suc n + length js = omega arith in rw e (many d (suc n) js)

      go : (x : Option Refusal) (ids : List ℕ) → conclude k (ended x (counted m c 0 ids)) ≡ unless m.value (owed x ids)
      go (Some q) ids = refl
      go None [] = refl
      go None (j ∷ js) = rw (many j 0 js, zero-add (length js), ne_eqb (suc (length js)) 0 (λ e. omega arith))

-- What is due

-- A refusal that a candidate causes has one of the numbers.
causes-number : (q : Refusal) → causes q ≡ true → is_due_number (number q) ≡ true
unfolding causes
causes-number q h = go (eqb (number q) 10) (eqb (number q) 11) (eqb (number q) 14) (eqb (number q) 16) (eqb (number q) 17) h
  where
    go : (a b c d e : Bool) → (b || c || d || e) ≡ true → (a || b || c || d || e) ≡ true
    go true b c d e h = refl
    go false b c d e h = h

-- One of m ids from i on for which a test holds
pub record One (p : ℕ → Bool) (i m : ℕ) : Type 0 where
  pub id : ℕ
  pub low : i ≤ id
  pub high : id < i + m
  pub holds : p id ≡ true

later : {p : ℕ → Bool} {i m : ℕ} → One p (suc i) m → One p i (suc m)
later x = record { id = x.id; low = omega (arith, x.low); high = omega (arith, x.high); holds = x.holds }

module _ (p : ℕ → Bool) where
  those-none : (i m : ℕ) → ((j : ℕ) → i ≤ j → j < i + m → p j ≡ false) → those p i m ≡ []
  unfolding those
  those-none i zero h = refl
  those-none i (suc m) h = rw (h i (omega arith) (omega arith)) (those-none (suc i) m (λ j l k. h j (omega arith) (omega arith)))

  -- The first of them, and the others
  those-some : (i m j : ℕ) → i ≤ j → j < i + m → p j ≡ true → (k : ℕ) × (ks : List ℕ) × (those p i m ≡ k ∷ ks)
  unfolding those
  those-some i zero j l k h = absurd (omega arith)
  those-some i (suc m) j l k h = go (p i) refl (λ l'. those-some (suc i) m j l' (omega arith) h)
    where
      go : (t : Bool) → p i ≡ t → (suc i ≤ j → (k : ℕ) × (ks : List ℕ) × (those p (suc i) m ≡ k ∷ ks))
          → (k : ℕ) × (ks : List ℕ) × (cond t (i ∷ those p (suc i) m) (those p (suc i) m) ≡ k ∷ ks)
      go true e rest = (i, those p (suc i) m, refl)
      go false e rest = rest (further (ℕ_discrete i j))
        where
          further : Dec (i ≡ j) → suc i ≤ j
          further (yes s) = absurd (cc (sym e, ap p s, h))
          further (no s) = omega arith

  pub those-none-all : (i m : ℕ) → those p i m ≡ [] → (j : ℕ) → i ≤ j → j < i + m → p j ≡ false
  those-none-all i m h j l k = go (p j) refl
    where
      go : (t : Bool) → p j ≡ t → t ≡ false
      go false e = refl
      go true e = let x = those-some i m j l k e in cc (h, x.2)

  those-one : (i m k : ℕ) (ks : List ℕ) → those p i m ≡ k ∷ ks → One p i m
  unfolding those
  those-one i zero k ks h = absurd (cc)
  those-one i (suc m) k ks h = go (p i) refl h (those-one (suc i) m k ks)
    where
      go : (t : Bool) → p i ≡ t → cond t (i ∷ those p (suc i) m) (those p (suc i) m) ≡ k ∷ ks → (those p (suc i) m ≡ k ∷ ks → One p (suc i) m) → One p i (suc m)
      go true e g rest = record { id = i; low = omega arith; high = omega arith; holds = e }
      go false e g rest = later (rest g)

-- Types of which each refusal is harmful, and one that a candidate causes
pub record Owing (f : ℕ → Event) (p : ℕ → Bool) (i m : ℕ) : Type 0 where
  pub harm : (j : ℕ) → i ≤ j → j < i + m → (q : Refusal) → f j ≡ Err q → (p j ≡ true) × (causes q ≡ true)

module _ (f : ℕ → Event) (p : ℕ → Bool) where
  tail : (i m : ℕ) → Owing f p i (suc m) → Owing f p (suc i) m
  tail i m o = record { harm = λ j l k. o.harm j (omega arith) (omega arith) }

  -- A refusal of a type's own is harmful and has its number.
  own-one : (i m : ℕ) → Owing f p i m → (q : Refusal) → first_own f i m ≡ Some q → One p i m × (causes q ≡ true)
  unfolding first_own
  own-one i zero o q h = absurd (cc)
  own-one i (suc m) o q h = go (f i) refl h (own-one (suc i) m (tail i m o) q)
    where
      rest : (first_own f (suc i) m ≡ Some q → One p (suc i) m × (causes q ≡ true)) → first_own f (suc i) m ≡ Some q → One p i (suc m) × (causes q ≡ true)
      rest r g = (later (r g).0, (r g).1)

      go : (e : Event) → f i ≡ e → own_or e (first_own f (suc i) m) ≡ Some q → (first_own f (suc i) m ≡ Some q → One p (suc i) m × (causes q ≡ true))
          → One p i (suc m) × (causes q ≡ true)
      go (Ok m) e g r = rest r g
      go (Err q') e g r =
          let same : q' ≡ q = cc in
          let it : (p i ≡ true) × (causes q ≡ true) = o.harm i (omega arith) (omega arith) q (e ∙ ap Err same) in (record { id = i; low = omega arith; high = omega arith; holds = it.0 }, it.1)

  module _ (i m : ℕ) (o : Owing f p i m) where
    -- Nothing is due where nothing is harmful;
    pub owed_none : ((j : ℕ) → i ≤ j → j < i + m → p j ≡ false) → owed (first_own f i m) (those p i m) ≡ None
    owed_none h = rw (those-none p i m h) (go (first_own f i m) refl)
      where
        go : (x : Option Refusal) → first_own f i m ≡ x → owed x [] ≡ None
        go None e = refl
        go (Some q) e =
            let one : One p i m = (own-one i m o q e).0 in
            absurd (cc (h one.id one.low one.high, one.holds))

    -- something is where something is;
    pub owed-some : (j : ℕ) → i ≤ j → j < i + m → p j ≡ true → (q : Refusal) × (owed (first_own f i m) (those p i m) ≡ Some q)
    owed-some j l k h = go (first_own f i m) (those p i m) (those-some p i m j l k h)
      where
        go : (x : Option Refusal) (ids : List ℕ) → (k : ℕ) × (ks : List ℕ) × (ids ≡ k ∷ ks) → (q : Refusal) × (owed x ids ≡ Some q)
        go (Some q) ids g = (q, refl)
        go None [] g = let e : [] ≡ g.0 ∷ g.1 = g.2 in absurd (cc)
        go None (k ∷ ks) g = (Conflict k (suc (length ks)), refl)

    -- and only then; and it has one of the numbers.
    pub owed-one : (q : Refusal) → owed (first_own f i m) (those p i m) ≡ Some q → One p i m × (is_due_number (number q) ≡ true)
    owed-one q h = go (first_own f i m) refl (those p i m) refl h
      where
        conflict : (k n : ℕ) → Conflict k n ≡ q → is_due_number (number q) ≡ true
        conflict k n e = rw (← e)

        go : (x : Option Refusal) → first_own f i m ≡ x → (ids : List ℕ) → those p i m ≡ ids → owed x ids ≡ Some q → One p i m × (is_due_number (number q) ≡ true)
        go (Some q') e ids g t =
            let same : q' ≡ q = cc in
            let it : One p i m × (causes q ≡ true) = own-one i m o q (e ∙ ap Some same) in (it.0, causes-number q it.1)
        go None e [] g t = absurd (cc)
        go None e (k ∷ ks) g t = let same : Conflict k (suc (length ks)) ≡ q = cc in (those-one p i m k ks g, conflict k (suc (length ks)) same)

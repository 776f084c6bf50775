-- The laws of the last pass: the table filled, in any order of its entries.
-- Assumes nothing.
use Prim.Native.Nat.{ℕ, zero, suc, ◌+◌, ◌*◌, ◌-◌, ◌≤◌, ◌<◌}
use mathlib.Core.Path.{◌≡◌, refl, sym, ap, ◌∙◌}
use mathlib.Core.Logic.{⊎_elim}
use mathlib.Core.List.{List, ◌++◌}
use native.Mathlib.Omega.{arith}
use native.Mathlib.Nat.{add-zero}
use lib.ListN.{length, get_or, drop, set, length-set, length-append, length-drop, get_or-append}
use lib.Seq.{ext_get_or, get_or-set_same, get_or-set_other, get_or-append-add, get_or-drop}
use Rattle.btf_kinds.specs.Types.{after}
use Rattle.btf_kinds.proofs.Keys.{split}
use Rattle.btf_accept.specs.Table.{offsets, laid}
use Rattle.btf_accept.specs.Shape.{place_of, entry_for, Filled}
use Rattle.btf_accept.proofs.ScanLaws.{place-next}

-- a table with an entry set is as long as it was
pub set_long : (b : List ℕ) (i v : ℕ) {a : List ℕ} {k : ℕ} → a ≡ set b i v → length b ≡ k → length a ≡ k
set_long b i v e l = ap length e ∙ length-set b i v ∙ l

pub filled_none : (t : List ℕ) (base n : ℕ) (table : List ℕ) → Filled t base n n table table
filled_none t base n table = record { len = refl; done = λ j l h. absurd (omega arith); low = λ j h. refl; high = λ j h. refl }

-- two parts, one after the other
pub filled-both : {t : List ℕ} {base lo mid hi : ℕ} {a b c : List ℕ} → lo ≤ mid → mid ≤ hi → Filled t base lo mid a b → Filled t base mid hi b c → Filled t base lo hi a c
filled-both {t} {base} {lo} {mid} {hi} {a} {b} {c} l m f g = record {
  len = g.len ∙ f.len;
  done = λ j h k. ⊎_elim (λ (s : mid < j). g.done j s k) (λ (s : j ≤ mid). g.low j s ∙ f.done j h s) (split mid j);
  low = λ j h. g.low j (omega arith) ∙ f.low j h;
  high = λ j h. g.high j h ∙ f.high j (omega arith);
}

-- a table in which some entry is set: at its id it is what was set, elsewhere it is the same
module _ (table : List ℕ) (id v : ℕ) where
  set_other : (j : ℕ) → (j ≡ id → ⊥) → get_or (set table id v) j 0 ≡ get_or table j 0
  set_other j h = get_or-set_other table id j v 0 h

-- the entries after `lo`, so many of them, are filled
pub record Part (t : List ℕ) (base : ℕ) (table : List ℕ) (lo n : ℕ) : Type 0 where
  pub is : (j : ℕ) → lo < j → j ≤ lo + n → get_or table j 0 ≡ entry_for t base j

module _ {t : List ℕ} {base : ℕ} {table : List ℕ} {id v : ℕ} (room : id < length table) (e : v ≡ entry_for t base id) where
  -- an entry that is as it should be spoils no part
  pub part_keep : {lo n : ℕ} → Part t base table lo n → Part t base (set table id v) lo n
  part_keep {lo} {n} p = record { is = is }
    where
      is : (j : ℕ) → lo < j → j ≤ lo + n → get_or (set table id v) j 0 ≡ entry_for t base j
      is j h k =
          ⊎_elim
          (λ (s : j < id). set_other table id v j (λ q. omega arith) ∙ p.is j h k)
          (λ (s : id ≤ j).
          ⊎_elim
          (λ (r : id < j). set_other table id v j (λ q. omega arith) ∙ p.is j h k)
          (λ (r : j ≤ id). let q : j ≡ id = omega arith in rw q (get_or-set_same table id v 0 room ∙ e))
          (split id j))
          (split j id)

  -- and the one after a part makes it longer
  pub part_grow : {lo n : ℕ} → id ≡ lo + (n + 1) → Part t base table lo n → Part t base (set table id v) lo (n + 1)
  part_grow {lo} {n} q p = record { is = is }
    where
      is : (j : ℕ) → lo < j → j ≤ lo + (n + 1) → get_or (set table id v) j 0 ≡ entry_for t base j
      is j h k =
          ⊎_elim
          (λ (s : j < id). (part_keep p).is j h (omega arith))
          (λ (s : id ≤ j). let r : j ≡ id = omega arith in rw r (get_or-set_same table id v 0 room ∙ e))
          (split j id)

  pub filled_next : {lo hi : ℕ} {old : List ℕ} → id ≡ hi + 1 → lo ≤ hi → Filled t base lo hi old table → Filled t base lo (hi + 1) old (set table id v)
  filled_next {lo} {hi} q l f = record {
    len = length-set table id v ∙ f.len;
    done =
        λ j h k.
        ⊎_elim
        (λ (s : j < id). set_other table id v j (λ r. omega arith) ∙ f.done j h (omega arith))
        (λ (s : id ≤ j). let r : j ≡ id = omega arith in rw r (get_or-set_same table id v 0 room ∙ e))
        (split j id);
    low = λ j h. set_other table id v j (λ r. omega arith) ∙ f.low j h;
    high = λ j h. set_other table id v j (λ r. omega arith) ∙ f.high j (omega arith);
  }

-- the entry of the next id, where its type's place is known
pub entry-is : (t : List ℕ) (base n : ℕ) {at id : ℕ} → at ≡ place_of t n → id ≡ n + 1 → base + at ≡ entry_for t base id
entry-is t base n {at} {id} p q = let r : id - 1 ≡ n = omega arith in rw (p, r)

pub place-on : (t : List ℕ) (n : ℕ) {at x k : ℕ} → at ≡ place_of t n → x ≡ after t at → k ≡ n + 1 → x ≡ place_of t k
place-on t n p q e = q ∙ ap (λ (a : ℕ). after t a) p ∙ sym (place-next t n) ∙ ap (place_of t) (sym e)

-- four parts of `run` entries each, filled side by side, i of each done
pub record Quartered (t : List ℕ) (base run : ℕ) (old new : List ℕ) (i a b c d : ℕ) : Type 0 where
  pub few : i ≤ run
  pub len : length new ≡ length old
  pub zeroth : get_or new 0 0 ≡ get_or old 0 0
  pub high : (j : ℕ) → 4 * run < j → get_or new j 0 ≡ get_or old j 0
  pub first : Part t base new 0 i
  pub second : Part t base new run i
  pub third : Part t base new (2 * run) i
  pub fourth : Part t base new (3 * run) i
  pub at_a : a ≡ place_of t i
  pub at_b : b ≡ place_of t (run + i)
  pub at_c : c ≡ place_of t (2 * run + i)
  pub at_d : d ≡ place_of t (3 * run + i)

part_none : (t : List ℕ) (base : ℕ) (table : List ℕ) (lo : ℕ) → Part t base table lo 0
part_none t base table lo = record { is = λ j h k. absurd (omega arith) }

pub quartered-first : (t : List ℕ) (base run : ℕ) (table : List ℕ) {b c d : ℕ} → b ≡ place_of t run → c ≡ place_of t (2 * run) → d ≡ place_of t (3 * run)
    → Quartered t base run table table 0 0 b c d
unfolding place_of
quartered-first t base run table p q r = record {
  few = omega arith;
  len = refl;
  zeroth = refl;
  high = λ j h. refl;
  first = part_none t base table 0;
  second = part_none t base table run;
  third = part_none t base table (2 * run);
  fourth = part_none t base table (3 * run);
  at_a = refl;
  at_b = rw (add-zero run) p;
  at_c = rw (add-zero (2 * run)) q;
  at_d = rw (add-zero (3 * run)) r;
}

module _ {t : List ℕ} {base run : ℕ} {old new : List ℕ} {i a b c d : ℕ} (q : Quartered t base run old new i a b c d) where
  -- one entry of each part
  module _ (h : i < run) (room : 4 * run < length old) where
    module _ {one two three four : List ℕ} (e : one ≡ set new (i + 1) (base + a)) (f : two ≡ set one (run + (i + 1)) (base + b))
        (g : three ≡ set two (2 * run + (i + 1)) (base + c)) (k : four ≡ set three (3 * run + (i + 1)) (base + d)) where
      long-one : length one ≡ length old
      long-one = set_long new (i + 1) (base + a) e q.len

      long-two : length two ≡ length old
      long-two = set_long one (run + (i + 1)) (base + b) f long-one

      long-three : length three ≡ length old
      long-three = set_long two (2 * run + (i + 1)) (base + c) g long-two

      long-four : length four ≡ length old
      long-four = set_long three (3 * run + (i + 1)) (base + d) k long-three

      abbrev Entry : ℕ → ℕ → Type 0
      Entry id at = base + at ≡ entry_for t base id

      for_a : Entry (i + 1) a
      for_a = entry-is t base i q.at_a refl

      for_b : Entry (run + (i + 1)) b
      for_b = entry-is t base (run + i) q.at_b (omega arith)

      for_c : Entry (2 * run + (i + 1)) c
      for_c = entry-is t base (2 * run + i) q.at_c (omega arith)

      for_d : Entry (3 * run + (i + 1)) d
      for_d = entry-is t base (3 * run + i) q.at_d (omega arith)

      by_one : {lo n : ℕ} → Part t base new lo n → Part t base one lo n
      by_one p = rw e (part_keep (omega (arith, q.len)) for_a p)

      by_two : {lo n : ℕ} → Part t base one lo n → Part t base two lo n
      by_two p = rw f (part_keep (omega (arith, long-one)) for_b p)

      by_three : {lo n : ℕ} → Part t base two lo n → Part t base three lo n
      by_three p = rw g (part_keep (omega (arith, long-two)) for_c p)

      by-four : {lo n : ℕ} → Part t base three lo n → Part t base four lo n
      by-four p = rw k (part_keep (omega (arith, long-three)) for_d p)

      -- an entry that none of the four is
      aside : (j : ℕ) → (j ≡ i + 1 → ⊥) → (j ≡ run + (i + 1) → ⊥) → (j ≡ 2 * run + (i + 1) → ⊥) → (j ≡ 3 * run + (i + 1) → ⊥) → get_or four j 0 ≡ get_or new j 0
      aside j m n o p =
          ap (λ (l : List ℕ). get_or l j 0) k ∙ set_other three (3 * run + (i + 1)) (base + d) j p
          ∙ ap (λ (l : List ℕ). get_or l j 0) g ∙ set_other two (2 * run + (i + 1)) (base + c) j o
          ∙ ap (λ (l : List ℕ). get_or l j 0) f ∙ set_other one (run + (i + 1)) (base + b) j n
          ∙ ap (λ (l : List ℕ). get_or l j 0) e ∙ set_other new (i + 1) (base + a) j m

      pub quartered-next : {w x y z : ℕ} → w ≡ after t a → x ≡ after t b → y ≡ after t c → z ≡ after t d → Quartered t base run old four (i + 1) w x y z
      quartered-next ea eb ec ed = record {
        few = omega arith;
        len = long-four;
        zeroth = aside 0 (λ r. omega arith) (λ r. omega arith) (λ r. omega arith) (λ r. omega arith) ∙ q.zeroth;
        high = λ j l. aside j (λ r. omega arith) (λ r. omega arith) (λ r. omega arith) (λ r. omega arith) ∙ q.high j l;
        first = by-four (by_three (by_two (rw e (part_grow (omega (arith, q.len)) for_a (omega arith) q.first))));
        second = by-four (by_three (rw f (part_grow (omega (arith, long-one)) for_b refl (by_one q.second))));
        third = by-four (rw g (part_grow (omega (arith, long-two)) for_c refl (by_two (by_one q.third))));
        fourth = rw k (part_grow (omega (arith, long-three)) for_d refl (by_three (by_two (by_one q.fourth))));
        at_a = place-on t i q.at_a ea refl;
        at_b = place-on t (run + i) q.at_b eb (omega arith);
        at_c = place-on t (2 * run + i) q.at_c ec (omega arith);
        at_d = place-on t (3 * run + i) q.at_d ed (omega arith);
      }

  pub quartered-end : run ≤ i → Filled t base 0 (4 * run) old new
  quartered-end h =
      let e : i ≡ run = omega (arith, q.few) in
      record {
        len = q.len;
        done =
            λ j l k.
            ⊎_elim
            (λ (s : j < run + 1). q.first.is j l (omega arith))
            (λ (s : run + 1 ≤ j).
            ⊎_elim
            (λ (u : j < 2 * run + 1). q.second.is j (omega arith) (omega arith))
            (λ (u : 2 * run + 1 ≤ j).
            ⊎_elim
            (λ (v : j < 3 * run + 1). q.third.is j (omega arith) (omega arith))
            (λ (v : 3 * run + 1 ≤ j). q.fourth.is j (omega arith) (omega arith))
            (split j (3 * run + 1)))
            (split j (2 * run + 1)))
            (split j (run + 1));
        low = λ j l. let z : j ≡ 0 = omega arith in rw z q.zeroth;
        high = q.high;
      }

-- a whole table
offsets-length : (t : List ℕ) (base at n : ℕ) → length (offsets t base at n) ≡ n
unfolding offsets
offsets-length t base at zero = refl
offsets-length t base at (suc n) = ap suc (offsets-length t base (after t at) n)

offsets-at : (t : List ℕ) (base n m j : ℕ) → j < n → get_or (offsets t base (place_of t m) n) j 0 ≡ base + place_of t (m + j)
unfolding offsets
offsets-at t base zero m j h = absurd (omega arith)
offsets-at t base (suc n) m zero h = rw (add-zero m)
offsets-at t base (suc n) m (suc j) h =
    let e : m + 1 + j ≡ m + suc j = omega arith in
    ap (λ (a : ℕ). get_or (offsets t base a n) j 0) (sym (place-next t m)) ∙ offsets-at t base n (m + 1) j (omega arith) ∙ rw e

module _ (t : List ℕ) (base last : ℕ) (table new : List ℕ) (room : last < length table) (f : Filled t base 0 last (set table 0 0) new) where
  rest : List ℕ
  rest = offsets t base 0 last ++ drop (suc last) table

  laid-length : length new ≡ length (laid t base last table)
  unfolding laid rest
  laid-length =
      let l : length rest ≡ last + (length table - suc last) =
      length-append (offsets t base 0 last) (drop (suc last) table) ∙ rw (offsets-length t base 0 last, length-drop (suc last) table) in
      omega (arith, f.len, length-set table 0 0)

  same_at : (j : ℕ) → j < length new → get_or new j 0 ≡ get_or (laid t base last table) j 0
  unfolding laid place_of rest
  same_at zero h = f.low 0 (omega arith) ∙ get_or-set_same table 0 0 0 (omega arith)
  same_at (suc j) h =
      ⊎_elim
      (λ (s : j < last).
      let k : suc j - 1 ≡ 0 + j = omega arith in
      f.done (suc j) (omega arith) (omega arith) ∙ ap (λ (n : ℕ). base + place_of t n) k
      ∙ sym (get_or-append (offsets t base 0 last) (drop (suc last) table) 0 j (omega (arith, offsets-length t base 0 last)) ∙ offsets-at t base last 0 j s))
      (λ (s : last ≤ j).
      let e : j ≡ length (offsets t base 0 last) + (j - last) = omega (arith, offsets-length t base 0 last) in
      let g : suc last + (j - last) ≡ suc j = omega arith in
      f.high (suc j) (omega arith) ∙ get_or-set_other table 0 (suc j) 0 0 (λ z. omega arith)
      ∙ sym (ap (λ (k : ℕ). get_or rest k 0) e ∙ get_or-append-add (offsets t base 0 last) (drop (suc last) table) (j - last) 0 ∙ get_or-drop (suc last) table (j - last) 0 ∙ rw g))
      (split j last)

  pub filled-laid : new ≡ laid t base last table
  filled-laid = ext_get_or 0 new (laid t base last table) laid-length same_at

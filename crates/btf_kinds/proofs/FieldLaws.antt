-- What the code reads of a type, as the fields of the decoded type: one law for each way.
-- Assumes nothing.
use mathlib.Core.Path.{◌≡◌, sym, ap, ◌∙◌}
use mathlib.Core.Bool.{Bool, true, false, cond, ◌||◌}
use mathlib.Core.List.{List}
use Prim.Native.Nat.{ℕ, ◌+◌, ◌*◌, ◌≤◌, ◌<◌}
use native.Mathlib.Nat.{mul-le-mul_right}
use native.Mathlib.Omega.{arith}
use lib.Dec.{eqb}
use borrow.Author.Tests.{eq-eqb, ne_eqb, le-leb, lt-leb}
use Rattle.btf_kinds.proofs.Keys.{in_range}
use Rattle.word_read.specs.Num.{word}
use Rattle.btf_kinds.specs.declared.Entry.{Entry}
use Rattle.btf_kinds.specs.declared.Tail.{Tail}
use Rattle.btf_kinds.specs.Kinds.{extra_bytes, entry_bytes, tail_of, has_size, has_type, entry, entry_of}
use Rattle.btf_kinds.specs.Types.{extra_at, entry_at, entry_count, count_at, type_at, type_bytes}

-- no kind from 20 on has a size or a type
pub no_size : (k : ℕ) → 20 ≤ k → false ≡ has_size k
unfolding has_size
no_size k h =
    rw (ne_eqb k 1 (λ (e : k ≡ 1). omega arith), le-leb 4 k (omega arith), lt-leb k 6 (omega arith), le-leb 15 k (omega arith), lt-leb k 16 (omega arith), ne_eqb k 19 (λ (e : k ≡ 19). omega arith))

pub no_type : (k : ℕ) → 19 ≤ k → false ≡ has_type k
unfolding has_type
no_type k h =
    rw (ne_eqb k 2 (λ (e : k ≡ 2). omega arith), le-leb 8 k (omega arith), lt-leb k 14 (omega arith), le-leb 17 k (omega arith), lt-leb k 18 (omega arith))

pub small-extra : (k : ℕ) → extra_bytes k ≤ 12
unfolding extra_bytes
small-extra k = go (eqb k 1 || eqb k 14 || eqb k 17) (eqb k 3)
  where
    go : (a b : Bool) → cond a 4 (cond b 12 0) ≤ 12
    go true b = omega arith
    go false true = omega arith
    go false false = omega arith

pub small-entry : (k : ℕ) → entry_bytes k ≤ 12
unfolding entry_bytes
small-entry k = go (eqb k 4 || eqb k 5 || eqb k 15 || eqb k 19) (eqb k 6 || eqb k 13)
  where
    go : (a b : Bool) → cond a 12 (cond b 8 0) ≤ 12
    go true b = omega arith
    go false true = omega arith
    go false false = omega arith

module _ (i k : ℕ) (s : List ℕ) (at : ℕ) (t : Tail) (e : t ≡ tail_of k) where
  pub extra-there : {x : ℕ} → 4 * i + 4 ≤ t.once → x ≡ word s (at + (12 + 4 * i)) → x ≡ extra_at i k s at
  unfolding extra_at
  extra-there h p = let q : t.once ≡ extra_bytes k = ap (λ (u : Tail). u.once) e in p ∙ rw (le-leb (4 * i + 4) (extra_bytes k) (omega arith))

  pub extra-none : t.once < 4 * i + 4 → 0 ≡ extra_at i k s at
  unfolding extra_at
  extra-none h = let q : t.once ≡ extra_bytes k = ap (λ (u : Tail). u.once) e in rw (lt-leb (4 * i + 4) (extra_bytes k) (omega arith))

module _ (s : List ℕ) (at : ℕ) (k : ℕ) (e : k ≡ (type_at s at).kind) where
  pub sized : {b : Bool} {x : ℕ} → b ≡ has_size k → b ≡ true → x ≡ word s (at + 8) → x ≡ (type_at s at).size
  unfolding type_at
  sized f g p = let q : has_size k ≡ true = sym f ∙ g in p ∙ rw (← e, q)

  pub unsized : {b : Bool} → b ≡ has_size k → b ≡ false → 0 ≡ (type_at s at).size
  unfolding type_at
  unsized f g = let q : has_size k ≡ false = sym f ∙ g in rw (← e, q)

  pub ref_typed : {b : Bool} {x : ℕ} → b ≡ has_type k → b ≡ true → x ≡ word s (at + 8) → x ≡ (type_at s at).ref
  unfolding type_at
  ref_typed f g p = let q : has_type k ≡ true = sym f ∙ g in p ∙ rw (← e, q)

  pub ref-array : {b : Bool} {x : ℕ} → b ≡ has_type k → b ≡ false → k ≡ 3 → x ≡ extra_at 0 k s at → x ≡ (type_at s at).ref
  unfolding type_at
  ref-array f g h p = let q : has_type k ≡ false = sym f ∙ g in p ∙ rw (← e, q, eq-eqb k 3 h)

  pub ref-none : {b : Bool} → b ≡ has_type k → b ≡ false → (k ≡ 3 → ⊥) → 0 ≡ (type_at s at).ref
  unfolding type_at
  ref-none f g h = let q : has_type k ≡ false = sym f ∙ g in rw (← e, q, ne_eqb k 3 h)

  pub extra-array : {x : ℕ} → k ≡ 3 → x ≡ extra_at 2 k s at → x ≡ (type_at s at).extra
  unfolding type_at
  extra-array h p = p ∙ rw (← e, eq-eqb k 3 h)

  pub extra-other : {x : ℕ} → (k ≡ 3 → ⊥) → x ≡ extra_at 0 k s at → x ≡ (type_at s at).extra
  unfolding type_at
  extra-other h p = p ∙ rw (← e, ne_eqb k 3 h)

  -- the length of a type, in the code's numbers
  pub record Long (t : Tail) (v : ℕ) : Type 0 where
    pub extra : t.once ≤ 12
    pub product : t.each * v ≤ 12 * v
    pub few : v < 65536
    pub is : 12 + t.once + t.each * v ≡ type_bytes s at

  pub long : (t : Tail) (v : ℕ) → t ≡ tail_of k → v ≡ (type_at s at).vlen → Long t v
  unfolding type_at type_bytes
  long t v f g =
      let x : t.once ≡ extra_bytes k = ap (λ (u : Tail). u.once) f in
      let y : t.each ≡ entry_bytes k = ap (λ (u : Tail). u.each) f in
      record {
        extra = omega (arith, small-extra k);
        product = mul-le-mul_right v (omega (arith, small-entry k));
        few = omega arith;
        is = rw (x, y, ← g, ← e) (omega arith);
      }

  module _ (t : Tail) (f : t ≡ tail_of k) where
    y : t.each ≡ entry_bytes k
    y = ap (λ (u : Tail). u.each) f

    pub count_none : t.each ≡ 0 → 0 ≡ count_at s at
    unfolding type_at entry_count
    count_none h = rw (← e, eq-eqb (entry_bytes k) 0 (sym y ∙ h))

    pub count-some : {v : ℕ} → (t.each ≡ 0 → ⊥) → v ≡ (type_at s at).vlen → v ≡ count_at s at
    unfolding type_at entry_count
    count-some h g = g ∙ rw (← e, ne_eqb (entry_bytes k) 0 (λ (z : entry_bytes k ≡ 0). h (y ∙ z)))

-- the words of an entry, and what each kind makes of them
module _ (s : List ℕ) (at : ℕ) (a b c : ℕ) (ea : a ≡ word s at) (eb : b ≡ word s (at + 4)) (ec : c ≡ word s (at + 8)) where
  abbrev Is : Entry → ℕ → Type 0
  Is x k = x ≡ entry_at k s at

  pub member : (k : ℕ) → 4 ≤ k → k < 6 → Is (entry a b c 0) k
  unfolding entry_at entry_of entry_bytes
  member k l u = in_range (Is (entry a b c 0)) 4 2 k (rw (ea, eb, ec), (rw (ea, eb, ec), tt)) l u

  pub enumerator : Is (entry a 0 b 0) 6
  unfolding entry_at entry_of entry_bytes
  enumerator = rw (ea, eb)

  pub parameter : Is (entry a b 0 0) 13
  unfolding entry_at entry_of entry_bytes
  parameter = rw (ea, eb)

  pub variable : Is (entry 0 a b c) 15
  unfolding entry_at entry_of entry_bytes
  variable = rw (ea, eb, ec)

  pub wide : Is (entry a 0 b c) 19
  unfolding entry_at entry_of entry_bytes
  wide = rw (ea, eb, ec)

pub no_entry_lem : (s : List ℕ) (at k : ℕ) → (k ≡ 6 → ⊥) → (k ≡ 13 → ⊥) → (k ≡ 15 → ⊥) → (k ≡ 19 → ⊥) → (k ≡ 4 → ⊥) → (k ≡ 5 → ⊥) → entry 0 0 0 0 ≡ entry_at k s at
unfolding entry_at entry_of
no_entry_lem s at k a b c d e f = rw (ne_eqb k 4 e, ne_eqb k 5 f, ne_eqb k 6 a, ne_eqb k 13 b, ne_eqb k 15 c, ne_eqb k 19 d)

pub extra-small : (t : Tail) (k : ℕ) → t ≡ tail_of k → t.once ≤ 12
extra-small t k e = let q : t.once ≡ extra_bytes k = ap (λ (u : Tail). u.once) e in omega (arith, small-extra k)

-- The laws of reach: a type fits where its highest name offset and type id do, and these are found in its words.
-- Assumes nothing.
use Prim.Native.Nat.{ℕ, zero, suc, ◌+◌, ◌*◌, ◌-◌, ◌≤◌, ◌<◌}
use mathlib.Core.Path.{◌≡◌, refl, sym, ap, ◌∙◌}
use mathlib.Core.Bool.{Bool, true, false, ◌&&◌}
use mathlib.Core.List.{List}
use native.Mathlib.Omega.{arith}
use native.Mathlib.Nat.{add-zero, mul-suc}
use lib.ListN.{length}
use lib.Dec.{leb, ltb}
use borrow.Author.Tests.{lt-ltb, le-ltb, lt-leb, ltb-true, ltb-false, leb-false}
use Rattle.word_read.specs.Num.{word}
use Rattle.btf_kinds.specs.declared.Entry.{Entry}
use Rattle.btf_kinds.specs.Kinds.{entry_bytes, entry_of}
use Rattle.btf_kinds.specs.Types.{entry_at, entries_at, entry_count, type_at}
use Rattle.btf_kinds.proofs.Keys.{in_range}
use Rattle.btf_pass.specs.Reach.{Reach, larger, largest, topmost, names, ids, reach, list_reach, reach_of}

-- the laws of the larger
pub larger-right : (a b : ℕ) → a < b → b ≡ larger a b
unfolding larger
larger-right a b h = rw (lt-ltb a b h)

pub larger-left : (a b : ℕ) → b ≤ a → a ≡ larger a b
unfolding larger
larger-left a b h = rw (le-ltb a b h)

pub zero-larger : (a : ℕ) → larger 0 a ≡ a
unfolding larger
zero-larger zero = refl
zero-larger (suc a) = rw (lt-ltb 0 (suc a) (omega arith))

pub larger-zero : (a : ℕ) → larger a 0 ≡ a
larger-zero a = sym (larger-left a 0 (omega arith))

pub larger_assoc : (a b c : ℕ) → larger a (larger b c) ≡ larger (larger a b) c
larger_assoc a b c = go (ltb a b) refl (ltb b c) refl
  where
    go : (x : Bool) → ltb a b ≡ x → (y : Bool) → ltb b c ≡ y → larger a (larger b c) ≡ larger (larger a b) c
    go true p true q =
        let ab : a < b = ltb-true a b p in
        let bc : b < c = ltb-true b c q in
        rw (← larger-right b c bc, ← larger-right a b ab, ← larger-right b c bc, ← larger-right a c (omega arith))
    go true p false q =
        let ab : a < b = ltb-true a b p in
        let bc : c ≤ b = ltb-false b c q in
        rw (← larger-left b c bc, ← larger-right a b ab, ← larger-left b c bc)
    go false p true q =
        let ab : b ≤ a = ltb-false a b p in
        let bc : b < c = ltb-true b c q in
        rw (← larger-right b c bc, ← larger-left a b ab)
    go false p false q =
        let ab : b ≤ a = ltb-false a b p in
        let bc : c ≤ b = ltb-false b c q in
        rw (← larger-left b c bc, ← larger-left a b ab, ← larger-left a c (omega arith))

-- the larger is below a bound where both are
pub larger-ltb : (a b room : ℕ) → ltb (larger a b) room ≡ ltb a room && ltb b room
larger-ltb a b room = go (ltb a b) refl (ltb a room) refl (ltb b room) refl
  where
    go : (x : Bool) → ltb a b ≡ x → (y : Bool) → ltb a room ≡ y → (z : Bool) → ltb b room ≡ z → ltb (larger a b) room ≡ y && z
    go true p true q z r = rw (← larger-right a b (ltb-true a b p)) r
    go true p false q z r =
        rw (← larger-right a b (ltb-true a b p)) (le-ltb b room (omega (arith, ltb-true a b p, ltb-false a room q)))
    go false p true q true r = rw (← larger-left a b (ltb-false a b p)) q
    go false p true q false r =
        rw (← larger-left a b (ltb-false a b p)) (le-ltb a room (omega (arith, ltb-false a b p, ltb-false b room r)))
    go false p false q z r = rw (← larger-left a b (ltb-false a b p)) q

pub larger-leb : (a b last : ℕ) → leb (larger a b) last ≡ leb a last && leb b last
larger-leb a b last = go (ltb a b) refl (leb a last) refl (leb b last) refl
  where
    go : (x : Bool) → ltb a b ≡ x → (y : Bool) → leb a last ≡ y → (z : Bool) → leb b last ≡ z → leb (larger a b) last ≡ y && z
    go true p true q z r = rw (← larger-right a b (ltb-true a b p)) r
    go true p false q z r =
        rw (← larger-right a b (ltb-true a b p)) (lt-leb b last (omega (arith, ltb-true a b p, leb-false a last q)))
    go false p true q true r = rw (← larger-left a b (ltb-false a b p)) q
    go false p true q false r =
        rw (← larger-left a b (ltb-false a b p)) (lt-leb a last (omega (arith, ltb-false a b p, leb-false b last r)))
    go false p false q z r = rw (← larger-left a b (ltb-false a b p)) q

-- the words that the entries of a kind have as a field, or a field that they have not
pub largest_words : (f : Entry → ℕ) (k by : ℕ) (t : List ℕ) → ((at : ℕ) → f (entry_at k t at) ≡ word t (at + by))
    → (n at : ℕ) → largest f (entries_at k t at n) ≡ topmost t (entry_bytes k) (at + by) n
unfolding largest entries_at topmost
largest_words f k by t h zero at = refl
largest_words f k by t h (suc n) at =
    let e : at + entry_bytes k + by ≡ at + by + entry_bytes k = omega arith in
    rw (h at, largest_words f k by t h n (at + entry_bytes k), e)

pub largest-first : (f : Entry → ℕ) (k : ℕ) (t : List ℕ) → ((at : ℕ) → f (entry_at k t at) ≡ word t at) → (n at : ℕ) → largest f (entries_at k t at n) ≡ topmost t (entry_bytes k) at n
largest-first f k t h n at =
    largest_words f k 0 t (λ i. h i ∙ ap (word t) (sym (add-zero i))) n at ∙ ap (λ (i : ℕ). topmost t (entry_bytes k) i n) (add-zero at)

pub largest-none : (f : Entry → ℕ) (k : ℕ) (t : List ℕ) → ((at : ℕ) → f (entry_at k t at) ≡ 0) → (n at : ℕ) → largest f (entries_at k t at n) ≡ 0
unfolding largest entries_at
largest-none f k t h zero at = refl
largest-none f k t h (suc n) at = rw (h at, largest-none f k t h n (at + entry_bytes k)) (zero-larger 0)

-- the largest of `count` words, `left` of them from `at` on still to be looked at
pub record Topping (t : List ℕ) (step from count at left high : ℕ) : Type 0 where
  pub fit : at + step * left + 4 ≤ length t + step
  pub same : topmost t step from count ≡ larger high (topmost t step at left)

pub topping-first : (t : List ℕ) (step from count : ℕ) → from + step * count + 4 ≤ length t + step → Topping t step from count from count 0
topping-first t step from count h = record { fit = h; same = sym (zero-larger (topmost t step from count)) }

module _ {t : List ℕ} {step from count at left high : ℕ} (i : Topping t step from count at left high) where
  module _ (h : 0 < left) where
    one_less : left ≡ suc (left - 1)
    one_less = omega arith

    product : step * left ≡ step * (left - 1) + step
    product = ap (λ (n : ℕ). step * n) one_less ∙ mul-suc step (left - 1)

    pub topping-room : at + 4 ≤ length t
    topping-room = omega (arith, i.fit, product)

    pub topping-next : {x y : ℕ} → x ≡ word t at → y ≡ larger high x → Topping t step from count (at + step) (left - 1) y
    unfolding topmost
    topping-next {x} {y} p q = record {
      fit = omega (arith, i.fit, product);
      same =
          i.same ∙ ap (λ (n : ℕ). larger high (topmost t step at n)) one_less
          ∙ larger_assoc high (word t at) (topmost t step (at + step) (left - 1)) ∙ rw (q, p);
    }

  pub topping-end : left ≤ 0 → high ≡ topmost t step from count
  unfolding topmost
  topping-end h =
      let z : left ≡ 0 = omega arith in sym (i.same ∙ ap (λ (n : ℕ). larger high (topmost t step at n)) z ∙ larger-zero high)

-- how far the entries of a kind reach, by the words that they have
abbrev pub Spans : List ℕ → ℕ → ℕ → ℕ → ℕ → ℕ → Type 0
Spans t from n k a b = reach a b ≡ list_reach (entries_at k t from (entry_count k n))

module _ (t : List ℕ) (from n : ℕ) where
  pub spans_members : {a b : ℕ} (k : ℕ) → 4 ≤ k → k < 6 → a ≡ topmost t 12 from n → b ≡ topmost t 12 (from + 4) n → Spans t from n k a b
  unfolding entry_at entry_of entry_bytes entry_count
  spans_members {a} {b} k l u p q =
      in_range (λ k. Spans t from n k a b) 4 2 k (
        rw (p, q, largest-first (λ x. x.name) 4 t (λ at. refl) n from, largest_words (λ x. x.typ) 4 4 t (λ at. refl) n from),
        (rw (p, q, largest-first (λ x. x.name) 5 t (λ at. refl) n from, largest_words (λ x. x.typ) 5 4 t (λ at. refl) n from), tt),
      )
      l u

  pub spans-parameters : {a b : ℕ} → a ≡ topmost t 8 from n → b ≡ topmost t 8 (from + 4) n → Spans t from n 13 a b
  unfolding entry_at entry_of entry_bytes entry_count
  spans-parameters p q =
      rw (p, q, largest-first (λ x. x.name) 13 t (λ at. refl) n from, largest_words (λ x. x.typ) 13 4 t (λ at. refl) n from)

  pub spans_enumerators : {a : ℕ} → a ≡ topmost t 8 from n → Spans t from n 6 a 0
  unfolding entry_at entry_of entry_bytes entry_count
  spans_enumerators p = rw (p, largest-first (λ x. x.name) 6 t (λ at. refl) n from, largest-none (λ x. x.typ) 6 t (λ at. refl) n from)

  pub spans-wide : {a : ℕ} → a ≡ topmost t 12 from n → Spans t from n 19 a 0
  unfolding entry_at entry_of entry_bytes entry_count
  spans-wide p = rw (p, largest-first (λ x. x.name) 19 t (λ at. refl) n from, largest-none (λ x. x.typ) 19 t (λ at. refl) n from)

  pub spans_variables : {b : ℕ} → b ≡ topmost t 12 from n → Spans t from n 15 0 b
  unfolding entry_at entry_of entry_bytes entry_count
  spans_variables p = rw (p, largest-none (λ x. x.name) 15 t (λ at. refl) n from, largest-first (λ x. x.typ) 15 t (λ at. refl) n from)

-- a kind without a list
pub spans_bare : (t : List ℕ) (from n k : ℕ) → entry_bytes k ≡ 0 → Spans t from n k 0 0
unfolding entry_count entries_at largest
spans_bare t from n k e = rw e

-- a type reaches as far as its own words and its list
module _ (t : List ℕ) (at k v : ℕ) (e : k ≡ (type_at t at).kind) (f : v ≡ (type_at t at).vlen) where
  list-is : entries_at k t (at + 12) (entry_count k v) ≡ (type_at t at).entries
  unfolding type_at
  list-is = rw (e, f)

  own_is : word t at ≡ (type_at t at).name
  unfolding type_at
  own_is = refl

  pub type_reaches : (l : Reach) {i d x a r b : ℕ} → l ≡ list_reach (entries_at k t (at + 12) (entry_count k v)) → i ≡ (type_at t at).index → d ≡ larger i l.top
      → x ≡ word t at → a ≡ larger x l.far → r ≡ (type_at t at).ref → b ≡ larger r d → reach a b ≡ reach_of (type_at t at)
  type_reaches l {i} {d} {x} {a} {r} {b} q ei ed ex ea er eb =
      let w : entries_at k t (at + 12) (entry_count k v) ≡ (type_at t at).entries = list-is in
      let n : x ≡ (type_at t at).name = ex ∙ own_is in
      let lf : l.far ≡ names (type_at t at).entries = ap (λ (u : Reach). u.far) q ∙ ap names w in
      let lt : l.top ≡ ids (type_at t at).entries = ap (λ (u : Reach). u.top) q ∙ ap ids w in
      rw (ea, eb, ed, lf, lt, n, ei, er)

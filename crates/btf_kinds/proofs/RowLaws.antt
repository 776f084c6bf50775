-- Each of the table's twenty rows is the rule's: one computed test, one law.
-- Assumes nothing.
use mathlib.Core.Path.{◌≡◌, subst, ap₂}
use mathlib.Core.Logic.{◌⊎◌, ⊎_elim, inl, inr}
use mathlib.Core.Bool.{Bool, true, ◌&&◌}
use mathlib.Core.List.{List}
use Prim.Native.Nat.{ℕ, zero, suc, ◌≤◌, ◌<◌}
use native.Mathlib.Omega.{arith}
use lib.Dec.{T, eqb}
use borrow.Author.Tests.{lt-ltb, le-ltb}
use lib.ListN.{get_or}
use mir.Facts.{and_yes, eqb_yes}
use Rattle.btf_kinds.specs.declared.Tail.{Tail}
use Rattle.btf_kinds.specs.Kinds.{tail_of, extra_bytes, entry_bytes}
use Rattle.btf_kinds.proofs.Keys.{split}
use Rattle.btf_kinds.proofs.Others.{others}
use Rattle.btf_kinds.specs.Rows.{extras, entries, Columns, row_in}

-- a row, as the code answers it
abbrev row_at : ℕ → Tail
row_at r = record { once = get_or extras r 0; each = get_or entries r 0 }

-- a test at each number below n
abbrev below : (ℕ → Bool) → ℕ → Bool
below f zero = true
below f (suc n) = below f n && f n

passes : (f : ℕ → Bool) (n k : ℕ) → T (below f n) → k < n → T (f k)
passes f zero k t h = absurd (let z : ⊥ = omega arith in z)
passes f (suc n) k t h =
    let both = and_yes (below f n) (f n) t in
    ⊎_elim (λ l. passes f n k both.0 l) (λ l. let e : n ≡ k = omega arith in subst (λ (x : ℕ). T (f x)) e both.1) (split k n)

abbrev same : ℕ → Bool
same k = eqb (get_or extras k 0) (extra_bytes k) && eqb (get_or entries k 0) (entry_bytes k)

-- the whole table
whole : T (below same 20)
unfolding extra_bytes entry_bytes
whole = tt

at : (k : ℕ) → k < 20 → row_at k ≡ tail_of k
at k h =
    let both = and_yes (eqb (get_or extras k 0) (extra_bytes k)) (eqb (get_or entries k 0) (entry_bytes k)) (passes same 20 k whole h) in
    ap₂ (λ x e. record { once = x; each = e }) (eqb_yes both.0) (eqb_yes both.1)

-- what is past the table has nothing
beyond : (k : ℕ) → 20 ≤ k → row_at 0 ≡ tail_of k
beyond k h =
    others k (⊎_elim (λ e. omega arith) (⊎_elim (λ e. omega arith) (λ e. omega arith))) (λ e. omega arith) (⊎_elim (λ e. omega arith) (λ e. omega arith))
    (⊎_elim (λ e. omega arith) (λ e. omega arith)) (λ e. omega arith) (λ e. omega arith)

-- the row that the code takes
pub row-taken : (a b : List ℕ) (k r : ℕ) {x y : ℕ} → ((k < 20) × (r ≡ k)) ⊎ ((20 ≤ k) × (r ≡ 0)) → x ≡ get_or a r 0 → y ≡ get_or b r 0
    → ◌≡◌ {A = Tail} (record { once = x; each = y }) (row_in a b k)
unfolding row_in
row-taken a b k r (inl h) p q = rw (p, q, lt-ltb k 20 h.0, h.1)
row-taken a b k r (inr h) p q = rw (p, q, le-ltb k 20 h.0, h.1)

-- in the columns it is the rule's
pub columns-row : (a b : List ℕ) (k : ℕ) → Columns a b → row_in a b k ≡ tail_of k
unfolding row_in
columns-row a b k c =
    ⊎_elim
    (λ (l : k < 20). rw (c.0, c.1, lt-ltb k 20 l) (at k l))
    (λ (l : 20 ≤ k). rw (c.0, c.1, le-ltb k 20 l) (beyond k l))
    (split k 20)

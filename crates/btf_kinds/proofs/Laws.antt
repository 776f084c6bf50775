-- The laws of decoded types: what lies in a part is what lies there in the whole, and past the end is void.
-- Assumes nothing.
use mathlib.Core.Path.{◌≡◌, refl, ◌∙◌}
use mathlib.Core.Bool.{Bool, true, false, cond, ◌||◌}
use mathlib.Core.Logic.{◌⊎◌, inl, inr}
use mathlib.Core.List.{List}
use Prim.Native.Nat.{ℕ, zero, suc, ◌+◌, ◌*◌, ◌≤◌}
use native.Mathlib.Nat.{add_assoc, mul-suc}
use native.Mathlib.Omega.{arith}
use lib.Dec.{eqb, leb}
use lib.ListN.{length}
use borrow.Author.Tests.{leb-true}
use Rattle.word_read.specs.Num.{little, word}
use Rattle.word_read.proofs.Parts.{Within, num_within}
use Rattle.word_read.proofs.Laws.{past}
use Rattle.btf_kinds.specs.Kinds.{vlen_in, extra_bytes, entry_bytes, has_size, has_type, entry_of}
use Rattle.btf_kinds.specs.Types.{void, info_at, kind_at, extra_at, entry_at, entries_at, entry_count, type_at, type_bytes, after}

-- an entry has 12 bytes, 8 or none
pub entry-sizes : (k : ℕ) → (entry_bytes k ≡ 12) ⊎ ((entry_bytes k ≡ 8) ⊎ (entry_bytes k ≡ 0))
unfolding entry_bytes
entry-sizes k = go (eqb k 4 || eqb k 5 || eqb k 15 || eqb k 19) (eqb k 6 || eqb k 13)
  where
    go : (a b : Bool) → let n : ℕ = cond a 12 (cond b 8 0) in (n ≡ 12) ⊎ ((n ≡ 8) ⊎ (n ≡ 0))
    go true b = inl refl
    go false true = inr (inl refl)
    go false false = inr (inr refl)

-- where a test decides whether a value counts, it need be the same only there
pub when : (b : Bool) (x y z : ℕ) → (b ≡ true → x ≡ y) → cond b x z ≡ cond b y z
when true x y z h = h refl
when false x y z h = refl

module _ {t s : List ℕ} {base : ℕ} (w : Within t s base) where
  word_in : (at : ℕ) → at + 4 ≤ length t → word t at ≡ word s (base + at)
  word_in at h = num_within little 4 w at h

  extra-in : (i k at : ℕ) → at + (12 + extra_bytes k) ≤ length t → extra_at i k t at ≡ extra_at i k s (base + at)
  unfolding extra_at
  extra-in i k at h =
      when (leb (4 * i + 4) (extra_bytes k)) _ _ _
      (λ e. word_in (at + (12 + 4 * i)) (omega (arith, leb-true (4 * i + 4) (extra_bytes k) e)) ∙ rw (add_assoc base at (12 + 4 * i)))

  entry_in : (k at : ℕ) → (entry_bytes k ≡ 0 → ⊥) → at + entry_bytes k ≤ length t → entry_at k t at ≡ entry_at k s (base + at)
  unfolding entry_at
  entry_in k at n h = go (entry-sizes k)
    where
      go : (entry_bytes k ≡ 12) ⊎ ((entry_bytes k ≡ 8) ⊎ (entry_bytes k ≡ 0))
          → entry_of k (word t at) (word t (at + 4)) (cond (eqb (entry_bytes k) 12) (word t (at + 8)) 0)
          ≡ entry_of k (word s (base + at)) (word s (base + at + 4)) (cond (eqb (entry_bytes k) 12) (word s (base + at + 8)) 0)
      go (inl e) =
          rw (e, word_in at (omega arith), word_in (at + 4) (omega arith), word_in (at + 8) (omega arith), add_assoc base at 4, add_assoc base at 8)
      go (inr (inl e)) = rw (e, word_in at (omega arith), word_in (at + 4) (omega arith), add_assoc base at 4)
      go (inr (inr e)) = absurd (n e)

  entries-in : (k n at : ℕ) → (entry_bytes k ≡ 0 → ⊥) → at + entry_bytes k * n ≤ length t → entries_at k t at n ≡ entries_at k s (base + at) n
  unfolding entries_at
  entries-in k zero at z h = refl
  entries-in k (suc n) at z h =
      let e : entry_bytes k * suc n ≡ entry_bytes k * n + entry_bytes k = mul-suc (entry_bytes k) n in
      rw (entry_in k at z (omega arith), entries-in k n (at + entry_bytes k) z (omega arith), add_assoc base at (entry_bytes k))

  list_in_lem : (k v at : ℕ) → at + entry_bytes k * v ≤ length t → entries_at k t at (entry_count k v) ≡ entries_at k s (base + at) (entry_count k v)
  unfolding entry_count entries_at
  list_in_lem k v at h = go (entry-sizes k)
    where
      go : (entry_bytes k ≡ 12) ⊎ ((entry_bytes k ≡ 8) ⊎ (entry_bytes k ≡ 0))
          → entries_at k t at (cond (eqb (entry_bytes k) 0) 0 v) ≡ entries_at k s (base + at) (cond (eqb (entry_bytes k) 0) 0 v)
      go (inl e) = rw e (entries-in k v at (λ (z : entry_bytes k ≡ 0). omega arith) h)
      go (inr (inl e)) = rw e (entries-in k v at (λ (z : entry_bytes k ≡ 0). omega arith) h)
      go (inr (inr e)) = rw e

  -- how long a type is that begins in the part
  pub bytes-within : (at : ℕ) → at + 8 ≤ length t → type_bytes t at ≡ type_bytes s (base + at)
  unfolding type_bytes
  bytes-within at h = rw (word_in (at + 4) (omega arith), add_assoc base at 4)

  -- a type that lies in the part is the type there in the whole
  pub type_within : (at : ℕ) → after t at ≤ length t → type_at t at ≡ type_at s (base + at)
  unfolding type_at type_bytes
  type_within at h =
      let i : info_at t at ≡ info_at s (base + at) = word_in (at + 4) (omega arith) ∙ rw (add_assoc base at 4) in
      let n : word t at ≡ word s (base + at) = word_in at (omega arith) in
      let r : word t (at + 8) ≡ word s (base + at + 8) = word_in (at + 8) (omega arith) ∙ rw (add_assoc base at 8) in
      let k = kind_at t at in
      let x : (j : ℕ) → extra_at j k t at ≡ extra_at j k s (base + at) = λ j. extra-in j k at (omega arith) in
      let e = list_in_lem k (vlen_in (info_at t at)) (at + 12) (omega arith) in
      rw (x 0, x 1, x 2, e, add_assoc base at 12, r, n, i)

-- past the end there is void
module _ (s : List ℕ) (at : ℕ) (h : length s ≤ at) where
  none : (i : ℕ) → word s (at + i) ≡ 0
  none i = past little 4 s (at + i) (omega arith)

  pub type_past : type_at s at ≡ void
  unfolding type_at extra_at entry_count entries_at has_size has_type extra_bytes entry_bytes
  type_past = rw (past little 4 s at h, none 4)

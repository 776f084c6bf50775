-- The laws of places, and of entries one by one.
-- Assumes nothing.
use Prim.Native.Nat.{ℕ, zero, suc, ◌+◌, ◌*◌, ◌≤◌, ◌<◌}
use mathlib.Core.Path.{◌≡◌, refl, sym, ap, ◌∙◌}
use mathlib.Core.Bool.{Bool, true, false, cond, ◌&&◌}
use mathlib.Core.Logic.{⊎_elim}
use mathlib.Core.List.{List}
use native.Mathlib.Omega.{arith}
use native.Mathlib.Nat.{add-zero, mul-zero, mul-suc, le_refl, mul-le-mul_right}
use lib.Dec.{eqb, ltb}
use lib.ListN.{length, get_or, get_or-eq_default}
use borrow.Author.Tests.{lt-ltb, le-ltb, le-leb, lt-leb}
use Rattle.btf_kinds.specs.declared.Entry.{Entry}
use Rattle.btf_kinds.specs.Kinds.{vlen_in, entry_bytes}
use Rattle.btf_kinds.specs.Types.{Ty, void, info_at, kind_at, entry_at, entries_at, entry_count, count_at, type_at}
use Rattle.btf_kinds.proofs.Laws.{type_past, entry-sizes}
use Rattle.btf_view.specs.View.{taken, tab_typ}
use Rattle.btf_view.specs.Places.{table_place, no_entry}

module _ (s table : List ℕ) (last i : ℕ) where
  pub place-zero : i ≡ 0 → length s ≡ table_place s table last i
  unfolding table_place
  place-zero h = rw (le-ltb 0 i (omega arith))

  pub place-high : (i ≡ 0 → ⊥) → last < i → length s ≡ table_place s table last i
  unfolding table_place
  place-high z h = rw (lt-ltb 0 i (omega arith), lt-leb i last h)

  pub place_short : (i ≡ 0 → ⊥) → i ≤ last → length table ≤ i → length s ≡ table_place s table last i
  unfolding table_place
  place_short z h l = rw (lt-ltb 0 i (omega arith), le-leb i last h, le-ltb i (length table) l)

  pub place_is : (i ≡ 0 → ⊥) → i ≤ last → i < length table → get_or table i 0 ≡ table_place s table last i
  unfolding table_place
  place_is z h l = rw (lt-ltb 0 i (omega arith), le-leb i last h, lt-ltb i (length table) l)

  -- the type at an id's place is the view's
  pub at_place : {x : ℕ} → x ≡ table_place s table last i → type_at s x ≡ tab_typ s table last i
  unfolding table_place tab_typ
  at_place e = ap (type_at s) e ∙ go (taken last i && ltb i (length table))
    where
      go : (b : Bool) → type_at s (cond b (get_or table i 0) (length s)) ≡ cond b (type_at s (get_or table i 0)) void
      go true = refl
      go false = type_past s (length s) (le_refl (length s))

-- the k-th entry of a list
nth : (kind : ℕ) (s : List ℕ) (at n k : ℕ) → k < n → get_or (entries_at kind s at n) k no_entry ≡ entry_at kind s (at + entry_bytes kind * k)
unfolding entries_at
nth kind s at zero k h = absurd (omega arith)
nth kind s at (suc n) zero h = rw (mul-zero (entry_bytes kind), add-zero at)
nth kind s at (suc n) (suc k) h =
    let e : at + entry_bytes kind * suc k ≡ at + entry_bytes kind + entry_bytes kind * k = rw (mul-suc (entry_bytes kind) k) (omega arith) in
    rw e (nth kind s (at + entry_bytes kind) n k (omega arith))

long : (kind : ℕ) (s : List ℕ) (at n : ℕ) → length (entries_at kind s at n) ≡ n
unfolding entries_at
long kind s at zero = refl
long kind s at (suc n) = ap suc (long kind s (at + entry_bytes kind) n)

module _ (s table : List ℕ) (last i x : ℕ) (e : x ≡ table_place s table last i) (k : ℕ) where
  listed : (type_at s x).entries ≡ (tab_typ s table last i).entries
  listed = ap (λ (ty : Ty). ty.entries) (at_place s table last i e)

  of_list : (kind : ℕ) → kind ≡ (type_at s x).kind → (type_at s x).entries ≡ entries_at kind s (x + 12) (count_at s x)
  unfolding type_at
  of_list kind f = rw f

  pub entry-none : {n : ℕ} → n ≡ count_at s x → n ≤ k → no_entry ≡ get_or (tab_typ s table last i).entries k no_entry
  entry-none {n} p h =
      let q : length (type_at s x).entries ≤ k = omega (arith, ap (λ (l : List Entry). length l) (of_list (type_at s x).kind refl), long (type_at s x).kind s (x + 12) (count_at s x)) in
      sym (ap (λ (l : List Entry). get_or l k no_entry) (sym listed) ∙ get_or-eq_default (type_at s x).entries no_entry q)

  pub entry-is : {n kind d : ℕ} {r : Entry} → n ≡ count_at s x → k < n → kind ≡ (type_at s x).kind → d ≡ entry_bytes kind → r ≡ entry_at kind s (x + 12 + d * k)
      → r ≡ get_or (tab_typ s table last i).entries k no_entry
  entry-is {n} {kind} {d} p h f g q =
      q ∙ sym (ap (λ (l : List Entry). get_or l k no_entry) (sym listed ∙ of_list kind f) ∙ nth kind s (x + 12) (count_at s x) k (omega arith) ∙ rw g)

-- how many entries the view's type has
pub entries-long : (s table : List ℕ) (last i x : ℕ) → x ≡ table_place s table last i → count_at s x ≡ length (tab_typ s table last i).entries
entries-long s table last i x e =
    sym (ap (λ (l : List Entry). length l) (sym (listed s table last i x e 0) ∙ of_list s table last i x e 0 (type_at s x).kind refl) ∙ long (type_at s x).kind s (x + 12) (count_at s x))

-- the entries of a type take few bytes
few : (s : List ℕ) (at : ℕ) → count_at s at < 65536
unfolding entry_count
few s at = go (eqb (entry_bytes (kind_at s at)) 0)
  where
    go : (b : Bool) → cond b 0 (vlen_in (info_at s at)) < 65536
    go true = omega arith
    go false = omega arith

small : (k : ℕ) → entry_bytes k ≤ 12
small k = ⊎_elim (λ (e : entry_bytes k ≡ 12). omega arith) (⊎_elim (λ (e : entry_bytes k ≡ 8). omega arith) (λ (e : entry_bytes k ≡ 0). omega arith)) (entry-sizes k)

pub reach : (s : List ℕ) (at kind n k d : ℕ) → n ≡ count_at s at → k < n → d ≡ entry_bytes kind → d * k < 786432
reach s at kind n k d p h e =
    let q : d * k ≤ 12 * k = mul-le-mul_right k (omega (arith, small kind)) in omega (arith, few s at)

-- The laws of one type passed: at each kind, the shape that the code passes is the type's step.
-- Assumes nothing.
use Prim.Native.Nat.{ℕ, ◌+◌, ◌*◌, ◌^◌, ◌≤◌, ◌<◌}
use mathlib.Core.Path.{◌≡◌, refl, sym, ap, ◌∙◌}
use mathlib.Core.Bool.{Bool, true, false, cond, ◌&&◌}
use mathlib.Core.List.{List, [], ◌∷◌}
use types.Run.{OneOf}
use native.Mathlib.Omega.{arith}
use native.Mathlib.Nat.{mul-le-mul_right}
use lib.ListN.{length}
use lib.Dec.{leb, eqb}
use borrow.Author.Tests.{le-leb, lt-leb}
use Rattle.word_read.specs.Num.{word}
use Rattle.btf_kinds.specs.Kinds.{is_kind, is_array, encodes, has_type, extra_bytes, entry_bytes}
use Rattle.btf_kinds.specs.Types.{kind_at, extra_at, type_at, type_bytes, after}
use Rattle.btf_kinds.proofs.Keys.{at_key, in_range}
use Rattle.btf_kinds.proofs.FieldLaws.{ref-none}
use Rattle.btf_pass.specs.declared.Passing.TheVariants.{Next, Off}
use Rattle.btf_pass.specs.Good.{encoding_fine, good}
use Rattle.btf_pass.specs.Reach.{larger, topmost, reach, reach_of}
use Rattle.btf_pass.specs.Shape.{step_at, up_to, Listed, past_pairs, past_names, past_variables, past_int, past_array, Seen}
use Rattle.btf_pass.proofs.Tests.{and_false, and_true}
use Rattle.btf_pass.proofs.TypeLaws.{int_word, array-element, array-index, no_index, int_is, int_not}
use Rattle.btf_pass.proofs.ReachLaws.{larger-zero, zero-larger, Spans, spans_bare, spans_members, spans-parameters, spans_enumerators, spans-wide, spans_variables, type_reaches}

-- up to a place
module _ (t : List ℕ) (x far top : ℕ) where
  pub up_to_lem : x ≤ length t → Next x far top ≡ up_to t x far top
  unfolding up_to
  up_to_lem h = rw (le-leb x (length t) h)

  pub up_off : length t < x → Off ≡ up_to t x far top
  unfolding up_to
  up_off h = rw (lt-leb x (length t) h)

-- a list's bytes fit a word
pub listed_small : (t : List ℕ) (from step n : ℕ) → Listed t from step n → step * n < 2 ^ 32
listed_small t from step n h = let p : step * n ≤ 12 * n = mul-le-mul_right n h.1 in omega (arith, h.2)

-- the ways past each shape
module _ (t : List ℕ) (from name : ℕ) where
  pub past_pairs_lem : (step n typ : ℕ) {x y far top : ℕ} → from + step * n ≤ length t → x ≡ topmost t step from n → y ≡ topmost t step (from + 4) n
      → far ≡ larger name x → top ≡ larger typ y → Next (from + step * n) far top ≡ past_pairs t from step n name typ
  unfolding past_pairs
  past_pairs_lem step n typ h p q ef et = up_to_lem t (from + step * n) _ _ h ∙ rw (ef, et, p, q)

  pub past_names_lem : (step n : ℕ) {x far : ℕ} → from + step * n ≤ length t → x ≡ topmost t step from n → far ≡ larger name x
      → Next (from + step * n) far 0 ≡ past_names t from step n name
  unfolding past_names
  past_names_lem step n h p ef = up_to_lem t (from + step * n) _ _ h ∙ rw (ef, p)

  pub past_variables_lem : (n : ℕ) {top : ℕ} → from + 12 * n ≤ length t → top ≡ topmost t 12 from n → Next (from + 12 * n) name top ≡ past_variables t from n name
  unfolding past_variables
  past_variables_lem n h p = up_to_lem t (from + 12 * n) _ _ h ∙ rw p

  pub past_array_lem : {x y top : ℕ} → from + 12 ≤ length t → x ≡ word t from → y ≡ word t (from + 4) → top ≡ larger x y
      → Next (from + 12) name top ≡ past_array t from name
  unfolding past_array
  past_array_lem h p q et = up_to_lem t (from + 12) _ _ h ∙ rw (et, p, q)

  pub int-off : length t < from + 4 → Off ≡ past_int t from name
  unfolding past_int
  int-off h = rw (lt-leb (from + 4) (length t) h)

  module _ {x : ℕ} {b : Bool} (h : from + 4 ≤ length t) (p : x ≡ word t from) (q : b ≡ encodes x) where
    pub past_int_lem : b ≡ true → Next (from + 4) name 0 ≡ past_int t from name
    unfolding past_int
    past_int_lem r = let c : encodes (word t from) ≡ true = ap encodes (sym p) ∙ sym q ∙ r in rw (le-leb (from + 4) (length t) h, c)

    pub int-bad : b ≡ false → Off ≡ past_int t from name
    unfolding past_int
    int-bad r = let c : encodes (word t from) ≡ false = ap encodes (sym p) ∙ sym q ∙ r in rw (le-leb (from + 4) (length t) h, c)

-- what a kind says of its step
pub record Row : Type 0 where
  pub known : Bool
  pub typed : Bool
  pub array : Bool
  pub int : Bool
  pub once : ℕ
  pub each : ℕ

abbrev row_of : ℕ → Row
row_of k = record { known = is_kind k; typed = has_type k; array = is_array k; int = eqb k 1; once = extra_bytes k; each = entry_bytes k }

-- a known kind, neither INT nor ARRAY: whether its third word is a type, the bytes that come once and those of each entry
abbrev pub Plain : Bool → ℕ → ℕ → ℕ → Type 0
Plain b x y k = row_of k ≡ record { known = true; typed = b; array = false; int = false; once = x; each = y }

-- the kinds of each row, as a match on the kind has them: by keys, or in a range without the keys of others
module _ {k : ℕ} where
  pub typed_keys : OneOf (2 ∷ 18 ∷ []) k → Plain true 0 0 k
  unfolding is_kind has_type extra_bytes entry_bytes
  typed_keys o = at_key (Plain true 0 0) (2 ∷ 18 ∷ []) k (refl, (refl, tt)) o

  pub typed_range : 8 ≤ k → k < 13 → Plain true 0 0 k
  unfolding is_kind has_type extra_bytes entry_bytes
  typed_range l u = in_range (Plain true 0 0) 8 5 k (refl, (refl, (refl, (refl, (refl, tt))))) l u

  pub bare_keys : OneOf (7 ∷ 16 ∷ []) k → Plain false 0 0 k
  unfolding is_kind has_type extra_bytes entry_bytes
  bare_keys o = at_key (Plain false 0 0) (7 ∷ 16 ∷ []) k (refl, (refl, tt)) o

  pub word_keys : OneOf (14 ∷ 17 ∷ []) k → Plain true 4 0 k
  unfolding is_kind has_type extra_bytes entry_bytes
  word_keys o = at_key (Plain true 4 0) (14 ∷ 17 ∷ []) k (refl, (refl, tt)) o

  pub no_kind : k < 1 → is_kind k ≡ false
  unfolding is_kind
  no_kind h = rw (lt-leb 1 k h)

  pub no_kind-left : 19 < k → is_kind k ≡ false
  unfolding is_kind
  no_kind-left h = rw (lt-leb k 19 h, and_false)

pub step-short : (t : List ℕ) (at : ℕ) → length t < at + 12 → Off ≡ step_at t at
unfolding step_at good
step-short t at h = rw (lt-leb (at + 12) (length t) h)

module _ {t : List ℕ} {at k v a w : ℕ} (i : Seen t at k v a w) where
  kind-is : kind_at t at ≡ k
  unfolding type_at
  kind-is = sym i.kind

  pub step_unknown : is_kind k ≡ false → Off ≡ step_at t at
  unfolding step_at good
  step_unknown h = let q : is_kind (kind_at t at) ≡ false = ap is_kind kind-is ∙ h in rw (q, and_false)

  pub listed : (step : ℕ) → 8 ≤ step → step ≤ 12 → Listed t (at + 12) step v
  unfolding type_at
  listed step l u = (l, u, omega (arith, i.vlen), i.room)

  bytes_are : (x y : ℕ) → extra_bytes k ≡ x → entry_bytes k ≡ y → at + 12 + x + y * v ≡ after t at
  unfolding type_at type_bytes
  bytes_are x y p q = rw (kind-is, ← i.vlen, p, q) (omega arith)

  step-rest : is_kind k ≡ true
      → step_at t at ≡ cond (leb (after t at) (length t) && encoding_fine (type_at t at)) (Next (after t at) (reach_of (type_at t at)).far (reach_of (type_at t at)).top) Off
  unfolding step_at good
  step-rest m = let q : is_kind (kind_at t at) ≡ true = ap is_kind kind-is ∙ m in rw (le-leb (at + 12) (length t) i.room, q)

  step-to : {x far top : ℕ} → is_kind k ≡ true → true ≡ encoding_fine (type_at t at) → x ≡ after t at → reach far top ≡ reach_of (type_at t at) → up_to t x far top ≡ step_at t at
  unfolding up_to
  step-to {x} {far} {top} m o p r =
      let c : far ≡ (reach_of (type_at t at)).far = ap (λ u. u.far) r in
      let d : top ≡ (reach_of (type_at t at)).top = ap (λ u. u.top) r in
      sym (step-rest m ∙ rw (← o, and_true, ← p, ← c, ← d))

  module _ {b : Bool} {x y : ℕ} (s : Plain b x y k) (l : x < 8) where
    ref-row : cond b w 0 ≡ (type_at t at).ref
    unfolding type_at
    ref-row =
        let q : has_type k ≡ b = ap (λ u. u.typed) s in
        let r : is_array k ≡ false = ap (λ u. u.array) s in rw (kind-is, q, r, i.third)

    index-row : 0 ≡ (type_at t at).index
    unfolding type_at extra_at
    index-row = let q : extra_bytes k ≡ x = ap (λ u. u.once) s in rw (kind-is, q, lt-leb 8 x l)

    int-row : true ≡ encoding_fine (type_at t at)
    unfolding encoding_fine
    int-row = let q : eqb k 1 ≡ false = ap (λ u. u.int) s in rw (← i.kind, q)

    step-plain : {p q c far top : ℕ} → Spans t (at + 12) v k p q → c ≡ at + 12 + x + y * v → far ≡ larger a p → top ≡ larger (cond b w 0) q → up_to t c far top ≡ step_at t at
    step-plain {p} {q} sp ec ef et =
        step-to (ap (λ u. u.known) s) int-row (ec ∙ bytes_are x y (ap (λ u. u.once) s) (ap (λ u. u.each) s))
        (type_reaches t at k v i.kind i.vlen (reach p q) sp index-row (sym (zero-larger q)) i.name ef ref-row et)

  none : {b : Bool} {x : ℕ} → Plain b x 0 k → Spans t (at + 12) v k 0 0
  none s = spans_bare t (at + 12) v k (ap (λ u. u.each) s)

  -- nothing behind the twelve bytes, with a type's id or without
  pub step_typed : Plain true 0 0 k → Next (at + 12) a w ≡ step_at t at
  step_typed s = up_to_lem t (at + 12) a w i.room ∙ step-plain s (omega arith) (none s) (omega arith) (sym (larger-zero a)) (sym (larger-zero w))

  pub step_bare : Plain false 0 0 k → Next (at + 12) a 0 ≡ step_at t at
  step_bare s = up_to_lem t (at + 12) a 0 i.room ∙ step-plain s (omega arith) (none s) (omega arith) (sym (larger-zero a)) (sym (larger-zero 0))

  -- a word behind them
  pub step-word : Plain true 4 0 k → up_to t (at + 12 + 4) a w ≡ step_at t at
  step-word s = step-plain s (omega arith) (none s) (omega arith) (sym (larger-zero a)) (sym (larger-zero w))

  -- a list
  pub step_members : 4 ≤ k → k < 6 → past_pairs t (at + 12) 12 v a 0 ≡ step_at t at
  unfolding past_pairs is_kind has_type extra_bytes entry_bytes
  step_members l u =
      step-plain (in_range (Plain false 0 12) 4 2 k (refl, (refl, tt)) l u) (omega arith) (spans_members t (at + 12) v k l u refl refl) (omega arith) refl refl

  pub step-parameters : k ≡ 13 → past_pairs t (at + 12) 8 v a w ≡ step_at t at
  unfolding past_pairs is_kind has_type extra_bytes entry_bytes
  step-parameters z =
      step-plain {b = true} {x = 0} {y = 8} (rw z) (omega arith) (rw z (spans-parameters t (at + 12) v refl refl)) (omega arith) refl refl

  pub step_enumerators : k ≡ 6 → past_names t (at + 12) 8 v a ≡ step_at t at
  unfolding past_names is_kind has_type extra_bytes entry_bytes
  step_enumerators z =
      step-plain {b = false} {x = 0} {y = 8} (rw z) (omega arith) (rw z (spans_enumerators t (at + 12) v refl)) (omega arith) refl (sym (larger-zero 0))

  pub step-wide : k ≡ 19 → past_names t (at + 12) 12 v a ≡ step_at t at
  unfolding past_names is_kind has_type extra_bytes entry_bytes
  step-wide z =
      step-plain {b = false} {x = 0} {y = 12} (rw z) (omega arith) (rw z (spans-wide t (at + 12) v refl)) (omega arith) refl (sym (larger-zero 0))

  pub step_variables : k ≡ 15 → past_variables t (at + 12) v a ≡ step_at t at
  unfolding past_variables is_kind has_type extra_bytes entry_bytes
  step_variables z =
      step-plain {b = false} {x = 0} {y = 12} (rw z) (omega arith) (rw z (spans_variables t (at + 12) v refl)) (omega arith) (sym (larger-zero a)) (sym (zero-larger (topmost t 12 (at + 12) v)))

  pub step-int : k ≡ 1 → past_int t (at + 12) a ≡ step_at t at
  unfolding past_int is_kind has_type extra_bytes entry_bytes
  step-int z =
      let e = i.kind in
      let x : at + 12 + 4 ≡ after t at = omega (arith, bytes_are 4 0 (rw z) (rw z)) in
      let o : encodes (word t (at + 12)) ≡ encoding_fine (type_at t at) = int_is t at e z (int_word t at e z refl) refl in
      let three : k ≡ 3 → ⊥ = λ (y : k ≡ 3). omega arith in
      let r : reach a 0 ≡ reach_of (type_at t at) =
      type_reaches t at k v e i.vlen (reach 0 0) (spans_bare t (at + 12) v k (rw z)) (no_index t at e three) (sym (larger-zero 0)) i.name (sym (larger-zero a))
      (ref-none t at k e refl (rw z) three) (sym (larger-zero 0)) in
      let c : a ≡ (reach_of (type_at t at)).far = ap (λ u. u.far) r in
      let d : 0 ≡ (reach_of (type_at t at)).top = ap (λ u. u.top) r in
      sym (step-rest (rw z) ∙ rw (← x, ← o, ← c, ← d))

  pub step-array : k ≡ 3 → past_array t (at + 12) a ≡ step_at t at
  unfolding past_array is_kind extra_bytes entry_bytes
  step-array z =
      let e = i.kind in
      let s : at + 12 + 4 ≡ at + 16 = omega arith in
      step-to (rw z) (int_not t at e (λ (o : k ≡ 1). omega arith)) (omega (arith, bytes_are 12 0 (rw z) (rw z)))
      (type_reaches t at k v e i.vlen (reach 0 0) (spans_bare t (at + 12) v k (rw z)) (array-index t at e z (ap (word t) s)) (sym (larger-zero (word t (at + 12 + 4)))) i.name
      (sym (larger-zero a)) (array-element t at e z refl) refl)

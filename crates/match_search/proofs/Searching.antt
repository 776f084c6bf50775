-- The member search at the member k of the type i: what is left to do from there is what was to do from the start.
-- Assumes nothing.
use Prim.Native.Nat.{ℕ, zero, suc, ◌+◌, ◌-◌, ◌≤◌, ◌<◌}
use mathlib.Core.Path.{◌≡◌, refl, sym, ap, ◌∙◌}
use mathlib.Core.Bool.{Bool, true, false, cond}
use mathlib.Core.List.{List, [], ◌∷◌}
use native.Mathlib.Omega.{arith}
use native.Mathlib.Numerals.{add-one}
use lib.ListN.{length, drop, drop_of_length-le}
use borrow.Author.Tests.{eq-eqb, ne_eqb}
use Rattle.btf_kinds.specs.declared.Entry.{Entry}
use Rattle.btf_view.specs.View.{View}
use Rattle.rules.specs.declared.Refusal.{Refusal}
use Rattle.rules.specs.declared.Target.{Target}
use Rattle.rules.specs.declared.Refusal.TheVariants.{MaximumNesting, TooDeep}
use Rattle.rules.specs.Kinds.{is_composite}
use Rattle.rules.specs.Limits.{max_spec_len}
use Rattle.rules.specs.Fields.{member_bits, nth_entry}
use Rattle.rules.specs.Types.{resolve, is_empty, same_text, fields_compatible, Compat}
use Rattle.rules.specs.Matching.{grown, or_else, Sought, level, no_level, members_of, search, Search}
use Rattle.rules.proofs.Turns.{level-turn}
use Rattle.match_search.specs.Parts.{part_count}
use Rattle.match_search.proofs.Parts.{search-parts}
use Rattle.match_search.specs.declared.Wanted.{Wanted}
use Rattle.match_search.specs.Settled.{member_count, sought, searched, settled}
use Rattle.std.specs.Prelude.{Err, None, Ok, Option, Some, is_some}

-- The search one level down
abbrev pub deeper : (ℕ → Compat) → View → Sought → ℕ → ℕ → Search
deeper fits T q zero = no_level
deeper fits T q (suc levels) = search fits T q levels

deeper-none : (fits : ℕ → Compat) (T : View) (q : Sought) (levels j : ℕ) → levels ≡ 0 → deeper fits T q levels j ≡ Err TooDeep
deeper-none fits T q levels j h = rw h

deeper-less : (fits : ℕ → Compat) (T : View) (q : Sought) (levels j : ℕ) → (levels ≡ 0 → ⊥) → deeper fits T q levels j ≡ search fits T q (levels - 1) j
deeper-less fits T q zero j h = absurd (h refl)
deeper-less fits T q (suc levels) j h = let e : levels ≡ suc levels - 1 = omega arith in ap (λ (n : ℕ). search fits T q n j) e

empty-yes : (xs : List ℕ) → length xs ≡ 0 → is_empty xs ≡ true
empty-yes [] h = refl
empty-yes (x ∷ xs) h = absurd (omega arith)

empty-no : (xs : List ℕ) → (length xs ≡ 0 → ⊥) → is_empty xs ≡ false
empty-no [] h = absurd (h refl)
empty-no (x ∷ xs) h = refl

search-level : (fits : ℕ → Compat) (T : View) (q : Sought) (levels i : ℕ) → search fits T q levels i ≡ members_of (deeper fits T q levels) fits T q (resolve T.typ i)
unfolding search
search-level fits T q zero i = refl
search-level fits T q (suc levels) i = refl

in_members : (b : Bool) (l : ℕ) {n k : ℕ} → n ≡ cond b l 0 → k < n → (b ≡ true) × (k < l)
in_members true l e h = (refl, omega arith)
in_members false l e h = absurd (omega arith)

-- The members of type i from index k on
abbrev remaining : View → View → Wanted → ℕ → ℕ → ℕ → Search
remaining L T w levels i k =
    level (deeper (fields_compatible L T w.member.typ) T (sought L w) levels) (fields_compatible L T w.member.typ) T.text (sought L w) i (T.typ i) k (drop k (T.typ i).entries)

-- The loop's bound is the number of members, which no other type has.
pub record Searching (L T : View) (w : Wanted) (levels id i : ℕ) (name : List ℕ) (n k : ℕ) : Type 0 where
  pub named : name ≡ L.text w.member.name
  pub all : n ≡ member_count (T.typ i)
  pub rest : cond (is_composite (T.typ i).kind) (remaining L T w levels i k) (Ok None) ≡ searched L T w levels id

-- Before the loop

module _ (L T : View) (w : Wanted) (levels id : ℕ) where
  pub search-endless : {r : Refusal} → resolve T.typ id ≡ Err r → Err r ≡ searched L T w levels id
  search-endless e = sym (search-level _ T (sought L w) levels id ∙ rw e)

  pub searching-first : {i : ℕ} → resolve T.typ id ≡ Ok i → {name : List ℕ} {n : ℕ} → name ≡ L.text w.member.name → n ≡ member_count (T.typ i)
      → Searching L T w levels id i name n 0
  searching-first e p q = record { named = p; all = q; rest = sym (search-level _ T (sought L w) levels id ∙ rw e) }

-- In the loop and after it

module _ {L T : View} {w : Wanted} {levels id i : ℕ} {name : List ℕ} {n k : ℕ} (v : Searching L T w levels id i name n k) where
  at-end : (b : Bool) → n ≡ cond b (length (T.typ i).entries) 0 → n ≤ k → cond b (remaining L T w levels i k) (Ok None) ≡ (Ok None)
  unfolding level
  at-end true a h = rw (drop_of_length-le (T.typ i).entries {i = k} (omega arith))
  at-end false a h = refl

  pub searching-end : n ≤ k → (Ok None) ≡ searched L T w levels id
  searching-end h = sym (at-end (is_composite (T.typ i).kind) v.all h) ∙ v.rest

  module _ (h : k < n) where
    inside : (is_composite (T.typ i).kind ≡ true) × (k < length (T.typ i).entries)
    inside = in_members (is_composite (T.typ i).kind) (length (T.typ i).entries) v.all h

    here : remaining L T w levels i k ≡ searched L T w levels id
    here = rw inside.0 at v.rest

    pub searching-full : w.from.parts ≡ max_spec_len → Err (MaximumNesting w.candidate) ≡ searched L T w levels id
    searching-full p = rw (eq-eqb w.from.parts max_spec_len p) at (sym (level-turn _ _ _ _ _ (T.typ i) k inside.1) ∙ here)

    module _ {e : Entry} {text : List ℕ} (room : w.from.parts ≡ max_spec_len → ⊥) (p : e ≡ nth_entry (T.typ i) k) (q : text ≡ T.text e.name) where
      tried : cond (is_empty text)
          (or_else (grown (member_bits (T.typ i) e) (deeper (fields_compatible L T w.member.typ) T (sought L w) levels e.typ)) (remaining L T w levels i (suc k)))
          (cond (same_text name text) (settled L T w i k) (remaining L T w levels i (suc k)))
          ≡ searched L T w levels id
      unfolding settled
      tried = rw (q, p, v.named) (rw (ne_eqb w.from.parts max_spec_len room) at (sym (level-turn _ _ _ _ _ (T.typ i) k inside.1) ∙ here))

      next : remaining L T w levels i (suc k) ≡ searched L T w levels id → Searching L T w levels id i name n (k + 1)
      next r = record { named = v.named; all = v.all; rest = rw (inside.0, add-one) r }

      pub searching-deep : length text ≡ 0 → levels ≡ 0 → Err TooDeep ≡ searched L T w levels id
      searching-deep z l = rw (empty-yes text z, deeper-none _ T (sought L w) levels e.typ l) at tried

      module _ (z : length text ≡ 0) (l : levels ≡ 0 → ⊥) {below up : Search} {b : ℕ} (x : below ≡ searched L T w (levels - 1) e.typ)
          (y : b ≡ member_bits (T.typ i) e) (u : up ≡ grown b below) where
        back : or_else up (remaining L T w levels i (suc k)) ≡ searched L T w levels id
        back = rw (u, y, x) (rw (empty-yes text z, deeper-less _ T (sought L w) levels e.typ l) at tried)

        pub searching-refused : {r : Refusal} → up ≡ Err r → Err r ≡ searched L T w levels id
        searching-refused o = rw o at back

        pub searching-back : {o : Option Target} → up ≡ Ok o → is_some o ≡ true → Ok o ≡ searched L T w levels id
        searching-back {o = None} p h = cc
        searching-back {o = Some s} p h = rw p at back

        pub searching-past : {o : Option Target} → up ≡ Ok o → is_some o ≡ false → Searching L T w levels id i name n (k + 1)
        searching-past {o = None} p h = next (rw p at back)
        searching-past {o = Some s} p h = cc

      module _ (z : length text ≡ 0 → ⊥) {same : Bool} (x : same ≡ same_text name text) where
        named-one : cond same (settled L T w i k) (remaining L T w levels i (suc k)) ≡ searched L T w levels id
        named-one = rw x (rw (empty-no text z) at tried)

        pub searching-settled : same ≡ true → settled L T w i k ≡ searched L T w levels id
        searching-settled o = rw o at named-one

        pub searching-other : same ≡ false → Searching L T w levels id i name n (k + 1)
        searching-other o = next (rw o at named-one)

pub searched-parts : (L T : View) (w : Wanted) (levels id : ℕ) {r : Search} → r ≡ searched L T w levels id → part_count r ≤ w.from.parts + levels + 1
searched-parts L T w levels id e = rw e (search-parts _ T (sought L w) levels id)

-- Document 02, Q-13: the order of records does not matter where each is accepted on the starting instructions and no two touch
-- a common instruction. This file says it, and no more; it is proved in Two, Lists and Calls.
use Rattle.std.specs.Prelude.{ℕ, suc, ◌+◌, ◌*◌, ◌≡◌, Bool, true, false, cond, ◌&&◌, ◌||◌, List, [], ◌∷◌, ◌++◌, length, take, drop, eqb}
use Rattle.btf_view.specs.View.{View}
use Rattle.rules.specs.declared.Record.{Record}
use Rattle.rules.specs.declared.Answer.{Answer}
use Rattle.rules.specs.Apply.{code, class, is_wide}
use Rattle.rules.specs.Record.{index_of, record_of}
use Rattle.rules.specs.List.{list_of}
use Rattle.law_growth.specs.Demand3.{is_refused}

-- What a record touches

-- Its own instruction and, where that is of class 0, the next one
unfoldable pub touches : ℕ → List ℕ → Record → ℕ → Bool
touches section insns r k =
    let i = index_of section r in
    eqb k i || (is_wide (class (code (drop (8 * i) insns))) && eqb k (suc i))

-- How many bytes that is
unfoldable pub span : ℕ → List ℕ → Record → ℕ
span section insns r = cond (is_wide (class (code (drop (8 * index_of section r) insns)))) 16 8

-- A record's answer, and what it makes of those bytes, depend on them alone (and on how many instructions there are); all others stay.
pub record Touching (L T : View) (section : ℕ) (insns : List ℕ) (r : Record) : Type 0 where
  pub before : take (8 * index_of section r) (record_of L T section insns r).insns ≡ take (8 * index_of section r) insns
  pub behind : drop (8 * index_of section r + span section insns r) (record_of L T section insns r).insns
      ≡ drop (8 * index_of section r + span section insns r) insns
  pub answer : (xs : List ℕ) → length xs ≡ length insns
      → take (span section insns r) (drop (8 * index_of section r) xs) ≡ take (span section insns r) (drop (8 * index_of section r) insns)
      → (record_of L T section xs r).answer ≡ (record_of L T section insns r).answer
  pub bytes : (xs : List ℕ) → length xs ≡ length insns
      → take (span section insns r) (drop (8 * index_of section r) xs) ≡ take (span section insns r) (drop (8 * index_of section r) insns)
      → take (span section insns r) (drop (8 * index_of section r) (record_of L T section xs r).insns)
      ≡ take (span section insns r) (drop (8 * index_of section r) (record_of L T section insns r).insns)

-- No instruction is touched by both.
abbrev pub NoCommon : ℕ → List ℕ → Record → Record → Type 0
NoCommon section insns r s = (k : ℕ) → touches section insns r k ≡ true → touches section insns s k ≡ false

-- Two records

abbrev pub IsAccepted : View → View → ℕ → List ℕ → Record → Type 0
IsAccepted L T section insns r = is_refused (record_of L T section insns r).answer ≡ false

-- Each is answered as it is alone, and the same bytes are left.
pub record EitherOrder (L T : View) (section : ℕ) (insns : List ℕ) (r s : Record) : Type 0 where
  pub first : (record_of L T section (record_of L T section insns s).insns r).answer ≡ (record_of L T section insns r).answer
  pub second : (record_of L T section (record_of L T section insns r).insns s).answer ≡ (record_of L T section insns s).answer
  pub bytes : (record_of L T section (record_of L T section insns r).insns s).insns ≡ (record_of L T section (record_of L T section insns s).insns r).insns

-- A list

-- A record that has no instruction in common with any of these
abbrev pub ApartFrom : ℕ → List ℕ → Record → List Record → Type 0
ApartFrom section insns r [] = Unit {0}
ApartFrom section insns r (s ∷ rs) = NoCommon section insns r s × ApartFrom section insns r rs

-- Each is accepted on the starting instructions, and no two touch a common one.
abbrev pub Sortable : View → View → ℕ → List ℕ → List Record → Type 0
Sortable L T section insns [] = Unit {0}
Sortable L T section insns (r ∷ rs) = IsAccepted L T section insns r × ApartFrom section insns r rs × Sortable L T section insns rs

-- The same records in another order: the first of the other list stands somewhere in this one, and so on with those that are left.
abbrev pub Reordered : List Record → List Record → Type 0
Reordered rs [] = rs ≡ []
Reordered rs (s ∷ ss) = (front : List Record) × (back : List Record) × (rs ≡ front ++ (s ∷ back)) × Reordered (front ++ back) ss

-- What each record of a list answers, alone on these instructions
unfoldable pub alone : View → View → ℕ → List ℕ → List Record → List Answer
alone L T section insns [] = []
alone L T section insns (r ∷ rs) = (record_of L T section insns r).answer ∷ alone L T section insns rs

-- In both orders each record is answered as it is alone, and the same bytes are left.
pub record AnyOrder (L T : View) (section : ℕ) (insns : List ℕ) (rs ss : List Record) : Type 0 where
  pub answers : (list_of L T section insns rs).answers ≡ alone L T section insns rs
  pub answers' : (list_of L T section insns ss).answers ≡ alone L T section insns ss
  pub bytes : (list_of L T section insns ss).insns ≡ (list_of L T section insns rs).insns

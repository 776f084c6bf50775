-- The kinds' table of request Q-2: its two columns, and a row of two lists. That each row is the rule's is proved (proofs/RowLaws).
-- Assumes nothing.
use Rattle.std.specs.Prelude.{◌≡◌, cond, List, [], ◌∷◌, ℕ, ltb, get_or}
use Rattle.btf_kinds.specs.declared.Tail.{Tail}

abbrev pub extras : List ℕ
extras = 0 ∷ 4 ∷ 0 ∷ 12 ∷ 0 ∷ 0 ∷ 0 ∷ 0 ∷ 0 ∷ 0 ∷ 0 ∷ 0 ∷ 0 ∷ 0 ∷ 4 ∷ 0 ∷ 0 ∷ 4 ∷ 0 ∷ 0 ∷ []

abbrev pub entries : List ℕ
entries = 0 ∷ 0 ∷ 0 ∷ 0 ∷ 12 ∷ 12 ∷ 8 ∷ 0 ∷ 0 ∷ 0 ∷ 0 ∷ 0 ∷ 0 ∷ 8 ∷ 0 ∷ 12 ∷ 0 ∷ 0 ∷ 0 ∷ 12 ∷ []

-- two lists are the table's columns
abbrev pub Columns : List ℕ → List ℕ → Type 0
Columns a b = (a ≡ extras) × (b ≡ entries)

-- the row of a kind in two lists, kind 0's for a number that is no kind; 0 where a list has no such row
unfoldable pub row_in : List ℕ → List ℕ → ℕ → Tail
row_in a b k = let r = cond (ltb k 20) k 0 in record { once = get_or a r 0; each = get_or b r 0 }

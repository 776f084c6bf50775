-- How far the names and type ids of a type reach: whether they fit is a question to two numbers.
-- Assumes nothing.
use Rattle.std.specs.Prelude.{ℕ, zero, suc, ◌+◌, ◌*◌, Bool, cond, ◌&&◌, List, [], ◌∷◌, leb, ltb}
use Rattle.word_read.specs.Num.{word}
use Rattle.btf_kinds.specs.declared.Entry.{Entry}
use Rattle.btf_kinds.specs.Types.{Ty}

-- the highest name offset and the highest type id of a type or of a list
pub record Reach : Type 0 where
  pub far : ℕ
  pub top : ℕ

-- the larger of two numbers
unfoldable pub larger : ℕ → ℕ → ℕ
larger a b = cond (ltb a b) b a

unfoldable pub lesser : ℕ → ℕ → ℕ
lesser a b = cond (ltb a b) a b

-- the largest number of a list's entries, as one field has them
unfoldable pub largest : (Entry → ℕ) → List Entry → ℕ
largest f [] = 0
largest f (e ∷ es) = larger (f e) (largest f es)

-- the largest of n words, one every `step` bytes
unfoldable pub topmost : List ℕ → ℕ → ℕ → ℕ → ℕ
topmost t step at zero = 0
topmost t step at (suc n) = larger (word t at) (topmost t step (at + step) n)

-- the word of the i-th entry; past the last entry, of the last
abbrev pub entry_word : List ℕ → ℕ → ℕ → ℕ → ℕ → ℕ
entry_word t step from last i = word t (from + step * lesser i last)

-- the largest of one number and of the words of four entries from the i-th on
unfoldable pub four_of : List ℕ → ℕ → ℕ → ℕ → ℕ → ℕ → ℕ
four_of t step from i last high =
    let w = entry_word t step from last in
    larger high (larger (larger (w i) (w (i + 1))) (larger (w (i + 2)) (w (i + 3))))

abbrev pub names : List Entry → ℕ
names es = largest (λ e. e.name) es

abbrev pub ids : List Entry → ℕ
ids es = largest (λ e. e.typ) es

abbrev pub reach : ℕ → ℕ → Reach
reach f t = record { far = f; top = t }

-- how far a list reaches, and a type
abbrev pub list_reach : List Entry → Reach
list_reach es = reach (names es) (ids es)

abbrev pub reach_of : Ty → Reach
reach_of ty = reach (larger ty.name (names ty.entries)) (larger ty.ref (larger ty.index (ids ty.entries)))

-- a reach inside the strings and the ids
abbrev pub within : ℕ → ℕ → Reach → Bool
within room last r = ltb r.far room && leb r.top last

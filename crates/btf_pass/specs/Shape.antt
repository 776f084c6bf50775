-- One type passed in one go: where the next begins and how far this one reaches, by the shapes that the kinds have.
-- Assumes nothing.
use Rattle.std.specs.Prelude.{ℕ, ◌+◌, ◌*◌, ◌≤◌, ◌<◌, cond, ◌&&◌, List, leb, length, ◌≡◌}
use Rattle.word_read.specs.Num.{word}
use Rattle.btf_kinds.specs.Kinds.{encodes}
use Rattle.btf_kinds.specs.Types.{type_at, after}
use Rattle.btf_pass.specs.declared.Passing.{Passing}
use Rattle.btf_pass.specs.declared.Passing.TheVariants.{Next, Off}
use Rattle.btf_pass.specs.Good.{good}
use Rattle.btf_pass.specs.Reach.{larger, topmost, reach_of}

-- past the type at a place, with its reach, where it is a good one
unfoldable pub step_at : List ℕ → ℕ → Passing
step_at t at = cond (good t at) (Next (after t at) (reach_of (type_at t at)).far (reach_of (type_at t at)).top) Off

-- up to a place that lies in the section
unfoldable pub up_to : List ℕ → ℕ → ℕ → ℕ → Passing
up_to t x far top = cond (leb x (length t)) (Next x far top) Off

-- the list of a type: it begins in the section, and its entries are as long as those of a kind
abbrev pub Listed : List ℕ → ℕ → ℕ → ℕ → Type 0
Listed t from step n = (8 ≤ step) × (step ≤ 12) × (n < 65536) × (from ≤ length t)

-- a column of its words, up to the last entry
abbrev pub Column : List ℕ → ℕ → ℕ → ℕ → Type 0
Column t from step last = (step ≤ 12) × (last < 65536) × (from + step * last + 4 ≤ length t)

-- past a list of names and types, of names, of types; `name` and `typ` are the type's own
unfoldable pub past_pairs : List ℕ → ℕ → ℕ → ℕ → ℕ → ℕ → Passing
past_pairs t from step n name typ =
    up_to t (from + step * n) (larger name (topmost t step from n)) (larger typ (topmost t step (from + 4) n))

unfoldable pub past_names : List ℕ → ℕ → ℕ → ℕ → ℕ → Passing
past_names t from step n name = up_to t (from + step * n) (larger name (topmost t step from n)) 0

unfoldable pub past_variables : List ℕ → ℕ → ℕ → ℕ → Passing
past_variables t from n name = up_to t (from + 12 * n) name (topmost t 12 from n)

-- past an INT's word, and past an array's three
unfoldable pub past_int : List ℕ → ℕ → ℕ → Passing
past_int t from name = cond (leb (from + 4) (length t) && encodes (word t from)) (Next (from + 4) name 0) Off

unfoldable pub past_array : List ℕ → ℕ → ℕ → Passing
past_array t from name = up_to t (from + 12) name (larger (word t from) (word t (from + 4)))

-- a type's twelve bytes, as the code has read them: kind, list length, name and third word
pub record Seen (t : List ℕ) (at k v a w : ℕ) : Type 0 where
  pub room : at + 12 ≤ length t
  pub kind : k ≡ (type_at t at).kind
  pub vlen : v ≡ (type_at t at).vlen
  pub name : a ≡ word t at
  pub third : w ≡ word t (at + 8)

-- A candidate, by the kind and the name that were found before; the first from an id on.
use Rattle.std.specs.Prelude.{ℕ, zero, suc, Bool, cond, ◌&&◌, List, eqb, Option, Some, None}
use Rattle.btf_view.specs.View.{View}
use Rattle.rules.specs.Types.{same_flavourless}

-- The rules' is_candidate, for a local type of this kind and name
abbrev pub candidate_by : ℕ → List ℕ → View → ℕ → Bool
candidate_by own name T i = eqb own (T.typ i).kind && same_flavourless name (T.text (T.typ i).name)

-- The first candidate of n ids from i on, if there is one
unfoldable pub first_from : View → ℕ → List ℕ → ℕ → ℕ → Option ℕ
first_from T own name i zero = None
first_from T own name i (suc n) = let later = first_from T own name (suc i) n in cond (candidate_by own name T i) (Some i) later

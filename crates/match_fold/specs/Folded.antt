-- The fold over all target types as the code goes: what an id gives, and what is kept.
use Rattle.std.specs.Prelude.{ℕ, zero, suc, cond, List, Option, Some, None, Ok}
use Rattle.btf_view.specs.View.{View}
use Rattle.match_scan.specs.Candidates.{candidate_by}
use Rattle.rules.specs.declared.Record.{Record}
use Rattle.rules.specs.declared.Kept.{Kept}
use Rattle.rules.specs.Matching.{Event}
use Rattle.rules.specs.Record.{over, Matches}

-- What id i gives, where f tells what a candidate gives
unfoldable pub among : View → ℕ → List ℕ → (ℕ → Event) → ℕ → Event
among T own name f i = let e = f i in cond (candidate_by own name T i) e (Ok None)

-- All ids, in order from 0: what is kept of the matches of the candidates of this kind and name
unfoldable pub folded_by : View → ℕ → List ℕ → (ℕ → Event) → Matches
folded_by T own name f = over (among T own name f) (Ok None) 0 (suc T.count)

-- The same of a record's candidates
abbrev pub folded : View → View → Record → (ℕ → Event) → Matches
folded L T r f = folded_by T (L.typ r.typ).kind (L.text (L.typ r.typ).name) f

-- The conflicts counted so far
abbrev pub conflicts : Option Kept → ℕ
conflicts None = zero
conflicts (Some k) = k.count

-- The shape of the code, no rule: one accessor of a local path followed in a candidate, the first as an index of the candidate itself.
-- Assumes nothing.
use Rattle.std.specs.Prelude.{ℕ, cond, eqb}
use Rattle.btf_view.specs.View.{View}
use Rattle.rules.specs.declared.Accessor.{Accessor}
use Rattle.rules.specs.declared.Target.{Target}
use Rattle.rules.specs.Refusal.{bind}
use Rattle.rules.specs.Types.{resolve}
use Rattle.rules.specs.Matching.{reached, at_element, target_step, Search}

-- The accessor k, from a place s
unfoldable pub accessor_step : View → View → ℕ → ℕ → Target → Accessor → Search
accessor_step L T c k s a = cond (eqb k 0) (reached (bind (resolve T.typ c) (at_element T.typ c s a.index))) (target_step L T c s a)

-- An index within an array, as the code asks for it.
use Rattle.std.specs.Prelude.{ℕ, Bool, ◌&&◌, not, leb}
use Rattle.btf_kinds.specs.Types.{Ty}
use Rattle.rules.specs.declared.Accessor.{Accessor}
use Rattle.rules.specs.Matching.{target_open}

-- Whether the index k is within the array j that the accessor `last` led to
unfoldable pub in_bounds : (ℕ → Ty) → ℕ → Accessor → ℕ → Bool
in_bounds typ j last k = not (not (target_open (typ j) (typ last.typ) last.index) && leb (typ j).extra k)

-- Document 01, section 4: a type with nothing wrong in itself.
-- Assumes nothing.
use Rattle.std.specs.Prelude.{ℕ, ◌+◌, Bool, true, cond, ◌&&◌, List, eqb, leb, length}
use Rattle.btf_kinds.specs.Kinds.{is_kind, encodes}
use Rattle.btf_kinds.specs.Types.{Ty, kind_at, type_at, after}

-- an INT has at most one encoding bit
unfoldable pub encoding_fine : Ty → Bool
encoding_fine ty = cond (eqb ty.kind 1) (encodes ty.extra) true

-- a type of a known kind lies at `at`, whole, with nothing wrong in itself
unfoldable pub good : List ℕ → ℕ → Bool
good t at = leb (at + 12) (length t) && (is_kind (kind_at t at) && (leb (after t at) (length t) && encoding_fine (type_at t at)))

-- `btf_view::room` meets its contract.
use mathlib.Core.Path.{ap}
use Prim.Native.Nat.{ℕ}
use mathlib.Core.List.{List}
use lib.ListN.{length}
use Rattle.btf_view.proofs.Types.room.Goals as goal

pub returns : goal.returns
returns c = ap (λ (l : List ℕ). length l) c.strings.ensures

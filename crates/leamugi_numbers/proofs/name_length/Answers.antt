-- `leamugi_numbers::name_length` meets its contract.
use mathlib.Core.Path.{ap}
use Prim.Native.Nat.{ℕ}
use mathlib.Core.List.{List}
use lib.ListN.{length}
use Rattle.leamugi_numbers.proofs.name_length.Goals as goal

pub returns : goal.returns
returns c = ap (λ (l : List ℕ). length l) c.text_of.ensures

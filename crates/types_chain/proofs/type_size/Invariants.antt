-- The loop of `types_chain::type_size`.
use mathlib.Core.Path.{◌≡◌}
use Prim.Native.Nat.{◌-◌}
use Rattle.btf_view.specs.Lent.{lent}
use Rattle.rules.specs.Types.{elements, size_of}
use Rattle.types_chain.proofs.type_size.Given as goal

abbrev pub invariant-loop-turn : goal.invariant-loop-turn
invariant-loop-turn l = elements (lent l.types).typ (32 - l.turn) l.n l.at ≡ size_of (lent l.types).typ l.id

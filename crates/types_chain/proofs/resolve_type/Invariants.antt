-- The loop of `types_chain::resolve_type`.
use mathlib.Core.Path.{◌≡◌}
use Prim.Native.Nat.{◌-◌}
use Rattle.btf_view.specs.Lent.{lent}
use Rattle.rules.specs.Types.{chain, resolve}
use Rattle.types_chain.proofs.resolve_type.Given as goal

abbrev pub invariant-loop-turn : goal.invariant-loop-turn
invariant-loop-turn l = chain (lent l.types).typ (32 - l.turn) l.at ≡ resolve (lent l.types).typ l.id

-- The loop of `value_load::bitfield_load`.
use Prim.Native.Nat.{◌-◌}
use Rattle.value_load.proofs.Loads.{Widening}
use Rattle.value_load.proofs.bitfield_load.Given as goal

abbrev pub invariant-loop-turn : goal.invariant-loop-turn
invariant-loop-turn l = Widening l.bits l.width l.size l.s (4 - l.turn)

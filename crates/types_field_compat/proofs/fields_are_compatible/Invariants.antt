-- The loop of `types_field_compat::fields_are_compatible`.
use mathlib.Core.Path.{◌≡◌}
use Prim.Native.Nat.{◌-◌}
use Rattle.btf_view.specs.Lent.{lent}
use Rattle.rules.specs.Types.{fields_within, fields_compatible}
use Rattle.types_field_compat.proofs.fields_are_compatible.Given as goal

abbrev pub invariant-loop-turn : goal.invariant-loop-turn
invariant-loop-turn l = fields_within (lent l.local) (lent l.target) (32 - l.turn) l.u l.v ≡ fields_compatible (lent l.local) (lent l.target) l.a l.b

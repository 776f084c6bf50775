-- The loop of `btf_accept::fill_parts`.
use Prim.Native.Nat.{◌-◌}
use Rattle.btf_kinds.specs.Rows.{Columns}
use Rattle.btf_accept.proofs.FillLaws.{Quartered}
use Rattle.btf_accept.proofs.fill_parts.Given as goal

abbrev pub invariant-loop-i : goal.invariant-loop-i
invariant-loop-i l = Columns l.once l.each × Quartered l.types l.base l.run l.initial.table l.table l.i l.a l.b l.c l.d

abbrev pub decreases-loop-i : goal.decreases-loop-i
decreases-loop-i l = l.run - l.i

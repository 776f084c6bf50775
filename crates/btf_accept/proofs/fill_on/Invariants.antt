-- The loop of `btf_accept::fill_on`.
use mathlib.Core.Path.{◌≡◌}
use Prim.Native.Nat.{◌-◌, ◌≤◌}
use Rattle.btf_kinds.specs.Rows.{Columns}
use Rattle.btf_accept.specs.Shape.{place_of, Filled}
use Rattle.btf_accept.proofs.fill_on.Given as goal

abbrev pub invariant-loop-n : goal.invariant-loop-n
invariant-loop-n l = Columns l.once l.each × (l.before ≤ l.n) × (l.n ≤ l.last) × (l.at ≡ place_of l.types l.n) × Filled l.types l.base l.before l.n l.initial.table l.table

abbrev pub decreases-loop-n : goal.decreases-loop-n
decreases-loop-n l = l.last - l.n

-- The loop of `btf_accept::stretch`.
use mathlib.Core.Path.{◌≡◌}
use Prim.Native.Nat.{◌-◌}
use Rattle.btf_accept.specs.Shape.{stretch_of}
use Rattle.btf_accept.proofs.stretch.Given as goal

abbrev pub invariant-loop-at : goal.invariant-loop-at
invariant-loop-at l = stretch_of l.types (l.stop - l.before) l.from l.before l.far-2 l.top-2 ≡ stretch_of l.types (l.stop - l.n) l.at l.n l.far l.top

abbrev pub decreases-loop-at : goal.decreases-loop-at
decreases-loop-at l = l.stop - l.n

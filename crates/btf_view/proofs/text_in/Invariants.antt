-- The loop of `btf_view::text_in`.
use Prim.Native.Nat.{◌-◌}
use lib.ListN.{length}
use Rattle.btf_view.proofs.Seen.{Seen}
use Rattle.btf_view.proofs.text_in.Given as goal

abbrev pub invariant-loop-e : goal.invariant-loop-e
invariant-loop-e l = Seen l.strings l.from l.e

abbrev pub decreases-loop-e : goal.decreases-loop-e
decreases-loop-e l = length l.strings - l.e

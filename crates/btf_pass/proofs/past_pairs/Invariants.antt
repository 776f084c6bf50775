-- The loop of `btf_pass::past_pairs`.
use Prim.Native.Nat.{◌-◌}
use Rattle.btf_pass.proofs.PairLaws.{Pairing}
use Rattle.btf_pass.proofs.past_pairs.Given as goal

abbrev pub invariant-loop-i : goal.invariant-loop-i
invariant-loop-i l = Pairing l.types l.step l.from l.count l.i l.far l.top

abbrev pub decreases-loop-i : goal.decreases-loop-i
decreases-loop-i l = l.count - l.i

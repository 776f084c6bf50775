-- The loop of `run_replay::replay`: at most the cases so far are equal.
use Rattle.std.proofs.Common.{◌≤◌}
use Rattle.run_replay.proofs.replay.Given as goal

abbrev pub invariant-loop-i : goal.invariant-loop-i
invariant-loop-i g l = l.equal ≤ l.i-counter

-- The loop of `run_replay::read_full`: the bytes that are still to come are fewer at each turn.
use Rattle.std.proofs.Common.{◌-◌, length}
use Rattle.run_replay.proofs.read_full.Given as goal

abbrev pub decreases-loop-done : goal.decreases-loop-done
decreases-loop-done l = length l.initial.buffer - l.done

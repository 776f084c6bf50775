-- One record applied: its answer, and the instructions after it.
use Rattle.std.specs.Prelude.{ℕ, List}
use Rattle.rules.specs.declared.Answer.{Answer}
use Rattle.rules.specs.Record.{Outcome}

-- What an answer and the instructions it leaves make
abbrev pub outcome_of : Answer → List ℕ → Outcome
outcome_of a xs = record { answer = a; insns = xs }

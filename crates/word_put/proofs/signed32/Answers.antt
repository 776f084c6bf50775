-- `word_put::signed32` meets its contract.
use mir.Syntax.{w32}
use Rattle.word_put.proofs.SignLaws.{HighAt, high}
use Rattle.word_put.proofs.signed32.Goals as goal
use Rattle.word_put.proofs.signed32.Goals.{Else-positive}

up : (c : Else-positive) → HighAt w32 c.args.x
up c = high w32 c.args.x c.if-positive.false c.ranges.x.fits

pub overflow_sub-result-else-positive : goal.overflow_sub-result-else-positive
overflow_sub-result-else-positive c = (up (goal.at.overflow_sub-result-else-positive c).Else-positive).sub

pub returns-else-positive : goal.returns-else-positive
returns-else-positive c = (up (goal.at.returns-else-positive c).Else-positive).is

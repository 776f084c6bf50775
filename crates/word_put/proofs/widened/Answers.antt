-- `word_put::widened` meets its contract.
use mathlib.Core.Path.{◌∙◌, ap}
use mir.Syntax.{w64}
use mir.Val.{of_z}
use Rattle.word_put.proofs.SignLaws.{widens, widens-back}
use Rattle.word_put.proofs.widened.Goals as goal

pub overflow_cast-v : goal.overflow_cast-v
overflow_cast-v c = widens c.args.v c.ranges.v

pub returns : goal.returns
returns c = c.bits64.ensures ∙ ap (of_z w64) (widens-back c.args.v c.ranges.v)

-- `access_walk::last_step` meets its contract.
use native.Mathlib.Omega.{arith}
use Rattle.std.proofs.lemmas.Grind.{common_steps}
use Rattle.access_walk.proofs.Walking.{last_is}
use Rattle.access_walk.proofs.last_step.Goals as goal

pub returns : goal.returns
returns c = let e = last_is c.args.path.now in grind (arith, common_steps)

-- The loop of `access_text::number_of`.
use mathlib.Core.Path.{◌≡◌}
use Prim.Native.Nat.{◌<◌}
use lib.ListN.{drop}
use Rattle.rules.specs.Limits.{number_limit}
use Rattle.rules.specs.Access.{digits, decimal}
use Rattle.access_text.proofs.number_of.Given as goal

abbrev pub invariant-loop-x : goal.invariant-loop-x
invariant-loop-x l = record { small : l.a < number_limit; rest : digits l.a (drop l.x-index l.digits) ≡ decimal l.digits }

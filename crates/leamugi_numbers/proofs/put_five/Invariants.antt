-- The loop of `leamugi_numbers::put_five`.
use Rattle.std.proofs.Common.{◌≡◌, take}
use Rattle.std.proofs.lemmas.List.Edits.{sets}
use Rattle.leamugi_numbers.proofs.put_five.Given as goal

abbrev pub invariant-loop-at : goal.invariant-loop-at
invariant-loop-at l = l.said ≡ sets l.initial.said 0 (take l.at l.number-items)

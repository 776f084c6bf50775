-- The loop of `types_names::same_in`.
use Rattle.types_names.proofs.Names.{Alike}
use Rattle.types_names.proofs.same_in.Given as goal

abbrev pub invariant-loop-i : goal.invariant-loop-i
invariant-loop-i l = Alike l.name l.strings l.i

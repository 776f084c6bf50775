-- What `insn_fields::poison` does to the successor.
use Rattle.rules.specs.Apply.{poisoned}
use Rattle.insn_fields.proofs.poison.Given as goal

abbrev pub ghost-also_next : goal.ghost-also_next
ghost-also_next a = poisoned

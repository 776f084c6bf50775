-- What `insn_patch::patch_wide` does to the successor.
use Rattle.rules.specs.Apply.{with_imm, high}
use Rattle.insn_patch.proofs.patch_wide.Given as goal

abbrev pub ghost-also_next : goal.ghost-also_next
ghost-also_next a xs = with_imm xs (high a.change.0)

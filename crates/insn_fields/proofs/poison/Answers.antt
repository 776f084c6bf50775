-- `insn_fields::poison` meets its contract.
use Rattle.std.proofs.Common.{◌∙◌}
use Rattle.insn_fields.proofs.Laws.{poison-one, poison-two}
use Rattle.insn_fields.proofs.poison.Goals as goal

pub returns-then-alone : goal.returns-then-alone
returns-then-alone c = let a = c.args in poison-one _ a.insns.now _ a.index c.u8_at-code.ensures c.poison_insn.ensures c.if-alone.true

pub returns : goal.returns
returns c =
    let a = c.args in
    let first = c.poison_insn in
    c.also_next.ensures ∙ poison-two _ a.insns.now first.new.insns a.index c.u8_at-code.ensures first.ensures c.if-alone.false

-- `insn_fields::also_next` meets its contract.
use Rattle.std.proofs.Common.{sym, ap, ◌∙◌, refl, arith}
use Rattle.insn_fields.proofs.Laws.{room, missing, changed}
use Rattle.insn_fields.proofs.also_next.Goals as goal

pub returns-then-not-has_successor : goal.returns-then-not-has_successor
returns-then-not-has_successor g c =
    let a = c.args in rw c.no_successor.ensures (missing g.to a.insns.now a.index (sym c.has_successor.ensures ∙ c.if-not-has_successor.true))

pub split_at_mut-next-requires : goal.split_at_mut-next-requires
split_at_mut-next-requires g c = omega (arith, room c.args.insns.now (sym c.has_successor.ensures ∙ c.if-not-has_successor.false))

pub returns : goal.returns
returns g c =
    let a = c.args in
    let parts = c.split_at_mut-next.ensures in
    changed g.to a.insns.now a.index (sym c.has_successor.ensures ∙ c.if-not-has_successor.false) parts.front
    (c.requires.1.leaves _ _ (record { shown = _; shows = refl; left = _; met = c.change.ensures; leaves = refl }) ∙ ap g.to parts.back)

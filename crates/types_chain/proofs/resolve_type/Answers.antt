-- `types_chain::resolve_type` meets its contract.
use Rattle.std.proofs.Common.{refl, sym, ◌∙◌}
use Rattle.rules.specs.Types.{resolve}
use Rattle.types_chain.proofs.Laws.{chain-ends, chain_goes, chain-long}
use Rattle.types_chain.proofs.resolve_type.Goals as goal

pub loop-turn-init : goal.loop-turn-init
unfolding resolve
loop-turn-init c = refl

pub returns-then-not-is_modifier : goal.returns-then-not-is_modifier
returns-then-not-is_modifier c = sym (chain-ends _ _ _ _ c.kind_of.ensures c.loop-turn-test.true c.is_modifier.ensures c.if-not-is_modifier.true) ∙ c.loop-turn.invariant

pub loop-turn-preserved : goal.loop-turn-preserved
loop-turn-preserved c = rw c.ref_of-at.ensures (sym (chain_goes _ _ _ _ c.kind_of.ensures c.loop-turn-test.true c.is_modifier.ensures c.if-not-is_modifier.false) ∙ c.loop-turn.invariant)

pub returns : goal.returns
returns c = sym (chain-long _ _ _ _ c.loop-turn-test.false) ∙ c.loop-turn.invariant

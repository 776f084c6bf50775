-- `value_load::bitfield_load` meets its contract.
use borrow.Author.Rules.{rules}
use borrow.Author.Tests.{eq-eqb}
use Rattle.value_load.proofs.Loads.{widening-first, held, too_wide, wider, ran_out}
use Rattle.value_load.proofs.bitfield_load.Goals as goal

pub returns-then-size-eq0 : goal.returns-then-size-eq0
returns-then-size-eq0 c = rw (eq-eqb _ _ c.if-size-eq0.true)

pub loop-turn-init : goal.loop-turn-init
loop-turn-init c = widening-first _ _ _ c.if-size-eq0.false (search rules)

pub returns-then-bits-offset : goal.returns-then-bits-offset
returns-then-bits-offset c = held c.loop-turn.invariant c.aligned_to-offset.ensures c.loop-turn-test.true c.if-bits-offset.true

pub returns-then-s-ge-WIDEST : goal.returns-then-s-ge-WIDEST
returns-then-s-ge-WIDEST c = too_wide c.loop-turn.invariant c.aligned_to-offset.ensures c.loop-turn-test.true c.if-bits-offset.false c.if-s-ge-WIDEST.true

pub loop-turn-preserved : goal.loop-turn-preserved
loop-turn-preserved c = wider c.loop-turn.invariant c.aligned_to-offset.ensures c.loop-turn-test.true c.if-bits-offset.false c.if-s-ge-WIDEST.false

pub returns : goal.returns
returns c = ran_out c.loop-turn.invariant c.loop-turn-test.false

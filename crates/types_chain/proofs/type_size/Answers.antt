-- `types_chain::type_size` meets its contract.
use Rattle.std.proofs.Common.{refl, sym, ◌∙◌}
use Rattle.rules.specs.Types.{size_of}
use Rattle.types_chain.proofs.Laws.{size_pointer, size-own, size_none, size_goes, size-long}
use Rattle.types_chain.proofs.type_size.Goals as goal

pub loop-turn-init : goal.loop-turn-init
unfolding size_of
loop-turn-init c = refl

pub returns-then-kind-eq-BTF_KIND_PTR : goal.returns-then-kind-eq-BTF_KIND_PTR
returns-then-kind-eq-BTF_KIND_PTR c = c.product_of.ensures ∙ sym (size_pointer _ _ _ _ _ c.kind_of-kind.ensures c.loop-turn-test.true c.if-kind-eq-BTF_KIND_PTR.true) ∙ c.loop-turn.invariant

pub returns-then-has_size : goal.returns-then-has_size
returns-then-has_size c =
    c.product_of-then-has_size.ensures ∙ sym (size-own _ _ _ _ _ c.kind_of-kind.ensures c.loop-turn-test.true c.if-kind-eq-BTF_KIND_PTR.false c.has_size.ensures c.if-has_size.true
    c.size_of.ensures) ∙ c.loop-turn.invariant

pub returns-then-not-sized_by_ref : goal.returns-then-not-sized_by_ref
returns-then-not-sized_by_ref c =
    c.no_size.ensures ∙ sym (size_none _ _ _ _ _ c.kind_of-kind.ensures c.loop-turn-test.true c.if-kind-eq-BTF_KIND_PTR.false c.has_size.ensures c.if-has_size.false c.sized_by_ref.ensures
    c.if-not-sized_by_ref.true) ∙ c.loop-turn.invariant

pub loop-turn-preserved : goal.loop-turn-preserved
loop-turn-preserved c =
    rw (c.ref_of-at.ensures, c.elements_of-n.ensures)
    (sym (size_goes _ _ _ _ _ c.kind_of-kind.ensures c.loop-turn-test.true c.if-kind-eq-BTF_KIND_PTR.false c.has_size.ensures c.if-has_size.false c.sized_by_ref.ensures c.if-not-sized_by_ref.false)
    ∙ c.loop-turn.invariant)

pub returns : goal.returns
returns c = c.no_size-2.ensures ∙ sym (size-long _ _ _ _ _ c.loop-turn-test.false) ∙ c.loop-turn.invariant

-- `btf_accept::stretch` meets its contract.
use mathlib.Core.Path.{refl, sym, ◌∙◌}
use Rattle.btf_accept.proofs.StretchLaws.{stretch_end, stretch_stop, stretch_fault, stretch_next}
use Rattle.btf_accept.proofs.stretch.Goals as goal

pub loop-at-init : goal.loop-at-init
loop-at-init c = refl

pub returns-then-n-stop : goal.returns-then-n-stop
returns-then-n-stop c = stretch_stop _ _ _ _ _ _ c.if-n-stop.true ∙ sym c.loop-at.invariant

pub returns-in_default : goal.returns-in_default
returns-in_default c =
    stretch_fault _ _ _ _ _ _ c.loop-at-test.true c.if-n-stop.false
    (sym c.in_default.is ∙ c.pass-st.ensures) ∙ sym c.loop-at.invariant

pub loop-at-preserved : goal.loop-at-preserved
loop-at-preserved c =
    c.loop-at.invariant ∙ stretch_next _ _ _ _ _ _ c.loop-at-test.true c.if-n-stop.false (sym c.in-Next.is ∙ c.pass-st.ensures) c.larger_of-far.ensures
    c.larger_of-top.ensures

pub returns : goal.returns
returns c = stretch_end _ _ _ _ _ _ c.loop-at-test.false ∙ sym c.loop-at.invariant

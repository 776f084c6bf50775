-- `btf_accept::first_unfit` meets its contract.
use Rattle.btf_accept.proofs.FitLaws.{fitting-first, fitting-far, fitting-top, fitting-next, fitting-passes, fitting-end}
use Rattle.btf_accept.proofs.ScanLaws.{walking-inside}
use Rattle.btf_accept.proofs.StretchLaws.{one-next, one_fault}
use Rattle.btf_accept.proofs.first_unfit.Goals as goal

pub loop-n-init : goal.loop-n-init
loop-n-init c = fitting-first _ c.requires

pub returns-in_default : goal.returns-in_default
returns-in_default c =
    absurd (fitting-passes c.loop-n.invariant c.loop-n-test.true
    (one_fault _ _ _ (walking-inside c.loop-n.invariant.walk c.loop-n-test.true) c.stretch-s.ensures
    c.in_default.is))

pub returns-then-far-room : goal.returns-then-far-room
returns-then-far-room c =
    fitting-far c.loop-n.invariant c.loop-n-test.true
    (one-next _ _ _ (walking-inside c.loop-n.invariant.walk c.loop-n-test.true) c.stretch-s.ensures c.in-Passed.is) c.if-far-room.true

pub returns-then-top-last : goal.returns-then-top-last
returns-then-top-last c =
    fitting-top c.loop-n.invariant c.loop-n-test.true
    (one-next _ _ _ (walking-inside c.loop-n.invariant.walk c.loop-n-test.true) c.stretch-s.ensures c.in-Passed.is) c.if-top-last.true

pub loop-n-preserved : goal.loop-n-preserved
loop-n-preserved c =
    fitting-next c.loop-n.invariant c.loop-n-test.true
    (one-next _ _ _ (walking-inside c.loop-n.invariant.walk c.loop-n-test.true) c.stretch-s.ensures c.in-Passed.is) c.if-far-room.false c.if-top-last.false

pub returns : goal.returns
returns c = fitting-end c.loop-n.invariant c.loop-n-test.false

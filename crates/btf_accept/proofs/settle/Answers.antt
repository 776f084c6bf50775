-- `btf_accept::settle` meets its contract.
use Rattle.btf_accept.proofs.FitLaws.{settle_fine, settle_unfit, settle_good}
use Rattle.btf_accept.proofs.settle.Goals as goal

pub returns-then-top-n : goal.returns-then-top-n
returns-then-top-n c = settle_fine _ _ _ c.requires.1 c.if-far-room.true c.if-top-n.true

pub first_unfit-u-requires : goal.first_unfit-u-requires
first_unfit-u-requires c = c.requires.0

pub returns-then-u-gt0 : goal.returns-then-u-gt0
returns-then-u-gt0 c = settle_unfit _ _ _ c.first_unfit-u.ensures c.if-u-gt0.true

pub returns : goal.returns
returns c = settle_good _ _ _ c.first_unfit-u.ensures c.if-u-gt0.false

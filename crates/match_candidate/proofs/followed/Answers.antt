-- `match_candidate::followed` meets its contract.
use Rattle.std.proofs.Common.{ap, Ok, ◌∙◌}
use native.Mathlib.Omega.{arith}
use Rattle.std.proofs.lemmas.Grind.{common_steps}
use Rattle.std.proofs.lemmas.Result.{err_from_is_err_and}
use Rattle.match_candidate.proofs.Fields.{following-none, following-first, following-refused, following-nothing, following-next, following-end}
use Rattle.match_candidate.proofs.followed.Goals as goal

pub returns-then-is_empty : goal.returns-then-is_empty
returns-then-is_empty c = following-none _ _ _ _ (grind (arith, common_steps))

pub loop-k-init : goal.loop-k-init
loop-k-init c = following-first _ _ _ _ (λ h. grind (arith, common_steps)) c.min.ensures c.origin-place.ensures

pub path_step-requires : goal.path_step-requires
path_step-requires c = omega (arith, c.loop-k.invariant.few, c.loop-k.invariant.room, c.loop-k-test.true)

pub returns-in_err-next : goal.returns-in_err-next
returns-in_err-next c =
    let p = err_from_is_err_and c.from_residual.result c.from_residual.ensures.1 in
    rw (p.1, p.2) (following-refused c.loop-k.invariant c.loop-k-test.true c.path_step.ensures c.in_err-next.was)

pub returns-in_default : goal.returns-in_default
returns-in_default c = following-nothing c.loop-k.invariant c.loop-k-test.true c.path_step.ensures (c.in_ok-next.was ∙ ap Ok c.in_default.is)

pub loop-k-preserved : goal.loop-k-preserved
loop-k-preserved c = following-next c.loop-k.invariant c.loop-k-test.true c.path_step.ensures (c.in_ok-next.was ∙ ap Ok c.in-Some.is)

pub returns : goal.returns
returns c = following-end c.loop-k.invariant c.loop-k-test.false

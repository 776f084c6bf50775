-- `match_scan::next_candidate` meets its contract.
use mathlib.Core.Path.{refl, sym, ◌∙◌}
use native.Mathlib.Omega.{arith}
use Rattle.btf_view.specs.Lent.{lent}
use Rattle.match_scan.proofs.From.{none_from, found_from, later-from}
use Rattle.match_scan.proofs.next_candidate.Goals as goal

pub loop-id-init : goal.loop-id-init
loop-id-init c = refl

pub returns-then-is_candidate : goal.returns-then-is_candidate
returns-then-is_candidate c =
    let a = c.args in
    sym (found_from (lent a.target.now) a.kind a.name.now a.target.now.btf.last c.loop-id.id (omega (arith, c.loop-id-test.true))
    c.is_candidate.ensures c.if-is_candidate.true) ∙ c.loop-id.invariant

pub loop-id-preserved : goal.loop-id-preserved
loop-id-preserved c =
    let a = c.args in
    later-from (lent a.target.now) a.kind a.name.now a.target.now.btf.last c.loop-id.id (omega (arith, c.loop-id-test.true)) c.is_candidate.ensures
    c.if-is_candidate.false ∙ c.loop-id.invariant

pub returns : goal.returns
returns c =
    let a = c.args in
    sym (none_from (lent a.target.now) a.kind a.name.now a.target.now.btf.last c.loop-id.id (omega (arith, c.loop-id-test.false))) ∙ c.loop-id.invariant

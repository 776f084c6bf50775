-- `access_walk::walk_on` meets its contract.
use mathlib.Core.Path.{refl, sym, ap, ◌∙◌}
use native.Mathlib.Omega.{arith}
use borrow.Author.Rules.{rules}
use lib.ListN.{length}
use Rattle.std.proofs.lemmas.Grind.{common_steps}
use Rattle.rules.specs.Access as A
use Rattle.access_text.specs.Few.{items_of}
use Rattle.access_walk.specs.Replies.{walk_of}
use Rattle.access_walk.proofs.Walking.{walk_on, walk_refused, walk_ends, onward-more}
use Rattle.access_walk.proofs.walk_on.Goals as goal

pub returns-in_err-step : goal.returns-in_err-step
returns-in_err-step c =
    let l = c.loop-part in
    let e = walk_refused _ (walk_of l.walk) c.args.parts.now l.part-index c.loop-part-test.true (search rules) refl c.next_step.ensures _ c.in_err-step.was in
    grind (arith, common_steps)

pub loop-part-preserved : goal.loop-part-preserved
loop-part-preserved c =
    let l = c.loop-part in
    let e = walk_on _ (walk_of l.walk) c.args.parts.now l.part-index c.loop-part-test.true (search rules) refl c.next_step.ensures _ c.in_ok-step.was in
    let n = ap (λ (w : A.Walk). length w.path) c.further.ensures in
    record {
      few = omega (arith, n, onward-more (items_of l.walk.path) c.in_ok-step.step.by, l.invariant.few);
      rest = rw c.further.ensures (sym e ∙ l.invariant.rest);
    }

pub returns : goal.returns
returns c =
    let l = c.loop-part in
    sym (walk_ends _ (walk_of l.walk) c.args.parts.now l.part-index c.loop-part-test.false) ∙ l.invariant.rest

-- `match_fold::type_matches` meets its contract.
use Rattle.std.proofs.Common.{rules, ◌≡◌, ◌∙◌, sym, ap, arith, Ok, Err, Some, None}
use Rattle.btf_view.specs.Lent.{lent}
use Rattle.match_fold.proofs.Events.{own-fold}
use Rattle.match_fold.proofs.Folding.{folding-first, folding-over, less, standing, pass_next, keep_next, stop}
use Rattle.match_fold.proofs.type_matches.Goals.{in-Some-2, in_default-2}
use Rattle.match_fold.proofs.type_matches.Goals as goal

pub loop-id-init : goal.loop-id-init
loop-id-init c = folding-first _ _ _ _

pub returns-in_err-found : goal.returns-in_err-found
returns-in_err-found c =
    let r : c.from_residual.result ≡ Err c.in_err-found.field-0.0 = search rules in
    r ∙ stop (standing c.loop-id.invariant c.next_candidate.ensures c.in-Some.is) (sym c.type_event.ensures ∙ c.in_err-found.was)
    ∙ own-fold (lent c.args.local.now) (lent c.args.target.now) c.args.relo c.kind_of-own.ensures c.type_name-name.ensures _

pub keep-requires : goal.keep-requires
keep-requires c = omega (arith, (standing c.loop-id.invariant c.next_candidate.ensures c.in-Some.is).few)

pub loop-id-smaller : goal.loop-id-smaller
loop-id-smaller c = less c.loop-id.invariant c.next_candidate.ensures c.in-Some.is

pub loop-id-preserved : goal.loop-id-preserved
loop-id-preserved c =
    let v = standing c.loop-id.invariant c.next_candidate.ensures c.in-Some.is in
    let e = sym c.type_event.ensures ∙ c.in_ok-found.was in
    elim c.match-branch-2.branch [
      | in-Some-2 w ↦ rw w.kept-is (keep_next v (e ∙ ap Ok w.in-Some-2.is) w.keep.ensures)
      | in_default-2 w ↦ rw w.kept-is (pass_next v (e ∙ ap Ok w.in_default-2.is))
    ]

pub returns : goal.returns
returns c =
    folding-over c.loop-id.invariant c.next_candidate.ensures c.in_default.is
    ∙ own-fold (lent c.args.local.now) (lent c.args.target.now) c.args.relo c.kind_of-own.ensures c.type_name-name.ensures _

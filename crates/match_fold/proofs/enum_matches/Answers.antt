-- `match_fold::enum_matches` meets its contract.
use Rattle.std.proofs.Common.{rules, ap, sym, ◌≡◌, ◌∙◌, arith, Err}
use Rattle.btf_view.specs.Lent.{lent}
use Rattle.rules.specs.Fields.{nth_entry}
use Rattle.match_fold.proofs.Events.{variant-fold}
use Rattle.match_fold.proofs.Folding.{folding-first, folding-over, less, standing, pass_next, keep_next, stop}
use Rattle.match_fold.proofs.Enums.{enum-refused, enum-other, scanning-first, scanning-next, scanning-found, scanning-none}
use Rattle.match_fold.proofs.enum_matches.Goals as goal

pub candidates-init : goal.candidates-init
candidates-init c = folding-first _ _ _ _

pub returns-in_err-e : goal.returns-in_err-e
returns-in_err-e c =
    let a = c.args in
    let L = lent a.local.now in
    let e : c.text_of-variant.result.now ≡ L.text (nth_entry (L.typ a.of) a.index).name = c.text_of-variant.ensures ∙ rw c.entry_of-asked.ensures in
    let r : c.from_residual.result ≡ Err c.in_err-e.field-0.0 = search rules in
    r ∙ stop (standing c.candidates.invariant c.next_candidate.ensures c.in-Some.is) (enum-refused _ _ _ _ (sym c.resolve_type.ensures ∙ c.in_err-e.was))
    ∙ variant-fold L (lent a.target.now) a.relo c.kind_of-own.ensures c.type_name-name.ensures _ e

pub candidates-smaller-then-not-is_enum : goal.candidates-smaller-then-not-is_enum
candidates-smaller-then-not-is_enum c = less c.candidates.invariant c.next_candidate.ensures c.in-Some.is

pub candidates-preserved-then-not-is_enum : goal.candidates-preserved-then-not-is_enum
candidates-preserved-then-not-is_enum c =
    pass_next (standing c.candidates.invariant c.next_candidate.ensures c.in-Some.is)
    (enum-other _ _ _ _ (sym c.resolve_type.ensures ∙ c.in_ok-e.was) (rw c.kind_of.ensures at (sym c.is_enum.ensures ∙ c.if-not-is_enum.true)))

pub loop-k-init : goal.loop-k-init
loop-k-init c = record {
  scan = scanning-first _ _ _ _ (sym c.resolve_type.ensures ∙ c.in_ok-e.was) (rw c.kind_of.ensures at (sym c.is_enum.ensures ∙ c.if-not-is_enum.false))
      c.count_of-k-end.ensures;
  stand = standing c.candidates.invariant c.next_candidate.ensures c.in-Some.is;
}

pub candidates-smaller : goal.candidates-smaller
candidates-smaller c = less c.candidates.invariant c.next_candidate.ensures c.in-Some.is

pub candidates-preserved : goal.candidates-preserved
candidates-preserved c = pass_next c.loop-k.invariant.stand (scanning-none c.loop-k.invariant.scan c.loop-k-test.false)

pub keep-requires : goal.keep-requires
keep-requires c = omega (arith, c.loop-k.invariant.stand.few)

pub candidates-smaller-then-same_named : goal.candidates-smaller-then-same_named
candidates-smaller-then-same_named c = less c.candidates.invariant c.next_candidate.ensures c.in-Some.is

pub candidates-preserved-then-same_named : goal.candidates-preserved-then-same_named
candidates-preserved-then-same_named c =
    keep_next c.loop-k.invariant.stand
    (rw c.variant_worth-value.ensures (scanning-found c.loop-k.invariant.scan c.loop-k-test.true c.entry_of-v.ensures c.same_named.ensures c.if-same_named.true))
    c.keep.ensures

pub loop-k-preserved : goal.loop-k-preserved
loop-k-preserved c = record {
  scan = scanning-next c.loop-k.invariant.scan c.loop-k-test.true c.entry_of-v.ensures c.same_named.ensures c.if-same_named.false;
  stand = c.loop-k.invariant.stand;
}

pub returns : goal.returns
returns c =
    let a = c.args in
    let L = lent a.local.now in
    let e : c.text_of-variant.result.now ≡ L.text (nth_entry (L.typ a.of) a.index).name = c.text_of-variant.ensures ∙ rw c.entry_of-asked.ensures in
    folding-over c.candidates.invariant c.next_candidate.ensures c.in_default.is
    ∙ variant-fold L (lent a.target.now) a.relo c.kind_of-own.ensures c.type_name-name.ensures _ e

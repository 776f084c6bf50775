-- `types_field_compat::fields_are_compatible` meets its contract.
use Rattle.std.proofs.Common.{rules, ◌≡◌, ◌∙◌, refl, Err}
use Rattle.rules.specs.Types.{fields_compatible}
use Rattle.types_field_compat.proofs.Fields.{field-endless, field-endless_2, field_meets, field_goes, field-long}
use Rattle.types_field_compat.proofs.fields_are_compatible.Goals as goal

pub loop-turn-init : goal.loop-turn-init
unfolding fields_compatible
loop-turn-init c = refl

pub returns-in_err-i : goal.returns-in_err-i
returns-in_err-i c =
    let r : c.from_residual.result ≡ Err c.in_err-i.field-0.0 = search rules in
    r ∙ field-endless _ _ _ _ _ _ c.loop-turn-test.true c.resolve_type.ensures c.in_err-i.was ∙ c.loop-turn.invariant

pub returns-in_err-j : goal.returns-in_err-j
returns-in_err-j c =
    let r : c.from_residual-in_err-j.result ≡ Err c.in_err-j.field-0.0 = search rules in
    r ∙ field-endless_2 _ _ _ _ _ _ c.loop-turn-test.true c.resolve_type.ensures c.in_ok-i.was c.resolve_type-in-loop-turn.ensures c.in_err-j.was ∙ c.loop-turn.invariant

pub returns-then-not-are_arrays : goal.returns-then-not-are_arrays
returns-then-not-are_arrays c =
    field_meets _ _ _ _ _ _ c.loop-turn-test.true c.resolve_type.ensures c.in_ok-i.was c.resolve_type-in-loop-turn.ensures c.in_ok-j.was c.are_arrays.ensures
    c.if-not-are_arrays.true c.fields_meet.ensures ∙ c.loop-turn.invariant

pub loop-turn-preserved : goal.loop-turn-preserved
loop-turn-preserved c =
    field_goes _ _ _ _ _ _ c.loop-turn-test.true c.resolve_type.ensures c.in_ok-i.was c.resolve_type-in-loop-turn.ensures c.in_ok-j.was c.are_arrays.ensures
    c.if-not-are_arrays.false c.ref_of-u.ensures c.ref_of-v.ensures ∙ c.loop-turn.invariant

pub returns : goal.returns
returns c = field-long _ _ _ _ _ _ c.loop-turn-test.false ∙ c.loop-turn.invariant

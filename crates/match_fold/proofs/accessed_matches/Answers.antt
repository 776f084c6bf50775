-- `match_fold::accessed_matches` meets its contract.
use Rattle.std.proofs.Common.{◌∙◌}
use Rattle.std.proofs.lemmas.List.{take_all}
use Rattle.btf_view.specs.Lent.{lent}
use Rattle.match_fold.proofs.Matches.{type_all, enum-all, field-all}
use Rattle.match_fold.proofs.accessed_matches.Goals as goal

pub returns-in-Whole : goal.returns-in-Whole
returns-in-Whole c =
    let a = c.args in
    rw c.in-Whole.is (c.type_matches.ensures ∙ type_all (lent a.local.now) (lent a.target.now) a.relo a.mine)

pub returns-in-Variant : goal.returns-in-Variant
returns-in-Variant c =
    let a = c.args in
    rw c.in-Variant.is (c.enum_matches.ensures ∙ enum-all (lent a.local.now) (lent a.target.now) a.relo a.mine _ _)

pub returns-in-Path : goal.returns-in-Path
returns-in-Path c =
    let a = c.args in
    let v = c.as_slice.ensures in
    let e = take_all 64 c.as_slice.result.now v.fits ∙ v.value in
    rw c.in-Path.is (rw e at c.field_matches.ensures ∙ field-all (lent a.local.now) (lent a.target.now) a.relo a.mine _ _)

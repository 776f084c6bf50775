-- `btf_kinds::tail_in` meets its contract.
use Rattle.std.proofs.Common.{inl, inr}
use Rattle.btf_kinds.proofs.RowLaws.{row-taken}
use Rattle.btf_kinds.proofs.tail_in.Goals as goal
use Rattle.btf_kinds.proofs.tail_in.Goals.{then-kind-lt20, else-kind-lt20}

pub returns : goal.returns
returns c =
    row-taken _ _ _ _
    (elim c.if-kind-lt20.branch [ then-kind-lt20 w ↦ inl (w.if-kind-lt20.true, w.row-is) | else-kind-lt20 w ↦ inr (w.if-kind-lt20.false, w.row-is) ])
    c.cell.ensures c.cell-2.ensures

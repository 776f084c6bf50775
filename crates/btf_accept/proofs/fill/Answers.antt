-- `btf_accept::fill` meets its contract.
use native.Mathlib.Omega.{arith}
use mathlib.Core.Path.{◌∙◌}
use lib.ListN.{length-set}
use Rattle.btf_accept.proofs.ScanLaws.{place-first}
use Rattle.btf_accept.proofs.MarkLaws.{mark_is}
use Rattle.btf_accept.proofs.FillLaws.{filled-both, filled-laid}
use Rattle.btf_accept.proofs.fill.Goals as goal

pub fill_on-requires : goal.fill_on-requires
fill_on-requires c = (c.requires.0, c.requires.1, omega (arith, c.requires.2, length-set c.args.table.now 0 0), omega arith, place-first _)

pub fill_parts-at-requires : goal.fill_parts-at-requires
fill_parts-at-requires c =
    let p = c.requires in
    let h = c.if-m-eq0.false in (
      p.0,
      λ k l. p.1 k (omega arith),
      omega (arith, p.2, length-set c.args.table.now 0 0),
      omega (arith, p.3),
      mark_is p.5 _ _ c.mark_at-second.ensures (omega arith) (omega arith),
      mark_is p.5 _ _ c.mark_at-third.ensures (omega arith) (omega arith),
      mark_is p.5 _ _ c.mark_at-fourth.ensures (omega arith) (omega arith),
    )

pub fill_on-requires-else-m-eq0 : goal.fill_on-requires-else-m-eq0
fill_on-requires-else-m-eq0 c =
    let f = c.fill_parts-at.ensures in
    (c.requires.0, c.requires.1, omega (arith, c.requires.2, f.table.len, length-set c.args.table.now 0 0), omega arith, f.next)

pub shape_of-table-then-m-eq0 : goal.shape_of-table-then-m-eq0
shape_of-table-then-m-eq0 c = c.fill_on.ensures.len ∙ length-set c.args.table.now 0 0

pub returns-then-m-eq0 : goal.returns-then-m-eq0
returns-then-m-eq0 c = filled-laid _ _ _ _ _ c.requires.2 c.fill_on.ensures

pub shape_of-table-else-m-eq0 : goal.shape_of-table-else-m-eq0
shape_of-table-else-m-eq0 c = c.fill_on-else-m-eq0.ensures.len ∙ c.fill_parts-at.ensures.table.len ∙ length-set c.args.table.now 0 0

pub returns-else-m-eq0 : goal.returns-else-m-eq0
returns-else-m-eq0 c = filled-laid _ _ _ _ _ c.requires.2 (filled-both (omega arith) (omega arith) c.fill_parts-at.ensures.table c.fill_on-else-m-eq0.ensures)

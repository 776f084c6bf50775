-- `btf_accept::fill_on` meets its contract.
use native.Mathlib.Omega.{arith}
use mathlib.Core.Path.{◌≡◌, refl}
use Rattle.btf_accept.proofs.ScanLaws.{lies_at}
use Rattle.btf_accept.proofs.FillLaws.{filled_none, filled_next, entry-is, place-on}
use Rattle.btf_accept.proofs.fill_on.Goals as goal

pub loop-n-init : goal.loop-n-init
loop-n-init c = let p = c.requires in ((refl, refl), omega arith, p.3, p.4, filled_none _ _ _ _)

pub lay-at-requires : goal.lay-at-requires
lay-at-requires c =
    let i = c.loop-n.invariant in
    let p = c.requires in
    (p.0, lies_at _ _ p.1 i.3 c.loop-n-test.true, i.0, omega (arith, p.2, i.4.len))

pub loop-n-preserved : goal.loop-n-preserved
loop-n-preserved c =
    let i = c.loop-n.invariant in
    let h = c.loop-n-test.true in
    let l = c.lay-at.ensures in (
      i.0,
      omega (arith, i.1),
      omega arith,
      place-on _ _ i.3 l.next refl,
      rw l.table (filled_next (omega (arith, i.4.len)) (entry-is _ _ _ i.3 refl) refl i.1 i.4),
    )

pub shape_of-table : goal.shape_of-table
shape_of-table c = c.loop-n.invariant.4.len

pub returns : goal.returns
returns c =
    let i = c.loop-n.invariant in
    let e : c.args.last ≡ c.loop-n.n = omega (arith, i.2, c.loop-n-test.false) in
    rw e i.4

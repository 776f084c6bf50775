-- `btf_accept::fill_parts` meets its contract.
use native.Mathlib.Omega.{arith}
use mathlib.Core.Path.{◌≡◌, refl, ap, ◌∙◌}
use Prim.Native.Nat.{◌+◌, ◌*◌}
use lib.ListN.{length, length-set}
use Rattle.btf_accept.specs.Shape.{place_of}
use Rattle.btf_accept.proofs.ScanLaws.{lies_at}
use Rattle.btf_accept.proofs.FillLaws.{quartered-first, quartered-next, quartered-end}
use Rattle.btf_accept.proofs.fill_parts.Goals as goal

pub loop-i-init : goal.loop-i-init
loop-i-init c = let p = c.requires in ((refl, refl), quartered-first _ _ _ _ p.4 p.5 p.6)

pub lay-a-requires : goal.lay-a-requires
lay-a-requires c =
    let i = c.loop-i.invariant.1 in
    let h = c.loop-i-test.true in
    let p = c.requires in
    (p.0, lies_at _ _ p.1 i.at_a (omega arith), c.loop-i.invariant.0, omega (arith, i.len, p.2))

pub lay-b-requires : goal.lay-b-requires
lay-b-requires c =
    let i = c.loop-i.invariant.1 in
    let h = c.loop-i-test.true in
    let p = c.requires in
    (p.0, lies_at _ _ p.1 i.at_b (omega arith), c.loop-i.invariant.0, omega (arith, i.len, simp length-set at (ap length c.lay-a.ensures.table), p.2))

pub lay-c-requires : goal.lay-c-requires
lay-c-requires c =
    let i = c.loop-i.invariant.1 in
    let h = c.loop-i-test.true in
    let p = c.requires in (
      p.0,
      lies_at _ _ p.1 i.at_c (omega arith),
      c.loop-i.invariant.0,
      omega (arith, i.len, simp length-set at (ap length c.lay-b.ensures.table), simp length-set at (ap length c.lay-a.ensures.table), p.2),
    )

pub lay-d-requires : goal.lay-d-requires
lay-d-requires c =
    let i = c.loop-i.invariant.1 in
    let h = c.loop-i-test.true in
    let p = c.requires in (
      p.0,
      lies_at _ _ p.1 i.at_d (omega arith),
      c.loop-i.invariant.0,
      omega (
        arith,
        i.len,
        simp length-set at (ap length c.lay-c.ensures.table),
        simp length-set at (ap length c.lay-b.ensures.table),
        simp length-set at
            (ap length c.lay-a.ensures.table),
        p.2,
      ),
    )

pub loop-i-preserved : goal.loop-i-preserved
loop-i-preserved c =
    let p = c.requires in
    let one = c.lay-a.ensures in
    let two = c.lay-b.ensures in
    let three = c.lay-c.ensures in
    let four = c.lay-d.ensures in
    (c.loop-i.invariant.0, quartered-next c.loop-i.invariant.1 c.loop-i-test.true p.2 one.table two.table three.table four.table one.next two.next three.next four.next)

pub shape_of-table : goal.shape_of-table
shape_of-table c = c.loop-i.invariant.1.len

pub returns : goal.returns
returns c =
    let q = c.loop-i.invariant.1 in
    let e : 3 * c.args.run + c.loop-i.i ≡ 4 * c.args.run = omega (arith, q.few, c.loop-i-test.false) in
    record { next = q.at_d ∙ ap (place_of _) e; table = quartered-end q c.loop-i-test.false }

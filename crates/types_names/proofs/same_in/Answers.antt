-- `types_names::same_in` meets its contract.
use Rattle.types_names.proofs.Names.{inside-in, name-past, name-ends, other-ends, name_differs, name_goes}
use Rattle.types_names.proofs.same_in.Goals as goal
use Rattle.types_names.proofs.same_in.Goals.{then-over-via-then-over, then-over-via-else-over+then-byte-strings}

pub returns-then-ends_at : goal.returns-then-ends_at
returns-then-ends_at c = name-ends _ _ _ c.loop-i.invariant c.ends_in-over.ensures c.ends_at.ensures c.if-ends_at.true

pub bounds-strings-i : goal.bounds-strings-i
bounds-strings-i c = inside-in _ _ c.ends_in-over.ensures c.if-over.false

pub returns-then-over : goal.returns-then-over
returns-then-over c =
    elim c.then-over.branch [
      | then-over-via-then-over w ↦ other-ends _ _ _ c.loop-i.invariant c.ends_in-over.ensures c.ends_at.ensures c.if-ends_at.false w.if-over.true
      | then-over-via-else-over+then-byte-strings w ↦ name_differs _ _ _ c.loop-i.invariant c.ends_in-over.ensures c.ends_at.ensures c.if-ends_at.false w.if-over.false
          c.loop-i-test.true w.if-byte-strings.true
    ]

pub loop-i-preserved : goal.loop-i-preserved
loop-i-preserved c =
    name_goes _ _ _ c.loop-i.invariant c.ends_in-over.ensures c.ends_at.ensures c.if-ends_at.false c.if-over.false c.loop-i-test.true c.if-byte-strings.false

pub returns : goal.returns
returns c = name-past _ _ _ c.loop-i.invariant c.loop-i-test.false c.loop-i.auto.i-end c.ends_in.ensures

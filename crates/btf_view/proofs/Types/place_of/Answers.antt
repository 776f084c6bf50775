-- `btf_view::place_of` meets its contract.
use native.Mathlib.Omega.{arith}
use Rattle.btf_view.proofs.PlaceLaws.{place-zero, place-high, place_short, place_is}
use Rattle.btf_view.proofs.Types.place_of.Goals as goal

pub returns-then-void : goal.returns-then-void
returns-then-void c = (place-zero _ _ _ _ c.if-void.true, omega arith)

pub returns-then-id-last : goal.returns-then-id-last
returns-then-id-last c = (place-high _ _ _ _ c.if-void.false c.if-id-last.true, omega arith)

pub returns-then-i-table : goal.returns-then-i-table
returns-then-i-table c = (place_short _ _ _ _ c.if-void.false c.if-id-last.false c.if-i-table.true, omega arith)

pub overflow_cast-result : goal.overflow_cast-result
overflow_cast-result c = omega (arith, c.shared_slice_known-1.given c.args.id)

pub returns : goal.returns
returns c = (
  place_is _ _ _ _ c.if-void.false c.if-id-last.false c.if-i-table.false,
  omega (arith, c.shared_slice_known-1.given c.args.id),
)

-- `btf_view::entry_of` meets its contract.
use native.Mathlib.Omega.{arith}
use mathlib.Core.Path.{ap}
use Rattle.btf_kinds.specs.declared.Tail.{Tail}
use Rattle.btf_view.proofs.PlaceLaws.{entry-none, entry-is, reach}
use Rattle.btf_view.proofs.Types.entry_of.Goals as goal

pub returns-then-k-count_at : goal.returns-then-k-count_at
returns-then-k-count_at c = entry-none _ _ _ _ _ c.place_of-at.ensures.0 _ c.count_at.ensures c.if-k-count_at.true

pub overflow_mul-size : goal.overflow_mul-size
overflow_mul-size c = omega (arith, reach _ _ _ _ _ _ c.count_at.ensures c.if-k-count_at.false (ap (λ (u : Tail). u.each) c.tail_of-tail.ensures))

pub overflow_cast-size : goal.overflow_cast-size
overflow_cast-size c = omega (arith, reach _ _ _ _ _ _ c.count_at.ensures c.if-k-count_at.false (ap (λ (u : Tail). u.each) c.tail_of-tail.ensures))

pub overflow_add-at-2 : goal.overflow_add-at-2
overflow_add-at-2 c =
    omega (
      arith,
      reach _ _ _ _ _ _ c.count_at.ensures c.if-k-count_at.false (ap (λ (u : Tail). u.each) c.tail_of-tail.ensures),
      c.place_of-at.ensures.1,
    )

pub returns : goal.returns
returns c =
    entry-is _ _ _ _ _ c.place_of-at.ensures.0 _ c.count_at.ensures
    c.if-k-count_at.false c.kind_at-kind.ensures (ap (λ (u : Tail). u.each) c.tail_of-tail.ensures) c.entry_at.ensures

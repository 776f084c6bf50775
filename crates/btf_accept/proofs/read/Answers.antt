-- `btf_accept::read` meets its contract.
use native.Mathlib.Omega.{arith}
use mathlib.Core.Path.{sym, ◌∙◌}
use Rattle.btf_accept.proofs.WholeLaws.{told-accepted, known-most, known_fill, read_bad, read_over, read_short, read_ok}
use Rattle.btf_accept.proofs.read.Goals as goal

pub overflow_add-result : goal.overflow_add-result
overflow_add-result c = omega (arith, known-most (told-accepted _ _ (sym c.in-Accepted.is ∙ c.accept_marked-w.ensures.answer)))

pub returns-then-table-last : goal.returns-then-table-last
returns-then-table-last c =
    let k = read_short _ _ _ (sym c.in-Accepted.is ∙ c.accept_marked-w.ensures.answer) c.if-table-last.true in
    record { answer = k.0; table = k.1 }

pub fill-requires : goal.fill-requires
fill-requires c =
    let known = told-accepted _ _ (sym c.in-Accepted.is ∙ c.accept_marked-w.ensures.answer) in
    let k = known_fill known c.part.ensures in
    (k.0, k.1, c.if-table-last.false, known-most known, omega arith, rw c.part.ensures (c.accept_marked-w.ensures.marks.accepted _ (sym c.in-Accepted.is)))

pub returns-in-Faulty : goal.returns-in-Faulty
returns-in-Faulty c =
    let k = read_bad _ _ (sym c.in-Faulty.is ∙ c.accept_marked-w.ensures.answer) in
    record { answer = k.0; table = k.1 }

pub returns-in-Over : goal.returns-in-Over
returns-in-Over c =
    let k = read_over _ _ (sym c.in-Over.is ∙ c.accept_marked-w.ensures.answer) in
    record { answer = k.0; table = k.1 }

pub returns-else-table-last : goal.returns-else-table-last
returns-else-table-last c =
    let k = read_ok _ _ _ (sym c.in-Accepted.is ∙ c.accept_marked-w.ensures.answer) c.if-table-last.false c.part.ensures c.fill.ensures in
    record { answer = k.0; table = k.1 }

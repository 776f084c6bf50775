-- `btf_view::text_in` meets its contract.
use native.Mathlib.Omega.{arith}
use Rattle.btf_view.proofs.Seen.{seen_first, text-none, seen-zero, seen_next, seen_end}
use Rattle.btf_view.proofs.text_in.Goals as goal

pub returns-then-from-strings : goal.returns-then-from-strings
returns-then-from-strings c = text-none _ _ (omega arith)

pub loop-e-init : goal.loop-e-init
loop-e-init c = seen_first _ _ (omega arith)

pub returns-then-strings-e-eq0 : goal.returns-then-strings-e-eq0
returns-then-strings-e-eq0 c = seen-zero c.loop-e.invariant (omega arith) c.if-strings-e-eq0.true

pub loop-e-preserved : goal.loop-e-preserved
loop-e-preserved c = seen_next c.loop-e.invariant (omega arith) c.if-strings-e-eq0.false

pub returns : goal.returns
returns c = seen_end c.loop-e.invariant (omega arith)

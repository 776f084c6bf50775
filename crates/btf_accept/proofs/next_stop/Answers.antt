-- `btf_accept::next_stop` meets its contract.
use borrow.Author.Tests.{lt-ltb, le-ltb}
use Rattle.btf_accept.specs.Shape.{stop_after}
use Rattle.btf_accept.proofs.next_stop.Goals as goal

pub returns-then-n : goal.returns-then-n
unfolding stop_after
returns-then-n c = rw (lt-ltb _ _ c.if-n.true)

pub returns-else-n : goal.returns-else-n
unfolding stop_after
returns-else-n c = rw (le-ltb _ _ c.if-n.false)

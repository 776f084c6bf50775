-- `match_scan::is_candidate` meets its contract.
use mathlib.Core.Path.{sym}
use borrow.Author.Tests.{eq-eqb, ne_eqb}
use Rattle.match_scan.proofs.is_candidate.Goals as goal

pub returns-then-kind-kind_of : goal.returns-then-kind-kind_of
returns-then-kind-kind_of c = sym (rw (← c.kind_of.ensures, ne_eqb _ _ c.if-kind-kind_of.true))

pub returns : goal.returns
returns c = sym (rw (← c.kind_of.ensures, eq-eqb _ _ c.if-kind-kind_of.false, ← c.name_of.ensures, ← c.same_named.ensures))

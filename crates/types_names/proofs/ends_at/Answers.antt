-- `types_names::ends_at` meets its contract.
use mathlib.Core.Path.{sym, ◌∙◌}
use borrow.Author.Tests.{le-leb}
use Rattle.std.proofs.lemmas.List.{take_rest}
use Rattle.types_names.proofs.Names.{nothing_left, left}
use Rattle.types_names.proofs.ends_at.Goals as goal

pub returns-then-i-name : goal.returns-then-i-name
returns-then-i-name c = rw (le-leb _ _ c.if-i-name.true) (nothing_left _ _ c.if-i-name.true)

pub returns-else-i-name : goal.returns-else-i-name
returns-else-i-name c = c.begins_flavour.ensures ∙ rw take_rest (sym (left c.args.name.now c.args.i c.if-i-name.false))

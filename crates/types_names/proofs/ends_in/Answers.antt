-- `types_names::ends_in` meets its contract.
use mathlib.Core.Path.{sym, ◌∙◌}
use borrow.Author.Tests.{eq-eqb}
use Rattle.std.proofs.lemmas.List.{take_rest}
use Rattle.types_names.proofs.Names.{zero_left, left_in}
use Rattle.types_names.proofs.ends_in.Goals as goal

pub returns-then-last : goal.returns-then-last
returns-then-last c = rw (eq-eqb _ _ c.if-last.true) (zero_left c.args.strings.now c.args.i c.byte_at-byte.ensures c.if-last.true)

pub returns-else-last : goal.returns-else-last
returns-else-last c = c.begins_flavour.ensures ∙ rw take_rest (sym (left_in c.args.strings.now c.args.i c.byte_at-byte.ensures c.if-last.false))

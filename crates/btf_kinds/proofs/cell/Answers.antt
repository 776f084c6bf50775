-- `btf_kinds::cell` meets its contract.
use mathlib.Core.Path.{sym}
use lib.ListN.{get_or-eq_default}
use Rattle.btf_kinds.proofs.cell.Goals as goal

pub returns-else-row-column : goal.returns-else-row-column
returns-else-row-column c = sym (get_or-eq_default c.args.column.now 0 c.if-row-column.false)

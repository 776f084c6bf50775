-- `btf_fields::count_at` meets its contract.
use Rattle.btf_kinds.proofs.FieldLaws.{count_none, count-some}
use Rattle.btf_fields.proofs.count_at.Goals as goal

pub returns-then-bare : goal.returns-then-bare
returns-then-bare c = count_none _ _ _ c.kind_at.ensures _ c.tail_of-tail.ensures c.if-bare.true

pub returns-else-bare : goal.returns-else-bare
returns-else-bare c = count-some _ _ _ c.kind_at.ensures _ c.tail_of-tail.ensures c.if-bare.false c.vlen_at.ensures

-- `btf_fields::size_at` meets its contract.
use Rattle.btf_kinds.proofs.FieldLaws.{sized, unsized}
use Rattle.btf_fields.proofs.size_at.Goals as goal

pub returns-then-has_size : goal.returns-then-has_size
returns-then-has_size c = let h = c.has_size in sized _ _ _ c.kind_at.ensures h.ensures c.if-has_size.true c.word_at.ensures

pub returns-else-has_size : goal.returns-else-has_size
returns-else-has_size c = unsized _ _ _ c.kind_at.ensures c.has_size.ensures c.if-has_size.false

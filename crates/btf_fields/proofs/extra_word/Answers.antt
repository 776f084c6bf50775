-- `btf_fields::extra_word` meets its contract.
use Rattle.btf_kinds.proofs.FieldLaws.{extra-there, extra-none}
use Rattle.btf_fields.proofs.extra_word.Goals as goal

pub returns-then-i-have : goal.returns-then-i-have
returns-then-i-have c = extra-there _ _ _ _ _ c.tail_of-tail.ensures c.if-i-have.true c.word_at.ensures

pub returns-else-i-have : goal.returns-else-i-have
returns-else-i-have c = extra-none _ _ _ _ _ c.tail_of-tail.ensures c.if-i-have.false

-- `btf_fields::vlen_at` meets its contract.
use Rattle.btf_kinds.specs.Types.{type_at}
use Rattle.btf_fields.proofs.vlen_at.Goals as goal

pub returns : goal.returns
unfolding type_at
returns c = rw c.word_at.ensures

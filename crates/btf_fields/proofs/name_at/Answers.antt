-- `btf_fields::name_at` meets its contract.
use Rattle.btf_kinds.specs.Types.{type_at}
use Rattle.btf_fields.proofs.name_at.Goals as goal

pub returns : goal.returns
unfolding type_at
returns c = c.u32_at.ensures

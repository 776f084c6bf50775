-- `btf_pass::vlen_in` meets its contract.
use Rattle.btf_kinds.specs.Types.{type_at}
use Rattle.btf_pass.proofs.vlen_in.Goals as goal

pub returns : goal.returns
unfolding type_at
returns c = rw c.u32_in.ensures

-- `btf_accept::lay` meets its contract.
use native.Mathlib.Omega.{arith}
use Rattle.btf_pass.proofs.TypeLaws.{least}
use Rattle.btf_accept.proofs.lay.Goals as goal

pub bytes_in-requires : goal.bytes_in-requires
bytes_in-requires c = (omega (arith, c.requires.1, least c.args.types.now c.args.at), c.requires.2)

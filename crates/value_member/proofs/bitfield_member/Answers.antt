-- `value_member::bitfield_member` meets its contract.
use Rattle.btf_view.specs.Lent.{lent}
use Rattle.rules.specs.Types.{own_size}
use Rattle.value_load.proofs.Loads.{begins}
use Rattle.value_member.proofs.bitfield_member.Goals as goal

pub load_value-requires : goal.load_value-requires
load_value-requires c = let a = c.args in begins a.bits a.width (own_size ((lent a.types.now).typ a.id)) c.in_ok-load.ensures

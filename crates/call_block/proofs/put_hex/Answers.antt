-- `call_block::put_hex` meets its contract.
use Rattle.std.proofs.Common.{arith, rules}
use Rattle.call_block.specs.Block.{hex}
use Rattle.call_block.proofs.Laws.{more-hex}
use Rattle.call_block.proofs.put_hex.Goals as goal

pub loop-byte-init : goal.loop-byte-init
unfolding hex
loop-byte-init c = search rules

pub loop-byte-preserved : goal.loop-byte-preserved
loop-byte-preserved c = more-hex _ _ (omega arith) c.loop-byte-test.true c.loop-byte.invariant c.put_hex_byte-next.ensures

-- `btf_pass::highest` meets its contract.
use native.Mathlib.Omega.{arith}
use Rattle.btf_pass.proofs.ReachLaws.{topping-first, topping-room, topping-next, topping-end}
use Rattle.btf_pass.proofs.highest.Goals as goal

pub loop-left-init : goal.loop-left-init
loop-left-init c = topping-first _ _ _ _ c.requires.1

pub u32_in-requires : goal.u32_in-requires
u32_in-requires c = topping-room c.loop-left.invariant c.loop-left-test.true

pub overflow_add-at : goal.overflow_add-at
overflow_add-at c = omega (arith, topping-room c.loop-left.invariant c.loop-left-test.true)

pub loop-left-preserved : goal.loop-left-preserved
loop-left-preserved c = topping-next c.loop-left.invariant c.loop-left-test.true c.u32_in.ensures c.larger_of-high.ensures

pub returns : goal.returns
returns c = topping-end c.loop-left.invariant c.loop-left-test.false

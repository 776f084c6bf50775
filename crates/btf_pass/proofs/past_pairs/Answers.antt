-- `btf_pass::past_pairs` meets its contract.
use Prim.Native.Nat.{◌+◌, ◌-◌}
use native.Mathlib.Omega.{arith}
use Rattle.btf_pass.specs.Shape.{Column, past_pairs}
use Rattle.btf_pass.proofs.PairLaws.{pair-columns, rising-first, rising-next, rising-end}
use Rattle.btf_pass.proofs.StepLaws.{listed_small, up_off, past_pairs_lem}
use Rattle.btf_pass.proofs.past_pairs.Goals as goal
use Rattle.btf_pass.proofs.past_pairs.Goals.{In-loop-i}

-- both columns, in the loop
abbrev ColumnsAt : In-loop-i → Type 0
ColumnsAt c =
    let a = c.args in
    Column a.types.now a.from a.step (a.count - 1) × Column a.types.now (a.from + 4) a.step (a.count - 1)

columns : (c : In-loop-i) → ColumnsAt c
columns c =
    let a = c.args in
    let p = c.requires in
    pair-columns a.types.now a.from a.step a.count p.0 p.1 p.2 (omega arith) (omega arith)

pub overflow_mul-size : goal.overflow_mul-size
overflow_mul-size c = omega (arith, listed_small c.args.types.now c.args.from _ _ c.requires)

pub overflow_cast-size : goal.overflow_cast-size
overflow_cast-size c = omega (arith, listed_small c.args.types.now c.args.from _ _ c.requires)

pub returns-then-types-from : goal.returns-then-types-from
unfolding past_pairs
returns-then-types-from c = up_off _ _ _ _ (omega arith)

pub loop-i-init : goal.loop-i-init
loop-i-init c = record { names = rising-first _ _ _ _; types = rising-first _ _ _ _ }

pub four-far-requires : goal.four-far-requires
four-far-requires c = ((columns (goal.at.four-far-requires c).In-loop-i).0, omega arith)

pub four-top-requires : goal.four-top-requires
four-top-requires c = ((columns (goal.at.four-top-requires c).In-loop-i).1, omega arith)

pub loop-i-preserved : goal.loop-i-preserved
loop-i-preserved c =
    record {
      names = rising-next c.loop-i.invariant.names c.loop-i-test.true c.four-far.ensures;
      types = rising-next c.loop-i.invariant.types c.loop-i-test.true c.four-top.ensures;
    }

pub returns : goal.returns
returns c =
    past_pairs_lem _ _ _ _ _ _ (omega arith) (rising-end c.loop-i.invariant.names c.loop-i-test.false)
    (rising-end c.loop-i.invariant.types c.loop-i-test.false) c.larger_of.ensures c.larger_of-2.ensures

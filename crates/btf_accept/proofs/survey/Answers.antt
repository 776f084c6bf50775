-- `btf_accept::survey` meets its contract.
use native.Mathlib.Omega.{arith}
use mathlib.Core.Path.{◌∙◌}
use lib.ListN.{set, length-set}
use Rattle.btf_accept.proofs.MarkLaws.{marking-first, marking-index, marking-less, marking-next, unmarked_many, unmarked_fault, marking_counts, marking_fault}
use Rattle.btf_accept.proofs.FitLaws.{surveyed-many, surveyed_walks, surveyed-reached, surveyed-end}
use Rattle.btf_accept.proofs.survey.Goals as goal

pub loop-at-init : goal.loop-at-init
loop-at-init c = marking-first _ _

pub shape_of-marks-then-n-eq-MAX_TYPES : goal.shape_of-marks-then-n-eq-MAX_TYPES
shape_of-marks-then-n-eq-MAX_TYPES c = c.loop-at.invariant.len

pub returns-then-n-eq-MAX_TYPES : goal.returns-then-n-eq-MAX_TYPES
returns-then-n-eq-MAX_TYPES c = record { answer = surveyed-many c.loop-at.invariant.seen _ c.loop-at-test.true c.if-n-eq-MAX_TYPES.true; marks = unmarked_many _ c.loop-at.marks }

pub overflow_cast-marks : goal.overflow_cast-marks
overflow_cast-marks c = omega (arith, c.loop-at-test.true, c.requires.0)

pub offset_bounds-marks-j : goal.offset_bounds-marks-j
offset_bounds-marks-j c = omega (arith, marking-index c.loop-at.invariant c.loop-at-test.true c.if-n-eq-MAX_TYPES.false)

pub bounds-marks-j : goal.bounds-marks-j
bounds-marks-j c =
    omega (
      arith,
      c.loop-at.invariant.len,
      marking-index c.loop-at.invariant c.loop-at-test.true c.if-n-eq-MAX_TYPES.false,
      c.requires.1,
    )

pub shape_of-marks-in-Stuck : goal.shape_of-marks-in-Stuck
shape_of-marks-in-Stuck c = length-set c.loop-at.marks c.loop-at.j c.loop-at.at ∙ c.loop-at.invariant.len

pub returns-in-Stuck : goal.returns-in-Stuck
returns-in-Stuck c = record { answer = marking_fault c.loop-at.invariant c.loop-at-test.true c.if-n-eq-MAX_TYPES.false c.next_stop.ensures c.stretch-s.ensures _ c.in-Stuck.is; marks = unmarked_fault c.args.types.now (set c.loop-at.marks c.loop-at.j c.loop-at.at) _ }

pub overflow_add-j : goal.overflow_add-j
overflow_add-j c = omega (arith, marking-index c.loop-at.invariant c.loop-at-test.true c.if-n-eq-MAX_TYPES.false)

pub loop-at-smaller : goal.loop-at-smaller
loop-at-smaller c = marking-less c.loop-at.invariant c.loop-at-test.true c.if-n-eq-MAX_TYPES.false c.next_stop.ensures c.stretch-s.ensures c.in-Passed.is

pub loop-at-preserved : goal.loop-at-preserved
loop-at-preserved c = marking-next c.loop-at.invariant c.loop-at-test.true c.if-n-eq-MAX_TYPES.false c.next_stop.ensures c.stretch-s.ensures c.in-Passed.is c.requires.1

pub settle-requires : goal.settle-requires
settle-requires c = (surveyed_walks c.loop-at.invariant.seen c.loop-at-test.false, surveyed-reached c.loop-at.invariant.seen c.loop-at-test.false)

pub shape_of-marks : goal.shape_of-marks
shape_of-marks c = c.loop-at.invariant.len

pub returns : goal.returns
returns c =
    record {
      answer = surveyed-end c.loop-at.invariant.seen c.loop-at-test.false _ c.settle.ensures;
      marks = marking_counts c.loop-at.invariant
          c.args.room c.settle.ensures;
    }

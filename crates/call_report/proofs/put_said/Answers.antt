-- `call_report::put_said` meets its contract.
use Rattle.std.proofs.Common.{◌≡◌, arith}
use Rattle.rules.specs.Report.{report_said}
use Rattle.call_report.proofs.Laws.{more, end}
use Rattle.call_report.proofs.put_said.Goals as goal

pub loop-k-preserved : goal.loop-k-preserved
loop-k-preserved c = more _ _ _ _ _ _ _ (omega arith) (omega (arith, c.min-answered.ensures)) c.loop-k.invariant c.put_applied-at.ensures

pub returns : goal.returns
unfolding report_said
returns c =
    let all : c.loop-k.k ≡ c.min-answered.result = omega arith in
    end _ _ _ _ _ _ _ (omega arith) (omega (arith, c.min-answered.ensures)) (rw all at c.loop-k.invariant) c.put_last.ensures

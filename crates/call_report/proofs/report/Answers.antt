-- `call_report::report` meets its contract.
use Rattle.std.proofs.Common.{arith}
use Rattle.call_report.proofs.Laws.{short, enough}
use Rattle.call_report.proofs.report.Goals as goal

pub returns-then-too_long : goal.returns-then-too_long
returns-then-too_long c =
    let k = short _ c.args.out.now c.put_said-needed.ensures.place c.if-too_long.true in
    record { answer = k.0; buffer = k.1 }

pub returns : goal.returns
returns c =
    let k = enough _ c.args.out.now c.put_said-needed.ensures.place (omega arith) c.if-too_long.false c.put_said.ensures in
    record { answer = k.0; buffer = k.1 }

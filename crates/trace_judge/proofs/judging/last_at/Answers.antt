use Rattle.std.proofs.Common.{rules, IfSome}
use Rattle.trace_text.specs.Last.{AreNumbers}
use Rattle.trace_judge.proofs.Readings.{last_result}
use Rattle.trace_judge.proofs.judging.last_at.Goals as goal

pub returns : goal.returns
returns c =
    let read = c.read_last.ensures in
    let numbers : IfSome c.read_last.result (λ r. AreNumbers r.0) = search rules in
    last_result c.args.bytes.now c.args.at c.read_last.result numbers read.stands read.after read.refused

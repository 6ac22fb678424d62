use Rattle.std.proofs.Common.{◌∙◌}
use Rattle.trace_judge.proofs.Readings.{event_result}
use Rattle.trace_judge.proofs.judging.event_at.Goals as goal

pub returns-clause-event : goal.returns-clause-event
returns-clause-event c =
    let read = c.read.ensures in
    c.ok.ensures.value ∙ event_result c.args.lines.now read.few c.args.bytes.now c.args.at c.read.result read.spelling read.stands read.after read.refused

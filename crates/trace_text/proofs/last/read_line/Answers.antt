use Rattle.trace_text.proofs.LastLines.{none_where_strange}
use Rattle.trace_text.proofs.last.read_line.Goals as goal

pub returns-in-Err : goal.returns-in-Err
returns-in-Err c = none_where_strange c.args.line.now c.in-Err.ensures.cases.0

use Rattle.std.proofs.Common.{arith}
use Rattle.trace_text.proofs.Lines.{none_where_strange}
use Rattle.trace_text.proofs.line.read_line.Goals as goal

pub returns-in-Err : goal.returns-in-Err
returns-in-Err c = none_where_strange c.args.n (omega (arith, c.ranges.n)) c.args.line.now c.in-Err.ensures.cases.0

use Rattle.std.proofs.Common.{arith}
use Rattle.repeated_lines.proofs.Standing.{spelled_again}
use Rattle.repeated_lines.proofs.reader.again.Goals as goal

pub returns-then-stands_at-clause-spelling : goal.returns-then-stands_at-clause-spelling
returns-then-stands_at-clause-spelling c =
    spelled_again c.args.processors c.args.read.now.line.processors c.args.read.now.line.event (omega (arith, c.ranges.processors)) c.if-read-processors.true c.args.read.now.spelled

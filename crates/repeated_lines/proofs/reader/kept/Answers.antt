use Rattle.std.proofs.Common.{arith}
use Rattle.repeated_lines.proofs.Standing.{spelled_with}
use Rattle.repeated_lines.proofs.reader.kept.Goals as goal

pub invariant_of-result : goal.invariant_of-result
invariant_of-result c = record {
  spelled = spelled_with c.args.processors c.in_ok-line.line.processors c.args.event c.in_ok-line.line.event (omega (arith, c.ranges.processors)) c.in_ok-line.ensures c.requires.spelled;
}

use Rattle.std.proofs.Common.{◌≡◌, ◌+◌, ◌-◌, length}
use Rattle.trace_judge.specs.Tallies.{IsTallyBelow}
use Rattle.trace_judge.specs.Verdicts.{first_walk, verdict_within}
use Rattle.trace_judge.proofs.judging.judge.Given as goal

abbrev pub invariant-loop-line : goal.invariant-loop-line
invariant-loop-line l = record {
  judged : verdict_within (length l.bytes - l._line) l.processors l.bytes l.walk ≡ verdict_within (length l.bytes) l.processors l.bytes (first_walk l.fn.machine);
  few : IsTallyBelow (l._line + 1) l.walk.tally;
  platform : l.lines ≡ l.processors;
}

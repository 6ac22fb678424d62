use Rattle.std.proofs.Common.{◌≡◌, take}
use Rattle.smm_base.specs.Calls.{Leads}
use Rattle.replay_report.specs.Report.{AreCounts, IsBuffered, event_lines}
use Rattle.replay_report.proofs.report.write_lines.Given as goal

abbrev pub invariant-loop-event : goal.invariant-loop-event
invariant-loop-event g l = record {
  counted : AreCounts l.counts (take l.event-index l.events);
  buffered : IsBuffered (g.K.Sink.written l.fn.out) (g.K.Sink.written l.out) l.buffer.items (event_lines l.processors (take l.event-index l.events));
  platform : l.lines ≡ l.processors;
  moved : Leads g.K.Sink.moves l.fn.out l.out;
}

use Rattle.std.proofs.Common.{take}
use Rattle.replay_report.specs.Report.{AreCounts}
use Rattle.replay_report.proofs.report.count.Given as goal

abbrev pub invariant-loop-event : goal.invariant-loop-event
invariant-loop-event l = record { counted : AreCounts l.counts (take l.event-index l.events) }

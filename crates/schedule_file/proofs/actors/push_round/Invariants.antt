use Rattle.std.proofs.Common.{◌≡◌, ◌++◌}
use Rattle.std.specs.List.{range_with_len}
use Rattle.schedule_file.specs.Schedule.{repeated}
use Rattle.schedule_file.proofs.actors.push_round.Given as goal

abbrev pub invariant-loop-time : goal.invariant-loop-time
invariant-loop-time l = l.listed.items ≡ l.fn.listed.items ++ repeated l._time (range_with_len l.round.first l.round.actors)

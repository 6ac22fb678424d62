use Rattle.std.proofs.Common.{◌≡◌}
use Rattle.platform_gen.specs.Draws.{state_after}
use Rattle.platform_gen.specs.Plans.{statuses_from}
use Rattle.platform_gen.proofs.plan.draw_statuses.Given as goal

abbrev pub invariant-loop-cpu : goal.invariant-loop-cpu
invariant-loop-cpu l = record {
  drawn : l.statuses.items ≡ statuses_from l.fn.draws.state l.cpu;
  state : l.draws.state ≡ state_after l.fn.draws.state l.cpu;
}

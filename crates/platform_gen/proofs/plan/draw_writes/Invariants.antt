use Rattle.std.proofs.Common.{◌≡◌}
use Rattle.platform_gen.specs.Draws.{state_after}
use Rattle.platform_gen.specs.Plans.{writes_from}
use Rattle.platform_gen.proofs.plan.draw_writes.Given as goal

abbrev pub invariant-loop-cpu : goal.invariant-loop-cpu
invariant-loop-cpu l = record {
  drawn : l.writes.items ≡ writes_from l.fn.draws.state l.cpu;
  state : l.draws.state ≡ state_after l.fn.draws.state l.cpu;
}

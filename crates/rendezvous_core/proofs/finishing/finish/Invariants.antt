use Rattle.std.proofs.Common.{◌≡◌, ◌-◌, length}
use Rattle.rendezvous_core.specs.Asleep.{AreAsleep}
use Rattle.rendezvous_core.proofs.Rounds.{IsOnItsWay}
use Rattle.rendezvous_core.proofs.finishing.finish.Given as goal

abbrev pub invariant-loop-awake : goal.invariant-loop-awake
invariant-loop-awake l = record {
  on_its_way : IsOnItsWay l.processors l.fn.world l.world;
  asleep : AreAsleep l.awake l.world.world;
  flags : length l.awake ≡ 65;
}

abbrev pub decreases-loop-awake : goal.decreases-loop-awake
decreases-loop-awake l = l.world.room - length l.world.events

use Rattle.std.proofs.Common.{◌≡◌, length}
use Rattle.std.specs.List.{range_with_len}
use Rattle.rendezvous_core.specs.Asleep.{AreAsleep}
use Rattle.rendezvous_core.specs.Finishes.{played_on}
use Rattle.rendezvous_core.proofs.finishing.round.Given as goal

abbrev pub invariant-loop-actor : goal.invariant-loop-actor
invariant-loop-actor l = record {
  played : l.world ≡ played_on l.fn.world (range_with_len 0 l.actor);
  asleep : AreAsleep l.awake l.world.world;
  flags : length l.awake ≡ 65;
}

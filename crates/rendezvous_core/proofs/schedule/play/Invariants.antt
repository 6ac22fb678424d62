use Rattle.std.proofs.Common.{◌≡◌, ◌≤◌, ◌+◌, ◌++◌, length, drop}
use Rattle.rendezvous_core.specs.Worlds.{events_from, world_after}
use Rattle.rendezvous_core.proofs.schedule.play.Given as goal

abbrev pub invariant-loop-actor : goal.invariant-loop-actor
invariant-loop-actor l = record {
  processors : l.world.processors ≡ l.fn.world.processors;
  events : l.world.events ++ events_from l.world.world (drop l.actor-index l.schedule) ≡ l.fn.world.events ++ events_from l.fn.world.world l.schedule;
  world : world_after l.world.world (drop l.actor-index l.schedule) ≡ world_after l.fn.world.world l.schedule;
  few : length l.world.events ≤ length l.fn.world.events + l.actor-index;
  room : l.world.room ≡ l.fn.world.room;
}

use Rattle.std.proofs.Common.{◌≡◌, take}
use Rattle.rendezvous_core.specs.Finishes.{played_on}
use Rattle.rendezvous_core.proofs.finishing.play.Given as goal

abbrev pub invariant-loop-actor : goal.invariant-loop-actor
invariant-loop-actor l = l.world ≡ played_on l.fn.world (take l.actor-index l.schedule)

-- One actor of the round after the other.
use Rattle.std.proofs.Common.{[], ◌∷◌, ap, ◌∙◌}
use Rattle.rendezvous_core.specs.Finishes.{played_on}
use Rattle.rendezvous_core.proofs.Steps.{further}
use Rattle.rendezvous_core.proofs.Rounds.{round_more}
use Rattle.rendezvous_core.proofs.finishing.round.Goals as goal

pub turn_of-requires-clause-goes_on : goal.turn_of-requires-clause-goes_on
turn_of-requires-clause-goes_on c = (further c.args.world.now c.loop-actor.world _ c.loop-actor.invariant.played c.requires.goes_on c.requires.has_room).goes_on

pub turn_of-requires-clause-has_room : goal.turn_of-requires-clause-has_room
turn_of-requires-clause-has_room c = (further c.args.world.now c.loop-actor.world _ c.loop-actor.invariant.played c.requires.goes_on c.requires.has_room).has_room

pub loop-actor-preserved : goal.loop-actor-preserved
loop-actor-preserved c =
    record {
      played = c.turn_of.ensures.played ∙ ap (λ r. played_on r (c.loop-actor.actor ∷ [])) c.loop-actor.invariant.played ∙ round_more c.args.world.now c.loop-actor.actor;
      asleep = c.turn_of.ensures.asleep;
      flags = c.turn_of.ensures.size ∙ c.loop-actor.invariant.flags;
    }

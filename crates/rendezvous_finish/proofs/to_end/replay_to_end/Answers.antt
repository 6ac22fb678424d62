-- The start, and what is carried on from it.
use Rattle.rendezvous_finish.proofs.ToEnd.{first_has_room, first_reached, known_here, whole}
use Rattle.rendezvous_finish.proofs.to_end.replay_to_end.Goals as goal

pub carried_on-requires-clause-reached : goal.carried_on-requires-clause-reached
carried_on-requires-clause-reached c = first_reached c.args.setup.now c.args.images.now.items c.requires.images c.args.room c.in-Ok.world c.in-Ok.ensures.start

pub carried_on-requires-clause-has_room : goal.carried_on-requires-clause-has_room
carried_on-requires-clause-has_room c = first_has_room c.args.setup.now c.args.images.now.items c.requires.images c.args.room c.requires.has_room c.in-Ok.world c.in-Ok.ensures.start

pub carried_on-requires-clause-known : goal.carried_on-requires-clause-known
carried_on-requires-clause-known c = known_here c.args.setup.now c.args.images.now.items c.requires.images c.args.room c.in-Ok.world c.args.schedule.now.items c.in-Ok.ensures.start c.requires.known

pub returns-in-Ok-clause-world : goal.returns-in-Ok-clause-world
returns-in-Ok-clause-world c =
    (whole c.args.setup.now c.args.images.now.items c.requires.images c.args.room c.in-Ok.world c.carried_on.result c.args.schedule.now.items c.in-Ok.ensures.start c.carried_on.ensures.played).world

pub returns-in-Ok-clause-events : goal.returns-in-Ok-clause-events
returns-in-Ok-clause-events c =
    (whole c.args.setup.now c.args.images.now.items c.requires.images c.args.room c.in-Ok.world c.carried_on.result c.args.schedule.now.items c.in-Ok.ensures.start c.carried_on.ensures.played).events

pub returns-in-Ok-clause-processors : goal.returns-in-Ok-clause-processors
returns-in-Ok-clause-processors c =
    (whole c.args.setup.now c.args.images.now.items c.requires.images c.args.room c.in-Ok.world c.carried_on.result c.args.schedule.now.items c.in-Ok.ensures.start c.carried_on.ensures.played).processors

pub returns-in-Ok-clause-begins : goal.returns-in-Ok-clause-begins
returns-in-Ok-clause-begins c =
    (whole c.args.setup.now c.args.images.now.items c.requires.images c.args.room c.in-Ok.world c.carried_on.result c.args.schedule.now.items c.in-Ok.ensures.start c.carried_on.ensures.played).begins

pub returns-in-Ok-clause-replayed : goal.returns-in-Ok-clause-replayed
returns-in-Ok-clause-replayed c =
    (whole c.args.setup.now c.args.images.now.items c.requires.images c.args.room c.in-Ok.world c.carried_on.result c.args.schedule.now.items c.in-Ok.ensures.start c.carried_on.ensures.played).replayed

pub returns-in-Ok-clause-complete : goal.returns-in-Ok-clause-complete
returns-in-Ok-clause-complete c = c.carried_on.ensures.complete

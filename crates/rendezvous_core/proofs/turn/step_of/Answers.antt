-- The turn of the actor in its place.
use Rattle.rendezvous_core.proofs.ActorLemmas.{number_at, stepped_world}
use Rattle.rendezvous_core.proofs.turn.step_of.Goals as goal

pub take_turn-requires-clause-number : goal.take_turn-requires-clause-number
take_turn-requires-clause-number c = number_at c.args.programs.now c.args.me c.from.result c.index-programs-from.result c.from.ensures c.requires.me_in c.requires.number

pub returns-clause-world : goal.returns-clause-world
returns-clause-world c =
    stepped_world c.args.words.now c.take_turn.new.words c.args.lying.now c.take_turn.new.lying c.args.programs.now c.args.me c.from.result
    c.index-programs-from.result c.take_turn.new.program
    c.from.ensures c.requires.me_in c.take_turn.ensures.words c.take_turn.ensures.lying c.take_turn.ensures.actor

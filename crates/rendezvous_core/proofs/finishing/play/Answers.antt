-- One actor of the schedule after the other.
use Rattle.std.proofs.Common.{◌≤◌, length, arith}
use Rattle.rendezvous_core.proofs.Steps.{further, schedule_more, schedule_end}
use Rattle.rendezvous_core.proofs.finishing.play.Goals as goal

pub turn-requires-clause-goes_on : goal.turn-requires-clause-goes_on
turn-requires-clause-goes_on c = (further c.args.world.now c.loop-actor.world _ c.loop-actor.invariant c.requires.goes_on c.requires.has_room).goes_on

pub turn-requires-clause-has_room : goal.turn-requires-clause-has_room
turn-requires-clause-has_room c = (further c.args.world.now c.loop-actor.world _ c.loop-actor.invariant c.requires.goes_on c.requires.has_room).has_room

pub loop-actor-preserved : goal.loop-actor-preserved
loop-actor-preserved c =
    schedule_more c.args.world.now c.loop-actor.world c.turn.new.world c.args.schedule.now c.loop-actor.actor-index _ c.loop-actor-test.true c.loop-actor.invariant c.turn.ensures

pub returns : goal.returns
returns c =
    let past : length c.args.schedule.now ≤ c.loop-actor.actor-index = omega (arith, c.loop-actor-test.false) in
    schedule_end c.args.world.now c.loop-actor.world c.args.schedule.now c.loop-actor.actor-index past c.loop-actor.invariant

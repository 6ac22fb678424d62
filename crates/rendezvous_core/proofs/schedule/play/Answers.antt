-- Each step keeps what the replay comes to.
use Rattle.std.proofs.Common.{◌≤◌, ◌∙◌, length, refl, arith}
use Rattle.rendezvous_core.proofs.ReplayLemmas.{step_events, step_world, step_few, end_events, end_world}
use Rattle.rendezvous_core.proofs.schedule.play.Goals as goal

pub loop-actor-preserved : goal.loop-actor-preserved
loop-actor-preserved c =
    let i = c.loop-actor.actor-index in
    let so_far = c.loop-actor.invariant in
    record {
      processors = c.advance.ensures.processors ∙ so_far.processors;
      events = step_events _ _ _ _ c.args.schedule.now i _ _ c.loop-actor-test.true refl c.advance.ensures.world c.advance.ensures.events ∙ so_far.events;
      world = step_world _ _ c.args.schedule.now i _ c.loop-actor-test.true c.advance.ensures.world ∙ so_far.world;
      few = step_few _ _ (length c.args.world.events) _ i so_far.few c.advance.ensures.events;
      room = c.advance.ensures.room ∙ so_far.room;
    }

pub returns-clause-events : goal.returns-clause-events
returns-clause-events c =
    let past : length c.args.schedule.now ≤ c.loop-actor.actor-index = omega (arith, c.loop-actor-test.false) in
    end_events c.loop-actor.world.world c.loop-actor.world.events _ c.args.schedule.now c.loop-actor.actor-index past c.loop-actor.invariant.events

pub returns-clause-world : goal.returns-clause-world
returns-clause-world c =
    let past : length c.args.schedule.now ≤ c.loop-actor.actor-index = omega (arith, c.loop-actor-test.false) in
    end_world c.loop-actor.world.world _ c.args.schedule.now c.loop-actor.actor-index past c.loop-actor.invariant.world

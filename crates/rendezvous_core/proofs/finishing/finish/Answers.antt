-- Rounds until all are off.
use Rattle.std.proofs.Common.{refl, sym, subst, ◌∙◌}
use Rattle.rendezvous_core.specs.Finishes.{rounds, IsReplayOfItsActors}
use Rattle.rendezvous_core.proofs.Asleep.{all_awake}
use Rattle.rendezvous_core.proofs.Own.{played_own}
use Rattle.rendezvous_core.proofs.Rounds.{at_first, one_round, room_falls, at_last}
use Rattle.rendezvous_core.proofs.finishing.finish.Goals as goal

pub loop-awake-init : goal.loop-awake-init
loop-awake-init c =
    let r = c.args.world.now in
    record {
      on_its_way = at_first c.args.processors r c.requires.goes_on c.requires.has_room c.requires.actors (sym c.requires.processors);
      asleep = all_awake 65 r.world;
      flags = refl;
    }

pub loop-awake-preserved : goal.loop-awake-preserved
loop-awake-preserved c =
    record {
      on_its_way = one_round c.args.processors c.args.world.now c.loop-awake.world c.round.new.world c.loop-awake.invariant.on_its_way (sym c.complete.ensures ∙ c.loop-awake-test.true) c.round.ensures.played;
      asleep = c.round.ensures.asleep;
      flags = c.round.ensures.flags;
    }

pub loop-awake-smaller : goal.loop-awake-smaller
loop-awake-smaller c =
    room_falls c.args.processors c.args.world.now c.loop-awake.world c.round.new.world c.loop-awake.invariant.on_its_way (sym c.complete.ensures ∙ c.loop-awake-test.true) c.round.ensures.played

pub returns-clause-complete : goal.returns-clause-complete
returns-clause-complete c = sym c.complete.ensures ∙ c.loop-awake-test.false

pub returns-clause-played : goal.returns-clause-played
returns-clause-played c = at_last c.args.processors c.args.world.now c.loop-awake.world c.loop-awake.invariant.on_its_way (sym c.complete.ensures ∙ c.loop-awake-test.false)

pub returns-clause-replayed : goal.returns-clause-replayed
returns-clause-replayed c =
    let r = c.args.world.now in
    let n = c.args.processors in
    let played = at_last n r c.loop-awake.world c.loop-awake.invariant.on_its_way (sym c.complete.ensures ∙ c.loop-awake-test.false) in
    subst (IsReplayOfItsActors r) (sym played) (played_own r (rounds n r.room))

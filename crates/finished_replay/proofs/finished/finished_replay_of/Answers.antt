use Rattle.replay_report.specs.Plan.{plan_of}
use Rattle.replay_report.proofs.ReplayLemmas.{replayed_by, after_by, keeps_platform}
use Rattle.finished_replay.specs.Finished.{finished}
use Rattle.finished_replay.proofs.FinishLemmas.{room_for, world_is, events_are, playable_on, reaches_end}
use Rattle.finished_replay.proofs.finished.finished_replay_of.Goals as goal

pub replay_to_end-requires-clause-has_room : goal.replay_to_end-requires-clause-has_room
replay_to_end-requires-clause-has_room c =
    room_for c.every_schedule_is_bounded.ensures.all c.args.inputs.now c.requires.playable c.room_of-room.result c.room_of-room.ensures

pub of_world-requires-clause-platform : goal.of_world-requires-clause-platform
of_world-requires-clause-platform c =
    keeps_platform c.schedule_laws.ensures.platform (finished (plan_of c.args.inputs.now)) c.in-Ok.world.world (playable_on (plan_of c.args.inputs.now) c.requires.playable)
    (world_is (plan_of c.args.inputs.now) c.room_of-room.result c.in-Ok.world.world c.room_of-room.ensures c.in-Ok.ensures.world)

pub returns-in-Ok-clause-replayed : goal.returns-in-Ok-clause-replayed
returns-in-Ok-clause-replayed c =
    replayed_by (finished (plan_of c.args.inputs.now)) c.in-Ok.world.world c.in-Ok.world.events c.of_world.result
    (world_is (plan_of c.args.inputs.now) c.room_of-room.result c.in-Ok.world.world c.room_of-room.ensures c.in-Ok.ensures.world)
    (events_are (plan_of c.args.inputs.now) c.room_of-room.result c.in-Ok.world.events c.room_of-room.ensures c.in-Ok.ensures.events)
    c.of_world.ensures.events c.of_world.ensures.complete c.of_world.ensures.each

pub returns-in-Ok-clause-images : goal.returns-in-Ok-clause-images
returns-in-Ok-clause-images c =
    after_by (finished (plan_of c.args.inputs.now)) c.in-Ok.world.world c.of_world.result
    (world_is (plan_of c.args.inputs.now) c.room_of-room.result c.in-Ok.world.world c.room_of-room.ensures c.in-Ok.ensures.world) c.of_world.ensures.each c.of_world.ensures.kind

pub returns-in-Ok-clause-ends : goal.returns-in-Ok-clause-ends
returns-in-Ok-clause-ends c =
    reaches_end c.finish_laws.ensures.ends c.every_schedule_is_bounded.ensures.all c.finish_laws.ensures.begins c.finish_laws.ensures.own_events c.finish_laws.ensures.own_world c.args.inputs.now c.requires.playable

pub returns-in-Err-clause-ends : goal.returns-in-Err-clause-ends
returns-in-Err-clause-ends c =
    reaches_end c.finish_laws.ensures.ends c.every_schedule_is_bounded.ensures.all c.finish_laws.ensures.begins c.finish_laws.ensures.own_events c.finish_laws.ensures.own_world c.args.inputs.now c.requires.playable

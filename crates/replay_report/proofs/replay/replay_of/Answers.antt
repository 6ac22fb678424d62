use Rattle.replay_report.specs.Plan.{plan_of}
use Rattle.replay_report.proofs.ReplayLemmas.{replayed_by, after_by, keeps_platform}
use Rattle.replay_report.proofs.replay.replay_of.Goals as goal

pub returns-in-Ok-clause-replayed : goal.returns-in-Ok-clause-replayed
returns-in-Ok-clause-replayed c =
    replayed_by (plan_of c.args.inputs.now) c.in-Ok.world.world c.in-Ok.world.events c.of_world.result c.in-Ok.ensures.world c.in-Ok.ensures.events
    c.of_world.ensures.events c.of_world.ensures.complete c.of_world.ensures.each

pub returns-in-Ok-clause-images : goal.returns-in-Ok-clause-images
returns-in-Ok-clause-images c =
    after_by (plan_of c.args.inputs.now) c.in-Ok.world.world c.of_world.result c.in-Ok.ensures.world c.of_world.ensures.each c.of_world.ensures.kind

pub of_world-requires-clause-platform : goal.of_world-requires-clause-platform
of_world-requires-clause-platform c =
    keeps_platform c.schedule_laws.ensures.platform (plan_of c.args.inputs.now) c.in-Ok.world.world c.requires.playable c.in-Ok.ensures.world

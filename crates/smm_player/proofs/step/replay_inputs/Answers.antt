use Rattle.replay_report.specs.Plan.{plan_of}
use Rattle.replay_report.proofs.ReplayLemmas.{report_is}
use Rattle.smm_player.proofs.EndLemmas.{on_ok_anyway}
use Rattle.smm_base.specs.Calls.{stays}
use Rattle.smm_player.proofs.step.replay_inputs.Goals as goal

pub returns-in-Ok-clause-images : goal.returns-in-Ok-clause-images
returns-in-Ok-clause-images g c = on_ok_anyway c.conclude.result _ (rw (← c.in-Ok.ensures.replayed) c.in-Ok.ensures.images)

pub returns-in-Ok-clause-written : goal.returns-in-Ok-clause-written
returns-in-Ok-clause-written g c = rw (← report_is (plan_of c.args.inputs.now) c.in-Ok.replay c.in-Ok.ensures.replayed) c.conclude.ensures.written

pub returns-in-Ok-clause-ends : goal.returns-in-Ok-clause-ends
returns-in-Ok-clause-ends g c = rw (← report_is (plan_of c.args.inputs.now) c.in-Ok.replay c.in-Ok.ensures.replayed) c.conclude.ensures.ends

pub returns-in-Ok-clause-saved : goal.returns-in-Ok-clause-saved
returns-in-Ok-clause-saved g c = rw (← c.in-Ok.ensures.replayed) c.conclude.ensures.saved

pub returns-in-Err-clause-store_moved : goal.returns-in-Err-clause-store_moved
returns-in-Err-clause-store_moved g c = stays

pub returns-in-Err-clause-sink_moved : goal.returns-in-Err-clause-sink_moved
returns-in-Err-clause-sink_moved g c = stays

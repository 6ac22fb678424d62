use Rattle.std.proofs.Common.{sym}
use Rattle.smm_player.specs.Traces.{trace_plan_of}
use Rattle.smm_player.proofs.CheckLemmas.{unjudged}
use Rattle.smm_player.proofs.checking.judge_inputs.Goals as goal

pub returns-in-Some-clause-cause : goal.returns-in-Some-clause-cause
returns-in-Some-clause-cause c = unjudged (trace_plan_of c.args.inputs.now) c.in-Some.error (sym c.in-Some.ensures)

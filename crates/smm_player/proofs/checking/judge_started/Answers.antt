use Rattle.std.proofs.Common.{◌∙◌, ap}
use Rattle.rendezvous_core.specs.Starts.{first_registers}
use Rattle.trace_check.specs.Judged.{first_judged}
use Rattle.trace_judge.specs.Verdicts.{verdict}
use Rattle.smm_player.specs.Traces.{trace_plan_of}
use Rattle.smm_player.proofs.CheckLemmas.{judged_stops}
use Rattle.smm_player.proofs.checking.judge_started.Goals as goal

pub returns-in-Err-judge-clause-cause : goal.returns-in-Err-judge-clause-cause
returns-in-Err-judge-clause-cause c =
    let p = trace_plan_of c.args.inputs.now in
    judged_stops p c.in-Err-judge.fault c.requires.relocatable
    (c.in-Err-judge.ensures ∙ ap (λ m. verdict p.setup.processors m c.deref.result.now) c.in-Ok.ensures.start
    ∙ ap (λ bytes. verdict p.setup.processors (first_judged p.setup (first_registers p.setup p.images) p.images) bytes) c.deref.ensures.value)

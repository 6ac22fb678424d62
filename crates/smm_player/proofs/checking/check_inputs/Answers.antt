use Rattle.smm_base.specs.Calls.{stays}
use Rattle.smm_base.specs.Faults.{Rose}
use Rattle.smm_player.specs.Due.{trace_judged}
use Rattle.smm_player.specs.Outcome.{run_line}
use Rattle.smm_player.specs.Traces.{trace_plan_of}
use Rattle.smm_player.proofs.CheckLemmas.{judging_ends, judging_stops}
use Rattle.smm_player.proofs.checking.check_inputs.Goals as goal

pub returns-in-Ok-clause-ends : goal.returns-in-Ok-clause-ends
returns-in-Ok-clause-ends g c =
    judging_ends c.write_output.result (Rose (g.K.Sink.faults c.args.out.now) (g.K.Sink.faults c.write_output.new.out)) (trace_judged (trace_plan_of c.args.inputs.now)) (g.K.Sink.written c.args.out.now) (g.K.Sink.written c.write_output.new.out) run_line
    c.in-Ok.ensures.judged c.write_output.ensures.ends

pub returns-in-Err-clause-ends : goal.returns-in-Err-clause-ends
returns-in-Err-clause-ends g c =
    judging_stops c.in-Err.fault (Rose (g.K.Sink.faults c.args.out.now) (g.K.Sink.faults c.args.out.now)) (trace_judged (trace_plan_of c.args.inputs.now)) (g.K.Sink.written c.args.out.now) run_line c.in-Err.ensures.cause

pub returns-in-Err-clause-moved : goal.returns-in-Err-clause-moved
returns-in-Err-clause-moved g c = stays

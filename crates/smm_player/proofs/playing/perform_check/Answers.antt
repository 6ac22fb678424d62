use Rattle.std.proofs.Common.{◌≡◌}
use Rattle.smm_base.specs.Calls.{stays}
use Rattle.smm_base.specs.Faults.{Rose}
use Rattle.smm_player.specs.Traces.{trace_plan_of}
use Rattle.smm_player.proofs.CheckLemmas.{check_performed, check_stops, check_wrote, check_inputs_stop, check_inputs_wrote, stays_unsaved}
use Rattle.smm_player.specs.Due.{trace_plan_due}
use Rattle.smm_player.proofs.PlayLemmas.{inputs_unsaved}
use Rattle.smm_player.proofs.playing.perform_check.Goals as goal

pub returns-in-Ok-clause-done : goal.returns-in-Ok-clause-done
returns-in-Ok-clause-done g c =
    check_performed c.check_inputs.result c.args.names.now (g.F.Store.files c.args.store.now) (g.F.Store.files c.load_trace.new.store) (g.K.Sink.written c.args.out.now) (g.K.Sink.written c.check_inputs.new.out)
    (trace_plan_of c.in-Ok.inputs) c.in-Ok.ensures.judgeable c.in-Ok.ensures.due c.check_inputs.ensures.judged c.check_inputs.ensures.written

pub returns-in-Ok-clause-cause : goal.returns-in-Ok-clause-cause
returns-in-Ok-clause-cause g c =
    check_stops c.check_inputs.result c.args.names.now (g.F.Store.files c.args.store.now) (Rose (g.F.Store.failed_loads c.args.store.now) (g.F.Store.failed_loads c.load_trace.new.store))
    (Rose (g.K.Sink.faults c.args.out.now) (g.K.Sink.faults c.check_inputs.new.out)) (Rose (g.F.Store.failed_saves c.args.store.now) (g.F.Store.failed_saves c.load_trace.new.store))
    (g.K.Sink.written c.args.out.now) (g.K.Sink.written c.check_inputs.new.out) (trace_plan_of c.in-Ok.inputs) c.in-Ok.ensures.due c.check_inputs.ensures.ends

pub returns-in-Ok-clause-wrote : goal.returns-in-Ok-clause-wrote
returns-in-Ok-clause-wrote g c =
    check_wrote c.check_inputs.result c.args.names.now (g.F.Store.files c.args.store.now) (Rose (g.K.Sink.faults c.args.out.now) (g.K.Sink.faults c.check_inputs.new.out))
    (g.K.Sink.written c.args.out.now) (g.K.Sink.written c.check_inputs.new.out) (trace_plan_of c.in-Ok.inputs) c.in-Ok.ensures.due c.check_inputs.ensures.ends

pub returns-in-Err-clause-cause : goal.returns-in-Err-clause-cause
returns-in-Err-clause-cause g c =
    check_inputs_stop c.args.names.now (g.F.Store.files c.args.store.now) (Rose (g.F.Store.failed_loads c.args.store.now) (g.F.Store.failed_loads c.load_trace.new.store))
    (Rose (g.K.Sink.faults c.args.out.now) (g.K.Sink.faults c.args.out.now)) (Rose (g.F.Store.failed_saves c.args.store.now) (g.F.Store.failed_saves c.load_trace.new.store)) c.in-Err.fault c.in-Err.ensures.cause

pub returns-in-Err-clause-wrote : goal.returns-in-Err-clause-wrote
returns-in-Err-clause-wrote g c =
    check_inputs_wrote c.args.names.now (Rose (g.F.Store.failed_loads c.args.store.now) (g.F.Store.failed_loads c.load_trace.new.store)) (g.F.Store.files c.args.store.now) (g.K.Sink.written c.args.out.now) c.in-Err.fault c.in-Err.ensures.cause

pub returns-in-Err-clause-sink_moved : goal.returns-in-Err-clause-sink_moved
returns-in-Err-clause-sink_moved g c = stays

pub returns-in-Ok-clause-unsaved : goal.returns-in-Ok-clause-unsaved
returns-in-Ok-clause-unsaved g c = stays_unsaved c.check_inputs.result _ c.in-Ok.ensures.files_stay

pub returns-in-Err-clause-unsaved : goal.returns-in-Err-clause-unsaved
returns-in-Err-clause-unsaved g c =
    inputs_unsaved (trace_plan_due c.args.names.now) (Rose (g.F.Store.failed_loads c.args.store.now) (g.F.Store.failed_loads c.load_trace.new.store)) (g.F.Store.files c.args.store.now)
    (g.F.Store.files c.load_trace.new.store ≡ g.F.Store.files c.args.store.now) c.in-Err.fault c.in-Err.ensures.cause c.in-Err.ensures.files_stay

use Rattle.std.proofs.Common.{◌≡◌, ◌∙◌, Option, subst}
use Rattle.smm_base.specs.Calls.{leads_on, rose_later, stays}
use Rattle.smm_base.specs.Store.{FileMap, ChangesOnly}
use Rattle.smm_base.specs.Faults.{Rose}
use Rattle.replay_report.specs.Plan.{plan_of}
use Rattle.replay_report.specs.Replays.{report_of}
use Rattle.smm_player.specs.Due.{plan_due}
use Rattle.smm_command.specs.declared.command.Command.TheVariants as command
use Rattle.smm_player.proofs.PlayLemmas.{inputs_wrote, step_stops, inputs_unsaved, inputs_others, replay_stops, step_wrote, step_performed, unsaved_from}
use Rattle.smm_player.proofs.playing.perform_step.Goals as goal

pub returns-in-Ok-clause-done : goal.returns-in-Ok-clause-done
returns-in-Ok-clause-done g c =
    step_performed c.replay_inputs.result c.args.names.now (g.F.Store.files c.args.store.now) (g.F.Store.files c.replay_inputs.new.store) (g.K.Sink.written c.args.out.now) (g.K.Sink.written c.replay_inputs.new.out)
    (plan_of c.in-Ok.inputs) c.in-Ok.ensures.playable c.in-Ok.ensures.due c.replay_inputs.ensures.images c.replay_inputs.ensures.written c.replay_inputs.ensures.saved

pub returns-in-Ok-clause-cause : goal.returns-in-Ok-clause-cause
returns-in-Ok-clause-cause g c =
    replay_stops c.replay_inputs.result (command.Step c.args.names.now) (g.F.Store.files c.args.store.now)
    (Rose (g.F.Store.failed_loads c.args.store.now) (g.F.Store.failed_loads c.replay_inputs.new.store))
    (Rose (g.K.Sink.faults c.args.out.now) (g.K.Sink.faults c.replay_inputs.new.out))
    (Rose (g.F.Store.failed_saves c.load_inputs.new.store) (g.F.Store.failed_saves c.replay_inputs.new.store))
    (Rose (g.F.Store.failed_saves c.args.store.now) (g.F.Store.failed_saves c.replay_inputs.new.store))
    (λ rose. rose_later g.F.Store.failed_saves g.met.F.Store.saves_never_fall c.args.store.now c.load_inputs.new.store c.replay_inputs.new.store c.in-Ok.ensures.moved rose)
    (g.K.Sink.written c.args.out.now) (g.K.Sink.written c.replay_inputs.new.out) (report_of (plan_of c.in-Ok.inputs)) c.replay_inputs.ensures.ends

pub returns-in-Ok-clause-wrote : goal.returns-in-Ok-clause-wrote
returns-in-Ok-clause-wrote g c =
    step_wrote c.replay_inputs.result c.args.names.now (g.F.Store.files c.args.store.now)
    (Rose (g.K.Sink.faults c.args.out.now) (g.K.Sink.faults c.replay_inputs.new.out))
    (Rose (g.F.Store.failed_saves c.load_inputs.new.store) (g.F.Store.failed_saves c.replay_inputs.new.store))
    (g.K.Sink.written c.args.out.now) (g.K.Sink.written c.replay_inputs.new.out) (plan_of c.in-Ok.inputs) c.in-Ok.ensures.due c.replay_inputs.ensures.ends

pub returns-in-Ok-clause-unsaved : goal.returns-in-Ok-clause-unsaved
returns-in-Ok-clause-unsaved g c = unsaved_from c.replay_inputs.result (g.F.Store.files c.replay_inputs.new.store ≡ g.F.Store.files c.load_inputs.new.store) (g.F.Store.files c.replay_inputs.new.store ≡ g.F.Store.files c.args.store.now) (λ stay. stay ∙ c.in-Ok.ensures.files_stay) c.replay_inputs.ensures.unsaved

pub returns-in-Ok-clause-others_stay : goal.returns-in-Ok-clause-others_stay
returns-in-Ok-clause-others_stay g c =
    let P : Option FileMap → Type 0 = λ files. ChangesOnly c.args.names.now.after files (g.F.Store.files c.replay_inputs.new.store) in
    subst P c.in-Ok.ensures.files_stay c.replay_inputs.ensures.others_stay

pub returns-in-Ok-clause-store_moved : goal.returns-in-Ok-clause-store_moved
returns-in-Ok-clause-store_moved g c = leads_on c.in-Ok.ensures.moved c.replay_inputs.ensures.store_moved

pub returns-in-Err-clause-cause : goal.returns-in-Err-clause-cause
returns-in-Err-clause-cause g c = step_stops c.args.names.now (g.F.Store.files c.args.store.now) (Rose (g.F.Store.failed_loads c.args.store.now) (g.F.Store.failed_loads c.load_inputs.new.store))
    (Rose (g.K.Sink.faults c.args.out.now) (g.K.Sink.faults c.args.out.now)) (Rose (g.F.Store.failed_saves c.args.store.now) (g.F.Store.failed_saves c.load_inputs.new.store)) c.in-Err.fault c.in-Err.ensures.cause

pub returns-in-Err-clause-wrote : goal.returns-in-Err-clause-wrote
returns-in-Err-clause-wrote g c = inputs_wrote (command.Step c.args.names.now) c.args.names.now (Rose (g.F.Store.failed_loads c.args.store.now) (g.F.Store.failed_loads c.load_inputs.new.store)) (g.F.Store.files c.args.store.now) (g.K.Sink.written c.args.out.now) c.in-Err.fault c.in-Err.ensures.cause

pub returns-in-Err-clause-unsaved : goal.returns-in-Err-clause-unsaved
returns-in-Err-clause-unsaved g c = inputs_unsaved (plan_due c.args.names.now) (Rose (g.F.Store.failed_loads c.args.store.now) (g.F.Store.failed_loads c.load_inputs.new.store)) (g.F.Store.files c.args.store.now) (g.F.Store.files c.load_inputs.new.store ≡ g.F.Store.files c.args.store.now) c.in-Err.fault c.in-Err.ensures.cause c.in-Err.ensures.files_stay

pub returns-in-Err-clause-others_stay : goal.returns-in-Err-clause-others_stay
returns-in-Err-clause-others_stay g c = inputs_others c.args.names.now.after (g.F.Store.files c.args.store.now) (g.F.Store.files c.load_inputs.new.store) c.in-Err.ensures.files_stay

pub returns-in-Err-clause-sink_moved : goal.returns-in-Err-clause-sink_moved
returns-in-Err-clause-sink_moved g c = stays

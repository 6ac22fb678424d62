use Rattle.std.proofs.Common.{sym}
use Rattle.smm_base.specs.Faults.{Rose}
use Rattle.cpu_table.specs.Data.{data_of}
use Rattle.smm_player.specs.Due.{schedule_due, started}
use Rattle.replay_report.specs.Plan.{plan}
use Rattle.smm_player.proofs.LoadLemmas.{plan_due_with, not_relocated, stop_first}
use Rattle.smm_player.proofs.load.load_with.Goals as goal

pub returns-in-None-clause-due : goal.returns-in-None-clause-due
returns-in-None-clause-due g c = plan_due_with c.args.names.now (data_of c.args.setup) c.args.images.items (g.F.Store.files c.args.store.now) c.in-Ok.actors.items (sym c.in-None.ensures) c.in-Ok.ensures.due

pub returns-in-Some-clause-cause : goal.returns-in-Some-clause-cause
returns-in-Some-clause-cause g c = not_relocated c.args.names.now (data_of c.args.setup) c.args.images.items (g.F.Store.files c.args.store.now) (Rose (g.F.Store.failed_loads c.args.store.now) (g.F.Store.failed_loads c.load_schedule.new.store)) c.in-Ok.actors.items c.in-Some.error (sym c.in-Some.ensures) c.in-Ok.ensures.due

pub returns-in-Err-clause-cause : goal.returns-in-Err-clause-cause
returns-in-Err-clause-cause g c =
    stop_first (schedule_due c.args.names.now.schedule (data_of c.args.setup)) (λ actors _. started (plan (data_of c.args.setup) c.args.images.items actors)) (g.F.Store.files c.args.store.now)
    (Rose (g.F.Store.failed_loads c.args.store.now) (g.F.Store.failed_loads c.load_schedule.new.store)) c.in-Err.fault c.in-Err.ensures.cause

use Rattle.smm_base.specs.Faults.{Rose}
use Rattle.smm_player.specs.Due.{loaded, schedule_limit, schedule_found}
use Rattle.smm_player.proofs.LoadLemmas.{file_found, file_stops, stop_first}
use Rattle.smm_player.proofs.load.load_schedule.Goals as goal

pub returns-in-Ok-clause-due : goal.returns-in-Ok-clause-due
returns-in-Ok-clause-due g c =
    file_found (λ actors. actors.items) schedule_limit c.args.name.now (schedule_found c.args.setup.now.processors) (g.F.Store.files c.args.store.now) c.in-Ok.bytes.items c.actors_of.result c.in-Ok.ensures.due (rw (← c.deref.ensures.value) c.actors_of.ensures.found)

pub returns-in-Ok-clause-cause : goal.returns-in-Ok-clause-cause
returns-in-Ok-clause-cause g c =
    file_stops schedule_limit c.args.name.now (schedule_found c.args.setup.now.processors) (g.F.Store.files c.args.store.now) (Rose (g.F.Store.failed_loads c.args.store.now) (g.F.Store.failed_loads c.load_file.new.store)) c.in-Ok.bytes.items c.actors_of.result c.in-Ok.ensures.due (rw (← c.deref.ensures.value) c.actors_of.ensures.cause)

pub returns-in-Err-clause-cause : goal.returns-in-Err-clause-cause
returns-in-Err-clause-cause g c =
    stop_first (λ held. loaded schedule_limit c.args.name.now (held c.args.name.now)) (λ bytes _. schedule_found c.args.setup.now.processors bytes) (g.F.Store.files c.args.store.now) (Rose (g.F.Store.failed_loads c.args.store.now) (g.F.Store.failed_loads c.load_file.new.store)) c.in-Err.fault c.in-Err.ensures.cause

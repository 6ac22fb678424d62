use Rattle.cpu_table.specs.Data.{data_of}
use Rattle.smm_base.specs.Faults.{Rose}
use Rattle.smm_player.specs.Due.{loaded, platform_limit, platform_found}
use Rattle.smm_player.proofs.LoadLemmas.{file_found, file_stops, stop_first}
use Rattle.smm_player.proofs.load.load_platform.Goals as goal

pub returns-in-Ok-clause-due : goal.returns-in-Ok-clause-due
returns-in-Ok-clause-due g c =
    file_found (λ setup. data_of setup) platform_limit c.args.name.now platform_found (g.F.Store.files c.args.store.now) c.in-Ok.bytes.items c.setup_of.result c.in-Ok.ensures.due (rw (← c.deref.ensures.value) c.setup_of.ensures.found)

pub returns-in-Ok-clause-cause : goal.returns-in-Ok-clause-cause
returns-in-Ok-clause-cause g c =
    file_stops platform_limit c.args.name.now platform_found (g.F.Store.files c.args.store.now) (Rose (g.F.Store.failed_loads c.args.store.now) (g.F.Store.failed_loads c.load_file.new.store)) c.in-Ok.bytes.items c.setup_of.result c.in-Ok.ensures.due (rw (← c.deref.ensures.value) c.setup_of.ensures.cause)

pub returns-in-Err-clause-cause : goal.returns-in-Err-clause-cause
returns-in-Err-clause-cause g c =
    stop_first (λ held. loaded platform_limit c.args.name.now (held c.args.name.now)) (λ bytes _. platform_found bytes) (g.F.Store.files c.args.store.now) (Rose (g.F.Store.failed_loads c.args.store.now) (g.F.Store.failed_loads c.load_file.new.store)) c.in-Err.fault c.in-Err.ensures.cause

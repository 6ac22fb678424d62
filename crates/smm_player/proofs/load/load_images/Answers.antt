use Rattle.cpu_table.specs.Data.{data_of}
use Rattle.smm_base.specs.Faults.{Rose}
use Rattle.smm_player.specs.Due.{loaded, images_limit, images_found}
use Rattle.smm_player.proofs.ImageLemmas.{images_serve}
use Rattle.smm_player.proofs.LoadLemmas.{file_found, file_stops, stop_first}
use Rattle.smm_player.proofs.load.load_images.Goals as goal

pub returns-in-Ok-clause-serve : goal.returns-in-Ok-clause-serve
returns-in-Ok-clause-serve g c = images_serve (λ images. images.items) (data_of c.args.setup.now) c.images_of.result c.images_of.ensures.count c.images_of.ensures.kind

pub returns-in-Ok-clause-due : goal.returns-in-Ok-clause-due
returns-in-Ok-clause-due g c =
    file_found (λ images. images.items) images_limit c.args.name.now (images_found c.args.setup.now.kind c.args.setup.now.processors) (g.F.Store.files c.args.store.now) c.in-Ok.bytes.items c.images_of.result c.in-Ok.ensures.due (rw (← c.deref.ensures.value) c.images_of.ensures.found)

pub returns-in-Ok-clause-cause : goal.returns-in-Ok-clause-cause
returns-in-Ok-clause-cause g c =
    file_stops images_limit c.args.name.now (images_found c.args.setup.now.kind c.args.setup.now.processors) (g.F.Store.files c.args.store.now) (Rose (g.F.Store.failed_loads c.args.store.now) (g.F.Store.failed_loads c.load_file.new.store)) c.in-Ok.bytes.items c.images_of.result c.in-Ok.ensures.due (rw (← c.deref.ensures.value) c.images_of.ensures.cause)

pub returns-in-Err-clause-cause : goal.returns-in-Err-clause-cause
returns-in-Err-clause-cause g c =
    stop_first (λ held. loaded images_limit c.args.name.now (held c.args.name.now)) (λ bytes _. images_found c.args.setup.now.kind c.args.setup.now.processors bytes) (g.F.Store.files c.args.store.now) (Rose (g.F.Store.failed_loads c.args.store.now) (g.F.Store.failed_loads c.load_file.new.store)) c.in-Err.fault c.in-Err.ensures.cause

use Rattle.smm_base.specs.Calls.{leads_on, rose_later}
use Rattle.smm_base.specs.Faults.{Rose}
use Rattle.cpu_table.specs.Data.{data_of}
use Rattle.smm_player.specs.Due.{images_limit, images_found, images_due, trace_with}
use Rattle.smm_player.specs.Traces.{trace_plan_of}
use Rattle.smm_player.proofs.LoadLemmas.{file_steady, then_found, then_stops, stop_first}
use Rattle.smm_player.proofs.checking.load_trace_on.Goals as goal

pub returns-in-Ok-clause-due : goal.returns-in-Ok-clause-due
returns-in-Ok-clause-due g c = then_found (λ inputs. trace_plan_of inputs) (images_due c.args.names.now.images (data_of c.args.setup)) (trace_with c.args.names.now (data_of c.args.setup)) (g.F.Store.files c.args.store.now) (g.F.Store.files c.load_images.new.store) c.in-Ok.images.items c.load_trace_with.result c.in-Ok.ensures.files_stay c.in-Ok.ensures.due c.load_trace_with.ensures.due

pub returns-in-Ok-clause-cause : goal.returns-in-Ok-clause-cause
returns-in-Ok-clause-cause g c =
    then_stops (images_due c.args.names.now.images (data_of c.args.setup)) (trace_with c.args.names.now (data_of c.args.setup)) (file_steady images_limit c.args.names.now.images (images_found c.args.setup.kind c.args.setup.processors)) (g.F.Store.files c.args.store.now) (g.F.Store.files c.load_images.new.store)
    (Rose (g.F.Store.failed_loads c.load_images.new.store) (g.F.Store.failed_loads c.load_trace_with.new.store))
    (Rose (g.F.Store.failed_loads c.args.store.now) (g.F.Store.failed_loads c.load_trace_with.new.store))
    c.in-Ok.images.items c.load_trace_with.result c.in-Ok.ensures.files_stay
    (λ rose. rose_later g.F.Store.failed_loads g.met.F.Store.loads_never_fall c.args.store.now c.load_images.new.store c.load_trace_with.new.store c.in-Ok.ensures.moved rose) c.in-Ok.ensures.due c.load_trace_with.ensures.cause

pub returns-in-Ok-clause-moved : goal.returns-in-Ok-clause-moved
returns-in-Ok-clause-moved g c = leads_on c.in-Ok.ensures.moved c.load_trace_with.ensures.moved

pub returns-in-Err-clause-cause : goal.returns-in-Err-clause-cause
returns-in-Err-clause-cause g c = stop_first (images_due c.args.names.now.images (data_of c.args.setup)) (trace_with c.args.names.now (data_of c.args.setup)) (g.F.Store.files c.args.store.now) (Rose (g.F.Store.failed_loads c.args.store.now) (g.F.Store.failed_loads c.load_images.new.store)) c.in-Err.fault c.in-Err.ensures.cause

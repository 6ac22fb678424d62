use Rattle.smm_base.specs.Calls.{leads_on, rose_later}
use Rattle.smm_base.specs.Faults.{Rose}
use Rattle.cpu_table.specs.Data.{data_of}
use Rattle.smm_player.specs.Due.{platform_limit, platform_found, platform_due, trace_on}
use Rattle.smm_player.specs.Traces.{trace_plan_of}
use Rattle.smm_player.proofs.LoadLemmas.{file_steady, then_found, then_stops, stop_first}
use Rattle.smm_player.proofs.checking.load_trace.Goals as goal

pub returns-in-Ok-clause-due : goal.returns-in-Ok-clause-due
returns-in-Ok-clause-due g c = then_found (λ inputs. trace_plan_of inputs) (platform_due c.args.names.now.platform) (trace_on c.args.names.now) (g.F.Store.files c.args.store.now) (g.F.Store.files c.load_platform.new.store) (data_of c.in-Ok.setup) c.load_trace_on.result c.in-Ok.ensures.files_stay c.in-Ok.ensures.due c.load_trace_on.ensures.due

pub returns-in-Ok-clause-cause : goal.returns-in-Ok-clause-cause
returns-in-Ok-clause-cause g c =
    then_stops (platform_due c.args.names.now.platform) (trace_on c.args.names.now) (file_steady platform_limit c.args.names.now.platform platform_found) (g.F.Store.files c.args.store.now) (g.F.Store.files c.load_platform.new.store)
    (Rose (g.F.Store.failed_loads c.load_platform.new.store) (g.F.Store.failed_loads c.load_trace_on.new.store))
    (Rose (g.F.Store.failed_loads c.args.store.now) (g.F.Store.failed_loads c.load_trace_on.new.store))
    (data_of c.in-Ok.setup) c.load_trace_on.result c.in-Ok.ensures.files_stay
    (λ rose. rose_later g.F.Store.failed_loads g.met.F.Store.loads_never_fall c.args.store.now c.load_platform.new.store c.load_trace_on.new.store c.in-Ok.ensures.moved rose) c.in-Ok.ensures.due c.load_trace_on.ensures.cause

pub returns-in-Ok-clause-moved : goal.returns-in-Ok-clause-moved
returns-in-Ok-clause-moved g c = leads_on c.in-Ok.ensures.moved c.load_trace_on.ensures.moved

pub returns-in-Err-clause-cause : goal.returns-in-Err-clause-cause
returns-in-Err-clause-cause g c = stop_first (platform_due c.args.names.now.platform) (trace_on c.args.names.now) (g.F.Store.files c.args.store.now) (Rose (g.F.Store.failed_loads c.args.store.now) (g.F.Store.failed_loads c.load_platform.new.store)) c.in-Err.fault c.in-Err.ensures.cause

use Rattle.std.proofs.Common.{Ok}
use Rattle.smm_base.specs.Faults.{Rose}
use Rattle.cpu_table.specs.Data.{data_of}
use Rattle.smm_player.specs.Due.{trace_due}
use Rattle.smm_player.specs.Traces.{trace_plan}
use Rattle.smm_player.proofs.CheckLemmas.{trace_due_with}
use Rattle.smm_player.proofs.LoadLemmas.{stop_first}
use Rattle.smm_player.proofs.checking.load_trace_with.Goals as goal

pub returns-in-Ok-clause-due : goal.returns-in-Ok-clause-due
returns-in-Ok-clause-due g c = trace_due_with c.args.names.now (data_of c.args.setup) c.args.images.items (g.F.Store.files c.args.store.now) c.in-Ok.bytes.items c.in-Ok.ensures.due

pub returns-in-Err-clause-cause : goal.returns-in-Err-clause-cause
returns-in-Err-clause-cause g c =
    stop_first (trace_due c.args.names.now.trace) (λ bytes _. Ok (trace_plan (data_of c.args.setup) c.args.images.items bytes)) (g.F.Store.files c.args.store.now)
    (Rose (g.F.Store.failed_loads c.args.store.now) (g.F.Store.failed_loads c.load_file.new.store)) c.in-Err.fault c.in-Err.ensures.cause

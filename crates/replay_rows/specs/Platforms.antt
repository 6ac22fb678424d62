-- The platforms of the worked replays: two processors, one look a round.
use Rattle.std.specs.Prelude.{[], ◌∷◌, Some, None, codes}
use Rattle.smm_base.specs.declared.kinds.HandlerType.TheVariants.{Root}
use Rattle.smm_base.specs.declared.kinds.MapKind.TheVariants.{Intel64}
use Rattle.smm_base.specs.declared.kinds.Policy.TheVariants.{Elected, Fixed}
use Rattle.smm_base.specs.declared.status.Status.TheVariants.{Success}
use Rattle.cpu_table.specs.Data.{SetupData}
use Rattle.cpu_table.specs.declared.handlers.Act.TheVariants.{Get}
use Rattle.cpu_table.specs.declared.handlers.HandlerDef.{HandlerDef}
use Rattle.cpu_table.specs.declared.handlers.OpDef.TheVariants as op
use Rattle.cpu_table.specs.declared.handlers.OpDef.{OpDef}
use Rattle.cpu_table.specs.declared.handlers.Operand.TheVariants.{Number, Variable}
use Rattle.cpu_table.specs.declared.handlers.ProcedureDef.{ProcedureDef}
use Rattle.cpu_table.specs.declared.setup.Mode.TheVariants.{Traditional}
use Rattle.cpu_table.specs.declared.waves.Arrival.{Arrival}
use Rattle.cpu_table.specs.declared.waves.Arrival.TheVariants.{Prompt, Delayed, Absent}
use Rattle.cpu_table.specs.declared.waves.Wave.{Wave}

-- a wave that finds the two processors so, and in whose session the root handlers are called
abbrev pub wave : Arrival → Arrival → Wave
wave first second = record { status = first ∷ second ∷ []; manage = Root ∷ [] }

-- one wave for which both come at once, and no handlers
abbrev pub plain : SetupData
plain =
    record {
      processors = 2;
      kind = Intel64;
      policy = Elected;
      mode = Traditional;
      t1 = 1;
      t2 = 1;
      visits = 3;
      ops = 64;
      ids = 0 ∷ 1 ∷ [];
      smram = None;
      waves = wave Prompt Prompt ∷ [];
      handlers = [];
      procedures = [];
      causes = [];
    }

-- two such waves
abbrev pub two_waves : SetupData
two_waves = record plain { waves = wave Prompt Prompt ∷ wave Prompt Prompt ∷ [] }

-- processor 0 is the BSP of each session, and comes only when it is signalled
abbrev pub fixed_delayed : SetupData
fixed_delayed = record plain { policy = Fixed 0; waves = wave Delayed Prompt ∷ [] }

-- processor 0 is the BSP of each session, and stays away
abbrev pub fixed_absent : SetupData
fixed_absent = record plain { policy = Fixed 0; waves = wave Absent Prompt ∷ [] }

-- the procedure that gets PROCESSOR_ID, register 514 of the service, which is 0 for every procedure
abbrev pub get_id : ProcedureDef
get_id = record { name = codes "id"; act = Get; reg = 514 }

-- it is launched on processor 1, and its number goes to the first variable
abbrev pub launch : OpDef
launch = op.Launch 1 (codes "id") (Number 0) 0

-- a root handler that launches it twice, waits for the first, and launches it again
abbrev pub launching : HandlerDef
launching = record { name = codes "h0"; kind = Some Root; answer = Success; ops = launch ∷ launch ∷ op.Wait (Variable 0) 1 ∷ launch ∷ [] }

abbrev pub with_jobs : SetupData
with_jobs = record plain { handlers = launching ∷ []; procedures = get_id ∷ [] }

-- Why a job isn't given to a processor.
use Rattle.std.specs.Prelude.{ℕ, ◌&&◌, Bool, true, false, if◌then◌else◌, List, Option, Some, None, is_none}
use Rattle.cpu_table.specs.Data.{SetupData}
use Rattle.cpu_table.specs.declared.handlers.OpDef.{OpDef}
use Rattle.cpu_table.specs.declared.handlers.OpDef.TheVariants as op
use Rattle.sync_words.specs.declared.label.StartRefusal.{StartRefusal}
use Rattle.sync_words.specs.declared.label.StartRefusal.TheVariants.{Busy, Absent}
use Rattle.handler_ops.specs.declared.desk.Job.{Job}
use Rattle.serving_place.specs.Serving.{Serving}
use Rattle.serving_place.specs.Operations.{procedure_place}
use Rattle.serving_place.specs.Beginning.{program_of}
use Rattle.serving_place.specs.Due.{Due, Doing, due}
use Rattle.serving_place.specs.Setting.{first_cause}
use Rattle.rendezvous_machine.specs.Machines.{Machine, member, is_here}
use Rattle.rendezvous_machine.specs.Listed.{place_of}
use Rattle.rendezvous_machine.specs.Services.{setting}

abbrev pub is_open : Option Job → Bool
is_open None = false
is_open (Some job) = is_none job.done

-- A launch doesn't wait for the processor's job; and the processor must have reported.
abbrev pub later_cause : Machine → Bool → ℕ → Option StartRefusal
later_cause m is_launch c =
    if is_launch && is_open (member m c).job then Some Busy else (if is_here (member m c).phase then None else Some Absent)

abbrev pub or_else : Option StartRefusal → Option StartRefusal → Option StartRefusal
or_else None later = later
or_else (Some cause) later = Some cause

-- The first cause that holds: the number is no processor's, or the boot processor's own; the platform has no such
-- procedure; no token is left for a launch; the processor's job is open; it isn't there.
abbrev pub cause_for : SetupData → Machine → ℕ → Serving → Bool → ℕ → List ℕ → Option StartRefusal
cause_for d m bsp s is_launch c name =
    or_else (first_cause (setting d bsp) s is_launch c (procedure_place d.procedures name)) (later_cause m is_launch c)

abbrev pub refusal_of : SetupData → Machine → ℕ → Serving → OpDef → Option StartRefusal
refusal_of d m bsp s (op.Start cpu name arg into) = cause_for d m bsp s false cpu name
refusal_of d m bsp s (op.Launch cpu name arg into) = cause_for d m bsp s true cpu name
refusal_of d m bsp s _ = None

abbrev pub refusal_due : SetupData → Machine → ℕ → Serving → Due → Option StartRefusal
refusal_due d m bsp s (Doing levels operation) = refusal_of d m bsp s operation
refusal_due d m bsp s _ = None

-- why the operation at which serving stands gives no job, where it is to give one
abbrev pub refusal : SetupData → Machine → ℕ → Option StartRefusal
refusal d m bsp = refusal_due d m bsp (place_of d m).state (due (program_of d) (place_of d m))

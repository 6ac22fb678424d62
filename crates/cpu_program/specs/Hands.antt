-- What changes hands: how a processor gives and receives.
use Rattle.std.specs.Prelude.{ℕ, ◌==◌, ◌&&◌, Bool, true, false, if◌then◌else◌, slice_set, Option, Some, None}
use Rattle.smm_base.specs.declared.kinds.MapKind.{MapKind}
use Rattle.smm_base.specs.declared.kinds.MapKind.TheVariants.{Ia32, Intel64}
use Rattle.cpu_table.specs.Data.{SetupData}
use Rattle.sync_words.specs.declared.row.Row.TheVariants as row
use Rattle.handler_ops.specs.declared.desk.Desk.{Desk}
use Rattle.handler_ops.specs.declared.desk.Job.{Job}
use Rattle.handler_ops.specs.Course.{desk_of}
use Rattle.handler_ops.specs.Procedures.{job_on, desk_with}
use Rattle.handler_ops.specs.Sessions.{Session}
use Rattle.cpu_program.specs.declared.cargo.Cargo.TheVariants.{Desk as DeskCargo, Chair as ChairCargo}
use Rattle.cpu_program.specs.Actors.{Processor, Cargo, Part, Between}
use Rattle.cpu_program.specs.Processors.{can_run}

abbrev pub is_kind : MapKind → MapKind → Bool
is_kind Ia32 Ia32 = true
is_kind Intel64 Intel64 = true
is_kind _ _ = false

-- GIVING

-- a desk whose job is still to be run is given back with the job run
abbrev pub run_on : SetupData → Option Job → Desk → Desk
run_on d None desk = desk
run_on d (Some job) desk = if can_run d job then desk_with job (job_on d.procedures job desk.image) else desk

abbrev pub job_run : SetupData → Desk → Desk
job_run d desk = run_on d desk.job desk

-- an AP runs its job as it gives its desk back
abbrev pub is_giving_back : Part → Bool
is_giving_back (Between row.GiveDeskBack) = true
is_giving_back _ = false

abbrev pub desk_to_give : Bool → SetupData → Desk → Desk
desk_to_give true d desk = job_run d desk
desk_to_give false d desk = desk

abbrev pub desk_given : Processor → Option Desk → Option Cargo
desk_given p None = None
desk_given p (Some desk) = Some (DeskCargo (desk_to_give (is_giving_back p.part) p.setup desk))

abbrev pub chair_given : Option Session → Option Cargo
chair_given None = None
chair_given (Some s) = Some (ChairCargo s)

-- the thing with this number: the chair has the number of processors, a desk that of its processor
abbrev pub thing_given : Processor → ℕ → Option Cargo
thing_given p k = if k == p.setup.processors then chair_given p.chair else desk_given p (desk_of p.held k)

-- the job of a desk that is given back, for the event to tell of
abbrev pub job_given : Option Cargo → Option Job
job_given (Some (DeskCargo desk)) = desk.job
job_given _ = None

abbrev pub ran_after : Bool → Processor → ℕ → Option Job
ran_after true p k = job_given (desk_given p (desk_of p.held k))
ran_after false p k = p.ran

-- the processor after it gave
abbrev pub desk_left : Processor → ℕ → Processor
desk_left p k = record p { held = slice_set p.held k None; ran = ran_after (is_giving_back p.part) p k }

abbrev pub after_giving : Processor → ℕ → Processor
after_giving p k = if k == p.setup.processors then record p { chair = None } else desk_left p k

-- RECEIVING

-- It receives a desk of an image of the platform's kind, and as the chair a server of the platform's processors. What else comes to it,
-- as nothing does, is dropped.
abbrev pub desk_received : Processor → ℕ → Desk → Processor
desk_received p k desk = if is_kind desk.image.kind p.setup.kind then record p { held = slice_set p.held k (Some desk) } else p

abbrev pub chair_received : Processor → ℕ → Session → Processor
chair_received p k s =
    if (k == p.setup.processors && s.setup.processors == p.setup.processors) then record p { chair = Some s } else p

abbrev pub after_receiving : Processor → ℕ → Cargo → Processor
after_receiving p k (DeskCargo desk) = desk_received p k desk
after_receiving p k (ChairCargo s) = chair_received p k s

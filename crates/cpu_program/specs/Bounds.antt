-- What a program keeps between its events: each number, list and image of its actor is one of the platform's.
use Rattle.std.specs.Prelude.{ℕ, ◌≡◌, ◌<◌, ◌≤◌, true, length, Option, Some, None, IfSome}
use Rattle.smm_base.specs.declared.kinds.MapKind.{MapKind}
use Rattle.save_state_map.specs.Images.{ImageContents}
use Rattle.cpu_regs.specs.Registers.{Registers}
use Rattle.sync_words.specs.declared.row.Row.{Row}
use Rattle.sync_words.specs.declared.row.Row.TheVariants as row
use Rattle.arrival.specs.Entry as entry
use Rattle.arrival.specs.Gather as gather
use Rattle.arrival.specs.Report as report
use Rattle.exit_handshake.specs.Close as close
use Rattle.exit_handshake.specs.Exit as exit
use Rattle.cpu_table.specs.Data.{SetupData}
use Rattle.handler_ops.specs.declared.desk.Desk.{Desk}
use Rattle.handler_ops.specs.Course.{Desks, desk_of}
use Rattle.handler_ops.specs.Sessions.{Session}
use Rattle.handler_ops.specs.Answering.{HasTold}
use Rattle.chipset.specs.Bounds.{IsPlatform, IsChipset}
use Rattle.cpu_program.specs.declared.processor.Processor.{Processor as ProcessorFields}
use Rattle.cpu_program.specs.Actors.{Processor, Actor, OfProcessor, OfChipset, Part, Between, Entering, Gathering, Closing, Serving, Exiting, Reporting, Off}
use Rattle.cpu_program.specs.Processors.{can_serve}

-- a part of the platform's processors that goes on
pub record GoesOn (processors n : ℕ) (left : Option Row) : Type 0 where
  pub same : n ≡ processors
  pub here : left ≡ None

-- the rows between the parts: a visit is to begin only where one is left, and a job is collected from a processor of the platform
abbrev pub IsRow : Row → SetupData → ℕ → Type 0
IsRow row.AwaitSmi d visits = visits < d.visits
IsRow row.SwitchOff d visits = Unit {0}
IsRow row.MarkInside d visits = Unit {0}
IsRow row.TakeSource d visits = Unit {0}
IsRow (row.CollectJob cpu) d visits = cpu < d.processors
IsRow row.LeaveInside d visits = Unit {0}
IsRow row.AwaitRelease d visits = Unit {0}
IsRow row.GiveDeskBack d visits = Unit {0}
IsRow row.TellReleased d visits = Unit {0}
IsRow row.AwaitDismissal d visits = Unit {0}
IsRow row.WithdrawReport d visits = Unit {0}
IsRow row.TellDismissed d visits = Unit {0}
IsRow row.AwaitSessionEnd d visits = Unit {0}
IsRow row.ClearSignal d visits = Unit {0}
IsRow _ d visits = ⊥

-- the session is there, and has told a need, which names a processor of the platform and a desk that is held
abbrev pub IsServing : ℕ → Option Session → Desks → Type 0
IsServing processors None held = ⊥
IsServing processors (Some s) held = HasTold s × (can_serve processors s.told held ≡ true)

abbrev pub IsPart : Part → SetupData → ℕ → Option Session → Desks → Type 0
IsPart (Between r) d visits chair held = IsRow r d visits
IsPart (Entering e) d visits chair held = entry.IsEntry e × GoesOn d.processors e.processors (entry.left_of e.row)
IsPart (Gathering g) d visits chair held = gather.IsGather g × GoesOn d.processors g.processors (gather.left_of g.row)
IsPart (Closing c) d visits chair held = close.IsClose c × GoesOn d.processors c.processors (close.left_of c.row)
IsPart Serving d visits chair held = IsServing d.processors chair held
IsPart (Exiting e) d visits chair held = exit.IsExit e × GoesOn d.processors e.processors (exit.left_of e.row)
IsPart (Reporting r) d visits chair held = report.IsReport r × GoesOn d.processors r.processors (report.left_of r.row)
IsPart Off d visits chair held = Unit {0}

-- the image on a desk is of this kind
abbrev pub IsOfKind : MapKind → Desk → Type 0
IsOfKind kind desk = desk.image.kind ≡ kind

-- each desk that is held has an image of the platform's kind
abbrev pub AreOfKind : MapKind → Desks → Type 0
AreOfKind kind held = (c : ℕ) → IfSome (desk_of held c) (IsOfKind kind)

abbrev pub HasProcessors : ℕ → Session → Type 0
HasProcessors n s = s.setup.processors ≡ n

-- all that a processor has but its part
pub record IsKept (d : SetupData) (me bsp_number begun : ℕ) (desks : Desks) (numbers : Registers) (image : ImageContents) (session : Option Session) : Type 0 where
  pub platform : IsPlatform d
  pub own : me < d.processors
  pub bsp : bsp_number < d.processors
  pub visits : begun ≤ d.visits
  pub held : length desks ≡ d.processors
  pub kinds : AreOfKind d.kind desks
  pub registers : numbers.kind ≡ d.kind
  pub last : image.kind ≡ d.kind
  pub chair : IfSome session (HasProcessors d.processors)

abbrev pub Keeps : Processor → Type 0
Keeps p = IsKept p.setup p.me p.bsp p.visits p.held p.registers p.last p.chair

pub record IsProcessor (p : Processor) : Type 0 where
  pub kept : Keeps p
  pub part : IsPart p.part p.setup p.visits p.chair p.held

-- the fields that going on rests on
pub record IsReady (p : ProcessorFields) : Type 0 where
  pub own : p.identity.me < p.identity.setup.processors
  pub held : length p.held.desks ≡ p.identity.setup.processors
  pub chair : IfSome p.chair (HasProcessors p.identity.setup.processors)

-- the fields that entering and resuming rest on
pub record HasImages (p : ProcessorFields) : Type 0 where
  pub registers : p.registers.kind ≡ p.identity.setup.kind
  pub kinds : AreOfKind p.identity.setup.kind p.held.desks

abbrev pub IsActor : Actor → Type 0
IsActor (OfProcessor p) = IsProcessor p
IsActor (OfChipset c) = IsChipset c

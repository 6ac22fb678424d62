-- What the answer of a need makes of a session and of the desks.
use Rattle.std.specs.Prelude.{ℕ, ◌≡◌, ◌==◌, Bool, true, if◌then◌else◌, slice_set, Option, None, Some, option_map}
use Rattle.cpu_table.specs.declared.handlers.OpDef.{OpDef}
use Rattle.handler_ops.specs.declared.desk.Desk.{Desk}
use Rattle.handler_ops.specs.declared.desk.Job.{Job}
use Rattle.handler_ops.specs.declared.row.Row.{Row}
use Rattle.handler_ops.specs.declared.row.Row.TheVariants as row
use Rattle.handler_ops.specs.Course.{Desks, JobDone, Move, desk_of, is_held, moved, write_of}
use Rattle.serving_place.specs.Places.{Place}
use Rattle.serving_place.specs.Serving.{Serving, ran}
use Rattle.serving_place.specs.declared.saying.Saying.TheVariants.{Known, Allocation, Release}
use Rattle.serving_place.specs.Sayings.{Fits}
use Rattle.handler_ops.specs.NextRow.{row_of}
use Rattle.handler_ops.specs.Sessions.{Session, setting_of}
use Rattle.handler_ops.specs.Told.{step_as}

-- the job of a processor is taken off its desk
abbrev pub without_job : Desk → Desk
without_job desk = record desk { job = None }

-- the job on a desk
abbrev pub job_on : Option Desk → Option Job
job_on None = None
job_on (Some desk) = desk.job

-- the place where the processor of the job ran it, if it was run
abbrev pub ran_by : ℕ → Option JobDone → Place → Place
ran_by c None p = p
ran_by c (Some d) p = record p { state = ran c d.result d.status p.state }

abbrev pub taken_off : ℕ → Desks → Desks
taken_off c held = slice_set held c (option_map without_job (desk_of held c))

-- the low bytes of a number are written to a register of the image on a desk; where the service refuses, it stays
abbrev pub written_on : ℕ → ℕ → ℕ → Desk → Desk
written_on reg width x desk = record desk { image = (write_of true desk.image reg width x).image }

abbrev pub written : ℕ → ℕ → ℕ → ℕ → Desks → Desks
written c reg width x held = slice_set held c (option_map (written_on reg width x) (desk_of held c))

-- The desks after a need was answered by this number: the job of a desk that came is taken off it, and a write changes the image at
-- hand.
abbrev pub kept_as : Row → ℕ → Desks → Desks
kept_as (row.ClaimingJob c l) found held = if found == 2 then taken_off c held else held
kept_as (row.AwaitingJob c) found held = taken_off c held
kept_as (row.Writing c reg width x) found held = written c reg width x held
kept_as _ found held = held

-- what the row that was told makes of the number found, with the desks that are held then
abbrev pub move_as : Session → ℕ → Desks → Move
move_as s found held = (step_as (setting_of s) s.course.place.state s.told).on found held

-- a session whose next need is told
abbrev pub told_on : Desks → Session → Session
told_on held s = record s { told = row_of (setting_of s) held s.course }

-- a session whose need was answered
abbrev pub answered : Move → Desks → Session → Session
answered m held s = record s { course = moved (setting_of s) s.course m held; told = row.Finished }

-- the need that is unanswered was told by the session's course, with some desks held
pub record HasTold (s : Session) : Type 0 where
  pub held : Desks
  pub told : s.told ≡ row_of (setting_of s) held s.course

-- the desk that the row reads or writes is held
abbrev pub IsAtHand : Row → Desks → Type 0
IsAtHand (row.Reading c reg width) held = is_held held c ≡ true
IsAtHand (row.Writing c reg width x) held = is_held held c ≡ true
IsAtHand _ held = Unit {0}

abbrev pub is_at_hand : Row → Desks → Bool
is_at_hand (row.Reading c reg width) held = is_held held c
is_at_hand (row.Writing c reg width x) held = is_held held c
is_at_hand _ held = true

-- what the row says fits what is due
abbrev pub RowFits : Row → Option OpDef → Serving → Type 0
RowFits (row.Looking l) o s = Fits (Known l) o s
RowFits (row.ClaimingDesk c l) o s = Fits (Known l) o s
RowFits (row.ClaimingJob c l) o s = Fits (Known l) o s
RowFits (row.Raising c l) o s = Fits (Known l) o s
RowFits (row.Allocating n) o s = Fits (Allocation n) o s
RowFits (row.Freeing n) o s = Fits (Release n) o s
RowFits _ o s = Unit {0}

-- What a server stands for: the platform, the boot processor, the course, and the row that its last need was told by.
use Rattle.std.specs.Prelude.{ℕ, false, Option, Some, None}
use Rattle.cpu_table.specs.Data.{SetupData, data_of}
use Rattle.handler_ops.specs.declared.row.Row.{Row}
use Rattle.handler_ops.specs.declared.row.Row.TheVariants as row
use Rattle.serving_place.specs.declared.seat.Seat.{Seat}
use Rattle.serving_place.specs.declared.seat.Seat.TheVariants.{Free, Open, Done}
use Rattle.serving_place.specs.Beginning.{at_begin, program_of, walks_of, registrations_of, pool_at_first}
use Rattle.serving_place.specs.Places.{ended}
use Rattle.serving_place.specs.Setting.{Setting}
use Rattle.handler_ops.specs.Course.{Course}
use Rattle.handler_ops.specs.Conditions.{beginning}
use Rattle.serving_place.specs.declared.progress.Progress.{Progress}
use Rattle.serving_place.specs.Progresses.{place_in}

pub record Session : Type 0 where
  pub setup : SetupData
  pub me : ℕ
  pub course : Course
  pub told : Row

-- what stays while the session is served
abbrev pub setting_of : Session → Setting
setting_of s = record { program = program_of s.setup; ids = s.setup.ids; processors = s.setup.processors; me = s.me }

-- a server before its first session
abbrev pub first_session : SetupData → Session
first_session d =
    record {
      setup = d;
      me = 0;
      course = record { place = ended (at_begin d (registrations_of d.handlers) (pool_at_first d)); marked = false };
      told = row.Finished;
    }

-- A session begins with the registrations and the pool that the one before left.
abbrev pub begun_session : ℕ → ℕ → Session → Session
begun_session me wave s =
    record s {
      me = me;
      course = beginning wave (walks_of s.setup.waves wave) (at_begin s.setup s.course.place.state.registrations s.course.place.state.pool);
      told = row.Finished;
    }

-- the number of the job of a processor
abbrev pub job_number : Seat → Option ℕ
job_number Free = None
job_number (Open j t) = Some j
job_number (Done j t x S) = Some j

abbrev pub course_in : Progress → Course
course_in p = record { place = place_in p; marked = p.marked }

abbrev pub session_in : Progress → Row → Session
session_in p told = record { setup = data_of p.setup; me = p.me; course = course_in p; told = told }

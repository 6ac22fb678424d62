-- What the parts of a progress stand for, and what they keep between calls.
use Rattle.std.specs.Prelude.{◌≡◌, ℕ, ◌+◌, ◌-◌, ◌≤◌, cond, List, [], ◌∷◌, length, map, reverse, drop, slice_get, vec_capacity, Option, Some, None}
use Rattle.std.specs.Option.{option_map}
use Rattle.smm_base.specs.declared.kinds.HandlerType.{HandlerType}
use Rattle.handler_registry.specs.declared.registration.Registration.{Registration}
use Rattle.handler_registry.specs.Registrations.{Registrations}
use Rattle.smi_manage.specs.declared.running.Running.{Running}
use Rattle.smi_manage.specs.Answers.{ended_with}
use Rattle.smi_manage.specs.Walks as manage
use Rattle.sync_words.specs.declared.label.Label.TheVariants as say
use Rattle.serving_place.specs.declared.progress.Called.{Called}
use Rattle.serving_place.specs.declared.progress.Walk.{Walk}
use Rattle.serving_place.specs.declared.progress.Pending.{Pending}
use Rattle.serving_place.specs.declared.progress.Pending.TheVariants as pending
use Rattle.serving_place.specs.declared.progress.Progress.{Progress}
use Rattle.serving_place.specs.Forms.{Program, operations_of, turn_of, count_up}
use Rattle.serving_place.specs.Beginning.{walks_of}
use Rattle.serving_place.specs.Places.{Call, OpenWalk, Begun, First, Started, Awaited, Place}
use Rattle.serving_place.specs.Setting.{Setting}
use Rattle.serving_place.specs.Due.{Due, Saying, due_left}

abbrev pub call_of : Program → Called → Call
call_of program c = record { handler = c.handler; ops = drop c.at (operations_of program c.handler) }

-- the serial numbers whose turn is still to come
abbrev pub turns_of : manage.Walk → List ℕ
turns_of m = cond (manage.is_stopped m) [] (count_up m.before (m.bound - m.before))

-- the handler of the first turn of these that comes
abbrev pub first_handler : Option Registration → Option ℕ → Option ℕ
first_handler None later = later
first_handler (Some r) later = Some r.handler

abbrev pub first_turn : HandlerType → List ℕ → Registrations → Option ℕ
first_turn kind [] g = None
first_turn kind (n ∷ ns) g = first_handler (turn_of kind g n) (first_turn kind ns g)

-- what is due at the first turn: the call of its handler, or where there is none the walk's answer
abbrev pub due_handler : Option ℕ → HandlerType → Running → ℕ → Due
due_handler None kind r left = Saying (say.Answer (ended_with kind r))
due_handler (Some h) kind r left = due_left left (Saying (say.Call h))

abbrev pub walk_of : Program → Walk → OpenWalk
walk_of program w = record { kind = w.manage.kind; turns = turns_of w.manage; running = w.manage.running; called = option_map (call_of program) w.called }

-- the last walk was opened last
abbrev pub walks_in : Program → List Walk → List OpenWalk
walks_in program ws = reverse (map (walk_of program) ws)

abbrev pub begun_in : Program → Pending → Option Begun
begun_in program pending.Nothing = None
begun_in program (pending.First w) = Some (First w)
begun_in program (pending.Started c) = option_map Started (slice_get (operations_of program c.handler) c.at)
begun_in program (pending.Awaited cpu into) = Some (Awaited cpu into)

abbrev pub program_in : Progress → Program
program_in p = record { handlers = p.setup.handlers; procedures = p.setup.procedures }

abbrev pub place_in : Progress → Place
place_in p =
    record {
      kinds = drop p.entry (walks_of p.setup.waves p.wave);
      walks = walks_in (program_in p) p.walks.items;
      begun = begun_in (program_in p) p.pending;
      state = p.state;
    }

abbrev pub setting_in : Progress → Setting
setting_in p = record { program = program_in p; ids = p.setup.ids; processors = p.setup.processors; me = p.me }

-- a begun operation may still give a job
abbrev pub begun_jobs : Option Begun → ℕ
begun_jobs (Some (Started o)) = 1
begun_jobs _ = 0

-- Each of so many processors has a seat, and each job was given in a unit.
pub record Goes (processors : ℕ) (p : Place) : Type 0 where
  pub seats : length p.state.seats ≡ processors
  pub units : p.state.given + p.state.left + begun_jobs p.begun ≤ 4096

-- and there is room for four walks
pub record IsGoing (p : Progress) : Type 0 where
  pub goes : Goes p.setup.processors (place_in p)
  pub room : 4 ≤ vec_capacity p.walks

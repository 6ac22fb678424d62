-- A walk over the handlers of one list.
use Rattle.std.specs.Prelude.{◌≡◌, ℕ, Bool, true, false, nat_le, cond, List, Option, Some, None}
use Rattle.smm_base.specs.declared.kinds.HandlerType.{HandlerType}
use Rattle.smm_base.specs.declared.status.Status.{Status}
use Rattle.handler_registry.specs.Registrations.{Registrations, next_of}
use Rattle.smi_manage.specs.declared.running.Running.{Running}
use Rattle.smi_manage.specs.Answers.{stops, fresh, plus, run, ended_with}

-- The list that is walked, the last serial number that was given when the walk began, the serial number that it gave
-- before or 0, what it keeps of the statuses, and whether the handler that it gave was not answered for yet.
pub record Walk : Type 0 where
  pub kind : HandlerType
  pub bound : ℕ
  pub before : ℕ
  pub running : Running
  pub awaits : Bool

-- a walk over this list of these registrations that has called no handler yet
abbrev pub begun : HandlerType → Registrations → Walk
begun kind state = record { kind = kind; bound = state.last; before = 0; running = fresh; awaits = false }

-- the last answer stopped it
abbrev pub is_stopped : Walk → Bool
is_stopped walk = stops walk.kind walk.running.last

-- the number where it is at most the bound
abbrev pub at_most : ℕ → Option ℕ → Option ℕ
at_most bound None = None
at_most bound (Some n) = cond (nat_le n bound) (Some n) None

-- the serial number whose turn it is, unless the walk was stopped: the least live one of its list above the one
-- before that was given by the time that the walk began
abbrev pub turn_of : Walk → Registrations → Option ℕ
turn_of walk state = cond (is_stopped walk) None (at_most walk.bound (next_of walk.kind walk.before state))

-- the walk after it gave this serial number, if one
abbrev pub after_turn : Option ℕ → Walk → Walk
after_turn None walk = walk
after_turn (Some serial) walk = record walk { before = serial; awaits = true }

-- the walk after this answer
abbrev pub answered : Status → Walk → Walk
answered status walk = record walk { running = plus walk.kind walk.running status; awaits = false }

-- the answer so far
abbrev pub answer_so_far : Walk → Status
answer_so_far walk = ended_with walk.kind walk.running

-- these are the statuses that were answered so far, in their order
abbrev pub HasAnswers : Walk → List Status → Type 0
HasAnswers walk statuses = walk.running ≡ run walk.kind fresh statuses

-- What the calls of a server may count on, and what follows of a step.
use Rattle.std.specs.Prelude.{◌≡◌, ℕ, Bool, true, false, not, ◌&&◌, ◌||◌, ◌==◌, List, [], ◌∷◌, ◌++◌, length, Option, Some, None}
use Rattle.smm_base.specs.declared.kinds.HandlerType.{HandlerType}
use Rattle.handler_ops.specs.declared.need.Need.{Need}
use Rattle.handler_ops.specs.declared.need.Need.TheVariants as need
use Rattle.serving_place.specs.Serving.{Serving, seat, HasOpen, IsFree, IsDone}
use Rattle.serving_place.specs.Forms.{Event}
use Rattle.serving_place.specs.Places.{at_first}
use Rattle.serving_place.specs.Setting.{Setting}
use Rattle.handler_ops.specs.Course.{Course, Desks, Move, Quiet, Speaks, Takes, JobDone, is_held, desk_of, done_on, step_of, said, moved}

-- `there` says which desks are held. Each processor has a seat; the boot processor holds its own desk; a processor whose desk is held has no job; and no
-- job is done and not collected, since the two are set at once.
pub record IsSound (t : Setting) (there : ℕ → Bool) (s : Serving) : Type 0 where
  pub size : length s.seats ≡ t.processors
  pub mine : there t.me ≡ true
  pub idle : (c : ℕ) → there c ≡ true → IsFree (seat s c)
  pub undone : (c : ℕ) → IsDone (seat s c) → ⊥

-- the desk that came has the processor's uncollected job, which was run
abbrev pub HasCome : Serving → ℕ → Option JobDone → Type 0
HasCome s c None = ⊥
HasCome s c (Some d) = HasOpen (seat s c) d.number

abbrev pub CameFor : Serving → Move → Desks → Type 0
CameFor s (Quiet b) now = Unit {0}
CameFor s (Speaks l) now = Unit {0}
CameFor s (Takes c) now = HasCome s c (done_on (desk_of now c))

-- which desks are held after the access: the one that it took is, and the one that it gave is not
abbrev pub held_after : Need → ℕ → Desks → ℕ → Bool
held_after (need.ClaimPresent c) found held i = is_held held i || (found == 1 && i == c)
held_after (need.ClaimBusy c) found held i = is_held held i || (found == 2 && i == c)
held_after (need.AwaitBusy c) found held i = is_held held i || i == c
held_after (need.RaiseRun c) found held i = is_held held i && not (i == c)
held_after _ found held i = is_held held i

abbrev pub HandsMoved : Need → ℕ → Desks → Desks → Type 0
HandsMoved n found held now = (i : ℕ) → is_held now i ≡ held_after n found held i

-- One need that was answered: the number that its access found, and the desks that were held when the need was told and
-- when it was answered.
pub record Turn : Type 0 where
  pub found : ℕ
  pub held : Desks
  pub now : Desks

-- what is made of the number, what is said, and the course after
abbrev pub move_of : Setting → Course → Turn → Move
move_of t course u = (step_of t u.held course).on u.found u.now

abbrev pub said_in : Setting → Course → Turn → List Event
said_in t course u = said (move_of t course u) u.now

abbrev pub course_after : Setting → Course → Turn → Course
course_after t course u = moved t course (move_of t course u) u.now

-- What the calls may count on: the desks that are held are those of before, the boot processor's own is one of them, and
-- so after the access but for the desk that it moved; and a desk that came with a job came with the one that was run.
pub record IsAllowed (t : Setting) (there : ℕ → Bool) (course : Course) (u : Turn) : Type 0 where
  pub held : (i : ℕ) → is_held u.held i ≡ there i
  pub hands : HandsMoved (step_of t u.held course).need u.found u.held u.now
  pub mine : is_held u.now t.me ≡ true
  pub came : CameFor course.place.state (move_of t course u) u.now

abbrev pub AllAllowed : Setting → (ℕ → Bool) → Course → List Turn → Type 0
AllAllowed t there course [] = Unit {0}
AllAllowed t there course (u ∷ us) = IsAllowed t there course u × AllAllowed t (is_held u.now) (course_after t course u) us

-- what is said by these turns, and the course after them
abbrev pub said_by : Setting → Course → List Turn → List Event
said_by t course [] = []
said_by t course (u ∷ us) = said_in t course u ++ said_by t (course_after t course u) us

abbrev pub course_of : Setting → Course → List Turn → Course
course_of t course [] = course
course_of t course (u ∷ us) = course_of t (course_after t course u) us

-- the course of a session that serves this wave with these walks, at its beginning
abbrev pub beginning : ℕ → List HandlerType → Serving → Course
beginning w kinds s = record { place = at_first w kinds s; marked = false }

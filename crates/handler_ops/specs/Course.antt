-- The course of serving: at each place the next access, and by the number that it finds what is said and what is done.
--
-- It doesn't go by the form of a whole list. A `Step` is one row: the need, and beside it what is made of the number found.
use Rattle.std.specs.Prelude.{ℕ, zero, suc, ◌+◌, Bool, true, false, not, ◌||◌, ◌==◌, nat_lt, if◌then◌else◌, List, [], ◌∷◌, ◌++◌, map, take, replicate, slice_index_or, Option, Some, None, is_some, unwrap_or}
use Rattle.byteorder.specs.Endian.{little_number, little_bytes}
use Rattle.smm_base.specs.declared.kinds.MapKind.TheVariants.{Ia32}
use Rattle.smm_base.specs.declared.kinds.HandlerType.{HandlerType}
use Rattle.smm_base.specs.declared.status.Status.{Status}
use Rattle.smm_base.specs.declared.status.Status.TheVariants.{Success, InvalidParameter, NotReady, OutOfResources}
use Rattle.save_state_map.specs.Images.{ImageContents}
use Rattle.save_state_access.specs.Reading.{ReadAnswer, read_answer}
use Rattle.save_state_access.specs.Writing.{WriteAnswer, write_answer}
use Rattle.cpu_table.specs.declared.handlers.OpDef.{OpDef}
use Rattle.cpu_table.specs.declared.handlers.OpDef.TheVariants as op
use Rattle.sync_words.specs.declared.label.StartRefusal.{StartRefusal}
use Rattle.sync_words.specs.declared.label.StartRefusal.TheVariants as cause
use Rattle.sync_words.specs.declared.label.Label.{Label}
use Rattle.sync_words.specs.declared.label.Label.TheVariants as say
use Rattle.handler_registry.specs.Registrations.{is_live, is_full}
use Rattle.smram_pool.specs.State.{allocated, freed}
use Rattle.handler_ops.specs.declared.desk.Desk.{Desk}
use Rattle.handler_ops.specs.declared.desk.Job.{Job}
use Rattle.handler_ops.specs.declared.need.Need.{Need}
pub use Rattle.handler_ops.specs.declared.reach.Reach.{Reach}
pub use Rattle.handler_ops.specs.declared.reach.Reach.TheVariants.{Outside, AtHand, Working, Elsewhere}
use Rattle.handler_ops.specs.declared.need.Need.TheVariants as need
use Rattle.serving_place.specs.declared.seat.Seat.{Seat}
use Rattle.serving_place.specs.declared.seat.Seat.TheVariants.{Free, Open, Done}
use Rattle.serving_place.specs.declared.token.TokenState.{TokenState}
use Rattle.serving_place.specs.declared.token.TokenState.TheVariants.{NotOut, Uncollected, Collected}
use Rattle.serving_place.specs.Serving.{Serving, number, seat, token_of}
use Rattle.serving_place.specs.Operations.{register_of, free_status, unregister_status, procedure_place, alloc_label}
use Rattle.serving_place.specs.Forms.{Event, Own, Ran, Program}
use Rattle.serving_place.specs.Places.{Place, next}
use Rattle.serving_place.specs.Setting.{Setting, first_cause}
use Rattle.serving_place.specs.Due.{Due, Nothing, Saying, Awaiting, Doing, due}

-- the place, and whether the word of the processor that is given a job was put already
pub record Course : Type 0 where
  pub place : Place
  pub marked : Bool

-- the desks that the boot processor holds, one item for each processor
abbrev pub Desks : Type 0
Desks = List (Option Desk)

abbrev pub is_held : Desks → ℕ → Bool
is_held held c = slice_index_or (map is_some held) c false

abbrev pub desk_of : Desks → ℕ → Option Desk
desk_of held c = slice_index_or held c None

abbrev pub image_in : Option Desk → ImageContents
image_in None = record { kind = Ia32; bytes = [] }
image_in (Some desk) = desk.image

-- What is made of a number that was found: nothing is said, and the word of a processor that is given a job was put or
-- not; or a label is said; or the job of a processor, whose desk came with it, is collected.
pub data Move : Type 0 where
  Quiet : Bool → Move
  Speaks : Label → Move
  Takes : ℕ → Move

-- One row: the access, and by the number found and the desks then held what is made of it.
pub record Step : Type 0 where
  pub need : Need
  pub on : ℕ → Desks → Move

-- a look, and this label
abbrev pub looking : Label → Step
looking l = record { need = need.Look; on = λ found held. Speaks l }

-- the processor's desk where it is present, else this label
abbrev pub claiming_desk : ℕ → Label → Step
claiming_desk c l = record { need = need.ClaimPresent c; on = λ found held. if found == 1 then Quiet false else Speaks l }

-- the processor's job where it was run, else this label
abbrev pub claiming_job : ℕ → Label → Step
claiming_job c l = record { need = need.ClaimBusy c; on = λ found held. if found == 2 then Takes c else Speaks l }

-- the processor's job, once it was run
abbrev pub awaiting_job : ℕ → Step
awaiting_job c = record { need = need.AwaitBusy c; on = λ found held. Takes c }

-- The desk rule goes by where the processor's image is.
abbrev pub has_job : Seat → Bool
has_job Free = false
has_job (Open j t) = true
has_job (Done j t x S) = true

abbrev pub reach : Setting → Desks → Serving → ℕ → Reach
reach t held s c =
    if not (nat_lt c t.processors) then Outside
    else (if c == t.me || is_held held c then AtHand else (if has_job (seat s c) then Working else Elsewhere))

-- the label by the status, and the operation's own label by the desks that are held
abbrev pub by_desk : Reach → ℕ → (Status → Label) → Status → (Desks → Label) → Step
by_desk Outside c refused absent own = looking (refused InvalidParameter)
by_desk AtHand c refused absent own = record { need = need.Look; on = λ found held. Speaks (own held) }
by_desk Working c refused absent own = claiming_job c (refused NotReady)
by_desk Elsewhere c refused absent own = claiming_desk c (refused absent)

-- the answer of the save-state service to a read, and the value that a label shows: the first 8 bytes read, or 0
abbrev pub read_of : Setting → Bool → ImageContents → ℕ → ℕ → ℕ → ReadAnswer
read_of t present m c reg width = read_answer m present (slice_index_or t.ids c 0) reg (replicate width 0)

abbrev pub value_on : Status → List ℕ → ℕ
value_on Success bytes = little_number 8 bytes
value_on _ bytes = 0

abbrev pub shown_value : ReadAnswer → ℕ
shown_value a = value_on a.status a.out

-- the low bytes of a number, as many as the width; above the eighth they are 0
abbrev pub low_bytes : ℕ → ℕ → List ℕ
low_bytes width x = take width (little_bytes 8 x ++ replicate 16 0)

abbrev pub write_of : Bool → ImageContents → ℕ → ℕ → ℕ → WriteAnswer
write_of present m reg width x = write_answer m present reg (low_bytes width x)

abbrev pub read_label : ℕ → ℕ → ℕ → ℕ → Status → Label
read_label c reg width x S = say.Read c (register_of reg) width x S

abbrev pub write_label : ℕ → ℕ → ℕ → ℕ → Status → Label
write_label c reg width x S = say.Write c (register_of reg) width x S

abbrev pub blank : ImageContents
blank = image_in None

abbrev pub reading : Setting → Desks → Serving → ℕ → ℕ → ℕ → Step
reading t held s c reg width =
    by_desk (reach t held s c) c (read_label c reg width 0) (read_of t false blank c reg width).status
    (λ now. let a = read_of t true (image_in (desk_of now c)) c reg width in read_label c reg width (shown_value a) a.status)

abbrev pub writing : Setting → Desks → Serving → ℕ → ℕ → ℕ → ℕ → Step
writing t held s c reg width x =
    by_desk (reach t held s c) c (write_label c reg width x) (write_of false blank reg width x).status
    (λ now. write_label c reg width x (write_of true (image_in (desk_of now c)) reg width x).status)

-- by the cause, whether the processor has a job, whether its desk is held, and whether its word was put
abbrev pub by_start_rule : Option StartRefusal → Bool → Bool → Bool → ℕ → Step → Label → Step
by_start_rule (Some x) job held marked c collect start = looking (say.Refuse c x)
by_start_rule None true held marked c collect start = collect
by_start_rule None false false marked c collect start = claiming_desk c (say.Refuse c cause.Absent)
by_start_rule None false true false c collect start = record { need = need.PutBusy c; on = λ found held. Quiet true }
by_start_rule None false true true c collect start = record { need = need.RaiseRun c; on = λ found held. Speaks start }

abbrev pub starting : Setting → Desks → Serving → Bool → Bool → ℕ → Option ℕ → ℕ → Step → Step
starting t held s marked with_token c place arg collect =
    by_start_rule (first_cause t s with_token c place) (has_job (seat s c)) (is_held held c) marked c collect
    (say.Start c (s.given + 1) (unwrap_or place 0) arg)

-- a check and a wait, by what became of the token
abbrev pub checking : TokenState → ℕ → Step
checking NotOut n = looking (say.Check n InvalidParameter)
checking (Uncollected c) n = claiming_job c (say.Check n NotReady)
checking (Collected t) n = looking (say.Check n Success)

abbrev pub waiting : TokenState → ℕ → Step
waiting NotOut n = looking (say.Wait n 0 InvalidParameter)
waiting (Uncollected c) n = awaiting_job c
waiting (Collected t) n = looking (say.Wait n t.result t.status)

abbrev pub register_label : Bool → ℕ → ℕ → Label
register_label true h last = say.Register h 0 OutOfResources
register_label false h last = say.Register h (last + 1) Success

abbrev pub open_label : ℕ → HandlerType → Label
open_label zero kind = say.Deep kind
open_label (suc n) kind = say.Manage kind

-- The rows of the operations; so many levels may still be opened.
abbrev pub operation_step : Setting → Desks → Serving → Bool → ℕ → OpDef → Step
operation_step t held s marked n (op.Set into v) = looking (say.Set into (number s v))
operation_step t held s marked n (op.Read c reg width into) = reading t held s c reg width
operation_step t held s marked n (op.Write c reg width v) = writing t held s c reg width (number s v)
operation_step t held s marked n (op.Start c name arg into) =
    starting t held s marked false c (procedure_place t.program.procedures name) (number s arg) (awaiting_job c)
operation_step t held s marked n (op.Launch c name arg into) =
    starting t held s marked true c (procedure_place t.program.procedures name) (number s arg) (claiming_job c (say.Refuse c cause.Busy))
operation_step t held s marked n (op.Check v) = checking (token_of s (number s v)) (number s v)
operation_step t held s marked n (op.Wait v into) = waiting (token_of s (number s v)) (number s v)
operation_step t held s marked n (op.Alloc v into) = looking (alloc_label (number s v) (allocated (number s v) s.pool).0)
operation_step t held s marked n (op.Free v) = looking (say.Free (number s v) (free_status (freed (number s v) s.pool).0))
operation_step t held s marked n (op.Register h kind into) = looking (register_label (is_full s.registrations) h s.registrations.last)
operation_step t held s marked n (op.Unregister v) = looking (say.Unregister (number s v) (unregister_status (is_live (number s v) s.registrations)))
operation_step t held s marked n (op.Manage kind) = looking (open_label n kind)

abbrev pub due_step : Setting → Desks → Serving → Bool → Due → Step
due_step t held s marked Nothing = record { need = need.Finished; on = λ found now. Quiet false }
due_step t held s marked (Saying l) = looking l
due_step t held s marked (Awaiting c) = awaiting_job c
due_step t held s marked (Doing n o) = operation_step t held s marked n o

-- the row of a course, with these desks held
abbrev pub step_of : Setting → Desks → Course → Step
step_of t held c = due_step t held c.place.state c.marked (due t.program c.place)

abbrev pub need_of : Setting → Desks → Course → Need
need_of t held c = (step_of t held c).need

-- the job that was run, on a desk
pub record JobDone : Type 0 where
  pub number : ℕ
  pub result : ℕ
  pub status : Status

abbrev pub done_of : ℕ → Option (ℕ × Status) → Option JobDone
done_of n None = None
done_of n (Some d) = Some (record { number = n; result = d.0; status = d.1 })

abbrev pub done_job : Option Job → Option JobDone
done_job None = None
done_job (Some job) = done_of job.number job.done

abbrev pub done_on : Option Desk → Option JobDone
done_on None = None
done_on (Some desk) = done_job desk.job

-- that the other processor ran its job is set just before the label that collects it
abbrev pub with_run : ℕ → Option JobDone → List Event
with_run c None = Own (say.Collect c) ∷ []
with_run c (Some d) = Ran c d.number d.result d.status ∷ Own (say.Collect c) ∷ []

-- what is said
abbrev pub said : Move → Desks → List Event
said (Quiet b) held = []
said (Speaks l) held = Own l ∷ []
said (Takes c) held = with_run c (done_on (desk_of held c))

abbrev pub label_of : Move → Label
label_of (Quiet b) = say.Silent
label_of (Speaks l) = l
label_of (Takes c) = say.Collect c

abbrev pub is_marked : Move → Bool
is_marked (Quiet b) = b
is_marked _ = false

-- the place after these events
abbrev pub after_all : Program → Place → List Event → Place
after_all program p [] = p
after_all program p (e ∷ es) = after_all program (next program p e) es

abbrev pub moved : Setting → Course → Move → Desks → Course
moved t c m held = record { place = after_all t.program c.place (said m held); marked = is_marked m }

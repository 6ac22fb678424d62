-- The row of a course as data: by the desks that are held, what the next access makes of the number that it finds. `step_as`
-- says what a row stands for.
use Rattle.std.specs.Prelude.{ℕ, ◌+◌, Bool, true, false, Option, Some, None, unwrap_or}
use Rattle.smm_base.specs.declared.status.Status.{Status}
use Rattle.smm_base.specs.declared.status.Status.TheVariants.{Success, InvalidParameter, NotReady}
use Rattle.cpu_table.specs.declared.handlers.OpDef.{OpDef}
use Rattle.cpu_table.specs.declared.handlers.OpDef.TheVariants as op
use Rattle.sync_words.specs.declared.label.StartRefusal.{StartRefusal}
use Rattle.sync_words.specs.declared.label.StartRefusal.TheVariants as cause
use Rattle.sync_words.specs.declared.label.Label.{Label}
use Rattle.sync_words.specs.declared.label.Label.TheVariants as say
use Rattle.handler_registry.specs.Registrations.{is_live, is_full}
use Rattle.handler_ops.specs.declared.row.Row.{Row}
use Rattle.handler_ops.specs.declared.row.Row.TheVariants as row
use Rattle.serving_place.specs.declared.token.TokenState.{TokenState}
use Rattle.serving_place.specs.declared.token.TokenState.TheVariants.{NotOut, Uncollected, Collected}
use Rattle.serving_place.specs.Serving.{Serving, number, seat, token_of}
use Rattle.serving_place.specs.Operations.{unregister_status, procedure_place}
use Rattle.serving_place.specs.Setting.{Setting, first_cause}
use Rattle.serving_place.specs.Due.{Due, Nothing, Saying, Awaiting, Doing, due}
use Rattle.handler_ops.specs.Course.{Course, Desks, Reach, Outside, AtHand, Working, Elsewhere, reach, has_job, is_held, read_of, write_of, read_label, write_label, blank, register_label, open_label}

-- the desk rule
abbrev pub desk_row : Reach → ℕ → (Status → Label) → Status → Row → Row
desk_row Outside c refused absent own = row.Looking (refused InvalidParameter)
desk_row AtHand c refused absent own = own
desk_row Working c refused absent own = row.ClaimingJob c (refused NotReady)
desk_row Elsewhere c refused absent own = row.ClaimingDesk c (refused absent)

abbrev pub reading_row : Setting → Desks → Serving → ℕ → ℕ → ℕ → Row
reading_row t held s c reg width =
    desk_row (reach t held s c) c (read_label c reg width 0) (read_of t false blank c reg width).status (row.Reading c reg width)

abbrev pub writing_row : Setting → Desks → Serving → ℕ → ℕ → ℕ → ℕ → Row
writing_row t held s c reg width x =
    desk_row (reach t held s c) c (write_label c reg width x) (write_of false blank reg width x).status (row.Writing c reg width x)

-- the start rule: by the cause, whether the processor has a job, whether its desk is held, and whether its word was put
abbrev pub start_row : Option StartRefusal → Bool → Bool → Bool → ℕ → Row → Label → Row
start_row (Some x) job held marked c collect start = row.Looking (say.Refuse c x)
start_row None true held marked c collect start = collect
start_row None false false marked c collect start = row.ClaimingDesk c (say.Refuse c cause.Absent)
start_row None false true false c collect start = row.Putting c
start_row None false true true c collect start = row.Raising c start

abbrev pub starting_row : Setting → Desks → Serving → Bool → Bool → ℕ → Option ℕ → ℕ → Row → Row
starting_row t held s marked with_token c place arg collect =
    start_row (first_cause t s with_token c place) (has_job (seat s c)) (is_held held c) marked c collect
    (say.Start c (s.given + 1) (unwrap_or place 0) arg)

-- a check and a wait, by what became of the token
abbrev pub checking_row : TokenState → ℕ → Row
checking_row NotOut n = row.Looking (say.Check n InvalidParameter)
checking_row (Uncollected c) n = row.ClaimingJob c (say.Check n NotReady)
checking_row (Collected t) n = row.Looking (say.Check n Success)

abbrev pub waiting_row : TokenState → ℕ → Row
waiting_row NotOut n = row.Looking (say.Wait n 0 InvalidParameter)
waiting_row (Uncollected c) n = row.AwaitingJob c
waiting_row (Collected t) n = row.Looking (say.Wait n t.result t.status)

-- the row of an operation that has begun, where so many levels may still be opened
abbrev pub operation_row : Setting → Desks → Serving → Bool → ℕ → OpDef → Row
operation_row t held s marked n (op.Set into v) = row.Looking (say.Set into (number s v))
operation_row t held s marked n (op.Read c reg width into) = reading_row t held s c reg width
operation_row t held s marked n (op.Write c reg width v) = writing_row t held s c reg width (number s v)
operation_row t held s marked n (op.Start c name arg into) =
    starting_row t held s marked false c (procedure_place t.program.procedures name) (number s arg) (row.AwaitingJob c)
operation_row t held s marked n (op.Launch c name arg into) =
    starting_row t held s marked true c (procedure_place t.program.procedures name) (number s arg) (row.ClaimingJob c (say.Refuse c cause.Busy))
operation_row t held s marked n (op.Check v) = checking_row (token_of s (number s v)) (number s v)
operation_row t held s marked n (op.Wait v into) = waiting_row (token_of s (number s v)) (number s v)
operation_row t held s marked n (op.Alloc v into) = row.Allocating (number s v)
operation_row t held s marked n (op.Free v) = row.Freeing (number s v)
operation_row t held s marked n (op.Register h kind into) = row.Looking (register_label (is_full s.registrations) h s.registrations.last)
operation_row t held s marked n (op.Unregister v) =
    row.Looking (say.Unregister (number s v) (unregister_status (is_live (number s v) s.registrations)))
operation_row t held s marked n (op.Manage kind) = row.Looking (open_label n kind)

abbrev pub due_row : Setting → Desks → Serving → Bool → Due → Row
due_row t held s marked Nothing = row.Finished
due_row t held s marked (Saying l) = row.Looking l
due_row t held s marked (Awaiting c) = row.AwaitingJob c
due_row t held s marked (Doing n o) = operation_row t held s marked n o

-- the row of a course, with these desks held
abbrev pub row_of : Setting → Desks → Course → Row
row_of t held c = due_row t held c.place.state c.marked (due t.program c.place)

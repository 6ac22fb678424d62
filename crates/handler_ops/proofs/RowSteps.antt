-- The row of a course stands for its step.
use Rattle.std.proofs.Common.{◌≡◌, ℕ, Bool, true, false, Option, Some, None, refl, sym, ap, ◌∙◌}
use Rattle.cpu_table.specs.declared.handlers.OpDef.{OpDef}
use Rattle.cpu_table.specs.declared.handlers.OpDef.TheVariants as op
use Rattle.sync_words.specs.declared.label.StartRefusal.{StartRefusal}
use Rattle.sync_words.specs.declared.label.StartRefusal.TheVariants as cause
use Rattle.sync_words.specs.declared.label.Label.{Label}
use Rattle.sync_words.specs.declared.label.Label.TheVariants as say
use Rattle.handler_ops.specs.declared.row.Row.{Row}
use Rattle.handler_ops.specs.declared.row.Row.TheVariants as row
use Rattle.serving_place.specs.declared.token.TokenState.{TokenState}
use Rattle.serving_place.specs.declared.token.TokenState.TheVariants.{NotOut, Uncollected, Collected}
use Rattle.serving_place.specs.Serving.{Serving, number, seat, token_of}
use Rattle.serving_place.specs.Operations.{procedure_place}
use Rattle.serving_place.specs.Setting.{Setting, first_cause}
use Rattle.serving_place.specs.Due.{Due, Nothing, Saying, Awaiting, Doing, due}
use Rattle.handler_ops.specs.Course.{Course, Step, by_desk, Desks, Reach, Outside, AtHand, Working, Elsewhere, reach, has_job, is_held, read_of, write_of, read_label, write_label, blank, by_start_rule, reading, writing, checking, waiting, operation_step, due_step, step_of, need_of}
use Rattle.handler_ops.specs.NextRow.{desk_row, reading_row, writing_row, start_row, checking_row, waiting_row, operation_row, due_row, row_of}
use Rattle.handler_ops.specs.Told.{step_as, need_as, read_at_hand, write_at_hand}
use Rattle.handler_ops.proofs.Dues.{need_is}

reading_is : (t : Setting) (held : Desks) (s : Serving) (c reg width : ℕ) → step_as t s (reading_row t held s c reg width) ≡ reading t held s c reg width
reading_is t held s c reg width = at_reach (reach t held s c)
  where
    at_reach : (r : Reach) → step_as t s (desk_row r c (read_label c reg width 0) (read_of t false blank c reg width).status (row.Reading c reg width))
        ≡ by_desk r c (read_label c reg width 0) (read_of t false blank c reg width).status (λ now. read_at_hand t c reg width now)
    at_reach Outside = refl
    at_reach AtHand = refl
    at_reach Working = refl
    at_reach Elsewhere = refl

writing_is : (t : Setting) (held : Desks) (s : Serving) (c reg width x : ℕ) → step_as t s (writing_row t held s c reg width x) ≡ writing t held s c reg width x
writing_is t held s c reg width x = at_reach (reach t held s c)
  where
    at_reach : (r : Reach) → step_as t s (desk_row r c (write_label c reg width x) (write_of false blank reg width x).status (row.Writing c reg width x))
        ≡ by_desk r c (write_label c reg width x) (write_of false blank reg width x).status (λ now. write_at_hand c reg width x now)
    at_reach Outside = refl
    at_reach AtHand = refl
    at_reach Working = refl
    at_reach Elsewhere = refl

start_is : (t : Setting) (s : Serving) (o : Option StartRefusal) (job held marked : Bool) (c : ℕ) (collect : Row) (start : Label)
    → step_as t s (start_row o job held marked c collect start) ≡ by_start_rule o job held marked c (step_as t s collect) start
start_is t s (Some x) job held marked c collect start = refl
start_is t s None true held marked c collect start = refl
start_is t s None false false marked c collect start = refl
start_is t s None false true false c collect start = refl
start_is t s None false true true c collect start = refl

checking_is : (t : Setting) (s : Serving) (o : TokenState) (n : ℕ) → step_as t s (checking_row o n) ≡ checking o n
checking_is t s NotOut n = refl
checking_is t s (Uncollected c) n = refl
checking_is t s (Collected k) n = refl

waiting_is : (t : Setting) (s : Serving) (o : TokenState) (n : ℕ) → step_as t s (waiting_row o n) ≡ waiting o n
waiting_is t s NotOut n = refl
waiting_is t s (Uncollected c) n = refl
waiting_is t s (Collected k) n = refl

operation_is : (t : Setting) (held : Desks) (s : Serving) (marked : Bool) (n : ℕ) (o : OpDef)
    → step_as t s (operation_row t held s marked n o) ≡ operation_step t held s marked n o
operation_is t held s marked n (op.Set into v) = refl
operation_is t held s marked n (op.Read c reg width into) = reading_is t held s c reg width
operation_is t held s marked n (op.Write c reg width v) = writing_is t held s c reg width (number s v)
operation_is t held s marked n (op.Start c name arg into) =
    start_is t s (first_cause t s false c (procedure_place t.program.procedures name)) (has_job (seat s c)) (is_held held c) marked c (row.AwaitingJob c) _
operation_is t held s marked n (op.Launch c name arg into) =
    start_is t s (first_cause t s true c (procedure_place t.program.procedures name)) (has_job (seat s c)) (is_held held c) marked c
    (row.ClaimingJob c (say.Refuse c cause.Busy)) _
operation_is t held s marked n (op.Check v) = checking_is t s (token_of s (number s v)) (number s v)
operation_is t held s marked n (op.Wait v into) = waiting_is t s (token_of s (number s v)) (number s v)
operation_is t held s marked n (op.Alloc v into) = refl
operation_is t held s marked n (op.Free v) = refl
operation_is t held s marked n (op.Register h kind into) = refl
operation_is t held s marked n (op.Unregister v) = refl
operation_is t held s marked n (op.Manage kind) = refl

due_is : (t : Setting) (held : Desks) (s : Serving) (marked : Bool) (d : Due) → step_as t s (due_row t held s marked d) ≡ due_step t held s marked d
due_is t held s marked Nothing = refl
due_is t held s marked (Saying l) = refl
due_is t held s marked (Awaiting c) = refl
due_is t held s marked (Doing n o) = operation_is t held s marked n o

pub step_of_row : (t : Setting) (held : Desks) (c : Course) → step_as t c.place.state (row_of t held c) ≡ step_of t held c
step_of_row t held c = due_is t held c.place.state c.marked (due t.program c.place)

pub need_of_row : (t : Setting) (held : Desks) (c : Course) → need_as (row_of t held c) ≡ need_of t held c
need_of_row t held c = sym (need_is t c.place.state (row_of t held c)) ∙ ap (λ (s : Step). s.need) (step_of_row t held c)

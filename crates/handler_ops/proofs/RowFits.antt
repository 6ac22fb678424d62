-- What a row says fits the operation that is due.
use Rattle.std.proofs.Common.{◌≡◌, ◌<◌, ◌+◌, ◌&&◌, ℕ, zero, suc, Bool, true, false, Option, Some, None, refl, arith}
use Rattle.std.specs.Prelude.{◌==◌, not, nat_lt, nat_le, if◌then◌else◌, is_none}
use Rattle.smm_base.specs.declared.kinds.HandlerType.{HandlerType}
use Rattle.smm_base.specs.declared.status.Status.{Status}
use Rattle.cpu_table.specs.declared.handlers.OpDef.{OpDef}
use Rattle.cpu_table.specs.declared.handlers.OpDef.TheVariants as op
use Rattle.sync_words.specs.declared.label.StartRefusal.{StartRefusal}
use Rattle.sync_words.specs.declared.label.StartRefusal.TheVariants as cause
use Rattle.sync_words.specs.declared.label.Label.TheVariants as say
use Rattle.handler_registry.specs.Registrations.{is_full}
use Rattle.handler_ops.specs.declared.row.Row.{Row}
use Rattle.handler_ops.specs.declared.row.Row.TheVariants as row
use Rattle.serving_place.specs.declared.token.TokenState.{TokenState}
use Rattle.serving_place.specs.declared.token.TokenState.TheVariants.{NotOut, Uncollected, Collected}
use Rattle.serving_place.specs.Serving.{Serving, number, seat, token_of, tokens_out}
use Rattle.serving_place.specs.Operations.{procedure_place}
use Rattle.serving_place.specs.Setting.{Setting, first_cause}
use Rattle.serving_place.specs.Due.{Due, Nothing, Saying, Awaiting, Doing, due}
use Rattle.handler_ops.specs.Course.{Course, Desks, Reach, Outside, AtHand, Working, Elsewhere, reach, has_job, is_held, read_label, write_label, register_label, open_label}
use Rattle.handler_ops.specs.NextRow.{desk_row, start_row, checking_row, waiting_row, operation_row, due_row, row_of}
use Rattle.serving_place.specs.Sayings.{LabelFits, HasRoom, operation_due}
use Rattle.handler_ops.specs.Answering.{RowFits}

read_fits : (o : OpDef) (s : Serving) (r : Reach) (c reg width : ℕ) (S : Status) → RowFits (desk_row r c (read_label c reg width 0) S (row.Reading c reg width)) (Some o) s
read_fits o s Outside c reg width S = tt
read_fits o s AtHand c reg width S = tt
read_fits o s Working c reg width S = tt
read_fits o s Elsewhere c reg width S = tt

write_fits : (o : OpDef) (s : Serving) (r : Reach) (c reg width x : ℕ) (S : Status) → RowFits (desk_row r c (write_label c reg width x) S (row.Writing c reg width x)) (Some o) s
write_fits o s Outside c reg width x S = tt
write_fits o s AtHand c reg width x S = tt
write_fits o s Working c reg width x S = tt
write_fits o s Elsewhere c reg width x S = tt

start_fits : (o : OpDef) (s : Serving) (x : Option StartRefusal) (job held marked : Bool) (c p a : ℕ) (collect : Row) → (x ≡ None → HasRoom o (tokens_out s)) → RowFits collect (Some o) s
    → RowFits (start_row x job held marked c collect (say.Start c (s.given + 1) p a)) (Some o) s
start_fits o s (Some x) job held marked c p a collect h k = tt
start_fits o s None true held marked c p a collect h k = k
start_fits o s None false false marked c p a collect h k = tt
start_fits o s None false true false c p a collect h k = tt
start_fits o s None false true true c p a collect h k = (refl, h refl)

-- no cause refuses, and so a token has room
none_refuses : (a b d : Bool) (tokens : ℕ)
    → (if not a then Some cause.OutOfRange else (if b then Some cause.BootProcessor else (if d then Some cause.UnknownProcedure else (if true && nat_le 64 tokens then Some cause.Tokens else None)))) ≡ None
    → tokens < 64
none_refuses false b d tokens e = absurd cc
none_refuses true true d tokens e = absurd cc
none_refuses true false true tokens e = absurd cc
none_refuses true false false tokens e = at_count (nat_le 64 tokens) refl e
  where
    at_count : (b : Bool) → nat_le 64 tokens ≡ b → (if b then Some cause.Tokens else None) ≡ None → tokens < 64
    at_count true h e = absurd cc
    at_count false h e = grind (arith, h)

checking_fits : (o : OpDef) (s : Serving) (x : TokenState) (n : ℕ) → RowFits (checking_row x n) (Some o) s
checking_fits o s NotOut n = tt
checking_fits o s (Uncollected c) n = tt
checking_fits o s (Collected t) n = tt

waiting_fits : (o : OpDef) (s : Serving) (x : TokenState) (n : ℕ) → RowFits (waiting_row x n) (Some o) s
waiting_fits o s NotOut n = tt
waiting_fits o s (Uncollected c) n = tt
waiting_fits o s (Collected t) n = tt

register_fits : (o : OpDef) (full : Bool) (h last given tokens : ℕ) → LabelFits (register_label full h last) o given tokens full
register_fits o true h last given tokens = tt
register_fits o false h last given tokens = refl

open_fits : (o : OpDef) (n : ℕ) (kind : HandlerType) (given tokens : ℕ) (full : Bool) → LabelFits (open_label n kind) o given tokens full
open_fits o zero kind given tokens full = tt
open_fits o (suc n) kind given tokens full = tt

operation_fits : (t : Setting) (held : Desks) (s : Serving) (marked : Bool) (n : ℕ) (o : OpDef) → RowFits (operation_row t held s marked n o) (Some o) s
operation_fits t held s marked n (op.Set into v) = tt
operation_fits t held s marked n (op.Read c reg width into) = read_fits (op.Read c reg width into) s (reach t held s c) c reg width _
operation_fits t held s marked n (op.Write c reg width v) = write_fits (op.Write c reg width v) s (reach t held s c) c reg width (number s v) _
operation_fits t held s marked n (op.Start c name arg into) =
    start_fits (op.Start c name arg into) s (first_cause t s false c (procedure_place t.program.procedures name)) (has_job (seat s c)) (is_held held c) marked c _ _ (row.AwaitingJob c) (λ e. tt) tt
operation_fits t held s marked n (op.Launch c name arg into) =
    start_fits (op.Launch c name arg into) s (first_cause t s true c (procedure_place t.program.procedures name)) (has_job (seat s c)) (is_held held c) marked c _ _
    (row.ClaimingJob c (say.Refuse c cause.Busy))
    (none_refuses (nat_lt c t.processors) (c == t.me) (is_none (procedure_place t.program.procedures name)) (tokens_out s)) tt
operation_fits t held s marked n (op.Check v) = checking_fits (op.Check v) s (token_of s (number s v)) (number s v)
operation_fits t held s marked n (op.Wait v into) = waiting_fits (op.Wait v into) s (token_of s (number s v)) (number s v)
operation_fits t held s marked n (op.Alloc v into) = tt
operation_fits t held s marked n (op.Free v) = tt
operation_fits t held s marked n (op.Register h kind into) = register_fits (op.Register h kind into) (is_full s.registrations) h s.registrations.last s.given (tokens_out s)
operation_fits t held s marked n (op.Unregister v) = tt
operation_fits t held s marked n (op.Manage kind) = open_fits (op.Manage kind) n kind s.given (tokens_out s) (is_full s.registrations)

due_fits : (t : Setting) (held : Desks) (s : Serving) (marked : Bool) (d : Due) → RowFits (due_row t held s marked d) (operation_due d) s
due_fits t held s marked Nothing = tt
due_fits t held s marked (Saying l) = tt
due_fits t held s marked (Awaiting c) = tt
due_fits t held s marked (Doing n o) = operation_fits t held s marked n o

pub row_fits : (t : Setting) (held : Desks) (c : Course) → RowFits (row_of t held c) (operation_due (due t.program c.place)) c.place.state
row_fits t held c = due_fits t held c.place.state c.marked (due t.program c.place)

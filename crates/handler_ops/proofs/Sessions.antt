-- A whole course: what it said so far can be made whole, and it is finished exactly where that is whole.
use Rattle.std.proofs.Common.{◌≡◌, ◌↔◌, ◌⊎◌, inl, inr, ℕ, zero, suc, ◌+◌, Bool, true, false, not, ◌&&◌, ◌||◌, List, [], ◌∷◌, ◌++◌, length, Option, Some, None, Result, Ok, Err, refl, sym, ap, ◌∙◌, subst, if◌then◌else◌}
use Rattle.std.proofs.lemmas.Bool.{eqb-true, eqb-false, or_cases, and_parts, not-true}
use Rattle.std.proofs.lemmas.List.{append-nil}
use Rattle.std.specs.Prelude.{slice_index_or, slice_set, replicate, ◌==◌, unwrap_or}
use Rattle.smm_base.specs.declared.kinds.HandlerType.{HandlerType}
use Rattle.smm_base.specs.declared.status.Status.{Status}
use Rattle.smm_base.specs.declared.status.Status.TheVariants.{Success, InvalidParameter, NotReady}
use Rattle.cpu_table.specs.Data.{SetupData}
use Rattle.cpu_table.specs.declared.handlers.OpDef.{OpDef}
use Rattle.cpu_table.specs.declared.handlers.OpDef.TheVariants as op
use Rattle.sync_words.specs.declared.label.StartRefusal.{StartRefusal}
use Rattle.sync_words.specs.declared.label.StartRefusal.TheVariants as cause
use Rattle.sync_words.specs.declared.label.Label.{Label}
use Rattle.sync_words.specs.declared.label.Label.TheVariants as say
use Rattle.handler_registry.specs.declared.registration.Registration.{Registration}
use Rattle.handler_registry.specs.Registrations.{Registrations, is_live, is_full}
use Rattle.smi_manage.specs.declared.running.Running.{Running}
use Rattle.smram_pool.specs.declared.error.PoolError.{PoolError}
use Rattle.smram_pool.specs.State.{PoolState, allocated, freed}
use Rattle.handler_ops.specs.declared.need.Need.TheVariants as need
use Rattle.serving_place.specs.declared.seat.Seat.{Seat}
use Rattle.serving_place.specs.declared.seat.Seat.TheVariants.{Free, Open}
use Rattle.serving_place.specs.declared.token.TokenState.{TokenState}
use Rattle.serving_place.specs.declared.token.TokenState.TheVariants.{NotOut, Uncollected, Collected}
use Rattle.serving_place.specs.Serving.{Serving, number, seat, ran, run_at, token_of, IsFree, IsDone}
use Rattle.serving_place.specs.Operations.{procedure_place, free_status, unregister_status, alloc_label}
use Rattle.serving_place.specs.Forms.{Event, Program, IsWhole, IsPrefix, turn_of}
use Rattle.serving_place.specs.Beginning.{at_begin}
use Rattle.serving_place.specs.Places.{Call, OpenWalk, Begun, First, Started, Awaited, Place, levels_left, next, at_first}
use Rattle.serving_place.specs.Stands.{StandsFor, Leads}
use Rattle.serving_place.specs.Setting.{Setting, first_cause}
use Rattle.serving_place.specs.Due.{Due, Nothing, Saying, Awaiting, Doing, due_left, due_turn, due_turns, due_in_call, due_in_walk, due_begun, due}
use Rattle.handler_ops.specs.Course.{Course, Desks, Move, Quiet, Speaks, Takes, Step, Reach, Outside, AtHand, Working, Elsewhere, JobDone, is_held, desk_of, image_in, read_of, shown_value, write_of, read_label, write_label, blank, claiming_desk, claiming_job, awaiting_job, has_job, reach, by_desk, by_start_rule, checking, waiting, register_label, open_label, operation_step, due_step, need_of, done_on, with_run, said, after_all, moved}
use Rattle.handler_ops.specs.Conditions.{IsSound, held_after, Turn, IsAllowed, AllAllowed, move_of, course_after, said_by, course_of, beginning}
use Rattle.serving_place.proofs.Completion.{now_free, completes}
use Rattle.serving_place.proofs.Judging.{follows, begins, ends_whole, regroup}
use Rattle.serving_place.proofs.Seats.{SeatsBy, step_seats}
use Rattle.handler_ops.proofs.Rows.{ReachTells, reach_tells, no_job_free, step_leads, finished}

-- labels that give no job and take none away
abbrev IsPlain : Label → Type 0
IsPlain (say.Start c j p a) = ⊥
IsPlain (say.Collect c) = ⊥
IsPlain _ = Unit {0}

plain_seats : (l : Label) (qs rs : List Seat) → IsPlain l → SeatsBy l qs rs → rs ≡ qs
plain_seats (say.Start c j p a) qs rs g h = absurd g
plain_seats (say.Collect c) qs rs g h = absurd g
plain_seats _ qs rs g h = h

-- a seat that was set, and the others
set_case : (P : Seat → Type 0) (qs : List Seat) (c i : ℕ) (q : Seat) → P q → P (slice_index_or qs i Free) → P (slice_index_or (slice_set qs c q) i Free)
set_case P [] c i q a b = b
set_case P (x ∷ qs) zero zero q a b = a
set_case P (x ∷ qs) zero (suc i) q a b = b
set_case P (x ∷ qs) (suc c) zero q a b = b
set_case P (x ∷ qs) (suc c) (suc i) q a b = set_case P qs c i q a b

set_other : (qs : List Seat) (c i : ℕ) (q : Seat) → (i ≡ c → ⊥) → slice_index_or (slice_set qs c q) i Free ≡ slice_index_or qs i Free
set_other [] c i q h = refl
set_other (x ∷ qs) zero zero q h = absurd (h refl)
set_other (x ∷ qs) zero (suc i) q h = refl
set_other (x ∷ qs) (suc c) zero q h = refl
set_other (x ∷ qs) (suc c) (suc i) q h = set_other qs c i q (λ e. h (ap suc e))

set_twice : (qs : List Seat) (c : ℕ) (a b : Seat) → slice_set (slice_set qs c a) c b ≡ slice_set qs c b
set_twice [] c a b = refl
set_twice (x ∷ qs) zero a b = refl
set_twice (x ∷ qs) (suc c) a b = ap (λ (rs : List Seat). x ∷ rs) (set_twice qs c a b)

set_length : (qs : List Seat) (c : ℕ) (q : Seat) → length (slice_set qs c q) ≡ length qs
set_length [] c q = refl
set_length (x ∷ qs) zero q = refl
set_length (x ∷ qs) (suc c) q = rw (set_length qs c q) refl

-- what a move makes of the seats
abbrev MoveSeats : Move → List Seat → List Seat → Type 0
MoveSeats (Quiet b) qs rs = rs ≡ qs
MoveSeats (Speaks l) qs rs = SeatsBy l qs rs
MoveSeats (Takes c) qs rs = rs ≡ slice_set qs c Free

label_length : (l : Label) (qs rs : List Seat) → SeatsBy l qs rs → length rs ≡ length qs
label_length (say.Start c j p a) qs rs h = ap (λ (x : List Seat). length x) h.1 ∙ set_length qs c (Open j h.0)
label_length (say.Collect c) qs rs h = ap (λ (x : List Seat). length x) h ∙ set_length qs c Free
label_length _ qs rs h = ap (λ (x : List Seat). length x) h

move_length : (m : Move) (qs rs : List Seat) → MoveSeats m qs rs → length rs ≡ length qs
move_length (Quiet b) qs rs h = ap (λ (x : List Seat). length x) h
move_length (Speaks l) qs rs h = label_length l qs rs h
move_length (Takes c) qs rs h = ap (λ (x : List Seat). length x) h ∙ set_length qs c Free

abbrev NotDone : Seat → Type 0
NotDone q = IsDone q → ⊥

label_undone : (l : Label) (qs rs : List Seat) (i : ℕ) → SeatsBy l qs rs → NotDone (slice_index_or qs i Free) → NotDone (slice_index_or rs i Free)
label_undone (say.Start c j p a) qs rs i h u = subst (λ (x : List Seat). NotDone (slice_index_or x i Free)) (sym h.1) (set_case (λ q. NotDone q) qs c i (Open j h.0) (λ e. e) u)
label_undone (say.Collect c) qs rs i h u = subst (λ (x : List Seat). NotDone (slice_index_or x i Free)) (sym h) (set_case (λ q. NotDone q) qs c i Free (λ e. e) u)
label_undone _ qs rs i h u = subst (λ (x : List Seat). NotDone (slice_index_or x i Free)) (sym h) u

move_undone : (m : Move) (qs rs : List Seat) (i : ℕ) → MoveSeats m qs rs → NotDone (slice_index_or qs i Free) → NotDone (slice_index_or rs i Free)
move_undone (Quiet b) qs rs i h u = subst (λ (x : List Seat). NotDone (slice_index_or x i Free)) (sym h) u
move_undone (Speaks l) qs rs i h u = label_undone l qs rs i h u
move_undone (Takes c) qs rs i h u = subst (λ (x : List Seat). NotDone (slice_index_or x i Free)) (sym h) (set_case (λ q. NotDone q) qs c i Free (λ e. e) u)

-- A step is calm where a processor whose desk is held after it has no job after it.
abbrev Idle : List Seat → (ℕ → Bool) → Type 0
Idle qs there = (i : ℕ) → there i ≡ true → IsFree (slice_index_or qs i Free)

abbrev StepCalm : List Seat → Desks → Step → Type 0
StepCalm qs held step = (found : ℕ) (now : Desks) (rs : List Seat) → MoveSeats (step.on found now) qs rs → Idle rs (held_after step.need found held)

free_in : (qs rs : List Seat) (i : ℕ) → rs ≡ qs → IsFree (slice_index_or qs i Free) → IsFree (slice_index_or rs i Free)
free_in qs rs i e h = subst (λ (x : List Seat). IsFree (slice_index_or x i Free)) (sym e) h

-- the seat of the processor whose job was collected, and the others
free_taken : (qs rs : List Seat) (held : Desks) (c i : ℕ) → Idle qs (is_held held) → rs ≡ slice_set qs c Free
    → (is_held held i ≡ true) ⊎ ((i == c) ≡ true) → IsFree (slice_index_or rs i Free)
free_taken qs rs held c i idle e (inl h) = free_in (slice_set qs c Free) rs i e (set_case (λ q. IsFree q) qs c i Free tt (idle i h))
free_taken qs rs held c i idle e (inr h) =
    free_in (slice_set qs c Free) rs i e
    (subst (λ (k : ℕ). IsFree (slice_index_or (slice_set qs c Free) k Free)) (sym (eqb-true i c h)) (subst (λ (q : Seat). IsFree q) (sym (now_free qs c)) tt))

looking_calm : (qs : List Seat) (held : Desks) (own : Desks → Label) → ((now : Desks) → IsPlain (own now)) → Idle qs (is_held held)
    → StepCalm qs held (record { need = need.Look; on = λ found now. Speaks (own now) })
looking_calm qs held own g idle = λ found now rs h i e. free_in qs rs i (plain_seats (own now) qs rs (g now) h) (idle i e)

claimed_desk : (qs : List Seat) (held : Desks) (c : ℕ) (l : Label) → IsPlain l → IsFree (slice_index_or qs c Free) → Idle qs (is_held held)
    → (b : Bool) (rs : List Seat) → MoveSeats (if b then Quiet false else Speaks l) qs rs → (i : ℕ) → (is_held held i || (b && (i == c))) ≡ true → IsFree (slice_index_or rs i Free)
claimed_desk qs held c l g free idle true rs h i e = elim (or_cases (is_held held i) (i == c) e) [
  | inl f ↦ free_in qs rs i h (idle i f)
  | inr f ↦ free_in qs rs i h (subst (λ (k : ℕ). IsFree (slice_index_or qs k Free)) (sym (eqb-true i c f)) free)
]
claimed_desk qs held c l g free idle false rs h i e = elim (or_cases (is_held held i) false e) [
  | inl f ↦ free_in qs rs i (plain_seats l qs rs g h) (idle i f)
  | inr f ↦ cc
]

claimed_job : (qs : List Seat) (held : Desks) (c : ℕ) (l : Label) → IsPlain l → Idle qs (is_held held)
    → (b : Bool) (rs : List Seat) → MoveSeats (if b then Takes c else Speaks l) qs rs → (i : ℕ) → (is_held held i || (b && (i == c))) ≡ true → IsFree (slice_index_or rs i Free)
claimed_job qs held c l g idle true rs h i e = free_taken qs rs held c i idle h (or_cases (is_held held i) (i == c) e)
claimed_job qs held c l g idle false rs h i e = elim (or_cases (is_held held i) false e) [
  | inl f ↦ free_in qs rs i (plain_seats l qs rs g h) (idle i f)
  | inr f ↦ cc
]

claiming_desk_calm : (qs : List Seat) (held : Desks) (c : ℕ) (l : Label) → IsPlain l → IsFree (slice_index_or qs c Free) → Idle qs (is_held held)
    → StepCalm qs held (claiming_desk c l)
claiming_desk_calm qs held c l g free idle = λ found now rs h i e. claimed_desk qs held c l g free idle (found == 1) rs h i e

claiming_job_calm : (qs : List Seat) (held : Desks) (c : ℕ) (l : Label) → IsPlain l → Idle qs (is_held held) → StepCalm qs held (claiming_job c l)
claiming_job_calm qs held c l g idle = λ found now rs h i e. claimed_job qs held c l g idle (found == 2) rs h i e

awaiting_job_calm : (qs : List Seat) (held : Desks) (c : ℕ) → Idle qs (is_held held) → StepCalm qs held (awaiting_job c)
awaiting_job_calm qs held c idle = λ found now rs h i e. free_taken qs rs held c i idle h (or_cases (is_held held i) (i == c) e)

desk_calm : (qs : List Seat) (held : Desks) (q : Reach) (c : ℕ) (refused : Status → Label) (absent : Status) (own : Desks → Label)
    → ((S : Status) → IsPlain (refused S)) → ((now : Desks) → IsPlain (own now)) → ReachTells (slice_index_or qs c Free) q → Idle qs (is_held held)
    → StepCalm qs held (by_desk q c refused absent own)
desk_calm qs held Outside c refused absent own a b tell idle = looking_calm qs held (λ now. refused InvalidParameter) (λ now. a InvalidParameter) idle
desk_calm qs held AtHand c refused absent own a b tell idle = looking_calm qs held own b idle
desk_calm qs held Working c refused absent own a b tell idle = claiming_job_calm qs held c (refused NotReady) (a NotReady) idle
desk_calm qs held Elsewhere c refused absent own a b tell idle = claiming_desk_calm qs held c (refused absent) (a absent) tell idle

given_calm : (qs : List Seat) (held : Desks) (c j p a : ℕ) → Idle qs (is_held held)
    → StepCalm qs held (record { need = need.RaiseRun c; on = λ found now. Speaks (say.Start c j p a) })
given_calm qs held c j p a idle = λ found now rs h i e.
    let parts = and_parts (is_held held i) (not (i == c)) e in
    free_in (slice_set qs c (Open j h.0)) rs i h.1
    (subst (λ (q : Seat). IsFree q) (sym (set_other qs c i (Open j h.0) (eqb-false i c (not-true (i == c) parts.1)))) (idle i parts.0))

rule_calm : (qs : List Seat) (held : Desks) (o : Option StartRefusal) (job there marked : Bool) (c : ℕ) (collect : Step) (j p a : ℕ)
    → (job ≡ false → IsFree (slice_index_or qs c Free)) → Idle qs (is_held held) → StepCalm qs held collect
    → StepCalm qs held (by_start_rule o job there marked c collect (say.Start c j p a))
rule_calm qs held (Some x) job there marked c collect j p a f idle b = looking_calm qs held (λ now. say.Refuse c x) (λ now. tt) idle
rule_calm qs held None true there marked c collect j p a f idle b = b
rule_calm qs held None false false marked c collect j p a f idle b = claiming_desk_calm qs held c (say.Refuse c cause.Absent) tt (f refl) idle
rule_calm qs held None false true false c collect j p a f idle b = λ found now rs h i e. free_in qs rs i h (idle i e)
rule_calm qs held None false true true c collect j p a f idle b = given_calm qs held c j p a idle

checking_calm : (qs : List Seat) (held : Desks) (q : TokenState) (n : ℕ) → Idle qs (is_held held) → StepCalm qs held (checking q n)
checking_calm qs held NotOut n idle = looking_calm qs held (λ now. say.Check n InvalidParameter) (λ now. tt) idle
checking_calm qs held (Uncollected c) n idle = claiming_job_calm qs held c (say.Check n NotReady) tt idle
checking_calm qs held (Collected t) n idle = looking_calm qs held (λ now. say.Check n Success) (λ now. tt) idle

waiting_calm : (qs : List Seat) (held : Desks) (q : TokenState) (n : ℕ) → Idle qs (is_held held) → StepCalm qs held (waiting q n)
waiting_calm qs held NotOut n idle = looking_calm qs held (λ now. say.Wait n 0 InvalidParameter) (λ now. tt) idle
waiting_calm qs held (Uncollected c) n idle = awaiting_job_calm qs held c idle
waiting_calm qs held (Collected t) n idle = looking_calm qs held (λ now. say.Wait n t.result t.status) (λ now. tt) idle

alloc_plain : (n : ℕ) (r : Result ℕ PoolError) → IsPlain (alloc_label n r)
alloc_plain n (Ok place) = tt
alloc_plain n (Err e) = tt

register_plain : (b : Bool) (h last : ℕ) → IsPlain (register_label b h last)
register_plain true h last = tt
register_plain false h last = tt

open_plain : (n : ℕ) (kind : HandlerType) → IsPlain (open_label n kind)
open_plain zero kind = tt
open_plain (suc n) kind = tt

operation_calm : (t : Setting) (held : Desks) (s : Serving) (marked : Bool) (n : ℕ) (o : OpDef) → IsSound t (is_held held) s
    → StepCalm s.seats held (operation_step t held s marked n o)
operation_calm t held s marked n (op.Set into v) sound = looking_calm s.seats held (λ now. say.Set into (number s v)) (λ now. tt) sound.idle
operation_calm t held s marked n (op.Read c reg width into) sound =
    desk_calm s.seats held (reach t held s c) c (read_label c reg width 0) (read_of t false blank c reg width).status
    (λ now. let a = read_of t true (image_in (desk_of now c)) c reg width in read_label c reg width (shown_value a) a.status)
    (λ S. tt) (λ now. tt) (reach_tells t held s c sound) sound.idle
operation_calm t held s marked n (op.Write c reg width v) sound =
    desk_calm s.seats held (reach t held s c) c (write_label c reg width (number s v)) (write_of false blank reg width (number s v)).status
    (λ now. write_label c reg width (number s v) (write_of true (image_in (desk_of now c)) reg width (number s v)).status)
    (λ S. tt) (λ now. tt) (reach_tells t held s c sound) sound.idle
operation_calm t held s marked n (op.Start c name arg into) sound =
    rule_calm s.seats held (first_cause t s false c (procedure_place t.program.procedures name)) (has_job (seat s c)) (is_held held c) marked c (awaiting_job c)
    (s.given + 1) (unwrap_or (procedure_place t.program.procedures name) 0) (number s arg)
    (no_job_free (seat s c)) sound.idle (awaiting_job_calm s.seats held c sound.idle)
operation_calm t held s marked n (op.Launch c name arg into) sound =
    rule_calm s.seats held (first_cause t s true c (procedure_place t.program.procedures name)) (has_job (seat s c)) (is_held held c) marked c (claiming_job c (say.Refuse c cause.Busy))
    (s.given + 1) (unwrap_or (procedure_place t.program.procedures name) 0) (number s arg)
    (no_job_free (seat s c)) sound.idle (claiming_job_calm s.seats held c (say.Refuse c cause.Busy) tt sound.idle)
operation_calm t held s marked n (op.Check v) sound = checking_calm s.seats held (token_of s (number s v)) (number s v) sound.idle
operation_calm t held s marked n (op.Wait v into) sound = waiting_calm s.seats held (token_of s (number s v)) (number s v) sound.idle
operation_calm t held s marked n (op.Alloc v into) sound = looking_calm s.seats held (λ now. alloc_label (number s v) (allocated (number s v) s.pool).0) (λ now. alloc_plain (number s v) (allocated (number s v) s.pool).0) sound.idle
operation_calm t held s marked n (op.Free v) sound = looking_calm s.seats held (λ now. say.Free (number s v) (free_status (freed (number s v) s.pool).0)) (λ now. tt) sound.idle
operation_calm t held s marked n (op.Register h kind into) sound = looking_calm s.seats held (λ now. register_label (is_full s.registrations) h s.registrations.last) (λ now. register_plain (is_full s.registrations) h s.registrations.last) sound.idle
operation_calm t held s marked n (op.Unregister v) sound = looking_calm s.seats held (λ now. say.Unregister (number s v) (unregister_status (is_live (number s v) s.registrations))) (λ now. tt) sound.idle
operation_calm t held s marked n (op.Manage kind) sound = looking_calm s.seats held (λ now. open_label n kind) (λ now. open_plain n kind) sound.idle

-- a label that is due is plain
abbrev IsPlainDue : Due → Type 0
IsPlainDue (Saying l) = IsPlain l
IsPlainDue _ = Unit {0}

left_plain : (left : ℕ) (d : Due) → IsPlainDue d → IsPlainDue (due_left left d)
left_plain zero d h = tt
left_plain (suc n) d h = h

turns_plain : (kind : HandlerType) (turns : List ℕ) (r : Running) (g : Registrations) (left : ℕ) → IsPlainDue (due_turns kind turns r g left)
turns_plain kind [] r g left = tt
turns_plain kind (n ∷ turns) r g left = at_turn (turn_of kind g n) (turns_plain kind turns r g left)
  where
    at_turn : (o : Option Registration) → IsPlainDue (due_turns kind turns r g left)
        → IsPlainDue (due_turn o (due_turns kind turns r g left) (λ h. due_left left (Saying (say.Call h))))
    at_turn None h = h
    at_turn (Some x) h = left_plain left (Saying (say.Call x.handler)) tt

in_walk_plain : (program : Program) (n : ℕ) (w : OpenWalk) (c : Option Call) (g : Registrations) (left : ℕ) → IsPlainDue (due_in_walk program n w c g left)
in_walk_plain program n w None g left = turns_plain w.kind w.turns w.running g left
in_walk_plain program n w (Some c) g left = in_call c.ops
  where
    in_call : (os : List OpDef) → IsPlainDue (due_in_call program n c.handler os left)
    in_call [] = tt
    in_call (o ∷ os) = left_plain left (Doing n o) tt

plain_due : (program : Program) (kinds : List HandlerType) (walks : List OpenWalk) (b : Option Begun) (g : Registrations) (left : ℕ)
    → IsPlainDue (due_begun program kinds walks b g left)
plain_due program [] [] None g left = tt
plain_due program (d ∷ ds) [] None g left = left_plain left (Saying (say.Manage d)) tt
plain_due program [] (w ∷ ws) None g left = in_walk_plain program (levels_left (w ∷ ws)) w w.called g left
plain_due program (d ∷ ds) (w ∷ ws) None g left = in_walk_plain program (levels_left (w ∷ ws)) w w.called g left
plain_due program kinds walks (Some (First w)) g left = tt
plain_due program kinds walks (Some (Started o)) g left = tt
plain_due program kinds walks (Some (Awaited c into)) g left = tt

due_calm : (t : Setting) (held : Desks) (s : Serving) (marked : Bool) (d : Due) → IsPlainDue d → IsSound t (is_held held) s
    → StepCalm s.seats held (due_step t held s marked d)
due_calm t held s marked Nothing g sound = λ found now rs h i e. free_in s.seats rs i h (sound.idle i e)
due_calm t held s marked (Saying l) g sound = looking_calm s.seats held (λ now. l) (λ now. g) sound.idle
due_calm t held s marked (Awaiting c) g sound = awaiting_job_calm s.seats held c sound.idle
due_calm t held s marked (Doing n o) g sound = operation_calm t held s marked n o sound

-- the seats after a move whose events the place takes
run_seats : (program : Program) (p : Place) (c : ℕ) (o : Option JobDone) → Leads program p (with_run c o) (after_all program p (with_run c o))
    → (after_all program p (with_run c o)).state.seats ≡ slice_set p.state.seats c Free
run_seats program p c None h = step_seats program p (say.Collect c) h.0
run_seats program p c (Some d) h =
    step_seats program (record p { state = ran c d.result d.status p.state }) (say.Collect c) h.1.0
    ∙ set_twice p.state.seats c (run_at (seat p.state c) d.result d.status) Free

move_seats : (t : Setting) (course : Course) (m : Move) (now : Desks) → Leads t.program course.place (said m now) (moved t course m now).place
    → MoveSeats m course.place.state.seats (moved t course m now).place.state.seats
move_seats t course (Quiet b) now h = refl
move_seats t course (Speaks l) now h = step_seats t.program course.place l h.0
move_seats t course (Takes c) now h = run_seats t.program course.place c (done_on (desk_of now c)) h

-- what the calls may count on goes on
sound_here : (t : Setting) (there : ℕ → Bool) (course : Course) (u : Turn) → IsSound t there course.place.state → IsAllowed t there course u
    → IsSound t (is_held u.held) course.place.state
sound_here t there course u sound allowed =
    record { size = sound.size; mine = allowed.held t.me ∙ sound.mine; idle = λ c e. sound.idle c (sym (allowed.held c) ∙ e); undone = sound.undone }

turn_leads : (t : Setting) (there : ℕ → Bool) (course : Course) (u : Turn) → IsSound t there course.place.state → IsAllowed t there course u
    → Leads t.program course.place (said (move_of t course u) u.now) (course_after t course u).place
turn_leads t there course u sound allowed = step_leads t u.held course u.found u.now (sound_here t there course u sound allowed) allowed.came

pub turn_sound : (t : Setting) (there : ℕ → Bool) (course : Course) (u : Turn) → IsSound t there course.place.state → IsAllowed t there course u
    → IsSound t (is_held u.now) (course_after t course u).place.state
turn_sound t there course u sound allowed =
    let p = course.place in
    let here = sound_here t there course u sound allowed in
    let seats = move_seats t course (move_of t course u) u.now (turn_leads t there course u sound allowed) in
    let calm = due_calm t u.held p.state course.marked (due t.program p) (plain_due t.program p.kinds p.walks p.begun p.state.registrations p.state.left) here in
    record {
      size = move_length (move_of t course u) p.state.seats (course_after t course u).place.state.seats seats ∙ sound.size;
      mine = allowed.mine;
      idle = λ i e. calm u.found u.now (course_after t course u).place.state.seats seats i (sym (allowed.hands i) ∙ e);
      undone = λ i. move_undone (move_of t course u) p.state.seats (course_after t course u).place.state.seats i seats (sound.undone i);
    }

-- turns in a row
leads_append : (program : Program) (p : Place) (es : List Event) (q : Place) (fs : List Event) (r : Place)
    → Leads program p es q → Leads program q fs r → Leads program p (es ++ fs) r
leads_append program p [] q fs r h k = subst (λ (x : Place). Leads program x fs r) (sym h) k
leads_append program p (e ∷ es) q fs r h k = (h.0, leads_append program (next program p e) es q fs r h.1 k)

course_leads : (t : Setting) (there : ℕ → Bool) (course : Course) (turns : List Turn) → IsSound t there course.place.state → AllAllowed t there course turns
    → Leads t.program course.place (said_by t course turns) (course_of t course turns).place
course_leads t there course [] sound allowed = refl
course_leads t there course (u ∷ us) sound allowed =
    leads_append t.program course.place (said (move_of t course u) u.now) (course_after t course u).place (said_by t (course_after t course u) us) (course_of t (course_after t course u) us).place
    (turn_leads t there course u sound allowed.0)
    (course_leads t (is_held u.now) (course_after t course u) us (turn_sound t there course u sound allowed.0) allowed.1)

pub stands_along : (program : Program) (w : ℕ) (kinds : List HandlerType) (s : Serving) (p : Place) (es fs : List Event) (q : Place)
    → StandsFor program w kinds s p es → Leads program p fs q → StandsFor program w kinds s q (es ++ fs)
stands_along program w kinds s p es [] q h k =
    subst (λ (x : Place). StandsFor program w kinds s x (es ++ [])) k (subst (λ (xs : List Event). StandsFor program w kinds s p xs) (sym (append-nil es)) h)
stands_along program w kinds s p es (f ∷ fs) q h k =
    subst (λ (xs : List Event). StandsFor program w kinds s q xs) (regroup es f fs)
    (stands_along program w kinds s (next program p f) (es ++ f ∷ []) fs q ((follows program w kinds s p es f h).after k.0) k.1)

course_stands : (t : Setting) (w : ℕ) (kinds : List HandlerType) (s : Serving) (there : ℕ → Bool) (turns : List Turn)
    → IsSound t there s → AllAllowed t there (beginning w kinds s) turns
    → StandsFor t.program w kinds s (course_of t (beginning w kinds s) turns).place (said_by t (beginning w kinds s) turns)
course_stands t w kinds s there turns sound allowed =
    stands_along t.program w kinds s (at_first w kinds s) [] (said_by t (beginning w kinds s) turns) (course_of t (beginning w kinds s) turns).place (begins t.program w kinds s)
    (course_leads t there (beginning w kinds s) turns sound allowed)

pub course_prefix : (t : Setting) (w : ℕ) (kinds : List HandlerType) (s : Serving) (there : ℕ → Bool) (turns : List Turn)
    → IsSound t there s → AllAllowed t there (beginning w kinds s) turns → IsPrefix t.program w kinds s (said_by t (beginning w kinds s) turns)
course_prefix t w kinds s there turns sound allowed =
    let rest = completes t.program (course_of t (beginning w kinds s) turns).place in
    (rest.0, (course_stands t w kinds s there turns sound allowed rest.0).1 rest.1)

pub course_finished : (t : Setting) (w : ℕ) (kinds : List HandlerType) (s : Serving) (there : ℕ → Bool) (turns : List Turn) (held : Desks)
    → IsSound t there s → AllAllowed t there (beginning w kinds s) turns
    → (need_of t held (course_of t (beginning w kinds s) turns) ≡ need.Finished) ↔ IsWhole t.program w kinds s (said_by t (beginning w kinds s) turns)
course_finished t w kinds s there turns held sound allowed =
    let over = finished t held (course_of t (beginning w kinds s) turns) in
    let ends = ends_whole t.program w kinds s (course_of t (beginning w kinds s) turns).place (said_by t (beginning w kinds s) turns) (course_stands t w kinds s there turns sound allowed) in
    (λ h. ends.0 (over.0 h), λ x. over.1 (ends.1 x))

-- the beginning
all_free : (n i : ℕ) → slice_index_or (replicate n Free) i Free ≡ Free
all_free zero i = refl
all_free (suc n) zero = refl
all_free (suc n) (suc i) = all_free n i

replicate_length : (n : ℕ) → length (replicate n Free) ≡ n
replicate_length zero = refl
replicate_length (suc n) = rw (replicate_length n) refl

pub begins_sound : (d : SetupData) (g : Registrations) (m : PoolState) (t : Setting) (there : ℕ → Bool) → t.processors ≡ d.processors → there t.me ≡ true
    → IsSound t there (at_begin d g m)
begins_sound d g m t there e h =
    record {
      size = replicate_length d.processors ∙ sym e;
      mine = h;
      idle = λ c f. subst (λ (q : Seat). IsFree q) (sym (all_free d.processors c)) tt;
      undone = λ c. subst (λ (q : Seat). NotDone q) (sym (all_free d.processors c)) (λ x. x);
    }

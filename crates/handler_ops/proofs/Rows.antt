-- What a course says is what its place may say.
use Rattle.std.proofs.Common.{◌≡◌, ◌<◌, ◌≤◌, ◌↔◌, inl, inr, ℕ, zero, suc, Bool, true, false, not, ◌||◌, List, [], ◌∷◌, length, Option, Some, None, Result, Ok, Err, refl, sym, ap, ◌∙◌, subst, arith, if◌then◌else◌}
use Rattle.std.proofs.lemmas.Bool.{eqb-true, ltb-true, ltb-false, or_cases}
use Rattle.std.specs.Prelude.{slice_index_or, ◌==◌, nat_lt, is_none, unwrap_or}
use Rattle.std.specs.List.{find}
use Rattle.smm_base.specs.declared.kinds.HandlerType.{HandlerType}
use Rattle.smm_base.specs.declared.status.Status.{Status}
use Rattle.smm_base.specs.declared.status.Status.TheVariants.{InvalidParameter, NotReady}
use Rattle.cpu_table.specs.declared.handlers.Operand.{Operand}
use Rattle.cpu_table.specs.declared.handlers.OpDef.{OpDef}
use Rattle.cpu_table.specs.declared.handlers.OpDef.TheVariants as op
use Rattle.sync_words.specs.declared.label.StartRefusal.{StartRefusal}
use Rattle.sync_words.specs.declared.label.StartRefusal.TheVariants as cause
use Rattle.sync_words.specs.declared.label.Label.{Label}
use Rattle.sync_words.specs.declared.label.Label.TheVariants as say
use Rattle.handler_registry.specs.declared.registration.Registration.{Registration}
use Rattle.handler_registry.specs.Registrations.{Registrations, is_full}
use Rattle.smi_manage.specs.declared.running.Running.{Running}
use Rattle.smram_pool.specs.declared.error.PoolError.{PoolError}
use Rattle.smram_pool.specs.State.{allocated}
use Rattle.handler_ops.specs.declared.need.Need.TheVariants as need
use Rattle.serving_place.specs.declared.seat.Seat.{Seat}
use Rattle.serving_place.specs.declared.seat.Seat.TheVariants.{Free, Open, Done}
use Rattle.serving_place.specs.declared.token.TokenState.{TokenState}
use Rattle.serving_place.specs.declared.token.TokenState.TheVariants.{NotOut, Uncollected, Collected}
use Rattle.serving_place.specs.Serving.{Serving, number, seat, ran, token_of, state_of, HasOpen, IsFree, IsDone, HasEnded}
use Rattle.serving_place.specs.Operations.{procedure_place, ReadShows, WriteShows, alloc_label}
use Rattle.serving_place.specs.Forms.{Own, Program, by_left, by_turn, turn_of}
use Rattle.serving_place.specs.Places.{Call, OpenWalk, Begun, First, Started, Awaited, Place, levels_left, MayDo, MayTurn, MayInCall, MayInWalk, MayInWalks, MayBegun, HasMore, Accepts, IsOver}
use Rattle.serving_place.specs.Stands.{Leads}
use Rattle.serving_place.specs.Setting.{Setting, first_cause}
use Rattle.serving_place.specs.Due.{Due, Nothing, Saying, Awaiting, Doing, due_left, due_turn, due_turns, due_in_call, due_in_walk, due_in_walks, due_begun, due}
use Rattle.handler_ops.specs.Course.{Course, Desks, Move, Quiet, Speaks, Takes, Step, Reach, Outside, AtHand, Working, Elsewhere, JobDone, is_held, desk_of, image_in, claiming_job, awaiting_job, has_job, reach, by_desk, read_of, shown_value, write_of, read_label, write_label, blank, reading, writing, by_start_rule, starting, checking, waiting, register_label, open_label, operation_step, due_step, step_of, done_on, with_run, said, after_all, moved}
use Rattle.handler_ops.specs.Conditions.{IsSound, HasCome, CameFor}
use Rattle.serving_place.proofs.Completion.{seat_ran, owner_ran}

-- what is due permits this label
abbrev Permits : Program → Due → Serving → Label → Type 0
Permits program Nothing s l = ⊥
Permits program (Saying m) s l = l ≡ m
Permits program (Awaiting c) s l = (l ≡ say.Collect c) × HasEnded (seat s c)
Permits program (Doing n o) s l = (m : ℕ) → MayDo program.procedures n o (record s { left = m }) l

left_permits : (left : ℕ) (program : Program) (d : Due) (s : Serving) (l : Label) (F : ℕ → Type 0)
    → ((m : ℕ) → Permits program d s l → F m) → Permits program (due_left left d) s l → by_left left (l ≡ say.Spent) F
left_permits zero program d s l F h p = p
left_permits (suc n) program d s l F h p = h n p

turn_permits : (o : Option Registration) (program : Program) (d : Due) (f : ℕ → Due) (s : Serving) (l : Label) (A : Type 0) (F : ℕ → Type 0)
    → (Permits program d s l → A) → ((h : ℕ) → Permits program (f h) s l → F h) → Permits program (due_turn o d f) s l → by_turn o A F
turn_permits None program d f s l A F h k p = h p
turn_permits (Some r) program d f s l A F h k p = k r.handler p

turns_permit : (program : Program) (kind : HandlerType) (turns : List ℕ) (r : Running) (s : Serving) (l : Label)
    → Permits program (due_turns kind turns r s.registrations s.left) s l → MayTurn kind turns r s l
turns_permit program kind [] r s l p = p
turns_permit program kind (n ∷ turns) r s l p =
    turn_permits (turn_of kind s.registrations n) program (due_turns kind turns r s.registrations s.left) (λ h. due_left s.left (Saying (say.Call h))) s l _ _
    (turns_permit program kind turns r s l)
    (λ h. left_permits s.left program (Saying (say.Call h)) s l (λ m. l ≡ say.Call h) (λ m q. q)) p

in_call_permits : (program : Program) (n h : ℕ) (os : List OpDef) (s : Serving) (l : Label)
    → Permits program (due_in_call program n h os s.left) s l → MayInCall program n h os s l
in_call_permits program n h [] s l p = p
in_call_permits program n h (o ∷ os) s l p =
    left_permits s.left program (Doing n o) s l (λ m. MayDo program.procedures n o (record s { left = m }) l) (λ m q. q m) p

in_walk_permits : (program : Program) (n : ℕ) (w : OpenWalk) (c : Option Call) (s : Serving) (l : Label)
    → Permits program (due_in_walk program n w c s.registrations s.left) s l → MayInWalk program n w c s l
in_walk_permits program n w None s l p = turns_permit program w.kind w.turns w.running s l p
in_walk_permits program n w (Some c) s l p = in_call_permits program n c.handler c.ops s l p

in_walks_permit : (program : Program) (kinds : List HandlerType) (walks : List OpenWalk) (s : Serving) (l : Label)
    → Permits program (due_in_walks program kinds walks s.registrations s.left) s l → MayInWalks program kinds walks s l
in_walks_permit program [] [] s l p = p
in_walks_permit program (kind ∷ kinds) [] s l p = left_permits s.left program (Saying (say.Manage kind)) s l (λ m. l ≡ say.Manage kind) (λ m q. q) p
in_walks_permit program [] (w ∷ ws) s l p = in_walk_permits program (levels_left (w ∷ ws)) w w.called s l p
in_walks_permit program (k ∷ ks) (w ∷ ws) s l p = in_walk_permits program (levels_left (w ∷ ws)) w w.called s l p

begun_permits : (program : Program) (kinds : List HandlerType) (walks : List OpenWalk) (b : Option Begun) (s : Serving) (l : Label)
    → Permits program (due_begun program kinds walks b s.registrations s.left) s l → MayBegun program kinds walks b s l
begun_permits program kinds walks None s l p = in_walks_permit program kinds walks s l p
begun_permits program kinds walks (Some (First w)) s l p = p
begun_permits program kinds walks (Some (Started o)) s l p = p s.left
begun_permits program kinds walks (Some (Awaited c into)) s l p = p

permitted : (program : Program) (p : Place) (l : Label) → Permits program (due program p) p.state l → Accepts program p (Own l)
permitted program p l h = begun_permits program p.kinds p.walks p.begun p.state l h

-- something is due exactly where something is left to say
abbrev IsSome : Due → Type 0
IsSome Nothing = ⊥
IsSome _ = Unit {0}

permits_some : (program : Program) (d : Due) (s : Serving) (l : Label) → Permits program d s l → IsSome d
permits_some program Nothing s l h = h
permits_some program (Saying m) s l h = tt
permits_some program (Awaiting c) s l h = tt
permits_some program (Doing n o) s l h = tt

more : (program : Program) (kinds : List HandlerType) (walks : List OpenWalk) (b : Option Begun) (g : Registrations) (left : ℕ)
    → IsSome (due_begun program kinds walks b g left) → HasMore kinds walks b
more program [] [] None g left h = h
more program (d ∷ ds) [] None g left h = tt
more program [] (w ∷ ws) None g left h = tt
more program (d ∷ ds) (w ∷ ws) None g left h = tt
more program [] [] (Some b) g left h = tt
more program (d ∷ ds) [] (Some b) g left h = tt
more program [] (w ∷ ws) (Some b) g left h = tt
more program (d ∷ ds) (w ∷ ws) (Some b) g left h = tt

left_some : (left : ℕ) (d : Due) → IsSome d → IsSome (due_left left d)
left_some zero d h = tt
left_some (suc n) d h = h

turns_some : (kind : HandlerType) (turns : List ℕ) (r : Running) (g : Registrations) (left : ℕ) → IsSome (due_turns kind turns r g left)
turns_some kind [] r g left = tt
turns_some kind (n ∷ turns) r g left = at_turn (turn_of kind g n) (turns_some kind turns r g left)
  where
    at_turn : (o : Option Registration) → IsSome (due_turns kind turns r g left)
        → IsSome (due_turn o (due_turns kind turns r g left) (λ h. due_left left (Saying (say.Call h))))
    at_turn None h = h
    at_turn (Some x) h = left_some left (Saying (say.Call x.handler)) tt

in_walk_some : (program : Program) (n : ℕ) (w : OpenWalk) (c : Option Call) (g : Registrations) (left : ℕ) → IsSome (due_in_walk program n w c g left)
in_walk_some program n w None g left = turns_some w.kind w.turns w.running g left
in_walk_some program n w (Some c) g left = in_call c.ops
  where
    in_call : (os : List OpDef) → IsSome (due_in_call program n c.handler os left)
    in_call [] = tt
    in_call (o ∷ os) = left_some left (Doing n o) tt

some_due : (program : Program) (kinds : List HandlerType) (walks : List OpenWalk) (b : Option Begun) (g : Registrations) (left : ℕ)
    → HasMore kinds walks b → IsSome (due_begun program kinds walks b g left)
some_due program [] [] None g left h = h
some_due program (d ∷ ds) [] None g left h = left_some left (Saying (say.Manage d)) tt
some_due program [] (w ∷ ws) None g left h = in_walk_some program (levels_left (w ∷ ws)) w w.called g left
some_due program (d ∷ ds) (w ∷ ws) None g left h = in_walk_some program (levels_left (w ∷ ws)) w w.called g left
some_due program kinds walks (Some (First w)) g left h = tt
some_due program kinds walks (Some (Started o)) g left h = tt
some_due program kinds walks (Some (Awaited c into)) g left h = tt

-- A move that a step makes.
abbrev pub MoveOk : Program → Due → Serving → Move → Type 0
MoveOk program d s (Quiet b) = Unit {0}
MoveOk program d s (Speaks l) = Permits program d s l
MoveOk program d s (Takes c) = (j x : ℕ) (S : Status) → HasOpen (seat s c) j → Permits program d (ran c x S s) (say.Collect c)

abbrev pub StepOk : Program → Due → Serving → Step → Type 0
StepOk program d s step = (found : ℕ) (now : Desks) → MoveOk program d s (step.on found now)

choice_ok : (program : Program) (d : Due) (s : Serving) (b : Bool) (m n : Move) → MoveOk program d s m → MoveOk program d s n
    → MoveOk program d s (if b then m else n)
choice_ok program d s true m n h k = h
choice_ok program d s false m n h k = k

-- the seats
done_ran : (s : Serving) (c j x : ℕ) (S : Status) → HasOpen (seat s c) j → IsDone (seat (ran c x S s) c)
done_ran s c j x S h = by_seat (seat s c) refl h
  where
    by_seat : (q : Seat) → seat s c ≡ q → HasOpen q j → IsDone (seat (ran c x S s) c)
    by_seat Free e h = absurd h
    by_seat (Open i t) e h = rw (seat_ran s c i x t S e) tt
    by_seat (Done i t y T) e h = absurd h

done_ended : (q : Seat) → IsDone q → HasEnded q
done_ended Free h = tt
done_ended (Open j t) h = h
done_ended (Done j t x S) h = tt

beyond : (qs : List Seat) (c : ℕ) → length qs ≤ c → IsFree (slice_index_or qs c Free)
beyond [] c h = tt
beyond (q ∷ qs) zero h = absurd (omega (arith, h))
beyond (q ∷ qs) (suc c) h = beyond qs c (omega (arith, h))

pub no_job_free : (q : Seat) → has_job q ≡ false → IsFree q
no_job_free Free h = tt
no_job_free (Open j t) h = cc
no_job_free (Done j t x S) h = cc

-- what the case of the desk rule tells of the processor's job
abbrev pub ReachTells : Seat → Reach → Type 0
ReachTells q Working = HasEnded q → ⊥
ReachTells q _ = IsFree q

reach_by : (q : Seat) (outside hand : Bool) → (outside ≡ true → IsFree q) → (hand ≡ true → IsFree q) → (IsDone q → ⊥)
    → ReachTells q (if outside then Outside else (if hand then AtHand else (if has_job q then Working else Elsewhere)))
reach_by q true hand h k u = h refl
reach_by q false true h k u = k refl
reach_by Free false false h k u = tt
reach_by (Open j t) false false h k u = λ e. e
reach_by (Done j t x S) false false h k u = absurd (u tt)

not_false_of : (b : Bool) → not b ≡ true → b ≡ false
not_false_of true h = cc
not_false_of false h = refl

pub reach_tells : (t : Setting) (held : Desks) (s : Serving) (c : ℕ) → IsSound t (is_held held) s → ReachTells (seat s c) (reach t held s c)
reach_tells t held s c sound =
    reach_by (seat s c) (not (nat_lt c t.processors)) ((c == t.me) || is_held held c)
    (λ e. beyond s.seats c (let f : nat_lt c t.processors ≡ false = not_false_of (nat_lt c t.processors) e in omega (arith, ltb-false c t.processors f, sound.size)))
    (λ e. elim (or_cases (c == t.me) (is_held held c) e) [
      | inl f ↦ subst (λ (i : ℕ). IsFree (seat s i)) (sym (eqb-true c t.me f)) (sound.idle t.me sound.mine)
      | inr f ↦ sound.idle c f
    ])
    (sound.undone c)

-- the desk rule
desk_ok : (program : Program) (d : Due) (s : Serving) (q : Reach) (c : ℕ) (refused : Status → Label) (absent : Status) (own : Desks → Label)
    → (IsFree (seat s c) → (S : Status) → Permits program d s (refused S)) → (IsFree (seat s c) → (now : Desks) → Permits program d s (own now))
    → ((HasEnded (seat s c) → ⊥) → Permits program d s (refused NotReady))
    → ((j x : ℕ) (S : Status) → HasOpen (seat s c) j → Permits program d (ran c x S s) (say.Collect c))
    → ReachTells (seat s c) q → StepOk program d s (by_desk q c refused absent own)
desk_ok program d s Outside c refused absent own a b e f tell = λ found now. a tell InvalidParameter
desk_ok program d s AtHand c refused absent own a b e f tell = λ found now. b tell now
desk_ok program d s Working c refused absent own a b e f tell = λ found now. choice_ok program d s (found == 2) (Takes c) (Speaks (refused NotReady)) f (e tell)
desk_ok program d s Elsewhere c refused absent own a b e f tell = λ found now. choice_ok program d s (found == 1) (Quiet false) (Speaks (refused absent)) tt (a tell absent)

free_read : (q : Seat) (x : ℕ) (S : Status) → IsFree q → ReadShows q x S
free_read Free x S h = tt
free_read (Open j t) x S h = absurd h
free_read (Done j t y T) x S h = absurd h

open_read : (q : Seat) → (HasEnded q → ⊥) → ReadShows q 0 NotReady
open_read Free h = tt
open_read (Open j t) h = (refl, refl)
open_read (Done j t y T) h = absurd (h tt)

free_write : (q : Seat) (S : Status) → IsFree q → WriteShows q S
free_write Free S h = tt
free_write (Open j t) S h = absurd h
free_write (Done j t y T) S h = absurd h

open_write : (q : Seat) → (HasEnded q → ⊥) → WriteShows q NotReady
open_write Free h = tt
open_write (Open j t) h = refl
open_write (Done j t y T) h = absurd (h tt)

reading_ok : (t : Setting) (held : Desks) (s : Serving) (n c reg width into : ℕ) → IsSound t (is_held held) s
    → StepOk t.program (Doing n (op.Read c reg width into)) s (reading t held s c reg width)
reading_ok t held s n c reg width into sound =
    desk_ok t.program (Doing n (op.Read c reg width into)) s (reach t held s c) c (read_label c reg width 0) (read_of t false blank c reg width).status
    (λ now. let a = read_of t true (image_in (desk_of now c)) c reg width in read_label c reg width (shown_value a) a.status)
    (λ free S m. (refl, refl, refl, free_read (seat s c) 0 S free))
    (λ free now m. (refl, refl, refl, free_read (seat s c) _ _ free))
    (λ busy m. (refl, refl, refl, open_read (seat s c) busy))
    (λ j x S h m. (refl, done_ran s c j x S h))
    (reach_tells t held s c sound)

writing_ok : (t : Setting) (held : Desks) (s : Serving) (n c reg width : ℕ) (v : Operand) → IsSound t (is_held held) s
    → StepOk t.program (Doing n (op.Write c reg width v)) s (writing t held s c reg width (number s v))
writing_ok t held s n c reg width v sound =
    desk_ok t.program (Doing n (op.Write c reg width v)) s (reach t held s c) c (write_label c reg width (number s v)) (write_of false blank reg width (number s v)).status
    (λ now. write_label c reg width (number s v) (write_of true (image_in (desk_of now c)) reg width (number s v)).status)
    (λ free S m. (refl, refl, refl, refl, free_write (seat s c) S free))
    (λ free now m. (refl, refl, refl, refl, free_write (seat s c) _ free))
    (λ busy m. (refl, refl, refl, refl, open_write (seat s c) busy))
    (λ j x S h m. (refl, done_ran s c j x S h))
    (reach_tells t held s c sound)

-- the start rule
rule_ok : (program : Program) (d : Due) (s : Serving) (o : Option StartRefusal) (job held marked : Bool) (c : ℕ) (collect : Step) (start : Label)
    → ((x : StartRefusal) → Permits program d s (say.Refuse c x)) → StepOk program d s collect
    → (o ≡ None → job ≡ false → Permits program d s start) → StepOk program d s (by_start_rule o job held marked c collect start)
rule_ok program d s (Some x) job held marked c collect start a b e = λ found now. a x
rule_ok program d s None true held marked c collect start a b e = b
rule_ok program d s None false false marked c collect start a b e = λ found now. choice_ok program d s (found == 1) (Quiet false) (Speaks (say.Refuse c cause.Absent)) tt (a cause.Absent)
rule_ok program d s None false true false c collect start a b e = λ found now. tt
rule_ok program d s None false true true c collect start a b e = λ found now. e refl refl

none_of : (a b e f : Bool) (w x y z : StartRefusal) → (if a then Some w else (if b then Some x else (if e then Some y else (if f then Some z else None)))) ≡ None
    → (a ≡ false) × (e ≡ false)
none_of true b e f w x y z h = cc
none_of false true e f w x y z h = cc
none_of false false true f w x y z h = cc
none_of false false false f w x y z h = (refl, refl)

not_true_of : (b : Bool) → not b ≡ false → b ≡ true
not_true_of true h = refl
not_true_of false h = cc

there_is : (o : Option ℕ) → is_none o ≡ false → o ≡ Some (unwrap_or o 0)
there_is None h = cc
there_is (Some p) h = refl

no_cause : (t : Setting) (s : Serving) (with_token : Bool) (c : ℕ) (place : Option ℕ) → first_cause t s with_token c place ≡ None
    → (c < t.processors) × (place ≡ Some (unwrap_or place 0))
no_cause t s with_token c place h =
    let e = none_of (not (nat_lt c t.processors)) (c == t.me) (is_none place) _ _ _ _ _ h in
    (ltb-true c t.processors (not_true_of (nat_lt c t.processors) e.0), there_is place e.1)

start_ok : (t : Setting) (held : Desks) (s : Serving) (marked : Bool) (n c into : ℕ) (name : List ℕ) (arg : Operand) → IsSound t (is_held held) s
    → StepOk t.program (Doing n (op.Start c name arg into)) s
    (starting t held s marked false c (procedure_place t.program.procedures name) (number s arg) (awaiting_job c))
start_ok t held s marked n c into name arg sound =
    let place = procedure_place t.program.procedures name in
    rule_ok t.program (Doing n (op.Start c name arg into)) s (first_cause t s false c place) (has_job (seat s c)) (is_held held c) marked c (awaiting_job c) _
    (λ x m. refl) (λ found now j x S h m. (refl, done_ran s c j x S h))
    (λ e f m. let g = no_cause t s false c place e in
    record { processor = refl; there = omega (arith, g.0, sound.size); free = no_job_free (seat s c) f; job = refl; procedure = g.1; argument = refl })

launch_ok : (t : Setting) (held : Desks) (s : Serving) (marked : Bool) (n c into : ℕ) (name : List ℕ) (arg : Operand) → IsSound t (is_held held) s
    → StepOk t.program (Doing n (op.Launch c name arg into)) s
    (starting t held s marked true c (procedure_place t.program.procedures name) (number s arg) (claiming_job c (say.Refuse c cause.Busy)))
launch_ok t held s marked n c into name arg sound =
    let place = procedure_place t.program.procedures name in
    let d = Doing n (op.Launch c name arg into) in
    rule_ok t.program d s (first_cause t s true c place) (has_job (seat s c)) (is_held held c) marked c (claiming_job c (say.Refuse c cause.Busy)) _
    (λ x m. refl)
    (λ found now. choice_ok t.program d s (found == 2) (Takes c) (Speaks (say.Refuse c cause.Busy)) (λ j x S h m. (refl, done_ran s c j x S h)) (λ m. refl))
    (λ e f m. let g = no_cause t s true c place e in
    record { processor = refl; there = omega (arith, g.0, sound.size); free = no_job_free (seat s c) f; job = refl; procedure = g.1; argument = refl })

-- a check and a wait
token_ran : (s : Serving) (n c x : ℕ) (S : Status) (q : TokenState) → token_of s n ≡ q → token_of (ran c x S s) n ≡ q
token_ran s n c x S q e = ap (λ (o : Option ℕ). state_of (find (λ t. t.job == n) s.tokens) o) (owner_ran n x c S s.seats) ∙ e

checking_ok : (program : Program) (s : Serving) (n : ℕ) (v : Operand) (q : TokenState) → token_of s (number s v) ≡ q → ((c : ℕ) → IsDone (seat s c) → ⊥)
    → StepOk program (Doing n (op.Check v)) s (checking q (number s v))
checking_ok program s n v NotOut e u = λ found now m. (refl, rw e refl)
checking_ok program s n v (Uncollected c) e u = λ found now.
    choice_ok program (Doing n (op.Check v)) s (found == 2) (Takes c) (Speaks (say.Check (number s v) NotReady))
    (λ j x S h m. (rw (token_ran s (number s v) c x S (Uncollected c) e) refl, done_ran s c j x S h))
    (λ m. (refl, rw e (u c, refl)))
checking_ok program s n v (Collected t) e u = λ found now m. (refl, rw e refl)

waiting_ok : (program : Program) (s : Serving) (n into : ℕ) (v : Operand) (q : TokenState) → token_of s (number s v) ≡ q
    → StepOk program (Doing n (op.Wait v into)) s (waiting q (number s v))
waiting_ok program s n into v NotOut e = λ found now m. (refl, rw e (refl, refl))
waiting_ok program s n into v (Uncollected c) e = λ found now j x S h m. (rw (token_ran s (number s v) c x S (Uncollected c) e) refl, done_ran s c j x S h)
waiting_ok program s n into v (Collected t) e = λ found now m. (refl, rw e (refl, refl))

alloc_ok : (program : Program) (s : Serving) (n into : ℕ) (v : Operand) (r : Result ℕ PoolError) → (allocated (number s v) s.pool).0 ≡ r
    → Permits program (Doing n (op.Alloc v into)) s (alloc_label (number s v) r)
alloc_ok program s n into v (Ok place) e = λ m. (refl, rw e (refl, refl))
alloc_ok program s n into v (Err x) e = λ m. (refl, rw e (refl, refl))

register_ok : (program : Program) (s : Serving) (n h into : ℕ) (kind : HandlerType) (b : Bool) → is_full s.registrations ≡ b
    → Permits program (Doing n (op.Register h kind into)) s (register_label b h s.registrations.last)
register_ok program s n h into kind true e = λ m. (refl, rw e (refl, refl))
register_ok program s n h into kind false e = λ m. (refl, rw e (refl, refl))

manage_ok : (program : Program) (s : Serving) (n : ℕ) (kind : HandlerType) → Permits program (Doing n (op.Manage kind)) s (open_label n kind)
manage_ok program s zero kind = λ m. refl
manage_ok program s (suc n) kind = λ m. refl

operation_ok : (t : Setting) (held : Desks) (s : Serving) (marked : Bool) (n : ℕ) (o : OpDef) → IsSound t (is_held held) s
    → StepOk t.program (Doing n o) s (operation_step t held s marked n o)
operation_ok t held s marked n (op.Set into v) sound = λ found now m. (refl, refl)
operation_ok t held s marked n (op.Read c reg width into) sound = reading_ok t held s n c reg width into sound
operation_ok t held s marked n (op.Write c reg width v) sound = writing_ok t held s n c reg width v sound
operation_ok t held s marked n (op.Start c name arg into) sound = start_ok t held s marked n c into name arg sound
operation_ok t held s marked n (op.Launch c name arg into) sound = launch_ok t held s marked n c into name arg sound
operation_ok t held s marked n (op.Check v) sound = checking_ok t.program s n v (token_of s (number s v)) refl sound.undone
operation_ok t held s marked n (op.Wait v into) sound = waiting_ok t.program s n into v (token_of s (number s v)) refl
operation_ok t held s marked n (op.Alloc v into) sound = λ found now. alloc_ok t.program s n into v (allocated (number s v) s.pool).0 refl
operation_ok t held s marked n (op.Free v) sound = λ found now m. (refl, refl)
operation_ok t held s marked n (op.Register h kind into) sound = λ found now. register_ok t.program s n h into kind (is_full s.registrations) refl
operation_ok t held s marked n (op.Unregister v) sound = λ found now m. (refl, refl)
operation_ok t held s marked n (op.Manage kind) sound = λ found now. manage_ok t.program s n kind

due_ok : (t : Setting) (held : Desks) (s : Serving) (marked : Bool) (d : Due) → IsSound t (is_held held) s → StepOk t.program d s (due_step t held s marked d)
due_ok t held s marked Nothing sound = λ found now. tt
due_ok t held s marked (Saying l) sound = λ found now. refl
due_ok t held s marked (Awaiting c) sound = λ found now j x S h. (refl, done_ended (seat (ran c x S s) c) (done_ran s c j x S h))
due_ok t held s marked (Doing n o) sound = operation_ok t held s marked n o sound

-- the events of a move are taken by the place
came_leads : (t : Setting) (p : Place) (c : ℕ) (o : Option JobDone) → HasCome p.state c o
    → ((j x : ℕ) (S : Status) → HasOpen (seat p.state c) j → Permits t.program (due t.program p) (ran c x S p.state) (say.Collect c))
    → Leads t.program p (with_run c o) (after_all t.program p (with_run c o))
came_leads t p c None come ok = absurd come
came_leads t p c (Some d) come ok =
    let q = ok d.number d.result d.status come in (
      (more t.program p.kinds p.walks p.begun p.state.registrations p.state.left (permits_some t.program (due t.program p) (ran c d.result d.status p.state) (say.Collect c) q), come),
      (permitted t.program (record p { state = ran c d.result d.status p.state }) (say.Collect c) q, refl),
    )

move_leads : (t : Setting) (course : Course) (m : Move) (now : Desks) → CameFor course.place.state m now
    → MoveOk t.program (due t.program course.place) course.place.state m
    → Leads t.program course.place (said m now) (moved t course m now).place
move_leads t course (Quiet b) now come ok = refl
move_leads t course (Speaks l) now come ok = (permitted t.program course.place l ok, refl)
move_leads t course (Takes c) now come ok = came_leads t course.place c (done_on (desk_of now c)) come ok

pub step_leads : (t : Setting) (held : Desks) (course : Course) (found : ℕ) (now : Desks) → IsSound t (is_held held) course.place.state
    → CameFor course.place.state ((step_of t held course).on found now) now
    → Leads t.program course.place (said ((step_of t held course).on found now) now) (moved t course ((step_of t held course).on found now) now).place
step_leads t held course found now sound come =
    move_leads t course ((step_of t held course).on found now) now come
    (due_ok t held course.place.state course.marked (due t.program course.place) sound found now)

-- the need is `Finished` exactly where nothing is left to say
desk_need : (q : Reach) (c : ℕ) (refused : Status → Label) (absent : Status) (own : Desks → Label) → (by_desk q c refused absent own).need ≡ need.Finished → ⊥
desk_need Outside c refused absent own h = cc
desk_need AtHand c refused absent own h = cc
desk_need Working c refused absent own h = cc
desk_need Elsewhere c refused absent own h = cc

rule_need : (o : Option StartRefusal) (job held marked : Bool) (c : ℕ) (collect : Step) (start : Label) → (collect.need ≡ need.Finished → ⊥)
    → (by_start_rule o job held marked c collect start).need ≡ need.Finished → ⊥
rule_need (Some x) job held marked c collect start a h = cc
rule_need None true held marked c collect start a h = a h
rule_need None false false marked c collect start a h = cc
rule_need None false true false c collect start a h = cc
rule_need None false true true c collect start a h = cc

checking_need : (q : TokenState) (n : ℕ) → (checking q n).need ≡ need.Finished → ⊥
checking_need NotOut n h = cc
checking_need (Uncollected c) n h = cc
checking_need (Collected t) n h = cc

waiting_need : (q : TokenState) (n : ℕ) → (waiting q n).need ≡ need.Finished → ⊥
waiting_need NotOut n h = cc
waiting_need (Uncollected c) n h = cc
waiting_need (Collected t) n h = cc

operation_need : (t : Setting) (held : Desks) (s : Serving) (marked : Bool) (n : ℕ) (o : OpDef) → (operation_step t held s marked n o).need ≡ need.Finished → ⊥
operation_need t held s marked n (op.Read c reg width into) h = desk_need (reach t held s c) c _ _ _ h
operation_need t held s marked n (op.Write c reg width v) h = desk_need (reach t held s c) c _ _ _ h
operation_need t held s marked n (op.Start c name arg into) h =
    rule_need (first_cause t s false c (procedure_place t.program.procedures name)) (has_job (seat s c)) (is_held held c) marked c (awaiting_job c) _ (λ e. cc) h
operation_need t held s marked n (op.Launch c name arg into) h =
    rule_need (first_cause t s true c (procedure_place t.program.procedures name)) (has_job (seat s c)) (is_held held c) marked c (claiming_job c (say.Refuse c cause.Busy)) _ (λ e. cc) h
operation_need t held s marked n (op.Check v) h = checking_need (token_of s (number s v)) (number s v) h
operation_need t held s marked n (op.Wait v into) h = waiting_need (token_of s (number s v)) (number s v) h
operation_need t held s marked n _ h = cc

due_need : (t : Setting) (held : Desks) (s : Serving) (marked : Bool) (d : Due) → IsSome d → (due_step t held s marked d).need ≡ need.Finished → ⊥
due_need t held s marked Nothing g h = g
due_need t held s marked (Saying l) g h = cc
due_need t held s marked (Awaiting c) g h = cc
due_need t held s marked (Doing n o) g h = operation_need t held s marked n o h

nothing_need : (t : Setting) (held : Desks) (s : Serving) (marked : Bool) (d : Due) → (IsSome d → ⊥) → (due_step t held s marked d).need ≡ need.Finished
nothing_need t held s marked Nothing g = refl
nothing_need t held s marked (Saying l) g = absurd (g tt)
nothing_need t held s marked (Awaiting c) g = absurd (g tt)
nothing_need t held s marked (Doing n o) g = absurd (g tt)

pub finished : (t : Setting) (held : Desks) (course : Course) → ((step_of t held course).need ≡ need.Finished) ↔ IsOver course.place
finished t held course =
    let p = course.place in (
      λ h. λ m. due_need t held p.state course.marked (due t.program p) (some_due t.program p.kinds p.walks p.begun p.state.registrations p.state.left m) h,
      λ h. nothing_need t held p.state course.marked (due t.program p) (λ g. h (more t.program p.kinds p.walks p.begun p.state.registrations p.state.left g)),
    )

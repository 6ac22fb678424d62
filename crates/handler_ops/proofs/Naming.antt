-- Each need of a course names another processor of the platform, if it names one.
use Rattle.std.proofs.Common.{◌≡◌, ◌<◌, ◌+◌, ℕ, zero, suc, ◌==◌, Bool, true, false, cond, not, ◌&&◌, ◌||◌, List, [], ◌∷◌, length, Option, Some, None, refl, sym, subst, if◌then◌else◌, arith}
use Rattle.std.proofs.lemmas.Bool.{eqb-true}
use Rattle.std.specs.Prelude.{slice_index_or, nat_lt, nat_le, is_none, option_map, unwrap_or}
use Rattle.smm_base.specs.declared.kinds.HandlerType.{HandlerType}
use Rattle.smm_base.specs.declared.status.Status.{Status}
use Rattle.cpu_table.specs.declared.handlers.OpDef.{OpDef}
use Rattle.cpu_table.specs.declared.handlers.OpDef.TheVariants as op
use Rattle.cpu_table.specs.declared.handlers.Operand.{Operand}
use Rattle.cpu_table.specs.declared.text.Text.{Text}
use Rattle.sync_words.specs.declared.label.StartRefusal.{StartRefusal}
use Rattle.sync_words.specs.declared.label.StartRefusal.TheVariants as cause
use Rattle.sync_words.specs.declared.label.Label.{Label}
use Rattle.sync_words.specs.declared.label.Label.TheVariants as say
use Rattle.handler_registry.specs.declared.registration.Registration.{Registration}
use Rattle.handler_registry.specs.Registrations.{Registrations}
use Rattle.smi_manage.specs.declared.running.Running.{Running}
use Rattle.handler_ops.specs.declared.need.Need.TheVariants as need
use Rattle.serving_place.specs.declared.seat.Seat.{Seat}
use Rattle.serving_place.specs.declared.seat.Seat.TheVariants.{Free, Open, Done}
use Rattle.serving_place.specs.declared.token.Token.{Token}
use Rattle.serving_place.specs.Serving.{Serving, number, seat, ran, IsFree, owes_token, owner, state_of, tokens_out}
use Rattle.serving_place.specs.Operations.{procedure_place}
use Rattle.serving_place.specs.Forms.{Program, Own, operations_of, turn_of}
use Rattle.serving_place.specs.Places.{Call, OpenWalk, Begun, First, Started, Awaited, Place, one_less, levels_left, at_left, at_turn, place_at, ended, with_walk, awaits_after, begun_by, after_operating, after_doing, after_turn, after_in_call, after_in_walk, after_begun, next}
use Rattle.serving_place.specs.Setting.{Setting, first_cause}
use Rattle.serving_place.specs.Due.{Due, Nothing, Saying, Awaiting, Doing, due_left, due_turn, due_turns, due_in_call, due_in_walk, due_begun, due}
use Rattle.handler_ops.specs.Course.{Course, Desks, Move, Quiet, Speaks, Takes, Step, Outside, AtHand, Working, Elsewhere, JobDone, is_held, desk_of, claiming_job, awaiting_job, has_job, by_desk, by_start_rule, checking, waiting, operation_step, due_step, need_of, done_on, with_run, after_all, moved}
use Rattle.handler_ops.specs.Conditions.{IsSound, Turn, AllAllowed, course_after, course_of, beginning}
use Rattle.handler_ops.specs.Needs.{IsOther, NamesOther}
use Rattle.handler_ops.proofs.Sessions.{turn_sound}

abbrev IsGood : Setting → ℕ → Type 0
IsGood t c = IsOther t.processors t.me c

lt_of : (a b : ℕ) → nat_lt a b ≡ true → a < b
lt_of a b h = grind arith

-- WHAT IS BEGUN

-- a job that is awaited is that of another processor
abbrev Begins : Setting → Option Begun → Type 0
Begins t None = Unit {0}
Begins t (Some (First w)) = Unit {0}
Begins t (Some (Started o)) = Unit {0}
Begins t (Some (Awaited c into)) = IsGood t c

-- the start of a job by this operation is on another processor
abbrev OpStarts : Setting → OpDef → Label → Type 0
OpStarts t (op.Start cpu name arg into) (say.Start c j p a) = IsGood t cpu
OpStarts t _ l = Unit {0}

abbrev DueStarts : Setting → Due → Label → Type 0
DueStarts t (Doing n o) l = OpStarts t o l
DueStarts t _ l = Unit {0}

abbrev MoveStarts : Setting → Due → Move → Type 0
MoveStarts t d (Quiet b) = Unit {0}
MoveStarts t d (Speaks l) = DueStarts t d l
MoveStarts t d (Takes c) = Unit {0}

start_begins : (t : Setting) (cpu into : ℕ) (name : Text) (arg : Operand) (l : Label) → OpStarts t (op.Start cpu name arg into) l → Begins t (awaits_after l (Awaited cpu into))
start_begins t cpu into name arg (say.Start c j p a) h = h
start_begins t cpu into name arg _ h = tt

op_begins : (t : Setting) (o : OpDef) (l : Label) → OpStarts t o l → Begins t (begun_by o l)
op_begins t (op.Start cpu name arg into) l h = start_begins t cpu into name arg l h
op_begins t _ l h = tt

operated_begins : (t : Setting) (kinds : List HandlerType) (ws : List OpenWalk) (o : OpDef) (s : Serving) (l : Label) → OpStarts t o l
    → Begins t (after_operating kinds ws o s l).begun
operated_begins t kinds ws o s (say.Collect c) h = tt
operated_begins t kinds ws o s l h = op_begins t o l h

walk_begins : (t : Setting) (n : ℕ) (kinds : List HandlerType) (ws : List OpenWalk) (kind : HandlerType) (s : Serving) → Begins t (with_walk n kinds ws kind s).begun
walk_begins t zero kinds ws kind s = tt
walk_begins t (suc n) kinds ws kind s = tt

done_begins : (t : Setting) (n : ℕ) (kinds : List HandlerType) (ws : List OpenWalk) (o : OpDef) (s : Serving) (l : Label) → OpStarts t o l
    → Begins t (after_doing n kinds ws o s l).begun
done_begins t n kinds ws (op.Manage kind) s l h = walk_begins t n kinds ws kind s
done_begins t n kinds ws o s l h = operated_begins t kinds ws o s l h

left_begins : (t : Setting) (left : ℕ) (none : Place) (some : ℕ → Place) → Begins t none.begun → ((m : ℕ) → Begins t (some m).begun) → Begins t (at_left left none some).begun
left_begins t zero none some h k = h
left_begins t (suc m) none some h k = k m

turn_begins : (t : Setting) (program : Program) (kinds : List HandlerType) (ws : List OpenWalk) (kind : HandlerType) (turns : List ℕ) (r : Running) (s : Serving)
    → Begins t (after_turn program kinds ws kind turns r s).begun
turn_begins t program kinds ws kind [] r s = tt
turn_begins t program kinds ws kind (n ∷ turns) r s = by_turn (turn_of kind s.registrations n) (turn_begins t program kinds ws kind turns r s)
  where
    by_turn : (o : Option Registration) → Begins t (after_turn program kinds ws kind turns r s).begun
        → Begins t (at_turn o (after_turn program kinds ws kind turns r s) (λ h. at_left s.left (ended s)
        (λ m. place_at kinds (record { kind = kind; turns = turns; running = r; called = Some (record { handler = h; ops = operations_of program h }) } ∷ ws)
        (record s { left = m })))).begun
    by_turn None h = h
    by_turn (Some x) h =
        left_begins t s.left (ended s)
        (λ m. place_at kinds (record { kind = kind; turns = turns; running = r; called = Some (record { handler = x.handler; ops = operations_of program x.handler }) } ∷ ws)
        (record s { left = m })) tt (λ m. tt)

call_begins : (t : Setting) (left n : ℕ) (o : OpDef) (l : Label) (none : Place) (some : ℕ → Place) → DueStarts t (due_left left (Doing n o)) l → Begins t none.begun
    → ((m : ℕ) → OpStarts t o l → Begins t (some m).begun) → Begins t (at_left left none some).begun
call_begins t zero n o l none some h a b = a
call_begins t (suc m) n o l none some h a b = b m h

in_call_begins : (t : Setting) (program : Program) (kinds : List HandlerType) (ws : List OpenWalk) (w : OpenWalk) (n h : ℕ) (os : List OpDef) (s : Serving) (l : Label)
    → DueStarts t (due_in_call program n h os s.left) l → Begins t (after_in_call program kinds ws w h os s l).begun
in_call_begins t program kinds ws w n h [] s l k = tt
in_call_begins t program kinds ws w n h (o ∷ os) s l k =
    call_begins t s.left n o l (ended s)
    (λ m. after_doing (one_less (levels_left ws)) kinds (record w { called = Some (record { handler = h; ops = os }) } ∷ ws) o (record s { left = m }) l) k tt
    (λ m f. done_begins t (one_less (levels_left ws)) kinds (record w { called = Some (record { handler = h; ops = os }) } ∷ ws) o (record s { left = m }) l f)

in_walk_begins : (t : Setting) (program : Program) (kinds : List HandlerType) (ws : List OpenWalk) (w : OpenWalk) (n : ℕ) (c : Option Call) (s : Serving) (l : Label)
    → DueStarts t (due_in_walk program n w c s.registrations s.left) l → Begins t (after_in_walk program kinds ws w c s l).begun
in_walk_begins t program kinds ws w n None s l k = turn_begins t program kinds ws w.kind w.turns w.running s
in_walk_begins t program kinds ws w n (Some c) s l k = in_call_begins t program kinds ws w n c.handler c.ops s l k

begun_begins : (t : Setting) (program : Program) (kinds : List HandlerType) (walks : List OpenWalk) (b : Option Begun) (s : Serving) (l : Label)
    → DueStarts t (due_begun program kinds walks b s.registrations s.left) l → Begins t (after_begun program kinds walks b s l).begun
begun_begins t program [] [] None s l k = tt
begun_begins t program (kind ∷ kinds) [] None s l k =
    left_begins t s.left (ended s) (λ m. with_walk 4 kinds [] kind (record s { left = m })) tt (λ m. tt)
begun_begins t program [] (w ∷ ws) None s l k = in_walk_begins t program [] ws w (levels_left (w ∷ ws)) w.called s l k
begun_begins t program (d ∷ ds) (w ∷ ws) None s l k = in_walk_begins t program (d ∷ ds) ws w (levels_left (w ∷ ws)) w.called s l k
begun_begins t program kinds walks (Some (First w)) s l k = tt
begun_begins t program kinds walks (Some (Started o)) s l k = done_begins t (levels_left walks) kinds walks o s l k
begun_begins t program kinds walks (Some (Awaited c into)) s l k = tt

next_begins : (t : Setting) (program : Program) (p : Place) (l : Label) → DueStarts t (due program p) l → Begins t (next program p (Own l)).begun
next_begins t program p l k = begun_begins t program p.kinds p.walks p.begun p.state l k

collect_op : (t : Setting) (o : OpDef) (c : ℕ) → OpStarts t o (say.Collect c)
collect_op t (op.Start cpu name arg into) c = tt
collect_op t _ c = tt

collect_due : (t : Setting) (d : Due) (c : ℕ) → DueStarts t d (say.Collect c)
collect_due t (Doing n o) c = collect_op t o c
collect_due t Nothing c = tt
collect_due t (Saying l) c = tt
collect_due t (Awaiting k) c = tt

taken_begins : (t : Setting) (program : Program) (p : Place) (c : ℕ) (o : Option JobDone) → Begins t (after_all program p (with_run c o)).begun
taken_begins t program p c None = next_begins t program p (say.Collect c) (collect_due t (due program p) c)
taken_begins t program p c (Some d) =
    let q : Place = record p { state = ran c d.result d.status p.state } in
    next_begins t program q (say.Collect c) (collect_due t (due program q) c)

move_begins : (t : Setting) (course : Course) (m : Move) (now : Desks) → MoveStarts t (due t.program course.place) m → Begins t course.place.begun
    → Begins t (moved t course m now).place.begun
move_begins t course (Quiet b) now k h = h
move_begins t course (Speaks l) now k h = next_begins t t.program course.place l k
move_begins t course (Takes c) now k h = taken_begins t t.program course.place c (done_on (desk_of now c))

-- STARTS

-- what no cause refuses is a start on another processor
cause_parts : (t : Setting) (c : ℕ) (a b : Bool) (rest : Option StartRefusal) → nat_lt c t.processors ≡ a → (c == t.me) ≡ b
    → (if not a then Some cause.OutOfRange else (if b then Some cause.BootProcessor else rest)) ≡ None → IsGood t c
cause_parts t c false b rest x y e = absurd cc
cause_parts t c true true rest x y e = absurd cc
cause_parts t c true false rest x y e = record { within = lt_of c t.processors x; other = y }

cause_good : (t : Setting) (s : Serving) (with_token : Bool) (c : ℕ) (place : Option ℕ) → first_cause t s with_token c place ≡ None → IsGood t c
cause_good t s with_token c place e =
    cause_parts t c (nat_lt c t.processors) (c == t.me)
    (if is_none place then Some cause.UnknownProcedure else (if with_token && nat_le 64 (tokens_out s) then Some cause.Tokens else None)) refl refl e

claim_starts : (t : Setting) (n cpu into : ℕ) (name : Text) (arg : Operand) (x : StartRefusal) (b : Bool)
    → MoveStarts t (Doing n (op.Start cpu name arg into)) (if b then Quiet false else Speaks (say.Refuse cpu x))
claim_starts t n cpu into name arg x true = tt
claim_starts t n cpu into name arg x false = tt

rule_starts : (t : Setting) (n cpu into : ℕ) (name : Text) (arg : Operand) (o : Option StartRefusal) (job held marked : Bool) (j p a found : ℕ) (now : Desks)
    → (o ≡ None → IsGood t cpu)
    → MoveStarts t (Doing n (op.Start cpu name arg into)) ((by_start_rule o job held marked cpu (awaiting_job cpu) (say.Start cpu j p a)).on found now)
rule_starts t n cpu into name arg (Some x) job held marked j p a found now good = tt
rule_starts t n cpu into name arg None true held marked j p a found now good = tt
rule_starts t n cpu into name arg None false false marked j p a found now good = claim_starts t n cpu into name arg cause.Absent (found == 1)
rule_starts t n cpu into name arg None false true false j p a found now good = tt
rule_starts t n cpu into name arg None false true true j p a found now good = good refl

abbrev IsNoStart : OpDef → Type 0
IsNoStart (op.Start cpu name arg into) = ⊥
IsNoStart _ = Unit {0}

plain_said : (t : Setting) (o : OpDef) (l : Label) → IsNoStart o → OpStarts t o l
plain_said t (op.Start cpu name arg into) l g = absurd g
plain_said t _ l g = tt

plain_move : (t : Setting) (n : ℕ) (o : OpDef) (m : Move) → IsNoStart o → MoveStarts t (Doing n o) m
plain_move t n o (Quiet b) g = tt
plain_move t n o (Speaks l) g = plain_said t o l g
plain_move t n o (Takes c) g = tt

op_starts : (t : Setting) (held : Desks) (s : Serving) (marked : Bool) (n : ℕ) (o : OpDef) (found : ℕ) (now : Desks)
    → MoveStarts t (Doing n o) ((operation_step t held s marked n o).on found now)
op_starts t held s marked n (op.Start cpu name arg into) found now =
    let place = procedure_place t.program.procedures name in
    rule_starts t n cpu into name arg (first_cause t s false cpu place) (has_job (seat s cpu)) (is_held held cpu) marked (s.given + 1) (unwrap_or place 0) (number s arg) found now
    (cause_good t s false cpu place)
op_starts t held s marked n o found now = plain_move t n o ((operation_step t held s marked n o).on found now) tt

due_starts : (t : Setting) (held : Desks) (s : Serving) (marked : Bool) (d : Due) (found : ℕ) (now : Desks) → MoveStarts t d ((due_step t held s marked d).on found now)
due_starts t held s marked Nothing found now = tt
due_starts t held s marked (Saying l) found now = tt
due_starts t held s marked (Awaiting c) found now = tt
due_starts t held s marked (Doing n o) found now = op_starts t held s marked n o found now

-- NEEDS

abbrev Names : Setting → Step → Type 0
Names t step = NamesOther t.processors t.me step.need

desk_names : (t : Setting) (c : ℕ) (a b h j : Bool) (refused : Status → Label) (absent : Status) (own : Desks → Label) → nat_lt c t.processors ≡ a → (c == t.me) ≡ b
    → Names t (by_desk (if not a then Outside else (if b || h then AtHand else (if j then Working else Elsewhere))) c refused absent own)
desk_names t c false b h j refused absent own x y = tt
desk_names t c true true h j refused absent own x y = tt
desk_names t c true false true j refused absent own x y = tt
desk_names t c true false false true refused absent own x y = record { within = lt_of c t.processors x; other = y }
desk_names t c true false false false refused absent own x y = record { within = lt_of c t.processors x; other = y }

rule_names : (t : Setting) (o : Option StartRefusal) (job held marked : Bool) (c : ℕ) (collect : Step) (start : Label) → (o ≡ None → IsGood t c)
    → (IsGood t c → Names t collect) → Names t (by_start_rule o job held marked c collect start)
rule_names t (Some x) job held marked c collect start good k = tt
rule_names t None true held marked c collect start good k = k (good refl)
rule_names t None false false marked c collect start good k = good refl
rule_names t None false true false c collect start good k = good refl
rule_names t None false true true c collect start good k = good refl

-- a processor that owes a token has a seat, which isn't free
abbrev OwnerIn : List Seat → Option ℕ → Type 0
OwnerIn qs None = Unit {0}
OwnerIn qs (Some c) = (c < length qs) × (IsFree (slice_index_or qs c Free) → ⊥)

owner_behind : (q : Seat) (qs : List Seat) (o : Option ℕ) → OwnerIn qs o → OwnerIn (q ∷ qs) (option_map suc o)
owner_behind q qs None h = tt
owner_behind q qs (Some c) h = let below = h.0 in (omega (arith, below), h.1)

owner_first : (q : Seat) (qs : List Seat) (b : Bool) (o : Option ℕ) → (b ≡ true → IsFree q → ⊥) → OwnerIn (q ∷ qs) o → OwnerIn (q ∷ qs) (cond b (Some 0) o)
owner_first q qs true o f h = (omega arith, f refl)
owner_first q qs false o f h = h

owes_busy : (n : ℕ) (q : Seat) → owes_token n q ≡ true → IsFree q → ⊥
owes_busy n Free e h = cc
owes_busy n (Open j t) e h = h
owes_busy n (Done j t x S) e h = h

owner_in : (n : ℕ) (qs : List Seat) → OwnerIn qs (owner n qs)
owner_in n [] = tt
owner_in n (q ∷ qs) = owner_first q qs (owes_token n q) (option_map suc (owner n qs)) (owes_busy n q) (owner_behind q qs (owner n qs) (owner_in n qs))

apart : (t : Setting) (s : Serving) (c : ℕ) (b : Bool) → (c == t.me) ≡ b → IsFree (seat s t.me) → (IsFree (seat s c) → ⊥) → (c == t.me) ≡ false
apart t s c true e free busy = absurd (busy (subst (λ (i : ℕ). IsFree (seat s i)) (sym (eqb-true c t.me e)) free))
apart t s c false e free busy = e

busy_good : (t : Setting) (there : ℕ → Bool) (s : Serving) (c : ℕ) → IsSound t there s → c < length s.seats → (IsFree (seat s c) → ⊥) → IsGood t c
busy_good t there s c sound below busy =
    let size = sound.size in
    record { within = omega (arith, below, size); other = apart t s c (c == t.me) refl (sound.idle t.me sound.mine) busy }

check_names : (t : Setting) (qs : List Seat) (x : Option Token) (w : Option ℕ) (n : ℕ) → OwnerIn qs w
    → ((c : ℕ) → c < length qs → (IsFree (slice_index_or qs c Free) → ⊥) → IsGood t c) → Names t (checking (state_of x w) n)
check_names t qs (Some k) w n h good = tt
check_names t qs None None n h good = tt
check_names t qs None (Some c) n h good = good c h.0 h.1

wait_names : (t : Setting) (qs : List Seat) (x : Option Token) (w : Option ℕ) (n : ℕ) → OwnerIn qs w
    → ((c : ℕ) → c < length qs → (IsFree (slice_index_or qs c Free) → ⊥) → IsGood t c) → Names t (waiting (state_of x w) n)
wait_names t qs (Some k) w n h good = tt
wait_names t qs None None n h good = tt
wait_names t qs None (Some c) n h good = good c h.0 h.1

op_names : (t : Setting) (there : ℕ → Bool) (held : Desks) (s : Serving) (marked : Bool) (n : ℕ) (o : OpDef) → IsSound t there s → Names t (operation_step t held s marked n o)
op_names t there held s marked n (op.Set into v) sound = tt
op_names t there held s marked n (op.Read c reg width into) sound =
    desk_names t c (nat_lt c t.processors) (c == t.me) (is_held held c) (has_job (seat s c)) _ _ _ refl refl
op_names t there held s marked n (op.Write c reg width v) sound =
    desk_names t c (nat_lt c t.processors) (c == t.me) (is_held held c) (has_job (seat s c)) _ _ _ refl refl
op_names t there held s marked n (op.Start c name arg into) sound =
    let place = procedure_place t.program.procedures name in
    rule_names t (first_cause t s false c place) (has_job (seat s c)) (is_held held c) marked c (awaiting_job c) _ (cause_good t s false c place) (λ g. g)
op_names t there held s marked n (op.Launch c name arg into) sound =
    let place = procedure_place t.program.procedures name in
    rule_names t (first_cause t s true c place) (has_job (seat s c)) (is_held held c) marked c (claiming_job c (say.Refuse c cause.Busy)) _ (cause_good t s true c place) (λ g. g)
op_names t there held s marked n (op.Check v) sound = check_names t s.seats _ (owner (number s v) s.seats) (number s v) (owner_in (number s v) s.seats) (λ c. busy_good t there s c sound)
op_names t there held s marked n (op.Wait v into) sound = wait_names t s.seats _ (owner (number s v) s.seats) (number s v) (owner_in (number s v) s.seats) (λ c. busy_good t there s c sound)
op_names t there held s marked n (op.Alloc v into) sound = tt
op_names t there held s marked n (op.Free v) sound = tt
op_names t there held s marked n (op.Register h kind into) sound = tt
op_names t there held s marked n (op.Unregister v) sound = tt
op_names t there held s marked n (op.Manage kind) sound = tt

-- a job that is due is awaited by what is begun
abbrev Awaits : Setting → Due → Type 0
Awaits t (Awaiting c) = IsGood t c
Awaits t _ = Unit {0}

left_awaits : (t : Setting) (left : ℕ) (d : Due) → Awaits t d → Awaits t (due_left left d)
left_awaits t zero d h = tt
left_awaits t (suc n) d h = h

turns_await : (t : Setting) (kind : HandlerType) (turns : List ℕ) (r : Running) (g : Registrations) (left : ℕ) → Awaits t (due_turns kind turns r g left)
turns_await t kind [] r g left = tt
turns_await t kind (n ∷ turns) r g left = by_turn (turn_of kind g n) (turns_await t kind turns r g left)
  where
    by_turn : (o : Option Registration) → Awaits t (due_turns kind turns r g left)
        → Awaits t (due_turn o (due_turns kind turns r g left) (λ h. due_left left (Saying (say.Call h))))
    by_turn None h = h
    by_turn (Some x) h = left_awaits t left (Saying (say.Call x.handler)) tt

in_walk_awaits : (t : Setting) (program : Program) (n : ℕ) (w : OpenWalk) (c : Option Call) (g : Registrations) (left : ℕ) → Awaits t (due_in_walk program n w c g left)
in_walk_awaits t program n w None g left = turns_await t w.kind w.turns w.running g left
in_walk_awaits t program n w (Some c) g left = in_call c.ops
  where
    in_call : (os : List OpDef) → Awaits t (due_in_call program n c.handler os left)
    in_call [] = tt
    in_call (o ∷ os) = left_awaits t left (Doing n o) tt

due_awaits : (t : Setting) (program : Program) (kinds : List HandlerType) (walks : List OpenWalk) (b : Option Begun) (g : Registrations) (left : ℕ) → Begins t b
    → Awaits t (due_begun program kinds walks b g left)
due_awaits t program [] [] None g left h = tt
due_awaits t program (d ∷ ds) [] None g left h = left_awaits t left (Saying (say.Manage d)) tt
due_awaits t program [] (w ∷ ws) None g left h = in_walk_awaits t program (levels_left (w ∷ ws)) w w.called g left
due_awaits t program (d ∷ ds) (w ∷ ws) None g left h = in_walk_awaits t program (levels_left (w ∷ ws)) w w.called g left
due_awaits t program kinds walks (Some (First w)) g left h = tt
due_awaits t program kinds walks (Some (Started o)) g left h = tt
due_awaits t program kinds walks (Some (Awaited c into)) g left h = h

due_names : (t : Setting) (there : ℕ → Bool) (held : Desks) (s : Serving) (marked : Bool) (d : Due) → IsSound t there s → Awaits t d → Names t (due_step t held s marked d)
due_names t there held s marked Nothing sound h = tt
due_names t there held s marked (Saying l) sound h = tt
due_names t there held s marked (Awaiting c) sound h = h
due_names t there held s marked (Doing n o) sound h = op_names t there held s marked n o sound

-- A WHOLE COURSE

course_needs : (t : Setting) (there : ℕ → Bool) (course : Course) (turns : List Turn) (held : Desks) → IsSound t there course.place.state → Begins t course.place.begun
    → AllAllowed t there course turns → NamesOther t.processors t.me (need_of t held (course_of t course turns))
course_needs t there course [] held sound begun allowed =
    let p = course.place in
    due_names t there held p.state course.marked (due t.program p) sound (due_awaits t t.program p.kinds p.walks p.begun p.state.registrations p.state.left begun)
course_needs t there course (u ∷ us) held sound begun allowed =
    course_needs t (is_held u.now) (course_after t course u) us held (turn_sound t there course u sound allowed.0)
    (move_begins t course _ u.now (due_starts t u.held course.place.state course.marked (due t.program course.place) u.found u.now) begun) allowed.1

pub needs_name_others : (t : Setting) (w : ℕ) (kinds : List HandlerType) (s : Serving) (there : ℕ → Bool) (turns : List Turn) (held : Desks) → IsSound t there s
    → AllAllowed t there (beginning w kinds s) turns → NamesOther t.processors t.me (need_of t held (course_of t (beginning w kinds s) turns))
needs_name_others t w kinds s there turns held sound allowed = course_needs t there (beginning w kinds s) turns held sound tt allowed

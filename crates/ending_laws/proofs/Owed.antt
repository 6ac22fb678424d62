-- A job that the server awaits is one that a processor was given.
use Rattle.std.proofs.Common.{ℕ, zero, suc, ◌≡◌, ◌<◌, Bool, true, false, cond, List, [], ◌∷◌, get_or, slice_set, Option, Some, None, refl, ap, subst, ◌∙◌}
use Rattle.std.specs.Prelude.{option_map}
use Rattle.std.proofs.lemmas.List.{get_or-set_same}
use Rattle.smm_base.specs.declared.kinds.HandlerType.{HandlerType}
use Rattle.smm_base.specs.declared.status.Status.{Status}
use Rattle.cpu_table.specs.declared.handlers.Operand.{Operand}
use Rattle.cpu_table.specs.declared.handlers.OpDef.{OpDef}
use Rattle.cpu_table.specs.declared.handlers.OpDef.TheVariants as op
use Rattle.cpu_table.specs.declared.handlers.ProcedureDef.{ProcedureDef}
use Rattle.sync_words.specs.declared.label.StartRefusal.{StartRefusal}
use Rattle.sync_words.specs.declared.label.Label.{Label}
use Rattle.sync_words.specs.declared.label.Label.TheVariants as say
use Rattle.handler_registry.specs.declared.registration.Registration.{Registration}
use Rattle.handler_registry.specs.Registrations.{Registrations}
use Rattle.smi_manage.specs.declared.running.Running.{Running}
use Rattle.serving_place.specs.declared.seat.Seat.{Seat}
use Rattle.serving_place.specs.declared.seat.Seat.TheVariants.{Free, Open, Done}
use Rattle.serving_place.specs.declared.token.Token.{Token}
use Rattle.serving_place.specs.Serving.{Serving, number, seat, run_at, owner, owes_token, state_of}
use Rattle.serving_place.specs.Forms.{Event, Own, Ran, Program, turn_of, by_left, by_collect}
use Rattle.serving_place.specs.Operations.{Fits, Collects}
use Rattle.serving_place.specs.Places.{Call, OpenWalk, Begun, First, Started, Awaited, Place, one_less, levels_left, at_left, at_turn, at_collect, MayDo, MayInCall, MayInWalk, MayInWalks, MayBegun, with_walk, after_doing, after_turn, after_in_call, after_in_walk, after_in_walks, after_begun, Accepts, next}
use Rattle.serving_place.specs.Stands.{Leads}
use Rattle.serving_place.specs.Due.{Due, Nothing, Saying, Awaiting, Doing, due_left, due_turn, due_turns, due_in_call, due_in_walk, due_in_walks, due_begun, due}
use Rattle.serving_place.specs.Setting.{Setting}
use Rattle.handler_ops.specs.declared.reach.Reach.{Reach}
use Rattle.handler_ops.specs.declared.reach.Reach.TheVariants.{Outside, AtHand, Working, Elsewhere}
use Rattle.handler_ops.specs.declared.row.Row.{Row}
use Rattle.handler_ops.specs.declared.row.Row.TheVariants as told
use Rattle.handler_ops.specs.Course.{Course, Desks, has_job, reach, read_label, read_of, write_label, write_of, blank}
use Rattle.handler_ops.specs.NextRow.{desk_row, start_row, checking_row, waiting_row, operation_row, due_row, row_of}

-- where a result is awaited, its processor has a job
abbrev pub BegunOwed : Option Begun → List Seat → Type 0
BegunOwed (Some (Awaited c into)) qs = has_job (get_or qs c Free) ≡ true
BegunOwed _ qs = Unit {0}

abbrev pub IsOwed : Place → Type 0
IsOwed p = BegunOwed p.begun p.state.seats

-- A STEP

run_job : (q : Seat) (x : ℕ) (S : Status) → has_job (run_at q x S) ≡ has_job q
run_job Free x S = refl
run_job (Open j t) x S = refl
run_job (Done j t y T) x S = refl

ran_job : (qs : List Seat) (c i x : ℕ) (S : Status) → has_job (get_or (slice_set qs c (run_at (get_or qs c Free) x S)) i Free) ≡ has_job (get_or qs i Free)
ran_job [] c i x S = refl
ran_job (q ∷ qs) zero zero x S = run_job q x S
ran_job (q ∷ qs) zero (suc i) x S = refl
ran_job (q ∷ qs) (suc c) zero x S = refl
ran_job (q ∷ qs) (suc c) (suc i) x S = ran_job qs c i x S

ran_owed : (b : Option Begun) (qs : List Seat) (c x : ℕ) (S : Status) → BegunOwed b qs → BegunOwed b (slice_set qs c (run_at (get_or qs c Free) x S))
ran_owed None qs c x S h = tt
ran_owed (Some (First w)) qs c x S h = tt
ran_owed (Some (Started o)) qs c x S h = tt
ran_owed (Some (Awaited i into)) qs c x S h = ran_job qs c i x S ∙ h

left_owed : (left : ℕ) (A : Type 0) (B : ℕ → Type 0) (p : Place) (f : ℕ → Place) → by_left left A B → IsOwed p → ((n : ℕ) → B n → IsOwed (f n)) → IsOwed (at_left left p f)
left_owed zero A B p f h k g = k
left_owed (suc n) A B p f h k g = g n h

left_any : (left : ℕ) (p : Place) (f : ℕ → Place) → IsOwed p → ((n : ℕ) → IsOwed (f n)) → IsOwed (at_left left p f)
left_any zero p f k g = k
left_any (suc n) p f k g = g n

turn_any : (o : Option Registration) (p : Place) (f : ℕ → Place) → IsOwed p → ((h : ℕ) → IsOwed (f h)) → IsOwed (at_turn o p f)
turn_any None p f k g = k
turn_any (Some r) p f k g = g r.handler

collect_owed : (l : Label) (f : ℕ → Place) (p : Place) → ((c : ℕ) → IsOwed (f c)) → IsOwed p → IsOwed (at_collect l f p)
collect_owed (say.Collect c) f p g h = g c
collect_owed _ f p g h = h

walk_owed : (n : ℕ) (kinds : List HandlerType) (ws : List OpenWalk) (kind : HandlerType) (s : Serving) → IsOwed (with_walk n kinds ws kind s)
walk_owed zero kinds ws kind s = tt
walk_owed (suc n) kinds ws kind s = tt

start_owed : (ps : List ProcedureDef) (n : ℕ) (kinds : List HandlerType) (ws : List OpenWalk) (cpu : ℕ) (name : List ℕ) (arg : Operand) (into : ℕ) (s : Serving) (l : Label)
    → by_collect l (λ c. Collects (op.Start cpu name arg into) s c) (Fits ps (op.Start cpu name arg into) s l) → IsOwed (after_doing n kinds ws (op.Start cpu name arg into) s l)
start_owed ps n kinds ws cpu name arg into s (say.Start c j p a) h = ap has_job (get_or-set_same s.seats cpu (Open j false) Free h.there)
start_owed ps n kinds ws cpu name arg into s _ h = tt

doing_owed : (ps : List ProcedureDef) (m n : ℕ) (kinds : List HandlerType) (ws : List OpenWalk) (o : OpDef) (s : Serving) (l : Label) → MayDo ps m o s l
    → IsOwed (after_doing n kinds ws o s l)
doing_owed ps m n kinds ws (op.Manage kind) s l h = walk_owed n kinds ws kind s
doing_owed ps m n kinds ws (op.Start cpu name arg into) s l h = start_owed ps n kinds ws cpu name arg into s l h
doing_owed ps m n kinds ws o s l h = collect_owed l _ _ (λ c. tt) tt

turns_owed : (program : Program) (kinds : List HandlerType) (ws : List OpenWalk) (kind : HandlerType) (turns : List ℕ) (r : Running) (s : Serving)
    → IsOwed (after_turn program kinds ws kind turns r s)
turns_owed program kinds ws kind [] r s = tt
turns_owed program kinds ws kind (n ∷ turns) r s =
    turn_any (turn_of kind s.registrations n) _ _ (turns_owed program kinds ws kind turns r s) (λ h. left_any s.left _ _ tt (λ m. tt))

call_owed : (program : Program) (n : ℕ) (kinds : List HandlerType) (ws : List OpenWalk) (w : OpenWalk) (h : ℕ) (os : List OpDef) (s : Serving) (l : Label)
    → MayInCall program n h os s l → IsOwed (after_in_call program kinds ws w h os s l)
call_owed program n kinds ws w h [] s l k = tt
call_owed program n kinds ws w h (o ∷ os) s l k =
    left_owed s.left _ (λ m. MayDo program.procedures n o (record s { left = m }) l) _ _ k tt
    (λ m i. doing_owed program.procedures n (one_less (levels_left ws)) kinds (record w { called = Some (record { handler = h; ops = os }) } ∷ ws) o (record s { left = m }) l i)

in_walk_owed : (program : Program) (n : ℕ) (kinds : List HandlerType) (ws : List OpenWalk) (w : OpenWalk) (c : Option Call) (s : Serving) (l : Label)
    → MayInWalk program n w c s l → IsOwed (after_in_walk program kinds ws w c s l)
in_walk_owed program n kinds ws w None s l k = turns_owed program kinds ws w.kind w.turns w.running s
in_walk_owed program n kinds ws w (Some c) s l k = call_owed program n kinds ws w c.handler c.ops s l k

in_walks_owed : (program : Program) (kinds : List HandlerType) (walks : List OpenWalk) (s : Serving) (l : Label) → MayInWalks program kinds walks s l
    → IsOwed (after_in_walks program kinds walks s l)
in_walks_owed program [] [] s l k = tt
in_walks_owed program (kind ∷ kinds) [] s l k = left_any s.left _ _ tt (λ m. tt)
in_walks_owed program [] (w ∷ ws) s l k = in_walk_owed program (levels_left (w ∷ ws)) [] ws w w.called s l k
in_walks_owed program (kind ∷ kinds) (w ∷ ws) s l k = in_walk_owed program (levels_left (w ∷ ws)) (kind ∷ kinds) ws w w.called s l k

begun_owed : (program : Program) (kinds : List HandlerType) (walks : List OpenWalk) (b : Option Begun) (s : Serving) (l : Label) → MayBegun program kinds walks b s l
    → IsOwed (after_begun program kinds walks b s l)
begun_owed program kinds walks None s l k = in_walks_owed program kinds walks s l k
begun_owed program kinds walks (Some (First w)) s l k = tt
begun_owed program kinds walks (Some (Started o)) s l k = doing_owed program.procedures (levels_left walks) (levels_left walks) kinds walks o s l k
begun_owed program kinds walks (Some (Awaited c into)) s l k = tt

next_owed : (program : Program) (p : Place) (e : Event) → Accepts program p e → IsOwed p → IsOwed (next program p e)
next_owed program p (Own l) k h = begun_owed program p.kinds p.walks p.begun p.state l k
next_owed program p (Ran c j x S) k h = ran_owed p.begun p.state.seats c x S h

pub leads_owed : (program : Program) (p : Place) (es : List Event) (q : Place) → Leads program p es q → IsOwed p → IsOwed q
leads_owed program p [] q e h = subst IsOwed e h
leads_owed program p (e ∷ es) q k h = leads_owed program (next program p e) es q k.1 (next_owed program p e k.0 h)

-- THE ROW

abbrev pub DueOwed : List Seat → Due → Type 0
DueOwed qs (Awaiting c) = has_job (get_or qs c Free) ≡ true
DueOwed qs _ = Unit {0}

abbrev pub RowOwed : List Seat → Row → Type 0
RowOwed qs (told.AwaitingJob c) = has_job (get_or qs c Free) ≡ true
RowOwed qs _ = Unit {0}

module _ (qs : List Seat) where
  due_left_owed : (left : ℕ) (x : Due) → DueOwed qs x → DueOwed qs (due_left left x)
  due_left_owed zero x h = tt
  due_left_owed (suc n) x h = h

  due_turn_owed : (o : Option Registration) (x : Due) (f : ℕ → Due) → DueOwed qs x → ((h : ℕ) → DueOwed qs (f h)) → DueOwed qs (due_turn o x f)
  due_turn_owed None x f h k = h
  due_turn_owed (Some r) x f h k = k r.handler

  due_turns_owed : (kind : HandlerType) (turns : List ℕ) (r : Running) (g : Registrations) (left : ℕ) → DueOwed qs (due_turns kind turns r g left)
  due_turns_owed kind [] r g left = tt
  due_turns_owed kind (n ∷ turns) r g left = due_turn_owed (turn_of kind g n) _ _ (due_turns_owed kind turns r g left) (λ h. due_left_owed left (Saying (say.Call h)) tt)

  due_call_owed : (program : Program) (n h : ℕ) (os : List OpDef) (left : ℕ) → DueOwed qs (due_in_call program n h os left)
  due_call_owed program n h [] left = tt
  due_call_owed program n h (o ∷ os) left = due_left_owed left (Doing n o) tt

  due_walk_owed : (program : Program) (n : ℕ) (w : OpenWalk) (c : Option Call) (g : Registrations) (left : ℕ) → DueOwed qs (due_in_walk program n w c g left)
  due_walk_owed program n w None g left = due_turns_owed w.kind w.turns w.running g left
  due_walk_owed program n w (Some c) g left = due_call_owed program n c.handler c.ops left

  due_walks_owed : (program : Program) (kinds : List HandlerType) (walks : List OpenWalk) (g : Registrations) (left : ℕ) → DueOwed qs (due_in_walks program kinds walks g left)
  due_walks_owed program [] [] g left = tt
  due_walks_owed program (kind ∷ kinds) [] g left = due_left_owed left (Saying (say.Manage kind)) tt
  due_walks_owed program [] (w ∷ ws) g left = due_walk_owed program (levels_left (w ∷ ws)) w w.called g left
  due_walks_owed program (kind ∷ kinds) (w ∷ ws) g left = due_walk_owed program (levels_left (w ∷ ws)) w w.called g left

  due_owed : (program : Program) (kinds : List HandlerType) (walks : List OpenWalk) (b : Option Begun) (g : Registrations) (left : ℕ) → BegunOwed b qs
      → DueOwed qs (due_begun program kinds walks b g left)
  due_owed program kinds walks None g left h = due_walks_owed program kinds walks g left
  due_owed program kinds walks (Some (First w)) g left h = tt
  due_owed program kinds walks (Some (Started o)) g left h = tt
  due_owed program kinds walks (Some (Awaited c into)) g left h = h

  desk_owed : (r : Reach) (c : ℕ) (refused : Status → Label) (absent : Status) (own : Row) → RowOwed qs own → RowOwed qs (desk_row r c refused absent own)
  desk_owed Outside c refused absent own h = tt
  desk_owed AtHand c refused absent own h = h
  desk_owed Working c refused absent own h = tt
  desk_owed Elsewhere c refused absent own h = tt

  begins_owed : (o : Option StartRefusal) (job held marked : Bool) (c : ℕ) (collect : Row) (start : Label) → (job ≡ true → RowOwed qs collect)
      → RowOwed qs (start_row o job held marked c collect start)
  begins_owed (Some y) job held marked c collect start h = tt
  begins_owed None true held marked c collect start h = h refl
  begins_owed None false false marked c collect start h = tt
  begins_owed None false true false c collect start h = tt
  begins_owed None false true true c collect start h = tt

  checks_owed : (t : Option Token) (o : Option ℕ) (n : ℕ) → RowOwed qs (checking_row (state_of t o) n)
  checks_owed (Some t) o n = tt
  checks_owed None None n = tt
  checks_owed None (Some c) n = tt

-- a token that is out has its job's processor
abbrev OwnerOwed : List Seat → Option ℕ → Type 0
OwnerOwed qs None = Unit {0}
OwnerOwed qs (Some c) = has_job (get_or qs c Free) ≡ true

owes_job : (n : ℕ) (q : Seat) → owes_token n q ≡ true → has_job q ≡ true
owes_job n Free h = cc
owes_job n (Open j t) h = refl
owes_job n (Done j t x S) h = refl

owner_behind : (q : Seat) (qs : List Seat) (o : Option ℕ) → OwnerOwed qs o → OwnerOwed (q ∷ qs) (option_map suc o)
owner_behind q qs None h = tt
owner_behind q qs (Some c) h = h

owner_first : (q : Seat) (qs : List Seat) (b : Bool) (o : Option ℕ) → (b ≡ true → has_job q ≡ true) → OwnerOwed (q ∷ qs) o → OwnerOwed (q ∷ qs) (cond b (Some 0) o)
owner_first q qs true o f h = f refl
owner_first q qs false o f h = h

owner_owed : (n : ℕ) (qs : List Seat) → OwnerOwed qs (owner n qs)
owner_owed n [] = tt
owner_owed n (q ∷ qs) = owner_first q qs (owes_token n q) (option_map suc (owner n qs)) (owes_job n q) (owner_behind q qs (owner n qs) (owner_owed n qs))

waits_owed : (qs : List Seat) (t : Option Token) (o : Option ℕ) (n : ℕ) → OwnerOwed qs o → RowOwed qs (waiting_row (state_of t o) n)
waits_owed qs (Some t) o n h = tt
waits_owed qs None None n h = tt
waits_owed qs None (Some c) n h = h

operation_owed : (t : Setting) (held : Desks) (s : Serving) (marked : Bool) (n : ℕ) (o : OpDef) → RowOwed s.seats (operation_row t held s marked n o)
operation_owed t held s marked n (op.Read c reg width into) = desk_owed s.seats (reach t held s c) c (read_label c reg width 0) (read_of t false blank c reg width).status (told.Reading c reg width) tt
operation_owed t held s marked n (op.Write c reg width v) = desk_owed s.seats (reach t held s c) c (write_label c reg width (number s v)) (write_of false blank reg width (number s v)).status (told.Writing c reg width (number s v)) tt
operation_owed t held s marked n (op.Start c name arg into) = begins_owed s.seats _ (has_job (seat s c)) _ marked c (told.AwaitingJob c) _ (λ h. h)
operation_owed t held s marked n (op.Launch c name arg into) = begins_owed s.seats _ (has_job (seat s c)) _ marked c _ _ (λ h. tt)
operation_owed t held s marked n (op.Check v) = checks_owed s.seats _ _ _
operation_owed t held s marked n (op.Wait v into) = waits_owed s.seats _ _ _ (owner_owed _ s.seats)
operation_owed t held s marked n _ = tt

due_row_owed : (t : Setting) (held : Desks) (s : Serving) (marked : Bool) (x : Due) → DueOwed s.seats x → RowOwed s.seats (due_row t held s marked x)
due_row_owed t held s marked Nothing h = tt
due_row_owed t held s marked (Saying l) h = tt
due_row_owed t held s marked (Awaiting c) h = h
due_row_owed t held s marked (Doing n o) h = operation_owed t held s marked n o

-- the row of a course awaits only such a job
pub row_owed : (t : Setting) (held : Desks) (c : Course) → IsOwed c.place → RowOwed c.place.state.seats (row_of t held c)
row_owed t held c h =
    let p : Place = c.place in
    due_row_owed t held p.state c.marked (due t.program p) (due_owed p.state.seats t.program p.kinds p.walks p.begun p.state.registrations p.state.left h)

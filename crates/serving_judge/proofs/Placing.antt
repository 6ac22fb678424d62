-- What the test of a place takes is what the place takes.
use Rattle.std.proofs.Common.{◌≡◌, ℕ, zero, suc, Bool, true, false, List, [], ◌∷◌, Option, Some, None, refl}
use Rattle.std.specs.Prelude.{◌&&◌, not}
use Rattle.smm_base.specs.declared.kinds.HandlerType.{HandlerType}
use Rattle.cpu_table.specs.declared.handlers.OpDef.{OpDef}
use Rattle.cpu_table.specs.declared.handlers.ProcedureDef.{ProcedureDef}
use Rattle.sync_words.specs.declared.label.Label.{Label}
use Rattle.sync_words.specs.declared.label.Label.TheVariants as say
use Rattle.handler_registry.specs.declared.registration.Registration.{Registration}
use Rattle.handler_registry.specs.Registrations.{Registrations}
use Rattle.smi_manage.specs.declared.running.Running.{Running}
use Rattle.smi_manage.specs.Answers.{ended_with}
use Rattle.smm_base.specs.declared.status.Status.{Status}
use Rattle.serving_place.specs.Serving.{Serving, seat}
use Rattle.serving_place.specs.Forms.{Program, Own, Ran, status_of, by_left, by_turn, turn_of}
use Rattle.serving_place.specs.Places.{Place, OpenWalk, Call, Begun, First, Started, Awaited, levels_left, MayTurn, MayInCall, MayInWalk, MayInWalks, MayBegun, HasMore, Accepts, IsOver}
use Rattle.serving_place.specs.Due.{Due, Nothing, Saying, Awaiting, Doing, due, due_left, due_turn, due_turns, due_in_call, due_in_walk, due_in_walks, due_begun}
use Rattle.serving_judge.specs.Words.{is_collect}
use Rattle.serving_judge.specs.Tests.{has_ended, has_open, takes, accepts_own, is_nothing, accepts_run}
use Rattle.serving_judge.proofs.Telling.{Tells, nothing, always, both, at_test}
use Rattle.serving_judge.proofs.Labels.{spent_tells, begin_tells, manage_tells, call_tells, return_tells, answer_tells, collect_tells}
use Rattle.serving_judge.proofs.Operating.{ended_tells, open_tells, does_tells, does_less}

left_tells : (ps : List ProcedureDef) (s : Serving) (l : Label) (n : ℕ) (d : Due) (F : ℕ → Type 0)
    → ((m : ℕ) → Tells (takes ps s l d) (F m)) → Tells (takes ps s l (due_left n d)) (by_left n (l ≡ say.Spent) F)
left_tells ps s l zero d F h = spent_tells l
left_tells ps s l (suc m) d F h = h m

turn_tells : (ps : List ProcedureDef) (kind : HandlerType) (turns : List ℕ) (r : Running) (s : Serving) (l : Label)
    → Tells (takes ps s l (due_turns kind turns r s.registrations s.left)) (MayTurn kind turns r s l)
turn_tells ps kind [] r s l = answer_tells (ended_with kind r) l
turn_tells ps kind (n ∷ turns) r s l = at_turn (turn_of kind s.registrations n) (turn_tells ps kind turns r s l)
  where
    at_turn : (o : Option Registration) → Tells (takes ps s l (due_turns kind turns r s.registrations s.left)) (MayTurn kind turns r s l)
        → Tells (takes ps s l (due_turn o (due_turns kind turns r s.registrations s.left) (λ h. due_left s.left (Saying (say.Call h)))))
        (by_turn o (MayTurn kind turns r s l) (λ h. by_left s.left (l ≡ say.Spent) (λ m. l ≡ say.Call h)))
    at_turn None h = h
    at_turn (Some x) h = left_tells ps s l s.left (Saying (say.Call x.handler)) (λ m. l ≡ say.Call x.handler) (λ m. call_tells x.handler l)

call_tells_in : (program : Program) (n h : ℕ) (os : List OpDef) (s : Serving) (l : Label)
    → Tells (takes program.procedures s l (due_in_call program n h os s.left)) (MayInCall program n h os s l)
call_tells_in program n h [] s l = return_tells h (status_of program h) l
call_tells_in program n h (o ∷ os) s l =
    left_tells program.procedures s l s.left (Doing n o) _
    (λ m. at_test (does_less program.procedures n o s m l) (does_tells program.procedures n o (record s { left = m }) l))

walk_tells : (program : Program) (n : ℕ) (w : OpenWalk) (c : Option Call) (s : Serving) (l : Label)
    → Tells (takes program.procedures s l (due_in_walk program n w c s.registrations s.left)) (MayInWalk program n w c s l)
walk_tells program n w None s l = turn_tells program.procedures w.kind w.turns w.running s l
walk_tells program n w (Some c) s l = call_tells_in program n c.handler c.ops s l

walks_tell : (program : Program) (kinds : List HandlerType) (ws : List OpenWalk) (s : Serving) (l : Label)
    → Tells (takes program.procedures s l (due_in_walks program kinds ws s.registrations s.left)) (MayInWalks program kinds ws s l)
walks_tell program [] [] s l = nothing
walks_tell program (kind ∷ kinds) [] s l = left_tells program.procedures s l s.left (Saying (say.Manage kind)) (λ m. l ≡ say.Manage kind) (λ m. manage_tells kind l)
walks_tell program [] (w ∷ ws) s l = walk_tells program (levels_left (w ∷ ws)) w w.called s l
walks_tell program (kind ∷ kinds) (w ∷ ws) s l = walk_tells program (levels_left (w ∷ ws)) w w.called s l

begun_tells : (program : Program) (kinds : List HandlerType) (ws : List OpenWalk) (b : Option Begun) (s : Serving) (l : Label)
    → Tells (takes program.procedures s l (due_begun program kinds ws b s.registrations s.left)) (MayBegun program kinds ws b s l)
begun_tells program kinds ws None s l = walks_tell program kinds ws s l
begun_tells program kinds ws (Some (First w)) s l = begin_tells w l
begun_tells program kinds ws (Some (Started o)) s l = does_tells program.procedures (levels_left ws) o s l
begun_tells program kinds ws (Some (Awaited c into)) s l = both (is_collect c l) (has_ended (seat s c)) (collect_tells c l) (ended_tells (seat s c))

pub own_tells : (program : Program) (p : Place) (l : Label) → Tells (accepts_own program p l) (Accepts program p (Own l))
own_tells program p l = begun_tells program p.kinds p.walks p.begun p.state l

-- WHETHER ANYTHING IS LEFT

left_some : (n : ℕ) (d : Due) → is_nothing d ≡ false → is_nothing (due_left n d) ≡ false
left_some zero d e = refl
left_some (suc n) d e = e

turns_some : (kind : HandlerType) (turns : List ℕ) (r : Running) (g : Registrations) (left : ℕ) → is_nothing (due_turns kind turns r g left) ≡ false
turns_some kind [] r g left = refl
turns_some kind (n ∷ turns) r g left = at_turn (turn_of kind g n) (turns_some kind turns r g left)
  where
    at_turn : (o : Option Registration) → is_nothing (due_turns kind turns r g left) ≡ false
        → is_nothing (due_turn o (due_turns kind turns r g left) (λ h. due_left left (Saying (say.Call h)))) ≡ false
    at_turn None h = h
    at_turn (Some x) h = left_some left (Saying (say.Call x.handler)) refl

walk_some : (program : Program) (n : ℕ) (w : OpenWalk) (c : Option Call) (g : Registrations) (left : ℕ) → is_nothing (due_in_walk program n w c g left) ≡ false
walk_some program n w None g left = turns_some w.kind w.turns w.running g left
walk_some program n w (Some c) g left = in_call c.ops
  where
    in_call : (os : List OpDef) → is_nothing (due_in_call program n c.handler os left) ≡ false
    in_call [] = refl
    in_call (o ∷ os) = left_some left (Doing n o) refl

some_tells : (d : Due) → is_nothing d ≡ false → Tells (not (is_nothing d)) (Unit {0})
some_tells Nothing e = absurd cc
some_tells (Saying l) e = always
some_tells (Awaiting c) e = always
some_tells (Doing n o) e = always

pub more_tells : (program : Program) (kinds : List HandlerType) (ws : List OpenWalk) (b : Option Begun) (g : Registrations) (left : ℕ)
    → Tells (not (is_nothing (due_begun program kinds ws b g left))) (HasMore kinds ws b)
more_tells program [] [] None g left = nothing
more_tells program (kind ∷ kinds) [] None g left = some_tells (due_left left (Saying (say.Manage kind))) (left_some left (Saying (say.Manage kind)) refl)
more_tells program [] (w ∷ ws) None g left = some_tells _ (walk_some program (levels_left (w ∷ ws)) w w.called g left)
more_tells program (kind ∷ kinds) (w ∷ ws) None g left = some_tells _ (walk_some program (levels_left (w ∷ ws)) w w.called g left)
more_tells program [] [] (Some (First w)) g left = always
more_tells program (kind ∷ kinds) [] (Some (First w)) g left = always
more_tells program [] (v ∷ ws) (Some (First w)) g left = always
more_tells program (kind ∷ kinds) (v ∷ ws) (Some (First w)) g left = always
more_tells program [] [] (Some (Started o)) g left = always
more_tells program (kind ∷ kinds) [] (Some (Started o)) g left = always
more_tells program [] (v ∷ ws) (Some (Started o)) g left = always
more_tells program (kind ∷ kinds) (v ∷ ws) (Some (Started o)) g left = always
more_tells program [] [] (Some (Awaited c into)) g left = always
more_tells program (kind ∷ kinds) [] (Some (Awaited c into)) g left = always
more_tells program [] (v ∷ ws) (Some (Awaited c into)) g left = always
more_tells program (kind ∷ kinds) (v ∷ ws) (Some (Awaited c into)) g left = always

pub run_tells : (program : Program) (p : Place) (c j x : ℕ) (S : Status) → Tells (accepts_run program p c j) (Accepts program p (Ran c j x S))
run_tells program p c j x S =
    both (not (is_nothing (due program p))) (has_open (seat p.state c) j)
    (more_tells program p.kinds p.walks p.begun p.state.registrations p.state.left) (open_tells (seat p.state c) j)

over_by : (b : Bool) {A : Type 0} → Tells (not b) A → Tells b (A → ⊥)
over_by true h = (λ e x. let f : false ≡ true = h.1 x in absurd cc, λ n. refl)
over_by false h = (λ e. absurd cc, λ n. absurd (n (h.0 refl)))

pub over_tells : (program : Program) (p : Place) → Tells (is_nothing (due program p)) (IsOver p)
over_tells program p = over_by (is_nothing (due program p)) (more_tells program p.kinds p.walks p.begun p.state.registrations p.state.left)

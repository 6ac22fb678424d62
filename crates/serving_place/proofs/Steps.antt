-- An own label: what is still to be said, headed by the label, is that the label may be said, and what is still to be
-- said from the place after it.
use Rattle.std.proofs.Common.{◌≡◌, ◌↔◌, ℕ, zero, suc, Bool, true, false, List, [], ◌∷◌, Option, Some, None, ◌||◌, ◌∙◌, subst, refl}
use Rattle.std.specs.List.{list_any}
use Rattle.smm_base.specs.declared.kinds.HandlerType.{HandlerType}
use Rattle.smm_base.specs.declared.status.Status.{Status}
use Rattle.cpu_table.specs.declared.handlers.OpDef.{OpDef}
use Rattle.cpu_table.specs.declared.handlers.OpDef.TheVariants as op
use Rattle.cpu_table.specs.declared.handlers.ProcedureDef.{ProcedureDef}
use Rattle.sync_words.specs.declared.label.Label.{Label}
use Rattle.sync_words.specs.declared.label.Label.TheVariants as say
use Rattle.handler_registry.specs.declared.registration.Registration.{Registration}
use Rattle.smi_manage.specs.declared.running.Running.{Running}
use Rattle.smi_manage.specs.Answers.{stops, settles, last_or, answer_of, fresh, plus, run, ended_with}
use Rattle.serving_place.specs.Serving.{Serving, collected}
use Rattle.serving_place.specs.Operations.{after, Collects}
use Rattle.serving_place.specs.Forms.{Event, Own, Program, status_of, Rest, Part, Exactly, Returning, AfterLabel, Operating, Operation, Operations, Calls, Answering, Walk, by_start, by_left, by_turn, by_test, by_collect, turn_of, count_up}
use Rattle.serving_place.specs.Places.{Call, OpenWalk, Begun, First, Started, Awaited, Place, one_less, levels_left, AnsweringLater, AfterReturn, OpenWalkRest, OpenWalksRest, BegunRest, StillToSay, at_left, at_turn, at_collect, place_begun, MayOpen, with_walk, awaits_after, begun_by, MayOperate, after_operating, MayDo, after_doing, MayTurn, after_turn, MayInCall, after_in_call, turns_left, MayInWalk, after_in_walk, MayInWalks, after_in_walks, MayBegun, after_begun, Accepts, next}

same : {A : Type 0} → A ↔ A
same = (λ x. x, λ x. x)

nothing : {A B : Type 0} → (⊥ × A) ↔ (⊥ × B)
nothing = (λ x. absurd x.0, λ x. absurd x.0)

-- a choice on each side goes the same way
left_same : (n : ℕ) {A : Type 0} {F : ℕ → Type 0} {B : Type 0} {G : ℕ → Type 0} (x : Place) (g : ℕ → Place) (P : Place → Type 0)
    → (A ↔ (B × P x)) → ((m : ℕ) → F m ↔ (G m × P (g m))) → by_left n A F ↔ (by_left n B G × P (at_left n x g))
left_same zero x g P h k = h
left_same (suc n) x g P h k = k n

turn_choice : (o : Option Registration) {A : Type 0} {F : ℕ → Type 0} {B : Type 0} {G : ℕ → Type 0} (x : Place) (g : ℕ → Place) (P : Place → Type 0)
    → (A ↔ (B × P x)) → ((m : ℕ) → F m ↔ (G m × P (g m))) → by_turn o A F ↔ (by_turn o B G × P (at_turn o x g))
turn_choice None x g P h k = h
turn_choice (Some r) x g P h k = k r.handler

collect_choice : (l : Label) {A : Type 0} {F : ℕ → Type 0} {B : Type 0} {G : ℕ → Type 0} (x : Place) (g : ℕ → Place) (P : Place → Type 0)
    → (A ↔ (B × P x)) → ((m : ℕ) → F m ↔ (G m × P (g m))) → by_collect l F A ↔ (by_collect l G B × P (at_collect l g x))
collect_choice (say.Collect c) x g P h k = k c
collect_choice _ x g P h k = h

second : {A B C : Type 0} → (B ↔ C) → (A × B) ↔ (A × C)
second h = (λ x. (x.0, h.0 x.1), λ x. (x.0, h.1 x.1))

-- a manage collects no job; every other operation goes on as it stands
collect_back : (ps : List ProcedureDef) (deeper : HandlerType → Part) (o : OpDef) (k : Rest) (s t : Serving) (c : ℕ) (es : List Event)
    → (Collects o s c × Operating ps o k t es) ↔ (Collects o s c × Operation ps deeper o k t es)
collect_back ps deeper (op.Manage kind) k s t c es = nothing
collect_back ps deeper _ k s t c es = same

start_same : (program : Program) (n : ℕ) (l : Label) (c into : ℕ) (k : Rest) (s : Serving) (es : List Event)
    → by_start l (Returning c into k) k s es ↔ BegunRest program n (awaits_after l (Awaited c into)) k s es
start_same program n (say.Start c j p a) d into k s es = same
start_same program n _ d into k s es = same

label_same : (program : Program) (n : ℕ) (o : OpDef) (l : Label) (k : Rest) (s : Serving) (es : List Event)
    → AfterLabel o l k s es ↔ BegunRest program n (begun_by o l) k s es
label_same program n (op.Start cpu name arg into) l k s es = start_same program n l cpu into k s es
label_same program n _ l k s es = same

operating_same : (program : Program) (kinds : List HandlerType) (ws : List OpenWalk) (o : OpDef) (s : Serving) (l : Label) (es : List Event)
    → Operating program.procedures o (OpenWalksRest program kinds ws) s (Own l ∷ es)
    ↔ (MayOperate program.procedures o s l × StillToSay program (after_operating kinds ws o s l) es)
operating_same program kinds ws o s l es =
    collect_choice l (record { kinds = kinds; walks = ws; begun = begun_by o l; state = after o s l })
    (λ c. place_begun kinds ws (Started o) (collected c s))
    (λ p. StillToSay program p es)
    (second (label_same program (levels_left ws) o l (OpenWalksRest program kinds ws) (after o s l) es))
    (λ c. collect_back program.procedures (Walk program (levels_left ws)) o (OpenWalksRest program kinds ws) s (collected c s) c es)

-- the running status gives the answer of the list of statuses
or_assoc : (a b c : Bool) → ((a || b) || c) ≡ (a || (b || c))
or_assoc true b c = refl
or_assoc false b c = refl

or_false : (a : Bool) → a ≡ (a || false)
or_false true = refl
or_false false = refl

run_last : (kind : HandlerType) (r : Running) (xs : List Status) → (run kind r xs).last ≡ last_or r.last xs
run_last kind r [] = refl
run_last kind r (x ∷ xs) = run_last kind (plus kind r x) xs

run_settled : (kind : HandlerType) (r : Running) (xs : List Status) → (run kind r xs).settled ≡ (r.settled || list_any (settles kind) xs)
run_settled kind r [] = or_false r.settled
run_settled kind r (x ∷ xs) = run_settled kind (plus kind r x) xs ∙ or_assoc r.settled (settles kind x) (list_any (settles kind) xs)

pub running_answer : (kind : HandlerType) (xs : List Status) → ended_with kind (run kind fresh xs) ≡ answer_of kind xs
running_answer kind xs = rw (run_last kind fresh xs, run_settled kind fresh xs) refl

answering_same : (kind : HandlerType) (k : Rest) → AnsweringLater kind fresh k ≡ Answering kind k
answering_same kind k = λ i. λ xs. Exactly (say.Answer (running_answer kind xs i)) k

-- a walk is opened
open_same : (program : Program) (kinds : List HandlerType) (ws : List OpenWalk) (n : ℕ) → levels_left ws ≡ n
    → (kind : HandlerType) (s : Serving) (l : Label) (es : List Event)
    → Walk program n kind (OpenWalksRest program kinds ws) s (Own l ∷ es) ↔ (MayOpen n kind l × StillToSay program (with_walk n kinds ws kind s) es)
open_same program kinds ws zero e kind s l es = same
open_same program kinds ws (suc n) e kind s l es =
    rw e (subst (λ (f : List Status → Rest). (Exactly (say.Manage kind) (λ t. Calls program (Walk program n) kind (count_up 0 t.registrations.last) f t)) s (Own l ∷ es)
    ↔ ((l ≡ say.Manage kind) × Calls program (Walk program n) kind (count_up 0 s.registrations.last) (AnsweringLater kind fresh (OpenWalksRest program kinds ws)) s es))
    (answering_same kind (OpenWalksRest program kinds ws)) same)

operation_same : (program : Program) (kinds : List HandlerType) (ws : List OpenWalk) (n : ℕ) → levels_left ws ≡ n
    → (o : OpDef) (s : Serving) (l : Label) (es : List Event)
    → Operation program.procedures (Walk program n) o (OpenWalksRest program kinds ws) s (Own l ∷ es)
    ↔ (MayDo program.procedures n o s l × StillToSay program (after_doing n kinds ws o s l) es)
operation_same program kinds ws n e (op.Manage kind) s l es = open_same program kinds ws n e kind s l es
operation_same program kinds ws n e o s l es = operating_same program kinds ws o s l es

-- a walk between two calls
turn_same : (program : Program) (kinds : List HandlerType) (ws : List OpenWalk) (kind : HandlerType) (turns : List ℕ) (r : Running) (s : Serving) (l : Label) (es : List Event)
    → Calls program (Walk program (one_less (levels_left ws))) kind turns (AnsweringLater kind r (OpenWalksRest program kinds ws)) s (Own l ∷ es)
    ↔ (MayTurn kind turns r s l × StillToSay program (after_turn program kinds ws kind turns r s) es)
turn_same program kinds ws kind [] r s l es = same
turn_same program kinds ws kind (n ∷ turns) r s l es =
    turn_choice (turn_of kind s.registrations n) _ _ (λ p. StillToSay program p es)
    (turn_same program kinds ws kind turns r s l es)
    (λ h. left_same s.left _ _ (λ p. StillToSay program p es) same (λ m. same))

-- a handler that is being called
return_same : (program : Program) (deeper : HandlerType → Part) (kind : HandlerType) (turns : List ℕ) (r : Running) (S : Status) (b : Bool) (k : Rest) (s : Serving) (es : List Event)
    → by_test b (AnsweringLater kind r k (S ∷ [])) (Calls program deeper kind turns (λ xs. AnsweringLater kind r k (S ∷ xs))) s es
    ↔ Calls program deeper kind (turns_left b turns) (AnsweringLater kind (plus kind r S) k) s es
return_same program deeper kind turns r S true k s es = same
return_same program deeper kind turns r S false k s es = same

in_call_same : (program : Program) (kinds : List HandlerType) (ws : List OpenWalk) (w : OpenWalk) (h : ℕ) (os : List OpDef) (s : Serving) (l : Label) (es : List Event)
    → Operations program.procedures (Walk program (one_less (levels_left ws))) os
    (Exactly (say.Return h (status_of program h))
    (AfterReturn program (Walk program (one_less (levels_left ws))) w.kind w.turns w.running (status_of program h) (OpenWalksRest program kinds ws)))
    s (Own l ∷ es)
    ↔ (MayInCall program (one_less (levels_left ws)) h os s l × StillToSay program (after_in_call program kinds ws w h os s l) es)
in_call_same program kinds ws w h [] s l es =
    second (return_same program (Walk program (one_less (levels_left ws))) w.kind w.turns w.running (status_of program h)
    (stops w.kind (status_of program h)) (OpenWalksRest program kinds ws) s es)
in_call_same program kinds ws w h (o ∷ os) s l es =
    left_same s.left _ _ (λ p. StillToSay program p es) same
    (λ m. operation_same program kinds (record w { called = Some (record { handler = h; ops = os }) } ∷ ws) (one_less (levels_left ws)) refl o (record s { left = m }) l es)

in_walk_same : (program : Program) (kinds : List HandlerType) (ws : List OpenWalk) (w : OpenWalk) (c : Option Call) → w.called ≡ c
    → (s : Serving) (l : Label) (es : List Event)
    → OpenWalkRest program (Walk program (one_less (levels_left ws))) w (OpenWalksRest program kinds ws) s (Own l ∷ es)
    ↔ (MayInWalk program (one_less (levels_left ws)) w c s l × StillToSay program (after_in_walk program kinds ws w c s l) es)
in_walk_same program kinds ws w None e s l es = rw e (turn_same program kinds ws w.kind w.turns w.running s l es)
in_walk_same program kinds ws w (Some c) e s l es = rw e (in_call_same program kinds ws w c.handler c.ops s l es)

in_walks_same : (program : Program) (kinds : List HandlerType) (walks : List OpenWalk) (s : Serving) (l : Label) (es : List Event)
    → OpenWalksRest program kinds walks s (Own l ∷ es) ↔ (MayInWalks program kinds walks s l × StillToSay program (after_in_walks program kinds walks s l) es)
in_walks_same program [] [] s l es = (λ x. cc, λ x. absurd x.0)
in_walks_same program (kind ∷ kinds) [] s l es =
    left_same s.left _ _ (λ p. StillToSay program p es) same (λ m. open_same program kinds [] 4 refl kind (record s { left = m }) l es)
in_walks_same program [] (w ∷ ws) s l es = in_walk_same program [] ws w w.called refl s l es
in_walks_same program (k ∷ ks) (w ∷ ws) s l es = in_walk_same program (k ∷ ks) ws w w.called refl s l es

begun_same : (program : Program) (kinds : List HandlerType) (walks : List OpenWalk) (b : Option Begun) (s : Serving) (l : Label) (es : List Event)
    → StillToSay program (record { kinds = kinds; walks = walks; begun = b; state = s }) (Own l ∷ es)
    ↔ (MayBegun program kinds walks b s l × StillToSay program (after_begun program kinds walks b s l) es)
begun_same program kinds walks None s l es = in_walks_same program kinds walks s l es
begun_same program kinds walks (Some (First w)) s l es = same
begun_same program kinds walks (Some (Started o)) s l es = operation_same program kinds walks (levels_left walks) refl o s l es
begun_same program kinds walks (Some (Awaited c into)) s l es = same

pub own_step : (program : Program) (p : Place) (l : Label) (es : List Event)
    → StillToSay program p (Own l ∷ es) ↔ (Accepts program p (Own l) × StillToSay program (next program p (Own l)) es)
own_step program p l es = begun_same program p.kinds p.walks p.begun p.state l es

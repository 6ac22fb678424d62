-- A job that another processor ran leaves serving where it stands, and nothing is left to say exactly where serving is over.
use Rattle.std.proofs.Common.{◌≡◌, ◌↔◌, ℕ, zero, suc, List, [], ◌∷◌, Option, Some, None, refl}
use Rattle.smm_base.specs.declared.kinds.HandlerType.{HandlerType}
use Rattle.smm_base.specs.declared.status.Status.{Status}
use Rattle.cpu_table.specs.declared.handlers.OpDef.{OpDef}
use Rattle.cpu_table.specs.declared.handlers.OpDef.TheVariants as op
use Rattle.sync_words.specs.declared.label.Label.TheVariants as say
use Rattle.handler_registry.specs.declared.registration.Registration.{Registration}
use Rattle.smi_manage.specs.declared.running.Running.{Running}
use Rattle.serving_place.specs.Serving.{Serving, seat, ran, HasOpen}
use Rattle.serving_place.specs.Forms.{Event, Ran, Program, status_of, Rest, Part, Exactly, Operation, Operations, Calls, Walk, Entries, by_left, by_turn, turn_of}
use Rattle.serving_place.specs.Places.{Call, OpenWalk, Begun, First, Started, Awaited, Place, one_less, levels_left, AnsweringLater, OpenWalkRest, OpenWalksRest, StillToSay, HasMore, Accepts, next}

same : {A : Type 0} → A ↔ A
same = (λ x. x, λ x. x)

left_ran : (n : ℕ) {Q A : Type 0} {F : ℕ → Type 0} {B : Type 0} {G : ℕ → Type 0}
    → (A ↔ (Q × B)) → ((m : ℕ) → F m ↔ (Q × G m)) → by_left n A F ↔ (Q × by_left n B G)
left_ran zero h k = h
left_ran (suc n) h k = k n

turn_ran : (o : Option Registration) {Q A : Type 0} {F : ℕ → Type 0} {B : Type 0} {G : ℕ → Type 0}
    → (A ↔ (Q × B)) → ((m : ℕ) → F m ↔ (Q × G m)) → by_turn o A F ↔ (Q × by_turn o B G)
turn_ran None h k = h
turn_ran (Some r) h k = k r.handler

walk_ran : (program : Program) (n : ℕ) (kind : HandlerType) (k : Rest) (s : Serving) (c j x : ℕ) (S : Status) (es : List Event)
    → Walk program n kind k s (Ran c j x S ∷ es) ↔ (HasOpen (seat s c) j × Walk program n kind k (ran c x S s) es)
walk_ran program zero kind k s c j x S es = same
walk_ran program (suc n) kind k s c j x S es = same

operation_ran : (program : Program) (n : ℕ) (o : OpDef) (k : Rest) (s : Serving) (c j x : ℕ) (S : Status) (es : List Event)
    → Operation program.procedures (Walk program n) o k s (Ran c j x S ∷ es)
    ↔ (HasOpen (seat s c) j × Operation program.procedures (Walk program n) o k (ran c x S s) es)
operation_ran program n (op.Manage kind) k s c j x S es = walk_ran program n kind k s c j x S es
operation_ran program n _ k s c j x S es = same

operations_ran : (program : Program) (n : ℕ) (os : List OpDef) (h : ℕ) (k : Rest) (s : Serving) (c j x : ℕ) (S : Status) (es : List Event)
    → Operations program.procedures (Walk program n) os (Exactly (say.Return h (status_of program h)) k) s (Ran c j x S ∷ es)
    ↔ (HasOpen (seat s c) j × Operations program.procedures (Walk program n) os (Exactly (say.Return h (status_of program h)) k) (ran c x S s) es)
operations_ran program n [] h k s c j x S es = same
operations_ran program n (o ∷ os) h k s c j x S es =
    left_ran s.left same (λ m. operation_ran program n o _ (record s { left = m }) c j x S es)

calls_ran : (program : Program) (deeper : HandlerType → Part) (kind d : HandlerType) (turns : List ℕ) (r : Running) (k : Rest) (s : Serving) (c j x : ℕ) (S : Status) (es : List Event)
    → Calls program deeper kind turns (AnsweringLater d r k) s (Ran c j x S ∷ es)
    ↔ (HasOpen (seat s c) j × Calls program deeper kind turns (AnsweringLater d r k) (ran c x S s) es)
calls_ran program deeper kind d [] r k s c j x S es = same
calls_ran program deeper kind d (n ∷ turns) r k s c j x S es =
    turn_ran (turn_of kind s.registrations n) (calls_ran program deeper kind d turns r k s c j x S es) (λ h. left_ran s.left same (λ m. same))

in_walk_ran : (program : Program) (n : ℕ) (w : OpenWalk) (o : Option Call) → w.called ≡ o → (k : Rest) (s : Serving) (c j x : ℕ) (S : Status) (es : List Event)
    → OpenWalkRest program (Walk program n) w k s (Ran c j x S ∷ es)
    ↔ (HasOpen (seat s c) j × OpenWalkRest program (Walk program n) w k (ran c x S s) es)
in_walk_ran program n w None e k s c j x S es = rw e (calls_ran program (Walk program n) w.kind w.kind w.turns w.running k s c j x S es)
in_walk_ran program n w (Some o) e k s c j x S es = rw e (operations_ran program n o.ops o.handler _ s c j x S es)

goes : {A Q B : Type 0} → A ↔ (Q × B) → A ↔ ((Unit {0} × Q) × B)
goes h = (λ x. ((tt, (h.0 x).0), (h.0 x).1), λ x. h.1 (x.0.1, x.1))

begun_ran : (program : Program) (kinds : List HandlerType) (walks : List OpenWalk) (b : Begun) (s : Serving) (c j x : ℕ) (S : Status) (es : List Event)
    → StillToSay program (record { kinds = kinds; walks = walks; begun = Some b; state = s }) (Ran c j x S ∷ es)
    ↔ (HasOpen (seat s c) j × StillToSay program (record { kinds = kinds; walks = walks; begun = Some b; state = ran c x S s }) es)
begun_ran program kinds walks (First w) s c j x S es = same
begun_ran program kinds walks (Started o) s c j x S es = operation_ran program (levels_left walks) o (OpenWalksRest program kinds walks) s c j x S es
begun_ran program kinds walks (Awaited who into) s c j x S es = same

place_ran : (program : Program) (kinds : List HandlerType) (walks : List OpenWalk) (b : Option Begun) (s : Serving) (c j x : ℕ) (S : Status) (es : List Event)
    → StillToSay program (record { kinds = kinds; walks = walks; begun = b; state = s }) (Ran c j x S ∷ es)
    ↔ ((HasMore kinds walks b × HasOpen (seat s c) j) × StillToSay program (record { kinds = kinds; walks = walks; begun = b; state = ran c x S s }) es)
place_ran program [] [] None s c j x S es = (λ y. cc, λ y. absurd y.0.0)
place_ran program (d ∷ ds) [] None s c j x S es =
    goes (left_ran s.left same (λ m. walk_ran program 4 d _ (record s { left = m }) c j x S es))
place_ran program [] (w ∷ ws) None s c j x S es = goes (in_walk_ran program (one_less (levels_left ws)) w w.called refl _ s c j x S es)
place_ran program (d ∷ ds) (w ∷ ws) None s c j x S es = goes (in_walk_ran program (one_less (levels_left ws)) w w.called refl _ s c j x S es)
place_ran program [] [] (Some b) s c j x S es = goes (begun_ran program [] [] b s c j x S es)
place_ran program (d ∷ ds) [] (Some b) s c j x S es = goes (begun_ran program (d ∷ ds) [] b s c j x S es)
place_ran program [] (w ∷ ws) (Some b) s c j x S es = goes (begun_ran program [] (w ∷ ws) b s c j x S es)
place_ran program (d ∷ ds) (w ∷ ws) (Some b) s c j x S es = goes (begun_ran program (d ∷ ds) (w ∷ ws) b s c j x S es)

pub run_step : (program : Program) (p : Place) (c j x : ℕ) (S : Status) (es : List Event)
    → StillToSay program p (Ran c j x S ∷ es) ↔ (Accepts program p (Ran c j x S) × StillToSay program (next program p (Ran c j x S)) es)
run_step program p c j x S es = place_ran program p.kinds p.walks p.begun p.state c j x S es

-- the end
left_none : (n : ℕ) {A : Type 0} {F : ℕ → Type 0} → (A → ⊥) → ((m : ℕ) → F m → ⊥) → by_left n A F → ⊥
left_none zero h k = h
left_none (suc n) h k = k n

turn_none : (o : Option Registration) {A : Type 0} {F : ℕ → Type 0} → (A → ⊥) → ((m : ℕ) → F m → ⊥) → by_turn o A F → ⊥
turn_none None h k = h
turn_none (Some r) h k = k r.handler

walk_none : (program : Program) (n : ℕ) (kind : HandlerType) (k : Rest) (s : Serving) → Walk program n kind k s [] → ⊥
walk_none program zero kind k s h = h
walk_none program (suc n) kind k s h = h

operation_none : (program : Program) (n : ℕ) (o : OpDef) (k : Rest) (s : Serving) → Operation program.procedures (Walk program n) o k s [] → ⊥
operation_none program n (op.Manage kind) k s h = walk_none program n kind k s h
operation_none program n _ k s h = h

calls_none : (program : Program) (deeper : HandlerType → Part) (kind d : HandlerType) (turns : List ℕ) (r : Running) (k : Rest) (s : Serving)
    → Calls program deeper kind turns (AnsweringLater d r k) s [] → ⊥
calls_none program deeper kind d [] r k s = λ h. h
calls_none program deeper kind d (n ∷ turns) r k s =
    turn_none (turn_of kind s.registrations n) (calls_none program deeper kind d turns r k s) (λ h. left_none s.left (λ h. h) (λ m. λ h. h))

operations_none : (program : Program) (n : ℕ) (os : List OpDef) (h : ℕ) (k : Rest) (s : Serving)
    → Operations program.procedures (Walk program n) os (Exactly (say.Return h (status_of program h)) k) s [] → ⊥
operations_none program n [] h k s = λ x. x
operations_none program n (o ∷ os) h k s = left_none s.left (λ x. x) (λ m. operation_none program n o _ (record s { left = m }))

in_walk_none : (program : Program) (n : ℕ) (w : OpenWalk) (o : Option Call) → w.called ≡ o → (k : Rest) (s : Serving)
    → OpenWalkRest program (Walk program n) w k s [] → ⊥
in_walk_none program n w None e k s = rw e (calls_none program (Walk program n) w.kind w.kind w.turns w.running k s)
in_walk_none program n w (Some o) e k s = rw e (operations_none program n o.ops o.handler _ s)

begun_none : (program : Program) (kinds : List HandlerType) (walks : List OpenWalk) (b : Begun) (s : Serving)
    → StillToSay program (record { kinds = kinds; walks = walks; begun = Some b; state = s }) [] → ⊥
begun_none program kinds walks (First w) s h = h
begun_none program kinds walks (Started o) s h = operation_none program (levels_left walks) o (OpenWalksRest program kinds walks) s h
begun_none program kinds walks (Awaited c into) s h = h

pub is_over : (program : Program) (kinds : List HandlerType) (walks : List OpenWalk) (b : Option Begun) (s : Serving)
    → StillToSay program (record { kinds = kinds; walks = walks; begun = b; state = s }) [] → HasMore kinds walks b → ⊥
is_over program [] [] None s h = λ g. g
is_over program (d ∷ ds) [] None s h = absurd (left_none s.left (λ x. x) (λ m. walk_none program 4 d (Entries program ds) (record s { left = m })) h)
is_over program [] (w ∷ ws) None s h = absurd (in_walk_none program (one_less (levels_left ws)) w w.called refl (OpenWalksRest program [] ws) s h)
is_over program (d ∷ ds) (w ∷ ws) None s h = absurd (in_walk_none program (one_less (levels_left ws)) w w.called refl (OpenWalksRest program (d ∷ ds) ws) s h)
is_over program [] [] (Some b) s h = absurd (begun_none program [] [] b s h)
is_over program (d ∷ ds) [] (Some b) s h = absurd (begun_none program (d ∷ ds) [] b s h)
is_over program [] (w ∷ ws) (Some b) s h = absurd (begun_none program [] (w ∷ ws) b s h)
is_over program (d ∷ ds) (w ∷ ws) (Some b) s h = absurd (begun_none program (d ∷ ds) (w ∷ ws) b s h)

pub is_whole : (program : Program) (kinds : List HandlerType) (walks : List OpenWalk) (b : Option Begun) (s : Serving)
    → (HasMore kinds walks b → ⊥) → StillToSay program (record { kinds = kinds; walks = walks; begun = b; state = s }) []
is_whole program [] [] None s h = refl
is_whole program (d ∷ ds) [] None s h = absurd (h tt)
is_whole program [] (w ∷ ws) None s h = absurd (h tt)
is_whole program (d ∷ ds) (w ∷ ws) None s h = absurd (h tt)
is_whole program [] [] (Some b) s h = absurd (h tt)
is_whole program (d ∷ ds) [] (Some b) s h = absurd (h tt)
is_whole program [] (w ∷ ws) (Some b) s h = absurd (h tt)
is_whole program (d ∷ ds) (w ∷ ws) (Some b) s h = absurd (h tt)

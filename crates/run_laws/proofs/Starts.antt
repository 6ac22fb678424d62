-- A label that gives or refuses a job stands where serving is at an operation that starts a job on that processor.
use Rattle.std.proofs.Common.{◌≡◌, ℕ, zero, suc, List, [], ◌∷◌, Option, Some, None, subst, ◌∙◌}
use Rattle.smm_base.specs.declared.kinds.HandlerType.{HandlerType}
use Rattle.cpu_table.specs.declared.handlers.OpDef.{OpDef}
use Rattle.cpu_table.specs.declared.handlers.OpDef.TheVariants as op
use Rattle.cpu_table.specs.declared.handlers.ProcedureDef.{ProcedureDef}
use Rattle.sync_words.specs.declared.label.Label.{Label}
use Rattle.sync_words.specs.declared.label.Label.TheVariants as say
use Rattle.sync_words.specs.declared.label.StartRefusal.{StartRefusal}
use Rattle.handler_registry.specs.declared.registration.Registration.{Registration}
use Rattle.smi_manage.specs.declared.running.Running.{Running}
use Rattle.serving_place.specs.Serving.{Serving}
use Rattle.serving_place.specs.Operations.{Fits}
use Rattle.serving_place.specs.Forms.{Own, Program, by_left, by_turn, turn_of}
use Rattle.serving_place.specs.Places.{Call, OpenWalk, Begun, First, Started, Awaited, Place, levels_left, MayOpen, MayOperate, MayDo, MayTurn, MayInCall, MayInWalk, MayInWalks, MayBegun, Accepts}
use Rattle.serving_place.specs.Due.{Due, Doing, due_left, due_in_call, due_in_walk, due_in_walks, due_begun, due}

-- the label gives this processor a job, or refuses it
abbrev pub IsStart : ℕ → Label → Type 0
IsStart c (say.Start k j p a) = c ≡ k
IsStart c (say.Refuse k cause) = c ≡ k
IsStart c _ = ⊥

-- serving is at an operation that starts a job on this processor
abbrev pub StartsOn : ℕ → Due → Type 0
StartsOn c (Doing n (op.Start cpu name arg into)) = c ≡ cpu
StartsOn c (Doing n (op.Launch cpu name arg into)) = c ≡ cpu
StartsOn c _ = ⊥

-- THE OPERATION

refused_by : (ps : List ProcedureDef) (n c : ℕ) (o : OpDef) (s : Serving) (k : ℕ) (cause : StartRefusal) → Fits ps o s (say.Refuse k cause) → c ≡ k → StartsOn c (Doing n o)
refused_by ps n c (op.Start cpu name arg into) s k cause h e = e ∙ h
refused_by ps n c (op.Launch cpu name arg into) s k cause h e = e ∙ h
refused_by ps n c _ s k cause h e = absurd h

given_by : (ps : List ProcedureDef) (n c : ℕ) (o : OpDef) (s : Serving) (k j p a : ℕ) → Fits ps o s (say.Start k j p a) → c ≡ k → StartsOn c (Doing n o)
given_by ps n c (op.Start cpu name arg into) s k j p a h e = e ∙ h.processor
given_by ps n c (op.Launch cpu name arg into) s k j p a h e = e ∙ h.processor
given_by ps n c _ s k j p a h e = absurd h

operating : (ps : List ProcedureDef) (n c : ℕ) (o : OpDef) (s : Serving) (l : Label) → MayOperate ps o s l → IsStart c l → StartsOn c (Doing n o)
operating ps n c o s (say.Start k j p a) h g = given_by ps n c o s k j p a h g
operating ps n c o s (say.Refuse k cause) h g = refused_by ps n c o s k cause h g
operating ps n c o s _ h g = absurd g

not_opening : (c n : ℕ) (kind : HandlerType) (l : Label) → MayOpen n kind l → IsStart c l → ⊥
not_opening c zero kind l e g = subst (IsStart c) e g
not_opening c (suc n) kind l e g = subst (IsStart c) e g

doing : (ps : List ProcedureDef) (levels n c : ℕ) (o : OpDef) (s : Serving) (l : Label) → MayDo ps levels o s l → IsStart c l → StartsOn c (Doing n o)
doing ps levels n c (op.Manage kind) s l h g = absurd (not_opening c levels kind l h g)
doing ps levels n c o s l h g = operating ps n c o s l h g

-- THE PLACE

none_left : (n : ℕ) (A : Type 0) (F : ℕ → Type 0) → (A → ⊥) → ((m : ℕ) → F m → ⊥) → by_left n A F → ⊥
none_left zero A F f k h = f h
none_left (suc n) A F f k h = k n h

none_turn : (o : Option Registration) (A : Type 0) (F : ℕ → Type 0) → (A → ⊥) → ((m : ℕ) → F m → ⊥) → by_turn o A F → ⊥
none_turn None A F f k h = f h
none_turn (Some r) A F f k h = k r.handler h

-- between two calls no job is given
no_turn : (c : ℕ) (kind : HandlerType) (turns : List ℕ) (r : Running) (s : Serving) (l : Label) → IsStart c l → MayTurn kind turns r s l → ⊥
no_turn c kind [] r s l g e = subst (IsStart c) e g
no_turn c kind (n ∷ turns) r s l g h =
    none_turn (turn_of kind s.registrations n) _ _ (no_turn c kind turns r s l g)
    (λ m. none_left s.left (l ≡ say.Spent) (λ q. l ≡ say.Call m) (λ e. subst (IsStart c) e g) (λ q e. subst (IsStart c) e g)) h

at_unit : (left : ℕ) (c : ℕ) (l : Label) (F : ℕ → Type 0) (x : Due) → IsStart c l → ((m : ℕ) → F m → StartsOn c x) → by_left left (l ≡ say.Spent) F → StartsOn c (due_left left x)
at_unit zero c l F x g k e = absurd (subst (IsStart c) e g)
at_unit (suc n) c l F x g k h = k n h

in_call : (program : Program) (n c h : ℕ) (os : List OpDef) (s : Serving) (l : Label) → IsStart c l → MayInCall program n h os s l → StartsOn c (due_in_call program n h os s.left)
in_call program n c h [] s l g e = absurd (subst (IsStart c) e g)
in_call program n c h (o ∷ os) s l g x =
    at_unit s.left c l _ (Doing n o) g (λ m q. doing program.procedures n n c o (record s { left = m }) l q g) x

in_walk : (program : Program) (n c : ℕ) (w : OpenWalk) (call : Option Call) (s : Serving) (l : Label) → IsStart c l → MayInWalk program n w call s l
    → StartsOn c (due_in_walk program n w call s.registrations s.left)
in_walk program n c w None s l g h = absurd (no_turn c w.kind w.turns w.running s l g h)
in_walk program n c w (Some call) s l g h = in_call program n c call.handler call.ops s l g h

in_walks : (program : Program) (c : ℕ) (kinds : List HandlerType) (walks : List OpenWalk) (s : Serving) (l : Label) → IsStart c l → MayInWalks program kinds walks s l
    → StartsOn c (due_in_walks program kinds walks s.registrations s.left)
in_walks program c [] [] s l g h = absurd h
in_walks program c (kind ∷ kinds) [] s l g h =
    absurd (none_left s.left (l ≡ say.Spent) (λ m. l ≡ say.Manage kind) (λ e. subst (IsStart c) e g) (λ m e. subst (IsStart c) e g) h)
in_walks program c [] (w ∷ ws) s l g h = in_walk program (levels_left (w ∷ ws)) c w w.called s l g h
in_walks program c (kind ∷ kinds) (w ∷ ws) s l g h = in_walk program (levels_left (w ∷ ws)) c w w.called s l g h

begun : (program : Program) (c : ℕ) (kinds : List HandlerType) (walks : List OpenWalk) (b : Option Begun) (s : Serving) (l : Label) → IsStart c l → MayBegun program kinds walks b s l
    → StartsOn c (due_begun program kinds walks b s.registrations s.left)
begun program c kinds walks None s l g h = in_walks program c kinds walks s l g h
begun program c kinds walks (Some (First w)) s l g e = absurd (subst (IsStart c) e g)
begun program c kinds walks (Some (Started o)) s l g h = doing program.procedures (levels_left walks) (levels_left walks) c o s l h g
begun program c kinds walks (Some (Awaited k into)) s l g h = absurd (subst (IsStart c) h.0 g)

pub at_start : (program : Program) (p : Place) (c : ℕ) (l : Label) → IsStart c l → Accepts program p (Own l) → StartsOn c (due program p)
at_start program p c l g h = begun program c p.kinds p.walks p.begun p.state l g h

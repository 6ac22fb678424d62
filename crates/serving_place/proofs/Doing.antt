-- What is said where no operation is due, and what an operation leaves behind it.
use Rattle.std.proofs.Common.{◌≡◌, ◌≢◌, ℕ, zero, suc, List, [], ◌∷◌, Option, Some, None, refl, sym, ap, ◌∙◌, arith}
use Rattle.std.specs.Prelude.{slice_get, option_map}
use Rattle.smm_base.specs.declared.kinds.HandlerType.{HandlerType}
use Rattle.cpu_table.specs.declared.handlers.OpDef.{OpDef}
use Rattle.cpu_table.specs.declared.handlers.OpDef.TheVariants as op
use Rattle.sync_words.specs.declared.label.Label.{Label}
use Rattle.sync_words.specs.declared.label.Label.TheVariants as say
use Rattle.handler_registry.specs.declared.registration.Registration.{Registration}
use Rattle.handler_registry.specs.Registrations.{Registrations}
use Rattle.smi_manage.specs.declared.running.Running.{Running}
use Rattle.smram_pool.specs.State.{PoolState}
use Rattle.serving_place.specs.declared.progress.Called.{Called}
use Rattle.serving_place.specs.Serving.{Serving}
use Rattle.serving_place.specs.Operations.{after}
use Rattle.serving_place.specs.Forms.{Program, operations_of, turn_of}
use Rattle.serving_place.specs.Places.{Place, OpenWalk, Begun, Started, Awaited, awaits_after, begun_by, levels_left, with_walk, after_operating, after_doing, after_in_walk, after_in_walks}
use Rattle.serving_place.specs.Due.{Due, Saying as Says, Doing, due_left, due_turn, due_turns, due_in_walk, due_in_walks}
use Rattle.serving_place.specs.Progresses.{begun_in}
use Rattle.serving_place.specs.declared.saying.Request.TheVariants as request
use Rattle.serving_place.specs.Sayings.{Saying, Request, Known, Allocation, Release, Fits, operation_due, label_in, known_label, request_in, said_as}
use Rattle.serving_place.specs.Moves.{operated, awaited_by, pending_by, manage_kind, entered}

-- what is said is its request and its label
pub saying_parts : (y : Saying) → said_as (request_in y) (known_label y) ≡ y
saying_parts (Known l) = refl
saying_parts (Allocation n) = refl
saying_parts (Release n) = refl

pub known_at : (r : Request) (l : Label) (s : Serving) (pool : PoolState) → Fits (said_as r l) None s → l ≡ label_in pool (said_as r l)
known_at request.Nothing l s pool h = refl
known_at (request.Allocation n) l s pool h = absurd h
known_at (request.Release n) l s pool h = absurd h

known_where : (o : Option OpDef) (r : Request) (l : Label) (s : Serving) (pool : PoolState) → o ≡ None → Fits (said_as r l) o s → l ≡ label_in pool (said_as r l)
known_where None r l s pool e h = known_at r l s pool h
known_where (Some o) r l s pool e h = absurd cc

none_spent : (n : ℕ) (d : Due) → n ≡ 0 → operation_due (due_left n d) ≡ None
none_spent zero d e = refl
none_spent (suc n) d e = absurd (omega (arith, e))

pub known_spent : (n : ℕ) (d : Due) (r : Request) (l : Label) (s : Serving) (pool : PoolState) → n ≡ 0 → Fits (said_as r l) (operation_due (due_left n d)) s → l ≡ label_in pool (said_as r l)
known_spent n d r l s pool e h = known_where (operation_due (due_left n d)) r l s pool (none_spent n d e) h

none_said : (n : ℕ) (l : Label) → operation_due (due_left n (Says l)) ≡ None
none_said zero l = refl
none_said (suc n) l = refl

none_turns : (kind : HandlerType) (turns : List ℕ) (r : Running) (g : Registrations) (left : ℕ) → operation_due (due_turns kind turns r g left) ≡ None
none_turns kind [] r g left = refl
none_turns kind (n ∷ turns) r g left = at_turn (turn_of kind g n) (none_turns kind turns r g left)
  where
    at_turn : (o : Option Registration) → operation_due (due_turns kind turns r g left) ≡ None
        → operation_due (due_turn o (due_turns kind turns r g left) (λ h. due_left left (Says (say.Call h)))) ≡ None
    at_turn None h = h
    at_turn (Some x) h = none_said left (say.Call x.handler)

pub known_turns : (kind : HandlerType) (turns : List ℕ) (running : Running) (g : Registrations) (left : ℕ) (r : Request) (l : Label) (s : Serving) (pool : PoolState)
    → Fits (said_as r l) (operation_due (due_turns kind turns running g left)) s → l ≡ label_in pool (said_as r l)
known_turns kind turns running g left r l s pool h = known_where (operation_due (due_turns kind turns running g left)) r l s pool (none_turns kind turns running g left) h

none_entry : (program : Program) (kinds : List HandlerType) (g : Registrations) (left : ℕ) → operation_due (due_in_walks program kinds [] g left) ≡ None
none_entry program [] g left = refl
none_entry program (kind ∷ kinds) g left = none_said left (say.Manage kind)

pub known_entry : (program : Program) (kinds : List HandlerType) (g : Registrations) (left : ℕ) (r : Request) (l : Label) (s : Serving) (pool : PoolState)
    → Fits (said_as r l) (operation_due (due_in_walks program kinds [] g left)) s → l ≡ label_in pool (said_as r l)
known_entry program kinds g left r l s pool h = known_where (operation_due (due_in_walks program kinds [] g left)) r l s pool (none_entry program kinds g left) h

pub known_manage : (o : OpDef) (kind : HandlerType) (r : Request) (l : Label) (s : Serving) (pool : PoolState) → manage_kind o ≡ Some kind → Fits (said_as r l) (Some o) s
    → l ≡ label_in pool (said_as r l)
known_manage (op.Manage kind) k request.Nothing l s pool e h = refl
known_manage (op.Manage kind) k (request.Allocation n) l s pool e h = absurd h
known_manage (op.Manage kind) k (request.Release n) l s pool e h = absurd h
known_manage _ k r l s pool e h = absurd cc

-- an operation that begins with a unit is the one that is due
pub begins_fit : (n : ℕ) (m : ℕ) (o : OpDef) (y : Saying) (s : Serving) → n ≢ 0 → Fits y (operation_due (due_left n (Doing m o))) s → Fits y (Some o) s
begins_fit zero m o y s e h = absurd (e refl)
begins_fit (suc n) m o y s e h = h

pub entered_is : (program : Program) (kinds : List HandlerType) (s : Serving) (l : Label) → after_in_walks program kinds [] s l ≡ entered kinds s
entered_is program [] s l = refl
entered_is program (kind ∷ kinds) s l = refl

pub in_walks_is : (program : Program) (kinds : List HandlerType) (w : OpenWalk) (ws : List OpenWalk) (s : Serving) (l : Label)
    → after_in_walks program kinds (w ∷ ws) s l ≡ after_in_walk program kinds ws w w.called s l
in_walks_is program [] w ws s l = refl
in_walks_is program (kind ∷ kinds) w ws s l = refl

pub due_in_walks_is : (program : Program) (kinds : List HandlerType) (w : OpenWalk) (ws : List OpenWalk) (g : Registrations) (left : ℕ)
    → due_in_walks program kinds (w ∷ ws) g left ≡ due_in_walk program (levels_left (w ∷ ws)) w w.called g left
due_in_walks_is program [] w ws g left = refl
due_in_walks_is program (kind ∷ kinds) w ws g left = refl

pub doing_manage : (n : ℕ) (kinds : List HandlerType) (ws : List OpenWalk) (o : OpDef) (kind : HandlerType) (s : Serving) (l : Label) → manage_kind o ≡ Some kind
    → after_doing n kinds ws o s l ≡ with_walk n kinds ws kind s
doing_manage n kinds ws (op.Manage k) kind s l e = let same : k ≡ kind = cc in rw same refl
doing_manage n kinds ws _ kind s l e = absurd cc

not_manage : (n : ℕ) (kinds : List HandlerType) (ws : List OpenWalk) (o : OpDef) (s : Serving) (l : Label) → manage_kind o ≡ None
    → after_doing n kinds ws o s l ≡ after_operating kinds ws o s l
not_manage n kinds ws (op.Manage k) s l e = absurd cc
not_manage n kinds ws _ s l e = refl

nothing_begun : (o : OpDef) (l : Label) → ((b : Begun) → awaits_after l b ≡ None) → begun_by o l ≡ None
nothing_begun (op.Start cpu name arg into) l h = h (Awaited cpu into)
nothing_begun _ l h = refl

started_begun : (program : Program) (o : OpDef) (c j p a : ℕ) → begun_in program (awaited_by o) ≡ begun_by o (say.Start c j p a)
started_begun program (op.Start cpu name arg into) c j p a = refl
started_begun program _ c j p a = refl

quiet : (kinds : List HandlerType) (ws : List OpenWalk) (b : Option Begun) (s : Serving) → b ≡ None
    → ◌≡◌ {A = Place} (record { kinds = kinds; walks = ws; begun = None; state = s }) (record { kinds = kinds; walks = ws; begun = b; state = s })
quiet kinds ws b s e = ap {B = Place} (λ (c : Option Begun). record { kinds = kinds; walks = ws; begun = c; state = s }) (sym e)

-- an operation that is no manage leaves what its label says
pub operating_is : (program : Program) (kinds : List HandlerType) (ws : List OpenWalk) (called : Called) (o : OpDef) (s : Serving) (l : Label)
    → slice_get (operations_of program called.handler) called.at ≡ Some o
    → ◌≡◌ {A = Place} (record { kinds = kinds; walks = ws; begun = begun_in program (pending_by called o l); state = operated o s l }) (after_operating kinds ws o s l)
operating_is program kinds ws called o s (say.Collect c) e =
    ap (λ (b : Option Begun). record { kinds = kinds; walks = ws; begun = b; state = operated o s (say.Collect c) }) (ap (option_map Started) e)
operating_is program kinds ws called o s (say.Start c j p a) e =
    ap (λ (b : Option Begun). record { kinds = kinds; walks = ws; begun = b; state = operated o s (say.Start c j p a) }) (started_begun program o c j p a)
operating_is program kinds ws called o s l e = quiet kinds ws (begun_by o l) (after o s l) (nothing_begun o l (λ b. refl))

pub doing_other : (program : Program) (n : ℕ) (kinds : List HandlerType) (ws : List OpenWalk) (called : Called) (o : OpDef) (s : Serving) (l : Label) → manage_kind o ≡ None
    → slice_get (operations_of program called.handler) called.at ≡ Some o
    → record { kinds = kinds; walks = ws; begun = begun_in program (pending_by called o l); state = operated o s l } ≡ after_doing n kinds ws o s l
doing_other program n kinds ws called o s l e f = operating_is program kinds ws called o s l f ∙ sym (not_manage n kinds ws o s l e)

-- Where serving stands: a stack of open walks, what is still to be said from there, and one step.
use Rattle.std.specs.Prelude.{◌≡◌, ℕ, zero, suc, Bool, true, false, List, [], ◌∷◌, Option, Some, None}
use Rattle.smm_base.specs.declared.kinds.HandlerType.{HandlerType}
use Rattle.smm_base.specs.declared.status.Status.{Status}
use Rattle.cpu_table.specs.declared.handlers.OpDef.{OpDef}
use Rattle.cpu_table.specs.declared.handlers.OpDef.TheVariants as op
use Rattle.cpu_table.specs.declared.handlers.ProcedureDef.{ProcedureDef}
use Rattle.sync_words.specs.declared.label.Label.{Label}
use Rattle.sync_words.specs.declared.label.Label.TheVariants as say
use Rattle.handler_registry.specs.declared.registration.Registration.{Registration}
use Rattle.smi_manage.specs.declared.running.Running.{Running}
use Rattle.smi_manage.specs.Answers.{stops, fresh, plus, run, ended_with}
use Rattle.serving_place.specs.Serving.{Serving, seat, ran, collected, returned, HasOpen, HasEnded}
use Rattle.serving_place.specs.Operations.{Fits, after, Collects}
use Rattle.serving_place.specs.Forms.{Event, Own, Ran, Program, operations_of, status_of, Rest, Part, Exactly, Returning, Operation, Operations, Calls, Walk, Entries, by_left, by_turn, by_test, by_collect, turn_of, count_up}

-- a handler that is being called, and its operations from the next one on
pub record Call : Type 0 where
  pub handler : ℕ
  pub ops : List OpDef

-- an open walk: the serial numbers whose turn is still to come, and the running status
pub record OpenWalk : Type 0 where
  pub kind : HandlerType
  pub turns : List ℕ
  pub running : Running
  pub called : Option Call

-- What was begun and has still to be said: the first label, an operation whose unit began, or the collect of the job of
-- a processor whose result a variable takes.
pub data Begun : Type 0 where
  First : ℕ → Begun
  Started : OpDef → Begun
  Awaited : ℕ → ℕ → Begun

pub record Place : Type 0 where
  pub kinds : List HandlerType
  pub walks : List OpenWalk
  pub begun : Option Begun
  pub state : Serving

-- how many levels may be opened above these walks
abbrev pub one_less : ℕ → ℕ
one_less zero = zero
one_less (suc n) = n

abbrev pub levels_left : List OpenWalk → ℕ
levels_left [] = 4
levels_left (w ∷ ws) = one_less (levels_left ws)

-- the answer of a walk that has this running status, after these further ones
abbrev pub AnsweringLater : HandlerType → Running → Rest → List Status → Rest
AnsweringLater kind r k xs = Exactly (say.Answer (ended_with kind (run kind r xs))) k

-- after the return of a handler
abbrev pub AfterReturn : Program → (HandlerType → Part) → HandlerType → List ℕ → Running → Status → Part
AfterReturn program deeper kind turns r S k =
    by_test (stops kind S) (AnsweringLater kind r k (S ∷ [])) (Calls program deeper kind turns (λ xs. AnsweringLater kind r k (S ∷ xs)))

abbrev pub by_call : Option Call → Rest → (Call → Rest) → Rest
by_call None none some = none
by_call (Some c) none some = some c

-- what a walk has still to say
abbrev pub OpenWalkRest : Program → (HandlerType → Part) → OpenWalk → Part
OpenWalkRest program deeper w k =
    by_call w.called (Calls program deeper w.kind w.turns (AnsweringLater w.kind w.running k))
    (λ c. let S = status_of program c.handler in
    Operations program.procedures deeper c.ops (Exactly (say.Return c.handler S) (AfterReturn program deeper w.kind w.turns w.running S k)))

abbrev pub OpenWalksRest : Program → List HandlerType → List OpenWalk → Rest
OpenWalksRest program kinds [] = Entries program kinds
OpenWalksRest program kinds (w ∷ ws) = OpenWalkRest program (Walk program (levels_left (w ∷ ws))) w (OpenWalksRest program kinds ws)

abbrev pub BegunRest : Program → ℕ → Option Begun → Part
BegunRest program n None k = k
BegunRest program n (Some (First w)) k = Exactly (say.Begin w) k
BegunRest program n (Some (Started o)) k = Operation program.procedures (Walk program n) o k
BegunRest program n (Some (Awaited c into)) k = Returning c into k

-- what is still to be said
abbrev pub StillToSay : Program → Place → List Event → Type 0
StillToSay program p = BegunRest program (levels_left p.walks) p.begun (OpenWalksRest program p.kinds p.walks) p.state

-- One step: which own label is taken, and where serving stands then.
abbrev pub at_left : ℕ → Place → (ℕ → Place) → Place
at_left zero none some = none
at_left (suc n) none some = some n

abbrev pub at_turn : Option Registration → Place → (ℕ → Place) → Place
at_turn None none some = none
at_turn (Some r) none some = some r.handler

abbrev pub at_collect : Label → (ℕ → Place) → Place → Place
at_collect (say.Collect c) some none = some c
at_collect _ some none = none

abbrev pub place_at : List HandlerType → List OpenWalk → Serving → Place
place_at kinds walks s = record { kinds = kinds; walks = walks; begun = None; state = s }

abbrev pub place_begun : List HandlerType → List OpenWalk → Begun → Serving → Place
place_begun kinds walks b s = record { kinds = kinds; walks = walks; begun = Some b; state = s }

-- the start of a list
abbrev pub at_first : ℕ → List HandlerType → Serving → Place
at_first w kinds s = place_begun kinds [] (First w) s

abbrev pub ended : Serving → Place
ended s = place_at [] [] s

-- a walk is opened where the level allows it
abbrev pub MayOpen : ℕ → HandlerType → Label → Type 0
MayOpen zero kind l = l ≡ say.Deep kind
MayOpen (suc n) kind l = l ≡ say.Manage kind

abbrev pub with_walk : ℕ → List HandlerType → List OpenWalk → HandlerType → Serving → Place
with_walk zero kinds ws kind s = place_at kinds ws s
with_walk (suc n) kinds ws kind s =
    place_at kinds (record { kind = kind; turns = count_up 0 s.registrations.last; running = fresh; called = None } ∷ ws) s

abbrev pub awaits_after : Label → Begun → Option Begun
awaits_after (say.Start c j p a) b = Some b
awaits_after _ b = None

-- what an operation leaves to be said after its own label
abbrev pub begun_by : OpDef → Label → Option Begun
begun_by (op.Start cpu name arg into) l = awaits_after l (Awaited cpu into)
begun_by _ l = None

-- an operation whose unit has begun
abbrev pub MayOperate : List ProcedureDef → OpDef → Serving → Label → Type 0
MayOperate ps o s l = by_collect l (λ c. Collects o s c) (Fits ps o s l)

abbrev pub after_operating : List HandlerType → List OpenWalk → OpDef → Serving → Label → Place
after_operating kinds ws o s l =
    at_collect l (λ c. place_begun kinds ws (Started o) (collected c s))
    (record { kinds = kinds; walks = ws; begun = begun_by o l; state = after o s l })

abbrev pub MayDo : List ProcedureDef → ℕ → OpDef → Serving → Label → Type 0
MayDo ps n (op.Manage kind) s l = MayOpen n kind l
MayDo ps n o s l = MayOperate ps o s l

abbrev pub after_doing : ℕ → List HandlerType → List OpenWalk → OpDef → Serving → Label → Place
after_doing n kinds ws (op.Manage kind) s l = with_walk n kinds ws kind s
after_doing n kinds ws o s l = after_operating kinds ws o s l

-- a walk between two calls
abbrev pub MayTurn : HandlerType → List ℕ → Running → Serving → Label → Type 0
MayTurn kind [] r s l = l ≡ say.Answer (ended_with kind r)
MayTurn kind (n ∷ turns) r s l =
    by_turn (turn_of kind s.registrations n) (MayTurn kind turns r s l)
    (λ h. by_left s.left (l ≡ say.Spent) (λ m. l ≡ say.Call h))

abbrev pub after_turn : Program → List HandlerType → List OpenWalk → HandlerType → List ℕ → Running → Serving → Place
after_turn program kinds ws kind [] r s = place_at kinds ws s
after_turn program kinds ws kind (n ∷ turns) r s =
    at_turn (turn_of kind s.registrations n) (after_turn program kinds ws kind turns r s)
    (λ h. at_left s.left (ended s)
    (λ m. place_at kinds
    (record { kind = kind; turns = turns; running = r; called = Some (record { handler = h; ops = operations_of program h }) } ∷ ws)
    (record s { left = m })))

-- a handler that is being called
abbrev pub turns_left : Bool → List ℕ → List ℕ
turns_left true turns = []
turns_left false turns = turns

abbrev pub with_return : OpenWalk → Status → OpenWalk
with_return w S = record { kind = w.kind; turns = turns_left (stops w.kind S) w.turns; running = plus w.kind w.running S; called = None }

abbrev pub MayInCall : Program → ℕ → ℕ → List OpDef → Serving → Label → Type 0
MayInCall program n h [] s l = l ≡ say.Return h (status_of program h)
MayInCall program n h (o ∷ os) s l =
    by_left s.left (l ≡ say.Spent) (λ m. MayDo program.procedures n o (record s { left = m }) l)

abbrev pub after_in_call : Program → List HandlerType → List OpenWalk → OpenWalk → ℕ → List OpDef → Serving → Label → Place
after_in_call program kinds ws w h [] s l = place_at kinds (with_return w (status_of program h) ∷ ws) s
after_in_call program kinds ws w h (o ∷ os) s l =
    at_left s.left (ended s)
    (λ m. after_doing (one_less (levels_left ws)) kinds (record w { called = Some (record { handler = h; ops = os }) } ∷ ws) o (record s { left = m }) l)

abbrev pub MayInWalk : Program → ℕ → OpenWalk → Option Call → Serving → Label → Type 0
MayInWalk program n w None s l = MayTurn w.kind w.turns w.running s l
MayInWalk program n w (Some c) s l = MayInCall program n c.handler c.ops s l

abbrev pub after_in_walk : Program → List HandlerType → List OpenWalk → OpenWalk → Option Call → Serving → Label → Place
after_in_walk program kinds ws w None s l = after_turn program kinds ws w.kind w.turns w.running s
after_in_walk program kinds ws w (Some c) s l = after_in_call program kinds ws w c.handler c.ops s l

abbrev pub MayInWalks : Program → List HandlerType → List OpenWalk → Serving → Label → Type 0
MayInWalks program [] [] s l = ⊥
MayInWalks program (kind ∷ kinds) [] s l = by_left s.left (l ≡ say.Spent) (λ m. l ≡ say.Manage kind)
MayInWalks program kinds (w ∷ ws) s l = MayInWalk program (levels_left (w ∷ ws)) w w.called s l

abbrev pub after_in_walks : Program → List HandlerType → List OpenWalk → Serving → Label → Place
after_in_walks program [] [] s l = ended s
after_in_walks program (kind ∷ kinds) [] s l = at_left s.left (ended s) (λ m. with_walk 4 kinds [] kind (record s { left = m }))
after_in_walks program kinds (w ∷ ws) s l = after_in_walk program kinds ws w w.called s l

abbrev pub MayBegun : Program → List HandlerType → List OpenWalk → Option Begun → Serving → Label → Type 0
MayBegun program kinds walks None s l = MayInWalks program kinds walks s l
MayBegun program kinds walks (Some (First w)) s l = l ≡ say.Begin w
MayBegun program kinds walks (Some (Started o)) s l = MayDo program.procedures (levels_left walks) o s l
MayBegun program kinds walks (Some (Awaited c into)) s l = (l ≡ say.Collect c) × HasEnded (seat s c)

abbrev pub after_begun : Program → List HandlerType → List OpenWalk → Option Begun → Serving → Label → Place
after_begun program kinds walks None s l = after_in_walks program kinds walks s l
after_begun program kinds walks (Some (First w)) s l = place_at kinds walks s
after_begun program kinds walks (Some (Started o)) s l = after_doing (levels_left walks) kinds walks o s l
after_begun program kinds walks (Some (Awaited c into)) s l = place_at kinds walks (returned c into s)

-- something is left to say
abbrev pub HasMore : List HandlerType → List OpenWalk → Option Begun → Type 0
HasMore [] [] None = ⊥
HasMore _ _ _ = Unit {0}

-- this event may be said
abbrev pub Accepts : Program → Place → Event → Type 0
Accepts program p (Own l) = MayBegun program p.kinds p.walks p.begun p.state l
Accepts program p (Ran c j x S) = HasMore p.kinds p.walks p.begun × HasOpen (seat p.state c) j

abbrev pub next : Program → Place → Event → Place
next program p (Own l) = after_begun program p.kinds p.walks p.begun p.state l
next program p (Ran c j x S) = record p { state = ran c x S p.state }

abbrev pub IsOver : Place → Type 0
IsOver p = HasMore p.kinds p.walks p.begun → ⊥

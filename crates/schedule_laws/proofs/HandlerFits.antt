-- What holds of a place of serving behind its first label: each operation is one of the platform's, and so is the processor whose job is
-- awaited.
use Rattle.std.proofs.Common.{◌≡◌, ℕ, zero, suc, ◌<◌, true, List, [], ◌∷◌, length, Option, Some, None, refl}
use Rattle.std.proofs.lemmas.Bool.{and_parts}
use Rattle.std.specs.Prelude.{slice_get}
use Rattle.std.specs.List.{list_all}
use Rattle.smm_base.specs.declared.kinds.HandlerType.{HandlerType}
use Rattle.cpu_table.specs.Data.{SetupData}
use Rattle.cpu_table.specs.Ranges.{op_fits, handler_fits, handlers_fit}
use Rattle.cpu_table.specs.declared.handlers.HandlerDef.{HandlerDef}
use Rattle.cpu_table.specs.declared.handlers.OpDef.{OpDef}
use Rattle.sync_words.specs.declared.label.Label.{Label}
use Rattle.sync_words.specs.declared.label.Label.TheVariants as say
use Rattle.handler_registry.specs.declared.registration.Registration.{Registration}
use Rattle.handler_registry.specs.Registrations.{Registrations}
use Rattle.smi_manage.specs.declared.running.Running.{Running}
use Rattle.serving_place.specs.Forms.{operations_of, operations_in, turn_of}
use Rattle.serving_place.specs.Beginning.{program_of}
use Rattle.serving_place.specs.Places.{Call, OpenWalk, Begun, First, Started, Awaited, Place, levels_left}
use Rattle.serving_place.specs.Due.{Due, Nothing, Saying, Awaiting, Doing, due_left, due_turn, due_turns, due_in_call, due_in_walk, due_in_walks, due_begun, due}

abbrev pub IsOp : SetupData → OpDef → Type 0
IsOp d o = op_fits (length d.handlers) o ≡ true

abbrev pub AreOps : SetupData → List OpDef → Type 0
AreOps d os = list_all (op_fits (length d.handlers)) os ≡ true

abbrev pub CallFits : SetupData → Option Call → Type 0
CallFits d None = Unit {0}
CallFits d (Some c) = AreOps d c.ops

abbrev pub WalksFit : SetupData → List OpenWalk → Type 0
WalksFit d [] = Unit {0}
WalksFit d (w ∷ ws) = CallFits d w.called × WalksFit d ws

abbrev pub BegunFits : SetupData → Option Begun → Type 0
BegunFits d None = Unit {0}
BegunFits d (Some (First w)) = ⊥
BegunFits d (Some (Started o)) = IsOp d o
BegunFits d (Some (Awaited c into)) = c < d.processors

pub record PlaceFits (d : SetupData) (p : Place) : Type 0 where
  pub walks : WalksFit d p.walks
  pub begun : BegunFits d p.begun

-- THE OPERATIONS OF A HANDLER

handler_at : (n : ℕ) (hs : List HandlerDef) (h : ℕ) → list_all (handler_fits n) hs ≡ true → list_all (op_fits n) (operations_in (slice_get hs h)) ≡ true
handler_at n [] h e = refl
handler_at n (x ∷ xs) zero e = (and_parts _ (list_all (op_fits n) x.ops) (and_parts (handler_fits n x) (list_all (handler_fits n) xs) e).0).1
handler_at n (x ∷ xs) (suc h) e = handler_at n xs h (and_parts (handler_fits n x) (list_all (handler_fits n) xs) e).1

pub ops_fit : (d : SetupData) → handlers_fit d.handlers ≡ true → (h : ℕ) → AreOps d (operations_of (program_of d) h)
ops_fit d e h =
    let n : ℕ = length d.handlers in
    handler_at n d.handlers h (and_parts _ (list_all (handler_fits n) d.handlers) (and_parts _ _ e).0).1

pub first_op : (d : SetupData) (o : OpDef) (os : List OpDef) → AreOps d (o ∷ os) → IsOp d o × AreOps d os
first_op d o os i = and_parts (op_fits (length d.handlers) o) (list_all (op_fits (length d.handlers)) os) i

-- WHAT IS DUE

-- the labels of walks
abbrev pub IsOfWalk : Label → Type 0
IsOfWalk (say.Manage kind) = Unit {0}
IsOfWalk (say.Call h) = Unit {0}
IsOfWalk (say.Return h S) = Unit {0}
IsOfWalk (say.Answer S) = Unit {0}
IsOfWalk say.Spent = Unit {0}
IsOfWalk _ = ⊥

-- behind the first label an operation is one of the platform's, and so is the processor whose job is awaited
abbrev pub DueFits : SetupData → Due → Type 0
DueFits d Nothing = Unit {0}
DueFits d (Saying l) = IsOfWalk l
DueFits d (Awaiting c) = c < d.processors
DueFits d (Doing n o) = IsOp d o

due_left_fits : (d : SetupData) (left : ℕ) (x : Due) → DueFits d x → DueFits d (due_left left x)
due_left_fits d zero x h = tt
due_left_fits d (suc n) x h = h

due_turn_fits : (d : SetupData) (o : Option Registration) (x : Due) (f : ℕ → Due) → DueFits d x → ((h : ℕ) → DueFits d (f h)) → DueFits d (due_turn o x f)
due_turn_fits d None x f h k = h
due_turn_fits d (Some r) x f h k = k r.handler

due_turns_fit : (d : SetupData) (kind : HandlerType) (turns : List ℕ) (r : Running) (g : Registrations) (left : ℕ) → DueFits d (due_turns kind turns r g left)
due_turns_fit d kind [] r g left = tt
due_turns_fit d kind (n ∷ turns) r g left =
    due_turn_fits d (turn_of kind g n) _ _ (due_turns_fit d kind turns r g left) (λ h. due_left_fits d left (Saying (say.Call h)) tt)

due_call_fits : (d : SetupData) (n h : ℕ) (os : List OpDef) (left : ℕ) → AreOps d os → DueFits d (due_in_call (program_of d) n h os left)
due_call_fits d n h [] left i = tt
due_call_fits d n h (o ∷ os) left i = due_left_fits d left (Doing n o) (first_op d o os i).0

due_walk_fits : (d : SetupData) (n : ℕ) (w : OpenWalk) (c : Option Call) (g : Registrations) (left : ℕ) → CallFits d c → DueFits d (due_in_walk (program_of d) n w c g left)
due_walk_fits d n w None g left i = due_turns_fit d w.kind w.turns w.running g left
due_walk_fits d n w (Some c) g left i = due_call_fits d n c.handler c.ops left i

due_walks_fit : (d : SetupData) (kinds : List HandlerType) (walks : List OpenWalk) (g : Registrations) (left : ℕ) → WalksFit d walks
    → DueFits d (due_in_walks (program_of d) kinds walks g left)
due_walks_fit d [] [] g left f = tt
due_walks_fit d (kind ∷ kinds) [] g left f = due_left_fits d left (Saying (say.Manage kind)) tt
due_walks_fit d [] (w ∷ ws) g left f = due_walk_fits d (levels_left (w ∷ ws)) w w.called g left f.0
due_walks_fit d (k ∷ ks) (w ∷ ws) g left f = due_walk_fits d (levels_left (w ∷ ws)) w w.called g left f.0

due_begun_fits : (d : SetupData) (kinds : List HandlerType) (walks : List OpenWalk) (b : Option Begun) (g : Registrations) (left : ℕ) → WalksFit d walks → BegunFits d b
    → DueFits d (due_begun (program_of d) kinds walks b g left)
due_begun_fits d kinds walks None g left f i = due_walks_fit d kinds walks g left f
due_begun_fits d kinds walks (Some (First w)) g left f i = absurd i
due_begun_fits d kinds walks (Some (Started o)) g left f i = i
due_begun_fits d kinds walks (Some (Awaited c into)) g left f i = i

pub due_fits : (d : SetupData) (p : Place) → PlaceFits d p → DueFits d (due (program_of d) p)
due_fits d p f = due_begun_fits d p.kinds p.walks p.begun p.state.registrations p.state.left f.walks f.begun

-- What a place waits for.
use Rattle.std.specs.Prelude.{ℕ, zero, suc, List, [], ◌∷◌, Option, Some, None}
use Rattle.smm_base.specs.declared.kinds.HandlerType.{HandlerType}
use Rattle.cpu_table.specs.declared.handlers.OpDef.{OpDef}
use Rattle.sync_words.specs.declared.label.Label.{Label}
use Rattle.sync_words.specs.declared.label.Label.TheVariants as say
use Rattle.handler_registry.specs.declared.registration.Registration.{Registration}
use Rattle.handler_registry.specs.Registrations.{Registrations}
use Rattle.smi_manage.specs.declared.running.Running.{Running}
use Rattle.smi_manage.specs.Answers.{ended_with}
use Rattle.serving_place.specs.Forms.{Program, status_of, turn_of}
use Rattle.serving_place.specs.Places.{Call, OpenWalk, Begun, First, Started, Awaited, Place, levels_left}

-- What a place waits for: nothing, a label, the collect of the job of a processor, or an operation with so many levels left.
pub data Due : Type 0 where
  Nothing : Due
  Saying : Label → Due
  Awaiting : ℕ → Due
  Doing : ℕ → OpDef → Due

-- where no unit is left it waits for `spent`
abbrev pub due_left : ℕ → Due → Due
due_left zero d = Saying say.Spent
due_left (suc n) d = d

abbrev pub due_turn : Option Registration → Due → (ℕ → Due) → Due
due_turn None none some = none
due_turn (Some r) none some = some r.handler

abbrev pub due_turns : HandlerType → List ℕ → Running → Registrations → ℕ → Due
due_turns kind [] r registrations left = Saying (say.Answer (ended_with kind r))
due_turns kind (n ∷ turns) r registrations left =
    due_turn (turn_of kind registrations n) (due_turns kind turns r registrations left) (λ h. due_left left (Saying (say.Call h)))

abbrev pub due_in_call : Program → ℕ → ℕ → List OpDef → ℕ → Due
due_in_call program n h [] left = Saying (say.Return h (status_of program h))
due_in_call program n h (o ∷ os) left = due_left left (Doing n o)

abbrev pub due_in_walk : Program → ℕ → OpenWalk → Option Call → Registrations → ℕ → Due
due_in_walk program n w None registrations left = due_turns w.kind w.turns w.running registrations left
due_in_walk program n w (Some c) registrations left = due_in_call program n c.handler c.ops left

abbrev pub due_in_walks : Program → List HandlerType → List OpenWalk → Registrations → ℕ → Due
due_in_walks program [] [] registrations left = Nothing
due_in_walks program (kind ∷ kinds) [] registrations left = due_left left (Saying (say.Manage kind))
due_in_walks program kinds (w ∷ ws) registrations left = due_in_walk program (levels_left (w ∷ ws)) w w.called registrations left

abbrev pub due_begun : Program → List HandlerType → List OpenWalk → Option Begun → Registrations → ℕ → Due
due_begun program kinds walks None registrations left = due_in_walks program kinds walks registrations left
due_begun program kinds walks (Some (First w)) registrations left = Saying (say.Begin w)
due_begun program kinds walks (Some (Started o)) registrations left = Doing (levels_left walks) o
due_begun program kinds walks (Some (Awaited c into)) registrations left = Awaiting c

abbrev pub due : Program → Place → Due
due program p = due_begun program p.kinds p.walks p.begun p.state.registrations p.state.left

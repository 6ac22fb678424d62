-- What a place waits for, by the units that are left and by the first turn that comes.
use Rattle.std.proofs.Common.{◌≡◌, ◌≢◌, ℕ, zero, suc, List, [], ◌∷◌, Option, Some, None, refl, arith}
use Rattle.smm_base.specs.declared.kinds.HandlerType.{HandlerType}
use Rattle.sync_words.specs.declared.label.Label.TheVariants as say
use Rattle.handler_registry.specs.declared.registration.Registration.{Registration}
use Rattle.handler_registry.specs.Registrations.{Registrations}
use Rattle.smi_manage.specs.declared.running.Running.{Running}
use Rattle.serving_place.specs.Forms.{turn_of}
use Rattle.serving_place.specs.Due.{Due, Saying, due_left, due_turn, due_turns}
use Rattle.serving_place.specs.Progresses.{first_handler, first_turn, due_handler}

pub left_none : (n : ℕ) (d : Due) → n ≡ 0 → due_left n d ≡ Saying say.Spent
left_none zero d h = refl
left_none (suc n) d h = absurd (omega (arith, h))

pub left_some : (n : ℕ) (d : Due) → n ≢ 0 → due_left n d ≡ d
left_some zero d h = absurd (h refl)
left_some (suc n) d h = refl

pub due_turns_is : (kind : HandlerType) (turns : List ℕ) (r : Running) (g : Registrations) (left : ℕ) → due_turns kind turns r g left ≡ due_handler (first_turn kind turns g) kind r left
due_turns_is kind [] r g left = refl
due_turns_is kind (n ∷ turns) r g left = at_turn (turn_of kind g n) (due_turns_is kind turns r g left)
  where
    at_turn : (o : Option Registration) → due_turns kind turns r g left ≡ due_handler (first_turn kind turns g) kind r left
        → due_turn o (due_turns kind turns r g left) (λ h. due_left left (Saying (say.Call h))) ≡ due_handler (first_handler o (first_turn kind turns g)) kind r left
    at_turn None h = h
    at_turn (Some x) h = refl

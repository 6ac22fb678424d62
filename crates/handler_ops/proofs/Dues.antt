-- What is due, by the units left and the turns of a walk; and what a row needs and hands over.
use Rattle.std.proofs.Common.{◌≡◌, ◌≢◌, ℕ, zero, suc, false, List, [], ◌∷◌, Option, Some, None, length, refl, sym, ◌∙◌, arith}
use Rattle.std.proofs.lemmas.Bool.{ne_eqb}
use Rattle.std.specs.Prelude.{◌==◌, is_some}
use Rattle.smm_base.specs.declared.kinds.HandlerType.{HandlerType}
use Rattle.handler_registry.specs.declared.registration.Registration.{Registration}
use Rattle.handler_registry.specs.Registrations.{Registrations}
use Rattle.smi_manage.specs.declared.running.Running.{Running}
use Rattle.sync_words.specs.declared.label.Label.TheVariants as say
use Rattle.handler_ops.specs.declared.row.Row.{Row}
use Rattle.handler_ops.specs.declared.row.Row.TheVariants as row
use Rattle.serving_place.specs.Serving.{Serving}
use Rattle.serving_place.specs.Forms.{turn_of}
use Rattle.serving_place.specs.Setting.{Setting}
use Rattle.serving_place.specs.Due.{Due, Saying, due_left, due_turn, due_turns}
use Rattle.handler_ops.specs.Course.{Desks, is_held, desk_of, low_bytes}
use Rattle.serving_place.specs.Progresses.{first_handler, first_turn, due_handler}
use Rattle.handler_ops.specs.Told.{step_as, need_as, handed, handed_as}

pub left_none : (n : ℕ) (d : Due) → n ≡ 0 → due_left n d ≡ Saying say.Spent
left_none zero d h = refl
left_none (suc n) d h = absurd (omega (arith, h))

pub left_some : (n : ℕ) (d : Due) → n ≢ 0 → due_left n d ≡ d
left_some zero d h = absurd (h refl)
left_some (suc n) d h = refl

pub due_turns_is : (kind : HandlerType) (turns : List ℕ) (r : Running) (g : Registrations) (left : ℕ) → due_turns kind turns r g left ≡ due_handler (first_turn kind turns g) kind r left
due_turns_is kind [] r g left = refl
due_turns_is kind (n ∷ turns) r g left = at_turn (turn_of kind g n) (due_turns_is kind turns r g left)
  where
    at_turn : (o : Option Registration) → due_turns kind turns r g left ≡ due_handler (first_turn kind turns g) kind r left
        → due_turn o (due_turns kind turns r g left) (λ h. due_left left (Saying (say.Call h))) ≡ due_handler (first_handler o (first_turn kind turns g)) kind r left
    at_turn None h = h
    at_turn (Some x) h = refl

pub need_is : (t : Setting) (s : Serving) (r : Row) → (step_as t s r).need ≡ need_as r
need_is t s row.Finished = refl
need_is t s (row.Looking l) = refl
need_is t s (row.ClaimingDesk c l) = refl
need_is t s (row.ClaimingJob c l) = refl
need_is t s (row.AwaitingJob c) = refl
need_is t s (row.Putting c) = refl
need_is t s (row.Raising c l) = refl
need_is t s (row.Reading c reg width) = refl
need_is t s (row.Writing c reg width x) = refl
need_is t s (row.Allocating size) = refl
need_is t s (row.Freeing place) = refl

pub handed_is : (t : Setting) (s : Serving) (r : Row) (held : Desks) → handed (step_as t s r) held ≡ handed_as r held
handed_is t s row.Finished held = refl
handed_is t s (row.Looking l) held = refl
handed_is t s (row.ClaimingDesk c l) held = refl
handed_is t s (row.ClaimingJob c l) held = refl
handed_is t s (row.AwaitingJob c) held = refl
handed_is t s (row.Putting c) held = refl
handed_is t s (row.Raising c l) held = refl
handed_is t s (row.Reading c reg width) held = refl
handed_is t s (row.Writing c reg width x) held = refl
handed_is t s (row.Allocating size) held = refl
handed_is t s (row.Freeing place) held = refl

pub held_is : (held : Desks) (c : ℕ) → is_held held c ≡ is_some (desk_of held c)
held_is [] c = refl
held_is (d ∷ ds) zero = refl
held_is (d ∷ ds) (suc c) = held_is ds c

nonzero : (m : ℕ) → (suc m == 0) ≡ false
nonzero m = ne_eqb (suc m) 0 (omega arith)

pub low_length : (width x : ℕ) → (length (low_bytes width x) == 0) ≡ (width == 0)
low_length zero x = refl
low_length (suc n) x = nonzero _ ∙ sym (nonzero n)

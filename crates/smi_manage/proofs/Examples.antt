-- The definitions on small literals, by computation.
use Rattle.std.proofs.Common.{◌≡◌, [], ◌∷◌, refl}
use Rattle.smm_base.specs.declared.kinds.HandlerType.TheVariants.{Root, Typed}
use Rattle.smm_base.specs.declared.status.Status.TheVariants.{Success, NotFound, InterruptPending, SourcePending, SourceQuiesced}
use Rattle.handler_registry.specs.Registrations.{no_registrations, registered}
use Rattle.handler_registry.specs.Changes.Change.{Register, Unregister}
use Rattle.smi_manage.specs.Answers.{answer_of}
use Rattle.smi_manage.specs.Walks.{begun}
use Rattle.smi_manage.specs.Calls.{calls}

answers : (answer_of Root (InterruptPending ∷ SourceQuiesced ∷ InterruptPending ∷ []) ≡ Success) × (answer_of Root (InterruptPending ∷ []) ≡ InterruptPending)
    × (answer_of (Typed 7) (SourcePending ∷ InterruptPending ∷ []) ≡ InterruptPending) × (answer_of (Typed 7) (SourceQuiesced ∷ SourcePending ∷ []) ≡ Success)
    × (answer_of (Typed 7) [] ≡ NotFound) × (answer_of Root [] ≡ NotFound)
answers = (refl, refl, refl, refl, refl, refl)

-- three on a GUID's list; before the second turn the second is taken out and one more comes
walked : calls (begun (Typed 7) (registered (Typed 7) 2 (registered (Typed 7) 1 (registered (Typed 7) 0 no_registrations)))) (registered (Typed 7) 2 (registered (Typed 7) 1 (registered (Typed 7) 0 no_registrations)))
    (record { changes = []; status = SourcePending } ∷ record { changes = Unregister 2 ∷ Register (Typed 7) 0 ∷ []; status = SourcePending } ∷ record { changes = []; status = Success } ∷ [])
    ≡ 1 ∷ 3 ∷ []
walked = refl

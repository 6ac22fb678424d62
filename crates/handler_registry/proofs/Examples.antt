-- The definitions on small literals, by computation.
use Rattle.std.proofs.Common.{◌≡◌, Some, None, refl}
use Rattle.smm_base.specs.declared.kinds.HandlerType.TheVariants.{Root, Typed}
use Rattle.handler_registry.specs.Registrations.{Registrations, no_registrations, registered, unregistered, next_of, handler_at}

-- two on the root list with one of a GUID between them
abbrev three : Registrations
three = registered Root 5 (registered (Typed 7) 4 (registered Root 3 no_registrations))

in_order : (next_of Root 0 three ≡ Some 1) × (next_of Root 1 three ≡ Some 3) × (next_of Root 3 three ≡ None) × (next_of (Typed 7) 0 three ≡ Some 2) × (next_of (Typed 8) 0 three ≡ None)
in_order = (refl, refl, refl, refl, refl)

gone : (next_of Root 0 (unregistered 1 three) ≡ Some 3) × (handler_at 1 (unregistered 1 three) ≡ None) × (handler_at 3 (unregistered 1 three) ≡ Some 5) × ((unregistered 1 three).last ≡ 3)
gone = (refl, refl, refl, refl)

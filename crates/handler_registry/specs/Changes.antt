-- What becomes of the registrations over many calls.
use Rattle.std.specs.Prelude.{ℕ, cond, List, [], ◌∷◌, Option}
use Rattle.std.specs.List.{find}
use Rattle.smm_base.specs.declared.kinds.HandlerType.{HandlerType}
use Rattle.handler_registry.specs.declared.registration.Registration.{Registration}
use Rattle.handler_registry.specs.Registrations.{Registrations, has_serial, is_full, registered, unregistered}

-- a call that may change them: of `register` with a list and a handler, or of `unregister` with a serial number
pub data Change : Type 0 where
  Register : HandlerType → ℕ → Change
  Unregister : ℕ → Change

-- the registrations after the call; a call that is refused changes nothing
abbrev pub changed : Change → Registrations → Registrations
changed (Register kind handler) state = cond (is_full state) state (registered kind handler state)
changed (Unregister serial) state = unregistered serial state

-- the registrations after these calls, one after the other
abbrev pub all_changed : List Change → Registrations → Registrations
all_changed [] state = state
all_changed (change ∷ rest) state = all_changed rest (changed change state)

-- the live registration with this serial number
abbrev pub live_at : ℕ → Registrations → Option Registration
live_at serial state = find (has_serial serial) state.live

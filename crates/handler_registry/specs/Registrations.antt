-- What is registered: the handlers of each list, and what each call makes of it.
use Rattle.std.specs.Prelude.{ℕ, ◌+◌, ◌≤◌, Bool, true, false, ◌&&◌, ◌||◌, ◌==◌, nat_lt, not, List, [], ◌∷◌, ◌++◌, length, Option}
use Rattle.std.specs.List.{find, filter, list_any}
use Rattle.std.specs.Option.{option_map}
use Rattle.slab_order.specs.Numbered.{IsRisingBy}
use Rattle.smm_base.specs.declared.kinds.HandlerType.{HandlerType}
use Rattle.smm_base.specs.declared.kinds.HandlerType.TheVariants.{Root, Typed}
use Rattle.handler_registry.specs.declared.registration.Registration.{Registration}

-- the registrations that are live, by rising serial number, and the last serial number given, or 0
pub record Registrations : Type 0 where
  pub live : List Registration
  pub last : ℕ

-- nothing was registered yet
abbrev pub no_registrations : Registrations
no_registrations = record { live = []; last = 0 }

-- both are the root list, or both the list of one GUID
abbrev pub is_same_list : HandlerType → HandlerType → Bool
is_same_list Root Root = true
is_same_list Root (Typed b) = false
is_same_list (Typed a) Root = false
is_same_list (Typed a) (Typed b) = a == b

abbrev pub serial_of : Registration → ℕ
serial_of registration = registration.serial

abbrev pub has_serial : ℕ → Registration → Bool
has_serial serial registration = serial_of registration == serial

-- a live registration has this serial number
abbrev pub is_live : ℕ → Registrations → Bool
is_live serial state = list_any (has_serial serial) state.live

-- 64 are live, or the serial numbers, which have 32 bits, are used up
abbrev pub is_full : Registrations → Bool
is_full state = length state.live == 64 || state.last == 4294967295

-- one more, with the next serial number
abbrev pub registered : HandlerType → ℕ → Registrations → Registrations
registered kind handler state =
    record {
      live = state.live ++ record { serial = state.last + 1; kind = kind; handler = handler } ∷ [];
      last = state.last + 1;
    }

-- without the one with this serial number
abbrev pub unregistered : ℕ → Registrations → Registrations
unregistered serial state = record state { live = filter (λ r. not (has_serial serial r)) state.live }

-- the handler of the live registration with this serial number
abbrev pub handler_at : ℕ → Registrations → Option ℕ
handler_at serial state = option_map (λ r. r.handler) (find (has_serial serial) state.live)

-- on this list, with a serial number above this one
abbrev pub is_on_after : HandlerType → ℕ → Registration → Bool
is_on_after kind after registration = is_same_list registration.kind kind && nat_lt after registration.serial

-- the least live serial number of this list above this one
abbrev pub next_of : HandlerType → ℕ → Registrations → Option ℕ
next_of kind after state = option_map (λ r. r.serial) (find (is_on_after kind after) state.live)

-- the serial numbers rise, from above the first bound to at most the second
abbrev pub IsRising : ℕ → ℕ → List Registration → Type 0
IsRising above last registrations = IsRisingBy serial_of above last registrations

-- what calls can make of no registrations
pub record IsRegistered (state : Registrations) : Type 0 where
  pub few : length state.live ≤ 64
  pub rising : IsRising 0 state.last state.live

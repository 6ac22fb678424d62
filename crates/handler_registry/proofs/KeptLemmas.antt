-- What each call keeps of a registry's fields, and what contracts then see.
use Rattle.std.proofs.Common.{◌≡◌, ℕ, ◌<◌, ◌≤◌, true, false, ◌||◌, ◌==◌, List, length, Option, refl, sym, ◌∙◌, arith}
use Rattle.std.specs.List.{find, All}
use Rattle.std.specs.Option.{option_map, option_map_or, option_and_then}
use Rattle.std.proofs.lemmas.List.Folds.{list_any_none, list_any_at}
use Rattle.smm_base.specs.declared.kinds.HandlerType.{HandlerType}
use Rattle.slab.specs.Slab.{Slab, get}
use Rattle.slab_order.specs.Order.{values_at}
use Rattle.slab_order.specs.Numbered.{is_at}
use Rattle.slab_order.proofs.OrderLemmas.{find_values, any_values}
use Rattle.slab_order.proofs.NumberedLemmas.{IsFound, length_shown}
use Rattle.handler_registry.specs.declared.registration.Registration.{Registration}
use Rattle.handler_registry.specs.Kept.{IsKept}
use Rattle.handler_registry.specs.Registrations.{Registrations, serial_of, has_serial, is_on_after, is_full, is_live, next_of, handler_at, IsRegistered}

-- what contracts see of these fields
abbrev pub shown : Slab Registration → List ℕ → ℕ → Registrations
shown slab order last = record { live = values_at slab order; last = last }

pub kept_registered : (slab : Slab Registration) (order : List ℕ) (room last : ℕ) → IsKept slab order room last → IsRegistered (shown slab order last)
kept_registered slab order room last k = record { few = rw (length_shown serial_of slab order 64 room last k) (k.few); rising = k.rising }

pub full_shown : (slab : Slab Registration) (order : List ℕ) (room last : ℕ) → IsKept slab order room last → is_full (shown slab order last) ≡ ((length order == 64) || (last == 4294967295))
full_shown slab order room last k = rw (length_shown serial_of slab order 64 room last k) refl

pub room_left : (slab : Slab Registration) (order : List ℕ) (room last : ℕ) → IsKept slab order room last → is_full (shown slab order last) ≡ false → length order < 64
room_left slab order room last k h =
    let e : ((length order == 64) || (last == 4294967295)) ≡ false = sym (full_shown slab order room last k) ∙ h in
    let few : length order ≤ 64 = k.few in
    grind (arith, e, few)

pub live_found : (slab : Slab Registration) (order : List ℕ) (last serial i key : ℕ) → IsFound serial_of slab order serial i key → is_live serial (shown slab order last) ≡ true
live_found slab order last serial i key f =
    any_values (has_serial serial) slab order ∙ list_any_at (is_at serial_of slab serial) order i 0 f.within (rw (f.at) (f.here))

pub live_none : (slab : Slab Registration) (order : List ℕ) (last serial : ℕ) → All (λ key. is_at serial_of slab serial key ≡ false) order → is_live serial (shown slab order last) ≡ false
live_none slab order last serial h = any_values (has_serial serial) slab order ∙ list_any_none (is_at serial_of slab serial) order h

pub next_shown : (slab : Slab Registration) (order : List ℕ) (last : ℕ) (kind : HandlerType) (after : ℕ) (found : Option ℕ) →
    found ≡ find (λ key. option_map_or (is_on_after kind after) (get slab key) false) order →
    next_of kind after (shown slab order last) ≡ option_map (λ r. r.serial) (option_and_then (get slab) found)
next_shown slab order last kind after found e = rw (find_values (is_on_after kind after) slab order, e) refl

pub handler_shown : (slab : Slab Registration) (order : List ℕ) (last serial : ℕ) (found : Option ℕ) →
    found ≡ find (is_at serial_of slab serial) order →
    handler_at serial (shown slab order last) ≡ option_map (λ r. r.handler) (option_and_then (get slab) found)
handler_shown slab order last serial found e = rw (find_values (has_serial serial) slab order, e) refl

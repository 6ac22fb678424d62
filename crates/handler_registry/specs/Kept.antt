-- What a registry keeps between its calls.
use Rattle.std.specs.Prelude.{ℕ, List}
use Rattle.slab.specs.Slab.{Slab}
use Rattle.slab_order.specs.Numbered.{IsOrderedBy}
use Rattle.handler_registry.specs.declared.registration.Registration.{Registration}
use Rattle.handler_registry.specs.Registrations.{serial_of}

-- the order has the key of each value once, by rising serial number; there is room for 64
abbrev pub IsKept : Slab Registration → List ℕ → ℕ → ℕ → Type 0
IsKept slab order room last = IsOrderedBy serial_of slab order 64 room last

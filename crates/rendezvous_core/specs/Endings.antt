-- Who can go on.
use Rattle.std.specs.Prelude.{◌≡◌, ◌⊎◌, ◌<◌, ℕ, true, List, length}
use Rattle.rendezvous_core.specs.declared.stepped.Stepped.{Stepped}
use Rattle.rendezvous_core.specs.declared.stepped.Stepped.TheVariants as stepped
use Rattle.rendezvous_core.specs.Worlds.{World, step, world_after, is_complete}

-- the step made an event
abbrev pub MakesEvent : Stepped → Type 0
MakesEvent (stepped.Event e) = Unit {0}
MakesEvent (stepped.Waiting found) = ⊥
MakesEvent stepped.Off = ⊥

-- some actor makes an event now
abbrev pub CanGoOn : World → Type 0
CanGoOn w = (i : ℕ) × (i < length w.actors) × MakesEvent (step w i).0

-- Nothing is stuck from here on: wherever a schedule leads, all is off there, or some actor makes an event.
abbrev pub IsNeverStuck : World → Type 0
IsNeverStuck w = (schedule : List ℕ) → (is_complete (world_after w schedule) ≡ true) ⊎ CanGoOn (world_after w schedule)

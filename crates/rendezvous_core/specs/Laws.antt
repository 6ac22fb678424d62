-- The laws of steps and schedules.
use Rattle.std.specs.Prelude.{ℕ, ◌≡◌, List, ◌++◌, length}
use Rattle.rendezvous_core.specs.Worlds.{World, step, events_from, world_after, MakesNoEvent}

abbrev pub AppendsEvents : Type 0
AppendsEvents = (w : World) (done rest : List ℕ) → events_from w (done ++ rest) ≡ events_from w done ++ events_from (world_after w done) rest

abbrev pub AppendsWorld : Type 0
AppendsWorld = (w : World) (done rest : List ℕ) → world_after w (done ++ rest) ≡ world_after (world_after w done) rest

abbrev pub StaysWithoutEvent : Type 0
StaysWithoutEvent = (w : World) (me : ℕ) → MakesNoEvent (step w me).0 → (step w me).1 ≡ w

abbrev pub KeepsActors : Type 0
KeepsActors = (w : World) (me : ℕ) → length (step w me).1.actors ≡ length w.actors

-- What a world keeps.
use Rattle.std.specs.Prelude.{ℕ, ◌≡◌, ◌+◌, ◌<◌, ◌≤◌, List, length, slice_get, vec_capacity, IsSome, IsSomeAnd}
use Rattle.cpu_program.specs.Actors.{Actor}
use Rattle.cpu_program.specs.Programs.{last_of, number_of}
use Rattle.rendezvous_core.specs.Turns.{world_in}
use Rattle.rendezvous_core.specs.Worlds.{Replay}
use Rattle.rendezvous_core.specs.declared.world.World.TheInside.{Inside}

abbrev pub replay_of : Inside → Replay
replay_of w =
    record {
      processors = w.processors;
      world = world_in w.words w.lying w.programs.items;
      events = w.events.items;
      room = w.room;
    }

-- it has an image to hand back
abbrev pub HasImage : Actor → Type 0
HasImage a = IsSome (last_of a)

abbrev pub HasNumber : ℕ → Actor → Type 0
HasNumber i a = number_of a ≡ i

-- the processors by number, each of which has an image, and then the chipset
pub record AreActors (n : ℕ) (actors : List Actor) : Type 0 where
  pub count : length actors ≡ n + 1
  pub numbers : (i : ℕ) → i ≤ n → IsSomeAnd (slice_get actors i) (HasNumber i)
  pub images : (i : ℕ) → i < n → IsSomeAnd (slice_get actors i) HasImage

-- there is memory for the events
pub record IsWorld (w : Inside) : Type 0 where
  pub actors : AreActors w.processors w.programs.items
  pub room : w.room ≤ vec_capacity w.events

-- How a replay is finished: rounds of all actors until every one is off, and of which schedule the whole is the replay.
use Rattle.std.specs.Prelude.{◌≡◌, ◌≤◌, ℕ, zero, suc, ◌+◌, List, [], ◌++◌, length, map, take}
use Rattle.std.specs.List.{range_with_len}
use Rattle.save_state_map.specs.Images.{ImageContents}
use Rattle.cpu_regs.specs.Registers.{Registers}
use Rattle.cpu_table.specs.Data.{SetupData}
use Rattle.sync_words.specs.declared.event.Event.{Event}
use Rattle.rendezvous_core.specs.Worlds.{Replay, events_from, world_after, replay_events, replay_world}

-- a round of all actors: the processors by number, and then the chipset
abbrev pub round_of : ℕ → List ℕ
round_of processors = range_with_len 0 (processors + 1)

-- so many rounds
abbrev pub rounds : ℕ → ℕ → List ℕ
rounds processors zero = []
rounds processors (suc count) = round_of processors ++ rounds processors count

-- who made the events, in their order
abbrev pub actors_of : List Event → List ℕ
actors_of events = map (λ e. e.actor) events

-- the replay after the steps of a schedule more
abbrev pub played_on : Replay → List ℕ → Replay
played_on r schedule = record r { world = world_after r.world schedule; events = r.events ++ events_from r.world schedule }

-- there is room for the events of every schedule
abbrev pub HasRoomForAll : Replay → Type 0
HasRoomForAll r = (schedule : List ℕ) → length r.events + length (events_from r.world schedule) ≤ r.room

-- the world and the events are those of the replay of a schedule, from registers and images of a platform
pub record IsReplayOf (d : SetupData) (registers : List Registers) (images : List ImageContents) (schedule : List ℕ) (r : Replay) : Type 0 where
  pub world : r.world ≡ replay_world d registers images schedule
  pub events : r.events ≡ replay_events d registers images schedule

-- the list begins with these events
abbrev pub IsPrefix : List Event → List Event → Type 0
IsPrefix front events = take (length front) events ≡ front

-- of whatever platform, registers and images the one was the replay, the other is the replay of its own events' actors
abbrev pub IsReplayOfItsActors : Replay → Replay → Type 0
IsReplayOfItsActors before after =
    (d : SetupData) (registers : List Registers) (images : List ImageContents) (schedule : List ℕ) →
    IsReplayOf d registers images schedule before → IsReplayOf d registers images (actors_of after.events) after

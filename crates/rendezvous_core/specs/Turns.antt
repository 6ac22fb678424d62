-- A turn as the code makes it: what comes of it, the words, what lies on them, and the actor.
use Rattle.std.specs.Prelude.{List, ◌++◌, ◌∷◌, [], ◌-◌, length, slice_get, Option, Some, None}
use Rattle.sync_words.specs.declared.event.Event.{Event}
use Rattle.cpu_program.specs.Actors.{Actor}
use Rattle.rendezvous_core.specs.declared.stepped.Stepped.{Stepped}
use Rattle.rendezvous_core.specs.declared.stepped.Stepped.TheVariants as stepped
use Rattle.rendezvous_core.specs.declared.turned.Turned.{Turned}
use Rattle.rendezvous_core.specs.declared.turned.Turned.TheVariants as turned
use Rattle.rendezvous_core.specs.Worlds.{Words, Lying, World, Turn, Moves, Waits, Rests}

-- what comes of a turn
abbrev pub stepped_by : Turn → Stepped
stepped_by (Moves e words lying a) = stepped.Event e
stepped_by (Waits found) = stepped.Waiting found
stepped_by Rests = stepped.Off

-- the same without its event
abbrev pub turned_of : Stepped → Turned
turned_of (stepped.Event e) = turned.Event
turned_of (stepped.Waiting found) = turned.Waiting found
turned_of stepped.Off = turned.Off

-- the events with the one that came
abbrev pub events_with : Stepped → List Event → List Event
events_with (stepped.Event e) es = es ++ e ∷ []
events_with _ es = es

-- the event is the last one
abbrev pub with_last : Option Event → Stepped
with_last (Some e) = stepped.Event e
with_last None = stepped.Off

abbrev pub stepped_from : Turned → List Event → Stepped
stepped_from turned.Event es = with_last (slice_get es (length es - 1))
stepped_from (turned.Waiting found) es = stepped.Waiting found
stepped_from turned.Off es = stepped.Off

-- the words after a turn, what lies on them, and the actor
abbrev pub words_by : Turn → Words → Words
words_by (Moves e words lying a) before = words
words_by _ before = before

abbrev pub lying_by : Turn → Lying → Lying
lying_by (Moves e words lying a) before = lying
lying_by _ before = before

abbrev pub actor_by : Turn → Actor → Actor
actor_by (Moves e words lying a) before = a
actor_by _ before = before

-- a world of these parts
abbrev pub world_in : Words → Lying → List Actor → World
world_in words lying actors = record { words = words; lying = lying; actors = actors }

-- How many events an actor makes, and the most that it may make.
use Rattle.std.specs.Prelude.{ℕ, ◌+◌, ◌*◌, ◌==◌, List}
use Rattle.std.specs.List.{count_by}
use Rattle.cpu_table.specs.Data.{SetupData}
use Rattle.sync_words.specs.declared.event.Event.{Event}

-- how many of these events the actor i made
abbrev pub events_of : ℕ → List Event → ℕ
events_of i es = count_by (λ e. e.actor == i) es

-- the most events that one actor makes in a visit: its looks, its turns and its units of serving
abbrev pub most_in_visit : SetupData → ℕ
most_in_visit d = 40 + d.t1 + d.t2 + 10 * d.processors + 5 * d.ops

-- the most events that one actor makes in any schedule
abbrev pub most_events : SetupData → ℕ
most_events d = d.visits * most_in_visit d

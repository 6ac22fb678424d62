-- An event that its own line spells.
use Rattle.std.specs.Prelude.{ℕ, ◌≡◌, length, Some}
use Rattle.sync_words.specs.declared.event.Event.{Event}
use Rattle.sync_words.specs.Texts.{event_line}
use Rattle.trace_text.specs.Readings.{reading}

-- where there are n processors, the event's line is read as the event
abbrev pub IsSpelled : ℕ → Event → Type 0
IsSpelled n event = reading n (event_line n event) 0 ≡ Some (event, length (event_line n event))

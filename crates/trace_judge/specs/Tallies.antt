-- What is counted of the events of a trace. It is the project's own.
use Rattle.std.specs.Prelude.{ℕ, ◌≡◌, ◌+◌, ◌-◌, ◌<◌, ◌==◌, ◌&&◌, Bool, true, false, not, List, length, count_by}
use Rattle.sync_words.specs.declared.event.Event.{Event}
use Rattle.sync_words.specs.declared.label.Label.{Label}
use Rattle.sync_words.specs.declared.label.Label.TheVariants.{Wave, Served, End}
use Rattle.trace_text.specs.declared.last.Totals.{Totals}
use Rattle.trace_judge.specs.declared.tally.Tally.{Tally}

-- the label says that a session ends
abbrev pub is_end : Label → Bool
is_end End = true
is_end _ = false

-- the label announces a wave
abbrev pub is_wave : Label → Bool
is_wave (Wave _) = true
is_wave _ = false

-- the label says that a wave was served; the wave 0 is none
abbrev pub is_served : Label → Bool
is_served (Served wave) = not (wave == 0)
is_served _ = false

-- how many sessions were ended, how many waves were announced, and how many were served
abbrev pub session_count : List Event → ℕ
session_count events = count_by (λ event. is_end event.label) events

abbrev pub wave_count : List Event → ℕ
wave_count events = count_by (λ event. is_wave event.label) events

abbrev pub served_count : List Event → ℕ
served_count events = count_by (λ event. is_served event.label) events

-- how many waves were announced and not served
abbrev pub unserved_count : List Event → ℕ
unserved_count events = wave_count events - served_count events

-- what is counted of events
abbrev pub tally_of : List Event → Tally
tally_of events = record { events = length events; sessions = session_count events; waves = wave_count events; served = served_count events }

abbrev pub first_tally : Tally
first_tally = record { events = 0; sessions = 0; waves = 0; served = 0 }

abbrev pub one_if : Bool → ℕ
one_if true = 1
one_if false = 0

-- with an event more
abbrev pub counted : Tally → Label → Tally
counted t label = record { events = t.events + 1; sessions = t.sessions + one_if (is_end label); waves = t.waves + one_if (is_wave label); served = t.served + one_if (is_served label) }

-- each of its numbers is below a number
pub record IsTallyBelow (most : ℕ) (t : Tally) : Type 0 where
  pub events : t.events < most
  pub sessions : t.sessions < most
  pub waves : t.waves < most
  pub served : t.served < most

-- a last line has its numbers
abbrev pub is_told : Tally → Totals → Bool
is_told t totals = totals.events == t.events && totals.sessions == t.sessions && totals.unserved == t.waves - t.served

-- the numbers of a last line are those of the events
pub record Tells (totals : Totals) (events : List Event) : Type 0 where
  pub events_are : totals.events ≡ length events
  pub sessions_are : totals.sessions ≡ session_count events
  pub unserved_are : totals.unserved ≡ unserved_count events

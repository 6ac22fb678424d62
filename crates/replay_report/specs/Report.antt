-- The report of a run. Its form is the project's own.
use Rattle.std.specs.Prelude.{◌≡◌, ℕ, ◌-◌, ◌==◌, Bool, true, false, not, List, [], ◌∷◌, ◌++◌, Option, length, count_by, if◌then◌else◌}
use Rattle.std.specs.List.{flat_map}
use Rattle.smm_base.specs.Sink.{appended}
use Rattle.sync_words.specs.declared.event.Event.{Event}
use Rattle.sync_words.specs.declared.label.Label.{Label}
use Rattle.sync_words.specs.declared.label.Label.TheVariants.{Wave, Served, End}
use Rattle.sync_words.specs.Texts.{line_end, event_line}
use Rattle.trace_text.specs.Last.{totals_text}
use Rattle.replay_report.specs.declared.report.Counts.{Counts}

-- the label says that a session ends
abbrev pub is_end : Label → Bool
is_end End = true
is_end _ = false

-- the label announces a wave
abbrev pub is_wave : Label → Bool
is_wave (Wave _) = true
is_wave _ = false

-- the label says that a wave was served; the wave 0 is none
abbrev pub is_served : Label → Bool
is_served (Served wave) = not (wave == 0)
is_served _ = false

-- how many sessions were ended
abbrev pub session_count : List Event → ℕ
session_count events = count_by (λ event. is_end event.label) events

-- how many waves were announced
abbrev pub wave_count : List Event → ℕ
wave_count events = count_by (λ event. is_wave event.label) events

-- how many waves were served
abbrev pub served_count : List Event → ℕ
served_count events = count_by (λ event. is_served event.label) events

-- how many waves were announced and not served
abbrev pub unserved_count : List Event → ℕ
unserved_count events = wave_count events - served_count events

-- these are the counts of the events
pub record AreCounts (counts : Counts) (events : List Event) : Type 0 where
  pub sessions : counts.sessions ≡ session_count events
  pub announced : counts.announced ≡ wave_count events
  pub served : counts.served ≡ served_count events

-- 1 where a test holds
abbrev pub one_if : Bool → ℕ
one_if test = if test then 1 else 0

-- the lines of the events in their order, where there are so many processors
abbrev pub event_lines : ℕ → List Event → List ℕ
event_lines processors events = flat_map (event_line processors) events

-- the last line: whether the run is complete, and how many events, ended sessions and unserved waves it has
abbrev pub last_line : List Event → Bool → List ℕ
last_line events complete =
    totals_text complete (length events) (session_count events) (unserved_count events) ++ line_end ∷ []

-- the report of a run on so many processors: the lines of its events and the last line
abbrev pub report_text : ℕ → List Event → Bool → List ℕ
report_text processors events complete = event_lines processors events ++ last_line events complete

-- of a text a sink took a front part since it had the bytes before, and the buffer holds the rest
pub record IsBuffered (before now : Option (List ℕ)) (buffer text : List ℕ) : Type 0 where
  pub taken : List ℕ
  pub took : now ≡ appended before taken
  pub joins : text ≡ taken ++ buffer

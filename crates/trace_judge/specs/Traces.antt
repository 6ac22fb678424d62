-- Traces in the subject's words: lines of events whose labels are a run of the rendezvous machine, and a last line with their
-- numbers; and what a trace that is none has as its first fault.
use Rattle.std.specs.Prelude.{ℕ, ◌≡◌, ◌≢◌, ◌⊎◌, ◌+◌, List, ◌++◌, length, All}
use Rattle.std.specs.List.{flat_map}
use Rattle.cpu_table.specs.Data.{SetupData}
use Rattle.sync_words.specs.declared.event.Event.{Event}
use Rattle.sync_words.specs.Texts.{event_line}
use Rattle.trace_text.specs.declared.last.Totals.{Totals}
use Rattle.trace_text.specs.Last.{last_line, AreNumbers}
use Rattle.trace_text.specs.Spelling.{IsSpelling, StandsAt}
use Rattle.rendezvous_core.specs.Worlds.{labels}
use Rattle.rendezvous_machine.specs.Machines.{Machine}
use Rattle.rendezvous_machine.specs.Rules as rules
use Rattle.rendezvous_machine.specs.Runs.{IsRun, machine_after}
use Rattle.trace_check.specs.Verdicts.{rule_of}
use Rattle.trace_judge.specs.declared.fault.LineFault.TheVariants.{Text, Rule}
use Rattle.trace_judge.specs.declared.fault.TraceFault.{TraceFault}
use Rattle.trace_judge.specs.Tallies.{Tells}

-- the lines of the events in their order, where there are so many processors
abbrev pub event_lines : ℕ → List Event → List ℕ
event_lines processors events = flat_map (event_line processors) events

-- the bytes are a trace of a run from a state of the machine
pub record IsTrace (d : SetupData) (m : Machine) (bytes : List ℕ) : Type 0 where
  pub events : List Event
  pub totals : Totals
  pub spelled : All (IsSpelling d.processors) events
  pub lines : bytes ≡ event_lines d.processors events ++ last_line totals
  pub run : IsRun d m (labels events)
  pub told : Tells totals events

-- neither the line of an event nor a last line stands at a place
pub record IsNoLine (n : ℕ) (bytes : List ℕ) (at : ℕ) : Type 0 where
  pub no_event : (event : Event) → IsSpelling n event → StandsAt bytes at (event_line n event) → ⊥
  pub no_last : (totals : Totals) → AreNumbers totals → StandsAt bytes at (last_line totals) → ⊥

-- the line of an event stands there whose rule doesn't hold in this state
pub record IsBroken (d : SetupData) (m : Machine) (bytes : List ℕ) (at rule : ℕ) : Type 0 where
  pub event : Event
  pub spelled : IsSpelling d.processors event
  pub stands : StandsAt bytes at (event_line d.processors event)
  pub breaks : rules.Rule d m event.actor event.label → ⊥
  pub rule_is : rule ≡ rule_of event.label

-- a last line stands there with other numbers than these events have
pub record IsMistold (bytes : List ℕ) (at : ℕ) (events : List Event) : Type 0 where
  pub totals : Totals
  pub stands : StandsAt bytes at (last_line totals)
  pub apart : Tells totals events → ⊥

-- a last line with their numbers stands there, and more bytes follow
pub record GoesOn (bytes : List ℕ) (at : ℕ) (events : List Event) : Type 0 where
  pub totals : Totals
  pub stands : StandsAt bytes at (last_line totals)
  pub told : Tells totals events
  pub follows : at + length (last_line totals) ≢ length bytes

-- what the fault is, behind these events
abbrev pub FaultsBehind : SetupData → Machine → List ℕ → List Event → TraceFault → Type 0
FaultsBehind d m bytes events fault =
    let at = length (event_lines d.processors events) in
    let line = length events + 1 in
    ((fault ≡ record { line = line; fault = Text }) × IsNoLine d.processors bytes at)
    ⊎ ((rule : ℕ) × (fault ≡ record { line = line; fault = Rule rule }) × IsBroken d m bytes at rule)
    ⊎ ((fault ≡ record { line = line; fault = Rule 32 }) × IsMistold bytes at events)
    ⊎ ((fault ≡ record { line = line + 1; fault = Text }) × GoesOn bytes at events)

-- The first line at fault: before it stand the lines of events whose labels are a run.
pub record IsFirstFault (d : SetupData) (m : Machine) (bytes : List ℕ) (fault : TraceFault) : Type 0 where
  pub events : List Event
  pub spelled : All (IsSpelling d.processors) events
  pub stand : StandsAt bytes 0 (event_lines d.processors events)
  pub run : IsRun d m (labels events)
  pub faults : FaultsBehind d (machine_after d m (labels events)) bytes events fault

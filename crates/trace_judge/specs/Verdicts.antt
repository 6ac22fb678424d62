-- The judgement of a trace from its bytes, line by line: each event's line is judged by the checker as it comes, and the last
-- line by its numbers. What is told of a fault is the project's own.
use Rattle.std.specs.Prelude.{ℕ, zero, suc, ◌+◌, ◌==◌, List, ◌++◌, length, codes, decimal, Option, Some, None, Result, Ok, Err, if◌then◌else◌}
use Rattle.sync_words.specs.declared.event.Event.{Event}
use Rattle.trace_text.specs.declared.last.Totals.{Totals}
use Rattle.trace_text.specs.Readings.{reading}
use Rattle.trace_text.specs.Last.{last_reading}
use Rattle.trace_check.specs.declared.broken.Broken.{Broken}
use Rattle.trace_check.specs.Judged.{Judged}
use Rattle.trace_check.specs.Stands.{answer}
use Rattle.trace_check.specs.Afterwards.{accepted}
use Rattle.trace_judge.specs.declared.fault.LineFault.{LineFault}
use Rattle.trace_judge.specs.declared.fault.LineFault.TheVariants.{Text, Rule}
use Rattle.trace_judge.specs.declared.fault.TraceFault.{TraceFault}
use Rattle.trace_judge.specs.declared.walk.Walk.{Walk}
use Rattle.trace_judge.specs.Tallies.{first_tally, counted, is_told}

-- what is told of a fault
abbrev pub line_fault_text : LineFault → List ℕ
line_fault_text Text = codes "text"
line_fault_text (Rule rule) = codes "rule " ++ decimal rule

abbrev pub trace_fault_text : TraceFault → List ℕ
trace_fault_text fault = codes "line " ++ decimal fault.line ++ codes " " ++ line_fault_text fault.fault

-- a trace is a run, or it has a first line at fault
abbrev pub Verdict : Type 0
Verdict = Result (Unit {0}) TraceFault

abbrev pub at_fault : ℕ → LineFault → Verdict
at_fault line fault = Err (record { line = line; fault = fault })

-- the event, and the last line, that stand at a place, with the place behind them
unfoldable pub event_at : ℕ → List ℕ → ℕ → Option (Event × ℕ)
event_at n bytes at = reading n bytes at

unfoldable pub last_at : List ℕ → ℕ → Option (Totals × ℕ)
last_at bytes at = last_reading bytes at

-- the checker's answer to an event, and the checker afterwards
unfoldable pub answer_to : Judged → Event → Result (Unit {0}) Broken
answer_to judged event = answer judged event.actor event.label

unfoldable pub judged_after : Judged → Event → Judged
judged_after judged event = accepted judged event.actor event.label

-- at the first line
abbrev pub first_walk : Judged → Walk
first_walk judged = record { machine = judged; at = 0; tally = first_tally }

-- behind an event's line
abbrev pub advanced : Walk → Event × ℕ → Walk
advanced w read = record { machine = judged_after w.machine read.0; at = read.1; tally = counted w.tally read.0.label }

-- the line that is judged next, counted from 1
abbrev pub line_of : Walk → ℕ
line_of w = w.tally.events + 1

-- behind a last line with the right numbers nothing may follow
abbrev pub closed : List ℕ → ℕ → ℕ → Verdict
closed bytes line next = if next == length bytes then Ok tt else at_fault (line + 1) Text

-- where no event's line stands, a last line must, which has the trace's numbers and ends it; wrong numbers break rule 32
abbrev pub last_verdict : List ℕ → Walk → Option (Totals × ℕ) → Verdict
last_verdict bytes w None = at_fault (line_of w) Text
last_verdict bytes w (Some last) = if is_told w.tally last.0 then closed bytes (line_of w) last.1 else at_fault (line_of w) (Rule 32)

-- what follows where the checker accepts
abbrev pub by_answer : ℕ → Result (Unit {0}) Broken → Verdict → Verdict
by_answer line (Ok _) next = next
by_answer line (Err broken) next = at_fault line (Rule broken.rule)

-- the judgement of what stands at a place, with that of what follows
abbrev pub judged_by : (Walk → Verdict) → List ℕ → Walk → Option (Event × ℕ) → Verdict
judged_by next bytes w None = last_verdict bytes w (last_at bytes w.at)
judged_by next bytes w (Some read) = by_answer (line_of w) (answer_to w.machine read.0) (next (advanced w read))

-- of at most so many lines
abbrev pub verdict_within : ℕ → ℕ → List ℕ → Walk → Verdict
verdict_within zero n bytes w = at_fault (line_of w) Text
verdict_within (suc k) n bytes w = judged_by (verdict_within k n bytes) bytes w (event_at n bytes w.at)

-- of all: there are no more lines than bytes
unfoldable pub verdict : ℕ → Judged → List ℕ → Verdict
verdict n judged bytes = verdict_within (length bytes) n bytes (first_walk judged)

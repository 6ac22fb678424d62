-- How a command ends at a fault: with its status, and with its line.
use Rattle.std.specs.Prelude.{ℕ, ◌≡◌, ◌⊎◌, List, Option, Ok}
use Rattle.smm_base.specs.Sink.{appended, GainsPrefix}
use Rattle.smm_player.specs.declared.fault.Fault.{Fault}
use Rattle.smm_player.specs.declared.fault.Fault.TheVariants.{Refused, Write, Save, Memory}
use Rattle.smm_player.specs.Due.{Finding}
use Rattle.smm_player.specs.Loading.{RefusedReading}
use Rattle.smm_player.specs.Refusal.{refusal_status, refusal_line, memory_line}

-- a front part of one piece was written, and then a front part of another
abbrev pub GainsBoth : Option (List ℕ) → Option (List ℕ) → List ℕ → List ℕ → Type 0
GainsBoth before after first second = (between : Option (List ℕ)) × GainsPrefix before between first × GainsPrefix between after second

-- the line was told: a front part of it was written, and all of it unless a write failed
abbrev pub Tells : Type 0 → Option (List ℕ) → Option (List ℕ) → List ℕ → Type 0
Tells write_failed before after line = GainsPrefix before after line × ((after ≡ appended before line) ⊎ write_failed)

-- the status is the one that is due, and its line was told; or it is 8 for want of memory, with two lines in part
abbrev pub TellsOrRunsOut : Type 0 → Option (List ℕ) → Option (List ℕ) → List ℕ → ℕ → ℕ → Type 0
TellsOrRunsOut write_failed before after line due status =
    ((status ≡ due) × Tells write_failed before after line) ⊎ ((status ≡ 8) × GainsBoth before after line memory_line)

-- how a command ends at each fault; a failed write or save has no line
abbrev pub Finishes : Type 0 → Option (List ℕ) → Option (List ℕ) → ℕ → Fault → Type 0
Finishes write_failed before after status (Refused refusal) = TellsOrRunsOut write_failed before after (refusal_line refusal) (refusal_status refusal) status
Finishes write_failed before after status Write = (status ≡ 7) × (after ≡ before)
Finishes write_failed before after status Save = (status ≡ 7) × (after ≡ before)
Finishes write_failed before after status Memory = (status ≡ 8) × GainsPrefix before after memory_line

-- How a command that only writes ends at a fault: at a failed write, or for want of memory, with a front part of its bytes.
abbrev pub EndsWriting : Type 0 → Option (List ℕ) → Option (List ℕ) → List ℕ → Fault → Type 0
EndsWriting write_failed before after bytes (Refused refusal) = ⊥
EndsWriting write_failed before after bytes Write = write_failed × GainsPrefix before after bytes
EndsWriting write_failed before after bytes Save = ⊥
EndsWriting write_failed before after bytes Memory = GainsPrefix before after bytes

-- How a check ends at a fault once its files are loaded: what it found is refused, and nothing was written; or it found a run,
-- and the write failed; or there was no memory.
abbrev pub EndsJudging : Type 0 → Finding (Unit {0}) → Option (List ℕ) → Option (List ℕ) → List ℕ → Fault → Type 0
EndsJudging write_failed found before after bytes (Refused refusal) = RefusedReading found refusal × (after ≡ before)
EndsJudging write_failed found before after bytes Write = write_failed × (found ≡ Ok tt) × GainsPrefix before after bytes
EndsJudging write_failed found before after bytes Save = ⊥
EndsJudging write_failed found before after bytes Memory = (after ≡ before) ⊎ ((found ≡ Ok tt) × GainsPrefix before after bytes)

-- How a replay ends at a fault: at a failed write with a front part of the report, at a failed save with all of it, and
-- for want of memory with a front part.
abbrev pub EndsReplay : Type 0 → Type 0 → Option (List ℕ) → Option (List ℕ) → List ℕ → Fault → Type 0
EndsReplay write_failed save_failed before after report (Refused refusal) = ⊥
EndsReplay write_failed save_failed before after report Write = write_failed × GainsPrefix before after report
EndsReplay write_failed save_failed before after report Save = save_failed × (after ≡ appended before report)
EndsReplay write_failed save_failed before after report Memory = GainsPrefix before after report

-- a fault other than a failed save leaves all files as they were
abbrev pub UnlessSaved : Type 0 → Fault → Type 0
UnlessSaved files_stay (Refused refusal) = files_stay
UnlessSaved files_stay Write = files_stay
UnlessSaved files_stay Save = Unit {0}
UnlessSaved files_stay Memory = files_stay

-- a save ends with one of two faults: it failed, or there was no memory and all files stay
abbrev pub SaveFault : Type 0 → Type 0 → Fault → Type 0
SaveFault save_failed files_stay (Refused refusal) = ⊥
SaveFault save_failed files_stay Write = ⊥
SaveFault save_failed files_stay Save = save_failed
SaveFault save_failed files_stay Memory = files_stay

-- What the report of a replay is to the judge of traces.
use Rattle.std.specs.Prelude.{ℕ, ◌≡◌, ◌<◌, ◌^◌, Bool, List, length, Ok}
use Rattle.save_state_map.specs.Images.{ImageContents}
use Rattle.cpu_table.specs.Data.{SetupData}
use Rattle.rendezvous_core.specs.Starts.{first_registers}
use Rattle.rendezvous_core.specs.Worlds.{replay_events}
use Rattle.replay_report.specs.Report.{report_text}
use Rattle.trace_check.specs.Judged.{first_judged}
use Rattle.trace_judge.specs.Verdicts.{verdict}

-- the report of the replay of a schedule, as it is written
abbrev pub replay_report : SetupData → List ImageContents → List ℕ → Bool → List ℕ
replay_report d images schedule complete = report_text d.processors (replay_events d (first_registers d images) images schedule) complete

-- a new judge of the same platform and images accepts it
abbrev pub IsAccepted : SetupData → List ImageContents → List ℕ → Type 0
IsAccepted d images report =
    length report < 2 ^ 64 → verdict d.processors (first_judged d (first_registers d images) images) report ≡ Ok tt

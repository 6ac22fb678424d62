-- The report of a run is a trace of it.
use Rattle.std.proofs.Common.{◌≡◌, ◌↔◌, ◌-◌, ◌<◌, ◌^◌, ℕ, Bool, List, length, count_by, All, Ok, refl, arith}
use Rattle.save_state_map.specs.Images.{ImageContents}
use Rattle.cpu_regs.specs.Registers.{Registers}
use Rattle.cpu_table.specs.Data.{SetupData, data_of}
use Rattle.cpu_table.specs.declared.setup.Setup.{Setup}
use Rattle.sync_words.specs.declared.event.Event.{Event}
use Rattle.sync_words.specs.declared.label.Label.{Label}
use Rattle.sync_words.specs.declared.label.Label.TheVariants.{Wave, Served, End}
use Rattle.trace_text.specs.Spelling.{IsSpelling}
use Rattle.rendezvous_core.specs.Starts.{AreImagesOf, first_registers}
use Rattle.rendezvous_core.specs.Worlds.{labels, replay_events}
use Rattle.rendezvous_core.proofs.StartLemmas.{first_are}
use Rattle.rendezvous_machine.specs.Machines.{Machine, beginning}
use Rattle.rendezvous_machine.specs.Runs.{IsRun}
use Rattle.trace_check.specs.Judged.{first_judged}
use Rattle.replay_report.specs.Report as report
use Rattle.trace_judge.specs.Tallies.{is_end, is_wave, is_served, session_count, unserved_count}
use Rattle.trace_judge.specs.Traces.{IsTrace}
use Rattle.trace_judge.specs.Verdicts.{verdict}
use Rattle.report_laws.specs.Widths.{NumbersFit}
use Rattle.judged_reports.specs.Reports.{replay_report, IsAccepted}

-- both count the same labels
same_end : (label : Label) → report.is_end label ≡ is_end label
same_end End = refl
same_end _ = refl

same_wave : (label : Label) → report.is_wave label ≡ is_wave label
same_wave (Wave _) = refl
same_wave _ = refl

same_served : (label : Label) → report.is_served label ≡ is_served label
same_served (Served wave) = refl
same_served _ = refl

same_sessions : (events : List Event) → report.session_count events ≡ session_count events
same_sessions events = λ t. count_by (λ (event : Event). same_end event.label t) events

same_unserved : (events : List Event) → report.unserved_count events ≡ unserved_count events
same_unserved events =
    λ t. count_by (λ (event : Event). same_wave event.label t) events - count_by (λ (event : Event). same_served event.label t) events

pub is_trace : (d : SetupData) (m : Machine) (events : List Event) (complete : Bool) → All (IsSpelling d.processors) events → IsRun d m (labels events)
    → IsTrace d m (report.report_text d.processors events complete)
is_trace d m events complete spelled run =
    record {
      events = events;
      totals = record { complete = complete; events = length events; sessions = report.session_count events; unserved = report.unserved_count events };
      spelled = spelled;
      lines = refl;
      run = run;
      told = record { events_are = refl; sessions_are = same_sessions events; unserved_are = same_unserved events };
    }

-- what the laws of the judge, of reports and of schedules say
pub record Known : Type 0 where
  pub accepts : (d : SetupData) (registers : List Registers) (images : List ImageContents) (bytes : List ℕ) → d.processors < 2 ^ 16 → length bytes < 2 ^ 64
      → (verdict d.processors (first_judged d registers images) bytes ≡ Ok tt) ↔ IsTrace d (beginning d registers images) bytes
  pub spelled : (setup : Setup) (registers : List Registers) (images : List ImageContents) (schedule : List ℕ) → length registers ≡ setup.processors
      → All (λ one. one.kind ≡ setup.kind) registers → AreImagesOf (data_of setup) images → NumbersFit (data_of setup)
      → All (IsSpelling setup.processors) (replay_events (data_of setup) registers images schedule)
  pub run : (setup : Setup) (registers : List Registers) (images : List ImageContents) (schedule : List ℕ) → length registers ≡ setup.processors → AreImagesOf (data_of setup) images
      → IsRun (data_of setup) (beginning (data_of setup) registers images) (labels (replay_events (data_of setup) registers images schedule))

pub accepted : (known : Known) (setup : Setup) (images : List ImageContents) (schedule : List ℕ) (complete : Bool) → AreImagesOf (data_of setup) images → NumbersFit (data_of setup)
    → IsAccepted (data_of setup) images (replay_report (data_of setup) images schedule complete)
accepted known setup images schedule complete serve numbers = λ few.
    let d = data_of setup in
    let registers = first_registers d images in
    let are = first_are d images registers serve refl in
    let most = setup.processors_in_range.1 in
    (known.accepts d registers images (replay_report d images schedule complete) (omega (arith, most)) few).1
    (is_trace d (beginning d registers images) (replay_events d registers images schedule) complete
    (known.spelled setup registers images schedule are.count are.kind serve numbers) (known.run setup registers images schedule are.count serve))

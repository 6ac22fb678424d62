-- Each event of every replay has a spelling.
use Rattle.std.proofs.Common.{◌≡◌, ℕ, List, [], ◌∷◌, length, All}
use Rattle.std.proofs.lemmas.List.Elements.{All-nil, All-cons, All-head, All-tail}
use Rattle.save_state_map.specs.Images.{ImageContents}
use Rattle.cpu_regs.specs.Registers.{Registers}
use Rattle.cpu_table.specs.Data.{data_of}
use Rattle.cpu_table.specs.declared.setup.Setup.{Setup}
use Rattle.sync_words.specs.declared.event.Event.{Event}
use Rattle.sync_words.specs.declared.label.Label.{Label}
use Rattle.sync_words.specs.declared.label.Label.TheVariants as say
use Rattle.trace_text.specs.Spelling.{IsSpelling, IsLabel}
use Rattle.chipset.proofs.StepLemmas.{platform_of}
use Rattle.cpu_program.specs.Laws.{GivingKeepsWant, ReceivingKeepsWant, WantsWithin}
use Rattle.rendezvous_core.specs.Starts.{AreImagesOf}
use Rattle.rendezvous_core.specs.Worlds.{labels, with_label, replay_events, start}
use Rattle.rendezvous_machine.specs.Machines.{beginning}
use Rattle.rendezvous_machine.specs.Runs.{Said, IsRun}
use Rattle.rendezvous_machine.proofs.Lists.{Standing}
use Rattle.report_laws.specs.Widths.{NumbersFit}
use Rattle.report_laws.proofs.Machines.{EachLabel, labels_fit}
use Rattle.report_laws.proofs.Platforms.{setup_fits, beginning_fits}
use Rattle.report_laws.proofs.Worlds.{IsShaped, replay_fits, start_fits}

-- the first label, which may be the silent one, and the rest
first_label : (i : ℕ) (l : Label) (rest : List Said) → EachLabel (with_label i l rest) → IsLabel l × EachLabel rest
first_label i say.Silent rest h = (tt, h)
first_label i l rest h = h

each_spelled : (n : ℕ) (es : List Event) → All (IsShaped n) es → EachLabel (labels es) → All (IsSpelling n) es
each_spelled n [] shaped h = All-nil (IsSpelling n)
each_spelled n (e ∷ es) shaped h =
    let own = All-head (IsShaped n) e es shaped in
    let both = first_label e.actor e.label (labels es) h in
    All-cons (IsSpelling n) e es (record { actor = own.actor; word = own.word; access = own.access; found = own.found; label = both.0 })
    (each_spelled n es (All-tail (IsShaped n) e es shaped) both.1)

-- what the laws of programs, of serving and of schedules say
pub record Known : Type 0 where
  pub giving : GivingKeepsWant
  pub receiving : ReceivingKeepsWant
  pub within : WantsWithin
  pub standing : Standing

pub replay_spelled : (known : Known) (setup : Setup) (registers : List Registers) (images : List ImageContents) (schedule : List ℕ) → length registers ≡ setup.processors
    → All (λ r. r.kind ≡ setup.kind) registers → AreImagesOf (data_of setup) images → NumbersFit (data_of setup)
    → IsRun (data_of setup) (beginning (data_of setup) registers images) (labels (replay_events (data_of setup) registers images schedule))
    → All (IsSpelling setup.processors) (replay_events (data_of setup) registers images schedule)
replay_spelled known setup registers images schedule count kinds serve numbers run =
    let d = data_of setup in
    each_spelled setup.processors (replay_events d registers images schedule)
    (replay_fits known.giving known.receiving known.within d schedule (start d registers images)
    (start_fits d registers images (platform_of setup) setup.policy_in_range count serve.count kinds serve.kind))
    (labels_fit known.standing d (setup_fits setup numbers) (beginning d registers images) (labels (replay_events d registers images schedule)) run
    (beginning_fits known.standing setup numbers registers images count serve.count))

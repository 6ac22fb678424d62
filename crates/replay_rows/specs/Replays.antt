-- What the replays of these schedules say: the labels, worked out by hand, each with its actor.
use Rattle.std.specs.Prelude.{◌≡◌, ℕ, List, [], ◌∷◌}
use Rattle.smm_base.specs.declared.kinds.HandlerType.TheVariants.{Root}
use Rattle.smm_base.specs.declared.kinds.MapKind.TheVariants.{Intel64}
use Rattle.smm_base.specs.declared.kinds.After.TheVariants.{Next}
use Rattle.smm_base.specs.declared.status.Status.TheVariants.{Success, NotFound}
use Rattle.save_state_map.specs.Images.{ImageContents}
use Rattle.cpu_regs.specs.Registers.{Registers}
use Rattle.cpu_regs.specs.Entering.{saved, after}
use Rattle.cpu_table.specs.Causes.{no_cause}
use Rattle.cpu_table.specs.Data.{SetupData}
use Rattle.sync_words.specs.declared.label.Label.{Label}
use Rattle.sync_words.specs.declared.label.Label.TheVariants as say
use Rattle.sync_words.specs.declared.label.StartRefusal.TheVariants.{Busy}
use Rattle.rendezvous_core.specs.Worlds.{replay_events, labels}
use Rattle.replay_rows.specs.Schedules.{schedule_of}

-- what a processor has: its registers, and the image on its desk
abbrev pub Held : Type 0
Held = Registers × ImageContents

-- with these registers and an Intel 64 image of these bytes
abbrev pub begun : Registers × List ℕ → Held
begun x = (x.0, record { kind = Intel64; bytes = x.1 })

-- Whatever registers, and whatever bytes in their images, two processors begin with, the replay of a schedule says this.
unfoldable pub Says : SetupData → List (ℕ × ℕ) → (Held → Held → List (ℕ × Label)) → Type 0
Says d items said =
    (x y : Registers × List ℕ) →
    labels (replay_events d (x.0 ∷ y.0 ∷ []) ((begun x).1 ∷ (begun y).1 ∷ []) (schedule_of items)) ≡ said (begun x) (begun y)

-- a label but for the way in which a processor resumes, which its image tells
abbrev pub without_way : Label → Label
without_way (say.Resume way) = say.Resume Next
without_way l = l

abbrev pub without_ways : List (ℕ × Label) → List (ℕ × Label)
without_ways [] = []
without_ways (x ∷ said) = (x.0, without_way x.1) ∷ without_ways said

-- the same, but for the ways in which processors resume
unfoldable pub SaysInEssence : SetupData → List (ℕ × ℕ) → List (ℕ × Label) → Type 0
SaysInEssence d items said =
    (x y : Registers × List ℕ) →
    without_ways (labels (replay_events d (x.0 ∷ y.0 ∷ []) ((begun x).1 ∷ (begun y).1 ∷ []) (schedule_of items))) ≡ said

-- it resumes from the image into which it saved its registers, for no cause but the interrupt
abbrev pub resumes : Held → Label
resumes p = say.Resume (after (saved p.0 no_cause p.1))

abbrev pub late_labels : Held → Held → List (ℕ × Label)
late_labels p q =
    (2, say.Excepted 0) ∷ (2, say.Wave 1) ∷
    (0, say.Enter) ∷ (0, say.Arrive) ∷ (0, say.Elect) ∷ (0, say.Served 1) ∷
    (0, say.Gather 0) ∷ (0, say.Expire 1) ∷ (0, say.Expire 2) ∷ (0, say.Close 1) ∷
    (1, say.Enter) ∷ (1, say.Late) ∷
    (0, say.Begin 1) ∷ (0, say.Manage Root) ∷ (0, say.Answer NotFound) ∷ (0, say.Done) ∷
    (0, say.End) ∷ (0, resumes p) ∷ (1, resumes q) ∷
    (0, say.Off) ∷ (1, say.Off) ∷ []

abbrev pub gives_up_labels : List (ℕ × Label)
gives_up_labels =
    (2, say.Excepted 0) ∷ (2, say.Wave 1) ∷
    (0, say.Enter) ∷ (0, say.Arrive) ∷ (0, say.Elect) ∷ (1, say.Enter) ∷ (1, say.Arrive) ∷ (0, say.Served 1) ∷
    (0, say.Gather 0) ∷ (0, say.Ready 2) ∷ (0, say.Close 2) ∷ (1, say.Report) ∷
    (0, say.Begin 1) ∷ (0, say.Manage Root) ∷ (0, say.Answer NotFound) ∷ (0, say.Done) ∷
    (0, say.Release 1) ∷ (1, say.Depart) ∷ (0, say.End) ∷ (0, say.Resume Next) ∷
    (0, say.Enter) ∷ (0, say.Turn) ∷ (0, say.Resume Next) ∷ (1, say.Resume Next) ∷
    (0, say.Off) ∷ (1, say.Off) ∷ []

abbrev pub slow_labels : List (ℕ × Label)
slow_labels =
    (2, say.Excepted 0) ∷ (2, say.Wave 1) ∷
    (0, say.Enter) ∷ (0, say.Arrive) ∷ (0, say.Elect) ∷ (1, say.Enter) ∷ (1, say.Arrive) ∷ (0, say.Served 1) ∷
    (0, say.Gather 0) ∷ (0, say.Ready 2) ∷ (0, say.Close 2) ∷ (1, say.Report) ∷
    (0, say.Begin 1) ∷ (0, say.Manage Root) ∷ (0, say.Answer NotFound) ∷ (0, say.Done) ∷
    (0, say.Release 1) ∷ (1, say.Depart) ∷ (0, say.End) ∷ (0, say.Resume Next) ∷
    (2, say.Excepted 0) ∷ (2, say.Wave 2) ∷
    (0, say.Enter) ∷ (0, say.Arrive) ∷ (0, say.Elect) ∷ (0, say.Served 2) ∷
    (0, say.Gather 0) ∷ (0, say.Expire 1) ∷ (0, say.Expire 2) ∷ (0, say.Close 1) ∷
    (0, say.Begin 2) ∷ (0, say.Manage Root) ∷ (0, say.Answer NotFound) ∷ (0, say.Done) ∷
    (0, say.End) ∷ (0, say.Resume Next) ∷ (1, say.Resume Next) ∷
    (1, say.Enter) ∷ (1, say.Turn) ∷ (1, say.Resume Next) ∷
    (0, say.Off) ∷ (1, say.Off) ∷ []

abbrev pub signalled_labels : Held → Held → List (ℕ × Label)
signalled_labels p q =
    (2, say.Excepted 0) ∷ (2, say.Wave 1) ∷
    (1, say.Enter) ∷ (1, say.Arrive) ∷ (0, say.Enter) ∷ (0, say.Arrive) ∷ (0, say.Elect) ∷ (1, say.Report) ∷ []

abbrev pub in_vain_labels : Held → Held → List (ℕ × Label)
in_vain_labels p q =
    (2, say.Excepted 0) ∷ (2, say.Wave 1) ∷
    (1, say.Enter) ∷ (1, say.Arrive) ∷ (1, say.Quit) ∷ (1, resumes q) ∷
    (0, say.Off) ∷ (1, say.Off) ∷ []

abbrev pub busy_labels : List (ℕ × Label)
busy_labels =
    (2, say.Excepted 0) ∷ (2, say.Wave 1) ∷
    (0, say.Enter) ∷ (0, say.Arrive) ∷ (0, say.Elect) ∷ (1, say.Enter) ∷ (1, say.Arrive) ∷ (0, say.Served 1) ∷
    (0, say.Gather 0) ∷ (0, say.Ready 2) ∷ (0, say.Close 2) ∷ (1, say.Report) ∷
    (0, say.Begin 1) ∷ (0, say.Manage Root) ∷ (0, say.Call 0) ∷
    (0, say.Start 1 1 0 0) ∷ (0, say.Refuse 1 Busy) ∷ (1, say.Run 1 0 Success) ∷ (0, say.Collect 1) ∷
    (0, say.Wait 1 0 Success) ∷ (0, say.Start 1 2 0 0) ∷ []

-- Replays of a platform that can be finished.
use Rattle.std.specs.Prelude.{◌≡◌, ◌≤◌, ℕ, List, length}
use Rattle.save_state_map.specs.Images.{ImageContents}
use Rattle.cpu_regs.specs.Registers.{Registers}
use Rattle.cpu_table.specs.Data.{SetupData, data_of}
use Rattle.cpu_table.specs.declared.setup.Setup.{Setup}
use Rattle.rendezvous_core.specs.Finishes.{IsReplayOf}
use Rattle.rendezvous_core.specs.Starts.{AreImagesOf}
use Rattle.rendezvous_core.specs.Worlds.{Replay, replay_events}

-- no schedule of the platform makes more events
abbrev pub AreAtMost : SetupData → List Registers → List ImageContents → ℕ → Type 0
AreAtMost d registers images most = (schedule : List ℕ) → length (replay_events d registers images schedule) ≤ most

-- some schedule leads there, from registers and an image for each processor of the platform
pub record IsReached (setup : Setup) (r : Replay) : Type 0 where
  pub processors : r.processors ≡ setup.processors
  pub registers : List Registers
  pub images : List ImageContents
  pub schedule : List ℕ
  pub registers_count : length registers ≡ setup.processors
  pub images_fit : AreImagesOf (data_of setup) images
  pub replay : IsReplayOf (data_of setup) registers images schedule r

-- That each processor of a world is one of the platform.
use Rattle.std.specs.Prelude.{ℕ, ◌≡◌, ◌<◌, List, length, slice_get, IsSomeAnd}
use Rattle.save_state_map.specs.Images.{ImageContents}
use Rattle.cpu_regs.specs.Registers.{Registers}
use Rattle.cpu_table.specs.Data.{SetupData}
use Rattle.cpu_program.specs.Platforms.{IsProcessorOf, FitsPlatform}
use Rattle.rendezvous_core.specs.Worlds.{World, replay_world}

-- actor i is a processor of this platform
abbrev pub HasProcessorOf : SetupData → World → ℕ → Type 0
HasProcessorOf d w i = IsSomeAnd (slice_get w.actors i) (IsProcessorOf d)

-- the image of actor i is of its platform's kind
abbrev pub HasFittingImage : World → ℕ → Type 0
HasFittingImage w i = IsSomeAnd (slice_get w.actors i) FitsPlatform

-- after every schedule each processor is still one of the platform
abbrev pub KeepsPlatform : Type 0
KeepsPlatform =
    (d : SetupData) (registers : List Registers) (images : List ImageContents) (schedule : List ℕ) (i : ℕ) →
    length images ≡ length registers → i < length registers → HasProcessorOf d (replay_world d registers images schedule) i

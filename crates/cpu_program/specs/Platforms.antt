-- Of which platform an actor is, and of which kind its image.
use Rattle.std.specs.Prelude.{◌≡◌}
use Rattle.cpu_table.specs.Data.{SetupData}
use Rattle.cpu_program.specs.Actors.{Actor, OfProcessor, OfChipset}

-- a processor of this platform
abbrev pub IsProcessorOf : SetupData → Actor → Type 0
IsProcessorOf d (OfProcessor p) = p.setup ≡ d
IsProcessorOf d (OfChipset c) = ⊥

-- the image that a processor last resumed from, or its first, is of its platform's kind
abbrev pub FitsPlatform : Actor → Type 0
FitsPlatform (OfProcessor p) = p.last.kind ≡ p.setup.kind
FitsPlatform (OfChipset c) = Unit {0}

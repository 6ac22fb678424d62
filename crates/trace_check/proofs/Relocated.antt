-- The registers of a start: as many as the processors, and of the platform's kind.
use Rattle.std.proofs.Common.{◌≡◌, List, length}
use Rattle.std.specs.Prelude.{All}
use Rattle.save_state_map.specs.Images.{ImageContents}
use Rattle.cpu_regs.specs.Registers.{Registers}
use Rattle.cpu_table.specs.Data.{SetupData}
use Rattle.rendezvous_core.specs.Starts.{AreImagesOf, first_registers}
use Rattle.rendezvous_core.proofs.StartLemmas.{first_are}

pub count : (d : SetupData) (images : List ImageContents) (rs : List Registers) → AreImagesOf d images → rs ≡ first_registers d images → length rs ≡ d.processors
count d images rs h e = (first_are d images rs h e).count

pub kinds : (d : SetupData) (images : List ImageContents) (rs : List Registers) → AreImagesOf d images → rs ≡ first_registers d images → All (λ one. one.kind ≡ d.kind) rs
kinds d images rs h e = (first_are d images rs h e).kind

-- What an actor keeps, and where it stands.
use Rattle.std.specs.Prelude.{ℕ, List, Option}
use Rattle.save_state_map.specs.Images.{ImageContents}
use Rattle.cpu_regs.specs.Registers.{Registers}
use Rattle.cpu_table.specs.Data.{SetupData}
use Rattle.handler_ops.specs.declared.desk.Desk.{Desk}
use Rattle.handler_ops.specs.declared.desk.Job.{Job}
use Rattle.handler_ops.specs.Sessions.{Session}
use Rattle.chipset.specs.Chipsets.{Chipset}
pub use Rattle.cpu_program.specs.declared.cargo.Cargo.{Cargo}
pub use Rattle.cpu_program.specs.declared.part.Part.{Part}
pub use Rattle.cpu_program.specs.declared.part.Part.TheVariants.{Between, Entering, Gathering, Closing, Serving, Exiting, Reporting, Off}

-- A processor. Its image and its job are on its desk, which changes hands; all else stays with it.
pub record Processor : Type 0 where
  pub setup : SetupData
  pub me : ℕ  -- its own number
  pub part : Part
  pub visits : ℕ  -- how many it has begun
  pub wave : ℕ  -- as the BSP, the wave that it serves
  pub bsp : ℕ  -- as an AP, to whom it reports
  pub registers : Registers
  pub last : ImageContents  -- the image that it last resumed from, or its first
  pub held : List (Option Desk)  -- the desks that it holds, its own among them, one item for each processor
  pub chair : Option Session  -- the state of serving, where it has the chair
  pub ran : Option Job  -- the job that it ran, until its event tells of it

pub data Actor : Type 0 where
  OfProcessor : Processor → Actor
  OfChipset : Chipset → Actor

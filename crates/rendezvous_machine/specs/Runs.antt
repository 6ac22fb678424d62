-- Runs: lists of actors and labels in which each label's rule holds in the state that the labels before it leave.
use Rattle.std.specs.Prelude.{ℕ, ◌+◌, ◌==◌, if◌then◌else◌, List, [], ◌∷◌, Option, Some, None}
use Rattle.save_state_map.specs.Images.{ImageContents}
use Rattle.cpu_regs.specs.Registers.{Registers, loaded}
use Rattle.cpu_regs.specs.Entering.{saved}
use Rattle.cpu_table.specs.Data.{SetupData}
use Rattle.cpu_table.specs.Causes.{cause_of}
use Rattle.sync_words.specs.declared.label.Label.{Label}
use Rattle.sync_words.specs.declared.label.Label.TheVariants as say
use Rattle.handler_ops.specs.declared.desk.Job.{Job}
use Rattle.rendezvous_machine.specs.Machines.{Machine}
use Rattle.rendezvous_machine.specs.Rules.{Rule}
use Rattle.rendezvous_machine.specs.Services.{written}
use Rattle.rendezvous_machine.specs.Effects.{effect, image_run, given}

-- an actor says a label
abbrev pub Said : Type 0
Said = ℕ × Label

abbrev pub IsRun : SetupData → Machine → List Said → Type 0
IsRun d m [] = Unit {0}
IsRun d m (e ∷ es) = Rule d m e.0 e.1 × IsRun d (effect d m e.0 e.1) es

-- the machine after the labels
abbrev pub machine_after : SetupData → Machine → List Said → Machine
machine_after d m [] = m
machine_after d m (e ∷ es) = machine_after d (effect d m e.0 e.1) es

-- What the labels alone tell of a processor's images: entering saves the registers into the image with the cause of the
-- visit; a write with SUCCESS that names the processor, and a job of its own that writes a register, change it; and
-- resuming loads the registers from it.
pub record Resumed : Type 0 where
  pub visits : ℕ
  pub registers : Registers
  pub image : ImageContents
  pub last : ImageContents
  pub job : Option Job

abbrev pub own_entry : SetupData → ℕ → Resumed → Resumed
own_entry d i x = record x { visits = x.visits + 1; image = saved x.registers (cause_of d.causes i (x.visits + 1)) x.image }

-- what it says itself
abbrev pub by_own : SetupData → ℕ → Label → Resumed → Resumed
by_own d i say.Enter x = own_entry d i x
by_own d i (say.Run j result S) x = record x { image = image_run d x.job x.image }
by_own d i (say.Resume how) x = record x { registers = loaded x.image; last = x.image }
by_own d i _ x = x

-- what is said of it, and what it says itself
abbrev pub resumed_by : SetupData → ℕ → ℕ → Label → Resumed → Resumed
resumed_by d i actor (say.Write c register width value S) x =
    if c == i then record x { image = written S register width value x.image } else x
resumed_by d i actor (say.Start c j p a) x = if c == i then record x { job = Some (given j p a) } else x
resumed_by d i actor l x = if actor == i then by_own d i l x else x

abbrev pub resumed_after : SetupData → ℕ → Resumed → List Said → Resumed
resumed_after d i x [] = x
resumed_after d i x (e ∷ es) = resumed_after d i (resumed_by d i e.0 e.1 x) es

-- the image that a processor last resumed from, or its first one
abbrev pub resumed_image : SetupData → ℕ → Registers → ImageContents → List Said → ImageContents
resumed_image d i registers image es =
    (resumed_after d i (record { visits = 0; registers = registers; image = image; last = image; job = None }) es).last

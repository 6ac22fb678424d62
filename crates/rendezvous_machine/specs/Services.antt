-- What a read or a write of a processor's saved registers tells the boot processor.
use Rattle.std.specs.Prelude.{◌≡◌, ℕ, ◌==◌, nat_lt, not, Bool, true, if◌then◌else◌, Option, Some, None}
use Rattle.smm_base.specs.declared.registers.Register.{Register}
use Rattle.smm_base.specs.declared.status.Status.{Status}
use Rattle.smm_base.specs.declared.status.Status.TheVariants.{Success, InvalidParameter, NotReady}
use Rattle.smm_base.specs.Register.{register_number}
use Rattle.save_state_map.specs.Images.{ImageContents}
use Rattle.save_state_access.specs.Reading.{ReadAnswer}
use Rattle.save_state_access.specs.Writing.{WriteAnswer}
use Rattle.cpu_table.specs.Data.{SetupData}
use Rattle.handler_ops.specs.declared.desk.Job.{Job}
use Rattle.serving_place.specs.Beginning.{program_of}
use Rattle.serving_place.specs.Setting.{Setting}
use Rattle.handler_ops.specs.Course.{read_of, write_of, shown_value}
use Rattle.rendezvous_machine.specs.Machines.{Machine, member, is_here}

-- What the boot processor reaches: no processor; one whose job is open, or is finished and not collected; or the image
-- of a processor, which is present or not.
pub data Target : Type 0 where
  NoProcessor : Target
  JobOpen : Target
  JobFinished : Target
  Image : Bool → Target

abbrev pub by_answer : Option (ℕ × Status) → Target
by_answer None = JobOpen
by_answer (Some answer) = JobFinished

abbrev pub by_job : Option Job → Bool → Target
by_job None present = Image present
by_job (Some job) present = by_answer job.done

-- the boot processor itself is present, and so is one that has reported
abbrev pub target : SetupData → Machine → ℕ → ℕ → Target
target d m bsp c =
    if not (nat_lt c d.processors) then NoProcessor
    else (if c == bsp then Image true else by_job (member m c).job (is_here (member m c).phase))

-- A read shows the answer of the save-state service on the image, or 0 with the status of the refusal; a job that is finished
-- is collected first.
abbrev pub ReadShows : Target → (Bool → ReadAnswer) → ℕ → Status → Type 0
ReadShows NoProcessor answer x S = (x ≡ 0) × (S ≡ InvalidParameter)
ReadShows JobOpen answer x S = (x ≡ 0) × (S ≡ NotReady)
ReadShows JobFinished answer x S = ⊥
ReadShows (Image present) answer x S = (x ≡ shown_value (answer present)) × (S ≡ (answer present).status)

-- a write likewise; its label shows the value that was to be written
abbrev pub WriteShows : Target → (Bool → WriteAnswer) → Status → Type 0
WriteShows NoProcessor answer S = S ≡ InvalidParameter
WriteShows JobOpen answer S = S ≡ NotReady
WriteShows JobFinished answer S = ⊥
WriteShows (Image present) answer S = S ≡ (answer present).status

-- what stays while a boot processor serves
abbrev pub setting : SetupData → ℕ → Setting
setting d bsp = record { program = program_of d; ids = d.ids; processors = d.processors; me = bsp }

abbrev pub Reads : SetupData → Machine → ℕ → ℕ → Register → ℕ → ℕ → Status → Type 0
Reads d m bsp c register width x S =
    ReadShows (target d m bsp c) (λ present. read_of (setting d bsp) present (member m c).image c (register_number register) width) x S

abbrev pub Writes : SetupData → Machine → ℕ → ℕ → Register → ℕ → ℕ → Status → Type 0
Writes d m bsp c register width x S =
    WriteShows (target d m bsp c) (λ present. write_of present (member m c).image (register_number register) width x) S

-- the image after a write with this status: only SUCCESS changes it
abbrev pub written : Status → Register → ℕ → ℕ → ImageContents → ImageContents
written Success register width x image = (write_of true image (register_number register) width x).image
written _ register width x image = image

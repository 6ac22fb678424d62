-- What the processors of a setup begin with.
use Rattle.std.specs.Prelude.{◌≡◌, ℕ, List, length, map, Option, Some, None, All}
use Rattle.std.specs.List.{enumerate_from}
use Rattle.save_state_map.specs.Images.{ImageContents}
use Rattle.cpu_regs.specs.Registers.{Registers, loaded}
use Rattle.cpu_table.specs.Data.{SetupData}
use Rattle.cpu_table.specs.declared.setup.Smram.{Smram}
use Rattle.smbase_reloc.specs.Areas.{smbase_of}
use Rattle.smbase_reloc.specs.Relocation.{relocation_refusal, with_smbase}
use Rattle.smbase_reloc.specs.declared.error.RelocError.{RelocError}
use Rattle.smbase_reloc.specs.declared.error.RelocError.TheVariants as reloc
use Rattle.rendezvous_core.specs.declared.error.WorldError.{WorldError}
use Rattle.rendezvous_core.specs.declared.error.WorldError.TheVariants.{NoRelocation, NotDefault, NoMemory}

-- there is an image for each processor, of the setup's kind
pub record AreImagesOf (setup : SetupData) (images : List ImageContents) : Type 0 where
  pub count : length images ≡ setup.processors
  pub kind : All (λ image. image.kind ≡ setup.kind) images

-- registers of processor i, with the SMBASE of its place where there is an area
abbrev pub placed_in : Option Smram → ℕ → Registers → Registers
placed_in None i registers = registers
placed_in (Some area) i registers = with_smbase (smbase_of area i) registers

-- the registers that processor i begins with: those that its image holds, relocated where the setup has an area
abbrev pub first_registers_of : SetupData → ℕ → ImageContents → Registers
first_registers_of setup i image = placed_in setup.smram i (loaded image)

-- those of all processors, by their images
abbrev pub first_registers : SetupData → List ImageContents → List Registers
first_registers setup images = map (λ x. first_registers_of setup x.0 x.1) (enumerate_from 0 images)

-- why the processors are not relocated, where there is an area and one of them may not be
abbrev pub refused_in : Option Smram → List Registers → Option RelocError
refused_in None all = None
refused_in (Some area) all = relocation_refusal all

abbrev pub start_refusal : SetupData → List ImageContents → Option RelocError
start_refusal setup images = refused_in setup.smram (map loaded images)

-- when a start may be refused: a refused relocation comes before want of memory
abbrev pub IsRefusedBy : Option RelocError → WorldError → Type 0
IsRefusedBy found (NoRelocation i) = found ≡ Some (reloc.NoRelocation i)
IsRefusedBy found (NotDefault i) = found ≡ Some (reloc.NotDefault i)
IsRefusedBy found NoMemory = found ≡ None

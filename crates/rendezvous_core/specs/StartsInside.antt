-- The refusal of a relocation, processor by processor, and what the registers of a start keep.
use Rattle.std.specs.Prelude.{ℕ, ◌≡◌, ◌+◌, if◌then◌else◌, List, [], ◌∷◌, length, Option, Some, None, All}
use Rattle.cpu_regs.specs.Registers.{Registers}
use Rattle.cpu_table.specs.Data.{SetupData}
use Rattle.smbase_reloc.specs.Relocation.{is_fixed, refusal_of}
use Rattle.smbase_reloc.specs.declared.error.RelocError.{RelocError}
use Rattle.smbase_reloc.specs.declared.error.RelocError.TheVariants.{NoRelocation, NotDefault}

-- a refusal with another processor's number
abbrev pub numbered : ℕ → RelocError → RelocError
numbered i (NoRelocation j) = NoRelocation i
numbered i (NotDefault j) = NotDefault i

-- why processor i may not be relocated
abbrev pub refusal_one : ℕ → Registers → Option RelocError
refusal_one i registers = if is_fixed registers then Some (refusal_of i registers) else None

abbrev pub or_else : Option RelocError → Option RelocError → Option RelocError
or_else None later = later
or_else (Some error) later = Some error

-- the first refusal of the processors from i on
abbrev pub refusal_from : ℕ → List Registers → Option RelocError
refusal_from i [] = None
refusal_from i (registers ∷ rest) = or_else (refusal_one i registers) (refusal_from (i + 1) rest)

-- there are registers for each processor, of the setup's kind
pub record AreRegistersOf (setup : SetupData) (registers : List Registers) : Type 0 where
  pub count : length registers ≡ setup.processors
  pub kind : All (λ one. one.kind ≡ setup.kind) registers

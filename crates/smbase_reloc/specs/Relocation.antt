-- Relocation: each processor's SMBASE is replaced by that of the layout.
use Rattle.std.specs.Prelude.{◌≡◌, ℕ, ◌/◌, ◌%◌, ◌^◌, ◌==◌, ◌<◌, Bool, true, false, ◌&&◌, not, if◌then◌else◌, List, map, position, slice_get, slice_set, Option, Some, None, option_map, unwrap_or, IsSomeAnd, All}
use Rattle.std.specs.List.{enumerate_from}
use Rattle.save_state_map.specs.declared.field.Field.TheVariants.{Revision, Smbase}
use Rattle.save_state_map.specs.Fields.{field_index}
use Rattle.cpu_table.specs.declared.setup.Smram.{Smram}
use Rattle.cpu_regs.specs.Registers.{Registers, register_of}
use Rattle.smbase_reloc.specs.Areas.{smbase_of}
use Rattle.smbase_reloc.specs.declared.error.RelocError.{RelocError}
use Rattle.smbase_reloc.specs.declared.error.RelocError.TheVariants.{NoRelocation, NotDefault}

-- SMBASE can be relocated: bit 17 of the revision (Intel SDM Volume 3, System Management Mode, SMBASE relocation)
abbrev pub can_relocate : Registers → Bool
can_relocate registers = unwrap_or (register_of registers Revision) 0 / 2 ^ 17 % 2 == 1

-- SMBASE is as a reset leaves it
abbrev pub is_at_default : Registers → Bool
is_at_default registers = unwrap_or (register_of registers Smbase) 0 == 0x30000

-- the processor may not be relocated
abbrev pub is_fixed : Registers → Bool
is_fixed registers = not (can_relocate registers && is_at_default registers)

-- why processor i, which may not be relocated, is not
abbrev pub refusal_of : ℕ → Registers → RelocError
refusal_of i registers = if can_relocate registers then NotDefault i else NoRelocation i

abbrev pub refusal_at : List Registers → Option ℕ → Option RelocError
refusal_at all None = None
refusal_at all (Some i) = option_map (refusal_of i) (slice_get all i)

-- why no processor is relocated: the first that may not be
abbrev pub relocation_refusal : List Registers → Option RelocError
relocation_refusal all = refusal_at all (position is_fixed all)

-- the registers with another SMBASE
abbrev pub with_smbase : ℕ → Registers → Registers
with_smbase smbase registers = record { kind = registers.kind; numbers = slice_set registers.numbers (field_index Smbase) smbase }

-- every processor's registers with the SMBASE of its place in the area
abbrev pub relocated : Smram → List Registers → List Registers
relocated area all = map (λ entry. with_smbase (smbase_of area entry.0) entry.1) (enumerate_from 0 all)

-- the processor with this number can be relocated (it is asked only of those that there are)
abbrev pub CanRelocate : List Registers → ℕ → Bool → Type 0
CanRelocate all i answer = IsSomeAnd (slice_get all i) (λ registers. can_relocate registers ≡ answer)

-- every processor below this one may be relocated, and this one may not
pub record IsFirstFixed (all : List Registers) (i : ℕ) : Type 0 where
  pub fixed : IsSomeAnd (slice_get all i) (λ registers. is_fixed registers ≡ true)
  pub before : (j : ℕ) → j < i → IsSomeAnd (slice_get all j) (λ registers. is_fixed registers ≡ false)

-- when a refusal may come: its number is that of the first processor that may not be relocated, and bit 17 tells which
abbrev pub IsCause : List Registers → RelocError → Type 0
IsCause all (NoRelocation i) = IsFirstFixed all i × CanRelocate all i false
IsCause all (NotDefault i) = IsFirstFixed all i × CanRelocate all i true

-- every processor may be relocated: bit 17 of its revision is 1, and its SMBASE is 30000H
abbrev pub AreRelocatable : List Registers → Type 0
AreRelocatable all = All (λ registers. (can_relocate registers ≡ true) × (is_at_default registers ≡ true)) all

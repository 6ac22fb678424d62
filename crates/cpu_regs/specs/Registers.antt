-- The registers that a processor keeps, as the numbers of the fields of its save-state map.
use Rattle.std.specs.Prelude.{◌≡◌, ℕ, ◌^◌, ◌<◌, Bool, true, false, ◌&&◌, not, if◌then◌else◌, List, map, length, slice_index, Option, Some, None, is_some, unwrap_or}
use Rattle.smm_base.specs.declared.kinds.MapKind.{MapKind}
use Rattle.save_state_map.specs.declared.field.Place.{Place}
use Rattle.save_state_map.specs.declared.field.Field.{Field}
use Rattle.save_state_map.specs.declared.field.Field.TheVariants.{AutoHalt, IoRestart, IoState, IoMemoryAddress}
use Rattle.save_state_map.specs.declared.field.TheConstants.{FIELDS}
use Rattle.save_state_map.specs.Fields.{field_place, field_index}
use Rattle.save_state_map.specs.Images.{ImageContents, field_of}

-- one number for each field, at the field's place in the list of all fields, and 0 for a field that isn't kept
pub record Registers : Type 0 where
  pub kind : MapKind
  pub numbers : List ℕ

-- the fields that tell of the interrupt, and are no registers
abbrev pub is_event_field : Field → Bool
is_event_field AutoHalt = true
is_event_field IoRestart = true
is_event_field IoState = true
is_event_field IoMemoryAddress = true
is_event_field _ = false

-- whether the registers of a map keep a field: the map has it, and it tells of no interrupt
abbrev pub is_kept : MapKind → Field → Bool
is_kept kind field = is_some (field_place kind field) && not (is_event_field field)

-- the number that stands for a field, kept or not
abbrev pub number_of : Registers → Field → ℕ
number_of registers field = slice_index registers.numbers (field_index field)

-- the number of a field that is kept
abbrev pub register_of : Registers → Field → Option ℕ
register_of registers field = if is_kept registers.kind field then Some (number_of registers field) else None

-- what registers are: a number for each field, which fits the field, and is 0 where the field isn't kept
pub record IsRegisters (registers : Registers) : Type 0 where
  pub size : length registers.numbers ≡ length FIELDS
  pub fit : (field : Field) (place : Place) → field_place registers.kind field ≡ Some place → number_of registers field < 256 ^ place.width
  pub others : (field : Field) → is_kept registers.kind field ≡ false → number_of registers field ≡ 0

-- what an image holds for a field: the field's number if it is kept, else 0
abbrev pub kept_number : ImageContents → Field → ℕ
kept_number m field = if is_kept m.kind field then unwrap_or (field_of m field) 0 else 0

-- the registers that an image holds
abbrev pub loaded : ImageContents → Registers
loaded m = record { kind = m.kind; numbers = map (kept_number m) FIELDS }

-- What entering puts into an image, and how a processor goes on after resuming from it.
use Rattle.std.specs.Prelude.{ℕ, ◌+◌, ◌*◌, ◌/◌, ◌%◌, ◌^◌, Bool, ◌&&◌, ◌==◌, if◌then◌else◌, List, [], ◌∷◌, Option, Some, None, unwrap_or, IfSome}
use Rattle.smm_base.specs.declared.kinds.MapKind.{MapKind}
use Rattle.smm_base.specs.declared.kinds.After.{After}
use Rattle.smm_base.specs.declared.kinds.After.TheVariants.{Halt, Next, Retry}
use Rattle.smm_base.specs.declared.kinds.IoCause.{IoCause}
use Rattle.smm_base.specs.declared.kinds.Cause.{Cause}
use Rattle.save_state_map.specs.declared.field.Field.{Field}
use Rattle.save_state_map.specs.declared.field.Field.TheVariants.{AutoHalt, IoRestart, IoState, Revision}
use Rattle.save_state_map.specs.declared.field.TheConstants.{FIELDS}
use Rattle.save_state_map.specs.Fields.{field_place}
use Rattle.save_state_map.specs.Images.{ImageContents, IsOutside, field_of, with_field}
use Rattle.cpu_regs.specs.Registers.{Registers, is_event_field, number_of}

-- the I/O state field (Intel SDM Volume 3, I/O state implementation): bit 0 is 1, the length stands from bit 1 on, the
-- type from bit 4 and the port from bit 16; 0 where the interrupt came at no I/O instruction
abbrev pub io_state : Option IoCause → ℕ
io_state None = 0
io_state (Some io) = 1 + io.length * 2 ^ 1 + io.kind * 2 ^ 4 + io.port * 2 ^ 16

-- what entering writes of the interrupt: Auto HALT, the I/O state, and 0 for I/O restart and the I/O memory address
abbrev pub event_number : Cause → Field → ℕ
event_number cause AutoHalt = if cause.halt then 1 else 0
event_number cause IoState = io_state cause.io
event_number cause _ = 0

-- what entering writes into a field
abbrev pub entered : Registers → Cause → Field → ℕ
entered registers cause field = if is_event_field field then event_number cause field else number_of registers field

-- the image with numbers put into fields
unfoldable pub with_fields : (Field → ℕ) → List Field → ImageContents → ImageContents
with_fields numbers [] m = m
with_fields numbers (field ∷ fields) m = with_fields numbers fields (with_field m field (numbers field))

-- the image that entering leaves: every field of the map is replaced
abbrev pub saved : Registers → Cause → ImageContents → ImageContents
saved registers cause m = with_fields (entered registers cause) FIELDS m

-- a byte that belongs to no field
abbrev pub IsOfNoField : MapKind → ℕ → Type 0
IsOfNoField kind at = (field : Field) → IfSome (field_place kind field) (λ place. IsOutside place at)

-- whether a bit is 1 in a field of an image
abbrev pub is_set_in : ImageContents → Field → ℕ → Bool
is_set_in m field bit = unwrap_or (field_of m field) 0 / 2 ^ bit % 2 == 1

-- a restart of the I/O instruction was asked for: the revision has it, the interrupt came at one, and the word is 00FFH
abbrev pub is_restart : ImageContents → Bool
is_restart m = is_set_in m Revision 16 && is_set_in m IoState 0 && unwrap_or (field_of m IoRestart) 0 == 0xFF

-- how the processor goes on: Auto HALT comes before the I/O restart (this order is the project's own)
abbrev pub after : ImageContents → After
after m = if is_set_in m AutoHalt 0 then Halt else (if is_restart m then Retry else Next)

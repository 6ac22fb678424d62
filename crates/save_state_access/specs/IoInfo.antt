-- What the I/O state of an image says of the instruction that the interrupt came at.
use Rattle.std.specs.Prelude.{ℕ, ◌/◌, ◌%◌, ◌^◌, Bool, ◌&&◌, ◌||◌, ◌==◌, nat_le, if◌then◌else◌, List, [], ◌∷◌, ◌++◌, Option, Some, None, unwrap_or}
use Rattle.smm_base.specs.Kinds.{is_io_length}
use Rattle.byteorder.specs.Endian.{little_bytes}
use Rattle.save_state_map.specs.declared.field.Field.{Field}
use Rattle.save_state_map.specs.declared.field.Field.TheVariants.{IoState, Revision, Rax}
use Rattle.save_state_map.specs.Images.{ImageContents, field_of}
use Rattle.save_state_access.specs.declared.io.IoInfo.{IoInfo}

-- a field's number, or 0 where the map hasn't the field
abbrev pub number_in : ImageContents → Field → ℕ
number_in m field = unwrap_or (field_of m field) 0

-- the bits of the I/O state (Intel SDM Volume 3, I/O state implementation): bit 0, bits 1 to 3, 4 to 7 and 16 to 31
abbrev pub is_io : ImageContents → Bool
is_io m = number_in m IoState % 2 == 1

abbrev pub io_length : ImageContents → ℕ
io_length m = number_in m IoState / 2 % 8

abbrev pub io_type : ImageContents → ℕ
io_type m = number_in m IoState / 16 % 16

abbrev pub io_port : ImageContents → ℕ
io_port m = number_in m IoState / 65536 % 65536

-- IN through DX, or IN immediate
abbrev pub is_input : ℕ → Bool
is_input kind = kind == 1 || kind == 9

-- OUT through DX, or OUT immediate
abbrev pub is_output : ℕ → Bool
is_output kind = kind == 0 || kind == 8

-- the I/O instruction is told of: the revision is at least 30004H, it is one, its length is 1, 2 or 4, and it is no string instruction
abbrev pub is_told : ImageContents → Bool
is_told m = nat_le 0x30004 (number_in m Revision) && is_io m && is_io_length (io_length m) && (is_input (io_type m) || is_output (io_type m))

-- the code of a length: UINT8 0, UINT16 1, UINT32 2 (UEFI PI Specification, Volume 4)
abbrev pub width_code : ℕ → ℕ
width_code length = if length == 1 then 0 else (if length == 2 then 1 else 2)

-- what is told of the I/O instruction: the low bytes of RAX, as many as its length, its port, its length and its direction
-- (INPUT 1, OUTPUT 2)
abbrev pub io_told : ImageContents → Option IoInfo
io_told m =
    if is_told m
    then Some (record { value = number_in m Rax % 256 ^ io_length m; port = io_port m; width = width_code (io_length m); kind = if is_input (io_type m) then 1 else 2 })
    else None

-- the layout of the answer, 24 bytes (this project's own)
abbrev pub io_bytes : IoInfo → List ℕ
io_bytes io = little_bytes 8 io.value ++ little_bytes 2 io.port ++ (0 ∷ 0 ∷ []) ++ little_bytes 4 io.width ++ little_bytes 4 io.kind ++ (0 ∷ 0 ∷ 0 ∷ 0 ∷ [])

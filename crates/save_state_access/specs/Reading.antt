-- The answer to a read of a register: the first case that holds.
use Rattle.std.specs.Prelude.{ℕ, ◌/◌, ◌%◌, ◌^◌, Bool, not, ◌&&◌, ◌==◌, nat_lt, if◌then◌else◌, List, [], ◌∷◌, ◌++◌, length, take, Option, Some, None, is_none, option_map, unwrap_or}
use Rattle.byteorder.specs.Endian.{little_bytes}
use Rattle.smm_base.specs.declared.status.Status.{Status}
use Rattle.smm_base.specs.declared.status.Status.TheVariants.{Success, InvalidParameter, NotFound}
use Rattle.smm_base.specs.declared.registers.Register.TheVariants as registers
use Rattle.smm_base.specs.Register.{register_number}
use Rattle.save_state_map.specs.declared.field.Field.{Field}
use Rattle.save_state_map.specs.declared.field.Field.TheVariants.{Efer}
use Rattle.save_state_map.specs.Fields.{field_place}
use Rattle.save_state_map.specs.Images.{ImageContents, number_at}
use Rattle.save_state_access.specs.declared.table.Parts.{Parts}
use Rattle.save_state_access.specs.declared.table.Parts.TheVariants.{Missing, One, Pair}
use Rattle.save_state_access.specs.Table.{parts_numbered}
use Rattle.save_state_access.specs.IoInfo.{number_in, io_told, io_bytes}

-- the first case whose condition holds, or else the last answer
abbrev pub first_case : {A : Type 0} → List (Bool × A) → A → A
first_case [] answer = answer
first_case (case ∷ cases) answer = if case.0 then case.1 else first_case cases answer

-- the width of a field in bytes and its number, low byte first and in eight bytes
abbrev pub field_bytes : ImageContents → Field → Option (ℕ × List ℕ)
field_bytes m field = option_map (λ place. (place.width, little_bytes 8 (number_at place m.bytes))) (field_place m.kind field)

-- two halves of four bytes, low half first
abbrev pub halves : Option (ℕ × List ℕ) → Option (ℕ × List ℕ) → Option (ℕ × List ℕ)
halves (Some low) (Some high) = Some (8, take 4 low.1 ++ take 4 high.1)
halves _ _ = None

-- a register of an image, if its map has it: its width in bytes, and its bytes in eight, low byte first
abbrev pub register_bytes : ImageContents → Parts → Option (ℕ × List ℕ)
register_bytes m Missing = None
register_bytes m (One field) = field_bytes m field
register_bytes m (Pair low high) = halves (field_bytes m low) (field_bytes m high)

-- the register with a number
abbrev pub register_at : ImageContents → ℕ → Option (ℕ × List ℕ)
register_at m number = register_bytes m (parts_numbered number)

abbrev pub width_at : ImageContents → ℕ → ℕ
width_at m number = (unwrap_or (register_at m number) (0, [])).0

abbrev pub bytes_at : ImageContents → ℕ → List ℕ
bytes_at m number = (unwrap_or (register_at m number) (0, [])).1

-- the LMA byte: 64 where the map has IA32_EFER and bit 10 of it is 1, else 32 (UEFI PI Specification, Volume 4; that this bit tells is
-- this project's own choice)
abbrev pub lma_byte : ImageContents → ℕ
lma_byte m = if number_in m Efer / 2 ^ 10 % 2 == 1 then 64 else 32

-- a read's answer: its status, and what the caller's bytes are then
pub record ReadAnswer : Type 0 where
  pub status : Status
  pub out : List ℕ

-- the cases of a read in their order: an `out` that stays, or bytes that are given
abbrev pub read_answer : ImageContents → Bool → ℕ → ℕ → List ℕ → ReadAnswer
read_answer m present id number out = first_case (
    (width == 0, refused InvalidParameter)
    ∷ (is_id && not present, refused NotFound)
    ∷ (is_id && not (width == 8), refused InvalidParameter)
    ∷ (is_id, given (little_bytes 8 id))
    ∷ (not present, refused InvalidParameter)
    ∷ (is_lma && not (width == 1), refused InvalidParameter)
    ∷ (is_lma, given (lma_byte m ∷ []))
    ∷ (is_io && not (width == 24), refused InvalidParameter)
    ∷ (is_io && is_none (io_told m), refused NotFound)
    ∷ (is_io, given (unwrap_or (option_map io_bytes (io_told m)) []))
    ∷ (is_none (register_at m number), refused NotFound)
    ∷ (nat_lt (width_at m number) width, refused InvalidParameter)
    ∷ []
    ) (given (take width (bytes_at m number)))
  where
    width : ℕ
    width = length out

    is_id : Bool
    is_id = number == register_number registers.ProcessorId

    is_lma : Bool
    is_lma = number == register_number registers.Lma

    is_io : Bool
    is_io = number == register_number registers.Io

    refused : Status → ReadAnswer
    refused status = record { status = status; out = out }

    given : List ℕ → ReadAnswer
    given bytes = record { status = Success; out = bytes }

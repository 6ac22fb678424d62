-- The answer to a write of a register: the first case that holds.
use Rattle.std.specs.Prelude.{ℕ, ◌+◌, ◌%◌, Bool, false, not, ◌&&◌, ◌==◌, nat_lt, List, [], ◌∷◌, ◌++◌, length, take, drop, slice_index, Option, Some, None, is_none}
use Rattle.smm_base.specs.declared.status.Status.{Status}
use Rattle.smm_base.specs.declared.status.Status.TheVariants.{Success, InvalidParameter, NotFound, Unsupported}
use Rattle.smm_base.specs.declared.registers.Register.TheVariants as registers
use Rattle.smm_base.specs.Register.{register_number}
use Rattle.save_state_map.specs.declared.field.Place.{Place}
use Rattle.save_state_map.specs.declared.field.Field.TheVariants.{AutoHalt}
use Rattle.save_state_map.specs.Fields.{field_place, is_writable}
use Rattle.save_state_map.specs.Images.{ImageContents}
use Rattle.save_state_access.specs.declared.table.Parts.{Parts}
use Rattle.save_state_access.specs.declared.table.Parts.TheVariants.{One}
use Rattle.save_state_access.specs.Table.{parts_numbered}
use Rattle.save_state_access.specs.IoInfo.{number_in}
use Rattle.save_state_access.specs.Reading.{first_case, register_at, width_at}

-- a register may be written where its one field may
abbrev pub is_written : Parts → Bool
is_written (One field) = is_writable field
is_written _ = false

-- bytes with others in place of as many from here on, and every other byte as it was
abbrev pub with_bytes : Option Place → List ℕ → List ℕ → List ℕ
with_bytes None new bytes = bytes
with_bytes (Some place) new bytes = take place.offset bytes ++ new ++ drop (place.offset + length new) bytes

-- the image with the low bytes of a register replaced, and every other byte as it was
abbrev pub with_low_bytes : ImageContents → Parts → List ℕ → ImageContents
with_low_bytes m (One field) new = record { kind = m.kind; bytes = with_bytes (field_place m.kind field) new m.bytes }
with_low_bytes m _ new = m

-- the write would turn bit 0 of Auto HALT from 0 to 1
abbrev pub starts_halt : ImageContents → List ℕ → Bool
starts_halt m new = number_in m AutoHalt % 2 == 0 && slice_index new 0 % 2 == 1

-- a write's answer: its status, and what the image is then
pub record WriteAnswer : Type 0 where
  pub status : Status
  pub image : ImageContents

-- the cases of a write in their order: an image that stays, or one with bytes replaced
abbrev pub write_answer : ImageContents → Bool → ℕ → List ℕ → WriteAnswer
write_answer m present number new = first_case (
    (length new == 0, stays InvalidParameter)
    ∷ (number == register_number registers.ProcessorId, stays Success)
    ∷ (not present, stays InvalidParameter)
    ∷ (number == register_number registers.Lma, stays Success)
    ∷ (number == register_number registers.Io, stays NotFound)
    ∷ (is_none (register_at m number), stays NotFound)
    ∷ (not (is_written (parts_numbered number)), stays Unsupported)
    ∷ (nat_lt (width_at m number) (length new), stays InvalidParameter)
    ∷ (number == register_number registers.AutoHalt && starts_halt m new, stays Unsupported)
    ∷ []
    ) (record { status = Success; image = with_low_bytes m (parts_numbered number) new })
  where
    stays : Status → WriteAnswer
    stays status = record { status = status; image = m }

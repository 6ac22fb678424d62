-- How many bytes a register has by itself.
use Rattle.std.specs.Prelude.{ℕ, ◌&&◌, ◌==◌, if◌then◌else◌, Option, Some, None, is_some, option_map, unwrap_or}
use Rattle.smm_base.specs.declared.kinds.MapKind.{MapKind}
use Rattle.smm_base.specs.declared.registers.Register.TheVariants as registers
use Rattle.smm_base.specs.Register.{register_number}
use Rattle.save_state_map.specs.Fields.{field_place}
use Rattle.save_state_access.specs.declared.table.Parts.{Parts}
use Rattle.save_state_access.specs.declared.table.Parts.TheVariants.{Missing, One, Pair}
use Rattle.save_state_access.specs.Table.{parts_numbered}

-- the width of the fields that a register is made of, if the map has each of them
abbrev pub parts_width : MapKind → Parts → Option ℕ
parts_width kind Missing = None
parts_width kind (One field) = option_map (λ place. place.width) (field_place kind field)
parts_width kind (Pair low high) = if is_some (field_place kind low) && is_some (field_place kind high) then Some 8 else None

-- a register's own width: 24 for IO, 1 for LMA, 8 for PROCESSOR_ID, else that of its fields, and 8 where the map
-- hasn't the register (this project's own choice)
abbrev pub own_width : MapKind → ℕ → ℕ
own_width kind number =
    if number == register_number registers.Io then 24
    else (if number == register_number registers.Lma then 1
    else (if number == register_number registers.ProcessorId then 8
    else unwrap_or (parts_width kind (parts_numbered number)) 8))

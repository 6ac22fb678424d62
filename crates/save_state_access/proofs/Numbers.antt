-- The widths of registers.
use Rattle.std.proofs.Common.{◌≡◌, ℕ, ◌&&◌, List, Option, Some, None, option_map, is_some, cond, refl}
use Rattle.byteorder.specs.Endian.{little_bytes}
use Rattle.save_state_map.specs.declared.field.Place.{Place}
use Rattle.save_state_map.specs.Fields.{field_place}
use Rattle.save_state_map.specs.Images.{ImageContents, number_at}
use Rattle.save_state_access.specs.declared.table.Parts.{Parts}
use Rattle.save_state_access.specs.declared.table.Parts.TheVariants.{Missing, One, Pair}
use Rattle.save_state_access.specs.Width.{parts_width}
use Rattle.save_state_access.specs.Reading.{halves, register_bytes}

-- the bytes of a field at a place
abbrev bytes_there : ImageContents → Option Place → Option (ℕ × List ℕ)
bytes_there m o = option_map (λ place. (place.width, little_bytes 8 (number_at place m.bytes))) o

one_width : (m : ImageContents) (o : Option Place) → option_map (λ (r : ℕ × List ℕ). r.0) (bytes_there m o) ≡ option_map (λ place. place.width) o
one_width m None = refl
one_width m (Some place) = refl

pair_width : (m : ImageContents) (o q : Option Place) → option_map (λ (r : ℕ × List ℕ). r.0) (halves (bytes_there m o) (bytes_there m q)) ≡ cond (is_some o && is_some q) (Some 8) None
pair_width m None q = refl
pair_width m (Some low) None = refl
pair_width m (Some low) (Some high) = refl

-- what is found of a register has the width that its map gives it
pub width_of_parts : (m : ImageContents) (parts : Parts) → option_map (λ (r : ℕ × List ℕ). r.0) (register_bytes m parts) ≡ parts_width m.kind parts
width_of_parts m Missing = refl
width_of_parts m (One field) = one_width m (field_place m.kind field)
width_of_parts m (Pair low high) = pair_width m (field_place m.kind low) (field_place m.kind high)

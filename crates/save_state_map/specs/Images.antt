-- Images: the bytes that a processor saves at an SMI, and the numbers of their fields.
use Rattle.std.specs.Prelude.{◌≡◌, ℕ, ◌+◌, ◌^◌, ◌<◌, ◌≤◌, ◌⊎◌, List, ◌++◌, length, take, drop, slice_index, Option, Some, None, option_map, IsSomeAnd}
use Rattle.byteorder.specs.Endian.{little_number, little_bytes}
use Rattle.smm_base.specs.declared.kinds.MapKind.{MapKind}
use Rattle.save_state_map.specs.declared.field.Place.{Place}
use Rattle.save_state_map.specs.declared.field.Field.{Field}
use Rattle.save_state_map.specs.Fields.{field_place, image_length}

-- an image as the map that it follows and the list of its bytes
pub record ImageContents : Type 0 where
  pub kind : MapKind
  pub bytes : List ℕ

-- what an image is: as many bytes as its map says, each below 256
pub record IsImage (m : ImageContents) : Type 0 where
  pub size : length m.bytes ≡ image_length m.kind
  pub each : (i : ℕ) → slice_index m.bytes i < 256

-- the little-endian number at a place
abbrev pub number_at : Place → List ℕ → ℕ
number_at place bytes = little_number place.width (drop place.offset bytes)

-- the bytes with a little-endian number put at a place, and every other byte as it was
abbrev pub with_number_at : Place → ℕ → List ℕ → List ℕ
with_number_at place number bytes = take place.offset bytes ++ little_bytes place.width number ++ drop (place.offset + place.width) bytes

-- the number of a field, if the image's map has it
abbrev pub field_of : ImageContents → Field → Option ℕ
field_of m field = option_map (λ place. number_at place m.bytes) (field_place m.kind field)

-- the bytes with a number put where the field stands, if it stands anywhere
abbrev pub with_number : Option Place → ℕ → List ℕ → List ℕ
with_number None number bytes = bytes
with_number (Some place) number bytes = with_number_at place number bytes

-- the image with a number put into a field, and every other byte as it was; a field that the map hasn't changes nothing
abbrev pub with_field : ImageContents → Field → ℕ → ImageContents
with_field m field number = record { kind = m.kind; bytes = with_number (field_place m.kind field) number m.bytes }

-- the image's map has the field, and the number fits its width
abbrev pub Accepts : ImageContents → Field → ℕ → Type 0
Accepts m field number = IsSomeAnd (field_place m.kind field) (λ place. number < 256 ^ place.width)

-- one of two places ends before the other begins
abbrev pub IsApart : Place → Place → Type 0
IsApart p q = (p.offset + p.width ≤ q.offset) ⊎ (q.offset + q.width ≤ p.offset)

-- a byte that stands before or behind a place
abbrev pub IsOutside : Place → ℕ → Type 0
IsOutside p at = (at < p.offset) ⊎ (p.offset + p.width ≤ at)

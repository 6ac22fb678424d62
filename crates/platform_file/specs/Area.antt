-- The table of the save-state areas.
use Rattle.std.specs.Prelude.{ℕ, pos, ◌+◌, nat_le, if◌then◌else◌, List, [], ◌∷◌, Option, Ok, Err, Some, None}
use Rattle.toml.specs.Data.{Members}
use Rattle.cpu_table.specs.declared.setup.Smram.{Smram as Area}
use Rattle.platform_document.specs.declared.path.TablePlace.TheVariants.{Smram}
use Rattle.platform_document.specs.declared.path.Key.{Key}
use Rattle.platform_document.specs.declared.path.Key.TheVariants as key
use Rattle.cpu_table.specs.declared.layout.LayoutError.{LayoutError}
use Rattle.cpu_table.specs.Layout.{layout_refusal}
use Rattle.platform_document.specs.declared.fault.WalkFault.TheVariants.{Range, Layout}
use Rattle.platform_document.specs.Reading.{Reading, read_then, path_to, greatest, number_at, and_no_other}
use Rattle.platform_file.specs.Head.{smram_at}

-- the size, where the area ends by 4 GiB
abbrev pub size_after : ℕ → ℕ → Reading ℕ
size_after base size = if nat_le (base + size) 4294967296 then Ok size else Err (Range (path_to Smram key.Size) (pos size))

abbrev pub size_at : ℕ → Members → Reading ℕ
size_at base table = read_then (number_at (path_to Smram key.Size) 1 8388608 table) (size_after base)

abbrev pub area_keys : List Key
area_keys = key.Base ∷ key.Size ∷ key.Tile ∷ key.Code ∷ []

abbrev pub area_in : Members → Reading Area
area_in table =
    read_then (number_at (path_to Smram key.Base) 0 greatest table) (λ base.
    read_then (size_at base table) (λ size.
    read_then (number_at (path_to Smram key.Tile) 0 greatest table) (λ tile.
    read_then (number_at (path_to Smram key.Code) 0 greatest table) (λ code.
    and_no_other Smram area_keys table (record { base = base; size = size; tile = tile; code = code })))))

abbrev pub area_of : Option Members → Reading (Option Area)
area_of None = Ok None
area_of (Some table) = read_then (area_in table) (λ area. Ok (Some area))

abbrev pub area_at : Members → Reading (Option Area)
area_at table = read_then (smram_at table) area_of

-- an area is refused for its layout
abbrev pub unless_refused : Option LayoutError → Reading (Unit {0})
unless_refused None = Ok tt
unless_refused (Some error) = Err (Layout error)

-- where the file has an area, it must have room for the areas of so many processors
abbrev pub layout_judged : ℕ → Option Area → Reading (Unit {0})
layout_judged processors None = Ok tt
layout_judged processors (Some area) = unless_refused (layout_refusal area processors)

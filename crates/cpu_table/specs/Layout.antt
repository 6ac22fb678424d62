-- When the processors' areas find room in SMRAM. The rules are the project's own; the numbers are those of
-- the Intel SDM, Volume 3: a processor's entry code starts 8000H above its SMBASE, its save area ends at
-- SMBASE + FFFFH, and 30000H to 3FFFFH is the area of the SMBASE after a reset.
use Rattle.std.specs.Prelude.{ℕ, ◌+◌, ◌-◌, ◌*◌, ◌==◌, ◌||◌, nat_lt, not, if◌then◌else◌, Bool, true, false, Option, Some, None}
use Rattle.cpu_table.specs.declared.layout.LayoutError.{LayoutError}
use Rattle.cpu_table.specs.declared.layout.LayoutError.TheVariants.{BadTile, CodeTooLong, Low, PastEnd}
use Rattle.cpu_table.specs.declared.setup.Smram.{Smram}

-- a distance that two processors' areas may have
abbrev pub is_tile : ℕ → Bool
is_tile tile = tile == 2048 || tile == 4096 || tile == 8192 || tile == 16384 || tile == 32768

-- where the areas of n processors end: 8000H above the entry code of the last one
abbrev pub areas_end : Smram → ℕ → ℕ
areas_end area n = area.base + (n - 1) * area.tile + 32768

-- why there is no room for n processors, by the first cause that holds: the entry code must leave a tile's last
-- 1,024 bytes, where the save state of another processor may lie
abbrev pub layout_refusal : Smram → ℕ → Option LayoutError
layout_refusal area n =
    if not (is_tile area.tile) then Some (BadTile area.tile)
    else if nat_lt (area.tile - 1024) area.code then Some (CodeTooLong area.code)
    else if nat_lt area.base 262144 then Some (Low area.base)
    else if nat_lt (area.base + area.size) (areas_end area n) then Some (PastEnd (areas_end area n))
    else None

-- nothing is refused
abbrev pub is_accepted : Option LayoutError → Bool
is_accepted None = true
is_accepted (Some refusal) = false

-- where there is an area, it has room for n processors
abbrev pub layout_fits : ℕ → Option Smram → Bool
layout_fits n None = true
layout_fits n (Some area) = is_accepted (layout_refusal area n)

-- The pages of a platform's pool: what the layout leaves of the area. The rule is the project's own.
use Rattle.std.specs.Prelude.{ℕ, ◌+◌, ◌-◌, ◌*◌, ◌/◌, Option, Some, None}
use Rattle.cpu_table.specs.Layout.{areas_end}
use Rattle.cpu_table.specs.declared.setup.Smram.{Smram}
use Rattle.smbase_reloc.specs.declared.pool.PoolRange.{PoolRange}

-- the first page that begins at an address or above it, and the pages that end by one
abbrev pub page_from : ℕ → ℕ
page_from address = (address + 4095) / 4096

abbrev pub pages_by : ℕ → ℕ
pages_by address = address / 4096

-- what n processors leave of an area
abbrev pub pool_in : ℕ → Smram → PoolRange
pool_in n area = record { start = page_from (areas_end area n) * 4096; pages = pages_by (area.base + area.size) - page_from (areas_end area n) }

-- the pool of a platform of n processors: no page without an area, and none where no whole page is left
abbrev pub pool_of : ℕ → Option Smram → PoolRange
pool_of n None = record { start = 0; pages = 0 }
pool_of n (Some area) = pool_in n area

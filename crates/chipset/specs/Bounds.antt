-- What the chipset keeps between its events: its wave and the numbers of its row are those of the platform.
use Rattle.std.specs.Prelude.{ℕ, ◌≡◌, ◌<◌, ◌≤◌, ◌+◌, true, length, Option, Some, None}
use Rattle.cpu_table.specs.Data.{SetupData}
use Rattle.cpu_table.specs.Ranges.{waves_fit}
use Rattle.sync_words.specs.declared.row.Row.{Row}
use Rattle.sync_words.specs.declared.row.Row.TheVariants as row
use Rattle.chipset.specs.Chipsets.{Chipset}

-- the ranges of a platform that its actors rest on
pub record IsPlatform (d : SetupData) : Type 0 where
  pub few : (1 ≤ d.processors) × (d.processors ≤ 64)
  pub first : (1 ≤ d.t1) × (d.t1 ≤ 4096)
  pub second : (1 ≤ d.t2) × (d.t2 ≤ 4096)
  pub visits : (1 ≤ d.visits) × (d.visits ≤ 256)
  pub waves : waves_fit d.processors d.visits d.waves ≡ true

-- an interrupt is raised at a processor of the platform, and a look for the wave to be taken is left
abbrev pub IsChipsetRow : Option Row → Chipset → Type 0
IsChipsetRow None c = Unit {0}
IsChipsetRow (Some row.AnnounceBlocked) c = Unit {0}
IsChipsetRow (Some row.AnnounceWave) c = Unit {0}
IsChipsetRow (Some (row.RaiseWave cpu)) c = cpu < c.setup.processors
IsChipsetRow (Some (row.WatchSource looks)) c = looks < c.setup.t1 + c.setup.t2
IsChipsetRow (Some row.AwaitServed) c = Unit {0}
IsChipsetRow (Some (row.RaiseOff cpu)) c = cpu < c.setup.processors
IsChipsetRow (Some _) c = ⊥

-- the wave is one of the platform's
pub record IsChipset (c : Chipset) : Type 0 where
  pub platform : IsPlatform c.setup
  pub first : 1 ≤ c.wave
  pub last : c.wave ≤ length c.setup.waves
  pub row : IsChipsetRow c.row c

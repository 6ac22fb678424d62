-- The layout of an area that has room for its processors.
use Rattle.std.specs.Prelude.{◌≡◌, ℕ, ◌+◌, ◌^◌, ◌≤◌, None}
use Rattle.cpu_table.specs.Layout.{layout_refusal}
use Rattle.cpu_table.specs.declared.setup.Smram.{Smram}

-- what a layout is of: the area, and for how many processors
pub record Places : Type 0 where
  pub area : Smram
  pub processors : ℕ

-- there is room for them, below 4 GiB
pub record HaveRoom (l : Places) : Type 0 where
  pub some : 1 ≤ l.processors
  pub few : l.processors ≤ 64
  pub below : l.area.base + l.area.size ≤ 2 ^ 32
  pub accepted : layout_refusal l.area l.processors ≡ None

-- What the parts of the pool's code stand for together, and what is true of them.
use Rattle.std.specs.Prelude.{◌≡◌, ℕ, ◌*◌, ◌%◌, ◌^◌, ◌<◌, ◌≤◌, Bool, List, Option, length}
use Rattle.smram_pool.specs.Shelf.{Shelf}
use Rattle.smram_pool.specs.Shelves.{lists_of, AreShelves}
use Rattle.smram_pool.specs.State.{PoolState}
use Rattle.smram_pool.specs.Views.{marked, free_from}
use Rattle.smram_pool.specs.Partition.{IsWellFormed}

-- the state of a range from `start` on with these lists, marks of live blocks, flags of free pages and marks of live runs
abbrev pub state_at : ℕ → List Shelf → List (Option ℕ) → List Bool → List (Option ℕ) → PoolState
state_at start lists live free runs =
    record {
      start = start;
      pages = length free;
      blocks = lists_of lists;
      live = marked start 64 live;
      free_pages = free_from start free;
      runs = marked start 4096 runs;
    }

-- the sizes of the parts fit, and the state is well formed
pub record Holds (start : ℕ) (lists : List Shelf) (live : List (Option ℕ)) (free : List Bool) (runs : List (Option ℕ)) : Type 0 where
  pub begins : start % 4096 ≡ 0
  pub low : start < 2 ^ 63
  pub few : length free ≤ 2048
  pub units : length live ≡ 64 * length free
  pub runs_are : length runs ≡ length free
  pub shelves : AreShelves (length free) lists
  pub well_formed : IsWellFormed (state_at start lists live free runs)

-- What is left of the lists and the pages after a place was taken, or where none was.
use Rattle.std.specs.Prelude.{◌≡◌, ℕ, ◌+◌, ◌*◌, ◌≤◌, List, Option, Some, None}
use Rattle.smram_pool.specs.State.{Taken}

abbrev pub place_taken : Option Taken → Option ℕ
place_taken None = None
place_taken (Some t) = Some t.place

abbrev pub blocks_left : List (List ℕ) → Option Taken → List (List ℕ)
blocks_left blocks None = blocks
blocks_left blocks (Some t) = t.blocks

abbrev pub pages_left : List ℕ → Option Taken → List ℕ
pages_left pages None = pages
pages_left pages (Some t) = t.free_pages

-- the place of a run that was taken
abbrev pub run_place : Option (ℕ × List ℕ) → Option ℕ
run_place None = None
run_place (Some r) = Some r.0

abbrev pub run_left : List ℕ → Option (ℕ × List ℕ) → List ℕ
run_left pages None = pages
run_left pages (Some r) = r.1

-- so many pages from a place on lie within a range of pages
abbrev pub IsPage : ℕ → ℕ → ℕ → ℕ → Type 0
IsPage start pages count place = (i : ℕ) × (place ≡ start + 4096 * i) × (i + count ≤ pages)

-- The lists of free blocks together.
use Rattle.std.specs.Prelude.{◌≡◌, ℕ, ◌+◌, ◌*◌, ◌^◌, ◌<◌, List, [], ◌∷◌, length, map, slice_index_or}
use Rattle.smram_pool.specs.Shelf.{Shelf}
use Rattle.smram_pool.specs.State.{block_size}

-- the blocks of each list
abbrev pub lists_of : List Shelf → List (List ℕ)
lists_of shelves = map (λ shelf. shelf.places) shelves

-- a list that isn't there
abbrev pub no_shelf : Shelf
no_shelf = record { places = []; room = 0; size = 0 }

-- a list with a block put to its front
abbrev pub with_front : ℕ → Shelf → Shelf
with_front place shelf = record { places = place ∷ shelf.places; room = shelf.room; size = shelf.size }

-- six lists, each with room for all blocks of its class that so many pages have
pub record AreShelves (pages : ℕ) (shelves : List Shelf) : Type 0 where
  pub six : length shelves ≡ 6
  pub room : (h : ℕ) → h < 6 → (slice_index_or shelves h no_shelf).room ≡ pages * 2 ^ (h + 1)
  pub size : (h : ℕ) → h < 6 → (slice_index_or shelves h no_shelf).size ≡ block_size (h + 1)

-- the lists of a pool in which no block was made yet
abbrev pub empty_shelves : ℕ → List Shelf
empty_shelves pages =
    record { places = []; room = pages * 2; size = 2048 } ∷ record { places = []; room = pages * 4; size = 1024 } ∷ record { places = []; room = pages * 8; size = 512 }
    ∷ record { places = []; room = pages * 16; size = 256 } ∷ record { places = []; room = pages * 32; size = 128 } ∷ record { places = []; room = pages * 64; size = 64 } ∷ []

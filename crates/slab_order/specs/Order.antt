-- The values of a slab in an order of their keys.
use Rattle.std.specs.Prelude.{◌≢◌, ℕ, List, [], ◌∷◌, IsSome, filter_map}
use Rattle.slab.specs.Slab.{Slab, get}

-- the values at these keys
abbrev pub values_at : {T : Type 0} → Slab T → List ℕ → List T
values_at slab keys = filter_map (get slab) keys

-- the key is none of these
abbrev pub IsApart : ℕ → List ℕ → Type 0
IsApart key [] = Unit {0}
IsApart key (other ∷ rest) = (other ≢ key) × IsApart key rest

-- each key has a value, and no key stands twice
abbrev pub IsOrder : {T : Type 0} → Slab T → List ℕ → Type 0
IsOrder slab [] = Unit {0}
IsOrder slab (key ∷ rest) = IsSome (get slab key) × IsApart key rest × IsOrder slab rest

-- A slab of values that each have a number of their own, with the keys by rising number.
use Rattle.std.specs.Prelude.{◌≡◌, ℕ, ◌<◌, ◌≤◌, ◌==◌, Bool, false, not, List, [], ◌∷◌, length}
use Rattle.std.specs.List.{filter}
use Rattle.std.specs.Option.{option_map_or}
use Rattle.slab.specs.Slab.{Slab, get, slab_len}
use Rattle.slab_order.specs.Order.{values_at, IsOrder}

-- the value has this number
abbrev pub is_numbered : {T : Type 0} → (T → ℕ) → ℕ → T → Bool
is_numbered number n value = number value == n

-- the value at this key has this number
abbrev pub is_at : {T : Type 0} → (T → ℕ) → Slab T → ℕ → ℕ → Bool
is_at number slab n key = option_map_or (is_numbered number n) (get slab key) false

-- all values but those with this number
abbrev pub without : {T : Type 0} → (T → ℕ) → ℕ → List T → List T
without number n values = filter (λ value. not (is_numbered number n value)) values

-- the numbers rise, from above the first bound to at most the second
abbrev pub IsRisingBy : {T : Type 0} → (T → ℕ) → ℕ → ℕ → List T → Type 0
IsRisingBy number above last [] = Unit {0}
IsRisingBy number above last (value ∷ rest) = (above < number value) × (number value ≤ last) × IsRisingBy number (number value) last rest

-- the order has the key of each value once, by rising number up to the last; these are at most so many, and the slab and the order have room for as many
pub record IsOrderedBy {T : Type 0} (number : T → ℕ) (slab : Slab T) (order : List ℕ) (most room last : ℕ) : Type 0 where
  pub ordered : IsOrder slab order
  pub counted : slab_len slab ≡ length order
  pub few : length order ≤ most
  pub slab_room : most ≤ slab.capacity
  pub order_room : most ≤ room
  pub rising : IsRisingBy number 0 last (values_at slab order)

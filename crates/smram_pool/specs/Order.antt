-- The order of a pool's lists.
use Rattle.std.specs.Prelude.{ℕ, suc, ◌≤◌, List, [], ◌∷◌, map}
use Rattle.smram_pool.specs.State.{PoolState}

-- each place is at least this number and above the places before it
abbrev pub RisesFrom : ℕ → List ℕ → Type 0
RisesFrom low [] = Unit {0}
RisesFrom low (place ∷ rest) = (low ≤ place) × RisesFrom (suc place) rest

-- live blocks, free pages and live runs stand by rising place, and no place twice
pub record IsInOrder (s : PoolState) : Type 0 where
  pub live : RisesFrom 0 (map (λ e. e.0) s.live)
  pub free_pages : RisesFrom 0 s.free_pages
  pub runs : RisesFrom 0 (map (λ e. e.0) s.runs)

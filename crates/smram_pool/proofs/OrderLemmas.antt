-- What arrays stand for is in order.
use Rattle.std.proofs.Common.{ℕ, suc, ◌+◌, ◌<◌, ◌≤◌, Bool, true, false, List, [], ◌∷◌, map, Option, Some, None, arith}
use Rattle.smram_pool.specs.Order.{RisesFrom, IsInOrder}
use Rattle.smram_pool.specs.Shelf.{Shelf}
use Rattle.smram_pool.specs.Together.{state_at}
use Rattle.smram_pool.specs.Views.{marked, free_from}

rises_free : (low place : ℕ) (flags : List Bool) → low ≤ place → RisesFrom low (free_from place flags)
rises_free low place [] h = tt
rises_free low place (false ∷ flags) h = rises_free low (place + 4096) flags (omega arith)
rises_free low place (true ∷ flags) h = (h, rises_free (suc place) (place + 4096) flags (omega arith))

rises_marked : (low place apart : ℕ) (marks : List (Option ℕ)) → 0 < apart → low ≤ place → RisesFrom low (map (λ e. e.0) (marked place apart marks))
rises_marked low place apart [] p h = tt
rises_marked low place apart (None ∷ marks) p h = rises_marked low (place + apart) apart marks p (omega arith)
rises_marked low place apart (Some a ∷ marks) p h = (h, rises_marked (suc place) (place + apart) apart marks p (omega arith))

pub in_order : (start : ℕ) (lists : List Shelf) (live : List (Option ℕ)) (free : List Bool) (runs : List (Option ℕ)) → IsInOrder (state_at start lists live free runs)
in_order start lists live free runs =
    record {
      live = rises_marked 0 start 64 live (omega arith) (omega arith);
      free_pages = rises_free 0 start free (omega arith);
      runs = rises_marked 0 start 4096 runs (omega arith) (omega arith);
    }

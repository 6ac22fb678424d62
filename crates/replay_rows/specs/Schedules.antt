-- Schedules as they are written: an actor, and how many times it comes. The actors are the processors 0 and 1, and the chipset 2.
use Rattle.std.specs.Prelude.{ℕ, suc, zero, List, [], ◌∷◌}

-- an actor that comes so many times, and then the rest
abbrev pub times : ℕ → ℕ → List ℕ → List ℕ
times actor zero rest = rest
times actor (suc n) rest = actor ∷ times actor n rest

abbrev pub schedule_of : List (ℕ × ℕ) → List ℕ
schedule_of [] = []
schedule_of (x ∷ items) = times x.0 x.1 (schedule_of items)

-- processor 1 comes after the lock
abbrev pub late : List (ℕ × ℕ)
late = (2, 4) ∷ (0, 14) ∷ (1, 4) ∷ (0, 10) ∷ (1, 2) ∷ (2, 4) ∷ (0, 1) ∷ (1, 1) ∷ []

-- processor 1 gives up, finds the counter locked, and goes on as counted
abbrev pub gives_up : List (ℕ × ℕ)
gives_up =
    (2, 4) ∷ (0, 5) ∷ (1, 9) ∷ (0, 6) ∷ (1, 4) ∷ (0, 7) ∷ (1, 2) ∷ (0, 2) ∷ (1, 3) ∷ (0, 6) ∷ (0, 5) ∷ (1, 2) ∷ (2, 4) ∷ (0, 1) ∷ (1, 1) ∷ []

-- processor 1 is slow to leave, and goes on in the next session
abbrev pub slow : List (ℕ × ℕ)
slow =
    (2, 4) ∷ (0, 5) ∷ (1, 5) ∷ (0, 6) ∷ (1, 4) ∷ (0, 7) ∷ (1, 2) ∷ (0, 2) ∷ (1, 3) ∷ (0, 6) ∷ (2, 6) ∷ (0, 14) ∷ (1, 1) ∷ (0, 10) ∷ (1, 7) ∷ (2, 4) ∷ (0, 1) ∷
    (1, 1) ∷ []

-- the BSP comes when processor 1 signals it
abbrev pub signalled : List (ℕ × ℕ)
signalled = (2, 4) ∷ (1, 8) ∷ (0, 6) ∷ (1, 4) ∷ []

-- processor 1 waits in vain for the BSP
abbrev pub in_vain : List (ℕ × ℕ)
in_vain = (2, 4) ∷ (1, 12) ∷ (2, 5) ∷ (0, 1) ∷ (1, 1) ∷ []

-- processor 1 refuses a job while it has one, and runs the one that it has
abbrev pub busy : List (ℕ × ℕ)
busy = (2, 4) ∷ (0, 5) ∷ (1, 5) ∷ (0, 6) ∷ (1, 4) ∷ (0, 8) ∷ (1, 2) ∷ (0, 4) ∷ []

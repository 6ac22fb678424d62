-- Rounds of looks.
use Rattle.std.specs.Prelude.{ℕ, ◌+◌, ◌==◌, Bool}

-- the next look is the last of a round of `most`, where so many were made before it
abbrev pub is_last_look : ℕ → ℕ → Bool
is_last_look looks most = looks + 1 == most

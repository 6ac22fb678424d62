-- What a list of words keeps.
use Rattle.std.specs.Prelude.{ℕ, ◌≤◌, List, All}
use Rattle.sync_words.specs.declared.access.TheConstants.{LOCKED}

-- each number fits a word
abbrev pub FitWords : List ℕ → Type 0
FitWords values = All (λ value. value ≤ LOCKED) values

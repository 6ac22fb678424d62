-- What the text of a schedule says, by how its items are printed.
use Rattle.std.specs.Prelude.{◌≡◌, ◌⊎◌, ℕ, ◌+◌, ◌≤◌, IsTrue, List, [], ◌∷◌, ◌++◌, replicate, codes, decimal}
use Rattle.std.specs.List.{concat, range_with_len}
use Rattle.schedule_file.specs.Schedule.{is_blank}

-- a word is `all`, for the actors 0 to n in turn, or the decimal number of one of them
abbrev pub SaysWho : ℕ → List ℕ → List ℕ → Type 0
SaysWho n word actors =
    ((word ≡ codes "all") × (actors ≡ range_with_len 0 (n + 1)))
    ⊎ ((actor : ℕ) × (actor ≤ n) × (word ≡ decimal actor) × (actors ≡ actor ∷ []))

-- a word, a star and a decimal count, for the word's actors that often
pub record SaysOften (n : ℕ) (item actors : List ℕ) : Type 0 where
  pub word : List ℕ
  pub once : List ℕ
  pub count : ℕ
  pub who : SaysWho n word once
  pub count_fits : (1 ≤ count) × (count ≤ 65535)
  pub written : item ≡ word ++ (codes "*" ++ decimal count)
  pub often : actors ≡ concat (replicate count once)

-- an item stands for its actors once, or as often as it says
abbrev pub SaysItem : ℕ → List ℕ → List ℕ → Type 0
SaysItem n item actors = SaysWho n item actors ⊎ SaysOften n item actors

-- nothing follows, or a blank
abbrev pub BeginsApart : List ℕ → Type 0
BeginsApart [] = Unit {0}
BeginsApart (byte ∷ more) = IsTrue (is_blank byte)

-- a text is blanks and items, no two items without a blank between them, and stands for the items' actors in their order
pub data SaysSchedule (n : ℕ) : List ℕ → List ℕ → Type 0 where
  nothing : SaysSchedule n [] []
  blank : (byte : ℕ) (text actors : List ℕ) → IsTrue (is_blank byte) → SaysSchedule n text actors → SaysSchedule n (byte ∷ text) actors
  item : (word actors text more : List ℕ) → SaysItem n word actors → BeginsApart text → SaysSchedule n text more → SaysSchedule n (word ++ text) (actors ++ more)

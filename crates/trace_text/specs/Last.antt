-- The last line of a trace, and how it is read.
use Rattle.std.specs.Prelude.{ℕ, ◌+◌, ◌^◌, ◌<◌, Bool, true, false, List, [], ◌∷◌, ◌++◌, length, drop, eqb, codes, decimal, Option, None, Some, if◌then◌else◌}
use Rattle.std.specs.List.{starts_with}
use Rattle.std.specs.Option.{option_map, option_and_then}
use Rattle.std.specs.Str.{bytes_eq}
use Rattle.sync_words.specs.Texts.{space, line_end, joined}
use Rattle.trace_text.specs.declared.last.Totals.{Totals}
use Rattle.trace_text.specs.Readings.{pair_at, wide, line_at}

-- whether the run is complete, and how many events, ended sessions and unserved waves it has
abbrev pub totals_text : Bool → ℕ → ℕ → ℕ → List ℕ
totals_text complete events sessions unserved =
    joined space (if complete then codes "complete" else codes "unfinished")
    (codes "events" ∷ decimal events ∷ codes "sessions" ∷ decimal sessions ∷ codes "unserved" ∷ decimal unserved ∷ [])

-- the last line
abbrev pub last_line : Totals → List ℕ
last_line totals = totals_text totals.complete totals.events totals.sessions totals.unserved ++ line_end ∷ []

-- its numbers have 64 bits
pub record AreNumbers (totals : Totals) : Type 0 where
  pub events : totals.events < 2 ^ 64
  pub sessions : totals.sessions < 2 ^ 64
  pub unserved : totals.unserved < 2 ^ 64

-- the first word
abbrev pub complete_of : List ℕ → Option Bool
complete_of text =
    if bytes_eq text (codes "complete") then Some true
    else if bytes_eq text (codes "unfinished") then Some false
    else None

-- what stands behind a text that begins so
abbrev pub stripped : List ℕ → List ℕ → Option (List ℕ)
stripped name text = if starts_with eqb text name then Some (drop (length name) text) else None

abbrev pub behind : {A : Type 0} → List ℕ → (List ℕ → Option A) → List ℕ → Option A
behind name read text = option_and_then read (stripped name text)

-- the numbers, with their names before them
abbrev pub unserved_of : List ℕ → Option ℕ
unserved_of = behind (codes "unserved ") wide

abbrev pub sessions_of : List ℕ → Option (ℕ × ℕ)
sessions_of = behind (codes "sessions ") (pair_at space wide unserved_of)

abbrev pub events_of : List ℕ → Option (ℕ × (ℕ × ℕ))
events_of = behind (codes "events ") (pair_at space wide sessions_of)

abbrev pub totals_with : Bool × (ℕ × (ℕ × ℕ)) → Totals
totals_with parts = record { complete = parts.0; events = parts.1.0; sessions = parts.1.1.0; unserved = parts.1.1.1 }

abbrev pub totals_of : List ℕ → Option Totals
totals_of text = option_map totals_with (pair_at space complete_of events_of text)

-- the last line that starts at a place, and the place behind its line end
abbrev pub last_reading : List ℕ → ℕ → Option (Totals × ℕ)
last_reading bytes at = option_and_then (λ line. option_map (λ totals. (totals, at + length line + 1)) (totals_of line)) (line_at 128 bytes at)

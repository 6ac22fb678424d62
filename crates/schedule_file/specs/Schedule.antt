-- The text of a schedule: its items, and the actors that they stand for.
use Rattle.std.specs.Prelude.{ℕ, ◌+◌, ◌==◌, nat_lt, nat_le, Bool, true, false, not, ◌&&◌, ◌||◌, List, [], ◌∷◌, ◌++◌, length, take, drop, replicate, filter, position, codes, Option, None, Some, Result, Ok, Err, if◌then◌else◌}
use Rattle.std.specs.Char.{is_ascii_digit}
use Rattle.std.specs.Option.{option_map, option_and_then}
use Rattle.std.specs.List.{slice_split, concat, list_all, range_with_len}
use Rattle.std.specs.Str.{bytes_eq}
use Rattle.std.specs.Str.Parse.{digits_value}
use Rattle.schedule_file.specs.declared.error.ScheduleError.{ScheduleError}
use Rattle.schedule_file.specs.declared.error.ScheduleError.TheVariants.{Token, Actor, TooLong}
use Rattle.schedule_file.specs.declared.item.Item.{Item}
use Rattle.schedule_file.specs.declared.item.Who.{Who}
use Rattle.schedule_file.specs.declared.item.Who.TheVariants.{All, One}

-- spaces, tabs and line ends are blanks
abbrev pub is_blank : ℕ → Bool
is_blank byte = (byte == 32) || (byte == 9) || (byte == 10)

-- each part with the byte at which it starts, where the first starts at this byte, and one byte lies between each two
abbrev pub placed : ℕ → List (List ℕ) → List (ℕ × List ℕ)
placed at [] = []
placed at (part ∷ parts) = (at, part) ∷ placed (at + length part + 1) parts

-- no part without a byte is an item
abbrev pub has_bytes : List ℕ → Bool
has_bytes [] = false
has_bytes (byte ∷ bytes) = true

-- the items of a text with their places: the parts between the blanks that are not empty
abbrev pub items_of : List ℕ → List (ℕ × List ℕ)
items_of text = filter (λ item. has_bytes item.1) (placed 0 (slice_split is_blank text))

-- a first digit 0 with more after it
abbrev pub has_leading_zero : List ℕ → Bool
has_leading_zero [] = false
has_leading_zero (first ∷ more) = (first == 48) && nat_lt 0 (length more)

-- 1 to 5 decimal digits without a leading zero
abbrev pub is_numeral : List ℕ → Bool
is_numeral word = nat_le 1 (length word) && nat_le (length word) 5 && list_all is_ascii_digit word && not (has_leading_zero word)

-- the number that a word writes, if it is one
unfoldable pub numeral_of : List ℕ → Option ℕ
numeral_of word = if is_numeral word then Some (digits_value 10 word) else None

-- whom a word names: `all`, or the actor of a number
abbrev pub who_of : List ℕ → Option Who
who_of word = if bytes_eq word (codes "all") then Some All else option_map One (numeral_of word)

-- a count is a number from 1 to 65535
abbrev pub count_of : List ℕ → Option ℕ
count_of word = option_and_then (λ count. if nat_le 1 count && nat_le count 65535 then Some count else None) (numeral_of word)

-- an item of whom it names and its count, where there are both
abbrev pub with_count : Option Who → Option ℕ → Option Item
with_count who count = option_and_then (λ named. option_map (λ often. record { who = named; count = often }) count) who

-- without a `*` a word names once, and else the count stands after the first `*`
abbrev pub with_star : List ℕ → Option ℕ → Option Item
with_star word None = with_count (who_of word) (Some 1)
with_star word (Some star) = with_count (who_of (take star word)) (count_of (drop (star + 1) word))

-- the item that a word is, if it has an item's form
abbrev pub item_of : List ℕ → Option Item
item_of word = with_star word (position (λ byte. byte == 42) word)

-- what follows where there is no refusal
abbrev pub on_ok : {A B : Type 0} → (A → Result B ScheduleError) → Result A ScheduleError → Result B ScheduleError
on_ok next (Ok value) = next value
on_ok next (Err error) = Err error

-- the actors that an item at this byte names on a platform of n processors: all from 0 to n, or the one of a number up to n
abbrev pub who_reading : ℕ → ℕ → Who → Result (List ℕ) ScheduleError
who_reading n at All = Ok (range_with_len 0 (n + 1))
who_reading n at (One number) = if nat_le number n then Ok (number ∷ []) else Err (Actor at number)

-- some actors one after the other, that often
abbrev pub repeated : ℕ → List ℕ → List ℕ
repeated count actors = concat (replicate count actors)

-- the actors of the item at this byte as often as it says, or its refusal; a word of another form is refused as such
abbrev pub form_reading : ℕ → ℕ → Option Item → Result (List ℕ) ScheduleError
form_reading n at None = Err (Token at)
form_reading n at (Some item) = on_ok (λ actors. Ok (repeated item.count actors)) (who_reading n at item.who)

-- the actors of the word at this byte, or its refusal
unfoldable pub item_reading : ℕ → ℕ → List ℕ → Result (List ℕ) ScheduleError
item_reading n at word = form_reading n at (item_of word)

-- the actors of all items in their order, or the refusal of the first item that has one
abbrev pub all_actors : ℕ → List (ℕ × List ℕ) → Result (List ℕ) ScheduleError
all_actors n [] = Ok []
all_actors n (item ∷ items) = on_ok (λ actors. on_ok (λ more. Ok (actors ++ more)) (all_actors n items)) (item_reading n item.0 item.1)

-- at most 4,194,304 actors
abbrev pub not_too_long : List ℕ → Result (List ℕ) ScheduleError
not_too_long actors = if nat_le (length actors) 4194304 then Ok actors else Err TooLong

-- the actors of a text on a platform of n processors, or its refusal: that of its first wrong item, and else that of too many actors
unfoldable pub schedule_of : ℕ → List ℕ → Result (List ℕ) ScheduleError
schedule_of n text = on_ok not_too_long (all_actors n (items_of text))

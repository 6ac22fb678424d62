-- What the parts of the schedule's reader promise one another.
use Rattle.std.specs.Prelude.{ℕ, ◌+◌, nat_le, filter, List, [], ◌∷◌, ◌++◌, length, Option, None, Some, Result, Ok, Err, if◌then◌else◌}
use Rattle.std.specs.List.{range_with_len}
use Rattle.schedule_file.specs.declared.error.ScheduleError.{ScheduleError}
use Rattle.schedule_file.specs.declared.error.ScheduleError.TheVariants.{TooLong}
use Rattle.schedule_file.specs.Schedule.{on_ok, repeated, item_reading, has_bytes, placed, all_actors, not_too_long}

-- the actors of a round
abbrev pub round_of : ℕ → ℕ → ℕ → List ℕ
round_of first actors times = repeated times (range_with_len first actors)

-- actors that are not too many
abbrev pub kept : List ℕ → Option (List ℕ)
kept actors = if nat_le (length actors) 4194304 then Some actors else None

-- the actors so far with some more; there are none where they are too many
abbrev pub grown : Option (List ℕ) → List ℕ → Option (List ℕ)
grown None more = None
grown (Some actors) more = kept (actors ++ more)

-- the actors so far with those of the next part, which is empty or an item, or that item's refusal
abbrev pub part_reading : ℕ → ℕ → List ℕ → Option (List ℕ) → Result (Option (List ℕ)) ScheduleError
part_reading n at [] listed = Ok listed
part_reading n at (byte ∷ bytes) listed = on_ok (λ more. Ok (grown listed more)) (item_reading n at (byte ∷ bytes))

-- the parts of a text from this byte on that are items, with their places
abbrev pub items_from : ℕ → List (List ℕ) → List (ℕ × List ℕ)
items_from at parts = filter (λ item. has_bytes item.1) (placed at parts)

-- the actors of a text of which some are known, or its refusal
abbrev pub ending : Option (List ℕ) → Result (List ℕ) ScheduleError → Result (List ℕ) ScheduleError
ending None later = on_ok (λ _. Err TooLong) later
ending (Some actors) later = on_ok (λ more. not_too_long (actors ++ more)) later

-- the same with the parts that are left, the first of which starts at this byte
unfoldable pub schedule_after : ℕ → Option (List ℕ) → ℕ → List (List ℕ) → Result (List ℕ) ScheduleError
schedule_after n listed at parts = ending listed (all_actors n (items_from at parts))

-- how many bytes parts have, each with one after it
abbrev pub bytes_of_parts : List (List ℕ) → ℕ
bytes_of_parts [] = 0
bytes_of_parts (part ∷ parts) = length part + 1 + bytes_of_parts parts

-- The chipset, row by row: it announces each wave, sends its interrupts, and waits until it was served; after the last wave it turns
-- all signals off. The chipset as an actor is the project's own.
use Rattle.std.specs.Prelude.{ℕ, ◌+◌, ◌==◌, ◌||◌, nat_le, nat_lt, Bool, if◌then◌else◌, List, length, slice_index_or, Option, Some, None}
use Rattle.cpu_table.specs.Data.{SetupData}
use Rattle.cpu_table.specs.declared.waves.Arrival.{Arrival}
use Rattle.cpu_table.specs.declared.waves.Arrival.TheVariants.{Prompt, Delayed, Blocked, Absent}
use Rattle.cpu_table.specs.declared.waves.Wave.{Wave}
use Rattle.cpu_table.specs.Waves.{arrivals_of, blocked_in}
use Rattle.sync_words.specs.declared.access.Access.TheVariants.{Put, Await, Raise}
use Rattle.sync_words.specs.declared.event.Want.{Want}
use Rattle.sync_words.specs.declared.event.Want.TheVariants as want
use Rattle.sync_words.specs.declared.label.Label.TheVariants as say
use Rattle.sync_words.specs.declared.row.Row.{Row}
use Rattle.sync_words.specs.declared.row.Row.TheVariants as row
use Rattle.sync_words.specs.declared.signal.TheConstants.{DELIVERABLE, HELD, BLOCKED, OFF}
use Rattle.sync_words.specs.declared.word.WordId.TheVariants.{Inside, Source, Except, Pend}
use Rattle.sync_words.specs.Steps.{Taken, says, wants, looks_at}

-- its row, or none where it is off, and the wave that it announces, from 1
pub record Chipset : Type 0 where
  pub setup : SetupData
  pub row : Option Row
  pub wave : ℕ

-- it announces the first wave
abbrev pub first_chipset : SetupData → Chipset
first_chipset d = record { setup = d; row = Some row.AnnounceBlocked; wave = 1 }

-- the signal that a processor gets
abbrev pub signal_for : Arrival → ℕ
signal_for Prompt = DELIVERABLE
signal_for Delayed = HELD
signal_for Blocked = BLOCKED
signal_for Absent = BLOCKED

abbrev pub signal_in : List Wave → ℕ → ℕ → ℕ
signal_in waves w cpu = signal_for (slice_index_or (arrivals_of waves w) cpu Absent)

abbrev pub at_wave_row : Row → Chipset → Chipset
at_wave_row r c = record c { row = Some r }

-- the row of the next processor of a loop, or what comes after it
abbrev pub raise_row : ℕ → ℕ → Row
raise_row cpu processors = if nat_lt cpu processors then row.RaiseWave cpu else row.WatchSource 0

abbrev pub off_row : ℕ → ℕ → Option Row
off_row cpu processors = if nat_lt cpu processors then Some (row.RaiseOff cpu) else None

abbrev pub to_raise : ℕ → Chipset → Chipset
to_raise cpu c = at_wave_row (raise_row cpu c.setup.processors) c

abbrev pub to_off : ℕ → Chipset → Chipset
to_off cpu c = record c { row = off_row cpu c.setup.processors }

-- after a wave the next one is announced; after the last the signals are turned off
abbrev pub after_wave : Chipset → Chipset
after_wave c =
    if nat_lt c.wave (length c.setup.waves) then record c { row = Some row.AnnounceBlocked; wave = c.wave + 1 } else to_off 0 c

-- what the chipset wants at a row
abbrev pub want_at : Row → Chipset → Want
want_at row.AnnounceBlocked c = wants Except (Put (blocked_in c.setup.waves c.wave))
want_at row.AnnounceWave c = wants Source (Put c.wave)
want_at (row.RaiseWave cpu) c = wants (Pend cpu) (Raise (signal_in c.setup.waves c.wave cpu))
want_at (row.WatchSource looks) c = looks_at Source
want_at row.AwaitServed c = wants Inside (Await 0 0)
want_at (row.RaiseOff cpu) c = wants (Pend cpu) (Raise OFF)
want_at _ c = want.Off

-- what it wants, nothing where it is off
abbrev pub want_at_row : Option Row → Chipset → Want
want_at_row None c = want.Off
want_at_row (Some r) c = want_at r c

-- a look for the wave to be taken; both rounds of looks are its time
abbrev pub is_watched : Chipset → ℕ → ℕ → Bool
is_watched c looks found = found == 0 || nat_le (c.setup.t1 + c.setup.t2) (looks + 1)

abbrev pub watched_row : Chipset → ℕ → ℕ → Row
watched_row c looks found = if is_watched c looks found then row.AwaitServed else row.WatchSource (looks + 1)

-- what the event at a row says by the number found, and the chipset after it
abbrev pub taken_at : Row → Chipset → ℕ → Taken Chipset
taken_at row.AnnounceBlocked c found = says (say.Excepted (blocked_in c.setup.waves c.wave)) (at_wave_row row.AnnounceWave c)
taken_at row.AnnounceWave c found = says (say.Wave c.wave) (to_raise 0 c)
taken_at (row.RaiseWave cpu) c found = says say.Silent (to_raise (cpu + 1) c)
taken_at (row.WatchSource looks) c found =
    says say.Silent (at_wave_row (watched_row c looks found) c)
taken_at row.AwaitServed c found = says say.Silent (after_wave c)
taken_at (row.RaiseOff cpu) c found = says say.Silent (to_off (cpu + 1) c)
taken_at _ c found = says say.Silent c

-- where it is off it says nothing and stays
abbrev pub taken_at_row : Option Row → Chipset → ℕ → Taken Chipset
taken_at_row None c found = says say.Silent c
taken_at_row (Some r) c found = taken_at r c found

-- The chipset keeps its bounds, and what it wants is within them.
use Rattle.std.proofs.Common.{◌≡◌, ◌<◌, ◌≤◌, ◌+◌, ℕ, ◌==◌, ◌||◌, Bool, true, false, length, Option, Some, None, refl, subst, sym, arith}
use Rattle.std.specs.Prelude.{nat_lt, nat_le, slice_index_or, if◌then◌else◌}
use Rattle.cpu_table.specs.Data.{SetupData, data_of}
use Rattle.cpu_table.specs.Waves.{arrivals_of}
use Rattle.cpu_table.specs.declared.setup.Setup.{Setup}
use Rattle.cpu_table.specs.declared.waves.Arrival.{Arrival}
use Rattle.cpu_table.specs.declared.waves.Arrival.TheVariants.{Prompt, Delayed, Blocked, Absent}
use Rattle.sync_words.specs.declared.row.Row.{Row}
use Rattle.sync_words.specs.declared.row.Row.TheVariants as row
use Rattle.sync_words.specs.Steps.{IsWantWithin}
use Rattle.chipset.specs.Bounds.{IsPlatform, IsChipsetRow, IsChipset}
use Rattle.chipset.specs.Chipsets.{Chipset, first_chipset, signal_for, at_wave_row, to_off, is_watched, want_at_row, taken_at_row}
use Rattle.chipset.proofs.WaveLemmas.{waves_some, waves_few, blocked_few}

-- THE START

pub platform_of : (s : Setup) → IsPlatform (data_of s)
platform_of s =
    record {
      few = s.processors_in_range;
      first = (s.polls_in_range.0, s.polls_in_range.1);
      second = (s.polls_in_range.2, s.polls_in_range.3);
      visits = s.visits_in_range;
      waves = s.waves_in_range;
    }

pub begins : (d : SetupData) → IsPlatform d → IsChipset (first_chipset d)
begins d platform = record { platform = platform; first = omega arith; last = waves_some d platform; row = tt }

-- WANTS

signal_few : (a : Arrival) → signal_for a ≤ 4
signal_few Prompt = omega arith
signal_few Delayed = omega arith
signal_few Blocked = omega arith
signal_few Absent = omega arith

within_at : (r : Option Row) (c : Chipset) → IsChipset c → IsChipsetRow r c → IsWantWithin c.setup.processors (want_at_row r c)
within_at None c h k = tt
within_at (Some row.AnnounceBlocked) c h k = (tt, omega (arith, blocked_few c.setup c.wave h.platform))
within_at (Some row.AnnounceWave) c h k = (tt, (let last = h.last in omega (arith, last, waves_few c.setup h.platform)))
within_at (Some (row.RaiseWave cpu)) c h k = (k, signal_few (slice_index_or (arrivals_of c.setup.waves c.wave) cpu Absent))
within_at (Some (row.WatchSource looks)) c h k = (tt, tt)
within_at (Some row.AwaitServed) c h k = (tt, (omega arith, omega arith))
within_at (Some (row.RaiseOff cpu)) c h k = (k, omega arith)
within_at (Some _) c h k = absurd k

pub chipset_within : (c : Chipset) → IsChipset c → IsWantWithin c.setup.processors (want_at_row c.row c)
chipset_within c h = within_at c.row c h h.row

-- EVENTS

lt_of : (a b : ℕ) → nat_lt a b ≡ true → a < b
lt_of a b h = grind arith

raised_stays : (cpu : ℕ) (b : Bool) (c : Chipset) → nat_lt cpu c.setup.processors ≡ b → IsChipset c
    → IsChipset (at_wave_row (if b then row.RaiseWave cpu else row.WatchSource 0) c)
raised_stays cpu true c e h = record { platform = h.platform; first = h.first; last = h.last; row = lt_of cpu c.setup.processors e }
raised_stays cpu false c e h =
    let first = h.platform.first.0 in
    record { platform = h.platform; first = h.first; last = h.last; row = omega (arith, first) }

off_stays : (cpu : ℕ) (b : Bool) (c : Chipset) → nat_lt cpu c.setup.processors ≡ b → IsChipset c → IsChipset (record c { row = if b then Some (row.RaiseOff cpu) else None })
off_stays cpu true c e h = record { platform = h.platform; first = h.first; last = h.last; row = lt_of cpu c.setup.processors e }
off_stays cpu false c e h = record { platform = h.platform; first = h.first; last = h.last; row = tt }

more_looks : (found looks most : ℕ) → (found == 0 || nat_le most (looks + 1)) ≡ false → looks + 1 < most
more_looks found looks most e = grind arith

watched_stays : (looks found : ℕ) (b : Bool) (c : Chipset) → is_watched c looks found ≡ b → IsChipset c
    → IsChipset (at_wave_row (if b then row.AwaitServed else row.WatchSource (looks + 1)) c)
watched_stays looks found true c e h = record { platform = h.platform; first = h.first; last = h.last; row = tt }
watched_stays looks found false c e h =
    record { platform = h.platform; first = h.first; last = h.last; row = more_looks found looks (c.setup.t1 + c.setup.t2) e }

ended_stays : (b : Bool) (c : Chipset) → nat_lt c.wave (length c.setup.waves) ≡ b → IsChipset c
    → IsChipset (if b then record c { row = Some row.AnnounceBlocked; wave = c.wave + 1 } else to_off 0 c)
ended_stays true c e h =
    let less = lt_of c.wave (length c.setup.waves) e in
    record { platform = h.platform; first = omega arith; last = omega (arith, less); row = tt }
ended_stays false c e h = off_stays 0 (nat_lt 0 c.setup.processors) c refl h

wave_stays : (r : Option Row) (c : Chipset) (found : ℕ) → IsChipset c → IsChipsetRow r c → IsChipset (taken_at_row r c found).after
wave_stays None c found h k = h
wave_stays (Some row.AnnounceBlocked) c found h k = record { platform = h.platform; first = h.first; last = h.last; row = tt }
wave_stays (Some row.AnnounceWave) c found h k = raised_stays 0 (nat_lt 0 c.setup.processors) c refl h
wave_stays (Some (row.RaiseWave cpu)) c found h k = raised_stays (cpu + 1) (nat_lt (cpu + 1) c.setup.processors) c refl h
wave_stays (Some (row.WatchSource looks)) c found h k = watched_stays looks found (is_watched c looks found) c refl h
wave_stays (Some row.AwaitServed) c found h k = ended_stays (nat_lt c.wave (length c.setup.waves)) c refl h
wave_stays (Some (row.RaiseOff cpu)) c found h k = off_stays (cpu + 1) (nat_lt (cpu + 1) c.setup.processors) c refl h
wave_stays (Some _) c found h k = absurd k

pub chipset_stays : (c : Chipset) (found : ℕ) → IsChipset c → IsChipset (taken_at_row c.row c found).after
chipset_stays c found h = wave_stays c.row c found h h.row

-- the same of a step that was told of an equal chipset
pub chipset_steps : (c d : Chipset) (found : ℕ) (r : Option Row) (w : ℕ) → c ≡ d → record d { row = r; wave = w } ≡ (taken_at_row d.row d found).after → IsChipset c
    → IsChipset (record c { row = r; wave = w })
chipset_steps c d found r w e step h =
    let stays : IsChipset (record d { row = r; wave = w }) = subst IsChipset (sym step) (chipset_stays d found (subst IsChipset e h)) in
    subst (λ (x : Chipset). IsChipset (record x { row = r; wave = w })) (sym e) stays

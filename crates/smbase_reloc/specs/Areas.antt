-- Where a processor enters and where it saves its state, as intervals of addresses.
use Rattle.std.specs.Prelude.{ℕ, ◌+◌, ◌-◌, ◌*◌, ◌<◌, ◌≤◌, ◌≢◌, ◌⊎◌}
use Rattle.cpu_table.specs.declared.setup.Smram.{Smram}

-- the addresses from `first` on that are below `after`
pub record Interval : Type 0 where
  pub first : ℕ
  pub after : ℕ

-- one of two intervals ends before the other begins
abbrev pub AreDisjoint : Interval → Interval → Type 0
AreDisjoint a b = (a.after ≤ b.first) ⊎ (b.after ≤ a.first)

-- the SMBASE of a processor: one tile after the other
abbrev pub smbase_of : Smram → ℕ → ℕ
smbase_of area i = area.base - 0x8000 + i * area.tile

-- what a processor has a place for: the code that it enters, and its save state
pub data Use : Type 0 where
  EntryCode : Use
  SaveState : Use

-- the place (Intel SDM Volume 3, System Management Mode, SMRAM: a processor enters at SMBASE + 8000H, and its state is saved up
-- to SMBASE + FFFFH; that the last 1,024 bytes are kept for it is the rule of both maps)
abbrev pub place_of : Smram → ℕ → Use → Interval
place_of area i EntryCode = record { first = smbase_of area i + 0x8000; after = smbase_of area i + 0x8000 + area.code }
place_of area i SaveState = record { first = smbase_of area i + 0xFC00; after = smbase_of area i + 0x10000 }

-- where each processor enters and saves before it is relocated: SMBASE is 30000H then
abbrev pub default_place : Interval
default_place = record { first = 0x30000; after = 0x40000 }

-- any two places of n processors are disjoint: those of two processors, and the two of one
abbrev pub PlacesAreDisjoint : Smram → ℕ → Type 0
PlacesAreDisjoint area n = (i j : ℕ) (u v : Use) → i < n → j < n → (i ≢ j) ⊎ (u ≢ v) → AreDisjoint (place_of area i u) (place_of area j v)

-- none meets the place before relocation
abbrev pub PlacesAvoidDefault : Smram → ℕ → Type 0
PlacesAvoidDefault area n = (i : ℕ) (u : Use) → i < n → AreDisjoint (place_of area i u) default_place

-- each lies in the area
abbrev pub PlacesAreWithin : Smram → ℕ → Type 0
PlacesAreWithin area n = (i : ℕ) (u : Use) → i < n → (area.base ≤ (place_of area i u).first) × ((place_of area i u).after ≤ area.base + area.size)

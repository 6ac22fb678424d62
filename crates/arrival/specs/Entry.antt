-- The entry of a visit, row by row: what the processor wants, and by the number found what its event says and where it
-- goes on. The rows are the project's own, after EDK II's PiSmmCpuDxeSmm (`SmiRendezvous`) in outline.
use Rattle.std.specs.Prelude.{ℕ, ◌<◌, ◌≤◌, ◌==◌, ◌&&◌, Bool, true, false, if◌then◌else◌, Option, Some, None}
use Rattle.smm_base.specs.declared.kinds.Policy.{Policy}
use Rattle.smm_base.specs.declared.kinds.Policy.TheVariants.{Elected, Fixed}
use Rattle.sync_words.specs.declared.access.Access.TheVariants.{Up, Claim}
use Rattle.sync_words.specs.declared.access.TheConstants.{LOCKED}
use Rattle.sync_words.specs.declared.event.Hand.TheVariants.{Take}
use Rattle.sync_words.specs.declared.event.Want.{Want}
use Rattle.sync_words.specs.declared.event.Want.TheVariants.{Access, Off}
use Rattle.sync_words.specs.declared.label.Label.TheVariants.{Silent, Turn, Late, Arrive, Elect}
use Rattle.sync_words.specs.declared.row.Row.{Row}
use Rattle.sync_words.specs.declared.row.Row.TheVariants.{LookAtSource, LookAtInside, CountIn, ClaimBsp, LookAtBsp, MarkInside, AwaitInside, AwaitSessionEnd}
use Rattle.sync_words.specs.declared.word.WordId.TheVariants.{Counter, Bsp, Inside, Source}
use Rattle.sync_words.specs.Steps.{Taken, says, wants, looks_at}

-- where a processor stands in its entry, with what it has found so far
pub record EntryPosition : Type 0 where
  pub processors : ℕ
  pub policy : Policy
  pub me : ℕ  -- its own number
  pub row : Row
  pub source : ℕ  -- what it found in `source`
  pub inside : ℕ  -- what it found in `inside`

-- it is one of the platform's processors
pub record IsEntry (e : EntryPosition) : Type 0 where
  pub one_of_them : e.me < e.processors
  pub few : e.processors ≤ 64

-- the first position of processor `me`
abbrev pub entry_of : ℕ → Policy → ℕ → EntryPosition
entry_of processors policy me =
    record { processors = processors; policy = policy; me = me; row = LookAtSource; source = 0; inside = 0 }

-- the row of another part that comes next, or none while the entry goes on
abbrev pub left_of : Row → Option Row
left_of LookAtSource = None
left_of LookAtInside = None
left_of CountIn = None
left_of ClaimBsp = None
left_of LookAtBsp = None
left_of row = Some row

-- what the processor wants at a row
abbrev pub want_of : Row → EntryPosition → Want
want_of LookAtSource e = looks_at Source
want_of LookAtInside e = looks_at Inside
want_of CountIn e = wants Counter Up
want_of ClaimBsp e = Access Bsp (Claim LOCKED e.me) (Take e.processors)
want_of LookAtBsp e = looks_at Bsp
want_of _ e = Off

abbrev pub go : EntryPosition → Row → EntryPosition
go e row = record e { row = row }

-- how it is told who the BSP is: the first that claims the chair, or the one that the platform fixes
abbrev pub to_elect : Policy → Row
to_elect Elected = ClaimBsp
to_elect (Fixed bsp) = LookAtBsp

-- a processor that counted itself in may become the BSP only where it found none at work
abbrev pub after_arrival : ℕ → Policy → Row
after_arrival inside policy = if inside == 0 then to_elect policy else AwaitInside 0

-- it became the BSP, or waits for the one there is
abbrev pub elected : Bool → EntryPosition → Taken EntryPosition
elected true e = says Elect (go e MarkInside)
elected false e = says Silent (go e (AwaitInside 0))

-- what the event at a row says by the number found, and the position after it
abbrev pub taken : Row → EntryPosition → ℕ → Taken EntryPosition
taken LookAtSource e found = says Silent (record e { row = LookAtInside; source = found })
taken LookAtInside e found =
    if (e.source == 0 && found == 0) then says Turn (go e AwaitSessionEnd) else says Silent (record e { row = CountIn; inside = found })
taken CountIn e found = if found == LOCKED then says Late (go e AwaitSessionEnd) else says Arrive (go e (after_arrival e.inside e.policy))
taken ClaimBsp e found = elected (found == LOCKED) e
taken LookAtBsp e found = elected (found == e.me) e
taken _ e found = says Silent e

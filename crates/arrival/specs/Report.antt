-- How an AP waits for the BSP and reports to it, row by row: two rounds of looks for a BSP at work, between them an interrupt
-- to the BSP if it is known, and then the report, which gives the AP's desk. The rows are the project's own, after
-- EDK II's PiSmmCpuDxeSmm (`APHandler`) in outline.
use Rattle.std.specs.Prelude.{ℕ, ◌<◌, ◌≤◌, ◌+◌, ◌==◌, nat_lt, if◌then◌else◌, Option, Some, None}
use Rattle.sync_words.specs.declared.access.Access.TheVariants.{Put, Up, Lower, Seek, Signal}
use Rattle.sync_words.specs.declared.access.TheConstants.{LOCKED}
use Rattle.sync_words.specs.declared.event.Hand.TheVariants.{Give}
use Rattle.sync_words.specs.declared.event.Want.{Want}
use Rattle.sync_words.specs.declared.event.Want.TheVariants.{Access, Off}
use Rattle.sync_words.specs.declared.label.Label.TheVariants.{Silent, Quit, Report as Reported}
use Rattle.sync_words.specs.declared.row.Row.{Row}
use Rattle.sync_words.specs.declared.row.Row.TheVariants.{AwaitInside, FindBsp, SignalBsp, AwaitInsideAgain, CountOut, SeekBsp, Report, TellReported, AwaitRelease, AwaitSessionEnd}
use Rattle.sync_words.specs.declared.word.WordId.TheVariants.{Counter, Bsp, Inside, Pend, Present, Run}
use Rattle.sync_words.specs.Steps.{Taken, says, wants, looks_at}
use Rattle.arrival.specs.Rounds.{is_last_look}

-- where an AP stands as it waits for the BSP and reports, with what it has found so far
pub record ReportPosition : Type 0 where
  pub processors : ℕ
  pub first_looks : ℕ  -- how many looks the first round has, and the second
  pub second_looks : ℕ
  pub me : ℕ  -- its own number
  pub row : Row
  pub bsp : ℕ  -- the last processor that it found in `bsp`

-- a round has another look
abbrev pub IsReportRow : Row → ReportPosition → Type 0
IsReportRow (AwaitInside looks) r = looks < r.first_looks
IsReportRow (AwaitInsideAgain looks) r = looks < r.second_looks
IsReportRow _ r = Unit {0}

-- the AP and the BSP are processors of the platform, each round has a look, and the row is in bounds
pub record IsReport (r : ReportPosition) : Type 0 where
  pub one_of_them : r.me < r.processors
  pub few : r.processors ≤ 64
  pub first : (1 ≤ r.first_looks) × (r.first_looks ≤ 4096)
  pub second : (1 ≤ r.second_looks) × (r.second_looks ≤ 4096)
  pub bsp : r.bsp < r.processors
  pub at_row : IsReportRow r.row r

-- the first position of processor `me`
abbrev pub report_of : ℕ → ℕ → ℕ → ℕ → ReportPosition
report_of processors first_looks second_looks me =
    record { processors = processors; first_looks = first_looks; second_looks = second_looks; me = me; row = AwaitInside 0; bsp = 0 }

-- the row of another part that comes next, or none while this part goes on
abbrev pub left_of : Row → Option Row
left_of (AwaitInside looks) = None
left_of FindBsp = None
left_of SignalBsp = None
left_of (AwaitInsideAgain looks) = None
left_of CountOut = None
left_of SeekBsp = None
left_of Report = None
left_of TellReported = None
left_of row = Some row

-- the BSP that it reports to, from the row on that finds it
abbrev pub bsp_of : Row → ℕ → Option ℕ
bsp_of Report bsp = Some bsp
bsp_of TellReported bsp = Some bsp
bsp_of AwaitRelease bsp = Some bsp
bsp_of _ bsp = None

-- what the AP wants at a row
abbrev pub want_of : Row → ReportPosition → Want
want_of (AwaitInside looks) r = looks_at Inside
want_of FindBsp r = looks_at Bsp
want_of SignalBsp r = wants (Pend r.bsp) Signal
want_of (AwaitInsideAgain looks) r = looks_at Inside
want_of CountOut r = wants Counter Lower
want_of SeekBsp r = wants Bsp (Seek r.processors)
want_of Report r = Access (Present r.me) (Put 1) (Give r.me)
want_of TellReported r = wants (Run r.bsp) Up
want_of _ r = Off

abbrev pub go : ReportPosition → Row → ReportPosition
go r row = record r { row = row }

-- what the event at a row says by the number found, and the position after it
abbrev pub taken : Row → ReportPosition → ℕ → Taken ReportPosition
taken (AwaitInside looks) r found =
    says Silent (go r (if found == 0 then (if is_last_look looks r.first_looks then FindBsp else AwaitInside (looks + 1)) else SeekBsp))
taken FindBsp r found =
    says Silent (if nat_lt found r.processors then record r { row = SignalBsp; bsp = found } else go r (AwaitInsideAgain 0))
taken SignalBsp r found = says Silent (go r (AwaitInsideAgain 0))
taken (AwaitInsideAgain looks) r found =
    says Silent (go r (if found == 0 then (if is_last_look looks r.second_looks then CountOut else AwaitInsideAgain (looks + 1)) else SeekBsp))
taken CountOut r found = if found == LOCKED then says Silent (go r SeekBsp) else says Quit (go r AwaitSessionEnd)
taken SeekBsp r found = says Silent (record r { row = Report; bsp = found })
taken Report r found = says Reported (go r TellReported)
taken TellReported r found = says Silent (go r AwaitRelease)
taken _ r found = says Silent r

-- How a BSP closes its session, row by row. The rows are the project's own, after EDK II (PiSmmCpuDxeSmm) in outline: the
-- counter is locked in one access, then the BSP waits for the reports of those that were counted, and takes their desks.
use Rattle.std.specs.Prelude.{ℕ, ◌≡◌, ◌<◌, ◌≤◌, ◌+◌, ◌-◌, ◌==◌, Bool, true, false, not, ◌&&◌, IsTrue, if◌then◌else◌, List, Option, Some, None}
use Rattle.sync_words.specs.declared.access.Access.TheVariants.{Put, Down, Lock, Claim}
use Rattle.sync_words.specs.declared.event.Hand.TheVariants.{Take}
use Rattle.sync_words.specs.declared.event.Want.{Want}
use Rattle.sync_words.specs.declared.event.Want.TheVariants.{Access, Off}
use Rattle.sync_words.specs.declared.label.Label.TheVariants.{Silent, Close as Closed}
use Rattle.sync_words.specs.declared.row.Row.{Row}
use Rattle.sync_words.specs.declared.row.Row.TheVariants.{MarkInsync, LockCounter, AwaitReports, TakeDesk, Serve, LeaveInside}
use Rattle.sync_words.specs.declared.word.WordId.TheVariants.{Counter, Insync, Present, Run}
use Rattle.sync_words.specs.Steps.{wants, Taken, says, next_below, row_or}
use Rattle.exit_handshake.specs.Desks.{holds}

-- where a BSP stands as it closes its session
pub record ClosePosition : Type 0 where
  pub processors : ℕ
  pub me : ℕ  -- its own number
  pub held : List Bool  -- whose desks it held as the close began
  pub relaxed : Bool  -- in the relaxed mode it has served already
  pub row : Row

-- another processor, whose desk isn't held
abbrev pub lacks : ClosePosition → ℕ → Bool
lacks p cpu = not (cpu == p.me) && not (holds p.held cpu)

-- after the close the traditional mode serves; the relaxed one has served before it
abbrev pub after_close : Bool → Row
after_close true = LeaveInside
after_close false = Serve

-- the next desk to take, from a processor on
abbrev pub to_desks : ClosePosition → ℕ → Row
to_desks p from = row_or TakeDesk (after_close p.relaxed) (next_below p.processors (lacks p) from)

-- so many reports are still to come
abbrev pub to_reports : ClosePosition → ℕ → Row
to_reports p left = if left == 0 then to_desks p 0 else AwaitReports left

-- what the BSP wants at a row of the close
abbrev pub want_of : Row → ClosePosition → Want
want_of MarkInsync p = wants Insync (Put 1)
want_of LockCounter p = wants Counter Lock
want_of (AwaitReports left) p = wants (Run p.me) Down
want_of (TakeDesk cpu) p = Access (Present cpu) (Claim 1 2) (Take cpu)
want_of _ p = Off

abbrev pub go : ClosePosition → Row → ClosePosition
go p row = record p { row = row }

-- what the event at a row says by the number found, and the position after it. The BSP itself is counted, so one report less
-- than the number found is to come
abbrev pub taken : Row → ClosePosition → ℕ → Taken ClosePosition
taken MarkInsync p found = says Silent (go p LockCounter)
taken LockCounter p found = says (Closed found) (go p (to_reports p (found - 1)))
taken (AwaitReports left) p found = says Silent (go p (to_reports p (left - 1)))
taken (TakeDesk cpu) p found = says Silent (go p (to_desks p (cpu + 1)))
taken _ p found = says Silent p

-- the row of another part that comes next, or none while the close goes on
abbrev pub left_of : Row → Option Row
left_of MarkInsync = None
left_of LockCounter = None
left_of (AwaitReports left) = None
left_of (TakeDesk cpu) = None
left_of row = Some row

-- the rows at which a close stands
abbrev pub IsCloseRow : ClosePosition → Row → Type 0
IsCloseRow p MarkInsync = Unit {0}
IsCloseRow p LockCounter = Unit {0}
IsCloseRow p (AwaitReports left) = 1 ≤ left
IsCloseRow p (TakeDesk cpu) = (cpu < p.processors) × IsTrue (lacks p cpu)
IsCloseRow p Serve = p.relaxed ≡ false
IsCloseRow p LeaveInside = p.relaxed ≡ true
IsCloseRow p _ = ⊥

-- the BSP is one of at most 64 processors, and the row is one of the close or the one after it
pub record IsClose (p : ClosePosition) : Type 0 where
  pub few : p.processors ≤ 64
  pub own : p.me < p.processors
  pub row : IsCloseRow p p.row

-- the first position of a close
abbrev pub close_of : ℕ → ℕ → List Bool → Bool → ClosePosition
close_of processors me held relaxed =
    record { processors = processors; me = me; held = held; relaxed = relaxed; row = MarkInsync }

-- How a BSP lets the others of its session go, row by row. The rows are the project's own, after EDK II (PiSmmCpuDxeSmm) in
-- outline: two rounds, in each of which it raises the semaphore of each AP and then waits for as many answers.
use Rattle.std.specs.Prelude.{ℕ, ◌≡◌, ◌<◌, ◌≤◌, ◌+◌, ◌-◌, ◌==◌, Bool, true, false, not, ◌&&◌, IsTrue, if◌then◌else◌, List, Option, Some, None}
use Rattle.std.specs.List.{range_with_len, count_by}
use Rattle.sync_words.specs.declared.access.Access.TheVariants.{Put, Up, Down}
use Rattle.sync_words.specs.declared.access.TheConstants.{LOCKED}
use Rattle.sync_words.specs.declared.event.Hand.TheVariants.{Give}
use Rattle.sync_words.specs.declared.event.Want.{Want}
use Rattle.sync_words.specs.declared.event.Want.TheVariants.{Access, Off}
use Rattle.sync_words.specs.declared.label.Label.TheVariants.{Silent, Release as Released, End}
use Rattle.sync_words.specs.declared.row.Row.{Row}
use Rattle.sync_words.specs.declared.row.Row.TheVariants.{Release, AwaitReleased, Dismiss, AwaitDismissed, GiveBsp, LeaveInsync, UnlockCounter, AwaitSessionEnd}
use Rattle.sync_words.specs.declared.word.WordId.TheVariants.{Counter, Bsp, Insync, Run}
use Rattle.sync_words.specs.Steps.{wants, Taken, says, next_below, row_or}
use Rattle.exit_handshake.specs.Desks.{holds}

-- where a BSP stands as it lets the others go
pub record ExitPosition : Type 0 where
  pub processors : ℕ
  pub me : ℕ  -- its own number
  pub held : List Bool  -- whose desks it held as the exit began
  pub elected : Bool  -- it took the chair by an election
  pub row : Row

-- an AP of the session: another processor, whose desk was held as the exit began
abbrev pub is_ap : ExitPosition → ℕ → Bool
is_ap p cpu = not (cpu == p.me) && holds p.held cpu

-- how many APs there are
abbrev pub ap_count : ExitPosition → ℕ
ap_count p = count_by (is_ap p) (range_with_len 0 p.processors)

-- after both rounds a BSP that was elected gives the chair back
abbrev pub after_rounds : Bool → Row
after_rounds true = GiveBsp
after_rounds false = LeaveInsync

-- the second round: so many APs have still to leave
abbrev pub to_dismissed : ExitPosition → ℕ → Row
to_dismissed p left = if left == 0 then after_rounds p.elected else AwaitDismissed left

-- the second round: the next AP to dismiss, from a processor on
abbrev pub to_dismissals : ExitPosition → ℕ → Row
to_dismissals p from = row_or Dismiss (to_dismissed p (ap_count p)) (next_below p.processors (is_ap p) from)

-- the first round: so many APs have still to answer
abbrev pub to_released : ExitPosition → ℕ → Row
to_released p left = if left == 0 then to_dismissals p 0 else AwaitReleased left

-- the first round: the next AP to release, from a processor on
abbrev pub to_releases : ExitPosition → ℕ → Row
to_releases p from = row_or Release (to_released p (ap_count p)) (next_below p.processors (is_ap p) from)

-- what the BSP wants at a row of the exit. The chair goes by the number of processors
abbrev pub want_of : Row → ExitPosition → Want
want_of (Release cpu) p = Access (Run cpu) Up (Give cpu)
want_of (AwaitReleased left) p = wants (Run p.me) Down
want_of (Dismiss cpu) p = wants (Run cpu) Up
want_of (AwaitDismissed left) p = wants (Run p.me) Down
want_of GiveBsp p = Access Bsp (Put LOCKED) (Give p.processors)
want_of LeaveInsync p = wants Insync (Put 0)
want_of UnlockCounter p = wants Counter (Put 0)
want_of _ p = Off

abbrev pub go : ExitPosition → Row → ExitPosition
go p row = record p { row = row }

-- what the event at a row says, and the position after it; neither depends on the number found
abbrev pub taken : Row → ExitPosition → ℕ → Taken ExitPosition
taken (Release cpu) p found = says (Released cpu) (go p (to_releases p (cpu + 1)))
taken (AwaitReleased left) p found = says Silent (go p (to_released p (left - 1)))
taken (Dismiss cpu) p found = says Silent (go p (to_dismissals p (cpu + 1)))
taken (AwaitDismissed left) p found = says Silent (go p (to_dismissed p (left - 1)))
taken GiveBsp p found = says Silent (go p LeaveInsync)
taken LeaveInsync p found = says Silent (go p UnlockCounter)
taken UnlockCounter p found = says End (go p AwaitSessionEnd)
taken _ p found = says Silent p

-- the row of another part that comes next, or none while the exit goes on
abbrev pub left_of : Row → Option Row
left_of (Release cpu) = None
left_of (AwaitReleased left) = None
left_of (Dismiss cpu) = None
left_of (AwaitDismissed left) = None
left_of GiveBsp = None
left_of LeaveInsync = None
left_of UnlockCounter = None
left_of row = Some row

-- the rows at which an exit stands
abbrev pub IsExitRow : ExitPosition → Row → Type 0
IsExitRow p (Release cpu) = (cpu < p.processors) × IsTrue (is_ap p cpu)
IsExitRow p (AwaitReleased left) = 1 ≤ left
IsExitRow p (Dismiss cpu) = (cpu < p.processors) × IsTrue (is_ap p cpu)
IsExitRow p (AwaitDismissed left) = 1 ≤ left
IsExitRow p GiveBsp = p.elected ≡ true
IsExitRow p LeaveInsync = Unit {0}
IsExitRow p UnlockCounter = Unit {0}
IsExitRow p AwaitSessionEnd = Unit {0}
IsExitRow p _ = ⊥

-- the BSP is one of at most 64 processors, and the row is one of the exit or the one after it
pub record IsExit (p : ExitPosition) : Type 0 where
  pub few : p.processors ≤ 64
  pub own : p.me < p.processors
  pub row : IsExitRow p p.row

abbrev pub exit_at : ℕ → ℕ → List Bool → Bool → Row → ExitPosition
exit_at processors me held elected row = record { processors = processors; me = me; held = held; elected = elected; row = row }

-- the first position of an exit: the first AP to release; where there is none, what comes after the rounds
abbrev pub exit_of : ℕ → ℕ → List Bool → Bool → ExitPosition
exit_of processors me held elected =
    exit_at processors me held elected (to_releases (exit_at processors me held elected AwaitSessionEnd) 0)

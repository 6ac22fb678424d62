-- How far a session is by the position of its BSP, in numbers: 0 is for none.
use Rattle.std.proofs.Common.{ℕ, ◌+◌, ◌-◌, ◌*◌, ◌≡◌, ◌≤◌, ◌⊎◌, inl, inr, arith, Bool, true, false}
use Rattle.schedule_laws.proofs.Stations.{bit}
use Rattle.schedule_laws.proofs.Scenes.{Lead, MarkingInside, TakingSource, LookingAtExcept, GatheringFirst, FindingMissing, SignallingMissing, GatheringSecond, MarkingInsync, LockingCounter, AwaitingReports, TakingDesk, BeginningToServe, AtHandlers, Collecting, LeavingInside, Releasing, AwaitingReleased, Dismissing, AwaitingDismissed, GivingChair, LeavingInsync, UnlockingCounter}

-- where the handlers are begun, by the mode: the relaxed one begins them before it closes
abbrev pub begins_at : Bool → ℕ
begins_at true = 3
begins_at false = 12

abbrev pub serves_at : Bool → ℕ
serves_at true = 4
serves_at false = 13

-- the stage of a position, by the mode
abbrev pub stage_in : Lead → Bool → ℕ
stage_in MarkingInside relaxed = 1
stage_in TakingSource relaxed = 2
stage_in LookingAtExcept relaxed = 3
stage_in (GatheringFirst _) relaxed = 5
stage_in (FindingMissing _) relaxed = 6
stage_in (SignallingMissing _) relaxed = 6
stage_in (GatheringSecond _) relaxed = 7
stage_in MarkingInsync relaxed = 8
stage_in LockingCounter relaxed = 9
stage_in (AwaitingReports _) relaxed = 10
stage_in (TakingDesk _) relaxed = 11
stage_in BeginningToServe relaxed = begins_at relaxed
stage_in AtHandlers relaxed = serves_at relaxed
stage_in (Collecting _) relaxed = serves_at relaxed
stage_in LeavingInside relaxed = 14
stage_in (Releasing _) relaxed = 15
stage_in (AwaitingReleased _) relaxed = 16
stage_in (Dismissing _) relaxed = 17
stage_in (AwaitingDismissed _) relaxed = 18
stage_in GivingChair relaxed = 19
stage_in LeavingInsync relaxed = 20
stage_in UnlockingCounter relaxed = 21

-- the number of a loop
abbrev pub next_of : Lead → ℕ
next_of MarkingInside = 0
next_of TakingSource = 0
next_of LookingAtExcept = 0
next_of (GatheringFirst _) = 0
next_of (FindingMissing x) = x
next_of (SignallingMissing x) = x
next_of (GatheringSecond _) = 0
next_of MarkingInsync = 0
next_of LockingCounter = 0
next_of (AwaitingReports x) = x
next_of (TakingDesk x) = x
next_of BeginningToServe = 0
next_of AtHandlers = 0
next_of (Collecting x) = x
next_of LeavingInside = 0
next_of (Releasing x) = x
next_of (AwaitingReleased x) = x
next_of (Dismissing x) = x
next_of (AwaitingDismissed x) = x
next_of GivingChair = 0
next_of LeavingInsync = 0
next_of UnlockingCounter = 0

-- 1 for the positions of the traditional mode alone
abbrev pub is_traditional : Lead → ℕ
is_traditional MarkingInside = 0
is_traditional TakingSource = 0
is_traditional LookingAtExcept = 1
is_traditional (GatheringFirst _) = 1
is_traditional (FindingMissing _) = 1
is_traditional (SignallingMissing _) = 1
is_traditional (GatheringSecond _) = 1
is_traditional MarkingInsync = 0
is_traditional LockingCounter = 0
is_traditional (AwaitingReports _) = 0
is_traditional (TakingDesk _) = 0
is_traditional BeginningToServe = 0
is_traditional AtHandlers = 0
is_traditional (Collecting _) = 0
is_traditional LeavingInside = 0
is_traditional (Releasing _) = 0
is_traditional (AwaitingReleased _) = 0
is_traditional (Dismissing _) = 0
is_traditional (AwaitingDismissed _) = 0
is_traditional GivingChair = 0
is_traditional LeavingInsync = 0
is_traditional UnlockingCounter = 0

-- how far serving is: 1 at its first label, 2 at the handlers, 3 where jobs are collected after them
abbrev pub part_of : Lead → ℕ
part_of MarkingInside = 0
part_of TakingSource = 0
part_of LookingAtExcept = 0
part_of (GatheringFirst _) = 0
part_of (FindingMissing _) = 0
part_of (SignallingMissing _) = 0
part_of (GatheringSecond _) = 0
part_of MarkingInsync = 0
part_of LockingCounter = 0
part_of (AwaitingReports _) = 0
part_of (TakingDesk _) = 0
part_of BeginningToServe = 1
part_of AtHandlers = 2
part_of (Collecting _) = 3
part_of LeavingInside = 0
part_of (Releasing _) = 0
part_of (AwaitingReleased _) = 0
part_of (Dismissing _) = 0
part_of (AwaitingDismissed _) = 0
part_of GivingChair = 0
part_of LeavingInsync = 0
part_of UnlockingCounter = 0

-- 1 where the close has a list of desks, 2 where the exit has one
abbrev pub lists_of : Lead → ℕ
lists_of MarkingInside = 0
lists_of TakingSource = 0
lists_of LookingAtExcept = 0
lists_of (GatheringFirst _) = 0
lists_of (FindingMissing _) = 0
lists_of (SignallingMissing _) = 0
lists_of (GatheringSecond _) = 0
lists_of MarkingInsync = 1
lists_of LockingCounter = 1
lists_of (AwaitingReports _) = 1
lists_of (TakingDesk _) = 1
lists_of BeginningToServe = 0
lists_of AtHandlers = 0
lists_of (Collecting _) = 0
lists_of LeavingInside = 0
lists_of (Releasing _) = 2
lists_of (AwaitingReleased _) = 2
lists_of (Dismissing _) = 2
lists_of (AwaitingDismissed _) = 2
lists_of GivingChair = 0
lists_of LeavingInsync = 0
lists_of UnlockingCounter = 0

pub stage_some : (l : Lead) (relaxed : Bool) → 1 ≤ stage_in l relaxed
stage_some MarkingInside relaxed = omega arith
stage_some TakingSource relaxed = omega arith
stage_some LookingAtExcept relaxed = omega arith
stage_some (GatheringFirst _) relaxed = omega arith
stage_some (FindingMissing _) relaxed = omega arith
stage_some (SignallingMissing _) relaxed = omega arith
stage_some (GatheringSecond _) relaxed = omega arith
stage_some MarkingInsync relaxed = omega arith
stage_some LockingCounter relaxed = omega arith
stage_some (AwaitingReports _) relaxed = omega arith
stage_some (TakingDesk _) relaxed = omega arith
stage_some BeginningToServe true = omega arith
stage_some BeginningToServe false = omega arith
stage_some AtHandlers true = omega arith
stage_some AtHandlers false = omega arith
stage_some (Collecting _) true = omega arith
stage_some (Collecting _) false = omega arith
stage_some LeavingInside relaxed = omega arith
stage_some (Releasing _) relaxed = omega arith
stage_some (AwaitingReleased _) relaxed = omega arith
stage_some (Dismissing _) relaxed = omega arith
stage_some (AwaitingDismissed _) relaxed = omega arith
stage_some GivingChair relaxed = omega arith
stage_some LeavingInsync relaxed = omega arith
stage_some UnlockingCounter relaxed = omega arith

-- the stages 4 and 13 are those at which the handlers serve
pub serves_stage : (l : Lead) (relaxed : Bool) (k : ℕ) → stage_in l relaxed ≡ k → (k ≡ 4) ⊎ (k ≡ 13) → k ≡ 13 - 9 * bit relaxed
serves_stage MarkingInside relaxed k e (inl h) = absurd (omega arith)
serves_stage MarkingInside relaxed k e (inr h) = absurd (omega arith)
serves_stage TakingSource relaxed k e (inl h) = absurd (omega arith)
serves_stage TakingSource relaxed k e (inr h) = absurd (omega arith)
serves_stage LookingAtExcept relaxed k e (inl h) = absurd (omega arith)
serves_stage LookingAtExcept relaxed k e (inr h) = absurd (omega arith)
serves_stage (GatheringFirst _) relaxed k e (inl h) = absurd (omega arith)
serves_stage (GatheringFirst _) relaxed k e (inr h) = absurd (omega arith)
serves_stage (FindingMissing _) relaxed k e (inl h) = absurd (omega arith)
serves_stage (FindingMissing _) relaxed k e (inr h) = absurd (omega arith)
serves_stage (SignallingMissing _) relaxed k e (inl h) = absurd (omega arith)
serves_stage (SignallingMissing _) relaxed k e (inr h) = absurd (omega arith)
serves_stage (GatheringSecond _) relaxed k e (inl h) = absurd (omega arith)
serves_stage (GatheringSecond _) relaxed k e (inr h) = absurd (omega arith)
serves_stage MarkingInsync relaxed k e (inl h) = absurd (omega arith)
serves_stage MarkingInsync relaxed k e (inr h) = absurd (omega arith)
serves_stage LockingCounter relaxed k e (inl h) = absurd (omega arith)
serves_stage LockingCounter relaxed k e (inr h) = absurd (omega arith)
serves_stage (AwaitingReports _) relaxed k e (inl h) = absurd (omega arith)
serves_stage (AwaitingReports _) relaxed k e (inr h) = absurd (omega arith)
serves_stage (TakingDesk _) relaxed k e (inl h) = absurd (omega arith)
serves_stage (TakingDesk _) relaxed k e (inr h) = absurd (omega arith)
serves_stage BeginningToServe true k e (inl h) = omega arith
serves_stage BeginningToServe true k e (inr h) = omega arith
serves_stage BeginningToServe false k e (inl h) = omega arith
serves_stage BeginningToServe false k e (inr h) = omega arith
serves_stage AtHandlers true k e (inl h) = omega arith
serves_stage AtHandlers true k e (inr h) = omega arith
serves_stage AtHandlers false k e (inl h) = omega arith
serves_stage AtHandlers false k e (inr h) = omega arith
serves_stage (Collecting _) true k e (inl h) = omega arith
serves_stage (Collecting _) true k e (inr h) = omega arith
serves_stage (Collecting _) false k e (inl h) = omega arith
serves_stage (Collecting _) false k e (inr h) = omega arith
serves_stage LeavingInside relaxed k e (inl h) = absurd (omega arith)
serves_stage LeavingInside relaxed k e (inr h) = absurd (omega arith)
serves_stage (Releasing _) relaxed k e (inl h) = absurd (omega arith)
serves_stage (Releasing _) relaxed k e (inr h) = absurd (omega arith)
serves_stage (AwaitingReleased _) relaxed k e (inl h) = absurd (omega arith)
serves_stage (AwaitingReleased _) relaxed k e (inr h) = absurd (omega arith)
serves_stage (Dismissing _) relaxed k e (inl h) = absurd (omega arith)
serves_stage (Dismissing _) relaxed k e (inr h) = absurd (omega arith)
serves_stage (AwaitingDismissed _) relaxed k e (inl h) = absurd (omega arith)
serves_stage (AwaitingDismissed _) relaxed k e (inr h) = absurd (omega arith)
serves_stage GivingChair relaxed k e (inl h) = absurd (omega arith)
serves_stage GivingChair relaxed k e (inr h) = absurd (omega arith)
serves_stage LeavingInsync relaxed k e (inl h) = absurd (omega arith)
serves_stage LeavingInsync relaxed k e (inr h) = absurd (omega arith)
serves_stage UnlockingCounter relaxed k e (inl h) = absurd (omega arith)
serves_stage UnlockingCounter relaxed k e (inr h) = absurd (omega arith)

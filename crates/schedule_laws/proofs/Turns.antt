-- Each turn of a processor, position by position.
use Rattle.std.proofs.Common.{ℕ, ◌≡◌, ◌<◌, refl}
use Rattle.cpu_table.specs.Data.{SetupData}
use Rattle.rendezvous_machine.specs.Machines.{Machine}
use Rattle.schedule_laws.proofs.Scenes.{Scene, Seat, Lead, MarkingInside, TakingSource, LookingAtExcept, GatheringFirst, FindingMissing, SignallingMissing, GatheringSecond, MarkingInsync, LockingCounter, AwaitingReports, TakingDesk, BeginningToServe, AtHandlers, Collecting, LeavingInside, Releasing, AwaitingReleased, Dismissing, AwaitingDismissed, GivingChair, LeavingInsync, UnlockingCounter, Position, AwaitingSmi, SwitchingOff, LookingAtSource, LookingInside, CountingIn, ClaimingChair, AskingForChair, Leading, AwaitingInside, FindingBsp, SignallingBsp, AwaitingInsideAgain, CountingOut, SeekingBsp, Reporting, TellingReport, AwaitingRelease, GivingBack, TellingRelease, AwaitingDismissal, Withdrawing, TellingDismissal, AwaitingEnd, ClearingSignal, Away, seat}
use Rattle.schedule_laws.proofs.Invariant.{Context, Holds, KeptAt}
use Rattle.schedule_laws.proofs.Frames.{stays}
use Rattle.schedule_laws.proofs.Visits.{await_smi, switch_off, look_at_source, look_inside, count_in, await_end, clear_signal}
use Rattle.schedule_laws.proofs.Reports.{await_inside, find_bsp, signal_bsp, await_inside_again, count_out, seek_bsp, report, tell_report}
use Rattle.schedule_laws.proofs.Works.{await_release, tell_release, await_dismissal, withdraw, tell_dismissal}
use Rattle.schedule_laws.proofs.WorkRuns.{give_back}
use Rattle.schedule_laws.proofs.Elections.{claim_chair, ask_for_chair}
use Rattle.schedule_laws.proofs.Gatherings.{mark_inside, take_source, look_at_except}
use Rattle.schedule_laws.proofs.GatherLooks.{gather_first, find_missing, signal_missing, gather_second}
use Rattle.schedule_laws.proofs.Closes.{mark_insync}
use Rattle.schedule_laws.proofs.Desks.{lock_counter, await_reports, take_desk}
use Rattle.schedule_laws.proofs.Exits.{leave_inside, await_released, await_dismissed}
use Rattle.schedule_laws.proofs.Releases.{release, dismiss}
use Rattle.schedule_laws.proofs.Endings.{give_chair, leave_insync, unlock_counter}
use Rattle.schedule_laws.proofs.Schedules.{AllTurnsKept}
use Rattle.schedule_laws.proofs.HandlerBegins.{begin_to_serve}
use Rattle.schedule_laws.proofs.Handlers.{at_handlers}
use Rattle.schedule_laws.proofs.Collects.{collect}

-- a turn of the BSP at this position keeps what holds
abbrev pub LeadKept : SetupData → Lead → Type 0
LeadKept d lead =
    (c : Context) (i : ℕ) (s : Scene) (m : Machine) (t : Seat) → Holds d c s m → i < d.processors → seat s i ≡ t → t.position ≡ Leading lead → KeptAt d s m i t (Leading lead)

module _ (d : SetupData) where
  lead_kept : (lead : Lead) → LeadKept d lead
  lead_kept MarkingInside c i s m t f l e q = mark_inside d c i s m t f l e q
  lead_kept TakingSource c i s m t f l e q = take_source d c i s m t f l e q
  lead_kept LookingAtExcept c i s m t f l e q = look_at_except d c i s m t f l e q
  lead_kept (GatheringFirst looks) c i s m t f l e q = gather_first d c i s m t looks f l e q
  lead_kept (FindingMissing j) c i s m t f l e q = find_missing d c i s m t j f l e q
  lead_kept (SignallingMissing j) c i s m t f l e q = signal_missing d c i s m t j f l e q
  lead_kept (GatheringSecond looks) c i s m t f l e q = gather_second d c i s m t looks f l e q
  lead_kept MarkingInsync c i s m t f l e q = mark_insync d c i s m t f l e q
  lead_kept LockingCounter c i s m t f l e q = lock_counter d c i s m t f l e q
  lead_kept (AwaitingReports left) c i s m t f l e q = await_reports d c i s m t left f l e q
  lead_kept (TakingDesk j) c i s m t f l e q = take_desk d c i s m t j f l e q
  lead_kept BeginningToServe c i s m t f l e q = begin_to_serve d c i s m t f l e q
  lead_kept AtHandlers c i s m t f l e q = at_handlers d c i s m t f l e q
  lead_kept (Collecting j) c i s m t f l e q = collect d c i s m t j f l e q
  lead_kept LeavingInside c i s m t f l e q = leave_inside d c i s m t f l e q
  lead_kept (Releasing j) c i s m t f l e q = release d c i s m t j f l e q
  lead_kept (AwaitingReleased left) c i s m t f l e q = await_released d c i s m t left f l e q
  lead_kept (Dismissing j) c i s m t f l e q = dismiss d c i s m t j f l e q
  lead_kept (AwaitingDismissed left) c i s m t f l e q = await_dismissed d c i s m t left f l e q
  lead_kept GivingChair c i s m t f l e q = give_chair d c i s m t f l e q
  lead_kept LeavingInsync c i s m t f l e q = leave_insync d c i s m t f l e q
  lead_kept UnlockingCounter c i s m t f l e q = unlock_counter d c i s m t f l e q

  turn_kept : (at : Position) (c : Context) (i : ℕ) (s : Scene) (m : Machine) (t : Seat) → Holds d c s m → i < d.processors → seat s i ≡ t → t.position ≡ at → KeptAt d s m i t at
  turn_kept AwaitingSmi c i s m t f l e q = await_smi d c i s m t f l e q
  turn_kept SwitchingOff c i s m t f l e q = switch_off d c i s m t f l e q
  turn_kept LookingAtSource c i s m t f l e q = look_at_source d c i s m t f l e q
  turn_kept (LookingInside source) c i s m t f l e q = look_inside d c i s m t source f l e q
  turn_kept (CountingIn source inside) c i s m t f l e q = count_in d c i s m t source inside f l e q
  turn_kept (ClaimingChair source inside) c i s m t f l e q = claim_chair d c i s m t source inside f l e q
  turn_kept (AskingForChair source inside) c i s m t f l e q = ask_for_chair d c i s m t source inside f l e q
  turn_kept (Leading lead) c i s m t f l e q = lead_kept lead c i s m t f l e q
  turn_kept (AwaitingInside looks) c i s m t f l e q = await_inside d c i s m t looks f l e q
  turn_kept FindingBsp c i s m t f l e q = find_bsp d c i s m t f l e q
  turn_kept (SignallingBsp seen) c i s m t f l e q = signal_bsp d c i s m t seen f l e q
  turn_kept (AwaitingInsideAgain looks seen) c i s m t f l e q = await_inside_again d c i s m t looks seen f l e q
  turn_kept (CountingOut seen) c i s m t f l e q = count_out d c i s m t seen f l e q
  turn_kept (SeekingBsp seen) c i s m t f l e q = seek_bsp d c i s m t seen f l e q
  turn_kept Reporting c i s m t f l e q = report d c i s m t f l e q
  turn_kept TellingReport c i s m t f l e q = tell_report d c i s m t f l e q
  turn_kept AwaitingRelease c i s m t f l e q = await_release d c i s m t f l e q
  turn_kept GivingBack c i s m t f l e q = give_back d c i s m t f l e q
  turn_kept TellingRelease c i s m t f l e q = tell_release d c i s m t f l e q
  turn_kept AwaitingDismissal c i s m t f l e q = await_dismissal d c i s m t f l e q
  turn_kept Withdrawing c i s m t f l e q = withdraw d c i s m t f l e q
  turn_kept TellingDismissal c i s m t f l e q = tell_dismissal d c i s m t f l e q
  turn_kept AwaitingEnd c i s m t f l e q = await_end d c i s m t f l e q
  turn_kept ClearingSignal c i s m t f l e q = clear_signal d c i s m t f l e q
  turn_kept Away c i s m t f l e q = stays d c s m f

  pub all_turns : AllTurnsKept d
  all_turns c s m i f l = turn_kept (seat s i).position c i s m (seat s i) f l refl refl

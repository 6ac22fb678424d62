-- What changes hands on which word, and who wants nothing.
use Rattle.std.proofs.Common.{◌≡◌, ◌≢◌, ℕ, true, false, Option, Some, None, refl, subst}
use Rattle.std.specs.Prelude.{◌↔◌, is_none}
use Rattle.sync_words.specs.declared.event.Want.{Want}
use Rattle.sync_words.specs.declared.event.Want.TheVariants as want
use Rattle.sync_words.specs.declared.row.Row.{Row}
use Rattle.sync_words.specs.declared.row.Row.TheVariants as row
use Rattle.arrival.specs.Entry as entry
use Rattle.arrival.specs.Gather as gather
use Rattle.arrival.specs.Report as report
use Rattle.exit_handshake.specs.Close as close
use Rattle.exit_handshake.specs.Exit as exit
use Rattle.cpu_table.specs.Data.{SetupData}
use Rattle.handler_ops.specs.declared.need.Need.{Need}
use Rattle.handler_ops.specs.declared.need.Need.TheVariants as need
use Rattle.handler_ops.specs.Course.{Desks}
use Rattle.handler_ops.specs.Sessions.{Session}
use Rattle.handler_ops.specs.Told.{need_as}
use Rattle.chipset.specs.Chipsets.{Chipset, want_at_row}
use Rattle.cpu_program.specs.Actors.{Processor, Actor, OfProcessor, OfChipset, Part, Between, Entering, Gathering, Closing, Serving, Exiting, Reporting, Off}
use Rattle.chipset.specs.Bounds.{IsChipsetRow}
use Rattle.cpu_program.specs.Bounds.{IsRow, IsServing, IsPart, IsActor}
use Rattle.cpu_program.specs.Laws.{MovesOnItsWord}
use Rattle.cpu_program.specs.Processors.{want_at, want_for, want_of_session, want_in, is_at_need, is_off_part}
use Rattle.cpu_program.specs.Programs.{want_of, is_off, processors_of}
use Rattle.cpu_program.proofs.WantLemmas.{at_need}

-- WHICH WORD

row_moves : (r : Row) (me bsp n : ℕ) → MovesOnItsWord n (want_at r me bsp)
row_moves (row.CollectJob cpu) me bsp n = refl
row_moves row.AwaitRelease me bsp n = refl
row_moves row.GiveDeskBack me bsp n = refl
row_moves row.AwaitSmi me bsp n = tt
row_moves row.SwitchOff me bsp n = tt
row_moves row.MarkInside me bsp n = tt
row_moves row.TakeSource me bsp n = tt
row_moves row.LeaveInside me bsp n = tt
row_moves row.TellReleased me bsp n = tt
row_moves row.AwaitDismissal me bsp n = tt
row_moves row.WithdrawReport me bsp n = tt
row_moves row.TellDismissed me bsp n = tt
row_moves row.AwaitSessionEnd me bsp n = tt
row_moves row.ClearSignal me bsp n = tt
row_moves _ me bsp n = tt

entry_moves : (r : Row) (e : entry.EntryPosition) → MovesOnItsWord e.processors (entry.want_of r e)
entry_moves row.LookAtSource e = tt
entry_moves row.LookAtInside e = tt
entry_moves row.CountIn e = tt
entry_moves row.ClaimBsp e = refl
entry_moves row.LookAtBsp e = tt
entry_moves _ e = tt

gather_moves : (r : Row) (g : gather.GatherPosition) → MovesOnItsWord g.processors (gather.want_of r g)
gather_moves row.LookAtExcept g = tt
gather_moves (row.GatherFirst looks) g = tt
gather_moves (row.FindMissing j) g = tt
gather_moves (row.SignalMissing j) g = tt
gather_moves (row.GatherSecond looks) g = tt
gather_moves _ g = tt

close_moves : (r : Row) (c : close.ClosePosition) → MovesOnItsWord c.processors (close.want_of r c)
close_moves row.MarkInsync c = tt
close_moves row.LockCounter c = tt
close_moves (row.AwaitReports left) c = tt
close_moves (row.TakeDesk cpu) c = refl
close_moves _ c = tt

exit_moves : (r : Row) (e : exit.ExitPosition) → MovesOnItsWord e.processors (exit.want_of r e)
exit_moves (row.Release cpu) e = refl
exit_moves (row.AwaitReleased left) e = tt
exit_moves (row.Dismiss cpu) e = tt
exit_moves (row.AwaitDismissed left) e = tt
exit_moves row.GiveBsp e = refl
exit_moves row.LeaveInsync e = tt
exit_moves row.UnlockCounter e = tt
exit_moves _ e = tt

report_moves : (r : Row) (q : report.ReportPosition) → MovesOnItsWord q.processors (report.want_of r q)
report_moves (row.AwaitInside looks) q = tt
report_moves row.FindBsp q = tt
report_moves row.SignalBsp q = tt
report_moves (row.AwaitInsideAgain looks) q = tt
report_moves row.CountOut q = tt
report_moves row.SeekBsp q = tt
report_moves row.Report q = refl
report_moves row.TellReported q = tt
report_moves _ q = tt

need_moves : (n : ℕ) (what : Need) → MovesOnItsWord n (want_for what)
need_moves n need.Look = tt
need_moves n (need.ClaimPresent c) = refl
need_moves n (need.ClaimBusy c) = refl
need_moves n (need.AwaitBusy c) = refl
need_moves n (need.PutBusy c) = tt
need_moves n (need.RaiseRun c) = refl
need_moves n need.Finished = tt

session_moves : (n : ℕ) (chair : Option Session) → MovesOnItsWord n (want_of_session chair)
session_moves n None = tt
session_moves n (Some s) = need_moves n (need_as s.told)

part_moves : (part : Part) (p : Processor) → IsPart part p.setup p.visits p.chair p.held → MovesOnItsWord p.setup.processors (want_in part p)
part_moves (Between r) p h = row_moves r p.me p.bsp p.setup.processors
part_moves (Entering e) p h = subst (λ n. MovesOnItsWord n (entry.want_of e.row e)) h.1.same (entry_moves e.row e)
part_moves (Gathering g) p h = subst (λ n. MovesOnItsWord n (gather.want_of g.row g)) h.1.same (gather_moves g.row g)
part_moves (Closing c) p h = subst (λ n. MovesOnItsWord n (close.want_of c.row c)) h.1.same (close_moves c.row c)
part_moves Serving p h = session_moves p.setup.processors p.chair
part_moves (Exiting e) p h = subst (λ n. MovesOnItsWord n (exit.want_of e.row e)) h.1.same (exit_moves e.row e)
part_moves (Reporting r) p h = subst (λ n. MovesOnItsWord n (report.want_of r.row r)) h.1.same (report_moves r.row r)
part_moves Off p h = tt

chipset_moves : (r : Option Row) (c : Chipset) → IsChipsetRow r c → MovesOnItsWord c.setup.processors (want_at_row r c)
chipset_moves None c h = tt
chipset_moves (Some row.AnnounceBlocked) c h = tt
chipset_moves (Some row.AnnounceWave) c h = tt
chipset_moves (Some (row.RaiseWave cpu)) c h = tt
chipset_moves (Some (row.WatchSource looks)) c h = tt
chipset_moves (Some row.AwaitServed) c h = tt
chipset_moves (Some (row.RaiseOff cpu)) c h = tt
chipset_moves (Some _) c h = absurd h

pub things_move : (a : Actor) → IsActor a → MovesOnItsWord (processors_of a) (want_of a)
things_move (OfProcessor p) h = part_moves p.part p h.part
things_move (OfChipset c) h = chipset_moves c.row c h.row

-- WHO WANTS NOTHING

row_wants : (r : Row) (me bsp visits : ℕ) (d : SetupData) → IsRow r d visits → want_at r me bsp ≢ want.Off
row_wants row.AwaitSmi me bsp visits d h = λ e. cc
row_wants row.SwitchOff me bsp visits d h = λ e. cc
row_wants row.MarkInside me bsp visits d h = λ e. cc
row_wants row.TakeSource me bsp visits d h = λ e. cc
row_wants (row.CollectJob cpu) me bsp visits d h = λ e. cc
row_wants row.LeaveInside me bsp visits d h = λ e. cc
row_wants row.AwaitRelease me bsp visits d h = λ e. cc
row_wants row.GiveDeskBack me bsp visits d h = λ e. cc
row_wants row.TellReleased me bsp visits d h = λ e. cc
row_wants row.AwaitDismissal me bsp visits d h = λ e. cc
row_wants row.WithdrawReport me bsp visits d h = λ e. cc
row_wants row.TellDismissed me bsp visits d h = λ e. cc
row_wants row.AwaitSessionEnd me bsp visits d h = λ e. cc
row_wants row.ClearSignal me bsp visits d h = λ e. cc
row_wants _ me bsp visits d h = absurd h

entry_wants : (r : Row) (e : entry.EntryPosition) → entry.left_of r ≡ None → entry.want_of r e ≢ want.Off
entry_wants row.LookAtSource e on = λ is. cc
entry_wants row.LookAtInside e on = λ is. cc
entry_wants row.CountIn e on = λ is. cc
entry_wants row.ClaimBsp e on = λ is. cc
entry_wants row.LookAtBsp e on = λ is. cc
entry_wants _ e on = absurd cc

gather_wants : (r : Row) (g : gather.GatherPosition) → gather.left_of r ≡ None → gather.want_of r g ≢ want.Off
gather_wants row.LookAtExcept g on = λ is. cc
gather_wants (row.GatherFirst looks) g on = λ is. cc
gather_wants (row.FindMissing j) g on = λ is. cc
gather_wants (row.SignalMissing j) g on = λ is. cc
gather_wants (row.GatherSecond looks) g on = λ is. cc
gather_wants _ g on = absurd cc

close_wants : (r : Row) (c : close.ClosePosition) → close.left_of r ≡ None → close.want_of r c ≢ want.Off
close_wants row.MarkInsync c on = λ is. cc
close_wants row.LockCounter c on = λ is. cc
close_wants (row.AwaitReports left) c on = λ is. cc
close_wants (row.TakeDesk cpu) c on = λ is. cc
close_wants _ c on = absurd cc

exit_wants : (r : Row) (e : exit.ExitPosition) → exit.left_of r ≡ None → exit.want_of r e ≢ want.Off
exit_wants (row.Release cpu) e on = λ is. cc
exit_wants (row.AwaitReleased left) e on = λ is. cc
exit_wants (row.Dismiss cpu) e on = λ is. cc
exit_wants (row.AwaitDismissed left) e on = λ is. cc
exit_wants row.GiveBsp e on = λ is. cc
exit_wants row.LeaveInsync e on = λ is. cc
exit_wants row.UnlockCounter e on = λ is. cc
exit_wants _ e on = absurd cc

report_wants : (r : Row) (q : report.ReportPosition) → report.left_of r ≡ None → report.want_of r q ≢ want.Off
report_wants (row.AwaitInside looks) q on = λ is. cc
report_wants row.FindBsp q on = λ is. cc
report_wants row.SignalBsp q on = λ is. cc
report_wants (row.AwaitInsideAgain looks) q on = λ is. cc
report_wants row.CountOut q on = λ is. cc
report_wants row.SeekBsp q on = λ is. cc
report_wants row.Report q on = λ is. cc
report_wants row.TellReported q on = λ is. cc
report_wants _ q on = absurd cc

need_wants : (n : ℕ) (what : Need) → is_at_need n what ≡ true → want_for what ≢ want.Off
need_wants n need.Look h = λ e. cc
need_wants n (need.ClaimPresent c) h = λ e. cc
need_wants n (need.ClaimBusy c) h = λ e. cc
need_wants n (need.AwaitBusy c) h = λ e. cc
need_wants n (need.PutBusy c) h = λ e. cc
need_wants n (need.RaiseRun c) h = λ e. cc
need_wants n need.Finished h = absurd cc

session_wants : (n : ℕ) (chair : Option Session) (held : Desks) → IsServing n chair held → want_of_session chair ≢ want.Off
session_wants n None held h = absurd h
session_wants n (Some s) held h = need_wants n (need_as s.told) (at_need n s.told held h.1)

no_off : (w : Want) → w ≢ want.Off → (w ≡ want.Off) ↔ (false ≡ true)
no_off w h = (λ e. absurd (h e), λ e. absurd cc)

part_off : (part : Part) (p : Processor) → IsPart part p.setup p.visits p.chair p.held → (want_in part p ≡ want.Off) ↔ (is_off_part part ≡ true)
part_off (Between r) p h = no_off (want_at r p.me p.bsp) (row_wants r p.me p.bsp p.visits p.setup h)
part_off (Entering e) p h = no_off (entry.want_of e.row e) (entry_wants e.row e h.1.here)
part_off (Gathering g) p h = no_off (gather.want_of g.row g) (gather_wants g.row g h.1.here)
part_off (Closing c) p h = no_off (close.want_of c.row c) (close_wants c.row c h.1.here)
part_off Serving p h = no_off (want_of_session p.chair) (session_wants p.setup.processors p.chair p.held h)
part_off (Exiting e) p h = no_off (exit.want_of e.row e) (exit_wants e.row e h.1.here)
part_off (Reporting r) p h = no_off (report.want_of r.row r) (report_wants r.row r h.1.here)
part_off Off p h = (λ e. refl, λ e. refl)

chipset_wants : (r : Row) (c : Chipset) → IsChipsetRow (Some r) c → want_at_row (Some r) c ≢ want.Off
chipset_wants row.AnnounceBlocked c h = λ e. cc
chipset_wants row.AnnounceWave c h = λ e. cc
chipset_wants (row.RaiseWave cpu) c h = λ e. cc
chipset_wants (row.WatchSource looks) c h = λ e. cc
chipset_wants row.AwaitServed c h = λ e. cc
chipset_wants (row.RaiseOff cpu) c h = λ e. cc
chipset_wants _ c h = absurd h

chipset_off : (r : Option Row) (c : Chipset) → IsChipsetRow r c → (want_at_row r c ≡ want.Off) ↔ (is_none r ≡ true)
chipset_off None c h = (λ e. refl, λ e. refl)
chipset_off (Some r) c h = no_off (want_at_row (Some r) c) (chipset_wants r c h)

pub off_wants : (a : Actor) → IsActor a → (want_of a ≡ want.Off) ↔ (is_off a ≡ true)
off_wants (OfProcessor p) h = part_off p.part p h.part
off_wants (OfChipset c) h = chipset_off c.row c h.row

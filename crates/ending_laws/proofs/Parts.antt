-- The parts of a processor in five classes, and to which of them each position leads.
use Rattle.std.proofs.Common.{ℕ, ◌+◌, ◌-◌, ◌≡◌, ◌≢◌, ◌<◌, ◌≤◌, ◌⊎◌, ⊎_elim, arith, Bool, true, false, Option, Some, None, refl, ap, ◌∙◌}
use Rattle.std.specs.Prelude.{◌==◌, ◌&&◌, nat_lt, nat_le, if◌then◌else◌}
use Rattle.smm_base.specs.declared.kinds.Policy.{Policy}
use Rattle.smm_base.specs.declared.kinds.Policy.TheVariants.{Elected, Fixed}
use Rattle.cpu_table.specs.Data.{SetupData}
use Rattle.cpu_table.specs.declared.setup.Mode.{Mode}
use Rattle.cpu_table.specs.declared.setup.Mode.TheVariants.{Traditional, Relaxed}
use Rattle.sync_words.specs.declared.access.TheConstants.{LOCKED}
use Rattle.sync_words.specs.declared.label.Label.TheVariants as say
use Rattle.sync_words.specs.declared.row.Row.{Row}
use Rattle.sync_words.specs.declared.row.Row.TheVariants as row
use Rattle.sync_words.specs.Steps.{Taken, says, next_below, row_or}
use Rattle.arrival.specs.Rounds.{is_last_look}
use Rattle.arrival.specs.Entry as entry
use Rattle.arrival.specs.Gather as gather
use Rattle.arrival.specs.Report as report
use Rattle.exit_handshake.specs.Close as close
use Rattle.exit_handshake.specs.Exit as exit
use Rattle.handler_ops.specs.declared.desk.Desk.{Desk}
use Rattle.handler_ops.specs.Told.{handed_as}
use Rattle.handler_ops.specs.Sessions.{Session, begun_session}
use Rattle.handler_ops.specs.Answering.{told_on, answered, move_as, kept_as, taken_off}
use Rattle.cpu_program.specs.declared.part.Part.{Part}
use Rattle.cpu_program.specs.declared.part.Part.TheVariants as part
use Rattle.cpu_program.specs.Actors.{Processor}
use Rattle.cpu_program.specs.Processors.{go_on, at_row, left_to, resumed, after_source, after_jobs, to_jobs, owes_job, with_need, work_row, job_to_run, own_desk, is_relaxed, is_elected, can_serve, begin_serving, serve_on, taken_serving, taken_in, entry_taken, gather_taken, close_taken, exit_taken, report_taken, known_bsp}
use Rattle.schedule_laws.proofs.Scenes.{Position, Lead, MarkingInside, TakingSource, LookingAtExcept, GatheringFirst, FindingMissing, SignallingMissing, GatheringSecond, MarkingInsync, LockingCounter, AwaitingReports, TakingDesk, BeginningToServe, AtHandlers, Collecting, LeavingInside, Releasing, AwaitingReleased, Dismissing, AwaitingDismissed, GivingChair, LeavingInsync, UnlockingCounter, Seat, AwaitingSmi, SwitchingOff, LookingAtSource, LookingInside, CountingIn, ClaimingChair, AskingForChair, Leading, AwaitingInside, FindingBsp, SignallingBsp, AwaitingInsideAgain, CountingOut, SeekingBsp, Reporting, TellingReport, AwaitingRelease, GivingBack, TellingRelease, AwaitingDismissal, Withdrawing, TellingDismissal, AwaitingEnd, ClearingSignal, Away, lead_at, part_at}
use Rattle.schedule_laws.proofs.Stations.{station_of, low}
use Rattle.schedule_laws.proofs.Leads.{stage_in}

-- 1 where the BSP serves or collects jobs, 2 where an AP was released, 3 where a processor is out and may be signalled, 4 where it is off
abbrev pub class_row : Row → ℕ
class_row row.AwaitSmi = 3
class_row row.SwitchOff = 3
class_row row.Serve = 1
class_row (row.CollectJob cpu) = 1
class_row row.TellReleased = 2
class_row row.AwaitDismissal = 2
class_row row.WithdrawReport = 2
class_row row.TellDismissed = 2
class_row _ = 0

abbrev pub class_of : Part → ℕ
class_of (part.Between r) = class_row r
class_of part.Serving = 1
class_of part.Off = 4
class_of _ = 0

-- GOING ON

go_on_le : (r : Row) (p : Processor) → class_of (go_on r p).part ≤ class_row r
go_on_le row.AwaitSmi p = omega arith
go_on_le row.SwitchOff p = omega arith
go_on_le row.Serve p = omega arith
go_on_le (row.CollectJob cpu) p = omega arith
go_on_le row.TellReleased p = omega arith
go_on_le row.AwaitDismissal p = omega arith
go_on_le row.WithdrawReport p = omega arith
go_on_le row.TellDismissed p = omega arith
go_on_le _ p = omega arith

if_row : (b : Bool) (x y : Row) (k : ℕ) → class_row x ≤ k → class_row y ≤ k → class_row (if b then x else y) ≤ k
if_row true x y k f g = f
if_row false x y k f g = g

loop_row : (at : ℕ → Row) (after : Row) (o : Option ℕ) (k : ℕ) → ((j : ℕ) → class_row (at j) ≤ k) → class_row after ≤ k → class_row (row_or at after o) ≤ k
loop_row at after None k f g = g
loop_row at after (Some j) k f g = f j

jobs_row : (m : Mode) → class_row (after_jobs m) ≤ 1
jobs_row Traditional = omega arith
jobs_row Relaxed = omega arith

to_jobs_row : (from : ℕ) (p : Processor) → class_row (to_jobs from p) ≤ 1
to_jobs_row from p = loop_row row.CollectJob (after_jobs p.setup.mode) (next_below p.setup.processors (owes_job p.chair) from) 1 (λ j. omega arith) (jobs_row p.setup.mode)

needs : (b : Bool) (p : Processor) → class_of (with_need b p).part ≤ 1
needs true p = omega arith
needs false p = let a = go_on_le (to_jobs 0 p) p in let b = to_jobs_row 0 p in omega (arith, a, b)

serves : (s : Session) (p : Processor) → class_of (serve_on s p).part ≤ 1
serves s p =
    let k : Session = told_on p.held s in
    needs (can_serve p.setup.processors k.told (handed_as k.told p.held)) (record p { chair = Some k; held = handed_as k.told p.held })

begins : (o : Option Session) (p : Processor) → class_of (begin_serving o p).part ≤ 1
begins None p = let a = go_on_le (after_jobs p.setup.mode) p in let b = jobs_row p.setup.mode in omega (arith, a, b)
begins (Some s) p = serves (begun_session p.me p.wave s) p

at_row_le : (r : Row) (p : Processor) → class_of (at_row r p).part ≤ class_row r
at_row_le row.Serve p = begins p.chair p
at_row_le r p = go_on_le r p

-- where a part has ended the row that comes next is its own
abbrev IsLeft : Option Row → Row → Type 0
IsLeft None r = Unit {0}
IsLeft (Some x) r = x ≡ r

left_le : (o : Option Row) (r : Row) (q : Processor) (k : ℕ) → IsLeft o r → class_of q.part ≡ 0 → class_row r ≤ k → class_of (left_to o q).part ≤ k
left_le None r q k i z h = omega (arith, z)
left_le (Some x) r q k i z h = let a = at_row_le x q in let b = ap class_row i in omega (arith, a, b, h)

entry_left : (r : Row) → IsLeft (entry.left_of r) r
entry_left row.LookAtSource = tt
entry_left row.LookAtInside = tt
entry_left row.CountIn = tt
entry_left row.ClaimBsp = tt
entry_left row.LookAtBsp = tt
entry_left _ = refl

gather_left : (r : Row) → IsLeft (gather.left_of r) r
gather_left row.LookAtExcept = tt
gather_left (row.GatherFirst looks) = tt
gather_left (row.FindMissing j) = tt
gather_left (row.SignalMissing j) = tt
gather_left (row.GatherSecond looks) = tt
gather_left _ = refl

close_left : (r : Row) → IsLeft (close.left_of r) r
close_left row.MarkInsync = tt
close_left row.LockCounter = tt
close_left (row.AwaitReports left) = tt
close_left (row.TakeDesk cpu) = tt
close_left _ = refl

exit_left : (r : Row) → IsLeft (exit.left_of r) r
exit_left (row.Release cpu) = tt
exit_left (row.AwaitReleased left) = tt
exit_left (row.Dismiss cpu) = tt
exit_left (row.AwaitDismissed left) = tt
exit_left row.GiveBsp = tt
exit_left row.LeaveInsync = tt
exit_left row.UnlockCounter = tt
exit_left _ = refl

report_left : (r : Row) → IsLeft (report.left_of r) r
report_left (row.AwaitInside looks) = tt
report_left row.FindBsp = tt
report_left row.SignalBsp = tt
report_left (row.AwaitInsideAgain looks) = tt
report_left row.CountOut = tt
report_left row.SeekBsp = tt
report_left row.Report = tt
report_left row.TellReported = tt
report_left _ = refl

entry_le : (t : Taken entry.EntryPosition) (p : Processor) (k : ℕ) → class_row t.after.row ≤ k → class_of (entry_taken t p).after.part ≤ k
entry_le t p k h = left_le (entry.left_of t.after.row) t.after.row (record p { part = part.Entering t.after }) k (entry_left t.after.row) refl h

gather_le : (t : Taken gather.GatherPosition) (p : Processor) (k : ℕ) → class_row t.after.row ≤ k → class_of (gather_taken t p).after.part ≤ k
gather_le t p k h = left_le (gather.left_of t.after.row) t.after.row (record p { part = part.Gathering t.after }) k (gather_left t.after.row) refl h

close_le : (t : Taken close.ClosePosition) (p : Processor) (k : ℕ) → class_row t.after.row ≤ k → class_of (close_taken t p).after.part ≤ k
close_le t p k h = left_le (close.left_of t.after.row) t.after.row (record p { part = part.Closing t.after }) k (close_left t.after.row) refl h

exit_le : (t : Taken exit.ExitPosition) (p : Processor) (k : ℕ) → class_row t.after.row ≤ k → class_of (exit_taken t p).after.part ≤ k
exit_le t p k h = left_le (exit.left_of t.after.row) t.after.row (record p { part = part.Exiting t.after }) k (exit_left t.after.row) refl h

known_part : (o : Option ℕ) (p : Processor) → class_of p.part ≡ 0 → class_of (known_bsp o p).part ≡ 0
known_part None p h = h
known_part (Some b) p h = h

report_le : (t : Taken report.ReportPosition) (p : Processor) (k : ℕ) → class_row t.after.row ≤ k → class_of (report_taken t p).after.part ≤ k
report_le t p k h =
    left_le (report.left_of t.after.row) t.after.row (known_bsp (report.bsp_of t.after.row t.after.bsp) (record p { part = part.Reporting t.after })) k (report_left t.after.row)
    (known_part (report.bsp_of t.after.row t.after.bsp) (record p { part = part.Reporting t.after }) refl) h

-- THE ROWS OF LOOPS

elect_row : (p : Policy) → class_row (entry.to_elect p) ≤ 0
elect_row Elected = omega arith
elect_row (Fixed b) = omega arith

elected_row : (b : Bool) (e : entry.EntryPosition) → class_row (entry.elected b e).after.row ≤ 0
elected_row true e = omega arith
elected_row false e = omega arith

missing_row : (n me from : ℕ) → class_row (gather.to_missing n me from) ≤ 0
missing_row n me from = loop_row row.FindMissing (row.GatherSecond 0) (next_below n (gather.is_other me) from) 0 (λ j. omega arith) (omega arith)

looked_row : (b e : Bool) (counted round : ℕ) (again after : Row) (g : gather.GatherPosition) → class_row again ≤ 0 → class_row after ≤ 0
    → class_row (gather.looked b e counted round again after g).after.row ≤ 0
looked_row true e counted round again after g x y = omega arith
looked_row false true counted round again after g x y = y
looked_row false false counted round again after g x y = x

closed_row : (b : Bool) → class_row (close.after_close b) ≤ 1
closed_row true = omega arith
closed_row false = omega arith

desks_row : (p : close.ClosePosition) (from : ℕ) → class_row (close.to_desks p from) ≤ 1
desks_row p from = loop_row row.TakeDesk (close.after_close p.relaxed) (next_below p.processors (close.lacks p) from) 1 (λ j. omega arith) (closed_row p.relaxed)

reports_row : (p : close.ClosePosition) (left : ℕ) → class_row (close.to_reports p left) ≤ 1
reports_row p left = if_row (left == 0) (close.to_desks p 0) (row.AwaitReports left) 1 (desks_row p 0) (omega arith)

rounds_row : (b : Bool) → class_row (exit.after_rounds b) ≤ 0
rounds_row true = omega arith
rounds_row false = omega arith

dismissed_row : (p : exit.ExitPosition) (left : ℕ) → class_row (exit.to_dismissed p left) ≤ 0
dismissed_row p left = if_row (left == 0) (exit.after_rounds p.elected) (row.AwaitDismissed left) 0 (rounds_row p.elected) (omega arith)

dismissals_row : (p : exit.ExitPosition) (from : ℕ) → class_row (exit.to_dismissals p from) ≤ 0
dismissals_row p from = loop_row row.Dismiss (exit.to_dismissed p (exit.ap_count p)) (next_below p.processors (exit.is_ap p) from) 0 (λ j. omega arith) (dismissed_row p (exit.ap_count p))

released_row : (p : exit.ExitPosition) (left : ℕ) → class_row (exit.to_released p left) ≤ 0
released_row p left = if_row (left == 0) (exit.to_dismissals p 0) (row.AwaitReleased left) 0 (dismissals_row p 0) (omega arith)

releases_row : (p : exit.ExitPosition) (from : ℕ) → class_row (exit.to_releases p from) ≤ 0
releases_row p from = loop_row row.Release (exit.to_released p (exit.ap_count p)) (next_below p.processors (exit.is_ap p) from) 0 (λ j. omega arith) (released_row p (exit.ap_count p))

source_row : (m : Mode) → class_row (after_source m) ≤ 1
source_row Traditional = omega arith
source_row Relaxed = omega arith

-- EACH POSITION

-- the classes to which the BSP goes on
abbrev pub most_led : Lead → ℕ
most_led LeavingInside = 0
most_led (Releasing j) = 0
most_led (AwaitingReleased left) = 0
most_led (Dismissing j) = 0
most_led (AwaitingDismissed left) = 0
most_led GivingChair = 0
most_led LeavingInsync = 0
most_led UnlockingCounter = 0
most_led _ = 1

pub most_led-le : (lead : Lead) → most_led lead ≤ 1
most_led-le MarkingInside = omega arith
most_led-le TakingSource = omega arith
most_led-le LookingAtExcept = omega arith
most_led-le (GatheringFirst looks) = omega arith
most_led-le (FindingMissing j) = omega arith
most_led-le (SignallingMissing j) = omega arith
most_led-le (GatheringSecond looks) = omega arith
most_led-le MarkingInsync = omega arith
most_led-le LockingCounter = omega arith
most_led-le (AwaitingReports left) = omega arith
most_led-le (TakingDesk j) = omega arith
most_led-le BeginningToServe = omega arith
most_led-le AtHandlers = omega arith
most_led-le (Collecting j) = omega arith
most_led-le LeavingInside = omega arith
most_led-le (Releasing j) = omega arith
most_led-le (AwaitingReleased left) = omega arith
most_led-le (Dismissing j) = omega arith
most_led-le (AwaitingDismissed left) = omega arith
most_led-le GivingChair = omega arith
most_led-le LeavingInsync = omega arith
most_led-le UnlockingCounter = omega arith

-- and any processor, but where its signal changes
abbrev pub most_of : Position → ℕ
most_of AwaitingRelease = 2
most_of TellingRelease = 2
most_of AwaitingDismissal = 2
most_of Withdrawing = 2
most_of (Leading lead) = most_led lead
most_of AwaitingSmi = 4
most_of SwitchingOff = 4
most_of ClearingSignal = 4
most_of Away = 4
most_of _ = 0

serving_le : (o : Option Session) (p : Processor) (found : ℕ) → class_of p.part ≤ 1 → class_of (taken_serving o p found).after.part ≤ 1
serving_le None p found h = h
serving_le (Some s) p found h = serves (answered (move_as s found p.held) p.held s) (record p { held = kept_as s.told found p.held })

-- choices of an AP
inside_row : (b : Bool) (e : entry.EntryPosition) (found : ℕ) → class_row (if b then says say.Turn (entry.go e row.AwaitSessionEnd) else says say.Silent (record e { row = row.CountIn; inside = found })).after.row ≤ 0
inside_row true e found = omega arith
inside_row false e found = omega arith

count_row : (b : Bool) (e : entry.EntryPosition) (r : Row) → class_row r ≤ 0 → class_row (if b then says say.Late (entry.go e row.AwaitSessionEnd) else says say.Arrive (entry.go e r)).after.row ≤ 0
count_row true e r h = omega arith
count_row false e r h = h

find_row : (b : Bool) (r : report.ReportPosition) (found : ℕ) → class_row (if b then record r { row = row.SignalBsp; bsp = found } else report.go r (row.AwaitInsideAgain 0)).row ≤ 0
find_row true r found = omega arith
find_row false r found = omega arith

quit_row : (b : Bool) (r : report.ReportPosition) → class_row (if b then says say.Silent (report.go r row.SeekBsp) else says say.Quit (report.go r row.AwaitSessionEnd)).after.row ≤ 0
quit_row true r = omega arith
quit_row false r = omega arith

work_le : (b : Bool) → class_row (work_row b) ≤ 2
work_le true = omega arith
work_le false = omega arith

work_apart : (b : Bool) → class_row (work_row b) ≢ 1
work_apart true = λ z. absurd (omega (arith, z))
work_apart false = λ z. absurd (omega (arith, z))

module _ (d : SetupData) (i : ℕ) (t : Seat) (p : Processor) (found : ℕ) where
  abbrev entering : Row → ℕ → ℕ → entry.EntryPosition
  entering r source inside = record { processors = d.processors; policy = d.policy; me = i; row = r; source = source; inside = inside }

  abbrev gathering : Row → gather.GatherPosition
  gathering r = record { processors = d.processors; first_looks = d.t1; second_looks = d.t2; me = i; row = r; blocked = t.blocked }

  abbrev closing : Row → close.ClosePosition
  closing r = record { processors = d.processors; me = i; held = t.listed; relaxed = is_relaxed d.mode; row = r }

  abbrev exiting : Row → exit.ExitPosition
  exiting r = exit.exit_at d.processors i t.listed (is_elected d.policy) r

  abbrev reporting : Row → ℕ → report.ReportPosition
  reporting r bsp = record { processors = d.processors; first_looks = d.t1; second_looks = d.t2; me = i; row = r; bsp = bsp }

  gathers : (r : Row) → class_row (gather.taken r (gathering r) found).after.row ≤ 0 → class_of (gather_taken (gather.taken r (gathering r) found) p).after.part ≤ 1
  gathers r h = gather_le (gather.taken r (gathering r) found) p 1 (omega (arith, h))

  led_on : (lead : Lead) → p.part ≡ lead_at d i lead t → class_of (taken_in (lead_at d i lead t) p found).after.part ≤ most_led lead
  led_on MarkingInside h = omega arith
  led_on TakingSource h = let a = at_row_le (after_source p.setup.mode) (record p { wave = found }) in let b = source_row p.setup.mode in omega (arith, a, b)
  led_on LookingAtExcept h = omega arith
  led_on (GatheringFirst looks) h =
      gathers (row.GatherFirst looks)
      (looked_row (gather.have_come d.processors t.blocked found) (is_last_look looks d.t1) found 1 (row.GatherFirst (looks + 1)) (gather.to_missing d.processors i 0) (gathering (row.GatherFirst looks)) (omega arith) (missing_row d.processors i 0))
  led_on (FindingMissing j) h =
      gathers (row.FindMissing j) (if_row (found == 0) (row.SignalMissing j) (gather.to_missing d.processors i (j + 1)) 0 (omega arith) (missing_row d.processors i (j + 1)))
  led_on (SignallingMissing j) h = gathers (row.SignalMissing j) (missing_row d.processors i (j + 1))
  led_on (GatheringSecond looks) h =
      gathers (row.GatherSecond looks)
      (looked_row (gather.have_come d.processors t.blocked found) (is_last_look looks d.t2) found 2 (row.GatherSecond (looks + 1)) row.MarkInsync (gathering (row.GatherSecond looks)) (omega arith) (omega arith))
  led_on MarkingInsync h = omega arith
  led_on LockingCounter h = close_le (close.taken row.LockCounter (closing row.LockCounter) found) p 1 (reports_row (closing row.LockCounter) (found - 1))
  led_on (AwaitingReports left) h = close_le (close.taken (row.AwaitReports left) (closing (row.AwaitReports left)) found) p 1 (reports_row (closing (row.AwaitReports left)) (left - 1))
  led_on (TakingDesk j) h = close_le (close.taken (row.TakeDesk j) (closing (row.TakeDesk j)) found) p 1 (desks_row (closing (row.TakeDesk j)) (j + 1))
  led_on BeginningToServe h = serving_le p.chair p found (let a = ap class_of h in omega (arith, a))
  led_on AtHandlers h = serving_le p.chair p found (let a = ap class_of h in omega (arith, a))
  led_on (Collecting j) h = let a = go_on_le (to_jobs (j + 1) p) (record p { held = taken_off j p.held }) in let b = to_jobs_row (j + 1) p in omega (arith, a, b)
  led_on LeavingInside h = omega arith
  led_on (Releasing j) h = exit_le (exit.taken (row.Release j) (exiting (row.Release j)) found) p 0 (releases_row (exiting (row.Release j)) (j + 1))
  led_on (AwaitingReleased left) h = exit_le (exit.taken (row.AwaitReleased left) (exiting (row.AwaitReleased left)) found) p 0 (released_row (exiting (row.AwaitReleased left)) (left - 1))
  led_on (Dismissing j) h = exit_le (exit.taken (row.Dismiss j) (exiting (row.Dismiss j)) found) p 0 (dismissals_row (exiting (row.Dismiss j)) (j + 1))
  led_on (AwaitingDismissed left) h = exit_le (exit.taken (row.AwaitDismissed left) (exiting (row.AwaitDismissed left)) found) p 0 (dismissed_row (exiting (row.AwaitDismissed left)) (left - 1))
  led_on GivingChair h = omega arith
  led_on LeavingInsync h = omega arith
  led_on UnlockingCounter h = omega arith

  pub goes_on : (at : Position) → p.part ≡ part_at d i at t → most_of at ≤ 2 → class_of (taken_in (part_at d i at t) p found).after.part ≤ most_of at
  goes_on AwaitingSmi h z = absurd (omega (arith, z))
  goes_on SwitchingOff h z = absurd (omega (arith, z))
  goes_on ClearingSignal h z = absurd (omega (arith, z))
  goes_on Away h z = absurd (omega (arith, z))
  goes_on (Leading lead) h z = led_on lead h
  goes_on LookingAtSource h z = omega arith
  goes_on (LookingInside source) h z =
      entry_le (entry.taken row.LookAtInside (entering row.LookAtInside source 0) found) p 0 (inside_row (source == 0 && found == 0) (entering row.LookAtInside source 0) found)
  goes_on (CountingIn source inside) h z =
      entry_le (entry.taken row.CountIn (entering row.CountIn source inside) found) p 0
      (count_row (found == LOCKED) (entering row.CountIn source inside) (entry.after_arrival inside d.policy)
      (if_row (inside == 0) (entry.to_elect d.policy) (row.AwaitInside 0) 0 (elect_row d.policy) (omega arith)))
  goes_on (ClaimingChair source inside) h z =
      entry_le (entry.taken row.ClaimBsp (entering row.ClaimBsp source inside) found) p 0 (elected_row (found == LOCKED) (entering row.ClaimBsp source inside))
  goes_on (AskingForChair source inside) h z =
      entry_le (entry.taken row.LookAtBsp (entering row.LookAtBsp source inside) found) p 0 (elected_row (found == i) (entering row.LookAtBsp source inside))
  goes_on (AwaitingInside looks) h z =
      report_le (report.taken (row.AwaitInside looks) (reporting (row.AwaitInside looks) 0) found) p 0
      (if_row (found == 0) (if is_last_look looks d.t1 then row.FindBsp else row.AwaitInside (looks + 1)) row.SeekBsp 0
      (if_row (is_last_look looks d.t1) row.FindBsp (row.AwaitInside (looks + 1)) 0 (omega arith) (omega arith)) (omega arith))
  goes_on FindingBsp h z = report_le (report.taken row.FindBsp (reporting row.FindBsp 0) found) p 0 (find_row (nat_lt found d.processors) (reporting row.FindBsp 0) found)
  goes_on (SignallingBsp seen) h z = omega arith
  goes_on (AwaitingInsideAgain looks seen) h z =
      report_le (report.taken (row.AwaitInsideAgain looks) (reporting (row.AwaitInsideAgain looks) seen) found) p 0
      (if_row (found == 0) (if is_last_look looks d.t2 then row.CountOut else row.AwaitInsideAgain (looks + 1)) row.SeekBsp 0
      (if_row (is_last_look looks d.t2) row.CountOut (row.AwaitInsideAgain (looks + 1)) 0 (omega arith) (omega arith)) (omega arith))
  goes_on (CountingOut seen) h z = report_le (report.taken row.CountOut (reporting row.CountOut seen) found) p 0 (quit_row (found == LOCKED) (reporting row.CountOut seen))
  goes_on (SeekingBsp seen) h z = omega arith
  goes_on Reporting h z = omega arith
  goes_on TellingReport h z = omega arith
  goes_on AwaitingRelease h z = work_le (job_to_run p.setup (own_desk p))
  goes_on GivingBack h z = omega arith
  goes_on TellingRelease h z = omega arith
  goes_on AwaitingDismissal h z = omega arith
  goes_on Withdrawing h z = omega arith
  goes_on TellingDismissal h z = omega arith
  goes_on AwaitingEnd h z = omega arith

  -- an AP doesn't begin to serve
  pub apart_on : (at : Position) → most_of at ≡ 2 → class_of (taken_in (part_at d i at t) p found).after.part ≢ 1
  apart_on AwaitingRelease h = work_apart (job_to_run p.setup (own_desk p))
  apart_on TellingRelease h = λ z. absurd (omega (arith, z))
  apart_on AwaitingDismissal h = λ z. absurd (omega (arith, z))
  apart_on Withdrawing h = λ z. absurd (omega (arith, z))
  apart_on (Leading lead) h = absurd (let a = most_led-le lead in omega (arith, a, h))
  apart_on _ h = absurd (omega (arith, h))

-- a processor that resumed is out
await_class : (b : Bool) → class_row (if b then row.SwitchOff else row.AwaitSmi) ≡ 3
await_class true = refl
await_class false = refl

pub resumed_class : (o : Option Desk) (p : Processor) → class_of (resumed o p).part ≡ 3
resumed_class None p = await_class (nat_le p.setup.visits p.visits)
resumed_class (Some desk) p = await_class (nat_le p.setup.visits p.visits)

-- WHAT A CLASS SAYS OF THE POSITION

pub lead_class : (d : SetupData) (i : ℕ) (lead : Lead) (t : Seat) → class_of (lead_at d i lead t) ≤ 1
lead_class d i MarkingInside t = omega arith
lead_class d i TakingSource t = omega arith
lead_class d i LookingAtExcept t = omega arith
lead_class d i (GatheringFirst looks) t = omega arith
lead_class d i (FindingMissing j) t = omega arith
lead_class d i (SignallingMissing j) t = omega arith
lead_class d i (GatheringSecond looks) t = omega arith
lead_class d i MarkingInsync t = omega arith
lead_class d i LockingCounter t = omega arith
lead_class d i (AwaitingReports left) t = omega arith
lead_class d i (TakingDesk j) t = omega arith
lead_class d i BeginningToServe t = omega arith
lead_class d i AtHandlers t = omega arith
lead_class d i (Collecting j) t = omega arith
lead_class d i LeavingInside t = omega arith
lead_class d i (Releasing j) t = omega arith
lead_class d i (AwaitingReleased left) t = omega arith
lead_class d i (Dismissing j) t = omega arith
lead_class d i (AwaitingDismissed left) t = omega arith
lead_class d i GivingChair t = omega arith
lead_class d i LeavingInsync t = omega arith
lead_class d i UnlockingCounter t = omega arith

-- an AP that was released has lowered its word
pub leaver_low : (d : SetupData) (i n : ℕ) (t : Seat) (at : Position) → class_of (part_at d i at t) ≡ 2 → 1 ≤ low n (station_of at)
leaver_low d i n t TellingRelease h = omega arith
leaver_low d i n t AwaitingDismissal h = omega arith
leaver_low d i n t Withdrawing h = omega arith
leaver_low d i n t TellingDismissal h = omega arith
leaver_low d i n t (Leading lead) h = absurd (let a = lead_class d i lead t in omega (arith, a, h))
leaver_low d i n t _ h = absurd (omega (arith, h))

-- one that serves is the BSP
pub server_leads : (d : SetupData) (i : ℕ) (t : Seat) (at : Position) → class_of (part_at d i at t) ≡ 1 → (lead : Lead) × (at ≡ Leading lead) × (class_of (lead_at d i lead t) ≡ 1)
server_leads d i t (Leading lead) h = (lead, refl, h)
server_leads d i t _ h = absurd (omega (arith, h))

pub server_stage : (d : SetupData) (i : ℕ) (t : Seat) (lead : Lead) (b : Bool) → class_of (lead_at d i lead t) ≡ 1 → stage_in lead b ≤ 13
server_stage d i t BeginningToServe true h = omega arith
server_stage d i t BeginningToServe false h = omega arith
server_stage d i t AtHandlers true h = omega arith
server_stage d i t AtHandlers false h = omega arith
server_stage d i t (Collecting j) true h = omega arith
server_stage d i t (Collecting j) false h = omega arith
server_stage d i t _ b h = absurd (omega (arith, h))

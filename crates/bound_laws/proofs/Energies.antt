-- How many events an actor has still to make at most: those of the visits that it hasn't begun, and those from where it stands to the
-- end of its visit.
use Rattle.std.proofs.Common.{ℕ, ◌+◌, ◌-◌, ◌*◌, ◌≡◌, ◌≢◌, ◌<◌, ◌≤◌, Bool, true, false, List, [], ◌∷◌, length, get_or, Option, Some, None}
use Rattle.std.specs.Prelude.{slice_get}
use Rattle.smm_base.specs.declared.kinds.HandlerType.{HandlerType}
use Rattle.cpu_table.specs.Data.{SetupData}
use Rattle.sync_words.specs.declared.row.Row.{Row}
use Rattle.sync_words.specs.declared.row.Row.TheVariants as row
use Rattle.handler_ops.specs.declared.desk.Desk.{Desk}
use Rattle.handler_ops.specs.declared.row.Row.{Row as ServerRow}
use Rattle.handler_ops.specs.declared.row.Row.TheVariants as told
use Rattle.serving_place.specs.declared.seat.Seat.{Seat as JobSeat}
use Rattle.serving_place.specs.Places.{Call, OpenWalk, Begun, First, Started, Awaited, Place}
use Rattle.handler_ops.specs.Course.{has_job}
use Rattle.handler_ops.specs.Sessions.{Session as Chair}
use Rattle.cpu_program.specs.declared.cargo.Cargo.{Cargo}
use Rattle.cpu_program.specs.declared.cargo.Cargo.TheVariants as cargo
use Rattle.cpu_program.specs.declared.part.Part.{Part}
use Rattle.cpu_program.specs.declared.part.Part.TheVariants.{Between, Entering, Gathering, Closing, Serving, Exiting, Reporting, Off}
use Rattle.cpu_program.specs.Actors.{Actor, OfProcessor, OfChipset}
use Rattle.cpu_program.specs.Processors.{is_relaxed, job_to_run}
use Rattle.rendezvous_core.specs.Worlds.{World}
use Rattle.schedule_laws.proofs.Stations.{bit}
use Rattle.schedule_laws.proofs.Sums.{sum_below}

-- VISITS

-- the most events from the entry of a visit on
abbrev pub visit_events : SetupData → ℕ
visit_events d = 31 + 10 * d.processors + 5 * d.ops + d.t1 + d.t2

-- the events of the visits that are left
unfoldable pub spare : SetupData → ℕ → ℕ
spare d visits = (d.visits - visits) * visit_events d

-- SERVING

-- a place may still give so many jobs: each is given in a unit
abbrev pub started : Option Begun → ℕ
started (Some (Started o)) = 1
started _ = 0

abbrev pub jobs_left : Place → ℕ
jobs_left p = p.state.left + started p.begun

-- an open walk has its answer to say, and the return of a handler that is called
abbrev pub call_weight : Option Call → ℕ
call_weight None = 0
call_weight (Some c) = 1

abbrev pub walks_weight : List OpenWalk → ℕ
walks_weight [] = 0
walks_weight (w ∷ ws) = 1 + call_weight w.called + walks_weight ws

abbrev pub begun_weight : Option Begun → ℕ
begun_weight (Some (First w)) = 1
begun_weight (Some (Awaited c into)) = 1
begun_weight _ = 0

-- 1 where something is left to say
abbrev pub more_weight : Option Begun → List OpenWalk → List HandlerType → ℕ
more_weight (Some b) ws ks = 1
more_weight None (w ∷ ws) ks = 1
more_weight None [] (k ∷ ks) = 1
more_weight None [] [] = 0

-- each job has to be collected
abbrev pub jobs_weight : List JobSeat → ℕ
jobs_weight [] = 0
jobs_weight (q ∷ qs) = bit (has_job q) + jobs_weight qs

-- but for the jobs
abbrev pub place_weight : Place → ℕ
place_weight p = 5 * jobs_left p + walks_weight p.walks + begun_weight p.begun + more_weight p.begun p.walks p.kinds

-- a desk that the BSP hasn't may be claimed
abbrev pub vacant : Option Desk → ℕ
vacant None = 1
vacant (Some desk) = 0

abbrev pub vacancies : ℕ → List (Option Desk) → ℕ
vacancies n held = sum_below n (λ j. vacant (get_or held j None))

-- the word of a processor that is given a job is put before
abbrev pub told_weight : ServerRow → ℕ
told_weight (told.Raising c l) = 0
told_weight _ = 1

abbrev pub course_weight : SetupData → Chair → List (Option Desk) → ℕ
course_weight d x held = place_weight x.course.place + jobs_weight x.course.place.state.seats + told_weight x.told + vacancies d.processors held

-- FROM HERE TO THE END OF THE VISIT

-- after serving, and after the close; the relaxed mode serves first
abbrev pub serve_base : SetupData → Bool → ℕ
serve_base d false = 11 + 4 * d.processors
serve_base d true = 15 + 6 * d.processors

abbrev pub close_base : SetupData → Bool → ℕ
close_base d false = 16 + 6 * d.processors + 5 * d.ops
close_base d true = 11 + 4 * d.processors

-- x is for the jobs that an AP may still get
abbrev pub between_rank : SetupData → ℕ → Row → ℕ
between_rank d x row.AwaitSmi = 1
between_rank d x row.SwitchOff = 1
between_rank d x row.MarkInside = 27 + 10 * d.processors + 5 * d.ops + d.t1 + d.t2
between_rank d x row.TakeSource = 26 + 10 * d.processors + 5 * d.ops + d.t1 + d.t2
between_rank d x (row.CollectJob cpu) = serve_base d (is_relaxed d.mode) + 1 + (d.processors - cpu)
between_rank d x row.LeaveInside = 11 + 4 * d.processors
between_rank d x row.AwaitRelease = 8 + x
between_rank d x row.GiveDeskBack = 9 + x
between_rank d x row.TellReleased = 7
between_rank d x row.AwaitDismissal = 6
between_rank d x row.WithdrawReport = 5
between_rank d x row.TellDismissed = 4
between_rank d x row.AwaitSessionEnd = 3
between_rank d x row.ClearSignal = 2
between_rank d x _ = 0

abbrev pub entering_rank : SetupData → Row → ℕ
entering_rank d row.LookAtSource = 31 + 10 * d.processors + 5 * d.ops + d.t1 + d.t2
entering_rank d row.LookAtInside = 30 + 10 * d.processors + 5 * d.ops + d.t1 + d.t2
entering_rank d row.CountIn = 29 + 10 * d.processors + 5 * d.ops + d.t1 + d.t2
entering_rank d row.ClaimBsp = 28 + 10 * d.processors + 5 * d.ops + d.t1 + d.t2
entering_rank d row.LookAtBsp = 28 + 10 * d.processors + 5 * d.ops + d.t1 + d.t2
entering_rank d _ = 0

abbrev pub gathering_rank : SetupData → Row → ℕ
gathering_rank d row.LookAtExcept = 25 + 10 * d.processors + 5 * d.ops + d.t1 + d.t2
gathering_rank d (row.GatherFirst looks) = 24 + 10 * d.processors + 5 * d.ops + d.t2 + (d.t1 - looks)
gathering_rank d (row.FindMissing cpu) = 23 + 8 * d.processors + 5 * d.ops + d.t2 + 2 * (d.processors - cpu)
gathering_rank d (row.SignalMissing cpu) = 22 + 8 * d.processors + 5 * d.ops + d.t2 + 2 * (d.processors - cpu)
gathering_rank d (row.GatherSecond looks) = 21 + 8 * d.processors + 5 * d.ops + (d.t2 - looks)
gathering_rank d _ = 0

abbrev pub closing_rank : SetupData → Bool → Row → ℕ
closing_rank d relaxed row.MarkInsync = close_base d relaxed + 4 + 2 * d.processors
closing_rank d relaxed row.LockCounter = close_base d relaxed + 3 + 2 * d.processors
closing_rank d relaxed (row.AwaitReports left) = close_base d relaxed + 2 + d.processors + left
closing_rank d relaxed (row.TakeDesk cpu) = close_base d relaxed + 1 + (d.processors - cpu)
closing_rank d relaxed _ = 0

abbrev pub exiting_rank : SetupData → Row → ℕ
exiting_rank d (row.Release cpu) = 10 + 3 * d.processors + (d.processors - cpu)
exiting_rank d (row.AwaitReleased left) = 9 + 2 * d.processors + left
exiting_rank d (row.Dismiss cpu) = 8 + d.processors + (d.processors - cpu)
exiting_rank d (row.AwaitDismissed left) = 7 + left
exiting_rank d row.GiveBsp = 6
exiting_rank d row.LeaveInsync = 5
exiting_rank d row.UnlockCounter = 4
exiting_rank d _ = 0

abbrev pub reporting_rank : SetupData → ℕ → Row → ℕ
reporting_rank d x (row.AwaitInside looks) = 16 + d.t2 + (d.t1 - looks) + 2 * d.ops
reporting_rank d x row.FindBsp = 15 + d.t2 + 2 * d.ops
reporting_rank d x row.SignalBsp = 14 + d.t2 + 2 * d.ops
reporting_rank d x (row.AwaitInsideAgain looks) = 13 + (d.t2 - looks) + 2 * d.ops
reporting_rank d x row.CountOut = 12 + 2 * d.ops
reporting_rank d x row.SeekBsp = 11 + 2 * d.ops
reporting_rank d x row.Report = 10 + 2 * d.ops
reporting_rank d x row.TellReported = 9 + x
reporting_rank d x _ = 0

abbrev pub serving_rank : SetupData → Option Chair → List (Option Desk) → ℕ
serving_rank d None held = 0
serving_rank d (Some x) held = serve_base d (is_relaxed d.mode) + 2 + d.processors + course_weight d x held

abbrev pub rank : SetupData → ℕ → Part → Option Chair → List (Option Desk) → ℕ
rank d x (Between r) chair held = between_rank d x r
rank d x (Entering e) chair held = entering_rank d e.row
rank d x (Gathering g) chair held = gathering_rank d g.row
rank d x (Closing c) chair held = closing_rank d c.relaxed c.row
rank d x Serving chair held = serving_rank d chair held
rank d x (Exiting e) chair held = exiting_rank d e.row
rank d x (Reporting r) chair held = reporting_rank d x r.row
rank d x Off chair held = 0

-- THE CHIPSET

abbrev pub herald_rank : SetupData → Row → ℕ
herald_rank d row.AnnounceBlocked = 6 + 2 * d.processors + d.t1 + d.t2
herald_rank d row.AnnounceWave = 5 + 2 * d.processors + d.t1 + d.t2
herald_rank d (row.RaiseWave cpu) = 4 + d.processors + d.t1 + d.t2 + (d.processors - cpu)
herald_rank d (row.WatchSource looks) = 3 + d.processors + (d.t1 + d.t2 - looks)
herald_rank d row.AwaitServed = 2 + d.processors
herald_rank d (row.RaiseOff cpu) = 1 + (d.processors - cpu)
herald_rank d _ = 0

abbrev pub chipset_rank : SetupData → Option Row → ℕ
chipset_rank d None = 0
chipset_rank d (Some r) = herald_rank d r

-- the events of the waves that come
unfoldable pub later_waves : SetupData → ℕ → ℕ
later_waves d wave = (length d.waves - wave) * (5 + d.processors + d.t1 + d.t2)

-- ALL

abbrev pub energy : SetupData → ℕ → Actor → ℕ
energy d x (OfProcessor p) = rank d x p.part p.chair p.held + spare d p.visits
energy d x (OfChipset c) = chipset_rank d c.row + later_waves d c.wave

-- the jobs that a BSP may still give
abbrev pub between_gives : SetupData → Row → ℕ
between_gives d row.MarkInside = d.ops
between_gives d row.TakeSource = d.ops
between_gives d _ = 0

abbrev pub closing_gives : SetupData → Bool → ℕ
closing_gives d false = d.ops
closing_gives d true = 0

abbrev pub serving_gives : Option Chair → ℕ
serving_gives None = 0
serving_gives (Some x) = jobs_left x.course.place

abbrev pub part_gives : SetupData → Part → Option Chair → ℕ
part_gives d (Between r) chair = between_gives d r
part_gives d (Entering e) chair = 0
part_gives d (Gathering g) chair = d.ops
part_gives d (Closing c) chair = closing_gives d c.relaxed
part_gives d Serving chair = serving_gives chair
part_gives d (Exiting e) chair = 0
part_gives d (Reporting r) chair = 0
part_gives d Off chair = 0

abbrev pub gives_of : SetupData → Actor → ℕ
gives_of d (OfProcessor p) = part_gives d p.part p.chair
gives_of d (OfChipset c) = 0

-- to whom an AP reports
abbrev pub knows_of : Actor → ℕ
knows_of (OfProcessor p) = p.bsp
knows_of (OfChipset c) = 0

-- an AP that may get a job
abbrev pub between_work : Row → Bool
between_work row.AwaitRelease = true
between_work row.GiveDeskBack = true
between_work _ = false

abbrev pub reporting_work : Row → Bool
reporting_work row.TellReported = true
reporting_work _ = false

abbrev pub part_work : Part → Bool
part_work (Between r) = between_work r
part_work (Reporting r) = reporting_work r.row
part_work _ = false

abbrev pub works : Actor → Bool
works (OfProcessor p) = part_work p.part
works (OfChipset c) = false

-- a job that waits to be run takes two events
abbrev pub waiting : SetupData → Option Cargo → ℕ
waiting d (Some (cargo.Desk desk)) = 2 * bit (job_to_run d (Some desk))
waiting d _ = 0

-- each round has a look
pub record IsPolled (d : SetupData) : Type 0 where
  pub first : 1 ≤ d.t1
  pub second : 1 ≤ d.t2

-- a round has another look
abbrev pub gather_round : SetupData → Row → Type 0
gather_round d (row.GatherFirst looks) = looks < d.t1
gather_round d (row.GatherSecond looks) = looks < d.t2
gather_round d _ = Unit {0}

abbrev pub report_round : SetupData → Row → Type 0
report_round d (row.AwaitInside looks) = looks < d.t1
report_round d (row.AwaitInsideAgain looks) = looks < d.t2
report_round d _ = Unit {0}

abbrev pub part_round : SetupData → Part → Type 0
part_round d (Gathering g) = gather_round d g.row
part_round d (Reporting r) = report_round d r.row
part_round d _ = Unit {0}

abbrev pub RoundFits : SetupData → Actor → Type 0
RoundFits d (OfProcessor p) = part_round d p.part
RoundFits d (OfChipset c) = Unit {0}

-- in a world

abbrev pub gives_in : SetupData → Option Actor → ℕ
gives_in d None = 0
gives_in d (Some a) = gives_of d a

abbrev pub extra_in : SetupData → World → ℕ → Actor → ℕ
extra_in d w i a = 2 * gives_in d (slice_get w.actors (knows_of a)) + waiting d (get_or w.lying.run i None)

abbrev pub energy_in : SetupData → World → ℕ → Option Actor → ℕ
energy_in d w i None = 0
energy_in d w i (Some a) = energy d (extra_in d w i a) a

abbrev pub energy_of : SetupData → World → ℕ → ℕ
energy_of d w i = energy_in d w i (slice_get w.actors i)

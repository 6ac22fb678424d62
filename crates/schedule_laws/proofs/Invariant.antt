-- What holds of the world and the machine between any two steps: of the words and their sums, of the session by how far its BSP is, and
-- of each processor by where it stands.
use Rattle.std.proofs.Common.{ℕ, zero, suc, ◌+◌, ◌-◌, ◌*◌, ◌%◌, ◌≡◌, ◌≢◌, ◌<◌, ◌≤◌, Bool, true, false, List, [], ◌∷◌, length, get_or, Option, Some, None}
use Rattle.std.specs.Prelude.{◌==◌, if◌then◌else◌, is_some, IsSomeAnd}
use Rattle.smm_base.specs.declared.kinds.Policy.{Policy}
use Rattle.smm_base.specs.declared.kinds.Policy.TheVariants.{Elected, Fixed}
use Rattle.smm_base.specs.declared.status.Status.{Status}
use Rattle.save_state_map.specs.Images.{ImageContents}
use Rattle.cpu_regs.specs.Registers.{Registers}
use Rattle.cpu_table.specs.Data.{SetupData}
use Rattle.cpu_table.specs.Ranges.{policy_fits, handlers_fit}
use Rattle.sync_words.specs.declared.label.Label.TheVariants as say
use Rattle.handler_registry.specs.Registrations.{Registrations}
use Rattle.smram_pool.specs.State.{PoolState}
use Rattle.handler_ops.specs.declared.desk.Desk.{Desk}
use Rattle.handler_ops.specs.declared.desk.Job.{Job}
use Rattle.handler_ops.specs.declared.row.Row.TheVariants as told
use Rattle.serving_place.specs.declared.seat.Seat.{Seat as JobSeat}
use Rattle.serving_place.specs.Serving.{HasOpen, run_at}
use Rattle.serving_place.specs.Serving as serving
use Rattle.serving_place.specs.Beginning.{at_begin, program_of, walks_of}
use Rattle.serving_place.specs.Places.{Place, at_first, HasMore, IsOver}
use Rattle.serving_place.specs.Stands.{Leads}
use Rattle.handler_ops.specs.Course.{has_job, is_held}
use Rattle.handler_ops.specs.Conditions.{IsSound, beginning}
use Rattle.handler_ops.specs.NextRow.{row_of}
use Rattle.handler_ops.specs.Told.{handed_as}
use Rattle.handler_ops.specs.Sessions.{Session as Chair}
use Rattle.cpu_program.specs.declared.cargo.Cargo.{Cargo}
use Rattle.cpu_program.specs.declared.cargo.Cargo.TheVariants as cargo
use Rattle.cpu_program.specs.Processors.{is_relaxed}
use Rattle.rendezvous_core.specs.Worlds.{World, bsp_at_first, turn, turned}
use Rattle.rendezvous_core.specs.declared.stepped.Stepped.{Stepped}
use Rattle.rendezvous_machine.specs.declared.phase.Phase.{Phase}
use Rattle.rendezvous_machine.specs.Machines.{Machine, Member, Session, HasWaited, member}
use Rattle.rendezvous_machine.specs.Platforms.{MayLead}
use Rattle.rendezvous_machine.specs.Services.{setting}
use Rattle.rendezvous_laws.proofs.Simulations as simulation
use Rattle.schedule_laws.proofs.Scenes.{Scene, Seat, Watch, Herald, AnnouncingBlocked, AnnouncingWave, Raising, Watching, AwaitingServed, TurningOff, Silenced, Lead, AtHandlers, Position, Leading as LeadingAt, seat, processor_at, chipset_at, world_of}
use Rattle.cpu_program.specs.Actors.{OfProcessor, OfChipset}
use Rattle.schedule_laws.proofs.Stations.{Station, Leading, station_of, bit, work_of, is_bsp, walk_of, phase_of, member_of, here_of, out_of, job_of, in_of, waits_of, made, low}
use Rattle.schedule_laws.proofs.Leads.{stage_in, next_of, is_traditional, part_of}
use Rattle.schedule_laws.proofs.Sums.{sum_below}
use Rattle.schedule_laws.proofs.HandlerFits.{PlaceFits}

abbrev pub locked : ℕ
locked = 16777215

-- THE PLATFORM

-- 1 in the relaxed mode, which serves in an open session
abbrev pub mode_of : SetupData → ℕ
mode_of d = bit (is_relaxed d.mode)

-- the stage at which the handlers are begun, and the one at which they serve
abbrev pub begins_from : ℕ → ℕ
begins_from mode = 12 - 9 * mode

abbrev pub serves_from : ℕ → ℕ
serves_from mode = 13 - 9 * mode

pub record IsPlatform (d : SetupData) : Type 0 where
  pub some : 1 ≤ d.processors
  pub few : d.processors ≤ 64
  pub visits : 1 ≤ d.visits
  pub waves : 1 ≤ length d.waves
  pub policy : policy_fits d.processors d.policy ≡ true
  pub handlers : handlers_fit d.handlers ≡ true

-- where the chair is while nobody is the BSP: on the word `bsp`, or with the processor that the platform fixes
abbrev pub chair_lying : Policy → Chair → Option Cargo
chair_lying Elected x = Some (cargo.Chair x)
chair_lying (Fixed b) x = None

abbrev pub chair_home : Policy → ℕ → Chair → Option Chair
chair_home Elected j x = None
chair_home (Fixed b) j x = if j == b then Some x else None

-- THE SESSION

-- What is told of the session, chosen by the proof: how far its BSP is (0: there is none), who that is, the number of its loop, how many
-- APs it counted as it closed, its wave, how many it takes as blocked, the desks that it holds (before one of them gets its job), whose
-- it held as the close or the exit began, the state of serving wherever that is, the place that stands for the machine's serving list,
-- and the machine's session. A step of another processor leaves all of this as it is, but that a job may be run.
pub record Context : Type 0 where
  pub stage : ℕ
  pub bsp : ℕ
  pub next : ℕ
  pub peers : ℕ
  pub wave : ℕ
  pub blocked : ℕ
  pub held : List (Option Desk)
  pub listed : List Bool
  pub chair : Chair
  pub place : Place
  pub session : Session

abbrev pub desk_at : ImageContents → Option Job → Desk
desk_at image job = record { image = image; job = job }

-- the desk that the BSP holds of another processor
abbrev pub desk_kept : Context → ℕ → Option Desk
desk_kept c j = if j == c.bsp then None else get_or c.held j None

-- ONE PROCESSOR

-- what its seat shows the others
pub record SeatView : Type 0 where
  pub station : Station
  pub knows : ℕ
  pub visits : ℕ
  pub own : Option Desk
  pub registers : Registers
  pub last : ImageContents

-- a processor by its seat, its own words but `pend`, `run` and `busy`, what lies on them, and the machine's member
pub record View : Type 0 where
  pub station : Station
  pub knows : ℕ
  pub seat_visits : ℕ
  pub own : Option Desk
  pub seat_registers : Registers
  pub seat_last : ImageContents
  pub present : ℕ
  pub on_present : Option Cargo
  pub on_run : Option Cargo
  pub phase : Phase
  pub visits : ℕ
  pub registers : Registers
  pub last : ImageContents
  pub image : ImageContents
  pub job : Option Job
  pub work : ℕ
  pub team : ℕ
  pub released : ℕ
  pub departed : ℕ

abbrev pub seat_view : Station → ℕ → Seat → SeatView
seat_view r j s = record { station = r; knows = s.bsp; visits = s.visits; own = get_or s.held j None; registers = s.registers; last = s.last }

abbrev pub view_of : SeatView → ℕ → Option Cargo → Option Cargo → Member → View
view_of s present on_present on_run x =
    record {
      station = s.station;
      knows = s.knows;
      seat_visits = s.visits;
      own = s.own;
      seat_registers = s.registers;
      seat_last = s.last;
      present = present;
      on_present = on_present;
      on_run = on_run;
      phase = x.phase;
      visits = x.visits;
      registers = x.registers;
      last = x.last;
      image = x.image;
      job = x.job;
      work = work_of x.job;
      team = bit x.in_closed_set;
      released = bit x.is_released;
      departed = bit x.has_departed;
    }

-- the processor j at the station r, with this seat
abbrev pub view_at : Station → Seat → Scene → Machine → ℕ → View
view_at r t s m j = view_of (seat_view r j t) (get_or s.words.present j 0) (get_or s.lying.present j None) (get_or s.lying.run j None) (member m j)

abbrev pub view : Scene → Machine → ℕ → View
view s m j = view_at (station_of (seat s j).position) (seat s j) s m j

-- A processor by itself, whatever the session is at: its phase follows from where it stands, its visits, registers and images are the
-- machine's, and its desk is in one place. `at` is what the BSP has of it.
pub record IsSelf (d : SetupData) (waves : ℕ) (at : Option Desk) (v : View) : Type 0 where
  pub phase : v.phase ≡ phase_of v.station
  pub visits : v.seat_visits ≡ v.visits
  pub registers : v.seat_registers ≡ v.registers
  pub last : v.seat_last ≡ v.last
  pub kind : v.image.kind ≡ d.kind
  pub most : v.visits ≤ d.visits
  pub waiting : waits_of v.station ≡ 1 → v.visits < d.visits
  pub through : waits_of v.station ≡ 2 → v.visits ≡ d.visits
  pub inside : in_of v.station ≡ 1 → 1 ≤ waves
  pub begun : 1 ≤ v.visits → 1 ≤ waves
  pub team_bit : v.team ≤ 1
  pub released_bit : v.released ≤ 1
  pub departed_bit : v.departed ≤ 1
  pub work_le : v.work ≤ 2
  pub present_le : v.present ≤ 2
  pub absent : here_of v.station ≡ 0 → v.present ≡ 0
  pub there : here_of v.station ≡ 1 → 1 ≤ v.present
  pub worker : 1 ≤ v.work → v.present ≡ 2
  pub idle_away : here_of v.station ≡ 0 → v.work ≡ 0
  pub running : job_of v.station ≡ 1 → v.work ≡ 1
  pub own : out_of v.station ≡ 0 → job_of v.station ≡ 0 → v.own ≡ Some (desk_at v.image None)
  pub own_job : job_of v.station ≡ 1 → v.own ≡ Some (desk_at v.image v.job)
  pub own_out : out_of v.station ≡ 1 → v.own ≡ None
  pub on_present : v.present ≡ 1 → v.on_present ≡ Some (cargo.Desk (desk_at v.image None))
  pub off_present : v.present ≢ 1 → v.on_present ≡ None
  pub on_run : v.released ≡ 1 → out_of v.station ≡ 1 → v.on_run ≡ Some (cargo.Desk (desk_at v.image None))
  pub on_run_job : v.work ≡ 1 → out_of v.station ≡ 1 → v.on_run ≡ Some (cargo.Desk (desk_at v.image v.job))
  pub off_run : v.released ≡ 0 → v.work ≢ 1 → v.on_run ≡ None
  pub off_run_own : out_of v.station ≡ 0 → v.on_run ≡ None
  pub held : v.present ≡ 2 → v.released ≡ 0 → v.work ≡ 0 → at ≡ Some (desk_at v.image None)
  pub not_held : v.present ≢ 2 → at ≡ None
  pub given_back : v.released ≡ 1 → at ≡ None
  pub lent : 1 ≤ v.work → at ≡ None

-- A processor in the closed set, and its mark `present`, by the stage of the session: nothing is claimed until the handlers serve or the
-- desks are taken, everything after that.
pub record IsTeam (c : Context) (j : ℕ) (v : View) : Type 0 where
  pub team_open : c.stage ≤ 9 → v.team ≡ 0
  pub departed_open : c.stage ≤ 9 → v.departed ≡ 0
  pub team : 10 ≤ c.stage → member_of v.station + v.departed ≡ v.team
  pub unreleased : c.stage ≤ 14 → v.released ≡ 0
  pub idle_early : c.stage ≤ 3 → v.work ≡ 0
  pub idle_mid : 5 ≤ c.stage → c.stage ≤ 12 → v.work ≡ 0
  pub idle_after : 14 ≤ c.stage → v.work ≡ 0
  pub unclaimed : c.stage ≤ 3 → v.present ≤ 1
  pub claimed_so_far : c.stage ≡ 11 → j < c.next → v.present ≢ 1
  pub claimed : 12 ≤ c.stage → v.present ≢ 1

-- the BSP leads, and is neither released nor given a job
pub record IsLeader (v : View) : Type 0 where
  pub station : v.station ≡ Leading
  pub released : v.released ≡ 0
  pub departed : v.departed ≡ 0
  pub work : v.work ≡ 0

-- An AP: it knows the BSP once it found it, it is on the list of the exit where it is in the closed set, and it has told its report,
-- its release and its departure when the BSP has waited for them.
pub record IsPeer (c : Context) (j : ℕ) (v : View) : Type 0 where
  pub station : is_bsp v.station ≡ 0
  pub walking : 1 ≤ walk_of v.station → 2 ≤ c.stage
  pub knows : 2 ≤ walk_of v.station → v.knows ≡ c.bsp
  pub gone : walk_of v.station ≡ 8 → v.departed ≡ 1
  pub listed : 15 ≤ c.stage → c.stage ≤ 18 → bit (get_or c.listed j false) ≡ v.team
  pub released_so_far : c.stage ≡ 15 → j < c.next → v.released ≡ v.team
  pub released_no_more : c.stage ≡ 15 → c.next ≤ j → v.released ≡ 0
  pub released : 16 ≤ c.stage → v.released ≡ v.team
  pub told : 11 ≤ c.stage → v.team ≤ made v.departed v.station
  pub answered : 17 ≤ c.stage → 2 * v.team ≤ made v.departed v.station
  pub ended : 19 ≤ c.stage → 3 * v.team ≤ made v.departed v.station

-- The word `run` of an AP: how often it was raised less how often the AP has lowered it.
pub record IsRunOf (c : Context) (j : ℕ) (v : View) (run : ℕ) : Type 0 where
  pub upto : c.stage ≤ 16 → v.work ≢ 1 → run + low v.departed v.station ≡ v.released
  pub lent : v.work ≡ 1 → run + low v.departed v.station ≡ 1
  pub so_far : c.stage ≡ 17 → j < c.next → run + low v.departed v.station ≡ 2 * v.team
  pub no_more : c.stage ≡ 17 → c.next ≤ j → run + low v.departed v.station ≡ v.team
  pub late : 18 ≤ c.stage → run + low v.departed v.station ≡ 2 * v.team

pub record IsCpu (d : SetupData) (c : Context) (waves : ℕ) (j : ℕ) (v : View) : Type 0 where
  pub self : IsSelf d waves (desk_kept c j) v
  pub team : IsTeam c j v
  pub leader : j ≡ c.bsp → IsLeader v
  pub peer : j ≢ c.bsp → IsPeer c j v

-- An AP has a place for each desk, no desk of others, and the chair only where the platform fixes it as the BSP.
pub record IsIdle (d : SetupData) (c : Context) (j : ℕ) (t : Seat) : Type 0 where
  pub size : length t.held ≡ d.processors
  pub held : (k : ℕ) → k ≢ j → get_or t.held k None ≡ None
  pub chair : t.chair ≡ chair_home d.policy j c.chair

-- A signal comes only after a wave; and the one that turns a processor off, where that has visits left, after the last wave.
pub record IsSignal (d : SetupData) (waves visits pend : ℕ) : Type 0 where
  pub some : 1 ≤ pend → 1 ≤ waves
  pub off : pend % 8 ≡ 4 → visits < d.visits → waves ≡ length d.waves

-- The word `busy` is 2 exactly where the job was run, and the desk lies there then.
pub record IsBusy (x : Member) (busy : ℕ) (o : Option Cargo) : Type 0 where
  pub lies : work_of x.job ≡ 2 → o ≡ Some (cargo.Desk (desk_at x.image x.job))
  pub finished : busy ≡ 2 → work_of x.job ≡ 2
  pub ran : work_of x.job ≡ 2 → busy ≡ 2

-- SERVING

-- a job's seat as the machine's list tells it: run where the job was
abbrev pub by_done : Option (ℕ × Status) → JobSeat → JobSeat
by_done None q = q
by_done (Some answer) q = run_at q answer.0 answer.1

abbrev pub with_done : Option Job → JobSeat → JobSeat
with_done None q = q
with_done (Some job) q = by_done job.done q

-- the job of a processor as the server knows it, which sets it run only as it collects it
abbrev pub seat_known : Context → ℕ → JobSeat
seat_known c j = serving.seat c.chair.course.place.state j

abbrev pub seat_listed : Context → ℕ → JobSeat
seat_listed c j = serving.seat c.place.state j

abbrev pub GoesOn : Place → Type 0
GoesOn p = HasMore p.kinds p.walks p.begun

-- Whether a job is still owed. The BSP collects the jobs after its handlers by number, and the server isn't told of it: those below the
-- number that it is at are collected.
abbrev pub still_owed : ℕ → ℕ → Bool → Bool
still_owed zero j owed = owed
still_owed (suc n) zero owed = false
still_owed (suc n) (suc j) owed = still_owed n j owed

abbrev pub is_owed : Context → ℕ → Bool
is_owed c j = still_owed c.next j (has_job (seat_known c j))

-- The job of an AP: it is one of the platform's procedures; while the handlers serve, and as the jobs are collected after them, it is
-- owed exactly where the machine has it, by its number; and while serving goes on the machine's list has it run where it was run.
pub record IsJobOf (d : SetupData) (c : Context) (j : ℕ) (job : Option Job) : Type 0 where
  pub procedure : 1 ≤ work_of job → IsSomeAnd job (λ x. x.procedure < length d.procedures)
  pub free : c.stage ≡ serves_from (mode_of d) → is_owed c j ≡ false → work_of job ≡ 0
  pub given : c.stage ≡ serves_from (mode_of d) → is_owed c j ≡ true → IsSomeAnd job (λ x. HasOpen (seat_known c j) x.number)
  pub listed : c.stage ≡ serves_from (mode_of d) → GoesOn c.chair.course.place → seat_listed c j ≡ with_done job (seat_known c j)

-- the place at which the serving of a wave begins
abbrev pub first_place : SetupData → ℕ → Registrations → PoolState → Place
first_place d wave registrations pool = at_first wave (walks_of d.waves wave) (at_begin d registrations pool)

-- The machine's place is the server's, but for the jobs that were run and not yet collected.
pub record IsListed (known listed : Place) : Type 0 where
  pub size : length listed.state.seats ≡ length known.state.seats
  pub same : listed ≡ record known { state = record known.state { seats = listed.state.seats } }

-- The state of serving: before the handlers begin it has the machine's registrations and pool; from then on the machine's list leads to a
-- place that is the server's but for the jobs; and after the handlers serving is over.
pub record IsCourse (d : SetupData) (c : Context) (registrations : Registrations) (pool : PoolState) : Type 0 where
  pub setup : c.chair.setup ≡ d
  pub size : length c.chair.course.place.state.seats ≡ d.processors
  pub registered : c.stage ≤ begins_from (mode_of d) → c.chair.course.place.state.registrations ≡ registrations
  pub pooled : c.stage ≤ begins_from (mode_of d) → c.chair.course.place.state.pool ≡ pool
  pub me : begins_from (mode_of d) ≤ c.stage → c.chair.me ≡ c.bsp
  pub led : serves_from (mode_of d) ≤ c.stage → IsSomeAnd c.session.serving (λ said. Leads (program_of d) (first_place d c.wave registrations pool) said c.place)
  pub listed : serves_from (mode_of d) ≤ c.stage → IsListed c.chair.course.place c.place
  pub over : serves_from (mode_of d) < c.stage → IsOver c.chair.course.place

-- serving is at its first label
pub record IsBeginning (d : SetupData) (c : Context) (registrations : Registrations) (pool : PoolState) : Type 0 where
  pub course : c.chair.course ≡ beginning c.wave (walks_of d.waves c.wave) (at_begin d registrations pool)
  pub told : c.chair.told ≡ told.Looking (say.Begin c.wave)

-- Serving goes on: what the server may count on holds of it, and its row was told by its course, with the desks that are held. The
-- BSP's own seat is the same in both places.
pub record IsServing (d : SetupData) (c : Context) : Type 0 where
  pub goes_on : GoesOn c.chair.course.place
  pub fits : PlaceFits d c.chair.course.place
  pub own : seat_listed c c.bsp ≡ seat_known c c.bsp
  pub sound : IsSound (setting d c.bsp) (is_held c.held) c.chair.course.place.state
  pub told : c.chair.told ≡ row_of (setting d c.bsp) c.held c.chair.course

-- jobs are collected after the handlers: the next one is another processor's, which has one; the BSP has none
pub record IsCollecting (d : SetupData) (c : Context) : Type 0 where
  pub over : IsOver c.chair.course.place
  pub next : c.next < d.processors
  pub other : c.next ≢ c.bsp
  pub owed : has_job (seat_known c c.next) ≡ true
  pub own : has_job (seat_known c c.bsp) ≡ false

-- SUMS

-- `counter` and the BSP's word `run` as sums over all processors: it is raised once by each AP for its report, its release and its
-- departure, and lowered once for each that the BSP has waited for.
pub record IsTotals (c : Context) (counter run members team raised : ℕ) : Type 0 where
  pub counted : c.stage ≤ 9 → counter ≡ members
  pub counter_locked : 10 ≤ c.stage → counter ≡ locked
  pub peers : 10 ≤ c.stage → c.peers + 1 ≡ team
  pub run_open : 1 ≤ c.stage → c.stage ≤ 9 → run ≡ raised
  pub run_reports : c.stage ≡ 10 → (1 ≤ c.next) × (c.next ≤ c.peers) × (run + c.peers ≡ raised + c.next)
  pub run_reported : 11 ≤ c.stage → c.stage ≤ 15 → run + c.peers ≡ raised
  pub run_answers : c.stage ≡ 16 → (1 ≤ c.next) × (c.next ≤ c.peers) × (run + 2 * c.peers ≡ raised + c.next)
  pub run_answered : c.stage ≡ 17 → run + 2 * c.peers ≡ raised
  pub run_ends : c.stage ≡ 18 → (1 ≤ c.next) × (c.next ≤ c.peers) × (run + 3 * c.peers ≡ raised + c.next)
  pub run_ended : 19 ≤ c.stage → run + 3 * c.peers ≡ raised

abbrev pub members_in : ℕ → (ℕ → View) → ℕ
members_in n V = sum_below n (λ j. member_of (V j).station)

abbrev pub team_in : ℕ → (ℕ → View) → ℕ
team_in n V = sum_below n (λ j. (V j).team)

abbrev pub raised_in : ℕ → (ℕ → View) → ℕ
raised_in n V = sum_below n (λ j. made (V j).departed (V j).station)

-- THE WORDS OF ALL

-- these words, what lies on `bsp`, and the machine but for its members and what is registered
pub record Globe : Type 0 where
  pub bsp : ℕ
  pub inside : ℕ
  pub insync : ℕ
  pub source : ℕ
  pub except : ℕ
  pub on_bsp : Option Cargo
  pub waves : ℕ
  pub excepted : ℕ
  pub last_excepted : ℕ
  pub m_source : ℕ
  pub session : Option Session

abbrev pub globe : Scene → Machine → Globe
globe s m =
    record {
      bsp = s.words.bsp;
      inside = s.words.inside;
      insync = s.words.insync;
      source = s.words.source;
      except = s.words.except;
      on_bsp = s.lying.bsp;
      waves = m.waves;
      excepted = m.excepted;
      last_excepted = m.last_excepted;
      m_source = m.source;
      session = m.session;
    }

-- the words by the stage of the session, and the chair where nobody has it
pub record IsWords (d : SetupData) (c : Context) (g : Globe) : Type 0 where
  pub some_bsp : 1 ≤ c.stage → c.bsp < d.processors
  pub no_bsp : c.stage ≡ 0 → c.bsp ≡ locked
  pub bsp_before : c.stage ≡ 0 → g.bsp ≡ bsp_at_first d.policy
  pub bsp_taken : 1 ≤ c.stage → c.stage ≤ 19 → g.bsp ≡ c.bsp
  pub bsp_free : 20 ≤ c.stage → g.bsp ≡ bsp_at_first d.policy
  pub leads : 1 ≤ c.stage → MayLead d.policy c.bsp
  pub inside_before : c.stage ≤ 1 → g.inside ≡ 0
  pub inside : 2 ≤ c.stage → c.stage ≤ 14 → g.inside ≡ 1
  pub inside_after : 15 ≤ c.stage → g.inside ≡ 0
  pub insync_before : c.stage ≤ 8 → g.insync ≡ 0
  pub insync : 9 ≤ c.stage → c.stage ≤ 20 → g.insync ≡ 1
  pub insync_after : 21 ≤ c.stage → g.insync ≡ 0
  pub chair_before : c.stage ≡ 0 → g.on_bsp ≡ chair_lying d.policy c.chair
  pub chair : 1 ≤ c.stage → c.stage ≤ 19 → g.on_bsp ≡ None
  pub chair_after : 20 ≤ c.stage → g.on_bsp ≡ chair_lying d.policy c.chair
  pub source : g.source ≡ g.m_source
  pub except : g.except ≡ g.last_excepted
  pub no_session : c.stage ≡ 0 → g.session ≡ None
  pub session : 1 ≤ c.stage → g.session ≡ Some c.session

-- the machine's session by its stage; the traditional mode is 0
pub record IsSession (mode : ℕ) (c : Context) : Type 0 where
  pub bsp : 1 ≤ c.stage → c.session.bsp ≡ c.bsp
  pub unserved : c.stage ≤ 2 → c.session.served ≡ None
  pub served : 3 ≤ c.stage → c.session.served ≡ Some c.wave
  pub ungathered : c.stage ≤ 3 → c.session.gathered ≡ None
  pub gathered : mode ≡ 0 → 4 ≤ c.stage → c.session.gathered ≡ Some c.blocked
  pub unready : c.stage ≤ 7 → c.session.is_ready ≡ false
  pub fresh : c.stage ≤ 5 → c.session.expired ≡ 0
  pub expired : mode ≡ 0 → 6 ≤ c.stage → c.stage ≤ 7 → c.session.expired ≡ 1
  pub waited : mode ≡ 0 → 8 ≤ c.stage → HasWaited c.session
  pub unclosed : c.stage ≤ 9 → c.session.is_closed ≡ false
  pub closed : 10 ≤ c.stage → c.session.is_closed ≡ true
  pub unbegun : c.stage ≤ begins_from mode → c.session.serving ≡ None
  pub undone : c.stage ≤ 14 → c.session.is_done ≡ false
  pub done : 15 ≤ c.stage → c.session.is_done ≡ true

-- THE CHIPSET

abbrev pub stage_of : Herald → ℕ
stage_of AnnouncingBlocked = 1
stage_of AnnouncingWave = 2
stage_of (Raising _) = 3
stage_of (Watching _) = 4
stage_of AwaitingServed = 5
stage_of (TurningOff _) = 6
stage_of Silenced = 7

-- which waves the chipset has announced
pub record IsChipset (d : SetupData) (x : Watch) (waves excepted : ℕ) : Type 0 where
  pub before : stage_of x.herald ≡ 1 → (x.wave ≡ waves + 1) × (excepted ≡ waves) × (waves < length d.waves)
  pub between : stage_of x.herald ≡ 2 → (x.wave ≡ waves + 1) × (excepted ≡ waves + 1) × (waves < length d.waves)
  pub announced : 3 ≤ stage_of x.herald → stage_of x.herald ≤ 5 → (x.wave ≡ waves) × (excepted ≡ waves) × (1 ≤ waves) × (waves ≤ length d.waves)
  pub through : 6 ≤ stage_of x.herald → (waves ≡ length d.waves) × (excepted ≡ waves)

-- THE BSP

-- The processor that a loop is at is another one: the close takes desks that it lacks, and the exit goes over its list. The list of the
-- close has the desks that are held, as far as it is still to be gone over.
pub record IsAim (d : SetupData) (c : Context) : Type 0 where
  pub signals : c.stage ≡ 6 → (c.next < d.processors) × (c.next ≢ c.bsp)
  pub takes : c.stage ≡ 11 → (c.next < d.processors) × (c.next ≢ c.bsp) × (is_some (get_or c.held c.next None) ≡ false)
  pub releases : c.stage ≡ 15 → (c.next < d.processors) × (c.next ≢ c.bsp) × (get_or c.listed c.next false ≡ true)
  pub dismisses : c.stage ≡ 17 → (c.next < d.processors) × (c.next ≢ c.bsp) × (get_or c.listed c.next false ≡ true)
  pub gives : c.stage ≡ 19 → d.policy ≡ Elected
  pub closes : 8 ≤ c.stage → c.stage ≤ 10 → (j : ℕ) → j < d.processors → get_or c.listed j false ≡ is_some (get_or c.held j None)
  pub closes_on : c.stage ≡ 11 → (j : ℕ) → j < d.processors → c.next ≤ j → get_or c.listed j false ≡ is_some (get_or c.held j None)

-- the desks that the BSP holds; at the handlers one of them may have its job already
abbrev pub held_at : Lead → Chair → List (Option Desk) → List (Option Desk)
held_at AtHandlers chair held = handed_as chair.told held
held_at _ chair held = held

-- The seat of a BSP at this position is what is told of the session.
pub record IsLead (d : SetupData) (c : Context) (registrations : Registrations) (pool : PoolState) (lead : Lead) (t : Seat) : Type 0 where
  pub stage : stage_in lead (is_relaxed d.mode) ≡ c.stage
  pub traditional : is_traditional lead ≡ 1 → is_relaxed d.mode ≡ false
  pub next : next_of lead ≡ c.next
  pub wave : t.wave ≡ c.wave
  pub blocked : t.blocked ≡ c.blocked
  pub listed : t.listed ≡ c.listed
  pub held : t.held ≡ held_at lead c.chair c.held
  pub chair : c.stage ≤ 19 → t.chair ≡ Some c.chair
  pub no_chair : 20 ≤ c.stage → t.chair ≡ chair_home d.policy c.bsp c.chair
  pub begins : part_of lead ≡ 1 → IsBeginning d c registrations pool
  pub serves : part_of lead ≡ 2 → IsServing d c
  pub collects : part_of lead ≡ 3 → IsCollecting d c

-- the BSP stands at one of its positions
pub record IsAt (d : SetupData) (c : Context) (registrations : Registrations) (pool : PoolState) (t : Seat) : Type 0 where
  pub lead : Lead
  pub position : t.position ≡ LeadingAt lead
  pub is : IsLead d c registrations pool lead t

-- ALL OF IT

pub record Sizes : Type 0 where
  pub seats : ℕ
  pub pend : ℕ
  pub present : ℕ
  pub run : ℕ
  pub busy : ℕ
  pub on_present : ℕ
  pub on_run : ℕ
  pub on_busy : ℕ
  pub members : ℕ

abbrev pub sizes : Scene → Machine → Sizes
sizes s m =
    record {
      seats = length s.seats;
      pend = length s.words.pend;
      present = length s.words.present;
      run = length s.words.run;
      busy = length s.words.busy;
      on_present = length s.lying.present;
      on_run = length s.lying.run;
      on_busy = length s.lying.busy;
      members = length m.members;
    }

pub record IsSized (d : SetupData) (c : Context) (z : Sizes) : Type 0 where
  pub seats : z.seats ≡ d.processors
  pub pend : z.pend ≡ d.processors
  pub present : z.present ≡ d.processors
  pub run : z.run ≡ d.processors
  pub busy : z.busy ≡ d.processors
  pub on_present : z.on_present ≡ d.processors
  pub on_run : z.on_run ≡ d.processors
  pub on_busy : z.on_busy ≡ d.processors
  pub members : z.members ≡ d.processors
  pub held : 1 ≤ c.stage → length c.held ≡ d.processors

-- all but what the BSP's seat says: the world may be one between two of its positions
pub record IsReady (d : SetupData) (c : Context) (s : Scene) (m : Machine) : Type 0 where
  pub platform : IsPlatform d
  pub sized : IsSized d c (sizes s m)
  pub words : IsWords d c (globe s m)
  pub session : IsSession (mode_of d) c
  pub course : IsCourse d c m.registrations m.pool
  pub chipset : IsChipset d s.watch m.waves m.excepted
  pub totals : IsTotals c s.words.counter (get_or s.words.run c.bsp 0) (members_in d.processors (view s m)) (team_in d.processors (view s m)) (raised_in d.processors (view s m))
  pub each : (j : ℕ) → j < d.processors → IsCpu d c m.waves j (view s m j)
  pub runs : (j : ℕ) → j < d.processors → j ≢ c.bsp → IsRunOf c j (view s m j) (get_or s.words.run j 0)
  pub jobs : (j : ℕ) → j < d.processors → j ≢ c.bsp → IsJobOf d c j (member m j).job
  pub idle : (j : ℕ) → j < d.processors → j ≢ c.bsp → IsIdle d c j (seat s j)
  pub signals : (j : ℕ) → j < d.processors → IsSignal d m.waves (member m j).visits (get_or s.words.pend j 0)
  pub busies : (j : ℕ) → j < d.processors → IsBusy (member m j) (get_or s.words.busy j 0) (get_or s.lying.busy j None)

pub record Holds (d : SetupData) (c : Context) (s : Scene) (m : Machine) : Type 0 where
  pub ready : IsReady d c s m
  pub aim : IsAim d c
  pub at : 1 ≤ c.stage → IsAt d c m.registrations m.pool (seat s c.bsp)

-- the world and the machine belong together
pub record IsFine (d : SetupData) (w : World) (m : Machine) : Type 0 where
  pub context : Context
  pub scene : Scene
  pub world_is : world_of d scene ≡ w
  pub holds : Holds d context scene m

-- a step keeps that, and its label is one that the machine allows
abbrev pub Kept : SetupData → Machine → ℕ → Stepped × World → Type 0
Kept d m i o = simulation.Kept d (λ w n. IsFine d w n) m i o

-- the turn of the processor i, whose seat is t, at this position
abbrev pub KeptAt : SetupData → Scene → Machine → ℕ → Seat → Position → Type 0
KeptAt d s m i t at = Kept d m i (turned (world_of d s) i (turn s.words s.lying i (OfProcessor (processor_at d i at t))))

-- the turn of the chipset
abbrev pub KeptHerald : SetupData → Scene → Machine → Herald → Type 0
KeptHerald d s m h = Kept d m d.processors (turned (world_of d s) d.processors (turn s.words s.lying d.processors (OfChipset (chipset_at d h s.watch))))

-- The world by where each actor stands: a position for each processor, and one for the chipset.
use Rattle.std.proofs.Common.{ℕ, zero, suc, ◌+◌, ◌≡◌, ◌<◌, ◌≤◌, arith, Bool, List, [], ◌∷◌, length, get_or, slice_set, Option, Some, None, refl, ap, ◌∙◌}
use Rattle.std.specs.Prelude.{slice_get}
use Rattle.save_state_map.specs.Images.{ImageContents}
use Rattle.cpu_regs.specs.Registers.{Registers, loaded}
use Rattle.cpu_table.specs.Data.{SetupData}
use Rattle.sync_words.specs.declared.row.Row.{Row}
use Rattle.sync_words.specs.declared.row.Row.TheVariants as row
use Rattle.exit_handshake.specs.Exit.{exit_at}
use Rattle.handler_ops.specs.declared.desk.Desk.{Desk}
use Rattle.handler_ops.specs.Sessions.{Session as Chair}
use Rattle.cpu_program.specs.declared.part.Part.{Part}
use Rattle.cpu_program.specs.declared.part.Part.TheVariants as part
use Rattle.chipset.specs.Chipsets.{Chipset}
use Rattle.cpu_program.specs.Actors.{Processor, Actor, OfProcessor, OfChipset}
use Rattle.cpu_program.specs.Processors.{is_relaxed, is_elected}
use Rattle.rendezvous_core.specs.Worlds.{Words, Lying, World}
use Rattle.rendezvous_machine.specs.Machines.{no_image}

-- WHERE A PROCESSOR STANDS

-- as the BSP; the numbers are looks that were made, a processor, or how many are still to come
pub data Lead : Type 0 where
  MarkingInside : Lead
  TakingSource : Lead
  LookingAtExcept : Lead
  GatheringFirst : ℕ → Lead
  FindingMissing : ℕ → Lead
  SignallingMissing : ℕ → Lead
  GatheringSecond : ℕ → Lead
  MarkingInsync : Lead
  LockingCounter : Lead
  AwaitingReports : ℕ → Lead
  TakingDesk : ℕ → Lead
  BeginningToServe : Lead
  AtHandlers : Lead
  Collecting : ℕ → Lead
  LeavingInside : Lead
  Releasing : ℕ → Lead
  AwaitingReleased : ℕ → Lead
  Dismissing : ℕ → Lead
  AwaitingDismissed : ℕ → Lead
  GivingChair : Lead
  LeavingInsync : Lead
  UnlockingCounter : Lead

-- Any processor. One in its entry knows what it found in `source` and in `inside`, one that waits for a BSP how many looks it made and
-- the last processor that it found in `bsp`.
pub data Position : Type 0 where
  AwaitingSmi : Position
  SwitchingOff : Position
  LookingAtSource : Position
  LookingInside : ℕ → Position
  CountingIn : ℕ → ℕ → Position
  ClaimingChair : ℕ → ℕ → Position
  AskingForChair : ℕ → ℕ → Position
  Leading : Lead → Position
  AwaitingInside : ℕ → Position
  FindingBsp : Position
  SignallingBsp : ℕ → Position
  AwaitingInsideAgain : ℕ → ℕ → Position
  CountingOut : ℕ → Position
  SeekingBsp : ℕ → Position
  Reporting : Position
  TellingReport : Position
  AwaitingRelease : Position
  GivingBack : Position
  TellingRelease : Position
  AwaitingDismissal : Position
  Withdrawing : Position
  TellingDismissal : Position
  AwaitingEnd : Position
  ClearingSignal : Position
  Away : Position

-- the chipset, with the processor of a loop, or the looks that were made
pub data Herald : Type 0 where
  AnnouncingBlocked : Herald
  AnnouncingWave : Herald
  Raising : ℕ → Herald
  Watching : ℕ → Herald
  AwaitingServed : Herald
  TurningOff : ℕ → Herald
  Silenced : Herald

-- a processor's position and what it keeps
pub record Seat : Type 0 where
  pub position : Position
  pub visits : ℕ
  pub wave : ℕ  -- as the BSP, the wave that it serves
  pub bsp : ℕ  -- as an AP, to whom it reports
  pub blocked : ℕ  -- as the BSP, how many processors it takes as blocked
  pub listed : List Bool  -- as the BSP, whose desks it held as the close or the exit began
  pub registers : Registers
  pub last : ImageContents  -- the image that it last resumed from
  pub held : List (Option Desk)
  pub chair : Option Chair

-- the chipset's position and the wave that it is at
pub record Watch : Type 0 where
  pub herald : Herald
  pub wave : ℕ

-- the words, what lies on them, and where each actor stands
pub record Scene : Type 0 where
  pub words : Words
  pub lying : Lying
  pub seats : List Seat
  pub watch : Watch

abbrev pub no_seat : Seat
no_seat =
    record { position = Away; visits = 0; wave = 0; bsp = 0; blocked = 0; listed = []; registers = loaded no_image; last = no_image; held = []; chair = None }

abbrev pub seat : Scene → ℕ → Seat
seat s j = get_or s.seats j no_seat

-- THE WORLD

abbrev pub entering_at : SetupData → ℕ → Row → ℕ → ℕ → Part
entering_at d me r source inside =
    part.Entering (record { processors = d.processors; policy = d.policy; me = me; row = r; source = source; inside = inside })

abbrev pub gathering_at : SetupData → ℕ → Row → ℕ → Part
gathering_at d me r blocked =
    part.Gathering (record { processors = d.processors; first_looks = d.t1; second_looks = d.t2; me = me; row = r; blocked = blocked })

abbrev pub closing_at : SetupData → ℕ → Row → List Bool → Part
closing_at d me r listed =
    part.Closing (record { processors = d.processors; me = me; held = listed; relaxed = is_relaxed d.mode; row = r })

abbrev pub exiting_at : SetupData → ℕ → Row → List Bool → Part
exiting_at d me r listed = part.Exiting (exit_at d.processors me listed (is_elected d.policy) r)

abbrev pub reporting_at : SetupData → ℕ → Row → ℕ → Part
reporting_at d me r bsp =
    part.Reporting (record { processors = d.processors; first_looks = d.t1; second_looks = d.t2; me = me; row = r; bsp = bsp })

abbrev pub lead_at : SetupData → ℕ → Lead → Seat → Part
lead_at d me MarkingInside s = part.Between row.MarkInside
lead_at d me TakingSource s = part.Between row.TakeSource
lead_at d me LookingAtExcept s = gathering_at d me row.LookAtExcept 0
lead_at d me (GatheringFirst looks) s = gathering_at d me (row.GatherFirst looks) s.blocked
lead_at d me (FindingMissing j) s = gathering_at d me (row.FindMissing j) s.blocked
lead_at d me (SignallingMissing j) s = gathering_at d me (row.SignalMissing j) s.blocked
lead_at d me (GatheringSecond looks) s = gathering_at d me (row.GatherSecond looks) s.blocked
lead_at d me MarkingInsync s = closing_at d me row.MarkInsync s.listed
lead_at d me LockingCounter s = closing_at d me row.LockCounter s.listed
lead_at d me (AwaitingReports left) s = closing_at d me (row.AwaitReports left) s.listed
lead_at d me (TakingDesk j) s = closing_at d me (row.TakeDesk j) s.listed
lead_at d me BeginningToServe s = part.Serving
lead_at d me AtHandlers s = part.Serving
lead_at d me (Collecting j) s = part.Between (row.CollectJob j)
lead_at d me LeavingInside s = part.Between row.LeaveInside
lead_at d me (Releasing j) s = exiting_at d me (row.Release j) s.listed
lead_at d me (AwaitingReleased left) s = exiting_at d me (row.AwaitReleased left) s.listed
lead_at d me (Dismissing j) s = exiting_at d me (row.Dismiss j) s.listed
lead_at d me (AwaitingDismissed left) s = exiting_at d me (row.AwaitDismissed left) s.listed
lead_at d me GivingChair s = exiting_at d me row.GiveBsp s.listed
lead_at d me LeavingInsync s = exiting_at d me row.LeaveInsync s.listed
lead_at d me UnlockingCounter s = exiting_at d me row.UnlockCounter s.listed

abbrev pub part_at : SetupData → ℕ → Position → Seat → Part
part_at d me AwaitingSmi s = part.Between row.AwaitSmi
part_at d me SwitchingOff s = part.Between row.SwitchOff
part_at d me LookingAtSource s = entering_at d me row.LookAtSource 0 0
part_at d me (LookingInside source) s = entering_at d me row.LookAtInside source 0
part_at d me (CountingIn source inside) s = entering_at d me row.CountIn source inside
part_at d me (ClaimingChair source inside) s = entering_at d me row.ClaimBsp source inside
part_at d me (AskingForChair source inside) s = entering_at d me row.LookAtBsp source inside
part_at d me (Leading lead) s = lead_at d me lead s
part_at d me (AwaitingInside looks) s = reporting_at d me (row.AwaitInside looks) 0
part_at d me FindingBsp s = reporting_at d me row.FindBsp 0
part_at d me (SignallingBsp seen) s = reporting_at d me row.SignalBsp seen
part_at d me (AwaitingInsideAgain looks seen) s = reporting_at d me (row.AwaitInsideAgain looks) seen
part_at d me (CountingOut seen) s = reporting_at d me row.CountOut seen
part_at d me (SeekingBsp seen) s = reporting_at d me row.SeekBsp seen
part_at d me Reporting s = reporting_at d me row.Report s.bsp
part_at d me TellingReport s = reporting_at d me row.TellReported s.bsp
part_at d me AwaitingRelease s = part.Between row.AwaitRelease
part_at d me GivingBack s = part.Between row.GiveDeskBack
part_at d me TellingRelease s = part.Between row.TellReleased
part_at d me AwaitingDismissal s = part.Between row.AwaitDismissal
part_at d me Withdrawing s = part.Between row.WithdrawReport
part_at d me TellingDismissal s = part.Between row.TellDismissed
part_at d me AwaitingEnd s = part.Between row.AwaitSessionEnd
part_at d me ClearingSignal s = part.Between row.ClearSignal
part_at d me Away s = part.Off

-- the processor `me`, at a position of its own argument
abbrev pub processor_at : SetupData → ℕ → Position → Seat → Processor
processor_at d me at s =
    record {
      setup = d;
      me = me;
      part = part_at d me at s;
      visits = s.visits;
      wave = s.wave;
      bsp = s.bsp;
      registers = s.registers;
      last = s.last;
      held = s.held;
      chair = s.chair;
      ran = None;
    }

abbrev pub row_at : Herald → Option Row
row_at AnnouncingBlocked = Some row.AnnounceBlocked
row_at AnnouncingWave = Some row.AnnounceWave
row_at (Raising j) = Some (row.RaiseWave j)
row_at (Watching looks) = Some (row.WatchSource looks)
row_at AwaitingServed = Some row.AwaitServed
row_at (TurningOff j) = Some (row.RaiseOff j)
row_at Silenced = None

abbrev pub chipset_at : SetupData → Herald → Watch → Chipset
chipset_at d h x = record { setup = d; row = row_at h; wave = x.wave }

abbrev pub processor_of : SetupData → ℕ → Seat → Actor
processor_of d me s = OfProcessor (processor_at d me s.position s)

abbrev pub chipset_of : SetupData → Watch → Actor
chipset_of d x = OfChipset (chipset_at d x.herald x)

abbrev pub actors_from : SetupData → ℕ → List Seat → Watch → List Actor
actors_from d me [] x = chipset_of d x ∷ []
actors_from d me (s ∷ ss) x = processor_of d me s ∷ actors_from d (me + 1) ss x

abbrev pub actors_of : SetupData → Scene → List Actor
actors_of d s = actors_from d 0 s.seats s.watch

abbrev pub world_of : SetupData → Scene → World
world_of d s = record { words = s.words; lying = s.lying; actors = actors_of d s }

-- THE LIST OF ACTORS

seat_from : (d : SetupData) (me : ℕ) (ss : List Seat) (x : Watch) (i : ℕ) → i < length ss → slice_get (actors_from d me ss x) i ≡ Some (processor_of d (me + i) (get_or ss i no_seat))
seat_from d me [] x i l = absurd (omega arith)
seat_from d me (s ∷ ss) x zero l = let e : me ≡ me + 0 = omega arith in ap (λ (k : ℕ). Some (processor_of d k s)) e
seat_from d me (s ∷ ss) x (suc i) l =
    let e : (me + 1) + i ≡ me + suc i = omega arith in
    seat_from d (me + 1) ss x i (omega arith) ∙ ap (λ (k : ℕ). Some (processor_of d k (get_or ss i no_seat))) e

pub watch_from : (d : SetupData) (me : ℕ) (ss : List Seat) (x : Watch) → slice_get (actors_from d me ss x) (length ss) ≡ Some (chipset_of d x)
watch_from d me [] x = refl
watch_from d me (s ∷ ss) x = watch_from d (me + 1) ss x

pub beyond_from : (d : SetupData) (me : ℕ) (ss : List Seat) (x : Watch) (i : ℕ) → length ss < i → slice_get (actors_from d me ss x) i ≡ None
beyond_from d me [] x zero l = absurd (omega arith)
beyond_from d me [] x (suc i) l = refl
beyond_from d me (s ∷ ss) x zero l = absurd (omega arith)
beyond_from d me (s ∷ ss) x (suc i) l = beyond_from d (me + 1) ss x i (omega arith)

seat_set_from : (d : SetupData) (me : ℕ) (ss : List Seat) (x : Watch) (i : ℕ) (t : Seat) → i < length ss
    → slice_set (actors_from d me ss x) i (processor_of d (me + i) t) ≡ actors_from d me (slice_set ss i t) x
seat_set_from d me [] x i t l = absurd (omega arith)
seat_set_from d me (s ∷ ss) x zero t l =
    let e : me + 0 ≡ me = omega arith in ap (λ (k : ℕ). processor_of d k t ∷ actors_from d (me + 1) ss x) e
seat_set_from d me (s ∷ ss) x (suc i) t l =
    let e : me + suc i ≡ (me + 1) + i = omega arith in
    ap (λ (k : ℕ). processor_of d me s ∷ slice_set (actors_from d (me + 1) ss x) i (processor_of d k t)) e
    ∙ ap (λ (xs : List Actor). processor_of d me s ∷ xs) (seat_set_from d (me + 1) ss x i t (omega arith))

pub watch_set_from : (d : SetupData) (me : ℕ) (ss : List Seat) (x y : Watch) → slice_set (actors_from d me ss x) (length ss) (chipset_of d y) ≡ actors_from d me ss y
watch_set_from d me [] x y = refl
watch_set_from d me (s ∷ ss) x y = ap (λ (xs : List Actor). processor_of d me s ∷ xs) (watch_set_from d (me + 1) ss x y)

-- in a scene

pub seat_get : (d : SetupData) (s : Scene) (i : ℕ) → i < length s.seats → slice_get (actors_of d s) i ≡ Some (processor_of d i (seat s i))
seat_get d s i l = let e : 0 + i ≡ i = omega arith in seat_from d 0 s.seats s.watch i l ∙ ap (λ (k : ℕ). Some (processor_of d k (seat s i))) e

pub seat_put : (d : SetupData) (s : Scene) (i : ℕ) (t : Seat) → i < length s.seats
    → slice_set (actors_of d s) i (processor_of d i t) ≡ actors_from d 0 (slice_set s.seats i t) s.watch
seat_put d s i t l =
    let e : i ≡ 0 + i = omega arith in ap (λ (k : ℕ). slice_set (actors_of d s) i (processor_of d k t)) e ∙ seat_set_from d 0 s.seats s.watch i t l

-- Where a processor stands without its numbers, as the others see it, and what that says in numbers.
use Rattle.std.proofs.Common.{ℕ, ◌+◌, ◌*◌, ◌≡◌, ◌≤◌, ◌<◌, refl, arith, Bool, true, false, Option, Some, None}
use Rattle.handler_ops.specs.declared.desk.Job.{Job}
use Rattle.rendezvous_machine.specs.declared.phase.Phase.{Phase}
use Rattle.rendezvous_machine.specs.declared.phase.Phase.TheVariants.{Out, In, Counted, Here, Gone, Off}
use Rattle.rendezvous_machine.specs.Machines.{is_counted_phase}
use Rattle.schedule_laws.proofs.Scenes as scene

-- all positions of the BSP are one
pub data Station : Type 0 where
  AwaitingSmi : Station
  SwitchingOff : Station
  LookingAtSource : Station
  LookingInside : Station
  CountingIn : Station
  ClaimingChair : Station
  AskingForChair : Station
  Leading : Station
  AwaitingInside : Station
  FindingBsp : Station
  SignallingBsp : Station
  AwaitingInsideAgain : Station
  CountingOut : Station
  SeekingBsp : Station
  Reporting : Station
  TellingReport : Station
  AwaitingRelease : Station
  GivingBack : Station
  TellingRelease : Station
  AwaitingDismissal : Station
  Withdrawing : Station
  TellingDismissal : Station
  AwaitingEnd : Station
  ClearingSignal : Station
  Away : Station

abbrev pub station_of : scene.Position → Station
station_of scene.AwaitingSmi = AwaitingSmi
station_of scene.SwitchingOff = SwitchingOff
station_of scene.LookingAtSource = LookingAtSource
station_of (scene.LookingInside _) = LookingInside
station_of (scene.CountingIn _ _) = CountingIn
station_of (scene.ClaimingChair _ _) = ClaimingChair
station_of (scene.AskingForChair _ _) = AskingForChair
station_of (scene.Leading _) = Leading
station_of (scene.AwaitingInside _) = AwaitingInside
station_of scene.FindingBsp = FindingBsp
station_of (scene.SignallingBsp _) = SignallingBsp
station_of (scene.AwaitingInsideAgain _ _) = AwaitingInsideAgain
station_of (scene.CountingOut _) = CountingOut
station_of (scene.SeekingBsp _) = SeekingBsp
station_of scene.Reporting = Reporting
station_of scene.TellingReport = TellingReport
station_of scene.AwaitingRelease = AwaitingRelease
station_of scene.GivingBack = GivingBack
station_of scene.TellingRelease = TellingRelease
station_of scene.AwaitingDismissal = AwaitingDismissal
station_of scene.Withdrawing = Withdrawing
station_of scene.TellingDismissal = TellingDismissal
station_of scene.AwaitingEnd = AwaitingEnd
station_of scene.ClearingSignal = ClearingSignal
station_of scene.Away = Away

abbrev pub bit : Bool → ℕ
bit true = 1
bit false = 0

-- a processor's job: none, still to be run, or run and not collected
abbrev pub work_done : {A : Type 0} → Option A → ℕ
work_done None = 1
work_done (Some answer) = 2

abbrev pub work_of : Option Job → ℕ
work_of None = 0
work_of (Some job) = work_done job.done

-- 1 where it is the BSP
abbrev pub is_bsp : Station → ℕ
is_bsp AwaitingSmi = 0
is_bsp SwitchingOff = 0
is_bsp LookingAtSource = 0
is_bsp LookingInside = 0
is_bsp CountingIn = 0
is_bsp ClaimingChair = 0
is_bsp AskingForChair = 0
is_bsp Leading = 1
is_bsp AwaitingInside = 0
is_bsp FindingBsp = 0
is_bsp SignallingBsp = 0
is_bsp AwaitingInsideAgain = 0
is_bsp CountingOut = 0
is_bsp SeekingBsp = 0
is_bsp Reporting = 0
is_bsp TellingReport = 0
is_bsp AwaitingRelease = 0
is_bsp GivingBack = 0
is_bsp TellingRelease = 0
is_bsp AwaitingDismissal = 0
is_bsp Withdrawing = 0
is_bsp TellingDismissal = 0
is_bsp AwaitingEnd = 0
is_bsp ClearingSignal = 0
is_bsp Away = 0

-- how far an AP is in a session past the mark on `inside`; 0 elsewhere
abbrev pub walk_of : Station → ℕ
walk_of AwaitingSmi = 0
walk_of SwitchingOff = 0
walk_of LookingAtSource = 0
walk_of LookingInside = 0
walk_of CountingIn = 0
walk_of ClaimingChair = 0
walk_of AskingForChair = 0
walk_of Leading = 0
walk_of AwaitingInside = 0
walk_of FindingBsp = 0
walk_of SignallingBsp = 0
walk_of AwaitingInsideAgain = 0
walk_of CountingOut = 0
walk_of SeekingBsp = 1
walk_of Reporting = 2
walk_of TellingReport = 3
walk_of AwaitingRelease = 4
walk_of GivingBack = 4
walk_of TellingRelease = 5
walk_of AwaitingDismissal = 6
walk_of Withdrawing = 7
walk_of TellingDismissal = 8
walk_of AwaitingEnd = 0
walk_of ClearingSignal = 0
walk_of Away = 0

abbrev pub phase_of : Station → Phase
phase_of AwaitingSmi = Out
phase_of SwitchingOff = Out
phase_of LookingAtSource = In
phase_of LookingInside = In
phase_of CountingIn = In
phase_of ClaimingChair = Counted
phase_of AskingForChair = Counted
phase_of Leading = Counted
phase_of AwaitingInside = Counted
phase_of FindingBsp = Counted
phase_of SignallingBsp = Counted
phase_of AwaitingInsideAgain = Counted
phase_of CountingOut = Counted
phase_of SeekingBsp = Counted
phase_of Reporting = Counted
phase_of TellingReport = Here
phase_of AwaitingRelease = Here
phase_of GivingBack = Here
phase_of TellingRelease = Here
phase_of AwaitingDismissal = Here
phase_of Withdrawing = Here
phase_of TellingDismissal = Gone
phase_of AwaitingEnd = Gone
phase_of ClearingSignal = Gone
phase_of Away = Off

-- 1 where it is counted
abbrev pub member_of : Station → ℕ
member_of AwaitingSmi = 0
member_of SwitchingOff = 0
member_of LookingAtSource = 0
member_of LookingInside = 0
member_of CountingIn = 0
member_of ClaimingChair = 1
member_of AskingForChair = 1
member_of Leading = 1
member_of AwaitingInside = 1
member_of FindingBsp = 1
member_of SignallingBsp = 1
member_of AwaitingInsideAgain = 1
member_of CountingOut = 1
member_of SeekingBsp = 1
member_of Reporting = 1
member_of TellingReport = 1
member_of AwaitingRelease = 1
member_of GivingBack = 1
member_of TellingRelease = 1
member_of AwaitingDismissal = 1
member_of Withdrawing = 1
member_of TellingDismissal = 0
member_of AwaitingEnd = 0
member_of ClearingSignal = 0
member_of Away = 0

-- 1 from its report to its departure
abbrev pub here_of : Station → ℕ
here_of AwaitingSmi = 0
here_of SwitchingOff = 0
here_of LookingAtSource = 0
here_of LookingInside = 0
here_of CountingIn = 0
here_of ClaimingChair = 0
here_of AskingForChair = 0
here_of Leading = 0
here_of AwaitingInside = 0
here_of FindingBsp = 0
here_of SignallingBsp = 0
here_of AwaitingInsideAgain = 0
here_of CountingOut = 0
here_of SeekingBsp = 0
here_of Reporting = 0
here_of TellingReport = 1
here_of AwaitingRelease = 1
here_of GivingBack = 1
here_of TellingRelease = 1
here_of AwaitingDismissal = 1
here_of Withdrawing = 1
here_of TellingDismissal = 0
here_of AwaitingEnd = 0
here_of ClearingSignal = 0
here_of Away = 0

-- 1 where it doesn't have its desk
abbrev pub out_of : Station → ℕ
out_of AwaitingSmi = 0
out_of SwitchingOff = 0
out_of LookingAtSource = 0
out_of LookingInside = 0
out_of CountingIn = 0
out_of ClaimingChair = 0
out_of AskingForChair = 0
out_of Leading = 0
out_of AwaitingInside = 0
out_of FindingBsp = 0
out_of SignallingBsp = 0
out_of AwaitingInsideAgain = 0
out_of CountingOut = 0
out_of SeekingBsp = 0
out_of Reporting = 0
out_of TellingReport = 1
out_of AwaitingRelease = 1
out_of GivingBack = 0
out_of TellingRelease = 0
out_of AwaitingDismissal = 0
out_of Withdrawing = 0
out_of TellingDismissal = 0
out_of AwaitingEnd = 0
out_of ClearingSignal = 0
out_of Away = 0

-- 1 where it runs a job
abbrev pub job_of : Station → ℕ
job_of AwaitingSmi = 0
job_of SwitchingOff = 0
job_of LookingAtSource = 0
job_of LookingInside = 0
job_of CountingIn = 0
job_of ClaimingChair = 0
job_of AskingForChair = 0
job_of Leading = 0
job_of AwaitingInside = 0
job_of FindingBsp = 0
job_of SignallingBsp = 0
job_of AwaitingInsideAgain = 0
job_of CountingOut = 0
job_of SeekingBsp = 0
job_of Reporting = 0
job_of TellingReport = 0
job_of AwaitingRelease = 0
job_of GivingBack = 1
job_of TellingRelease = 0
job_of AwaitingDismissal = 0
job_of Withdrawing = 0
job_of TellingDismissal = 0
job_of AwaitingEnd = 0
job_of ClearingSignal = 0
job_of Away = 0

-- 1 during a visit
abbrev pub in_of : Station → ℕ
in_of AwaitingSmi = 0
in_of SwitchingOff = 0
in_of LookingAtSource = 1
in_of LookingInside = 1
in_of CountingIn = 1
in_of ClaimingChair = 1
in_of AskingForChair = 1
in_of Leading = 1
in_of AwaitingInside = 1
in_of FindingBsp = 1
in_of SignallingBsp = 1
in_of AwaitingInsideAgain = 1
in_of CountingOut = 1
in_of SeekingBsp = 1
in_of Reporting = 1
in_of TellingReport = 1
in_of AwaitingRelease = 1
in_of GivingBack = 1
in_of TellingRelease = 1
in_of AwaitingDismissal = 1
in_of Withdrawing = 1
in_of TellingDismissal = 1
in_of AwaitingEnd = 1
in_of ClearingSignal = 1
in_of Away = 0

-- 1 where it waits for an interrupt, 2 where it has had all its visits
abbrev pub waits_of : Station → ℕ
waits_of AwaitingSmi = 1
waits_of SwitchingOff = 2
waits_of LookingAtSource = 0
waits_of LookingInside = 0
waits_of CountingIn = 0
waits_of ClaimingChair = 0
waits_of AskingForChair = 0
waits_of Leading = 0
waits_of AwaitingInside = 0
waits_of FindingBsp = 0
waits_of SignallingBsp = 0
waits_of AwaitingInsideAgain = 0
waits_of CountingOut = 0
waits_of SeekingBsp = 0
waits_of Reporting = 0
waits_of TellingReport = 0
waits_of AwaitingRelease = 0
waits_of GivingBack = 0
waits_of TellingRelease = 0
waits_of AwaitingDismissal = 0
waits_of Withdrawing = 0
waits_of TellingDismissal = 0
waits_of AwaitingEnd = 0
waits_of ClearingSignal = 0
waits_of Away = 0

-- how often a processor that has departed d times, 0 or 1, has raised the BSP's word in this session
abbrev pub made : ℕ → Station → ℕ
made d AwaitingSmi = 3 * d
made d SwitchingOff = 3 * d
made d LookingAtSource = 3 * d
made d LookingInside = 3 * d
made d CountingIn = 3 * d
made d ClaimingChair = 0
made d AskingForChair = 0
made d Leading = 0
made d AwaitingInside = 0
made d FindingBsp = 0
made d SignallingBsp = 0
made d AwaitingInsideAgain = 0
made d CountingOut = 0
made d SeekingBsp = 0
made d Reporting = 0
made d TellingReport = 0
made d AwaitingRelease = 1
made d GivingBack = 1
made d TellingRelease = 1
made d AwaitingDismissal = 2
made d Withdrawing = 2
made d TellingDismissal = 2
made d AwaitingEnd = 3 * d
made d ClearingSignal = 3 * d
made d Away = 3 * d

-- how often it has lowered its own
abbrev pub low : ℕ → Station → ℕ
low d AwaitingSmi = 2 * d
low d SwitchingOff = 2 * d
low d LookingAtSource = 2 * d
low d LookingInside = 2 * d
low d CountingIn = 2 * d
low d ClaimingChair = 0
low d AskingForChair = 0
low d Leading = 0
low d AwaitingInside = 0
low d FindingBsp = 0
low d SignallingBsp = 0
low d AwaitingInsideAgain = 0
low d CountingOut = 0
low d SeekingBsp = 0
low d Reporting = 0
low d TellingReport = 0
low d AwaitingRelease = 0
low d GivingBack = 1
low d TellingRelease = 1
low d AwaitingDismissal = 1
low d Withdrawing = 2
low d TellingDismissal = 2
low d AwaitingEnd = 2 * d
low d ClearingSignal = 2 * d
low d Away = 2 * d

-- HOW THE COLUMNS BEAR ON EACH OTHER

pub made-le : (d : ℕ) (r : Station) → d ≤ 1 → made d r ≤ 3
made-le d AwaitingSmi h = omega arith
made-le d SwitchingOff h = omega arith
made-le d LookingAtSource h = omega arith
made-le d LookingInside h = omega arith
made-le d CountingIn h = omega arith
made-le d ClaimingChair h = omega arith
made-le d AskingForChair h = omega arith
made-le d Leading h = omega arith
made-le d AwaitingInside h = omega arith
made-le d FindingBsp h = omega arith
made-le d SignallingBsp h = omega arith
made-le d AwaitingInsideAgain h = omega arith
made-le d CountingOut h = omega arith
made-le d SeekingBsp h = omega arith
made-le d Reporting h = omega arith
made-le d TellingReport h = omega arith
made-le d AwaitingRelease h = omega arith
made-le d GivingBack h = omega arith
made-le d TellingRelease h = omega arith
made-le d AwaitingDismissal h = omega arith
made-le d Withdrawing h = omega arith
made-le d TellingDismissal h = omega arith
made-le d AwaitingEnd h = omega arith
made-le d ClearingSignal h = omega arith
made-le d Away h = omega arith

pub member_of-le : (r : Station) → member_of r ≤ 1
member_of-le AwaitingSmi = omega arith
member_of-le SwitchingOff = omega arith
member_of-le LookingAtSource = omega arith
member_of-le LookingInside = omega arith
member_of-le CountingIn = omega arith
member_of-le ClaimingChair = omega arith
member_of-le AskingForChair = omega arith
member_of-le Leading = omega arith
member_of-le AwaitingInside = omega arith
member_of-le FindingBsp = omega arith
member_of-le SignallingBsp = omega arith
member_of-le AwaitingInsideAgain = omega arith
member_of-le CountingOut = omega arith
member_of-le SeekingBsp = omega arith
member_of-le Reporting = omega arith
member_of-le TellingReport = omega arith
member_of-le AwaitingRelease = omega arith
member_of-le GivingBack = omega arith
member_of-le TellingRelease = omega arith
member_of-le AwaitingDismissal = omega arith
member_of-le Withdrawing = omega arith
member_of-le TellingDismissal = omega arith
member_of-le AwaitingEnd = omega arith
member_of-le ClearingSignal = omega arith
member_of-le Away = omega arith

pub here_of-le : (r : Station) → here_of r ≤ 1
here_of-le AwaitingSmi = omega arith
here_of-le SwitchingOff = omega arith
here_of-le LookingAtSource = omega arith
here_of-le LookingInside = omega arith
here_of-le CountingIn = omega arith
here_of-le ClaimingChair = omega arith
here_of-le AskingForChair = omega arith
here_of-le Leading = omega arith
here_of-le AwaitingInside = omega arith
here_of-le FindingBsp = omega arith
here_of-le SignallingBsp = omega arith
here_of-le AwaitingInsideAgain = omega arith
here_of-le CountingOut = omega arith
here_of-le SeekingBsp = omega arith
here_of-le Reporting = omega arith
here_of-le TellingReport = omega arith
here_of-le AwaitingRelease = omega arith
here_of-le GivingBack = omega arith
here_of-le TellingRelease = omega arith
here_of-le AwaitingDismissal = omega arith
here_of-le Withdrawing = omega arith
here_of-le TellingDismissal = omega arith
here_of-le AwaitingEnd = omega arith
here_of-le ClearingSignal = omega arith
here_of-le Away = omega arith

pub here_member : (r : Station) → here_of r ≡ 1 → member_of r ≡ 1
here_member AwaitingSmi h = absurd (omega arith)
here_member SwitchingOff h = absurd (omega arith)
here_member LookingAtSource h = absurd (omega arith)
here_member LookingInside h = absurd (omega arith)
here_member CountingIn h = absurd (omega arith)
here_member ClaimingChair h = absurd (omega arith)
here_member AskingForChair h = absurd (omega arith)
here_member Leading h = absurd (omega arith)
here_member AwaitingInside h = absurd (omega arith)
here_member FindingBsp h = absurd (omega arith)
here_member SignallingBsp h = absurd (omega arith)
here_member AwaitingInsideAgain h = absurd (omega arith)
here_member CountingOut h = absurd (omega arith)
here_member SeekingBsp h = absurd (omega arith)
here_member Reporting h = absurd (omega arith)
here_member TellingReport h = refl
here_member AwaitingRelease h = refl
here_member GivingBack h = refl
here_member TellingRelease h = refl
here_member AwaitingDismissal h = refl
here_member Withdrawing h = refl
here_member TellingDismissal h = absurd (omega arith)
here_member AwaitingEnd h = absurd (omega arith)
here_member ClearingSignal h = absurd (omega arith)
here_member Away h = absurd (omega arith)

pub is_here : (r : Station) → here_of r ≡ 1 → phase_of r ≡ Here
is_here AwaitingSmi h = absurd (omega arith)
is_here SwitchingOff h = absurd (omega arith)
is_here LookingAtSource h = absurd (omega arith)
is_here LookingInside h = absurd (omega arith)
is_here CountingIn h = absurd (omega arith)
is_here ClaimingChair h = absurd (omega arith)
is_here AskingForChair h = absurd (omega arith)
is_here Leading h = absurd (omega arith)
is_here AwaitingInside h = absurd (omega arith)
is_here FindingBsp h = absurd (omega arith)
is_here SignallingBsp h = absurd (omega arith)
is_here AwaitingInsideAgain h = absurd (omega arith)
is_here CountingOut h = absurd (omega arith)
is_here SeekingBsp h = absurd (omega arith)
is_here Reporting h = absurd (omega arith)
is_here TellingReport h = refl
is_here AwaitingRelease h = refl
is_here GivingBack h = refl
is_here TellingRelease h = refl
is_here AwaitingDismissal h = refl
is_here Withdrawing h = refl
is_here TellingDismissal h = absurd (omega arith)
is_here AwaitingEnd h = absurd (omega arith)
is_here ClearingSignal h = absurd (omega arith)
is_here Away h = absurd (omega arith)

pub made_once : (d : ℕ) (r : Station) → low d r ≡ 0 → made d r ≤ 1 * (member_of r + d)
made_once d AwaitingSmi h = omega arith
made_once d SwitchingOff h = omega arith
made_once d LookingAtSource h = omega arith
made_once d LookingInside h = omega arith
made_once d CountingIn h = omega arith
made_once d ClaimingChair h = omega arith
made_once d AskingForChair h = omega arith
made_once d Leading h = omega arith
made_once d AwaitingInside h = omega arith
made_once d FindingBsp h = omega arith
made_once d SignallingBsp h = omega arith
made_once d AwaitingInsideAgain h = omega arith
made_once d CountingOut h = omega arith
made_once d SeekingBsp h = omega arith
made_once d Reporting h = omega arith
made_once d TellingReport h = omega arith
made_once d AwaitingRelease h = omega arith
made_once d GivingBack h = omega arith
made_once d TellingRelease h = omega arith
made_once d AwaitingDismissal h = omega arith
made_once d Withdrawing h = omega arith
made_once d TellingDismissal h = omega arith
made_once d AwaitingEnd h = omega arith
made_once d ClearingSignal h = omega arith
made_once d Away h = omega arith

pub made_twice : (d : ℕ) (r : Station) → low d r ≤ 1 → made d r ≤ 2 * (member_of r + d)
made_twice d AwaitingSmi h = omega arith
made_twice d SwitchingOff h = omega arith
made_twice d LookingAtSource h = omega arith
made_twice d LookingInside h = omega arith
made_twice d CountingIn h = omega arith
made_twice d ClaimingChair h = omega arith
made_twice d AskingForChair h = omega arith
made_twice d Leading h = omega arith
made_twice d AwaitingInside h = omega arith
made_twice d FindingBsp h = omega arith
made_twice d SignallingBsp h = omega arith
made_twice d AwaitingInsideAgain h = omega arith
made_twice d CountingOut h = omega arith
made_twice d SeekingBsp h = omega arith
made_twice d Reporting h = omega arith
made_twice d TellingReport h = omega arith
made_twice d AwaitingRelease h = omega arith
made_twice d GivingBack h = omega arith
made_twice d TellingRelease h = omega arith
made_twice d AwaitingDismissal h = omega arith
made_twice d Withdrawing h = omega arith
made_twice d TellingDismissal h = omega arith
made_twice d AwaitingEnd h = omega arith
made_twice d ClearingSignal h = omega arith
made_twice d Away h = omega arith

pub made_thrice : (d : ℕ) (r : Station) → (walk_of r ≡ 8 → d ≡ 1) → made d r ≤ 3 * (member_of r + d)
made_thrice d AwaitingSmi h = omega arith
made_thrice d SwitchingOff h = omega arith
made_thrice d LookingAtSource h = omega arith
made_thrice d LookingInside h = omega arith
made_thrice d CountingIn h = omega arith
made_thrice d ClaimingChair h = omega arith
made_thrice d AskingForChair h = omega arith
made_thrice d Leading h = omega arith
made_thrice d AwaitingInside h = omega arith
made_thrice d FindingBsp h = omega arith
made_thrice d SignallingBsp h = omega arith
made_thrice d AwaitingInsideAgain h = omega arith
made_thrice d CountingOut h = omega arith
made_thrice d SeekingBsp h = omega arith
made_thrice d Reporting h = omega arith
made_thrice d TellingReport h = omega arith
made_thrice d AwaitingRelease h = omega arith
made_thrice d GivingBack h = omega arith
made_thrice d TellingRelease h = omega arith
made_thrice d AwaitingDismissal h = omega arith
made_thrice d Withdrawing h = omega arith
made_thrice d TellingDismissal h = (let e = h refl in omega arith)
made_thrice d AwaitingEnd h = omega arith
made_thrice d ClearingSignal h = omega arith
made_thrice d Away h = omega arith

-- one that has told its report and hasn't lowered its word is there, without its desk
pub is_reported : (d : ℕ) (r : Station) → 1 ≤ made d r → low d r ≡ 0 → (here_of r ≡ 1) × (out_of r ≡ 1) × (phase_of r ≡ Here) × (job_of r ≡ 0)
is_reported d AwaitingSmi a b = absurd (omega arith)
is_reported d SwitchingOff a b = absurd (omega arith)
is_reported d LookingAtSource a b = absurd (omega arith)
is_reported d LookingInside a b = absurd (omega arith)
is_reported d CountingIn a b = absurd (omega arith)
is_reported d ClaimingChair a b = absurd (omega arith)
is_reported d AskingForChair a b = absurd (omega arith)
is_reported d Leading a b = absurd (omega arith)
is_reported d AwaitingInside a b = absurd (omega arith)
is_reported d FindingBsp a b = absurd (omega arith)
is_reported d SignallingBsp a b = absurd (omega arith)
is_reported d AwaitingInsideAgain a b = absurd (omega arith)
is_reported d CountingOut a b = absurd (omega arith)
is_reported d SeekingBsp a b = absurd (omega arith)
is_reported d Reporting a b = absurd (omega arith)
is_reported d TellingReport a b = absurd (omega arith)
is_reported d AwaitingRelease a b = (refl, refl, refl, refl)
is_reported d GivingBack a b = absurd (omega arith)
is_reported d TellingRelease a b = absurd (omega arith)
is_reported d AwaitingDismissal a b = absurd (omega arith)
is_reported d Withdrawing a b = absurd (omega arith)
is_reported d TellingDismissal a b = absurd (omega arith)
is_reported d AwaitingEnd a b = absurd (omega arith)
is_reported d ClearingSignal a b = absurd (omega arith)
is_reported d Away a b = absurd (omega arith)

-- one that is there and hasn't lowered its word lacks its desk
pub is_waiting : (d : ℕ) (r : Station) → here_of r ≡ 1 → low d r ≡ 0 → (out_of r ≡ 1) × (job_of r ≡ 0)
is_waiting d AwaitingSmi a b = absurd (omega arith)
is_waiting d SwitchingOff a b = absurd (omega arith)
is_waiting d LookingAtSource a b = absurd (omega arith)
is_waiting d LookingInside a b = absurd (omega arith)
is_waiting d CountingIn a b = absurd (omega arith)
is_waiting d ClaimingChair a b = absurd (omega arith)
is_waiting d AskingForChair a b = absurd (omega arith)
is_waiting d Leading a b = absurd (omega arith)
is_waiting d AwaitingInside a b = absurd (omega arith)
is_waiting d FindingBsp a b = absurd (omega arith)
is_waiting d SignallingBsp a b = absurd (omega arith)
is_waiting d AwaitingInsideAgain a b = absurd (omega arith)
is_waiting d CountingOut a b = absurd (omega arith)
is_waiting d SeekingBsp a b = absurd (omega arith)
is_waiting d Reporting a b = absurd (omega arith)
is_waiting d TellingReport a b = (refl, refl)
is_waiting d AwaitingRelease a b = (refl, refl)
is_waiting d GivingBack a b = absurd (omega arith)
is_waiting d TellingRelease a b = absurd (omega arith)
is_waiting d AwaitingDismissal a b = absurd (omega arith)
is_waiting d Withdrawing a b = absurd (omega arith)
is_waiting d TellingDismissal a b = absurd (omega arith)
is_waiting d AwaitingEnd a b = absurd (omega arith)
is_waiting d ClearingSignal a b = absurd (omega arith)
is_waiting d Away a b = absurd (omega arith)

-- one of the closed set that has told all is out of the session
pub out_row : (d : ℕ) (r : Station) → 3 * (member_of r + d) ≤ made d r → (walk_of r ≡ 8 → d ≡ 1) → (walk_of r ≡ 0) × (member_of r ≡ 0) × (low 0 r ≡ 0) × (low d r ≡ 2 * d) × (here_of r ≡ 0) × (out_of r ≡ 0)
out_row d AwaitingSmi a b = (refl, refl, refl, refl, refl, refl)
out_row d SwitchingOff a b = (refl, refl, refl, refl, refl, refl)
out_row d LookingAtSource a b = (refl, refl, refl, refl, refl, refl)
out_row d LookingInside a b = (refl, refl, refl, refl, refl, refl)
out_row d CountingIn a b = (refl, refl, refl, refl, refl, refl)
out_row d ClaimingChair a b = absurd (omega arith)
out_row d AskingForChair a b = absurd (omega arith)
out_row d Leading a b = absurd (omega arith)
out_row d AwaitingInside a b = absurd (omega arith)
out_row d FindingBsp a b = absurd (omega arith)
out_row d SignallingBsp a b = absurd (omega arith)
out_row d AwaitingInsideAgain a b = absurd (omega arith)
out_row d CountingOut a b = absurd (omega arith)
out_row d SeekingBsp a b = absurd (omega arith)
out_row d Reporting a b = absurd (omega arith)
out_row d TellingReport a b = absurd (omega arith)
out_row d AwaitingRelease a b = absurd (omega arith)
out_row d GivingBack a b = absurd (omega arith)
out_row d TellingRelease a b = absurd (omega arith)
out_row d AwaitingDismissal a b = absurd (omega arith)
out_row d Withdrawing a b = absurd (omega arith)
out_row d TellingDismissal a b = (let e = b refl in absurd (omega arith))
out_row d AwaitingEnd a b = (refl, refl, refl, refl, refl, refl)
out_row d ClearingSignal a b = (refl, refl, refl, refl, refl, refl)
out_row d Away a b = (refl, refl, refl, refl, refl, refl)

pub made_zero : (r : Station) → walk_of r ≡ 0 → made 0 r ≡ 0
made_zero AwaitingSmi a = refl
made_zero SwitchingOff a = refl
made_zero LookingAtSource a = refl
made_zero LookingInside a = refl
made_zero CountingIn a = refl
made_zero ClaimingChair a = refl
made_zero AskingForChair a = refl
made_zero Leading a = refl
made_zero AwaitingInside a = refl
made_zero FindingBsp a = refl
made_zero SignallingBsp a = refl
made_zero AwaitingInsideAgain a = refl
made_zero CountingOut a = refl
made_zero SeekingBsp a = absurd (omega arith)
made_zero Reporting a = absurd (omega arith)
made_zero TellingReport a = absurd (omega arith)
made_zero AwaitingRelease a = absurd (omega arith)
made_zero GivingBack a = absurd (omega arith)
made_zero TellingRelease a = absurd (omega arith)
made_zero AwaitingDismissal a = absurd (omega arith)
made_zero Withdrawing a = absurd (omega arith)
made_zero TellingDismissal a = absurd (omega arith)
made_zero AwaitingEnd a = refl
made_zero ClearingSignal a = refl
made_zero Away a = refl

pub member_is : (r : Station) → bit (is_counted_phase (phase_of r)) ≡ member_of r
member_is AwaitingSmi = refl
member_is SwitchingOff = refl
member_is LookingAtSource = refl
member_is LookingInside = refl
member_is CountingIn = refl
member_is ClaimingChair = refl
member_is AskingForChair = refl
member_is Leading = refl
member_is AwaitingInside = refl
member_is FindingBsp = refl
member_is SignallingBsp = refl
member_is AwaitingInsideAgain = refl
member_is CountingOut = refl
member_is SeekingBsp = refl
member_is Reporting = refl
member_is TellingReport = refl
member_is AwaitingRelease = refl
member_is GivingBack = refl
member_is TellingRelease = refl
member_is AwaitingDismissal = refl
member_is Withdrawing = refl
member_is TellingDismissal = refl
member_is AwaitingEnd = refl
member_is ClearingSignal = refl
member_is Away = refl

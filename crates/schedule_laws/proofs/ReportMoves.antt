-- What an AP's own facts become from its report to its departure.
use Rattle.std.proofs.Common.{ℕ, ◌+◌, ◌-◌, ◌*◌, ◌≡◌, ◌≢◌, ◌<◌, ◌≤◌, arith, Option, Some, None}
use Rattle.save_state_map.specs.Images.{ImageContents}
use Rattle.cpu_table.specs.Data.{SetupData}
use Rattle.handler_ops.specs.declared.desk.Desk.{Desk}
use Rattle.handler_ops.specs.declared.desk.Job.{Job}
use Rattle.cpu_program.specs.declared.cargo.Cargo.{Cargo}
use Rattle.cpu_program.specs.declared.cargo.Cargo.TheVariants as cargo
use Rattle.rendezvous_machine.specs.declared.phase.Phase.TheVariants.{Here, Gone}
use Rattle.schedule_laws.proofs.Stations.{AwaitingDismissal, AwaitingEnd, AwaitingRelease, GivingBack, Reporting, SeekingBsp, TellingDismissal, TellingRelease, TellingReport, Withdrawing}
use Rattle.schedule_laws.proofs.Invariant.{Context, View, IsCpu, IsSelf, IsTeam, IsPeer, IsRunOf, desk_at, desk_kept}

-- SeekingBsp to Reporting
knowing_bsp_self : (d : SetupData) (c : Context) (waves i x : ℕ) (at : Option Desk) (v : View) (found : ℕ) → found ≡ c.bsp → IsSelf d waves at (record v { station = SeekingBsp }) → IsSelf d waves at (record v { station = Reporting; knows = found })
knowing_bsp_self d c waves i x at v found h0 h = grind arith

knowing_bsp_team : (d : SetupData) (c : Context) (waves i x : ℕ) (at : Option Desk) (v : View) (found : ℕ) → found ≡ c.bsp → v.team ≤ 1 → v.departed ≤ 1 → IsPeer c i (record v { station = SeekingBsp }) → IsTeam c i (record v { station = SeekingBsp }) → IsTeam c i (record v { station = Reporting; knows = found })
knowing_bsp_team d c waves i x at v found h0 b0 b1 g h = grind arith

knowing_bsp_peer : (d : SetupData) (c : Context) (waves i x : ℕ) (at : Option Desk) (v : View) (found : ℕ) → found ≡ c.bsp → v.team ≤ 1 → v.departed ≤ 1 → IsTeam c i (record v { station = SeekingBsp }) → IsPeer c i (record v { station = SeekingBsp }) → IsPeer c i (record v { station = Reporting; knows = found })
knowing_bsp_peer d c waves i x at v found h0 b0 b1 g h = grind arith

knowing_bsp_word : (d : SetupData) (c : Context) (waves i x : ℕ) (at : Option Desk) (v : View) (found : ℕ) → found ≡ c.bsp → v.team ≤ 1 → v.departed ≤ 1 → IsTeam c i (record v { station = SeekingBsp }) → IsPeer c i (record v { station = SeekingBsp }) → IsRunOf c i (record v { station = SeekingBsp }) x → IsRunOf c i (record v { station = Reporting; knows = found }) (x)
knowing_bsp_word d c waves i x at v found h0 b0 b1 g k h = grind arith

pub knowing_bsp : (d : SetupData) (c : Context) (waves i x : ℕ) (v : View) (found : ℕ) → found ≡ c.bsp → i ≢ c.bsp → IsCpu d c waves i (record v { station = SeekingBsp }) → IsCpu d c waves i (record v { station = Reporting; knows = found })
knowing_bsp d c waves i x v found h0 nb h =
    record {
      self = knowing_bsp_self d c waves i x (desk_kept c i) v found h0 h.self;
      team = knowing_bsp_team d c waves i x (desk_kept c i) v found h0 h.self.team_bit h.self.departed_bit (h.peer nb) h.team;
      leader = λ z. absurd (nb z);
      peer = λ _. knowing_bsp_peer d c waves i x (desk_kept c i) v found h0 h.self.team_bit h.self.departed_bit h.team (h.peer nb);
    }

pub knowing_bsp_run : (d : SetupData) (c : Context) (waves i x : ℕ) (v : View) (found : ℕ) → found ≡ c.bsp → i ≢ c.bsp → IsCpu d c waves i (record v { station = SeekingBsp }) → IsRunOf c i (record v { station = SeekingBsp }) x → IsRunOf c i (record v { station = Reporting; knows = found }) (x)
knowing_bsp_run d c waves i x v found h0 nb h k = knowing_bsp_word d c waves i x (desk_kept c i) v found h0 h.self.team_bit h.self.departed_bit h.team (h.peer nb) k

-- Reporting to TellingReport
reporting_self : (d : SetupData) (c : Context) (waves i x : ℕ) (at : Option Desk) (v : View) (o : Option Cargo) → o ≡ Some (cargo.Desk (desk_at v.image None)) → c.stage ≤ 10 → v.released ≡ 0 → v.present ≡ 0 → IsSelf d waves at (record v { station = Reporting }) → IsSelf d waves at (record v { station = TellingReport; own = None; present = 1; on_present = o; phase = Here })
reporting_self d c waves i x at v o h0 h1 h2 h3 h = grind arith

reporting_team : (d : SetupData) (c : Context) (waves i x : ℕ) (at : Option Desk) (v : View) (o : Option Cargo) → o ≡ Some (cargo.Desk (desk_at v.image None)) → c.stage ≤ 10 → v.released ≡ 0 → v.present ≡ 0 → v.team ≤ 1 → v.departed ≤ 1 → IsPeer c i (record v { station = Reporting }) → IsTeam c i (record v { station = Reporting }) → IsTeam c i (record v { station = TellingReport; own = None; present = 1; on_present = o; phase = Here })
reporting_team d c waves i x at v o h0 h1 h2 h3 b0 b1 g h = grind arith

reporting_peer : (d : SetupData) (c : Context) (waves i x : ℕ) (at : Option Desk) (v : View) (o : Option Cargo) → o ≡ Some (cargo.Desk (desk_at v.image None)) → c.stage ≤ 10 → v.released ≡ 0 → v.present ≡ 0 → v.team ≤ 1 → v.departed ≤ 1 → IsTeam c i (record v { station = Reporting }) → IsPeer c i (record v { station = Reporting }) → IsPeer c i (record v { station = TellingReport; own = None; present = 1; on_present = o; phase = Here })
reporting_peer d c waves i x at v o h0 h1 h2 h3 b0 b1 g h = grind arith

reporting_word : (d : SetupData) (c : Context) (waves i x : ℕ) (at : Option Desk) (v : View) (o : Option Cargo) → o ≡ Some (cargo.Desk (desk_at v.image None)) → c.stage ≤ 10 → v.released ≡ 0 → v.present ≡ 0 → v.team ≤ 1 → v.departed ≤ 1 → IsTeam c i (record v { station = Reporting }) → IsPeer c i (record v { station = Reporting }) → IsRunOf c i (record v { station = Reporting }) x → IsRunOf c i (record v { station = TellingReport; own = None; present = 1; on_present = o; phase = Here }) (x)
reporting_word d c waves i x at v o h0 h1 h2 h3 b0 b1 g k h = grind arith

pub reporting : (d : SetupData) (c : Context) (waves i x : ℕ) (v : View) (o : Option Cargo) → o ≡ Some (cargo.Desk (desk_at v.image None)) → c.stage ≤ 10 → v.released ≡ 0 → v.present ≡ 0 → i ≢ c.bsp → IsCpu d c waves i (record v { station = Reporting }) → IsCpu d c waves i (record v { station = TellingReport; own = None; present = 1; on_present = o; phase = Here })
reporting d c waves i x v o h0 h1 h2 h3 nb h =
    record {
      self = reporting_self d c waves i x (desk_kept c i) v o h0 h1 h2 h3 h.self;
      team = reporting_team d c waves i x (desk_kept c i) v o h0 h1 h2 h3 h.self.team_bit h.self.departed_bit (h.peer nb) h.team;
      leader = λ z. absurd (nb z);
      peer = λ _. reporting_peer d c waves i x (desk_kept c i) v o h0 h1 h2 h3 h.self.team_bit h.self.departed_bit h.team (h.peer nb);
    }

pub reporting_run : (d : SetupData) (c : Context) (waves i x : ℕ) (v : View) (o : Option Cargo) → o ≡ Some (cargo.Desk (desk_at v.image None)) → c.stage ≤ 10 → v.released ≡ 0 → v.present ≡ 0 → i ≢ c.bsp → IsCpu d c waves i (record v { station = Reporting }) → IsRunOf c i (record v { station = Reporting }) x → IsRunOf c i (record v { station = TellingReport; own = None; present = 1; on_present = o; phase = Here }) (x)
reporting_run d c waves i x v o h0 h1 h2 h3 nb h k = reporting_word d c waves i x (desk_kept c i) v o h0 h1 h2 h3 h.self.team_bit h.self.departed_bit h.team (h.peer nb) k

-- TellingReport to AwaitingRelease
told_report_self : (d : SetupData) (c : Context) (waves i x : ℕ) (at : Option Desk) (v : View) → IsSelf d waves at (record v { station = TellingReport }) → IsSelf d waves at (record v { station = AwaitingRelease })
told_report_self d c waves i x at v h = grind arith

told_report_team : (d : SetupData) (c : Context) (waves i x : ℕ) (at : Option Desk) (v : View) → v.team ≤ 1 → v.departed ≤ 1 → IsPeer c i (record v { station = TellingReport }) → IsTeam c i (record v { station = TellingReport }) → IsTeam c i (record v { station = AwaitingRelease })
told_report_team d c waves i x at v b0 b1 g h = grind arith

told_report_peer : (d : SetupData) (c : Context) (waves i x : ℕ) (at : Option Desk) (v : View) → v.team ≤ 1 → v.departed ≤ 1 → IsTeam c i (record v { station = TellingReport }) → IsPeer c i (record v { station = TellingReport }) → IsPeer c i (record v { station = AwaitingRelease })
told_report_peer d c waves i x at v b0 b1 g h = grind arith

told_report_word : (d : SetupData) (c : Context) (waves i x : ℕ) (at : Option Desk) (v : View) → v.team ≤ 1 → v.departed ≤ 1 → IsTeam c i (record v { station = TellingReport }) → IsPeer c i (record v { station = TellingReport }) → IsRunOf c i (record v { station = TellingReport }) x → IsRunOf c i (record v { station = AwaitingRelease }) (x)
told_report_word d c waves i x at v b0 b1 g k h = grind arith

pub told_report : (d : SetupData) (c : Context) (waves i x : ℕ) (v : View) → i ≢ c.bsp → IsCpu d c waves i (record v { station = TellingReport }) → IsCpu d c waves i (record v { station = AwaitingRelease })
told_report d c waves i x v nb h =
    record {
      self = told_report_self d c waves i x (desk_kept c i) v h.self;
      team = told_report_team d c waves i x (desk_kept c i) v h.self.team_bit h.self.departed_bit (h.peer nb) h.team;
      leader = λ z. absurd (nb z);
      peer = λ _. told_report_peer d c waves i x (desk_kept c i) v h.self.team_bit h.self.departed_bit h.team (h.peer nb);
    }

pub told_report_run : (d : SetupData) (c : Context) (waves i x : ℕ) (v : View) → i ≢ c.bsp → IsCpu d c waves i (record v { station = TellingReport }) → IsRunOf c i (record v { station = TellingReport }) x → IsRunOf c i (record v { station = AwaitingRelease }) (x)
told_report_run d c waves i x v nb h k = told_report_word d c waves i x (desk_kept c i) v h.self.team_bit h.self.departed_bit h.team (h.peer nb) k

-- AwaitingRelease to TellingRelease
released_self : (d : SetupData) (c : Context) (waves i x : ℕ) (at : Option Desk) (v : View) (o : Option Desk) → o ≡ Some (desk_at v.image None) → v.released ≡ 1 → v.work ≡ 0 → 1 ≤ x → IsSelf d waves at (record v { station = AwaitingRelease }) → IsSelf d waves at (record v { station = TellingRelease; own = o; on_run = None })
released_self d c waves i x at v o h0 h1 h2 h3 h = grind arith

released_team : (d : SetupData) (c : Context) (waves i x : ℕ) (at : Option Desk) (v : View) (o : Option Desk) → o ≡ Some (desk_at v.image None) → v.released ≡ 1 → v.work ≡ 0 → 1 ≤ x → v.team ≤ 1 → v.departed ≤ 1 → IsPeer c i (record v { station = AwaitingRelease }) → IsTeam c i (record v { station = AwaitingRelease }) → IsTeam c i (record v { station = TellingRelease; own = o; on_run = None })
released_team d c waves i x at v o h0 h1 h2 h3 b0 b1 g h = grind arith

released_peer : (d : SetupData) (c : Context) (waves i x : ℕ) (at : Option Desk) (v : View) (o : Option Desk) → o ≡ Some (desk_at v.image None) → v.released ≡ 1 → v.work ≡ 0 → 1 ≤ x → v.team ≤ 1 → v.departed ≤ 1 → IsTeam c i (record v { station = AwaitingRelease }) → IsPeer c i (record v { station = AwaitingRelease }) → IsPeer c i (record v { station = TellingRelease; own = o; on_run = None })
released_peer d c waves i x at v o h0 h1 h2 h3 b0 b1 g h = grind arith

released_word : (d : SetupData) (c : Context) (waves i x : ℕ) (at : Option Desk) (v : View) (o : Option Desk) → o ≡ Some (desk_at v.image None) → v.released ≡ 1 → v.work ≡ 0 → 1 ≤ x → v.team ≤ 1 → v.departed ≤ 1 → IsTeam c i (record v { station = AwaitingRelease }) → IsPeer c i (record v { station = AwaitingRelease }) → IsRunOf c i (record v { station = AwaitingRelease }) x → IsRunOf c i (record v { station = TellingRelease; own = o; on_run = None }) (x - 1)
released_word d c waves i x at v o h0 h1 h2 h3 b0 b1 g k h = grind arith

pub released : (d : SetupData) (c : Context) (waves i x : ℕ) (v : View) (o : Option Desk) → o ≡ Some (desk_at v.image None) → v.released ≡ 1 → v.work ≡ 0 → 1 ≤ x → i ≢ c.bsp → IsCpu d c waves i (record v { station = AwaitingRelease }) → IsCpu d c waves i (record v { station = TellingRelease; own = o; on_run = None })
released d c waves i x v o h0 h1 h2 h3 nb h =
    record {
      self = released_self d c waves i x (desk_kept c i) v o h0 h1 h2 h3 h.self;
      team = released_team d c waves i x (desk_kept c i) v o h0 h1 h2 h3 h.self.team_bit h.self.departed_bit (h.peer nb) h.team;
      leader = λ z. absurd (nb z);
      peer = λ _. released_peer d c waves i x (desk_kept c i) v o h0 h1 h2 h3 h.self.team_bit h.self.departed_bit h.team (h.peer nb);
    }

pub released_run : (d : SetupData) (c : Context) (waves i x : ℕ) (v : View) (o : Option Desk) → o ≡ Some (desk_at v.image None) → v.released ≡ 1 → v.work ≡ 0 → 1 ≤ x → i ≢ c.bsp → IsCpu d c waves i (record v { station = AwaitingRelease }) → IsRunOf c i (record v { station = AwaitingRelease }) x → IsRunOf c i (record v { station = TellingRelease; own = o; on_run = None }) (x - 1)
released_run d c waves i x v o h0 h1 h2 h3 nb h k = released_word d c waves i x (desk_kept c i) v o h0 h1 h2 h3 h.self.team_bit h.self.departed_bit h.team (h.peer nb) k

-- AwaitingRelease to GivingBack
taking_job_self : (d : SetupData) (c : Context) (waves i x : ℕ) (at : Option Desk) (v : View) (o : Option Desk) → o ≡ Some (desk_at v.image v.job) → v.work ≡ 1 → 1 ≤ x → IsSelf d waves at (record v { station = AwaitingRelease }) → IsSelf d waves at (record v { station = GivingBack; own = o; on_run = None })
taking_job_self d c waves i x at v o h0 h1 h2 h = grind arith

taking_job_team : (d : SetupData) (c : Context) (waves i x : ℕ) (at : Option Desk) (v : View) (o : Option Desk) → o ≡ Some (desk_at v.image v.job) → v.work ≡ 1 → 1 ≤ x → v.team ≤ 1 → v.departed ≤ 1 → IsPeer c i (record v { station = AwaitingRelease }) → IsTeam c i (record v { station = AwaitingRelease }) → IsTeam c i (record v { station = GivingBack; own = o; on_run = None })
taking_job_team d c waves i x at v o h0 h1 h2 b0 b1 g h = grind arith

taking_job_peer : (d : SetupData) (c : Context) (waves i x : ℕ) (at : Option Desk) (v : View) (o : Option Desk) → o ≡ Some (desk_at v.image v.job) → v.work ≡ 1 → 1 ≤ x → v.team ≤ 1 → v.departed ≤ 1 → IsTeam c i (record v { station = AwaitingRelease }) → IsPeer c i (record v { station = AwaitingRelease }) → IsPeer c i (record v { station = GivingBack; own = o; on_run = None })
taking_job_peer d c waves i x at v o h0 h1 h2 b0 b1 g h = grind arith

taking_job_word : (d : SetupData) (c : Context) (waves i x : ℕ) (at : Option Desk) (v : View) (o : Option Desk) → o ≡ Some (desk_at v.image v.job) → v.work ≡ 1 → 1 ≤ x → v.team ≤ 1 → v.departed ≤ 1 → IsTeam c i (record v { station = AwaitingRelease }) → IsPeer c i (record v { station = AwaitingRelease }) → IsRunOf c i (record v { station = AwaitingRelease }) x → IsRunOf c i (record v { station = GivingBack; own = o; on_run = None }) (x - 1)
taking_job_word d c waves i x at v o h0 h1 h2 b0 b1 g k h = grind arith

pub taking_job : (d : SetupData) (c : Context) (waves i x : ℕ) (v : View) (o : Option Desk) → o ≡ Some (desk_at v.image v.job) → v.work ≡ 1 → 1 ≤ x → i ≢ c.bsp → IsCpu d c waves i (record v { station = AwaitingRelease }) → IsCpu d c waves i (record v { station = GivingBack; own = o; on_run = None })
taking_job d c waves i x v o h0 h1 h2 nb h =
    record {
      self = taking_job_self d c waves i x (desk_kept c i) v o h0 h1 h2 h.self;
      team = taking_job_team d c waves i x (desk_kept c i) v o h0 h1 h2 h.self.team_bit h.self.departed_bit (h.peer nb) h.team;
      leader = λ z. absurd (nb z);
      peer = λ _. taking_job_peer d c waves i x (desk_kept c i) v o h0 h1 h2 h.self.team_bit h.self.departed_bit h.team (h.peer nb);
    }

pub taking_job_run : (d : SetupData) (c : Context) (waves i x : ℕ) (v : View) (o : Option Desk) → o ≡ Some (desk_at v.image v.job) → v.work ≡ 1 → 1 ≤ x → i ≢ c.bsp → IsCpu d c waves i (record v { station = AwaitingRelease }) → IsRunOf c i (record v { station = AwaitingRelease }) x → IsRunOf c i (record v { station = GivingBack; own = o; on_run = None }) (x - 1)
taking_job_run d c waves i x v o h0 h1 h2 nb h k = taking_job_word d c waves i x (desk_kept c i) v o h0 h1 h2 h.self.team_bit h.self.departed_bit h.team (h.peer nb) k

-- GivingBack to AwaitingRelease
running_job_self : (d : SetupData) (c : Context) (waves i x : ℕ) (at : Option Desk) (v : View) (y : ImageContents) (job : Option Job) → y.kind ≡ d.kind → v.work ≡ 1 → v.released ≡ 0 → IsSelf d waves at (record v { station = GivingBack }) → IsSelf d waves at (record v { station = AwaitingRelease; own = None; image = y; job = job; work = 2 })
running_job_self d c waves i x at v y job h0 h1 h2 h = grind arith

running_job_team : (d : SetupData) (c : Context) (waves i x : ℕ) (at : Option Desk) (v : View) (y : ImageContents) (job : Option Job) → y.kind ≡ d.kind → v.work ≡ 1 → v.released ≡ 0 → v.team ≤ 1 → v.departed ≤ 1 → IsPeer c i (record v { station = GivingBack }) → IsTeam c i (record v { station = GivingBack }) → IsTeam c i (record v { station = AwaitingRelease; own = None; image = y; job = job; work = 2 })
running_job_team d c waves i x at v y job h0 h1 h2 b0 b1 g h = grind arith

running_job_peer : (d : SetupData) (c : Context) (waves i x : ℕ) (at : Option Desk) (v : View) (y : ImageContents) (job : Option Job) → y.kind ≡ d.kind → v.work ≡ 1 → v.released ≡ 0 → v.team ≤ 1 → v.departed ≤ 1 → IsTeam c i (record v { station = GivingBack }) → IsPeer c i (record v { station = GivingBack }) → IsPeer c i (record v { station = AwaitingRelease; own = None; image = y; job = job; work = 2 })
running_job_peer d c waves i x at v y job h0 h1 h2 b0 b1 g h = grind arith

running_job_word : (d : SetupData) (c : Context) (waves i x : ℕ) (at : Option Desk) (v : View) (y : ImageContents) (job : Option Job) → y.kind ≡ d.kind → v.work ≡ 1 → v.released ≡ 0 → v.team ≤ 1 → v.departed ≤ 1 → IsTeam c i (record v { station = GivingBack }) → IsPeer c i (record v { station = GivingBack }) → IsRunOf c i (record v { station = GivingBack }) x → IsRunOf c i (record v { station = AwaitingRelease; own = None; image = y; job = job; work = 2 }) (x)
running_job_word d c waves i x at v y job h0 h1 h2 b0 b1 g k h = grind arith

pub running_job : (d : SetupData) (c : Context) (waves i x : ℕ) (v : View) (y : ImageContents) (job : Option Job) → y.kind ≡ d.kind → v.work ≡ 1 → v.released ≡ 0 → i ≢ c.bsp → IsCpu d c waves i (record v { station = GivingBack }) → IsCpu d c waves i (record v { station = AwaitingRelease; own = None; image = y; job = job; work = 2 })
running_job d c waves i x v y job h0 h1 h2 nb h =
    record {
      self = running_job_self d c waves i x (desk_kept c i) v y job h0 h1 h2 h.self;
      team = running_job_team d c waves i x (desk_kept c i) v y job h0 h1 h2 h.self.team_bit h.self.departed_bit (h.peer nb) h.team;
      leader = λ z. absurd (nb z);
      peer = λ _. running_job_peer d c waves i x (desk_kept c i) v y job h0 h1 h2 h.self.team_bit h.self.departed_bit h.team (h.peer nb);
    }

pub running_job_run : (d : SetupData) (c : Context) (waves i x : ℕ) (v : View) (y : ImageContents) (job : Option Job) → y.kind ≡ d.kind → v.work ≡ 1 → v.released ≡ 0 → i ≢ c.bsp → IsCpu d c waves i (record v { station = GivingBack }) → IsRunOf c i (record v { station = GivingBack }) x → IsRunOf c i (record v { station = AwaitingRelease; own = None; image = y; job = job; work = 2 }) (x)
running_job_run d c waves i x v y job h0 h1 h2 nb h k = running_job_word d c waves i x (desk_kept c i) v y job h0 h1 h2 h.self.team_bit h.self.departed_bit h.team (h.peer nb) k

-- TellingRelease to AwaitingDismissal
told_release_self : (d : SetupData) (c : Context) (waves i x : ℕ) (at : Option Desk) (v : View) → IsSelf d waves at (record v { station = TellingRelease }) → IsSelf d waves at (record v { station = AwaitingDismissal })
told_release_self d c waves i x at v h = grind arith

told_release_team : (d : SetupData) (c : Context) (waves i x : ℕ) (at : Option Desk) (v : View) → v.team ≤ 1 → v.departed ≤ 1 → IsPeer c i (record v { station = TellingRelease }) → IsTeam c i (record v { station = TellingRelease }) → IsTeam c i (record v { station = AwaitingDismissal })
told_release_team d c waves i x at v b0 b1 g h = grind arith

told_release_peer : (d : SetupData) (c : Context) (waves i x : ℕ) (at : Option Desk) (v : View) → v.team ≤ 1 → v.departed ≤ 1 → IsTeam c i (record v { station = TellingRelease }) → IsPeer c i (record v { station = TellingRelease }) → IsPeer c i (record v { station = AwaitingDismissal })
told_release_peer d c waves i x at v b0 b1 g h = grind arith

told_release_word : (d : SetupData) (c : Context) (waves i x : ℕ) (at : Option Desk) (v : View) → v.team ≤ 1 → v.departed ≤ 1 → IsTeam c i (record v { station = TellingRelease }) → IsPeer c i (record v { station = TellingRelease }) → IsRunOf c i (record v { station = TellingRelease }) x → IsRunOf c i (record v { station = AwaitingDismissal }) (x)
told_release_word d c waves i x at v b0 b1 g k h = grind arith

pub told_release : (d : SetupData) (c : Context) (waves i x : ℕ) (v : View) → i ≢ c.bsp → IsCpu d c waves i (record v { station = TellingRelease }) → IsCpu d c waves i (record v { station = AwaitingDismissal })
told_release d c waves i x v nb h =
    record {
      self = told_release_self d c waves i x (desk_kept c i) v h.self;
      team = told_release_team d c waves i x (desk_kept c i) v h.self.team_bit h.self.departed_bit (h.peer nb) h.team;
      leader = λ z. absurd (nb z);
      peer = λ _. told_release_peer d c waves i x (desk_kept c i) v h.self.team_bit h.self.departed_bit h.team (h.peer nb);
    }

pub told_release_run : (d : SetupData) (c : Context) (waves i x : ℕ) (v : View) → i ≢ c.bsp → IsCpu d c waves i (record v { station = TellingRelease }) → IsRunOf c i (record v { station = TellingRelease }) x → IsRunOf c i (record v { station = AwaitingDismissal }) (x)
told_release_run d c waves i x v nb h k = told_release_word d c waves i x (desk_kept c i) v h.self.team_bit h.self.departed_bit h.team (h.peer nb) k

-- AwaitingDismissal to Withdrawing
dismissed_self : (d : SetupData) (c : Context) (waves i x : ℕ) (at : Option Desk) (v : View) → 1 ≤ x → IsSelf d waves at (record v { station = AwaitingDismissal }) → IsSelf d waves at (record v { station = Withdrawing })
dismissed_self d c waves i x at v h0 h = grind arith

dismissed_team : (d : SetupData) (c : Context) (waves i x : ℕ) (at : Option Desk) (v : View) → 1 ≤ x → v.team ≤ 1 → v.departed ≤ 1 → IsPeer c i (record v { station = AwaitingDismissal }) → IsTeam c i (record v { station = AwaitingDismissal }) → IsTeam c i (record v { station = Withdrawing })
dismissed_team d c waves i x at v h0 b0 b1 g h = grind arith

dismissed_peer : (d : SetupData) (c : Context) (waves i x : ℕ) (at : Option Desk) (v : View) → 1 ≤ x → v.team ≤ 1 → v.departed ≤ 1 → IsTeam c i (record v { station = AwaitingDismissal }) → IsPeer c i (record v { station = AwaitingDismissal }) → IsPeer c i (record v { station = Withdrawing })
dismissed_peer d c waves i x at v h0 b0 b1 g h = grind arith

dismissed_word : (d : SetupData) (c : Context) (waves i x : ℕ) (at : Option Desk) (v : View) → 1 ≤ x → v.team ≤ 1 → v.departed ≤ 1 → IsTeam c i (record v { station = AwaitingDismissal }) → IsPeer c i (record v { station = AwaitingDismissal }) → IsRunOf c i (record v { station = AwaitingDismissal }) x → IsRunOf c i (record v { station = Withdrawing }) (x - 1)
dismissed_word d c waves i x at v h0 b0 b1 g k h = grind arith

pub dismissed : (d : SetupData) (c : Context) (waves i x : ℕ) (v : View) → 1 ≤ x → i ≢ c.bsp → IsCpu d c waves i (record v { station = AwaitingDismissal }) → IsCpu d c waves i (record v { station = Withdrawing })
dismissed d c waves i x v h0 nb h =
    record {
      self = dismissed_self d c waves i x (desk_kept c i) v h0 h.self;
      team = dismissed_team d c waves i x (desk_kept c i) v h0 h.self.team_bit h.self.departed_bit (h.peer nb) h.team;
      leader = λ z. absurd (nb z);
      peer = λ _. dismissed_peer d c waves i x (desk_kept c i) v h0 h.self.team_bit h.self.departed_bit h.team (h.peer nb);
    }

pub dismissed_run : (d : SetupData) (c : Context) (waves i x : ℕ) (v : View) → 1 ≤ x → i ≢ c.bsp → IsCpu d c waves i (record v { station = AwaitingDismissal }) → IsRunOf c i (record v { station = AwaitingDismissal }) x → IsRunOf c i (record v { station = Withdrawing }) (x - 1)
dismissed_run d c waves i x v h0 nb h k = dismissed_word d c waves i x (desk_kept c i) v h0 h.self.team_bit h.self.departed_bit h.team (h.peer nb) k

-- Withdrawing to TellingDismissal
departing_self : (d : SetupData) (c : Context) (waves i x : ℕ) (at : Option Desk) (v : View) → v.released ≡ 1 → v.present ≡ 2 → 17 ≤ c.stage → v.departed ≡ 0 → v.work ≡ 0 → IsSelf d waves at (record v { station = Withdrawing }) → IsSelf d waves at (record v { station = TellingDismissal; present = 0; phase = Gone; departed = 1 })
departing_self d c waves i x at v h0 h1 h2 h3 h4 h = grind arith

departing_team : (d : SetupData) (c : Context) (waves i x : ℕ) (at : Option Desk) (v : View) → v.released ≡ 1 → v.present ≡ 2 → 17 ≤ c.stage → v.departed ≡ 0 → v.work ≡ 0 → v.team ≤ 1 → v.departed ≤ 1 → IsPeer c i (record v { station = Withdrawing }) → IsTeam c i (record v { station = Withdrawing }) → IsTeam c i (record v { station = TellingDismissal; present = 0; phase = Gone; departed = 1 })
departing_team d c waves i x at v h0 h1 h2 h3 h4 b0 b1 g h = grind arith

departing_peer : (d : SetupData) (c : Context) (waves i x : ℕ) (at : Option Desk) (v : View) → v.released ≡ 1 → v.present ≡ 2 → 17 ≤ c.stage → v.departed ≡ 0 → v.work ≡ 0 → v.team ≤ 1 → v.departed ≤ 1 → IsTeam c i (record v { station = Withdrawing }) → IsPeer c i (record v { station = Withdrawing }) → IsPeer c i (record v { station = TellingDismissal; present = 0; phase = Gone; departed = 1 })
departing_peer d c waves i x at v h0 h1 h2 h3 h4 b0 b1 g h = grind arith

departing_word : (d : SetupData) (c : Context) (waves i x : ℕ) (at : Option Desk) (v : View) → v.released ≡ 1 → v.present ≡ 2 → 17 ≤ c.stage → v.departed ≡ 0 → v.work ≡ 0 → v.team ≤ 1 → v.departed ≤ 1 → IsTeam c i (record v { station = Withdrawing }) → IsPeer c i (record v { station = Withdrawing }) → IsRunOf c i (record v { station = Withdrawing }) x → IsRunOf c i (record v { station = TellingDismissal; present = 0; phase = Gone; departed = 1 }) (x)
departing_word d c waves i x at v h0 h1 h2 h3 h4 b0 b1 g k h = grind arith

pub departing : (d : SetupData) (c : Context) (waves i x : ℕ) (v : View) → v.released ≡ 1 → v.present ≡ 2 → 17 ≤ c.stage → v.departed ≡ 0 → v.work ≡ 0 → i ≢ c.bsp → IsCpu d c waves i (record v { station = Withdrawing }) → IsCpu d c waves i (record v { station = TellingDismissal; present = 0; phase = Gone; departed = 1 })
departing d c waves i x v h0 h1 h2 h3 h4 nb h =
    record {
      self = departing_self d c waves i x (desk_kept c i) v h0 h1 h2 h3 h4 h.self;
      team = departing_team d c waves i x (desk_kept c i) v h0 h1 h2 h3 h4 h.self.team_bit h.self.departed_bit (h.peer nb) h.team;
      leader = λ z. absurd (nb z);
      peer = λ _. departing_peer d c waves i x (desk_kept c i) v h0 h1 h2 h3 h4 h.self.team_bit h.self.departed_bit h.team (h.peer nb);
    }

pub departing_run : (d : SetupData) (c : Context) (waves i x : ℕ) (v : View) → v.released ≡ 1 → v.present ≡ 2 → 17 ≤ c.stage → v.departed ≡ 0 → v.work ≡ 0 → i ≢ c.bsp → IsCpu d c waves i (record v { station = Withdrawing }) → IsRunOf c i (record v { station = Withdrawing }) x → IsRunOf c i (record v { station = TellingDismissal; present = 0; phase = Gone; departed = 1 }) (x)
departing_run d c waves i x v h0 h1 h2 h3 h4 nb h k = departing_word d c waves i x (desk_kept c i) v h0 h1 h2 h3 h4 h.self.team_bit h.self.departed_bit h.team (h.peer nb) k

-- TellingDismissal to AwaitingEnd
told_departure_self : (d : SetupData) (c : Context) (waves i x : ℕ) (at : Option Desk) (v : View) → IsSelf d waves at (record v { station = TellingDismissal }) → IsSelf d waves at (record v { station = AwaitingEnd })
told_departure_self d c waves i x at v h = grind arith

told_departure_team : (d : SetupData) (c : Context) (waves i x : ℕ) (at : Option Desk) (v : View) → v.team ≤ 1 → v.departed ≤ 1 → IsPeer c i (record v { station = TellingDismissal }) → IsTeam c i (record v { station = TellingDismissal }) → IsTeam c i (record v { station = AwaitingEnd })
told_departure_team d c waves i x at v b0 b1 g h = grind arith

told_departure_peer : (d : SetupData) (c : Context) (waves i x : ℕ) (at : Option Desk) (v : View) → v.team ≤ 1 → v.departed ≤ 1 → IsTeam c i (record v { station = TellingDismissal }) → IsPeer c i (record v { station = TellingDismissal }) → IsPeer c i (record v { station = AwaitingEnd })
told_departure_peer d c waves i x at v b0 b1 g h = grind arith

told_departure_word : (d : SetupData) (c : Context) (waves i x : ℕ) (at : Option Desk) (v : View) → v.team ≤ 1 → v.departed ≤ 1 → IsTeam c i (record v { station = TellingDismissal }) → IsPeer c i (record v { station = TellingDismissal }) → IsRunOf c i (record v { station = TellingDismissal }) x → IsRunOf c i (record v { station = AwaitingEnd }) (x)
told_departure_word d c waves i x at v b0 b1 g k h = grind arith

pub told_departure : (d : SetupData) (c : Context) (waves i x : ℕ) (v : View) → i ≢ c.bsp → IsCpu d c waves i (record v { station = TellingDismissal }) → IsCpu d c waves i (record v { station = AwaitingEnd })
told_departure d c waves i x v nb h =
    record {
      self = told_departure_self d c waves i x (desk_kept c i) v h.self;
      team = told_departure_team d c waves i x (desk_kept c i) v h.self.team_bit h.self.departed_bit (h.peer nb) h.team;
      leader = λ z. absurd (nb z);
      peer = λ _. told_departure_peer d c waves i x (desk_kept c i) v h.self.team_bit h.self.departed_bit h.team (h.peer nb);
    }

pub told_departure_run : (d : SetupData) (c : Context) (waves i x : ℕ) (v : View) → i ≢ c.bsp → IsCpu d c waves i (record v { station = TellingDismissal }) → IsRunOf c i (record v { station = TellingDismissal }) x → IsRunOf c i (record v { station = AwaitingEnd }) (x)
told_departure_run d c waves i x v nb h k = told_departure_word d c waves i x (desk_kept c i) v h.self.team_bit h.self.departed_bit h.team (h.peer nb) k

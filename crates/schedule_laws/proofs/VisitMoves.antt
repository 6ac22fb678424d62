-- What an AP's own facts become on its way in, while it waits for a BSP, and on its way out.
use Rattle.std.proofs.Common.{ℕ, ◌+◌, ◌-◌, ◌*◌, ◌≡◌, ◌≢◌, ◌<◌, ◌≤◌, arith, Option, Some, None}
use Rattle.save_state_map.specs.Images.{ImageContents}
use Rattle.cpu_regs.specs.Registers.{Registers}
use Rattle.cpu_table.specs.Data.{SetupData}
use Rattle.handler_ops.specs.declared.desk.Desk.{Desk}
use Rattle.cpu_program.specs.declared.cargo.Cargo.TheVariants as cargo
use Rattle.rendezvous_machine.specs.declared.phase.Phase.TheVariants.{Out, In, Counted, Gone, Off}
use Rattle.schedule_laws.proofs.Stations.{AskingForChair, AwaitingEnd, AwaitingInside, AwaitingInsideAgain, AwaitingSmi, Away, ClaimingChair, ClearingSignal, CountingIn, CountingOut, FindingBsp, LookingAtSource, LookingInside, SeekingBsp, SignallingBsp, SwitchingOff}
use Rattle.schedule_laws.proofs.Invariant.{Context, View, IsCpu, IsSelf, IsTeam, IsPeer, IsRunOf, desk_at, desk_kept}

-- AwaitingSmi to LookingAtSource
entering_self : (d : SetupData) (c : Context) (waves i x : ℕ) (at : Option Desk) (v : View) (o : Option Desk) (y : ImageContents) → o ≡ Some (desk_at y None) → y.kind ≡ d.kind → v.present ≡ 0 → 1 ≤ waves → IsSelf d waves at (record v { station = AwaitingSmi }) → IsSelf d waves at (record v { station = LookingAtSource; seat_visits = v.seat_visits + 1; own = o; phase = In; visits = v.visits + 1; image = y })
entering_self d c waves i x at v o y h0 h1 h2 h3 h = grind arith

entering_team : (d : SetupData) (c : Context) (waves i x : ℕ) (at : Option Desk) (v : View) (o : Option Desk) (y : ImageContents) → o ≡ Some (desk_at y None) → y.kind ≡ d.kind → v.present ≡ 0 → 1 ≤ waves → v.team ≤ 1 → v.departed ≤ 1 → IsPeer c i (record v { station = AwaitingSmi }) → IsTeam c i (record v { station = AwaitingSmi }) → IsTeam c i (record v { station = LookingAtSource; seat_visits = v.seat_visits + 1; own = o; phase = In; visits = v.visits + 1; image = y })
entering_team d c waves i x at v o y h0 h1 h2 h3 b0 b1 g h = grind arith

entering_peer : (d : SetupData) (c : Context) (waves i x : ℕ) (at : Option Desk) (v : View) (o : Option Desk) (y : ImageContents) → o ≡ Some (desk_at y None) → y.kind ≡ d.kind → v.present ≡ 0 → 1 ≤ waves → v.team ≤ 1 → v.departed ≤ 1 → IsTeam c i (record v { station = AwaitingSmi }) → IsPeer c i (record v { station = AwaitingSmi }) → IsPeer c i (record v { station = LookingAtSource; seat_visits = v.seat_visits + 1; own = o; phase = In; visits = v.visits + 1; image = y })
entering_peer d c waves i x at v o y h0 h1 h2 h3 b0 b1 g h = grind arith

entering_word : (d : SetupData) (c : Context) (waves i x : ℕ) (at : Option Desk) (v : View) (o : Option Desk) (y : ImageContents) → o ≡ Some (desk_at y None) → y.kind ≡ d.kind → v.present ≡ 0 → 1 ≤ waves → v.team ≤ 1 → v.departed ≤ 1 → IsTeam c i (record v { station = AwaitingSmi }) → IsPeer c i (record v { station = AwaitingSmi }) → IsRunOf c i (record v { station = AwaitingSmi }) x → IsRunOf c i (record v { station = LookingAtSource; seat_visits = v.seat_visits + 1; own = o; phase = In; visits = v.visits + 1; image = y }) (x)
entering_word d c waves i x at v o y h0 h1 h2 h3 b0 b1 g k h = grind arith

pub entering : (d : SetupData) (c : Context) (waves i x : ℕ) (v : View) (o : Option Desk) (y : ImageContents) → o ≡ Some (desk_at y None) → y.kind ≡ d.kind → v.present ≡ 0 → 1 ≤ waves → i ≢ c.bsp → IsCpu d c waves i (record v { station = AwaitingSmi }) → IsCpu d c waves i (record v { station = LookingAtSource; seat_visits = v.seat_visits + 1; own = o; phase = In; visits = v.visits + 1; image = y })
entering d c waves i x v o y h0 h1 h2 h3 nb h =
    record {
      self = entering_self d c waves i x (desk_kept c i) v o y h0 h1 h2 h3 h.self;
      team = entering_team d c waves i x (desk_kept c i) v o y h0 h1 h2 h3 h.self.team_bit h.self.departed_bit (h.peer nb) h.team;
      leader = λ z. absurd (nb z);
      peer = λ _. entering_peer d c waves i x (desk_kept c i) v o y h0 h1 h2 h3 h.self.team_bit h.self.departed_bit h.team (h.peer nb);
    }

pub entering_run : (d : SetupData) (c : Context) (waves i x : ℕ) (v : View) (o : Option Desk) (y : ImageContents) → o ≡ Some (desk_at y None) → y.kind ≡ d.kind → v.present ≡ 0 → 1 ≤ waves → i ≢ c.bsp → IsCpu d c waves i (record v { station = AwaitingSmi }) → IsRunOf c i (record v { station = AwaitingSmi }) x → IsRunOf c i (record v { station = LookingAtSource; seat_visits = v.seat_visits + 1; own = o; phase = In; visits = v.visits + 1; image = y }) (x)
entering_run d c waves i x v o y h0 h1 h2 h3 nb h k = entering_word d c waves i x (desk_kept c i) v o y h0 h1 h2 h3 h.self.team_bit h.self.departed_bit h.team (h.peer nb) k

-- AwaitingSmi to Away
turned_off_self : (d : SetupData) (c : Context) (waves i x : ℕ) (at : Option Desk) (v : View) → IsSelf d waves at (record v { station = AwaitingSmi }) → IsSelf d waves at (record v { station = Away; phase = Off })
turned_off_self d c waves i x at v h = grind arith

turned_off_team : (d : SetupData) (c : Context) (waves i x : ℕ) (at : Option Desk) (v : View) → v.team ≤ 1 → v.departed ≤ 1 → IsPeer c i (record v { station = AwaitingSmi }) → IsTeam c i (record v { station = AwaitingSmi }) → IsTeam c i (record v { station = Away; phase = Off })
turned_off_team d c waves i x at v b0 b1 g h = grind arith

turned_off_peer : (d : SetupData) (c : Context) (waves i x : ℕ) (at : Option Desk) (v : View) → v.team ≤ 1 → v.departed ≤ 1 → IsTeam c i (record v { station = AwaitingSmi }) → IsPeer c i (record v { station = AwaitingSmi }) → IsPeer c i (record v { station = Away; phase = Off })
turned_off_peer d c waves i x at v b0 b1 g h = grind arith

turned_off_word : (d : SetupData) (c : Context) (waves i x : ℕ) (at : Option Desk) (v : View) → v.team ≤ 1 → v.departed ≤ 1 → IsTeam c i (record v { station = AwaitingSmi }) → IsPeer c i (record v { station = AwaitingSmi }) → IsRunOf c i (record v { station = AwaitingSmi }) x → IsRunOf c i (record v { station = Away; phase = Off }) (x)
turned_off_word d c waves i x at v b0 b1 g k h = grind arith

pub turned_off : (d : SetupData) (c : Context) (waves i x : ℕ) (v : View) → i ≢ c.bsp → IsCpu d c waves i (record v { station = AwaitingSmi }) → IsCpu d c waves i (record v { station = Away; phase = Off })
turned_off d c waves i x v nb h =
    record {
      self = turned_off_self d c waves i x (desk_kept c i) v h.self;
      team = turned_off_team d c waves i x (desk_kept c i) v h.self.team_bit h.self.departed_bit (h.peer nb) h.team;
      leader = λ z. absurd (nb z);
      peer = λ _. turned_off_peer d c waves i x (desk_kept c i) v h.self.team_bit h.self.departed_bit h.team (h.peer nb);
    }

pub turned_off_run : (d : SetupData) (c : Context) (waves i x : ℕ) (v : View) → i ≢ c.bsp → IsCpu d c waves i (record v { station = AwaitingSmi }) → IsRunOf c i (record v { station = AwaitingSmi }) x → IsRunOf c i (record v { station = Away; phase = Off }) (x)
turned_off_run d c waves i x v nb h k = turned_off_word d c waves i x (desk_kept c i) v h.self.team_bit h.self.departed_bit h.team (h.peer nb) k

-- SwitchingOff to Away
switching_off_self : (d : SetupData) (c : Context) (waves i x : ℕ) (at : Option Desk) (v : View) → IsSelf d waves at (record v { station = SwitchingOff }) → IsSelf d waves at (record v { station = Away; phase = Off })
switching_off_self d c waves i x at v h = grind arith

switching_off_team : (d : SetupData) (c : Context) (waves i x : ℕ) (at : Option Desk) (v : View) → v.team ≤ 1 → v.departed ≤ 1 → IsPeer c i (record v { station = SwitchingOff }) → IsTeam c i (record v { station = SwitchingOff }) → IsTeam c i (record v { station = Away; phase = Off })
switching_off_team d c waves i x at v b0 b1 g h = grind arith

switching_off_peer : (d : SetupData) (c : Context) (waves i x : ℕ) (at : Option Desk) (v : View) → v.team ≤ 1 → v.departed ≤ 1 → IsTeam c i (record v { station = SwitchingOff }) → IsPeer c i (record v { station = SwitchingOff }) → IsPeer c i (record v { station = Away; phase = Off })
switching_off_peer d c waves i x at v b0 b1 g h = grind arith

switching_off_word : (d : SetupData) (c : Context) (waves i x : ℕ) (at : Option Desk) (v : View) → v.team ≤ 1 → v.departed ≤ 1 → IsTeam c i (record v { station = SwitchingOff }) → IsPeer c i (record v { station = SwitchingOff }) → IsRunOf c i (record v { station = SwitchingOff }) x → IsRunOf c i (record v { station = Away; phase = Off }) (x)
switching_off_word d c waves i x at v b0 b1 g k h = grind arith

pub switching_off : (d : SetupData) (c : Context) (waves i x : ℕ) (v : View) → i ≢ c.bsp → IsCpu d c waves i (record v { station = SwitchingOff }) → IsCpu d c waves i (record v { station = Away; phase = Off })
switching_off d c waves i x v nb h =
    record {
      self = switching_off_self d c waves i x (desk_kept c i) v h.self;
      team = switching_off_team d c waves i x (desk_kept c i) v h.self.team_bit h.self.departed_bit (h.peer nb) h.team;
      leader = λ z. absurd (nb z);
      peer = λ _. switching_off_peer d c waves i x (desk_kept c i) v h.self.team_bit h.self.departed_bit h.team (h.peer nb);
    }

pub switching_off_run : (d : SetupData) (c : Context) (waves i x : ℕ) (v : View) → i ≢ c.bsp → IsCpu d c waves i (record v { station = SwitchingOff }) → IsRunOf c i (record v { station = SwitchingOff }) x → IsRunOf c i (record v { station = Away; phase = Off }) (x)
switching_off_run d c waves i x v nb h k = switching_off_word d c waves i x (desk_kept c i) v h.self.team_bit h.self.departed_bit h.team (h.peer nb) k

-- LookingAtSource to LookingInside
looking_at_source_self : (d : SetupData) (c : Context) (waves i x : ℕ) (at : Option Desk) (v : View) → IsSelf d waves at (record v { station = LookingAtSource }) → IsSelf d waves at (record v { station = LookingInside })
looking_at_source_self d c waves i x at v h = grind arith

looking_at_source_team : (d : SetupData) (c : Context) (waves i x : ℕ) (at : Option Desk) (v : View) → v.team ≤ 1 → v.departed ≤ 1 → IsPeer c i (record v { station = LookingAtSource }) → IsTeam c i (record v { station = LookingAtSource }) → IsTeam c i (record v { station = LookingInside })
looking_at_source_team d c waves i x at v b0 b1 g h = grind arith

looking_at_source_peer : (d : SetupData) (c : Context) (waves i x : ℕ) (at : Option Desk) (v : View) → v.team ≤ 1 → v.departed ≤ 1 → IsTeam c i (record v { station = LookingAtSource }) → IsPeer c i (record v { station = LookingAtSource }) → IsPeer c i (record v { station = LookingInside })
looking_at_source_peer d c waves i x at v b0 b1 g h = grind arith

looking_at_source_word : (d : SetupData) (c : Context) (waves i x : ℕ) (at : Option Desk) (v : View) → v.team ≤ 1 → v.departed ≤ 1 → IsTeam c i (record v { station = LookingAtSource }) → IsPeer c i (record v { station = LookingAtSource }) → IsRunOf c i (record v { station = LookingAtSource }) x → IsRunOf c i (record v { station = LookingInside }) (x)
looking_at_source_word d c waves i x at v b0 b1 g k h = grind arith

pub looking_at_source : (d : SetupData) (c : Context) (waves i x : ℕ) (v : View) → i ≢ c.bsp → IsCpu d c waves i (record v { station = LookingAtSource }) → IsCpu d c waves i (record v { station = LookingInside })
looking_at_source d c waves i x v nb h =
    record {
      self = looking_at_source_self d c waves i x (desk_kept c i) v h.self;
      team = looking_at_source_team d c waves i x (desk_kept c i) v h.self.team_bit h.self.departed_bit (h.peer nb) h.team;
      leader = λ z. absurd (nb z);
      peer = λ _. looking_at_source_peer d c waves i x (desk_kept c i) v h.self.team_bit h.self.departed_bit h.team (h.peer nb);
    }

pub looking_at_source_run : (d : SetupData) (c : Context) (waves i x : ℕ) (v : View) → i ≢ c.bsp → IsCpu d c waves i (record v { station = LookingAtSource }) → IsRunOf c i (record v { station = LookingAtSource }) x → IsRunOf c i (record v { station = LookingInside }) (x)
looking_at_source_run d c waves i x v nb h k = looking_at_source_word d c waves i x (desk_kept c i) v h.self.team_bit h.self.departed_bit h.team (h.peer nb) k

-- LookingInside to AwaitingEnd
turning_self : (d : SetupData) (c : Context) (waves i x : ℕ) (at : Option Desk) (v : View) → IsSelf d waves at (record v { station = LookingInside }) → IsSelf d waves at (record v { station = AwaitingEnd; phase = Gone })
turning_self d c waves i x at v h = grind arith

turning_team : (d : SetupData) (c : Context) (waves i x : ℕ) (at : Option Desk) (v : View) → v.team ≤ 1 → v.departed ≤ 1 → IsPeer c i (record v { station = LookingInside }) → IsTeam c i (record v { station = LookingInside }) → IsTeam c i (record v { station = AwaitingEnd; phase = Gone })
turning_team d c waves i x at v b0 b1 g h = grind arith

turning_peer : (d : SetupData) (c : Context) (waves i x : ℕ) (at : Option Desk) (v : View) → v.team ≤ 1 → v.departed ≤ 1 → IsTeam c i (record v { station = LookingInside }) → IsPeer c i (record v { station = LookingInside }) → IsPeer c i (record v { station = AwaitingEnd; phase = Gone })
turning_peer d c waves i x at v b0 b1 g h = grind arith

turning_word : (d : SetupData) (c : Context) (waves i x : ℕ) (at : Option Desk) (v : View) → v.team ≤ 1 → v.departed ≤ 1 → IsTeam c i (record v { station = LookingInside }) → IsPeer c i (record v { station = LookingInside }) → IsRunOf c i (record v { station = LookingInside }) x → IsRunOf c i (record v { station = AwaitingEnd; phase = Gone }) (x)
turning_word d c waves i x at v b0 b1 g k h = grind arith

pub turning : (d : SetupData) (c : Context) (waves i x : ℕ) (v : View) → i ≢ c.bsp → IsCpu d c waves i (record v { station = LookingInside }) → IsCpu d c waves i (record v { station = AwaitingEnd; phase = Gone })
turning d c waves i x v nb h =
    record {
      self = turning_self d c waves i x (desk_kept c i) v h.self;
      team = turning_team d c waves i x (desk_kept c i) v h.self.team_bit h.self.departed_bit (h.peer nb) h.team;
      leader = λ z. absurd (nb z);
      peer = λ _. turning_peer d c waves i x (desk_kept c i) v h.self.team_bit h.self.departed_bit h.team (h.peer nb);
    }

pub turning_run : (d : SetupData) (c : Context) (waves i x : ℕ) (v : View) → i ≢ c.bsp → IsCpu d c waves i (record v { station = LookingInside }) → IsRunOf c i (record v { station = LookingInside }) x → IsRunOf c i (record v { station = AwaitingEnd; phase = Gone }) (x)
turning_run d c waves i x v nb h k = turning_word d c waves i x (desk_kept c i) v h.self.team_bit h.self.departed_bit h.team (h.peer nb) k

-- LookingInside to CountingIn
looking_inside_self : (d : SetupData) (c : Context) (waves i x : ℕ) (at : Option Desk) (v : View) → IsSelf d waves at (record v { station = LookingInside }) → IsSelf d waves at (record v { station = CountingIn })
looking_inside_self d c waves i x at v h = grind arith

looking_inside_team : (d : SetupData) (c : Context) (waves i x : ℕ) (at : Option Desk) (v : View) → v.team ≤ 1 → v.departed ≤ 1 → IsPeer c i (record v { station = LookingInside }) → IsTeam c i (record v { station = LookingInside }) → IsTeam c i (record v { station = CountingIn })
looking_inside_team d c waves i x at v b0 b1 g h = grind arith

looking_inside_peer : (d : SetupData) (c : Context) (waves i x : ℕ) (at : Option Desk) (v : View) → v.team ≤ 1 → v.departed ≤ 1 → IsTeam c i (record v { station = LookingInside }) → IsPeer c i (record v { station = LookingInside }) → IsPeer c i (record v { station = CountingIn })
looking_inside_peer d c waves i x at v b0 b1 g h = grind arith

looking_inside_word : (d : SetupData) (c : Context) (waves i x : ℕ) (at : Option Desk) (v : View) → v.team ≤ 1 → v.departed ≤ 1 → IsTeam c i (record v { station = LookingInside }) → IsPeer c i (record v { station = LookingInside }) → IsRunOf c i (record v { station = LookingInside }) x → IsRunOf c i (record v { station = CountingIn }) (x)
looking_inside_word d c waves i x at v b0 b1 g k h = grind arith

pub looking_inside : (d : SetupData) (c : Context) (waves i x : ℕ) (v : View) → i ≢ c.bsp → IsCpu d c waves i (record v { station = LookingInside }) → IsCpu d c waves i (record v { station = CountingIn })
looking_inside d c waves i x v nb h =
    record {
      self = looking_inside_self d c waves i x (desk_kept c i) v h.self;
      team = looking_inside_team d c waves i x (desk_kept c i) v h.self.team_bit h.self.departed_bit (h.peer nb) h.team;
      leader = λ z. absurd (nb z);
      peer = λ _. looking_inside_peer d c waves i x (desk_kept c i) v h.self.team_bit h.self.departed_bit h.team (h.peer nb);
    }

pub looking_inside_run : (d : SetupData) (c : Context) (waves i x : ℕ) (v : View) → i ≢ c.bsp → IsCpu d c waves i (record v { station = LookingInside }) → IsRunOf c i (record v { station = LookingInside }) x → IsRunOf c i (record v { station = CountingIn }) (x)
looking_inside_run d c waves i x v nb h k = looking_inside_word d c waves i x (desk_kept c i) v h.self.team_bit h.self.departed_bit h.team (h.peer nb) k

-- CountingIn to AwaitingEnd
coming_late_self : (d : SetupData) (c : Context) (waves i x : ℕ) (at : Option Desk) (v : View) → IsSelf d waves at (record v { station = CountingIn }) → IsSelf d waves at (record v { station = AwaitingEnd; phase = Gone })
coming_late_self d c waves i x at v h = grind arith

coming_late_team : (d : SetupData) (c : Context) (waves i x : ℕ) (at : Option Desk) (v : View) → v.team ≤ 1 → v.departed ≤ 1 → IsPeer c i (record v { station = CountingIn }) → IsTeam c i (record v { station = CountingIn }) → IsTeam c i (record v { station = AwaitingEnd; phase = Gone })
coming_late_team d c waves i x at v b0 b1 g h = grind arith

coming_late_peer : (d : SetupData) (c : Context) (waves i x : ℕ) (at : Option Desk) (v : View) → v.team ≤ 1 → v.departed ≤ 1 → IsTeam c i (record v { station = CountingIn }) → IsPeer c i (record v { station = CountingIn }) → IsPeer c i (record v { station = AwaitingEnd; phase = Gone })
coming_late_peer d c waves i x at v b0 b1 g h = grind arith

coming_late_word : (d : SetupData) (c : Context) (waves i x : ℕ) (at : Option Desk) (v : View) → v.team ≤ 1 → v.departed ≤ 1 → IsTeam c i (record v { station = CountingIn }) → IsPeer c i (record v { station = CountingIn }) → IsRunOf c i (record v { station = CountingIn }) x → IsRunOf c i (record v { station = AwaitingEnd; phase = Gone }) (x)
coming_late_word d c waves i x at v b0 b1 g k h = grind arith

pub coming_late : (d : SetupData) (c : Context) (waves i x : ℕ) (v : View) → i ≢ c.bsp → IsCpu d c waves i (record v { station = CountingIn }) → IsCpu d c waves i (record v { station = AwaitingEnd; phase = Gone })
coming_late d c waves i x v nb h =
    record {
      self = coming_late_self d c waves i x (desk_kept c i) v h.self;
      team = coming_late_team d c waves i x (desk_kept c i) v h.self.team_bit h.self.departed_bit (h.peer nb) h.team;
      leader = λ z. absurd (nb z);
      peer = λ _. coming_late_peer d c waves i x (desk_kept c i) v h.self.team_bit h.self.departed_bit h.team (h.peer nb);
    }

pub coming_late_run : (d : SetupData) (c : Context) (waves i x : ℕ) (v : View) → i ≢ c.bsp → IsCpu d c waves i (record v { station = CountingIn }) → IsRunOf c i (record v { station = CountingIn }) x → IsRunOf c i (record v { station = AwaitingEnd; phase = Gone }) (x)
coming_late_run d c waves i x v nb h k = coming_late_word d c waves i x (desk_kept c i) v h.self.team_bit h.self.departed_bit h.team (h.peer nb) k

-- CountingIn to ClaimingChair
arriving_first_self : (d : SetupData) (c : Context) (waves i x : ℕ) (at : Option Desk) (v : View) → c.stage ≤ 9 → IsSelf d waves at (record v { station = CountingIn }) → IsSelf d waves at (record v { station = ClaimingChair; phase = Counted })
arriving_first_self d c waves i x at v h0 h = grind arith

arriving_first_team : (d : SetupData) (c : Context) (waves i x : ℕ) (at : Option Desk) (v : View) → c.stage ≤ 9 → v.team ≤ 1 → v.departed ≤ 1 → IsPeer c i (record v { station = CountingIn }) → IsTeam c i (record v { station = CountingIn }) → IsTeam c i (record v { station = ClaimingChair; phase = Counted })
arriving_first_team d c waves i x at v h0 b0 b1 g h = grind arith

arriving_first_peer : (d : SetupData) (c : Context) (waves i x : ℕ) (at : Option Desk) (v : View) → c.stage ≤ 9 → v.team ≤ 1 → v.departed ≤ 1 → IsTeam c i (record v { station = CountingIn }) → IsPeer c i (record v { station = CountingIn }) → IsPeer c i (record v { station = ClaimingChair; phase = Counted })
arriving_first_peer d c waves i x at v h0 b0 b1 g h = grind arith

arriving_first_word : (d : SetupData) (c : Context) (waves i x : ℕ) (at : Option Desk) (v : View) → c.stage ≤ 9 → v.team ≤ 1 → v.departed ≤ 1 → IsTeam c i (record v { station = CountingIn }) → IsPeer c i (record v { station = CountingIn }) → IsRunOf c i (record v { station = CountingIn }) x → IsRunOf c i (record v { station = ClaimingChair; phase = Counted }) (x)
arriving_first_word d c waves i x at v h0 b0 b1 g k h = grind arith

pub arriving_first : (d : SetupData) (c : Context) (waves i x : ℕ) (v : View) → c.stage ≤ 9 → i ≢ c.bsp → IsCpu d c waves i (record v { station = CountingIn }) → IsCpu d c waves i (record v { station = ClaimingChair; phase = Counted })
arriving_first d c waves i x v h0 nb h =
    record {
      self = arriving_first_self d c waves i x (desk_kept c i) v h0 h.self;
      team = arriving_first_team d c waves i x (desk_kept c i) v h0 h.self.team_bit h.self.departed_bit (h.peer nb) h.team;
      leader = λ z. absurd (nb z);
      peer = λ _. arriving_first_peer d c waves i x (desk_kept c i) v h0 h.self.team_bit h.self.departed_bit h.team (h.peer nb);
    }

pub arriving_first_run : (d : SetupData) (c : Context) (waves i x : ℕ) (v : View) → c.stage ≤ 9 → i ≢ c.bsp → IsCpu d c waves i (record v { station = CountingIn }) → IsRunOf c i (record v { station = CountingIn }) x → IsRunOf c i (record v { station = ClaimingChair; phase = Counted }) (x)
arriving_first_run d c waves i x v h0 nb h k = arriving_first_word d c waves i x (desk_kept c i) v h0 h.self.team_bit h.self.departed_bit h.team (h.peer nb) k

-- CountingIn to AskingForChair
arriving_owner_self : (d : SetupData) (c : Context) (waves i x : ℕ) (at : Option Desk) (v : View) → c.stage ≤ 9 → IsSelf d waves at (record v { station = CountingIn }) → IsSelf d waves at (record v { station = AskingForChair; phase = Counted })
arriving_owner_self d c waves i x at v h0 h = grind arith

arriving_owner_team : (d : SetupData) (c : Context) (waves i x : ℕ) (at : Option Desk) (v : View) → c.stage ≤ 9 → v.team ≤ 1 → v.departed ≤ 1 → IsPeer c i (record v { station = CountingIn }) → IsTeam c i (record v { station = CountingIn }) → IsTeam c i (record v { station = AskingForChair; phase = Counted })
arriving_owner_team d c waves i x at v h0 b0 b1 g h = grind arith

arriving_owner_peer : (d : SetupData) (c : Context) (waves i x : ℕ) (at : Option Desk) (v : View) → c.stage ≤ 9 → v.team ≤ 1 → v.departed ≤ 1 → IsTeam c i (record v { station = CountingIn }) → IsPeer c i (record v { station = CountingIn }) → IsPeer c i (record v { station = AskingForChair; phase = Counted })
arriving_owner_peer d c waves i x at v h0 b0 b1 g h = grind arith

arriving_owner_word : (d : SetupData) (c : Context) (waves i x : ℕ) (at : Option Desk) (v : View) → c.stage ≤ 9 → v.team ≤ 1 → v.departed ≤ 1 → IsTeam c i (record v { station = CountingIn }) → IsPeer c i (record v { station = CountingIn }) → IsRunOf c i (record v { station = CountingIn }) x → IsRunOf c i (record v { station = AskingForChair; phase = Counted }) (x)
arriving_owner_word d c waves i x at v h0 b0 b1 g k h = grind arith

pub arriving_owner : (d : SetupData) (c : Context) (waves i x : ℕ) (v : View) → c.stage ≤ 9 → i ≢ c.bsp → IsCpu d c waves i (record v { station = CountingIn }) → IsCpu d c waves i (record v { station = AskingForChair; phase = Counted })
arriving_owner d c waves i x v h0 nb h =
    record {
      self = arriving_owner_self d c waves i x (desk_kept c i) v h0 h.self;
      team = arriving_owner_team d c waves i x (desk_kept c i) v h0 h.self.team_bit h.self.departed_bit (h.peer nb) h.team;
      leader = λ z. absurd (nb z);
      peer = λ _. arriving_owner_peer d c waves i x (desk_kept c i) v h0 h.self.team_bit h.self.departed_bit h.team (h.peer nb);
    }

pub arriving_owner_run : (d : SetupData) (c : Context) (waves i x : ℕ) (v : View) → c.stage ≤ 9 → i ≢ c.bsp → IsCpu d c waves i (record v { station = CountingIn }) → IsRunOf c i (record v { station = CountingIn }) x → IsRunOf c i (record v { station = AskingForChair; phase = Counted }) (x)
arriving_owner_run d c waves i x v h0 nb h k = arriving_owner_word d c waves i x (desk_kept c i) v h0 h.self.team_bit h.self.departed_bit h.team (h.peer nb) k

-- CountingIn to AwaitingInside
arriving_self : (d : SetupData) (c : Context) (waves i x : ℕ) (at : Option Desk) (v : View) → c.stage ≤ 9 → IsSelf d waves at (record v { station = CountingIn }) → IsSelf d waves at (record v { station = AwaitingInside; phase = Counted })
arriving_self d c waves i x at v h0 h = grind arith

arriving_team : (d : SetupData) (c : Context) (waves i x : ℕ) (at : Option Desk) (v : View) → c.stage ≤ 9 → v.team ≤ 1 → v.departed ≤ 1 → IsPeer c i (record v { station = CountingIn }) → IsTeam c i (record v { station = CountingIn }) → IsTeam c i (record v { station = AwaitingInside; phase = Counted })
arriving_team d c waves i x at v h0 b0 b1 g h = grind arith

arriving_peer : (d : SetupData) (c : Context) (waves i x : ℕ) (at : Option Desk) (v : View) → c.stage ≤ 9 → v.team ≤ 1 → v.departed ≤ 1 → IsTeam c i (record v { station = CountingIn }) → IsPeer c i (record v { station = CountingIn }) → IsPeer c i (record v { station = AwaitingInside; phase = Counted })
arriving_peer d c waves i x at v h0 b0 b1 g h = grind arith

arriving_word : (d : SetupData) (c : Context) (waves i x : ℕ) (at : Option Desk) (v : View) → c.stage ≤ 9 → v.team ≤ 1 → v.departed ≤ 1 → IsTeam c i (record v { station = CountingIn }) → IsPeer c i (record v { station = CountingIn }) → IsRunOf c i (record v { station = CountingIn }) x → IsRunOf c i (record v { station = AwaitingInside; phase = Counted }) (x)
arriving_word d c waves i x at v h0 b0 b1 g k h = grind arith

pub arriving : (d : SetupData) (c : Context) (waves i x : ℕ) (v : View) → c.stage ≤ 9 → i ≢ c.bsp → IsCpu d c waves i (record v { station = CountingIn }) → IsCpu d c waves i (record v { station = AwaitingInside; phase = Counted })
arriving d c waves i x v h0 nb h =
    record {
      self = arriving_self d c waves i x (desk_kept c i) v h0 h.self;
      team = arriving_team d c waves i x (desk_kept c i) v h0 h.self.team_bit h.self.departed_bit (h.peer nb) h.team;
      leader = λ z. absurd (nb z);
      peer = λ _. arriving_peer d c waves i x (desk_kept c i) v h0 h.self.team_bit h.self.departed_bit h.team (h.peer nb);
    }

pub arriving_run : (d : SetupData) (c : Context) (waves i x : ℕ) (v : View) → c.stage ≤ 9 → i ≢ c.bsp → IsCpu d c waves i (record v { station = CountingIn }) → IsRunOf c i (record v { station = CountingIn }) x → IsRunOf c i (record v { station = AwaitingInside; phase = Counted }) (x)
arriving_run d c waves i x v h0 nb h k = arriving_word d c waves i x (desk_kept c i) v h0 h.self.team_bit h.self.departed_bit h.team (h.peer nb) k

-- ClaimingChair to AwaitingInside
beaten_self : (d : SetupData) (c : Context) (waves i x : ℕ) (at : Option Desk) (v : View) → IsSelf d waves at (record v { station = ClaimingChair }) → IsSelf d waves at (record v { station = AwaitingInside })
beaten_self d c waves i x at v h = grind arith

beaten_team : (d : SetupData) (c : Context) (waves i x : ℕ) (at : Option Desk) (v : View) → v.team ≤ 1 → v.departed ≤ 1 → IsPeer c i (record v { station = ClaimingChair }) → IsTeam c i (record v { station = ClaimingChair }) → IsTeam c i (record v { station = AwaitingInside })
beaten_team d c waves i x at v b0 b1 g h = grind arith

beaten_peer : (d : SetupData) (c : Context) (waves i x : ℕ) (at : Option Desk) (v : View) → v.team ≤ 1 → v.departed ≤ 1 → IsTeam c i (record v { station = ClaimingChair }) → IsPeer c i (record v { station = ClaimingChair }) → IsPeer c i (record v { station = AwaitingInside })
beaten_peer d c waves i x at v b0 b1 g h = grind arith

beaten_word : (d : SetupData) (c : Context) (waves i x : ℕ) (at : Option Desk) (v : View) → v.team ≤ 1 → v.departed ≤ 1 → IsTeam c i (record v { station = ClaimingChair }) → IsPeer c i (record v { station = ClaimingChair }) → IsRunOf c i (record v { station = ClaimingChair }) x → IsRunOf c i (record v { station = AwaitingInside }) (x)
beaten_word d c waves i x at v b0 b1 g k h = grind arith

pub beaten : (d : SetupData) (c : Context) (waves i x : ℕ) (v : View) → i ≢ c.bsp → IsCpu d c waves i (record v { station = ClaimingChair }) → IsCpu d c waves i (record v { station = AwaitingInside })
beaten d c waves i x v nb h =
    record {
      self = beaten_self d c waves i x (desk_kept c i) v h.self;
      team = beaten_team d c waves i x (desk_kept c i) v h.self.team_bit h.self.departed_bit (h.peer nb) h.team;
      leader = λ z. absurd (nb z);
      peer = λ _. beaten_peer d c waves i x (desk_kept c i) v h.self.team_bit h.self.departed_bit h.team (h.peer nb);
    }

pub beaten_run : (d : SetupData) (c : Context) (waves i x : ℕ) (v : View) → i ≢ c.bsp → IsCpu d c waves i (record v { station = ClaimingChair }) → IsRunOf c i (record v { station = ClaimingChair }) x → IsRunOf c i (record v { station = AwaitingInside }) (x)
beaten_run d c waves i x v nb h k = beaten_word d c waves i x (desk_kept c i) v h.self.team_bit h.self.departed_bit h.team (h.peer nb) k

-- AskingForChair to AwaitingInside
not_owner_self : (d : SetupData) (c : Context) (waves i x : ℕ) (at : Option Desk) (v : View) → IsSelf d waves at (record v { station = AskingForChair }) → IsSelf d waves at (record v { station = AwaitingInside })
not_owner_self d c waves i x at v h = grind arith

not_owner_team : (d : SetupData) (c : Context) (waves i x : ℕ) (at : Option Desk) (v : View) → v.team ≤ 1 → v.departed ≤ 1 → IsPeer c i (record v { station = AskingForChair }) → IsTeam c i (record v { station = AskingForChair }) → IsTeam c i (record v { station = AwaitingInside })
not_owner_team d c waves i x at v b0 b1 g h = grind arith

not_owner_peer : (d : SetupData) (c : Context) (waves i x : ℕ) (at : Option Desk) (v : View) → v.team ≤ 1 → v.departed ≤ 1 → IsTeam c i (record v { station = AskingForChair }) → IsPeer c i (record v { station = AskingForChair }) → IsPeer c i (record v { station = AwaitingInside })
not_owner_peer d c waves i x at v b0 b1 g h = grind arith

not_owner_word : (d : SetupData) (c : Context) (waves i x : ℕ) (at : Option Desk) (v : View) → v.team ≤ 1 → v.departed ≤ 1 → IsTeam c i (record v { station = AskingForChair }) → IsPeer c i (record v { station = AskingForChair }) → IsRunOf c i (record v { station = AskingForChair }) x → IsRunOf c i (record v { station = AwaitingInside }) (x)
not_owner_word d c waves i x at v b0 b1 g k h = grind arith

pub not_owner : (d : SetupData) (c : Context) (waves i x : ℕ) (v : View) → i ≢ c.bsp → IsCpu d c waves i (record v { station = AskingForChair }) → IsCpu d c waves i (record v { station = AwaitingInside })
not_owner d c waves i x v nb h =
    record {
      self = not_owner_self d c waves i x (desk_kept c i) v h.self;
      team = not_owner_team d c waves i x (desk_kept c i) v h.self.team_bit h.self.departed_bit (h.peer nb) h.team;
      leader = λ z. absurd (nb z);
      peer = λ _. not_owner_peer d c waves i x (desk_kept c i) v h.self.team_bit h.self.departed_bit h.team (h.peer nb);
    }

pub not_owner_run : (d : SetupData) (c : Context) (waves i x : ℕ) (v : View) → i ≢ c.bsp → IsCpu d c waves i (record v { station = AskingForChair }) → IsRunOf c i (record v { station = AskingForChair }) x → IsRunOf c i (record v { station = AwaitingInside }) (x)
not_owner_run d c waves i x v nb h k = not_owner_word d c waves i x (desk_kept c i) v h.self.team_bit h.self.departed_bit h.team (h.peer nb) k

-- AwaitingInside to FindingBsp
awaited_bsp_self : (d : SetupData) (c : Context) (waves i x : ℕ) (at : Option Desk) (v : View) → IsSelf d waves at (record v { station = AwaitingInside }) → IsSelf d waves at (record v { station = FindingBsp })
awaited_bsp_self d c waves i x at v h = grind arith

awaited_bsp_team : (d : SetupData) (c : Context) (waves i x : ℕ) (at : Option Desk) (v : View) → v.team ≤ 1 → v.departed ≤ 1 → IsPeer c i (record v { station = AwaitingInside }) → IsTeam c i (record v { station = AwaitingInside }) → IsTeam c i (record v { station = FindingBsp })
awaited_bsp_team d c waves i x at v b0 b1 g h = grind arith

awaited_bsp_peer : (d : SetupData) (c : Context) (waves i x : ℕ) (at : Option Desk) (v : View) → v.team ≤ 1 → v.departed ≤ 1 → IsTeam c i (record v { station = AwaitingInside }) → IsPeer c i (record v { station = AwaitingInside }) → IsPeer c i (record v { station = FindingBsp })
awaited_bsp_peer d c waves i x at v b0 b1 g h = grind arith

awaited_bsp_word : (d : SetupData) (c : Context) (waves i x : ℕ) (at : Option Desk) (v : View) → v.team ≤ 1 → v.departed ≤ 1 → IsTeam c i (record v { station = AwaitingInside }) → IsPeer c i (record v { station = AwaitingInside }) → IsRunOf c i (record v { station = AwaitingInside }) x → IsRunOf c i (record v { station = FindingBsp }) (x)
awaited_bsp_word d c waves i x at v b0 b1 g k h = grind arith

pub awaited_bsp : (d : SetupData) (c : Context) (waves i x : ℕ) (v : View) → i ≢ c.bsp → IsCpu d c waves i (record v { station = AwaitingInside }) → IsCpu d c waves i (record v { station = FindingBsp })
awaited_bsp d c waves i x v nb h =
    record {
      self = awaited_bsp_self d c waves i x (desk_kept c i) v h.self;
      team = awaited_bsp_team d c waves i x (desk_kept c i) v h.self.team_bit h.self.departed_bit (h.peer nb) h.team;
      leader = λ z. absurd (nb z);
      peer = λ _. awaited_bsp_peer d c waves i x (desk_kept c i) v h.self.team_bit h.self.departed_bit h.team (h.peer nb);
    }

pub awaited_bsp_run : (d : SetupData) (c : Context) (waves i x : ℕ) (v : View) → i ≢ c.bsp → IsCpu d c waves i (record v { station = AwaitingInside }) → IsRunOf c i (record v { station = AwaitingInside }) x → IsRunOf c i (record v { station = FindingBsp }) (x)
awaited_bsp_run d c waves i x v nb h k = awaited_bsp_word d c waves i x (desk_kept c i) v h.self.team_bit h.self.departed_bit h.team (h.peer nb) k

-- AwaitingInside to SeekingBsp
bsp_came_self : (d : SetupData) (c : Context) (waves i x : ℕ) (at : Option Desk) (v : View) → 2 ≤ c.stage → IsSelf d waves at (record v { station = AwaitingInside }) → IsSelf d waves at (record v { station = SeekingBsp })
bsp_came_self d c waves i x at v h0 h = grind arith

bsp_came_team : (d : SetupData) (c : Context) (waves i x : ℕ) (at : Option Desk) (v : View) → 2 ≤ c.stage → v.team ≤ 1 → v.departed ≤ 1 → IsPeer c i (record v { station = AwaitingInside }) → IsTeam c i (record v { station = AwaitingInside }) → IsTeam c i (record v { station = SeekingBsp })
bsp_came_team d c waves i x at v h0 b0 b1 g h = grind arith

bsp_came_peer : (d : SetupData) (c : Context) (waves i x : ℕ) (at : Option Desk) (v : View) → 2 ≤ c.stage → v.team ≤ 1 → v.departed ≤ 1 → IsTeam c i (record v { station = AwaitingInside }) → IsPeer c i (record v { station = AwaitingInside }) → IsPeer c i (record v { station = SeekingBsp })
bsp_came_peer d c waves i x at v h0 b0 b1 g h = grind arith

bsp_came_word : (d : SetupData) (c : Context) (waves i x : ℕ) (at : Option Desk) (v : View) → 2 ≤ c.stage → v.team ≤ 1 → v.departed ≤ 1 → IsTeam c i (record v { station = AwaitingInside }) → IsPeer c i (record v { station = AwaitingInside }) → IsRunOf c i (record v { station = AwaitingInside }) x → IsRunOf c i (record v { station = SeekingBsp }) (x)
bsp_came_word d c waves i x at v h0 b0 b1 g k h = grind arith

pub bsp_came : (d : SetupData) (c : Context) (waves i x : ℕ) (v : View) → 2 ≤ c.stage → i ≢ c.bsp → IsCpu d c waves i (record v { station = AwaitingInside }) → IsCpu d c waves i (record v { station = SeekingBsp })
bsp_came d c waves i x v h0 nb h =
    record {
      self = bsp_came_self d c waves i x (desk_kept c i) v h0 h.self;
      team = bsp_came_team d c waves i x (desk_kept c i) v h0 h.self.team_bit h.self.departed_bit (h.peer nb) h.team;
      leader = λ z. absurd (nb z);
      peer = λ _. bsp_came_peer d c waves i x (desk_kept c i) v h0 h.self.team_bit h.self.departed_bit h.team (h.peer nb);
    }

pub bsp_came_run : (d : SetupData) (c : Context) (waves i x : ℕ) (v : View) → 2 ≤ c.stage → i ≢ c.bsp → IsCpu d c waves i (record v { station = AwaitingInside }) → IsRunOf c i (record v { station = AwaitingInside }) x → IsRunOf c i (record v { station = SeekingBsp }) (x)
bsp_came_run d c waves i x v h0 nb h k = bsp_came_word d c waves i x (desk_kept c i) v h0 h.self.team_bit h.self.departed_bit h.team (h.peer nb) k

-- FindingBsp to SignallingBsp
found_bsp_self : (d : SetupData) (c : Context) (waves i x : ℕ) (at : Option Desk) (v : View) → IsSelf d waves at (record v { station = FindingBsp }) → IsSelf d waves at (record v { station = SignallingBsp })
found_bsp_self d c waves i x at v h = grind arith

found_bsp_team : (d : SetupData) (c : Context) (waves i x : ℕ) (at : Option Desk) (v : View) → v.team ≤ 1 → v.departed ≤ 1 → IsPeer c i (record v { station = FindingBsp }) → IsTeam c i (record v { station = FindingBsp }) → IsTeam c i (record v { station = SignallingBsp })
found_bsp_team d c waves i x at v b0 b1 g h = grind arith

found_bsp_peer : (d : SetupData) (c : Context) (waves i x : ℕ) (at : Option Desk) (v : View) → v.team ≤ 1 → v.departed ≤ 1 → IsTeam c i (record v { station = FindingBsp }) → IsPeer c i (record v { station = FindingBsp }) → IsPeer c i (record v { station = SignallingBsp })
found_bsp_peer d c waves i x at v b0 b1 g h = grind arith

found_bsp_word : (d : SetupData) (c : Context) (waves i x : ℕ) (at : Option Desk) (v : View) → v.team ≤ 1 → v.departed ≤ 1 → IsTeam c i (record v { station = FindingBsp }) → IsPeer c i (record v { station = FindingBsp }) → IsRunOf c i (record v { station = FindingBsp }) x → IsRunOf c i (record v { station = SignallingBsp }) (x)
found_bsp_word d c waves i x at v b0 b1 g k h = grind arith

pub found_bsp : (d : SetupData) (c : Context) (waves i x : ℕ) (v : View) → i ≢ c.bsp → IsCpu d c waves i (record v { station = FindingBsp }) → IsCpu d c waves i (record v { station = SignallingBsp })
found_bsp d c waves i x v nb h =
    record {
      self = found_bsp_self d c waves i x (desk_kept c i) v h.self;
      team = found_bsp_team d c waves i x (desk_kept c i) v h.self.team_bit h.self.departed_bit (h.peer nb) h.team;
      leader = λ z. absurd (nb z);
      peer = λ _. found_bsp_peer d c waves i x (desk_kept c i) v h.self.team_bit h.self.departed_bit h.team (h.peer nb);
    }

pub found_bsp_run : (d : SetupData) (c : Context) (waves i x : ℕ) (v : View) → i ≢ c.bsp → IsCpu d c waves i (record v { station = FindingBsp }) → IsRunOf c i (record v { station = FindingBsp }) x → IsRunOf c i (record v { station = SignallingBsp }) (x)
found_bsp_run d c waves i x v nb h k = found_bsp_word d c waves i x (desk_kept c i) v h.self.team_bit h.self.departed_bit h.team (h.peer nb) k

-- FindingBsp to AwaitingInsideAgain
found_none_self : (d : SetupData) (c : Context) (waves i x : ℕ) (at : Option Desk) (v : View) → IsSelf d waves at (record v { station = FindingBsp }) → IsSelf d waves at (record v { station = AwaitingInsideAgain })
found_none_self d c waves i x at v h = grind arith

found_none_team : (d : SetupData) (c : Context) (waves i x : ℕ) (at : Option Desk) (v : View) → v.team ≤ 1 → v.departed ≤ 1 → IsPeer c i (record v { station = FindingBsp }) → IsTeam c i (record v { station = FindingBsp }) → IsTeam c i (record v { station = AwaitingInsideAgain })
found_none_team d c waves i x at v b0 b1 g h = grind arith

found_none_peer : (d : SetupData) (c : Context) (waves i x : ℕ) (at : Option Desk) (v : View) → v.team ≤ 1 → v.departed ≤ 1 → IsTeam c i (record v { station = FindingBsp }) → IsPeer c i (record v { station = FindingBsp }) → IsPeer c i (record v { station = AwaitingInsideAgain })
found_none_peer d c waves i x at v b0 b1 g h = grind arith

found_none_word : (d : SetupData) (c : Context) (waves i x : ℕ) (at : Option Desk) (v : View) → v.team ≤ 1 → v.departed ≤ 1 → IsTeam c i (record v { station = FindingBsp }) → IsPeer c i (record v { station = FindingBsp }) → IsRunOf c i (record v { station = FindingBsp }) x → IsRunOf c i (record v { station = AwaitingInsideAgain }) (x)
found_none_word d c waves i x at v b0 b1 g k h = grind arith

pub found_none : (d : SetupData) (c : Context) (waves i x : ℕ) (v : View) → i ≢ c.bsp → IsCpu d c waves i (record v { station = FindingBsp }) → IsCpu d c waves i (record v { station = AwaitingInsideAgain })
found_none d c waves i x v nb h =
    record {
      self = found_none_self d c waves i x (desk_kept c i) v h.self;
      team = found_none_team d c waves i x (desk_kept c i) v h.self.team_bit h.self.departed_bit (h.peer nb) h.team;
      leader = λ z. absurd (nb z);
      peer = λ _. found_none_peer d c waves i x (desk_kept c i) v h.self.team_bit h.self.departed_bit h.team (h.peer nb);
    }

pub found_none_run : (d : SetupData) (c : Context) (waves i x : ℕ) (v : View) → i ≢ c.bsp → IsCpu d c waves i (record v { station = FindingBsp }) → IsRunOf c i (record v { station = FindingBsp }) x → IsRunOf c i (record v { station = AwaitingInsideAgain }) (x)
found_none_run d c waves i x v nb h k = found_none_word d c waves i x (desk_kept c i) v h.self.team_bit h.self.departed_bit h.team (h.peer nb) k

-- SignallingBsp to AwaitingInsideAgain
signalled_bsp_self : (d : SetupData) (c : Context) (waves i x : ℕ) (at : Option Desk) (v : View) → IsSelf d waves at (record v { station = SignallingBsp }) → IsSelf d waves at (record v { station = AwaitingInsideAgain })
signalled_bsp_self d c waves i x at v h = grind arith

signalled_bsp_team : (d : SetupData) (c : Context) (waves i x : ℕ) (at : Option Desk) (v : View) → v.team ≤ 1 → v.departed ≤ 1 → IsPeer c i (record v { station = SignallingBsp }) → IsTeam c i (record v { station = SignallingBsp }) → IsTeam c i (record v { station = AwaitingInsideAgain })
signalled_bsp_team d c waves i x at v b0 b1 g h = grind arith

signalled_bsp_peer : (d : SetupData) (c : Context) (waves i x : ℕ) (at : Option Desk) (v : View) → v.team ≤ 1 → v.departed ≤ 1 → IsTeam c i (record v { station = SignallingBsp }) → IsPeer c i (record v { station = SignallingBsp }) → IsPeer c i (record v { station = AwaitingInsideAgain })
signalled_bsp_peer d c waves i x at v b0 b1 g h = grind arith

signalled_bsp_word : (d : SetupData) (c : Context) (waves i x : ℕ) (at : Option Desk) (v : View) → v.team ≤ 1 → v.departed ≤ 1 → IsTeam c i (record v { station = SignallingBsp }) → IsPeer c i (record v { station = SignallingBsp }) → IsRunOf c i (record v { station = SignallingBsp }) x → IsRunOf c i (record v { station = AwaitingInsideAgain }) (x)
signalled_bsp_word d c waves i x at v b0 b1 g k h = grind arith

pub signalled_bsp : (d : SetupData) (c : Context) (waves i x : ℕ) (v : View) → i ≢ c.bsp → IsCpu d c waves i (record v { station = SignallingBsp }) → IsCpu d c waves i (record v { station = AwaitingInsideAgain })
signalled_bsp d c waves i x v nb h =
    record {
      self = signalled_bsp_self d c waves i x (desk_kept c i) v h.self;
      team = signalled_bsp_team d c waves i x (desk_kept c i) v h.self.team_bit h.self.departed_bit (h.peer nb) h.team;
      leader = λ z. absurd (nb z);
      peer = λ _. signalled_bsp_peer d c waves i x (desk_kept c i) v h.self.team_bit h.self.departed_bit h.team (h.peer nb);
    }

pub signalled_bsp_run : (d : SetupData) (c : Context) (waves i x : ℕ) (v : View) → i ≢ c.bsp → IsCpu d c waves i (record v { station = SignallingBsp }) → IsRunOf c i (record v { station = SignallingBsp }) x → IsRunOf c i (record v { station = AwaitingInsideAgain }) (x)
signalled_bsp_run d c waves i x v nb h k = signalled_bsp_word d c waves i x (desk_kept c i) v h.self.team_bit h.self.departed_bit h.team (h.peer nb) k

-- AwaitingInsideAgain to CountingOut
giving_up_self : (d : SetupData) (c : Context) (waves i x : ℕ) (at : Option Desk) (v : View) → IsSelf d waves at (record v { station = AwaitingInsideAgain }) → IsSelf d waves at (record v { station = CountingOut })
giving_up_self d c waves i x at v h = grind arith

giving_up_team : (d : SetupData) (c : Context) (waves i x : ℕ) (at : Option Desk) (v : View) → v.team ≤ 1 → v.departed ≤ 1 → IsPeer c i (record v { station = AwaitingInsideAgain }) → IsTeam c i (record v { station = AwaitingInsideAgain }) → IsTeam c i (record v { station = CountingOut })
giving_up_team d c waves i x at v b0 b1 g h = grind arith

giving_up_peer : (d : SetupData) (c : Context) (waves i x : ℕ) (at : Option Desk) (v : View) → v.team ≤ 1 → v.departed ≤ 1 → IsTeam c i (record v { station = AwaitingInsideAgain }) → IsPeer c i (record v { station = AwaitingInsideAgain }) → IsPeer c i (record v { station = CountingOut })
giving_up_peer d c waves i x at v b0 b1 g h = grind arith

giving_up_word : (d : SetupData) (c : Context) (waves i x : ℕ) (at : Option Desk) (v : View) → v.team ≤ 1 → v.departed ≤ 1 → IsTeam c i (record v { station = AwaitingInsideAgain }) → IsPeer c i (record v { station = AwaitingInsideAgain }) → IsRunOf c i (record v { station = AwaitingInsideAgain }) x → IsRunOf c i (record v { station = CountingOut }) (x)
giving_up_word d c waves i x at v b0 b1 g k h = grind arith

pub giving_up : (d : SetupData) (c : Context) (waves i x : ℕ) (v : View) → i ≢ c.bsp → IsCpu d c waves i (record v { station = AwaitingInsideAgain }) → IsCpu d c waves i (record v { station = CountingOut })
giving_up d c waves i x v nb h =
    record {
      self = giving_up_self d c waves i x (desk_kept c i) v h.self;
      team = giving_up_team d c waves i x (desk_kept c i) v h.self.team_bit h.self.departed_bit (h.peer nb) h.team;
      leader = λ z. absurd (nb z);
      peer = λ _. giving_up_peer d c waves i x (desk_kept c i) v h.self.team_bit h.self.departed_bit h.team (h.peer nb);
    }

pub giving_up_run : (d : SetupData) (c : Context) (waves i x : ℕ) (v : View) → i ≢ c.bsp → IsCpu d c waves i (record v { station = AwaitingInsideAgain }) → IsRunOf c i (record v { station = AwaitingInsideAgain }) x → IsRunOf c i (record v { station = CountingOut }) (x)
giving_up_run d c waves i x v nb h k = giving_up_word d c waves i x (desk_kept c i) v h.self.team_bit h.self.departed_bit h.team (h.peer nb) k

-- AwaitingInsideAgain to SeekingBsp
bsp_came_late_self : (d : SetupData) (c : Context) (waves i x : ℕ) (at : Option Desk) (v : View) → 2 ≤ c.stage → IsSelf d waves at (record v { station = AwaitingInsideAgain }) → IsSelf d waves at (record v { station = SeekingBsp })
bsp_came_late_self d c waves i x at v h0 h = grind arith

bsp_came_late_team : (d : SetupData) (c : Context) (waves i x : ℕ) (at : Option Desk) (v : View) → 2 ≤ c.stage → v.team ≤ 1 → v.departed ≤ 1 → IsPeer c i (record v { station = AwaitingInsideAgain }) → IsTeam c i (record v { station = AwaitingInsideAgain }) → IsTeam c i (record v { station = SeekingBsp })
bsp_came_late_team d c waves i x at v h0 b0 b1 g h = grind arith

bsp_came_late_peer : (d : SetupData) (c : Context) (waves i x : ℕ) (at : Option Desk) (v : View) → 2 ≤ c.stage → v.team ≤ 1 → v.departed ≤ 1 → IsTeam c i (record v { station = AwaitingInsideAgain }) → IsPeer c i (record v { station = AwaitingInsideAgain }) → IsPeer c i (record v { station = SeekingBsp })
bsp_came_late_peer d c waves i x at v h0 b0 b1 g h = grind arith

bsp_came_late_word : (d : SetupData) (c : Context) (waves i x : ℕ) (at : Option Desk) (v : View) → 2 ≤ c.stage → v.team ≤ 1 → v.departed ≤ 1 → IsTeam c i (record v { station = AwaitingInsideAgain }) → IsPeer c i (record v { station = AwaitingInsideAgain }) → IsRunOf c i (record v { station = AwaitingInsideAgain }) x → IsRunOf c i (record v { station = SeekingBsp }) (x)
bsp_came_late_word d c waves i x at v h0 b0 b1 g k h = grind arith

pub bsp_came_late : (d : SetupData) (c : Context) (waves i x : ℕ) (v : View) → 2 ≤ c.stage → i ≢ c.bsp → IsCpu d c waves i (record v { station = AwaitingInsideAgain }) → IsCpu d c waves i (record v { station = SeekingBsp })
bsp_came_late d c waves i x v h0 nb h =
    record {
      self = bsp_came_late_self d c waves i x (desk_kept c i) v h0 h.self;
      team = bsp_came_late_team d c waves i x (desk_kept c i) v h0 h.self.team_bit h.self.departed_bit (h.peer nb) h.team;
      leader = λ z. absurd (nb z);
      peer = λ _. bsp_came_late_peer d c waves i x (desk_kept c i) v h0 h.self.team_bit h.self.departed_bit h.team (h.peer nb);
    }

pub bsp_came_late_run : (d : SetupData) (c : Context) (waves i x : ℕ) (v : View) → 2 ≤ c.stage → i ≢ c.bsp → IsCpu d c waves i (record v { station = AwaitingInsideAgain }) → IsRunOf c i (record v { station = AwaitingInsideAgain }) x → IsRunOf c i (record v { station = SeekingBsp }) (x)
bsp_came_late_run d c waves i x v h0 nb h k = bsp_came_late_word d c waves i x (desk_kept c i) v h0 h.self.team_bit h.self.departed_bit h.team (h.peer nb) k

-- CountingOut to SeekingBsp
staying_self : (d : SetupData) (c : Context) (waves i x : ℕ) (at : Option Desk) (v : View) → 2 ≤ c.stage → IsSelf d waves at (record v { station = CountingOut }) → IsSelf d waves at (record v { station = SeekingBsp })
staying_self d c waves i x at v h0 h = grind arith

staying_team : (d : SetupData) (c : Context) (waves i x : ℕ) (at : Option Desk) (v : View) → 2 ≤ c.stage → v.team ≤ 1 → v.departed ≤ 1 → IsPeer c i (record v { station = CountingOut }) → IsTeam c i (record v { station = CountingOut }) → IsTeam c i (record v { station = SeekingBsp })
staying_team d c waves i x at v h0 b0 b1 g h = grind arith

staying_peer : (d : SetupData) (c : Context) (waves i x : ℕ) (at : Option Desk) (v : View) → 2 ≤ c.stage → v.team ≤ 1 → v.departed ≤ 1 → IsTeam c i (record v { station = CountingOut }) → IsPeer c i (record v { station = CountingOut }) → IsPeer c i (record v { station = SeekingBsp })
staying_peer d c waves i x at v h0 b0 b1 g h = grind arith

staying_word : (d : SetupData) (c : Context) (waves i x : ℕ) (at : Option Desk) (v : View) → 2 ≤ c.stage → v.team ≤ 1 → v.departed ≤ 1 → IsTeam c i (record v { station = CountingOut }) → IsPeer c i (record v { station = CountingOut }) → IsRunOf c i (record v { station = CountingOut }) x → IsRunOf c i (record v { station = SeekingBsp }) (x)
staying_word d c waves i x at v h0 b0 b1 g k h = grind arith

pub staying : (d : SetupData) (c : Context) (waves i x : ℕ) (v : View) → 2 ≤ c.stage → i ≢ c.bsp → IsCpu d c waves i (record v { station = CountingOut }) → IsCpu d c waves i (record v { station = SeekingBsp })
staying d c waves i x v h0 nb h =
    record {
      self = staying_self d c waves i x (desk_kept c i) v h0 h.self;
      team = staying_team d c waves i x (desk_kept c i) v h0 h.self.team_bit h.self.departed_bit (h.peer nb) h.team;
      leader = λ z. absurd (nb z);
      peer = λ _. staying_peer d c waves i x (desk_kept c i) v h0 h.self.team_bit h.self.departed_bit h.team (h.peer nb);
    }

pub staying_run : (d : SetupData) (c : Context) (waves i x : ℕ) (v : View) → 2 ≤ c.stage → i ≢ c.bsp → IsCpu d c waves i (record v { station = CountingOut }) → IsRunOf c i (record v { station = CountingOut }) x → IsRunOf c i (record v { station = SeekingBsp }) (x)
staying_run d c waves i x v h0 nb h k = staying_word d c waves i x (desk_kept c i) v h0 h.self.team_bit h.self.departed_bit h.team (h.peer nb) k

-- CountingOut to AwaitingEnd
quitting_self : (d : SetupData) (c : Context) (waves i x : ℕ) (at : Option Desk) (v : View) → c.stage ≤ 9 → IsSelf d waves at (record v { station = CountingOut }) → IsSelf d waves at (record v { station = AwaitingEnd; phase = Gone })
quitting_self d c waves i x at v h0 h = grind arith

quitting_team : (d : SetupData) (c : Context) (waves i x : ℕ) (at : Option Desk) (v : View) → c.stage ≤ 9 → v.team ≤ 1 → v.departed ≤ 1 → IsPeer c i (record v { station = CountingOut }) → IsTeam c i (record v { station = CountingOut }) → IsTeam c i (record v { station = AwaitingEnd; phase = Gone })
quitting_team d c waves i x at v h0 b0 b1 g h = grind arith

quitting_peer : (d : SetupData) (c : Context) (waves i x : ℕ) (at : Option Desk) (v : View) → c.stage ≤ 9 → v.team ≤ 1 → v.departed ≤ 1 → IsTeam c i (record v { station = CountingOut }) → IsPeer c i (record v { station = CountingOut }) → IsPeer c i (record v { station = AwaitingEnd; phase = Gone })
quitting_peer d c waves i x at v h0 b0 b1 g h = grind arith

quitting_word : (d : SetupData) (c : Context) (waves i x : ℕ) (at : Option Desk) (v : View) → c.stage ≤ 9 → v.team ≤ 1 → v.departed ≤ 1 → IsTeam c i (record v { station = CountingOut }) → IsPeer c i (record v { station = CountingOut }) → IsRunOf c i (record v { station = CountingOut }) x → IsRunOf c i (record v { station = AwaitingEnd; phase = Gone }) (x)
quitting_word d c waves i x at v h0 b0 b1 g k h = grind arith

pub quitting : (d : SetupData) (c : Context) (waves i x : ℕ) (v : View) → c.stage ≤ 9 → i ≢ c.bsp → IsCpu d c waves i (record v { station = CountingOut }) → IsCpu d c waves i (record v { station = AwaitingEnd; phase = Gone })
quitting d c waves i x v h0 nb h =
    record {
      self = quitting_self d c waves i x (desk_kept c i) v h0 h.self;
      team = quitting_team d c waves i x (desk_kept c i) v h0 h.self.team_bit h.self.departed_bit (h.peer nb) h.team;
      leader = λ z. absurd (nb z);
      peer = λ _. quitting_peer d c waves i x (desk_kept c i) v h0 h.self.team_bit h.self.departed_bit h.team (h.peer nb);
    }

pub quitting_run : (d : SetupData) (c : Context) (waves i x : ℕ) (v : View) → c.stage ≤ 9 → i ≢ c.bsp → IsCpu d c waves i (record v { station = CountingOut }) → IsRunOf c i (record v { station = CountingOut }) x → IsRunOf c i (record v { station = AwaitingEnd; phase = Gone }) (x)
quitting_run d c waves i x v h0 nb h k = quitting_word d c waves i x (desk_kept c i) v h0 h.self.team_bit h.self.departed_bit h.team (h.peer nb) k

-- AwaitingEnd to ClearingSignal
session_ended_self : (d : SetupData) (c : Context) (waves i x : ℕ) (at : Option Desk) (v : View) → IsSelf d waves at (record v { station = AwaitingEnd }) → IsSelf d waves at (record v { station = ClearingSignal })
session_ended_self d c waves i x at v h = grind arith

session_ended_team : (d : SetupData) (c : Context) (waves i x : ℕ) (at : Option Desk) (v : View) → v.team ≤ 1 → v.departed ≤ 1 → IsPeer c i (record v { station = AwaitingEnd }) → IsTeam c i (record v { station = AwaitingEnd }) → IsTeam c i (record v { station = ClearingSignal })
session_ended_team d c waves i x at v b0 b1 g h = grind arith

session_ended_peer : (d : SetupData) (c : Context) (waves i x : ℕ) (at : Option Desk) (v : View) → v.team ≤ 1 → v.departed ≤ 1 → IsTeam c i (record v { station = AwaitingEnd }) → IsPeer c i (record v { station = AwaitingEnd }) → IsPeer c i (record v { station = ClearingSignal })
session_ended_peer d c waves i x at v b0 b1 g h = grind arith

session_ended_word : (d : SetupData) (c : Context) (waves i x : ℕ) (at : Option Desk) (v : View) → v.team ≤ 1 → v.departed ≤ 1 → IsTeam c i (record v { station = AwaitingEnd }) → IsPeer c i (record v { station = AwaitingEnd }) → IsRunOf c i (record v { station = AwaitingEnd }) x → IsRunOf c i (record v { station = ClearingSignal }) (x)
session_ended_word d c waves i x at v b0 b1 g k h = grind arith

pub session_ended : (d : SetupData) (c : Context) (waves i x : ℕ) (v : View) → i ≢ c.bsp → IsCpu d c waves i (record v { station = AwaitingEnd }) → IsCpu d c waves i (record v { station = ClearingSignal })
session_ended d c waves i x v nb h =
    record {
      self = session_ended_self d c waves i x (desk_kept c i) v h.self;
      team = session_ended_team d c waves i x (desk_kept c i) v h.self.team_bit h.self.departed_bit (h.peer nb) h.team;
      leader = λ z. absurd (nb z);
      peer = λ _. session_ended_peer d c waves i x (desk_kept c i) v h.self.team_bit h.self.departed_bit h.team (h.peer nb);
    }

pub session_ended_run : (d : SetupData) (c : Context) (waves i x : ℕ) (v : View) → i ≢ c.bsp → IsCpu d c waves i (record v { station = AwaitingEnd }) → IsRunOf c i (record v { station = AwaitingEnd }) x → IsRunOf c i (record v { station = ClearingSignal }) (x)
session_ended_run d c waves i x v nb h k = session_ended_word d c waves i x (desk_kept c i) v h.self.team_bit h.self.departed_bit h.team (h.peer nb) k

-- ClearingSignal to AwaitingSmi
resuming_self : (d : SetupData) (c : Context) (waves i x : ℕ) (at : Option Desk) (v : View) (r : Registers) (y : ImageContents) → v.visits < d.visits → IsSelf d waves at (record v { station = ClearingSignal }) → IsSelf d waves at (record v { station = AwaitingSmi; phase = Out; seat_registers = r; registers = r; seat_last = y; last = y })
resuming_self d c waves i x at v r y h0 h = grind arith

resuming_team : (d : SetupData) (c : Context) (waves i x : ℕ) (at : Option Desk) (v : View) (r : Registers) (y : ImageContents) → v.visits < d.visits → v.team ≤ 1 → v.departed ≤ 1 → IsPeer c i (record v { station = ClearingSignal }) → IsTeam c i (record v { station = ClearingSignal }) → IsTeam c i (record v { station = AwaitingSmi; phase = Out; seat_registers = r; registers = r; seat_last = y; last = y })
resuming_team d c waves i x at v r y h0 b0 b1 g h = grind arith

resuming_peer : (d : SetupData) (c : Context) (waves i x : ℕ) (at : Option Desk) (v : View) (r : Registers) (y : ImageContents) → v.visits < d.visits → v.team ≤ 1 → v.departed ≤ 1 → IsTeam c i (record v { station = ClearingSignal }) → IsPeer c i (record v { station = ClearingSignal }) → IsPeer c i (record v { station = AwaitingSmi; phase = Out; seat_registers = r; registers = r; seat_last = y; last = y })
resuming_peer d c waves i x at v r y h0 b0 b1 g h = grind arith

resuming_word : (d : SetupData) (c : Context) (waves i x : ℕ) (at : Option Desk) (v : View) (r : Registers) (y : ImageContents) → v.visits < d.visits → v.team ≤ 1 → v.departed ≤ 1 → IsTeam c i (record v { station = ClearingSignal }) → IsPeer c i (record v { station = ClearingSignal }) → IsRunOf c i (record v { station = ClearingSignal }) x → IsRunOf c i (record v { station = AwaitingSmi; phase = Out; seat_registers = r; registers = r; seat_last = y; last = y }) (x)
resuming_word d c waves i x at v r y h0 b0 b1 g k h = grind arith

pub resuming : (d : SetupData) (c : Context) (waves i x : ℕ) (v : View) (r : Registers) (y : ImageContents) → v.visits < d.visits → i ≢ c.bsp → IsCpu d c waves i (record v { station = ClearingSignal }) → IsCpu d c waves i (record v { station = AwaitingSmi; phase = Out; seat_registers = r; registers = r; seat_last = y; last = y })
resuming d c waves i x v r y h0 nb h =
    record {
      self = resuming_self d c waves i x (desk_kept c i) v r y h0 h.self;
      team = resuming_team d c waves i x (desk_kept c i) v r y h0 h.self.team_bit h.self.departed_bit (h.peer nb) h.team;
      leader = λ z. absurd (nb z);
      peer = λ _. resuming_peer d c waves i x (desk_kept c i) v r y h0 h.self.team_bit h.self.departed_bit h.team (h.peer nb);
    }

pub resuming_run : (d : SetupData) (c : Context) (waves i x : ℕ) (v : View) (r : Registers) (y : ImageContents) → v.visits < d.visits → i ≢ c.bsp → IsCpu d c waves i (record v { station = ClearingSignal }) → IsRunOf c i (record v { station = ClearingSignal }) x → IsRunOf c i (record v { station = AwaitingSmi; phase = Out; seat_registers = r; registers = r; seat_last = y; last = y }) (x)
resuming_run d c waves i x v r y h0 nb h k = resuming_word d c waves i x (desk_kept c i) v r y h0 h.self.team_bit h.self.departed_bit h.team (h.peer nb) k

-- ClearingSignal to SwitchingOff
resuming_last_self : (d : SetupData) (c : Context) (waves i x : ℕ) (at : Option Desk) (v : View) (r : Registers) (y : ImageContents) → v.visits ≡ d.visits → IsSelf d waves at (record v { station = ClearingSignal }) → IsSelf d waves at (record v { station = SwitchingOff; phase = Out; seat_registers = r; registers = r; seat_last = y; last = y })
resuming_last_self d c waves i x at v r y h0 h = grind arith

resuming_last_team : (d : SetupData) (c : Context) (waves i x : ℕ) (at : Option Desk) (v : View) (r : Registers) (y : ImageContents) → v.visits ≡ d.visits → v.team ≤ 1 → v.departed ≤ 1 → IsPeer c i (record v { station = ClearingSignal }) → IsTeam c i (record v { station = ClearingSignal }) → IsTeam c i (record v { station = SwitchingOff; phase = Out; seat_registers = r; registers = r; seat_last = y; last = y })
resuming_last_team d c waves i x at v r y h0 b0 b1 g h = grind arith

resuming_last_peer : (d : SetupData) (c : Context) (waves i x : ℕ) (at : Option Desk) (v : View) (r : Registers) (y : ImageContents) → v.visits ≡ d.visits → v.team ≤ 1 → v.departed ≤ 1 → IsTeam c i (record v { station = ClearingSignal }) → IsPeer c i (record v { station = ClearingSignal }) → IsPeer c i (record v { station = SwitchingOff; phase = Out; seat_registers = r; registers = r; seat_last = y; last = y })
resuming_last_peer d c waves i x at v r y h0 b0 b1 g h = grind arith

resuming_last_word : (d : SetupData) (c : Context) (waves i x : ℕ) (at : Option Desk) (v : View) (r : Registers) (y : ImageContents) → v.visits ≡ d.visits → v.team ≤ 1 → v.departed ≤ 1 → IsTeam c i (record v { station = ClearingSignal }) → IsPeer c i (record v { station = ClearingSignal }) → IsRunOf c i (record v { station = ClearingSignal }) x → IsRunOf c i (record v { station = SwitchingOff; phase = Out; seat_registers = r; registers = r; seat_last = y; last = y }) (x)
resuming_last_word d c waves i x at v r y h0 b0 b1 g k h = grind arith

pub resuming_last : (d : SetupData) (c : Context) (waves i x : ℕ) (v : View) (r : Registers) (y : ImageContents) → v.visits ≡ d.visits → i ≢ c.bsp → IsCpu d c waves i (record v { station = ClearingSignal }) → IsCpu d c waves i (record v { station = SwitchingOff; phase = Out; seat_registers = r; registers = r; seat_last = y; last = y })
resuming_last d c waves i x v r y h0 nb h =
    record {
      self = resuming_last_self d c waves i x (desk_kept c i) v r y h0 h.self;
      team = resuming_last_team d c waves i x (desk_kept c i) v r y h0 h.self.team_bit h.self.departed_bit (h.peer nb) h.team;
      leader = λ z. absurd (nb z);
      peer = λ _. resuming_last_peer d c waves i x (desk_kept c i) v r y h0 h.self.team_bit h.self.departed_bit h.team (h.peer nb);
    }

pub resuming_last_run : (d : SetupData) (c : Context) (waves i x : ℕ) (v : View) (r : Registers) (y : ImageContents) → v.visits ≡ d.visits → i ≢ c.bsp → IsCpu d c waves i (record v { station = ClearingSignal }) → IsRunOf c i (record v { station = ClearingSignal }) x → IsRunOf c i (record v { station = SwitchingOff; phase = Out; seat_registers = r; registers = r; seat_last = y; last = y }) (x)
resuming_last_run d c waves i x v r y h0 nb h k = resuming_last_word d c waves i x (desk_kept c i) v r y h0 h.self.team_bit h.self.departed_bit h.team (h.peer nb) k

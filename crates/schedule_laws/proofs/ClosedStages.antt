-- What a later stage of a session makes of the facts of each processor, and of the sums, from the close on.
use Rattle.std.proofs.Common.{ℕ, ◌+◌, ◌-◌, ◌*◌, ◌≡◌, ◌≢◌, ◌<◌, ◌≤◌, arith}
use Rattle.cpu_table.specs.Data.{SetupData}
use Rattle.schedule_laws.proofs.Stations.{made}
use Rattle.schedule_laws.proofs.Invariant.{Context, View, IsCpu, IsTeam, IsPeer, IsRunOf, IsTotals}
use Rattle.schedule_laws.proofs.LeadFrames.{at_stage}

report_came_team : (c : Context) (x : ℕ) (y : ℕ) (j : ℕ) (v : View) → IsTeam (at_stage c 10 x) j v → IsTeam (at_stage c 10 y) j v
report_came_team c x y j v g = grind arith

report_came_peer : (c : Context) (x : ℕ) (y : ℕ) (j : ℕ) (v : View) → v.team ≤ 1 → IsTeam (at_stage c 10 x) j v → IsPeer (at_stage c 10 x) j v → IsPeer (at_stage c 10 y) j v
report_came_peer c x y j v b e g = grind arith

pub report_came_run : (c : Context) (x : ℕ) (y : ℕ) (j r : ℕ) (v : View) → v.team ≤ 1 → IsTeam (at_stage c 10 x) j v → IsPeer (at_stage c 10 x) j v → IsRunOf (at_stage c 10 x) j v r → IsRunOf (at_stage c 10 y) j v r
report_came_run c x y j r v b e g d = grind arith

pub report_came : (d : SetupData) (c : Context) (waves : ℕ) (x : ℕ) (y : ℕ) (j : ℕ) (v : View) → IsCpu d (at_stage c 10 x) waves j v → IsCpu d (at_stage c 10 y) waves j v
report_came d c waves x y j v g = record { self = g.self; team = report_came_team c x y j v g.team; leader = g.leader; peer = λ z. report_came_peer c x y j v g.self.team_bit g.team (g.peer z) }

pub report_came_totals : (c : Context) (x : ℕ) (y : ℕ) (counter run m t e : ℕ) → run ≢ 0 → y ≡ x - 1 → y ≢ 0 → IsTotals (at_stage c 10 x) counter run m t e → IsTotals (at_stage c 10 y) counter (run - 1) m t e
report_came_totals c x y counter run m t e r0 r1 r2 g = grind arith

reports_came_team : (c : Context) (x : ℕ) (j : ℕ) (v : View) → IsTeam (at_stage c 10 x) j v → IsTeam (at_stage c 11 0) j v
reports_came_team c x j v g = grind arith

reports_came_peer : (c : Context) (x : ℕ) (j : ℕ) (v : View) → v.team ≤ made v.departed v.station → v.team ≤ 1 → IsTeam (at_stage c 10 x) j v → IsPeer (at_stage c 10 x) j v → IsPeer (at_stage c 11 0) j v
reports_came_peer c x j v u b e g = grind arith

pub reports_came_run : (c : Context) (x : ℕ) (j r : ℕ) (v : View) → v.team ≤ made v.departed v.station → v.team ≤ 1 → IsTeam (at_stage c 10 x) j v → IsPeer (at_stage c 10 x) j v → IsRunOf (at_stage c 10 x) j v r → IsRunOf (at_stage c 11 0) j v r
reports_came_run c x j r v u b e g d = grind arith

pub reports_came : (d : SetupData) (c : Context) (waves : ℕ) (x : ℕ) (j : ℕ) (v : View) → (j ≢ c.bsp → v.team ≤ made v.departed v.station) → IsCpu d (at_stage c 10 x) waves j v → IsCpu d (at_stage c 11 0) waves j v
reports_came d c waves x j v u g = record { self = g.self; team = reports_came_team c x j v g.team; leader = g.leader; peer = λ z. reports_came_peer c x j v (u z) g.self.team_bit g.team (g.peer z) }

pub reports_came_totals : (c : Context) (x : ℕ) (counter run m t e : ℕ) → run ≢ 0 → x - 1 ≡ 0 → IsTotals (at_stage c 10 x) counter run m t e → IsTotals (at_stage c 11 0) counter (run - 1) m t e
reports_came_totals c x counter run m t e r0 r1 g = grind arith

desks_skipped_team : (c : Context) (x : ℕ) (y : ℕ) (j : ℕ) (v : View) → x ≤ y → (x ≤ j → j < y → v.present ≢ 1) → IsTeam (at_stage c 11 x) j v → IsTeam (at_stage c 11 y) j v
desks_skipped_team c x y j v t0 t1 g = grind arith

desks_skipped_peer : (c : Context) (x : ℕ) (y : ℕ) (j : ℕ) (v : View) → x ≤ y → (x ≤ j → j < y → v.present ≢ 1) → v.team ≤ 1 → IsTeam (at_stage c 11 x) j v → IsPeer (at_stage c 11 x) j v → IsPeer (at_stage c 11 y) j v
desks_skipped_peer c x y j v t0 t1 b e g = grind arith

pub desks_skipped_run : (c : Context) (x : ℕ) (y : ℕ) (j r : ℕ) (v : View) → x ≤ y → (x ≤ j → j < y → v.present ≢ 1) → v.team ≤ 1 → IsTeam (at_stage c 11 x) j v → IsPeer (at_stage c 11 x) j v → IsRunOf (at_stage c 11 x) j v r → IsRunOf (at_stage c 11 y) j v r
desks_skipped_run c x y j r v t0 t1 b e g d = grind arith

pub desks_skipped : (d : SetupData) (c : Context) (waves : ℕ) (x : ℕ) (y : ℕ) (j : ℕ) (v : View) → x ≤ y → (x ≤ j → j < y → v.present ≢ 1) → IsCpu d (at_stage c 11 x) waves j v → IsCpu d (at_stage c 11 y) waves j v
desks_skipped d c waves x y j v t0 t1 g = record { self = g.self; team = desks_skipped_team c x y j v t0 t1 g.team; leader = g.leader; peer = λ z. desks_skipped_peer c x y j v t0 t1 g.self.team_bit g.team (g.peer z) }

pub desks_skipped_totals : (c : Context) (x : ℕ) (y : ℕ) (counter run m t e : ℕ) → IsTotals (at_stage c 11 x) counter run m t e → IsTotals (at_stage c 11 y) counter (run) m t e
desks_skipped_totals c x y counter run m t e g = grind arith

desks_taken_team : (c : Context) (x : ℕ) (j : ℕ) (v : View) → (x ≤ j → v.present ≢ 1) → IsTeam (at_stage c 11 x) j v → IsTeam (at_stage c 12 0) j v
desks_taken_team c x j v t0 g = grind arith

desks_taken_peer : (c : Context) (x : ℕ) (j : ℕ) (v : View) → (x ≤ j → v.present ≢ 1) → v.team ≤ 1 → IsTeam (at_stage c 11 x) j v → IsPeer (at_stage c 11 x) j v → IsPeer (at_stage c 12 0) j v
desks_taken_peer c x j v t0 b e g = grind arith

pub desks_taken_run : (c : Context) (x : ℕ) (j r : ℕ) (v : View) → (x ≤ j → v.present ≢ 1) → v.team ≤ 1 → IsTeam (at_stage c 11 x) j v → IsPeer (at_stage c 11 x) j v → IsRunOf (at_stage c 11 x) j v r → IsRunOf (at_stage c 12 0) j v r
desks_taken_run c x j r v t0 b e g d = grind arith

pub desks_taken : (d : SetupData) (c : Context) (waves : ℕ) (x : ℕ) (j : ℕ) (v : View) → (x ≤ j → v.present ≢ 1) → IsCpu d (at_stage c 11 x) waves j v → IsCpu d (at_stage c 12 0) waves j v
desks_taken d c waves x j v t0 g = record { self = g.self; team = desks_taken_team c x j v t0 g.team; leader = g.leader; peer = λ z. desks_taken_peer c x j v t0 g.self.team_bit g.team (g.peer z) }

pub desks_taken_totals : (c : Context) (x : ℕ) (counter run m t e : ℕ) → IsTotals (at_stage c 11 x) counter run m t e → IsTotals (at_stage c 12 0) counter (run) m t e
desks_taken_totals c x counter run m t e g = grind arith

desks_taken_relaxed_team : (c : Context) (x : ℕ) (j : ℕ) (v : View) → (x ≤ j → v.present ≢ 1) → v.work ≡ 0 → IsTeam (at_stage c 11 x) j v → IsTeam (at_stage c 14 0) j v
desks_taken_relaxed_team c x j v t0 t1 g = grind arith

desks_taken_relaxed_peer : (c : Context) (x : ℕ) (j : ℕ) (v : View) → (x ≤ j → v.present ≢ 1) → v.work ≡ 0 → v.team ≤ 1 → IsTeam (at_stage c 11 x) j v → IsPeer (at_stage c 11 x) j v → IsPeer (at_stage c 14 0) j v
desks_taken_relaxed_peer c x j v t0 t1 b e g = grind arith

pub desks_taken_relaxed_run : (c : Context) (x : ℕ) (j r : ℕ) (v : View) → (x ≤ j → v.present ≢ 1) → v.work ≡ 0 → v.team ≤ 1 → IsTeam (at_stage c 11 x) j v → IsPeer (at_stage c 11 x) j v → IsRunOf (at_stage c 11 x) j v r → IsRunOf (at_stage c 14 0) j v r
desks_taken_relaxed_run c x j r v t0 t1 b e g d = grind arith

pub desks_taken_relaxed : (d : SetupData) (c : Context) (waves : ℕ) (x : ℕ) (j : ℕ) (v : View) → (x ≤ j → v.present ≢ 1) → v.work ≡ 0 → IsCpu d (at_stage c 11 x) waves j v → IsCpu d (at_stage c 14 0) waves j v
desks_taken_relaxed d c waves x j v t0 t1 g = record { self = g.self; team = desks_taken_relaxed_team c x j v t0 t1 g.team; leader = g.leader; peer = λ z. desks_taken_relaxed_peer c x j v t0 t1 g.self.team_bit g.team (g.peer z) }

pub desks_taken_relaxed_totals : (c : Context) (x : ℕ) (counter run m t e : ℕ) → IsTotals (at_stage c 11 x) counter run m t e → IsTotals (at_stage c 14 0) counter (run) m t e
desks_taken_relaxed_totals c x counter run m t e g = grind arith

served_closed_team : (c : Context) (x : ℕ) (j : ℕ) (v : View) → v.work ≡ 0 → IsTeam (at_stage c 13 x) j v → IsTeam (at_stage c 14 0) j v
served_closed_team c x j v t0 g = grind arith

served_closed_peer : (c : Context) (x : ℕ) (j : ℕ) (v : View) → v.work ≡ 0 → v.team ≤ 1 → IsTeam (at_stage c 13 x) j v → IsPeer (at_stage c 13 x) j v → IsPeer (at_stage c 14 0) j v
served_closed_peer c x j v t0 b e g = grind arith

pub served_closed_run : (c : Context) (x : ℕ) (j r : ℕ) (v : View) → v.work ≡ 0 → v.team ≤ 1 → IsTeam (at_stage c 13 x) j v → IsPeer (at_stage c 13 x) j v → IsRunOf (at_stage c 13 x) j v r → IsRunOf (at_stage c 14 0) j v r
served_closed_run c x j r v t0 b e g d = grind arith

pub served_closed : (d : SetupData) (c : Context) (waves : ℕ) (x : ℕ) (j : ℕ) (v : View) → v.work ≡ 0 → IsCpu d (at_stage c 13 x) waves j v → IsCpu d (at_stage c 14 0) waves j v
served_closed d c waves x j v t0 g = record { self = g.self; team = served_closed_team c x j v t0 g.team; leader = g.leader; peer = λ z. served_closed_peer c x j v t0 g.self.team_bit g.team (g.peer z) }

pub served_closed_totals : (c : Context) (x : ℕ) (counter run m t e : ℕ) → IsTotals (at_stage c 13 x) counter run m t e → IsTotals (at_stage c 14 0) counter (run) m t e
served_closed_totals c x counter run m t e g = grind arith

releases_skipped_team : (c : Context) (x : ℕ) (y : ℕ) (j : ℕ) (v : View) → x ≤ y → IsTeam (at_stage c 15 x) j v → IsTeam (at_stage c 15 y) j v
releases_skipped_team c x y j v t0 g = grind arith

releases_skipped_peer : (c : Context) (x : ℕ) (y : ℕ) (j : ℕ) (v : View) → x ≤ y → (x ≤ j → j < y → v.team ≡ 0) → v.team ≤ 1 → IsTeam (at_stage c 15 x) j v → IsPeer (at_stage c 15 x) j v → IsPeer (at_stage c 15 y) j v
releases_skipped_peer c x y j v t0 u b e g = grind arith

pub releases_skipped_run : (c : Context) (x : ℕ) (y : ℕ) (j r : ℕ) (v : View) → x ≤ y → (x ≤ j → j < y → v.team ≡ 0) → v.team ≤ 1 → IsTeam (at_stage c 15 x) j v → IsPeer (at_stage c 15 x) j v → IsRunOf (at_stage c 15 x) j v r → IsRunOf (at_stage c 15 y) j v r
releases_skipped_run c x y j r v t0 u b e g d = grind arith

pub releases_skipped : (d : SetupData) (c : Context) (waves : ℕ) (x : ℕ) (y : ℕ) (j : ℕ) (v : View) → x ≤ y → (j ≢ c.bsp → (x ≤ j → j < y → v.team ≡ 0)) → IsCpu d (at_stage c 15 x) waves j v → IsCpu d (at_stage c 15 y) waves j v
releases_skipped d c waves x y j v t0 u g = record { self = g.self; team = releases_skipped_team c x y j v t0 g.team; leader = g.leader; peer = λ z. releases_skipped_peer c x y j v t0 (u z) g.self.team_bit g.team (g.peer z) }

pub releases_skipped_totals : (c : Context) (x : ℕ) (y : ℕ) (counter run m t e : ℕ) → IsTotals (at_stage c 15 x) counter run m t e → IsTotals (at_stage c 15 y) counter (run) m t e
releases_skipped_totals c x y counter run m t e g = grind arith

releases_made_team : (c : Context) (x : ℕ) (y : ℕ) (j : ℕ) (v : View) → IsTeam (at_stage c 15 x) j v → IsTeam (at_stage c 16 y) j v
releases_made_team c x y j v g = grind arith

releases_made_peer : (c : Context) (x : ℕ) (y : ℕ) (j : ℕ) (v : View) → (x ≤ j → v.team ≡ 0) → v.team ≤ 1 → IsTeam (at_stage c 15 x) j v → IsPeer (at_stage c 15 x) j v → IsPeer (at_stage c 16 y) j v
releases_made_peer c x y j v u b e g = grind arith

pub releases_made_run : (c : Context) (x : ℕ) (y : ℕ) (j r : ℕ) (v : View) → (x ≤ j → v.team ≡ 0) → v.team ≤ 1 → IsTeam (at_stage c 15 x) j v → IsPeer (at_stage c 15 x) j v → IsRunOf (at_stage c 15 x) j v r → IsRunOf (at_stage c 16 y) j v r
releases_made_run c x y j r v u b e g d = grind arith

pub releases_made : (d : SetupData) (c : Context) (waves : ℕ) (x : ℕ) (y : ℕ) (j : ℕ) (v : View) → (j ≢ c.bsp → (x ≤ j → v.team ≡ 0)) → IsCpu d (at_stage c 15 x) waves j v → IsCpu d (at_stage c 16 y) waves j v
releases_made d c waves x y j v u g = record { self = g.self; team = releases_made_team c x y j v g.team; leader = g.leader; peer = λ z. releases_made_peer c x y j v (u z) g.self.team_bit g.team (g.peer z) }

pub releases_made_totals : (c : Context) (x : ℕ) (y : ℕ) (counter run m t e : ℕ) → c.peers ≢ 0 → y ≡ c.peers → IsTotals (at_stage c 15 x) counter run m t e → IsTotals (at_stage c 16 y) counter (run) m t e
releases_made_totals c x y counter run m t e r0 r1 g = grind arith

releases_none_team : (c : Context) (x : ℕ) (j : ℕ) (v : View) → IsTeam (at_stage c 15 x) j v → IsTeam (at_stage c 17 0) j v
releases_none_team c x j v g = grind arith

releases_none_peer : (c : Context) (x : ℕ) (j : ℕ) (v : View) → v.team ≡ 0 → v.team ≤ 1 → IsTeam (at_stage c 15 x) j v → IsPeer (at_stage c 15 x) j v → IsPeer (at_stage c 17 0) j v
releases_none_peer c x j v u b e g = grind arith

pub releases_none_run : (c : Context) (x : ℕ) (j r : ℕ) (v : View) → v.team ≡ 0 → v.team ≤ 1 → IsTeam (at_stage c 15 x) j v → IsPeer (at_stage c 15 x) j v → IsRunOf (at_stage c 15 x) j v r → IsRunOf (at_stage c 17 0) j v r
releases_none_run c x j r v u b e g d = grind arith

pub releases_none : (d : SetupData) (c : Context) (waves : ℕ) (x : ℕ) (j : ℕ) (v : View) → (j ≢ c.bsp → v.team ≡ 0) → IsCpu d (at_stage c 15 x) waves j v → IsCpu d (at_stage c 17 0) waves j v
releases_none d c waves x j v u g = record { self = g.self; team = releases_none_team c x j v g.team; leader = g.leader; peer = λ z. releases_none_peer c x j v (u z) g.self.team_bit g.team (g.peer z) }

pub releases_none_totals : (c : Context) (x : ℕ) (counter run m t e : ℕ) → c.peers ≡ 0 → IsTotals (at_stage c 15 x) counter run m t e → IsTotals (at_stage c 17 0) counter (run) m t e
releases_none_totals c x counter run m t e r0 g = grind arith

answer_came_team : (c : Context) (x : ℕ) (y : ℕ) (j : ℕ) (v : View) → IsTeam (at_stage c 16 x) j v → IsTeam (at_stage c 16 y) j v
answer_came_team c x y j v g = grind arith

answer_came_peer : (c : Context) (x : ℕ) (y : ℕ) (j : ℕ) (v : View) → v.team ≤ 1 → IsTeam (at_stage c 16 x) j v → IsPeer (at_stage c 16 x) j v → IsPeer (at_stage c 16 y) j v
answer_came_peer c x y j v b e g = grind arith

pub answer_came_run : (c : Context) (x : ℕ) (y : ℕ) (j r : ℕ) (v : View) → v.team ≤ 1 → IsTeam (at_stage c 16 x) j v → IsPeer (at_stage c 16 x) j v → IsRunOf (at_stage c 16 x) j v r → IsRunOf (at_stage c 16 y) j v r
answer_came_run c x y j r v b e g d = grind arith

pub answer_came : (d : SetupData) (c : Context) (waves : ℕ) (x : ℕ) (y : ℕ) (j : ℕ) (v : View) → IsCpu d (at_stage c 16 x) waves j v → IsCpu d (at_stage c 16 y) waves j v
answer_came d c waves x y j v g = record { self = g.self; team = answer_came_team c x y j v g.team; leader = g.leader; peer = λ z. answer_came_peer c x y j v g.self.team_bit g.team (g.peer z) }

pub answer_came_totals : (c : Context) (x : ℕ) (y : ℕ) (counter run m t e : ℕ) → run ≢ 0 → y ≡ x - 1 → y ≢ 0 → IsTotals (at_stage c 16 x) counter run m t e → IsTotals (at_stage c 16 y) counter (run - 1) m t e
answer_came_totals c x y counter run m t e r0 r1 r2 g = grind arith

answers_came_team : (c : Context) (x : ℕ) (j : ℕ) (v : View) → IsTeam (at_stage c 16 x) j v → IsTeam (at_stage c 17 0) j v
answers_came_team c x j v g = grind arith

answers_came_peer : (c : Context) (x : ℕ) (j : ℕ) (v : View) → 2 * v.team ≤ made v.departed v.station → v.team ≤ 1 → IsTeam (at_stage c 16 x) j v → IsPeer (at_stage c 16 x) j v → IsPeer (at_stage c 17 0) j v
answers_came_peer c x j v u b e g = grind arith

pub answers_came_run : (c : Context) (x : ℕ) (j r : ℕ) (v : View) → 2 * v.team ≤ made v.departed v.station → v.team ≤ 1 → IsTeam (at_stage c 16 x) j v → IsPeer (at_stage c 16 x) j v → IsRunOf (at_stage c 16 x) j v r → IsRunOf (at_stage c 17 0) j v r
answers_came_run c x j r v u b e g d = grind arith

pub answers_came : (d : SetupData) (c : Context) (waves : ℕ) (x : ℕ) (j : ℕ) (v : View) → (j ≢ c.bsp → 2 * v.team ≤ made v.departed v.station) → IsCpu d (at_stage c 16 x) waves j v → IsCpu d (at_stage c 17 0) waves j v
answers_came d c waves x j v u g = record { self = g.self; team = answers_came_team c x j v g.team; leader = g.leader; peer = λ z. answers_came_peer c x j v (u z) g.self.team_bit g.team (g.peer z) }

pub answers_came_totals : (c : Context) (x : ℕ) (counter run m t e : ℕ) → run ≢ 0 → x - 1 ≡ 0 → IsTotals (at_stage c 16 x) counter run m t e → IsTotals (at_stage c 17 0) counter (run - 1) m t e
answers_came_totals c x counter run m t e r0 r1 g = grind arith

dismissals_skipped_team : (c : Context) (x : ℕ) (y : ℕ) (j : ℕ) (v : View) → x ≤ y → IsTeam (at_stage c 17 x) j v → IsTeam (at_stage c 17 y) j v
dismissals_skipped_team c x y j v t0 g = grind arith

dismissals_skipped_peer : (c : Context) (x : ℕ) (y : ℕ) (j : ℕ) (v : View) → x ≤ y → (x ≤ j → j < y → v.team ≡ 0) → v.team ≤ 1 → IsTeam (at_stage c 17 x) j v → IsPeer (at_stage c 17 x) j v → IsPeer (at_stage c 17 y) j v
dismissals_skipped_peer c x y j v t0 u b e g = grind arith

pub dismissals_skipped_run : (c : Context) (x : ℕ) (y : ℕ) (j r : ℕ) (v : View) → x ≤ y → (x ≤ j → j < y → v.team ≡ 0) → v.team ≤ 1 → IsTeam (at_stage c 17 x) j v → IsPeer (at_stage c 17 x) j v → IsRunOf (at_stage c 17 x) j v r → IsRunOf (at_stage c 17 y) j v r
dismissals_skipped_run c x y j r v t0 u b e g d = grind arith

pub dismissals_skipped : (d : SetupData) (c : Context) (waves : ℕ) (x : ℕ) (y : ℕ) (j : ℕ) (v : View) → x ≤ y → (j ≢ c.bsp → (x ≤ j → j < y → v.team ≡ 0)) → IsCpu d (at_stage c 17 x) waves j v → IsCpu d (at_stage c 17 y) waves j v
dismissals_skipped d c waves x y j v t0 u g = record { self = g.self; team = dismissals_skipped_team c x y j v t0 g.team; leader = g.leader; peer = λ z. dismissals_skipped_peer c x y j v t0 (u z) g.self.team_bit g.team (g.peer z) }

pub dismissals_skipped_totals : (c : Context) (x : ℕ) (y : ℕ) (counter run m t e : ℕ) → IsTotals (at_stage c 17 x) counter run m t e → IsTotals (at_stage c 17 y) counter (run) m t e
dismissals_skipped_totals c x y counter run m t e g = grind arith

dismissals_made_team : (c : Context) (x : ℕ) (y : ℕ) (j : ℕ) (v : View) → IsTeam (at_stage c 17 x) j v → IsTeam (at_stage c 18 y) j v
dismissals_made_team c x y j v g = grind arith

dismissals_made_peer : (c : Context) (x : ℕ) (y : ℕ) (j : ℕ) (v : View) → (x ≤ j → v.team ≡ 0) → v.team ≤ 1 → IsTeam (at_stage c 17 x) j v → IsPeer (at_stage c 17 x) j v → IsPeer (at_stage c 18 y) j v
dismissals_made_peer c x y j v u b e g = grind arith

pub dismissals_made_run : (c : Context) (x : ℕ) (y : ℕ) (j r : ℕ) (v : View) → (x ≤ j → v.team ≡ 0) → v.team ≤ 1 → IsTeam (at_stage c 17 x) j v → IsPeer (at_stage c 17 x) j v → IsRunOf (at_stage c 17 x) j v r → IsRunOf (at_stage c 18 y) j v r
dismissals_made_run c x y j r v u b e g d = grind arith

pub dismissals_made : (d : SetupData) (c : Context) (waves : ℕ) (x : ℕ) (y : ℕ) (j : ℕ) (v : View) → (j ≢ c.bsp → (x ≤ j → v.team ≡ 0)) → IsCpu d (at_stage c 17 x) waves j v → IsCpu d (at_stage c 18 y) waves j v
dismissals_made d c waves x y j v u g = record { self = g.self; team = dismissals_made_team c x y j v g.team; leader = g.leader; peer = λ z. dismissals_made_peer c x y j v (u z) g.self.team_bit g.team (g.peer z) }

pub dismissals_made_totals : (c : Context) (x : ℕ) (y : ℕ) (counter run m t e : ℕ) → c.peers ≢ 0 → y ≡ c.peers → IsTotals (at_stage c 17 x) counter run m t e → IsTotals (at_stage c 18 y) counter (run) m t e
dismissals_made_totals c x y counter run m t e r0 r1 g = grind arith

dismissals_none_team : (c : Context) (x : ℕ) (j : ℕ) (v : View) → IsTeam (at_stage c 17 x) j v → IsTeam (at_stage c 19 0) j v
dismissals_none_team c x j v g = grind arith

dismissals_none_peer : (c : Context) (x : ℕ) (j : ℕ) (v : View) → v.team ≡ 0 → v.team ≤ 1 → IsTeam (at_stage c 17 x) j v → IsPeer (at_stage c 17 x) j v → IsPeer (at_stage c 19 0) j v
dismissals_none_peer c x j v u b e g = grind arith

pub dismissals_none_run : (c : Context) (x : ℕ) (j r : ℕ) (v : View) → v.team ≡ 0 → v.team ≤ 1 → IsTeam (at_stage c 17 x) j v → IsPeer (at_stage c 17 x) j v → IsRunOf (at_stage c 17 x) j v r → IsRunOf (at_stage c 19 0) j v r
dismissals_none_run c x j r v u b e g d = grind arith

pub dismissals_none : (d : SetupData) (c : Context) (waves : ℕ) (x : ℕ) (j : ℕ) (v : View) → (j ≢ c.bsp → v.team ≡ 0) → IsCpu d (at_stage c 17 x) waves j v → IsCpu d (at_stage c 19 0) waves j v
dismissals_none d c waves x j v u g = record { self = g.self; team = dismissals_none_team c x j v g.team; leader = g.leader; peer = λ z. dismissals_none_peer c x j v (u z) g.self.team_bit g.team (g.peer z) }

pub dismissals_none_totals : (c : Context) (x : ℕ) (counter run m t e : ℕ) → c.peers ≡ 0 → IsTotals (at_stage c 17 x) counter run m t e → IsTotals (at_stage c 19 0) counter (run) m t e
dismissals_none_totals c x counter run m t e r0 g = grind arith

departure_came_team : (c : Context) (x : ℕ) (y : ℕ) (j : ℕ) (v : View) → IsTeam (at_stage c 18 x) j v → IsTeam (at_stage c 18 y) j v
departure_came_team c x y j v g = grind arith

departure_came_peer : (c : Context) (x : ℕ) (y : ℕ) (j : ℕ) (v : View) → v.team ≤ 1 → IsTeam (at_stage c 18 x) j v → IsPeer (at_stage c 18 x) j v → IsPeer (at_stage c 18 y) j v
departure_came_peer c x y j v b e g = grind arith

pub departure_came_run : (c : Context) (x : ℕ) (y : ℕ) (j r : ℕ) (v : View) → v.team ≤ 1 → IsTeam (at_stage c 18 x) j v → IsPeer (at_stage c 18 x) j v → IsRunOf (at_stage c 18 x) j v r → IsRunOf (at_stage c 18 y) j v r
departure_came_run c x y j r v b e g d = grind arith

pub departure_came : (d : SetupData) (c : Context) (waves : ℕ) (x : ℕ) (y : ℕ) (j : ℕ) (v : View) → IsCpu d (at_stage c 18 x) waves j v → IsCpu d (at_stage c 18 y) waves j v
departure_came d c waves x y j v g = record { self = g.self; team = departure_came_team c x y j v g.team; leader = g.leader; peer = λ z. departure_came_peer c x y j v g.self.team_bit g.team (g.peer z) }

pub departure_came_totals : (c : Context) (x : ℕ) (y : ℕ) (counter run m t e : ℕ) → run ≢ 0 → y ≡ x - 1 → y ≢ 0 → IsTotals (at_stage c 18 x) counter run m t e → IsTotals (at_stage c 18 y) counter (run - 1) m t e
departure_came_totals c x y counter run m t e r0 r1 r2 g = grind arith

departures_came_team : (c : Context) (x : ℕ) (j : ℕ) (v : View) → IsTeam (at_stage c 18 x) j v → IsTeam (at_stage c 19 0) j v
departures_came_team c x j v g = grind arith

departures_came_peer : (c : Context) (x : ℕ) (j : ℕ) (v : View) → 3 * v.team ≤ made v.departed v.station → v.team ≤ 1 → IsTeam (at_stage c 18 x) j v → IsPeer (at_stage c 18 x) j v → IsPeer (at_stage c 19 0) j v
departures_came_peer c x j v u b e g = grind arith

pub departures_came_run : (c : Context) (x : ℕ) (j r : ℕ) (v : View) → 3 * v.team ≤ made v.departed v.station → v.team ≤ 1 → IsTeam (at_stage c 18 x) j v → IsPeer (at_stage c 18 x) j v → IsRunOf (at_stage c 18 x) j v r → IsRunOf (at_stage c 19 0) j v r
departures_came_run c x j r v u b e g d = grind arith

pub departures_came : (d : SetupData) (c : Context) (waves : ℕ) (x : ℕ) (j : ℕ) (v : View) → (j ≢ c.bsp → 3 * v.team ≤ made v.departed v.station) → IsCpu d (at_stage c 18 x) waves j v → IsCpu d (at_stage c 19 0) waves j v
departures_came d c waves x j v u g = record { self = g.self; team = departures_came_team c x j v g.team; leader = g.leader; peer = λ z. departures_came_peer c x j v (u z) g.self.team_bit g.team (g.peer z) }

pub departures_came_totals : (c : Context) (x : ℕ) (counter run m t e : ℕ) → run ≢ 0 → x - 1 ≡ 0 → IsTotals (at_stage c 18 x) counter run m t e → IsTotals (at_stage c 19 0) counter (run - 1) m t e
departures_came_totals c x counter run m t e r0 r1 g = grind arith

chair_given_team : (c : Context) (x : ℕ) (j : ℕ) (v : View) → IsTeam (at_stage c 19 x) j v → IsTeam (at_stage c 20 0) j v
chair_given_team c x j v g = grind arith

chair_given_peer : (c : Context) (x : ℕ) (j : ℕ) (v : View) → v.team ≤ 1 → IsTeam (at_stage c 19 x) j v → IsPeer (at_stage c 19 x) j v → IsPeer (at_stage c 20 0) j v
chair_given_peer c x j v b e g = grind arith

pub chair_given_run : (c : Context) (x : ℕ) (j r : ℕ) (v : View) → v.team ≤ 1 → IsTeam (at_stage c 19 x) j v → IsPeer (at_stage c 19 x) j v → IsRunOf (at_stage c 19 x) j v r → IsRunOf (at_stage c 20 0) j v r
chair_given_run c x j r v b e g d = grind arith

pub chair_given : (d : SetupData) (c : Context) (waves : ℕ) (x : ℕ) (j : ℕ) (v : View) → IsCpu d (at_stage c 19 x) waves j v → IsCpu d (at_stage c 20 0) waves j v
chair_given d c waves x j v g = record { self = g.self; team = chair_given_team c x j v g.team; leader = g.leader; peer = λ z. chair_given_peer c x j v g.self.team_bit g.team (g.peer z) }

pub chair_given_totals : (c : Context) (x : ℕ) (counter run m t e : ℕ) → IsTotals (at_stage c 19 x) counter run m t e → IsTotals (at_stage c 20 0) counter (run) m t e
chair_given_totals c x counter run m t e g = grind arith

insync_left_team : (c : Context) (x : ℕ) (j : ℕ) (v : View) → IsTeam (at_stage c 20 x) j v → IsTeam (at_stage c 21 0) j v
insync_left_team c x j v g = grind arith

insync_left_peer : (c : Context) (x : ℕ) (j : ℕ) (v : View) → v.team ≤ 1 → IsTeam (at_stage c 20 x) j v → IsPeer (at_stage c 20 x) j v → IsPeer (at_stage c 21 0) j v
insync_left_peer c x j v b e g = grind arith

pub insync_left_run : (c : Context) (x : ℕ) (j r : ℕ) (v : View) → v.team ≤ 1 → IsTeam (at_stage c 20 x) j v → IsPeer (at_stage c 20 x) j v → IsRunOf (at_stage c 20 x) j v r → IsRunOf (at_stage c 21 0) j v r
insync_left_run c x j r v b e g d = grind arith

pub insync_left : (d : SetupData) (c : Context) (waves : ℕ) (x : ℕ) (j : ℕ) (v : View) → IsCpu d (at_stage c 20 x) waves j v → IsCpu d (at_stage c 21 0) waves j v
insync_left d c waves x j v g = record { self = g.self; team = insync_left_team c x j v g.team; leader = g.leader; peer = λ z. insync_left_peer c x j v g.self.team_bit g.team (g.peer z) }

pub insync_left_totals : (c : Context) (x : ℕ) (counter run m t e : ℕ) → IsTotals (at_stage c 20 x) counter run m t e → IsTotals (at_stage c 21 0) counter (run) m t e
insync_left_totals c x counter run m t e g = grind arith

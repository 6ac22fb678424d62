-- The steps of a BSP that releases an AP, with its desk, or dismisses one.
use Rattle.std.proofs.Common.{ℕ, ◌+◌, ◌-◌, ◌≡◌, ◌≢◌, ◌<◌, ◌≤◌, arith, true, false, List, length, get_or, slice_set, Option, Some, None, refl, sym, ap, subst, ⊎_elim, ◌∙◌}
use Rattle.std.proofs.lemmas.Bool.{cases_eq, ne_eqb}
use Rattle.std.proofs.lemmas.List.{get_or-set_other, get_or-set_same, length-set}
use Rattle.cpu_table.specs.Data.{SetupData}
use Rattle.sync_words.specs.declared.row.Row.TheVariants as row
use Rattle.exit_handshake.specs.Exit.{to_dismissals, to_releases}
use Rattle.handler_ops.specs.declared.desk.Desk.{Desk}
use Rattle.cpu_program.specs.declared.cargo.Cargo.{Cargo}
use Rattle.cpu_program.specs.declared.cargo.Cargo.TheVariants as cargo
use Rattle.rendezvous_machine.specs.Machines.{Machine, Member, member, nobody}
use Rattle.rendezvous_machine.specs.Effects.{with_member}
use Rattle.schedule_laws.proofs.Scenes.{Scene, Seat, Releasing, Dismissing, Leading as LeadingAt, seat}
use Rattle.schedule_laws.proofs.Stations.{Leading, station_of, bit, member_of, out_of, made}
use Rattle.schedule_laws.proofs.Sums.{sum_below-same}
use Rattle.schedule_laws.proofs.Invariant.{Context, View, IsSelf, IsCpu, IsTeam, IsPeer, IsRunOf, IsTotals, IsReady, IsLead, Holds, KeptAt, desk_at, desk_kept, locked, globe, mode_of, seat_view, view, members_in, team_in, raised_in}
use Rattle.schedule_laws.proofs.Frames.{mode_le, bit_true, bit_false, signals_more, busies_more, jobs_more}
use Rattle.schedule_laws.proofs.LeadFrames.{at_stage, lead_kept}
use Rattle.schedule_laws.proofs.SessionFrames.{bsp_says, resting_job, idle_same}
use Rattle.schedule_laws.proofs.ClosedFrames.{words_at, session_at, course_late, further, has_reported, desk_of_team, kept_is}
use Rattle.schedule_laws.proofs.ExitWays.{place_at, exits_to, enter_dismissals, enter_releases}

-- DISMISSALS

dismissed_cpu : (d : SetupData) (c : Context) (waves x j : ℕ) (v : View) → IsCpu d (at_stage c 17 x) waves j v → IsCpu d (at_stage c 17 (x + 1)) waves j v
dismissed_cpu d c waves x j v h =
    let g = h.team in
    record {
      self = h.self;
      team = record { team_open = g.team_open; departed_open = g.departed_open; team = g.team; unreleased = g.unreleased; idle_early = g.idle_early; idle_mid = g.idle_mid; idle_after = g.idle_after; unclaimed = g.unclaimed; claimed_so_far = λ z. absurd (omega arith); claimed = g.claimed };
      leader = h.leader;
      peer = λ z.
          let y = h.peer z in
          record { station = y.station; walking = y.walking; knows = y.knows; gone = y.gone; listed = y.listed; released_so_far = λ u. absurd (omega arith); released_no_more = λ u. absurd (omega arith); released = y.released; told = y.told; answered = y.answered; ended = y.ended };
    }

dismissed_run : (c : Context) (x j r : ℕ) (v : View) → j ≢ x → IsRunOf (at_stage c 17 x) j v r → IsRunOf (at_stage c 17 (x + 1)) j v r
dismissed_run c x j r v n h =
    record { upto = λ y. absurd (omega arith); lent = h.lent; so_far = λ _ y. h.so_far refl (omega arith); no_more = λ _ y. h.no_more refl (omega arith); late = λ y. absurd (omega arith) }

dismissed_own_run : (c : Context) (x r : ℕ) (v : View) → v.work ≡ 0 → v.team ≡ 1 → IsRunOf (at_stage c 17 x) x v r → IsRunOf (at_stage c 17 (x + 1)) x v (r + 1)
dismissed_own_run c x r v wk t h =
    let y = h.no_more refl (omega arith) in
    record { upto = λ u. absurd (omega arith); lent = λ u. absurd (omega arith); so_far = λ _ _. omega arith; no_more = λ _ u. absurd (omega arith); late = λ u. absurd (omega arith) }

dismissed_totals : (c : Context) (x counter run a b e : ℕ) → IsTotals (at_stage c 17 x) counter run a b e → IsTotals (at_stage c 17 (x + 1)) counter run a b e
dismissed_totals c x counter run a b e h =
    record { counted = h.counted; counter_locked = h.counter_locked; peers = h.peers; run_open = h.run_open; run_reports = λ z. absurd (omega arith); run_reported = h.run_reported; run_answers = λ z. absurd (omega arith); run_answered = h.run_answered; run_ends = λ z. absurd (omega arith); run_ended = h.run_ended }

-- one on the list is in the closed set
listed_team : (c : Context) (j k x : ℕ) (v : View) → 15 ≤ k → k ≤ 18 → get_or c.listed j false ≡ true → IsPeer (at_stage c k x) j v → v.team ≡ 1
listed_team c j k x v a b e h = sym (h.listed a b) ∙ ap bit e

dismiss_at : (d : SetupData) (c : Context) (s : Scene) (m : Machine) (t : Seat) (j : ℕ) → t.position ≡ LeadingAt (Dismissing j) → Holds d (at_stage c 17 j) s m → seat s c.bsp ≡ t
    → IsLead d (at_stage c 17 j) m.registrations m.pool (Dismissing j) t → KeptAt d s m c.bsp t (LeadingAt (Dismissing j))
dismiss_at d c s m t j q f e h =
    let g = f.ready in
    let a = f.aim.dismisses refl in
    let r : ℕ = get_or s.words.run j 0 in
    let run : List ℕ = slice_set s.words.run j (r + 1) in
    let s' : Scene = record s { words = record s.words { run = run } } in
    let own = g.each j a.0 in
    let team : (view s m j).team ≡ 1 = listed_team c j 17 j (view s m j) (omega arith) (omega arith) a.2 (own.peer a.1) in
    let low_word = (g.runs j a.0 a.1).no_more refl (omega arith) in
    let bsp_run : get_or run c.bsp 0 ≡ get_or s.words.run c.bsp 0 = get_or-set_other s.words.run j c.bsp (r + 1) 0 (λ y. a.1 (sym y)) in
    let after : IsReady d (at_stage c 17 (j + 1)) s' m =
    further d c 17 j 17 (j + 1) s m run g (length-set s.words.run j (r + 1)) (omega arith) (omega arith) (omega arith) (λ _. omega arith)
    (words_at d c 17 j 17 (j + 1) (globe s m) (omega arith) (omega arith) (omega arith) (λ _. omega arith) g.words)
    (course_late d c 17 j 17 (j + 1) m.registrations m.pool (omega arith) (omega arith) g.course)
    (rw bsp_run (dismissed_totals c j s.words.counter (get_or s.words.run c.bsp 0) _ _ _ g.totals))
    (λ y l v. dismissed_cpu d c m.waves j y (view s m y) v)
    (λ y l b u v.
    ⊎_elim
    (λ (z : y ≡ j). subst (λ (i : ℕ). IsRunOf (at_stage c 17 (j + 1)) i (view s m i) (get_or run i 0)) (sym z)
    (rw (get_or-set_same s.words.run j (r + 1) 0 (rw g.sized.run a.0)) (dismissed_own_run c j r (view s m j) (own.team.idle_after (omega arith)) team (g.runs j a.0 a.1))))
    (λ (z : y ≢ j). rw (get_or-set_other s.words.run j y (r + 1) 0 z) (dismissed_run c j y (get_or s.words.run y 0) (view s m y) z v))
    (cases_eq y j)) in
    rw (ne_eqb r locked (λ y. absurd (omega arith))) (
      refl,
      tt,
      exits_to d c s' m t t (LeadingAt (Dismissing j)) (to_dismissals (place_at d c t.listed (row.Dismiss j)) (j + 1)) (enter_dismissals d c s' m t.listed (row.Dismiss j) (j + 1) after h.listed (omega (arith, a.0))) e (ap station_of q) refl
          (record { wave = h.wave; blocked = h.blocked; listed = h.listed; held = h.held; chair = h.chair (omega arith) }),
    )

pub dismiss : (d : SetupData) (c : Context) (i : ℕ) (s : Scene) (m : Machine) (t : Seat) (j : ℕ) → Holds d c s m → i < d.processors → seat s i ≡ t
    → t.position ≡ LeadingAt (Dismissing j) → KeptAt d s m i t (LeadingAt (Dismissing j))
dismiss d c i s m t j f l e q = lead_kept d c i s m t (Dismissing j) f l e q (dismiss_at d c s m t j q)

-- RELEASES

abbrev given_back : Option Cargo → View → View
given_back o v = record v { on_run = o; released = 1 }

-- the context when the desk of j is given back, and the next one is looked for
abbrev giving : Context → ℕ → Context
giving c j = record (at_stage c 15 (j + 1)) { held = slice_set c.held j None }

released_self : (d : SetupData) (waves : ℕ) (at at' : Option Desk) (o : Option Cargo) (v : View) → o ≡ Some (cargo.Desk (desk_at v.image None)) → at' ≡ None → v.work ≡ 0 → out_of v.station ≡ 1
    → IsSelf d waves at v → IsSelf d waves at' (given_back o v)
released_self d waves at at' o v e none wk out h =
    record { phase = h.phase; visits = h.visits; registers = h.registers; last = h.last; kind = h.kind; most = h.most; waiting = h.waiting; through = h.through; inside = h.inside; begun = h.begun; team_bit = h.team_bit; released_bit = omega arith; departed_bit = h.departed_bit; work_le = h.work_le; present_le = h.present_le; absent = h.absent; there = h.there; worker = h.worker; idle_away = h.idle_away; running = h.running; own = h.own; own_job = h.own_job; own_out = h.own_out; on_present = h.on_present; off_present = h.off_present; on_run = λ _ _. e; on_run_job = λ z. absurd (omega arith); off_run = λ z. absurd (omega arith); off_run_own = λ z. absurd (omega arith); held = λ _ z. absurd (omega arith); not_held = λ _. none; given_back = λ _. none; lent = λ _. none }

released_team : (c : Context) (x j y : ℕ) (v : View) → IsTeam (at_stage c 15 x) j v → IsTeam (giving c x) j (record v { released = y })
released_team c x j y v g =
    record { team_open = λ z. absurd (omega arith); departed_open = λ z. absurd (omega arith); team = g.team; unreleased = λ z. absurd (omega arith); idle_early = g.idle_early; idle_mid = g.idle_mid; idle_after = g.idle_after; unclaimed = g.unclaimed; claimed_so_far = λ z. absurd (omega arith); claimed = g.claimed }

released_own_peer : (c : Context) (x : ℕ) (v : View) (o : Option Cargo) → v.team ≡ 1 → IsPeer (at_stage c 15 x) x v → IsPeer (giving c x) x (given_back o v)
released_own_peer c x v o t g =
    record { station = g.station; walking = g.walking; knows = g.knows; gone = g.gone; listed = g.listed; released_so_far = λ _ _. sym t; released_no_more = λ _ z. absurd (omega arith); released = λ z. absurd (omega arith); told = g.told; answered = λ z. absurd (omega arith); ended = λ z. absurd (omega arith) }

released_peer : (c : Context) (x j : ℕ) (v : View) → j ≢ x → IsPeer (at_stage c 15 x) j v → IsPeer (giving c x) j v
released_peer c x j v n g =
    record { station = g.station; walking = g.walking; knows = g.knows; gone = g.gone; listed = g.listed; released_so_far = λ _ z. g.released_so_far refl (omega arith); released_no_more = λ _ z. g.released_no_more refl (omega arith); released = λ z. absurd (omega arith); told = g.told; answered = λ z. absurd (omega arith); ended = λ z. absurd (omega arith) }

released_run : (c : Context) (x j r : ℕ) (v : View) → IsRunOf (at_stage c 15 x) j v r → IsRunOf (giving c x) j v r
released_run c x j r v h = record { upto = h.upto; lent = h.lent; so_far = λ z. absurd (omega arith); no_more = λ z. absurd (omega arith); late = λ z. absurd (omega arith) }

released_own_run : (c : Context) (x r : ℕ) (v : View) (o : Option Cargo) → v.work ≡ 0 → v.released ≡ 0 → IsRunOf (at_stage c 15 x) x v r → IsRunOf (giving c x) x (given_back o v) (r + 1)
released_own_run c x r v o wk un h =
    let u = h.upto (omega arith) (λ y. absurd (omega arith)) in
    record { upto = λ _ _. omega arith; lent = λ z. absurd (omega arith); so_far = λ z. absurd (omega arith); no_more = λ z. absurd (omega arith); late = λ z. absurd (omega arith) }

released_totals : (c : Context) (x counter run a b e : ℕ) → IsTotals (at_stage c 15 x) counter run a b e → IsTotals (giving c x) counter run a b e
released_totals c x counter run a b e h =
    record { counted = h.counted; counter_locked = h.counter_locked; peers = h.peers; run_open = h.run_open; run_reports = λ z. absurd (omega arith); run_reported = h.run_reported; run_answers = λ z. absurd (omega arith); run_answered = h.run_answered; run_ends = λ z. absurd (omega arith); run_ended = h.run_ended }

totals_as : (c : Context) (counter run a b e run' a' b' e' : ℕ) → run' ≡ run → a' ≡ a → b' ≡ b → e' ≡ e → IsTotals c counter run a b e → IsTotals c counter run' a' b' e'
totals_as c counter run a b e run' a' b' e' u x y z h = rw (u, x, y, z) h

-- the world and the machine after it
abbrev releasing : Scene → ℕ → Option Cargo → Scene
releasing s j o = record s { words = record s.words { run = slice_set s.words.run j (get_or s.words.run j 0 + 1) }; lying = record s.lying { run = slice_set s.lying.run j o } }

abbrev freed : Machine → ℕ → Machine
freed m j = with_member j (record (member m j) { is_released = true }) m

released_ready : (d : SetupData) (c : Context) (s : Scene) (m : Machine) (j : ℕ) (o : Option Cargo) → IsReady d (at_stage c 15 j) s m → j < d.processors → j ≢ c.bsp
    → o ≡ Some (cargo.Desk (desk_at (member m j).image None)) → (view s m j).team ≡ 1 → (view s m j).released ≡ 0 → out_of (view s m j).station ≡ 1
    → IsReady d (giving c j) (releasing s j o) (freed m j)
released_ready d c s m j o g l n e team un out =
    let k : Context = at_stage c 15 j in
    let c' : Context = giving c j in
    let r : ℕ = get_or s.words.run j 0 in
    let x : Member = record (member m j) { is_released = true } in
    let s' : Scene = releasing s j o in
    let m' : Machine = freed m j in
    let z = g.sized in
    let N : ℕ = d.processors in
    let lh : j < length c.held = rw (z.held (omega arith)) l in
    let lm : j < length m.members = rw z.members l in
    let V : ℕ → View = view s m in
    let V' : ℕ → View = view s' m' in
    let new : V' j ≡ given_back o (V j) = rw (get_or-set_same s.lying.run j o None (rw z.on_run l), get_or-set_same m.members j x nobody lm) refl in
    let other : (y : ℕ) → y ≢ j → V' y ≡ V y = (λ y t. rw (get_or-set_other s.lying.run j y o None t, get_or-set_other m.members j y x nobody t) refl) in
    let back : (F : View → ℕ) → F (given_back o (V j)) ≡ F (V j) → (y : ℕ) → F (V' y) ≡ F (V y) =
    (λ F t y. ⊎_elim (λ (u : y ≡ j). subst (λ (b : ℕ). F (V' b) ≡ F (V b)) (sym u) (ap F new ∙ t)) (λ (u : y ≢ j). ap F (other y u)) (cases_eq y j)) in
    let bsp_run : get_or (slice_set s.words.run j (r + 1)) c.bsp 0 ≡ get_or s.words.run c.bsp 0 = get_or-set_other s.words.run j c.bsp (r + 1) 0 (λ t. n (sym t)) in
    let none : desk_kept c' j ≡ None = kept_is c' j n ∙ get_or-set_same c.held j None None lh in
    let mode = mode_le d in
    record {
      platform = g.platform;
      sized = record { seats = z.seats; pend = z.pend; present = z.present; run = length-set s.words.run j (r + 1) ∙ z.run; busy = z.busy; on_present = z.on_present; on_run = length-set s.lying.run j o ∙ z.on_run; on_busy = z.on_busy; members = length-set m.members j x ∙ z.members; held = λ y. length-set c.held j None ∙ z.held (omega arith) };
      words = let t = words_at d c 15 j 15 (j + 1) (globe s m) (omega arith) (omega arith) (omega arith) (λ _. omega arith) g.words in record { some_bsp = t.some_bsp; no_bsp = t.no_bsp; bsp_before = t.bsp_before; bsp_taken = t.bsp_taken; bsp_free = t.bsp_free; leads = t.leads; inside_before = t.inside_before; inside = t.inside; inside_after = t.inside_after; insync_before = t.insync_before; insync = t.insync; insync_after = t.insync_after; chair_before = t.chair_before; chair = t.chair; chair_after = t.chair_after; source = t.source; except = t.except; no_session = t.no_session; session = t.session };
      session = let t = session_at (mode_of d) c 15 j 15 (j + 1) (omega arith) (omega arith) (λ _. omega arith) g.session in record { bsp = t.bsp; unserved = t.unserved; served = t.served; ungathered = t.ungathered; gathered = t.gathered; unready = t.unready; fresh = t.fresh; expired = t.expired; waited = t.waited; unclosed = t.unclosed; closed = t.closed; unbegun = t.unbegun; undone = t.undone; done = t.done };
      course = let t = course_late d c 15 j 15 (j + 1) m.registrations m.pool (omega arith) (omega arith) g.course in record { setup = t.setup; size = t.size; registered = t.registered; pooled = t.pooled; me = t.me; led = t.led; listed = t.listed; over = t.over };
      chipset = g.chipset;
      totals = totals_as c' s.words.counter (get_or s.words.run c.bsp 0) (members_in N V) (team_in N V) (raised_in N V) (get_or (slice_set s.words.run j (r + 1)) c.bsp 0) (members_in N V') (team_in N V') (raised_in N V') bsp_run
          (sum_below-same N (λ y. member_of (V' y).station) (λ y. member_of (V y).station) (λ y u. back (λ (v : View). member_of v.station) refl y))
          (sum_below-same N (λ y. (V' y).team) (λ y. (V y).team) (λ y u. back (λ (v : View). v.team) refl y))
          (sum_below-same N (λ y. made (V' y).departed (V' y).station) (λ y. made (V y).departed (V y).station) (λ y u. back (λ (v : View). made v.departed v.station) refl y))
          (released_totals c j s.words.counter (get_or s.words.run c.bsp 0) _ _ _ g.totals);
      each = λ y ly.
          ⊎_elim
          (λ (t : y ≡ j). subst (λ (b : ℕ). IsCpu d c' m.waves b (V' b)) (sym t) (subst (λ (v : View). IsCpu d c' m.waves j v) (sym new)
          (let u = g.each j l in
          record {
            self = released_self d m.waves (desk_kept k j) (desk_kept c' j) o (V j) e none (u.team.idle_after (omega arith)) out u.self;
            team = let b = released_team c j j 1 (V j) u.team in record { team_open = b.team_open; departed_open = b.departed_open; team = b.team; unreleased = b.unreleased; idle_early = b.idle_early; idle_mid = b.idle_mid; idle_after = b.idle_after; unclaimed = b.unclaimed; claimed_so_far = b.claimed_so_far; claimed = b.claimed };
            leader = λ b. absurd (n b);
            peer = λ b. released_own_peer c j (V j) o team (u.peer n);
          })))
          (λ (t : y ≢ j). subst (λ (v : View). IsCpu d c' m.waves y v) (sym (other y t))
          (let u = g.each y ly in
          record {
            self = rw (get_or-set_other c.held j y None None t) u.self;
            team = released_team c j y (V y).released (V y) u.team;
            leader = u.leader;
            peer = λ b. released_peer c j y (V y) t (u.peer b);
          }))
          (cases_eq y j);
      runs = λ y ly b.
          ⊎_elim
          (λ (t : y ≡ j). subst (λ (i : ℕ). IsRunOf c' i (V' i) (get_or (slice_set s.words.run j (r + 1)) i 0)) (sym t) (subst (λ (v : View). IsRunOf c' j v (get_or (slice_set s.words.run j (r + 1)) j 0)) (sym new)
          (rw (get_or-set_same s.words.run j (r + 1) 0 (rw z.run l)) (released_own_run c j r (V j) o ((g.each j l).team.idle_after (omega arith)) un (g.runs j l n)))))
          (λ (t : y ≢ j). subst (λ (v : View). IsRunOf c' y v (get_or (slice_set s.words.run j (r + 1)) y 0)) (sym (other y t))
          (rw (get_or-set_other s.words.run j y (r + 1) 0 t) (released_run c j y (get_or s.words.run y 0) (V y) (g.runs y ly b))))
          (cases_eq y j);
      jobs = λ y ly b. resting_job d k c' y (member m' y).job (λ u. absurd (omega arith)) (jobs_more d k m j x lm refl g.jobs y ly b);
      idle = λ y ly b. idle_same d k c' y (seat s y) refl (g.idle y ly b);
      signals = signals_more d m j x s.words.pend lm (omega arith) g.signals;
      busies = busies_more d m j x s lm (λ y. record { lies = y.lies; finished = y.finished; ran = y.ran }) g.busies;
    }

release_at : (d : SetupData) (c : Context) (s : Scene) (m : Machine) (t : Seat) (j : ℕ) → t.position ≡ LeadingAt (Releasing j) → Holds d (at_stage c 15 j) s m → seat s c.bsp ≡ t
    → IsLead d (at_stage c 15 j) m.registrations m.pool (Releasing j) t → KeptAt d s m c.bsp t (LeadingAt (Releasing j))
release_at d c s m t j q f e h =
    let g = f.ready in
    let k : Context = at_stage c 15 j in
    let a = f.aim.releases refl in
    let v : View = view s m j in
    let r : ℕ = get_or s.words.run j 0 in
    let own = g.each j a.0 in
    let peer = own.peer a.1 in
    let team : v.team ≡ 1 = listed_team c j 15 j v (omega arith) (omega arith) a.2 peer in
    let un : v.released ≡ 0 = peer.released_no_more refl (omega arith) in
    let idle : v.work ≡ 0 = own.team.idle_after (omega arith) in
    let there = has_reported k j r v (omega arith) (omega arith) idle un (omega arith) own.self.team_bit own.team peer (g.runs j a.0 a.1) in
    let desk : get_or t.held j None ≡ Some (desk_at (member m j).image None) =
    ap (λ (xs : List (Option Desk)). get_or xs j None) h.held ∙ (desk_of_team d k m.waves j r v (omega arith) (omega arith) idle un (omega arith) a.1 own (g.runs j a.0 a.1)).1 in
    let o : Option Cargo = Some (cargo.Desk (desk_at (member m j).image None)) in
    let c2 : Context = record c { held = slice_set c.held j None } in
    let u : Seat = record t { held = slice_set t.held j None } in
    let few : j ≢ d.processors = (λ y. let b = a.0 in absurd (omega arith)) in
    let low_word : r ≢ locked = (λ y. let b = there.3 in absurd (omega arith)) in
    let sv : seat_view Leading c.bsp u ≡ seat_view Leading c.bsp t = rw (get_or-set_other t.held j c.bsp None None (λ y. a.1 (sym y))) refl in
    let after = released_ready d c s m j o g a.0 a.1 refl team un there.1 in
    simp (ne_eqb j d.processors few, desk, ne_eqb r locked low_word) (
      refl,
      (bsp_says d k s m (λ y. y.is_done ≡ true) g (omega arith) (g.session.done (omega arith)), a.1, bit_true (member m j).in_closed_set team, bit_false (member m j).is_released un),
      exits_to d c2 (releasing s j o) (freed m j) t u (LeadingAt (Releasing j)) (to_releases (place_at d c2 t.listed (row.Release j)) (j + 1))
          (enter_releases d c2 (releasing s j o) (freed m j) t.listed (row.Release j) (j + 1) after h.listed (omega (arith, a.0))) e (ap station_of q) sv
          (record { wave = h.wave; blocked = h.blocked; listed = h.listed; held = ap (λ (xs : List (Option Desk)). slice_set xs j None) h.held; chair = h.chair (omega arith) }),
    )

pub release : (d : SetupData) (c : Context) (i : ℕ) (s : Scene) (m : Machine) (t : Seat) (j : ℕ) → Holds d c s m → i < d.processors → seat s i ≡ t
    → t.position ≡ LeadingAt (Releasing j) → KeptAt d s m i t (LeadingAt (Releasing j))
release d c i s m t j f l e q = lead_kept d c i s m t (Releasing j) f l e q (release_at d c s m t j q)

-- The steps of a BSP that lets the others go: it says that serving is done, releases each and waits for their answers, dismisses each and
-- waits until they have left, and gives the chair back.
use Rattle.std.proofs.Common.{ℕ, zero, suc, ◌+◌, ◌-◌, ◌*◌, ◌≡◌, ◌≢◌, ◌<◌, ◌≤◌, arith, Bool, true, false, List, [], ◌∷◌, get_or, slice_set, Option, Some, None, refl, ap, ⊎_elim, ◌∙◌}
use Rattle.std.specs.Prelude.{is_some, map, option_map}
use Rattle.std.proofs.lemmas.Bool.{cases_eq, ne_eqb, eq-eqb}
use Rattle.std.proofs.lemmas.List.FromFn.{get_or-map-range_with_len}
use Rattle.cpu_table.specs.Data.{SetupData}
use Rattle.sync_words.specs.declared.row.Row.TheVariants as row
use Rattle.exit_handshake.specs.Exit.{to_released, to_dismissed, to_dismissals, to_releases}
use Rattle.handler_ops.specs.declared.desk.Desk.{Desk}
use Rattle.handler_ops.specs.Course.{is_held}
use Rattle.cpu_program.specs.Processors.{desks_held}
use Rattle.rendezvous_machine.specs.Machines.{Machine, Session, member}
use Rattle.rendezvous_machine.specs.Listed.{IsServed}
use Rattle.rendezvous_machine.specs.Effects.{with_session, made_done}
use Rattle.schedule_laws.proofs.Scenes.{Scene, Seat, Lead, LeavingInside, AwaitingReleased, AwaitingDismissed, Leading as LeadingAt, seat}
use Rattle.schedule_laws.proofs.Stations.{station_of, bit, made, made_twice, made_thrice, low}
use Rattle.schedule_laws.proofs.Invariant.{Context, View, Globe, IsTeam, IsPeer, IsRunOf, IsTotals, IsWords, IsSession, IsReady, IsLead, Holds, KeptAt, globe, mode_of, view, members_in, team_in, raised_in}
use Rattle.schedule_laws.proofs.Frames.{stays, mode_le}
use Rattle.schedule_laws.proofs.LeadFrames.{at_stage, IsHolding, lead_kept}
use Rattle.schedule_laws.proofs.SessionFrames.{bsp_says, session_map, reframe, resting_job, idle_same, no_aim}
use Rattle.schedule_laws.proofs.ClosedFrames.{words_at, course_late, lowered, round_over, all_reported, all_collected, listed_is}
use Rattle.schedule_laws.proofs.ClosedStages.{answer_came, answer_came_run, answer_came_totals, answers_came, answers_came_run, answers_came_totals, departure_came, departure_came_run, departure_came_totals, departures_came, departures_came_run, departures_came_totals}
use Rattle.schedule_laws.proofs.Served.{is_served}
use Rattle.schedule_laws.proofs.Loops.{if_zero, if_some}
use Rattle.schedule_laws.proofs.ExitWays.{Entered, ToAwaitReleased, ToAwaitDismissed, place_at, exits_to, exits_first, give_at, enter_dismissals, enter_releases}

-- what the seat keeps, at a position of the way out
holding : (d : SetupData) (c : Context) (k x : ℕ) (m : Machine) (lead : Lead) (t : Seat) → k ≤ 19 → t.held ≡ c.held → IsLead d (at_stage c k x) m.registrations m.pool lead t
    → IsHolding c LeavingInside t
holding d c k x m lead t a e h = record { wave = h.wave; blocked = h.blocked; listed = h.listed; held = e; chair = h.chair a }

-- SERVING IS DONE

done_words : (d : SetupData) (c : Context) (g : Globe) (listed : List Bool) (x : Session) (o : Option Session) → o ≡ Some x → IsWords d (at_stage c 14 0) g
    → IsWords d (record (at_stage c 15 0) { listed = listed; session = x }) (record g { inside = 0; session = o })
done_words d c g listed x o e h =
    record {
      some_bsp = λ _. h.some_bsp (omega arith);
      no_bsp = λ z. absurd (omega arith);
      bsp_before = λ z. absurd (omega arith);
      bsp_taken = λ _ _. h.bsp_taken (omega arith) (omega arith);
      bsp_free = λ z. absurd (omega arith);
      leads = λ _. h.leads (omega arith);
      inside_before = λ z. absurd (omega arith);
      inside = λ _ z. absurd (omega arith);
      inside_after = λ _. refl;
      insync_before = λ z. absurd (omega arith);
      insync = λ _ _. h.insync (omega arith) (omega arith);
      insync_after = λ z. absurd (omega arith);
      chair_before = λ z. absurd (omega arith);
      chair = λ _ _. h.chair (omega arith) (omega arith);
      chair_after = λ z. absurd (omega arith);
      source = h.source;
      except = h.except;
      no_session = λ z. absurd (omega arith);
      session = λ _. e;
    }

done_session : (d : SetupData) (c : Context) (listed : List Bool) → IsSession (mode_of d) (at_stage c 14 0)
    → IsSession (mode_of d) (record (at_stage c 15 0) { listed = listed; session = made_done c.session })
done_session d c listed h =
    record {
      bsp = λ _. h.bsp (omega arith);
      unserved = λ z. absurd (omega arith);
      served = λ _. h.served (omega arith);
      ungathered = λ z. absurd (omega arith);
      gathered = λ y _. h.gathered y (omega arith);
      unready = λ z. absurd (omega arith);
      fresh = λ z. absurd (omega arith);
      expired = λ _ _ z. absurd (omega arith);
      waited = λ y _. h.waited y (omega arith);
      unclosed = λ z. absurd (omega arith);
      closed = λ _. h.closed (omega arith);
      unbegun = λ z. absurd (omega arith);
      undone = λ z. absurd (omega arith);
      done = λ _. refl;
    }

done_team : (c : Context) (listed : List Bool) (x : Session) (j : ℕ) (v : View) → IsTeam (at_stage c 14 0) j v → IsTeam (record (at_stage c 15 0) { listed = listed; session = x }) j v
done_team c listed x j v h =
    record {
      team_open = λ z. absurd (omega arith);
      departed_open = λ z. absurd (omega arith);
      team = λ _. h.team (omega arith);
      unreleased = λ z. absurd (omega arith);
      idle_early = λ z. absurd (omega arith);
      idle_mid = λ _ z. absurd (omega arith);
      idle_after = λ _. h.idle_after (omega arith);
      unclaimed = λ z. absurd (omega arith);
      claimed_so_far = λ z. absurd (omega arith);
      claimed = λ _. h.claimed (omega arith);
    }

done_peer : (c : Context) (listed : List Bool) (x : Session) (j : ℕ) (v : View) → bit (get_or listed j false) ≡ v.team → IsTeam (at_stage c 14 0) j v → IsPeer (at_stage c 14 0) j v
    → IsPeer (record (at_stage c 15 0) { listed = listed; session = x }) j v
done_peer c listed x j v e h g =
    record {
      station = g.station;
      walking = λ _. omega arith;
      knows = g.knows;
      gone = g.gone;
      listed = λ _ _. e;
      released_so_far = λ _ z. absurd (omega arith);
      released_no_more = λ _ _. h.unreleased (omega arith);
      released = λ z. absurd (omega arith);
      told = λ _. g.told (omega arith);
      answered = λ z. absurd (omega arith);
      ended = λ z. absurd (omega arith);
    }

done_run : (c : Context) (listed : List Bool) (x : Session) (j r : ℕ) (v : View) → IsRunOf (at_stage c 14 0) j v r → IsRunOf (record (at_stage c 15 0) { listed = listed; session = x }) j v r
done_run c listed x j r v h =
    record { upto = λ _ y. h.upto (omega arith) y; lent = h.lent; so_far = λ z. absurd (omega arith); no_more = λ z. absurd (omega arith); late = λ z. absurd (omega arith) }

done_totals : (c : Context) (listed : List Bool) (x : Session) (counter run a b e : ℕ) → IsTotals (at_stage c 14 0) counter run a b e
    → IsTotals (record (at_stage c 15 0) { listed = listed; session = x }) counter run a b e
done_totals c listed x counter run a b e h =
    record {
      counted = λ z. absurd (omega arith);
      counter_locked = λ _. h.counter_locked (omega arith);
      peers = λ _. h.peers (omega arith);
      run_open = λ _ z. absurd (omega arith);
      run_reports = λ z. absurd (omega arith);
      run_reported = λ _ _. h.run_reported (omega arith) (omega arith);
      run_answers = λ z. absurd (omega arith);
      run_answered = λ z. absurd (omega arith);
      run_ends = λ z. absurd (omega arith);
      run_ended = λ z. absurd (omega arith);
    }

-- the desks that are held, by a place of the list
pub desks_at : (held : List (Option Desk)) (j : ℕ) → j < 64 → get_or (desks_held held) j false ≡ is_some (get_or held j None)
unfolding desks_held
desks_at held j l = get_or-map-range_with_len (is_held held) 0 64 j j false l (omega arith) ∙ held_at_place held j
  where
    held_at_place : (xs : List (Option Desk)) (i : ℕ) → get_or (map is_some xs) i false ≡ is_some (get_or xs i None)
    held_at_place [] i = refl
    held_at_place (x ∷ xs) zero = refl
    held_at_place (x ∷ xs) (suc i) = held_at_place xs i

done_ready : (d : SetupData) (c : Context) (s : Scene) (m : Machine) (listed : List Bool) → ((j : ℕ) → j < 64 → get_or listed j false ≡ is_some (get_or c.held j None)) → IsReady d (at_stage c 14 0) s m
    → IsReady d (record (at_stage c 15 0) { listed = listed; session = made_done c.session }) (record s { words = record s.words { inside = 0 } }) (with_session made_done m)
done_ready d c s m listed is g =
    let k : Context = at_stage c 14 0 in
    let x : Session = made_done c.session in
    let c' : Context = record (at_stage c 15 0) { listed = listed; session = x } in
    let m' : Machine = with_session made_done m in
    let s' : Scene = record s { words = record s.words { inside = 0 } } in
    let z = g.sized in
    let course = course_late d c 14 0 15 0 m.registrations m.pool (omega arith) (omega arith) g.course in
    let mode = mode_le d in
    let few = g.platform.few in
    reframe d k c' s s' m m' g refl refl g.chipset refl g.signals g.busies
    (record { seats = z.seats; pend = z.pend; present = z.present; run = z.run; busy = z.busy; on_present = z.on_present; on_run = z.on_run; on_busy = z.on_busy; members = z.members; held = λ _. z.held (omega arith) })
    (done_words d c (globe s m) listed x (option_map made_done m.session) (session_map m.session c.session made_done (g.words.session (omega arith))) g.words)
    (done_session d c listed g.session)
    (record { setup = course.setup; size = course.size; registered = course.registered; pooled = course.pooled; me = course.me; led = course.led; listed = course.listed; over = course.over })
    (done_totals c listed x s.words.counter (get_or s.words.run c.bsp 0) _ _ _ g.totals)
    (λ j l.
    let y = g.each j l in
    record {
      self = y.self;
      team = done_team c listed x j (view s m j) y.team;
      leader = y.leader;
      peer = λ q. done_peer c listed x j (view s m j)
          (ap bit (is j (omega arith)) ∙ listed_is d k m.waves j (get_or s.words.run j 0) (view s m j) (omega arith) (omega arith) (y.team.idle_after (omega arith)) (y.team.unreleased (omega arith)) q y (g.runs j l q))
          y.team (y.peer q);
    })
    (λ j l q. done_run c listed x j (get_or s.words.run j 0) (view s m j) (g.runs j l q))
    (λ j l q. resting_job d k c' j (member m j).job (λ y. absurd (omega arith)) (g.jobs j l q))
    (λ j l q. idle_same d k c' j (seat s j) refl (g.idle j l q))

leave_inside_at : (d : SetupData) (c : Context) (s : Scene) (m : Machine) (t : Seat) → t.position ≡ LeadingAt LeavingInside → Holds d (at_stage c 14 0) s m → seat s c.bsp ≡ t
    → IsLead d (at_stage c 14 0) m.registrations m.pool LeavingInside t → KeptAt d s m c.bsp t (LeadingAt LeavingInside)
leave_inside_at d c s m t q f e h =
    let g = f.ready in
    let k : Context = at_stage c 14 0 in
    let listed : List Bool = desks_held t.held in
    let c' : Context = record c { listed = listed; session = made_done c.session } in
    let mode = mode_le d in
    let idle : (j : ℕ) → j < d.processors → (view s m j).work ≡ 0 = (λ j l. (g.each j l).team.idle_after (omega arith)) in
    let after = done_ready d c s m listed (λ j l. desks_at t.held j l ∙ ap (λ (xs : List (Option Desk)). is_some (get_or xs j None)) h.held) g in (
      refl,
      (
        bsp_says d k s m (λ x. (x.is_done ≡ false) × IsServed d m x × (x.is_closed ≡ true)) g (omega arith) (g.session.undone (omega arith), is_served d k s m g (omega arith) (omega arith), g.session.closed (omega arith)),
        all_reported d k s m g (omega arith) (omega arith) idle,
        all_collected d k s m g idle,
      ),
      exits_first d c' (record s { words = record s.words { inside = 0 } }) (with_session made_done m) t (record t { listed = listed }) (LeadingAt LeavingInside) (to_releases (place_at d c' listed row.AwaitSessionEnd) 0)
          (enter_releases d c' (record s { words = record s.words { inside = 0 } }) (with_session made_done m) listed row.AwaitSessionEnd 0 after refl (omega arith)) e (ap station_of q) refl
          (record { wave = h.wave; blocked = h.blocked; listed = refl; held = h.held; chair = h.chair (omega arith) }),
    )

pub leave_inside : (d : SetupData) (c : Context) (i : ℕ) (s : Scene) (m : Machine) (t : Seat) → Holds d c s m → i < d.processors → seat s i ≡ t
    → t.position ≡ LeadingAt LeavingInside → KeptAt d s m i t (LeadingAt LeavingInside)
leave_inside d c i s m t f l e q = lead_kept d c i s m t LeavingInside f l e q (leave_inside_at d c s m t q)

-- WAITING FOR THE ANSWERS

low_16 : (c : Context) (x j r : ℕ) (v : View) → v.work ≡ 0 → v.released ≤ 1 → IsRunOf (at_stage c 16 x) j v r → low v.departed v.station ≤ 1
low_16 c x j r v wk a k = let b = k.upto (omega arith) (λ y. absurd (omega arith)) in omega arith

sum_16 : (c : Context) (x counter run a b e : ℕ) → run ≢ 0 → x - 1 ≡ 0 → IsTotals (at_stage c 16 x) counter run a b e → 2 * b ≤ e + 2
sum_16 c x counter run a b e y z h = let u = h.run_answers refl in let k = h.peers (omega arith) in omega (arith, u.0, u.1, u.2)

answers_over : (d : SetupData) (c : Context) (s : Scene) (m : Machine) (left : ℕ) → IsReady d (at_stage c 16 left) s m → get_or s.words.run c.bsp 0 ≢ 0 → left - 1 ≡ 0 → (j : ℕ) → j < d.processors
    → j ≢ c.bsp → 2 * (view s m j).team ≤ made (view s m j).departed (view s m j).station
answers_over d c s m left g z y =
    round_over d (at_stage c 16 left) s m 2 g (omega arith)
    (λ x u t. made_twice (view s m x).departed (view s m x).station (low_16 c left x (get_or s.words.run x 0) (view s m x) ((g.each x u).team.idle_after (omega arith)) (g.each x u).self.released_bit (g.runs x u t)))
    (sum_16 c left s.words.counter (get_or s.words.run c.bsp 0) (members_in d.processors (view s m)) (team_in d.processors (view s m)) (raised_in d.processors (view s m)) z y g.totals)

-- the words `run` after the BSP has lowered its own
abbrev lower : Scene → ℕ → Scene
lower s b = record s { words = record s.words { run = slice_set s.words.run b (get_or s.words.run b 0 - 1) } }

answered : (d : SetupData) (c : Context) (s : Scene) (m : Machine) (listed : List Bool) (left : ℕ) → IsReady d (at_stage c 16 left) s m → listed ≡ c.listed → get_or s.words.run c.bsp 0 ≢ 0
    → Entered d c (lower s c.bsp) m (to_released (place_at d c listed (row.AwaitReleased left)) (left - 1))
answered d c s m listed left g e z =
    ⊎_elim
    (λ (y : left - 1 ≡ 0).
    let over = answers_over d c s m left g z y in
    if_zero (left - 1) y (to_dismissals (place_at d c listed (row.AwaitReleased left)) 0) (row.AwaitReleased (left - 1)) (Entered d c (lower s c.bsp) m)
    (enter_dismissals d c (lower s c.bsp) m listed (row.AwaitReleased left) 0
    (lowered d c 16 left 17 0 s m g (omega arith) (omega arith) (omega arith) (λ _. omega arith)
    (words_at d c 16 left 17 0 (globe s m) (omega arith) (omega arith) (omega arith) (λ _. omega arith) g.words)
    (course_late d c 16 left 17 0 m.registrations m.pool (omega arith) (omega arith) g.course)
    (answers_came_totals c left s.words.counter (get_or s.words.run c.bsp 0) _ _ _ z y g.totals)
    (λ j l t. answers_came d c m.waves left j (view s m j) (λ q. over j l q) t)
    (λ j l q t k. answers_came_run c left j (get_or s.words.run j 0) (view s m j) (over j l q) t.self.team_bit t.team (t.peer q) k))
    e (omega arith)))
    (λ (y : left - 1 ≢ 0).
    if_some (left - 1) y (to_dismissals (place_at d c listed (row.AwaitReleased left)) 0) (row.AwaitReleased (left - 1)) (Entered d c (lower s c.bsp) m)
    (record {
      way = ToAwaitReleased (left - 1);
      is_row = refl;
      reached = record {
        stage = 16;
        next = left - 1;
        ready = lowered d c 16 left 16 (left - 1) s m g (omega arith) (omega arith) (omega arith) (λ _. omega arith)
            (words_at d c 16 left 16 (left - 1) (globe s m) (omega arith) (omega arith) (omega arith) (λ _. omega arith) g.words)
            (course_late d c 16 left 16 (left - 1) m.registrations m.pool (omega arith) (omega arith) g.course)
            (answer_came_totals c left (left - 1) s.words.counter (get_or s.words.run c.bsp 0) _ _ _ z refl y g.totals)
            (λ j l t. answer_came d c m.waves left (left - 1) j (view s m j) t)
            (λ j l q t k. answer_came_run c left (left - 1) j (get_or s.words.run j 0) (view s m j) t.self.team_bit t.team (t.peer q) k);
        aim = no_aim d c 16 (left - 1) (omega arith) (omega arith) (omega arith) (omega arith) (omega arith) (λ _. omega arith);
        is_stage = refl;
        is_next = refl;
        traditional = λ u. absurd (omega arith);
        begins = λ u. absurd (omega arith);
        serves = λ u. absurd (omega arith);
        collects = λ u. absurd (omega arith);
        early = λ u. absurd (omega arith);
      };
    }))
    (cases_eq (left - 1) 0)

await_released_at : (d : SetupData) (c : Context) (s : Scene) (m : Machine) (t : Seat) (left : ℕ) → t.position ≡ LeadingAt (AwaitingReleased left) → Holds d (at_stage c 16 left) s m → seat s c.bsp ≡ t
    → IsLead d (at_stage c 16 left) m.registrations m.pool (AwaitingReleased left) t → KeptAt d s m c.bsp t (LeadingAt (AwaitingReleased left))
await_released_at d c s m t left q f e h =
    ⊎_elim
    (λ (z : get_or s.words.run c.bsp 0 ≡ 0). rw (eq-eqb (get_or s.words.run c.bsp 0) 0 z) (stays d (at_stage c 16 left) s m f))
    (λ (z : get_or s.words.run c.bsp 0 ≢ 0).
    rw (ne_eqb (get_or s.words.run c.bsp 0) 0 z) (
      refl,
      tt,
      exits_to d c (lower s c.bsp) m t t (LeadingAt (AwaitingReleased left)) (to_released (place_at d c t.listed (row.AwaitReleased left)) (left - 1)) (answered d c s m t.listed left f.ready h.listed z) e (ap station_of q) refl
          (holding d c 16 left m (AwaitingReleased left) t (omega arith) h.held h),
    ))
    (cases_eq (get_or s.words.run c.bsp 0) 0)

pub await_released : (d : SetupData) (c : Context) (i : ℕ) (s : Scene) (m : Machine) (t : Seat) (left : ℕ) → Holds d c s m → i < d.processors → seat s i ≡ t
    → t.position ≡ LeadingAt (AwaitingReleased left) → KeptAt d s m i t (LeadingAt (AwaitingReleased left))
await_released d c i s m t left f l e q = lead_kept d c i s m t (AwaitingReleased left) f l e q (await_released_at d c s m t left q)

-- WAITING FOR THE DEPARTURES

sum_18 : (c : Context) (x counter run a b e : ℕ) → run ≢ 0 → x - 1 ≡ 0 → IsTotals (at_stage c 18 x) counter run a b e → 3 * b ≤ e + 3
sum_18 c x counter run a b e y z h = let u = h.run_ends refl in let k = h.peers (omega arith) in omega (arith, u.0, u.1, u.2)

departures_over : (d : SetupData) (c : Context) (s : Scene) (m : Machine) (left : ℕ) → IsReady d (at_stage c 18 left) s m → get_or s.words.run c.bsp 0 ≢ 0 → left - 1 ≡ 0 → (j : ℕ) → j < d.processors
    → j ≢ c.bsp → 3 * (view s m j).team ≤ made (view s m j).departed (view s m j).station
departures_over d c s m left g z y =
    round_over d (at_stage c 18 left) s m 3 g (omega arith) (λ x u t. made_thrice (view s m x).departed (view s m x).station (((g.each x u).peer t).gone))
    (sum_18 c left s.words.counter (get_or s.words.run c.bsp 0) (members_in d.processors (view s m)) (team_in d.processors (view s m)) (raised_in d.processors (view s m)) z y g.totals)

departed : (d : SetupData) (c : Context) (s : Scene) (m : Machine) (listed : List Bool) (left : ℕ) → IsReady d (at_stage c 18 left) s m → get_or s.words.run c.bsp 0 ≢ 0
    → Entered d c (lower s c.bsp) m (to_dismissed (place_at d c listed (row.AwaitDismissed left)) (left - 1))
departed d c s m listed left g z =
    ⊎_elim
    (λ (y : left - 1 ≡ 0).
    let over = departures_over d c s m left g z y in
    rw (eq-eqb (left - 1) 0 y)
    (give_at d c (lower s c.bsp) m d.policy refl
    (lowered d c 18 left 19 0 s m g (omega arith) (omega arith) (omega arith) (λ _. omega arith)
    (words_at d c 18 left 19 0 (globe s m) (omega arith) (omega arith) (omega arith) (λ _. omega arith) g.words)
    (course_late d c 18 left 19 0 m.registrations m.pool (omega arith) (omega arith) g.course)
    (departures_came_totals c left s.words.counter (get_or s.words.run c.bsp 0) _ _ _ z y g.totals)
    (λ j l t. departures_came d c m.waves left j (view s m j) (λ q. over j l q) t)
    (λ j l q t k. departures_came_run c left j (get_or s.words.run j 0) (view s m j) (over j l q) t.self.team_bit t.team (t.peer q) k))))
    (λ (y : left - 1 ≢ 0).
    rw (ne_eqb (left - 1) 0 y)
    (record {
      way = ToAwaitDismissed (left - 1);
      is_row = refl;
      reached = record {
        stage = 18;
        next = left - 1;
        ready = lowered d c 18 left 18 (left - 1) s m g (omega arith) (omega arith) (omega arith) (λ _. omega arith)
            (words_at d c 18 left 18 (left - 1) (globe s m) (omega arith) (omega arith) (omega arith) (λ _. omega arith) g.words)
            (course_late d c 18 left 18 (left - 1) m.registrations m.pool (omega arith) (omega arith) g.course)
            (departure_came_totals c left (left - 1) s.words.counter (get_or s.words.run c.bsp 0) _ _ _ z refl y g.totals)
            (λ j l t. departure_came d c m.waves left (left - 1) j (view s m j) t)
            (λ j l q t k. departure_came_run c left (left - 1) j (get_or s.words.run j 0) (view s m j) t.self.team_bit t.team (t.peer q) k);
        aim = no_aim d c 18 (left - 1) (omega arith) (omega arith) (omega arith) (omega arith) (omega arith) (λ _. omega arith);
        is_stage = refl;
        is_next = refl;
        traditional = λ u. absurd (omega arith);
        begins = λ u. absurd (omega arith);
        serves = λ u. absurd (omega arith);
        collects = λ u. absurd (omega arith);
        early = λ u. absurd (omega arith);
      };
    }))
    (cases_eq (left - 1) 0)

await_dismissed_at : (d : SetupData) (c : Context) (s : Scene) (m : Machine) (t : Seat) (left : ℕ) → t.position ≡ LeadingAt (AwaitingDismissed left) → Holds d (at_stage c 18 left) s m → seat s c.bsp ≡ t
    → IsLead d (at_stage c 18 left) m.registrations m.pool (AwaitingDismissed left) t → KeptAt d s m c.bsp t (LeadingAt (AwaitingDismissed left))
await_dismissed_at d c s m t left q f e h =
    ⊎_elim
    (λ (z : get_or s.words.run c.bsp 0 ≡ 0). rw (eq-eqb (get_or s.words.run c.bsp 0) 0 z) (stays d (at_stage c 18 left) s m f))
    (λ (z : get_or s.words.run c.bsp 0 ≢ 0).
    rw (ne_eqb (get_or s.words.run c.bsp 0) 0 z) (
      refl,
      tt,
      exits_to d c (lower s c.bsp) m t t (LeadingAt (AwaitingDismissed left)) (to_dismissed (place_at d c t.listed (row.AwaitDismissed left)) (left - 1)) (departed d c s m t.listed left f.ready z) e (ap station_of q) refl
          (holding d c 18 left m (AwaitingDismissed left) t (omega arith) h.held h),
    ))
    (cases_eq (get_or s.words.run c.bsp 0) 0)

pub await_dismissed : (d : SetupData) (c : Context) (i : ℕ) (s : Scene) (m : Machine) (t : Seat) (left : ℕ) → Holds d c s m → i < d.processors → seat s i ≡ t
    → t.position ≡ LeadingAt (AwaitingDismissed left) → KeptAt d s m i t (LeadingAt (AwaitingDismissed left))
await_dismissed d c i s m t left f l e q = lead_kept d c i s m t (AwaitingDismissed left) f l e q (await_dismissed_at d c s m t left q)

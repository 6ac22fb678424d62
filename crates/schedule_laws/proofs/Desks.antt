-- The BSP of a closed session waits for the reports, and takes the desks that it lacks; then it serves, or ends the handlers' time.
use Rattle.std.proofs.Common.{ℕ, ◌+◌, ◌-◌, ◌*◌, ◌≡◌, ◌≢◌, ◌<◌, ◌≤◌, ◌⊎◌, inl, inr, arith, Bool, true, false, List, length, get_or, slice_set, Option, Some, None, refl, sym, subst, ap, ⊎_elim, ◌∙◌}
use Rattle.std.specs.Prelude.{is_some, not, ◌==◌, ◌&&◌, if◌then◌else◌}
use Rattle.std.proofs.lemmas.Bool.{cases_eq, ne_eqb, eq-eqb}
use Rattle.std.proofs.lemmas.List.{get_or-set_other, get_or-set_same, length-set}
use Rattle.cpu_table.specs.Data.{SetupData}
use Rattle.cpu_table.specs.declared.setup.Mode.{Mode}
use Rattle.cpu_table.specs.declared.setup.Mode.TheVariants.{Traditional, Relaxed}
use Rattle.sync_words.specs.Steps.{next_below, row_or}
use Rattle.sync_words.specs.declared.row.Row.{Row}
use Rattle.sync_words.specs.declared.row.Row.TheVariants as row
use Rattle.exit_handshake.specs.Close as close
use Rattle.exit_handshake.specs.Close.{ClosePosition, lacks, after_close}
use Rattle.handler_ops.specs.declared.desk.Desk.{Desk}
use Rattle.handler_ops.specs.Sessions.{Session as Chair}
use Rattle.cpu_program.specs.declared.cargo.Cargo.{Cargo}
use Rattle.cpu_program.specs.declared.cargo.Cargo.TheVariants as cargo
use Rattle.cpu_program.specs.Actors.{OfProcessor}
use Rattle.cpu_program.specs.Hands.{is_kind}
use Rattle.cpu_program.specs.Processors.{is_relaxed, left_to}
use Rattle.rendezvous_machine.specs.Machines.{Machine, member}
use Rattle.rendezvous_machine.specs.Effects.{made_closed}
use Rattle.rendezvous_machine.specs.Rules.{MayClose}
use Rattle.schedule_laws.proofs.Scenes.{Scene, Seat, Lead, LockingCounter, AwaitingReports, TakingDesk, BeginningToServe, LeavingInside, Leading as LeadingAt, seat, processor_at, actors_of, closing_at}
use Rattle.schedule_laws.proofs.Stations.{Leading, bit, here_of, made, made_once, member_of, station_of}
use Rattle.schedule_laws.proofs.Leads.{begins_at}
use Rattle.schedule_laws.proofs.Invariant.{Context, View, IsSelf, IsTeam, IsPeer, IsRunOf, IsTotals, IsCpu, IsCourse, IsReady, IsAim, IsLead, Holds, IsFine, KeptAt, desk_at, desk_kept, mode_of, globe, seat_view, view, team_in, raised_in, members_in}
use Rattle.schedule_laws.proofs.ImageKinds.{is_same_kind}
use Rattle.schedule_laws.proofs.Sums.{sum_below-same}
use Rattle.schedule_laws.proofs.Frames.{mode_le, stays}
use Rattle.schedule_laws.proofs.LeadFrames.{at_stage, Reached, lead_kept}
use Rattle.schedule_laws.proofs.SessionFrames.{bsp_says, no_aim, rechaired, resting_job, begun_chair, begun_course, starting_course, is_beginning, plain, turns}
use Rattle.schedule_laws.proofs.Locks.{closed_machine, lock_ready, locked_scene}
use Rattle.schedule_laws.proofs.Served.{is_served}
use Rattle.schedule_laws.proofs.Counts.{count_is}
use Rattle.schedule_laws.proofs.ClosedStages.{report_came, report_came_run, report_came_totals, reports_came, reports_came_run, reports_came_totals, desks_skipped, desks_skipped_run, desks_skipped_totals, desks_taken, desks_taken_run, desks_taken_totals, desks_taken_relaxed, desks_taken_relaxed_run, desks_taken_relaxed_totals}
use Rattle.schedule_laws.proofs.ClosedFrames.{words_at, course_at, advance, lowered, round_over, all_collected}
use Rattle.schedule_laws.proofs.Loops.{Found, found_next, other_true, other_false}

-- THE LOOP OVER THE DESKS

not_false : (b : Bool) → not b ≡ false → b ≡ true
not_false true h = refl
not_false false h = absurd cc

not_true : (b : Bool) → not b ≡ true → b ≡ false
not_true true h = absurd cc
not_true false h = refl

none_some : (o : Option Desk) → is_some o ≡ true → o ≡ None → ⊥
none_some None h e = absurd cc
none_some (Some x) h e = absurd cc

-- the list of the close has the desks that are held, from a processor on
abbrev pub ListsFrom : SetupData → Context → ℕ → Type 0
ListsFrom d c from = (j : ℕ) → j < d.processors → from ≤ j → get_or c.listed j false ≡ is_some (get_or c.held j None)

-- a processor whose desk is held, and the BSP, have nothing to be taken
passed_over : (d : SetupData) (c : Context) (waves j : ℕ) (v : View) → IsCpu d c waves j v → (j ≢ c.bsp → is_some (get_or c.held j None) ≡ true) → v.present ≢ 1
passed_over d c waves j v h held =
    ⊎_elim
    (λ (q : j ≡ c.bsp). λ y. let z = h.self.absent (ap here_of ((h.leader q).station)) in omega arith)
    (λ (q : j ≢ c.bsp). λ y.
    let none : desk_kept c j ≡ None = h.self.not_held (λ u. omega arith) in
    none_some (get_or c.held j None) (held q) (rw (ne_eqb j c.bsp q) at none))
    (cases_eq j c.bsp)

-- the position of the close, with its list
abbrev closing : SetupData → Context → ClosePosition
closing d c = record { processors = d.processors; me = c.bsp; held = c.listed; relaxed = is_relaxed d.mode; row = row.MarkInsync }

desks_ready : (d : SetupData) (c : Context) (s : Scene) (m : Machine) (from k : ℕ) → IsReady d (at_stage c 11 from) s m → from ≤ k → ListsFrom d c from
    → ((j : ℕ) → from ≤ j → j < k → lacks (closing d c) j ≡ false) → IsReady d (at_stage c 11 k) s m
desks_ready d c s m from k g a lists none =
    let mode = mode_le d in
    let skip : (j : ℕ) → j < d.processors → IsCpu d (at_stage c 11 from) m.waves j (view s m j) → from ≤ j → j < k → (view s m j).present ≢ 1 =
    (λ j l h u v. passed_over d (at_stage c 11 from) m.waves j (view s m j) h (λ q. sym (lists j l u) ∙ not_false (get_or c.listed j false) (other_false j c.bsp (not (get_or c.listed j false)) (none j u v) q))) in
    advance d c 11 from 11 k s m g (omega arith) (omega arith) (λ z. omega arith) (λ z. absurd (omega arith)) (words_at d c 11 from 11 k (globe s m) (omega arith) (omega arith) (omega arith) (λ z. absurd (omega arith)) g.words)
    (course_at d c 11 from 11 k m.registrations m.pool (omega arith) (λ z. z) (λ z. z) (λ z. omega arith) g.course)
    (desks_skipped_totals c from k s.words.counter (get_or s.words.run c.bsp 0) _ _ _)
    (λ j l h. desks_skipped d c m.waves from k j (view s m j) a (skip j l h) h)
    (λ j l q h r. desks_skipped_run c from k j (get_or s.words.run j 0) (view s m j) a (skip j l h) h.self.team_bit h.team (h.peer q) r)

-- what the seat of the BSP keeps in the close
record IsKept (c : Context) (t : Seat) : Type 0 where
  wave : t.wave ≡ c.wave
  blocked : t.blocked ≡ c.blocked
  listed : t.listed ≡ c.listed
  held : t.held ≡ c.held
  chair : t.chair ≡ Some c.chair

-- no desk is left to take: the traditional mode serves, the relaxed one has served
desks_over : (d : SetupData) (c : Context) (s : Scene) (m : Machine) (t0 t : Seat) (at : Lead) (b : Bool) → is_relaxed d.mode ≡ b → IsReady d (at_stage c 11 d.processors) s m
    → seat s c.bsp ≡ t0 → station_of t0.position ≡ Leading → seat_view Leading c.bsp t ≡ seat_view Leading c.bsp t0 → IsKept c t
    → IsFine d (record { words = s.words; lying = s.lying; actors = slice_set (actors_of d s) c.bsp (OfProcessor (left_to (close.left_of (after_close b)) (record (processor_at d c.bsp (LeadingAt at) t) { part = closing_at d c.bsp (after_close b) t.listed }))) }) m
desks_over d c s m t0 t at true is g e st sv k =
    let one : mode_of d ≡ 1 = ap bit is in
    let n : ℕ = d.processors in
    let late : (j : ℕ) → j < n → n ≤ j → (view s m j).present ≢ 1 = (λ j l y. absurd (omega arith)) in
    let idle : (j : ℕ) → IsCpu d (at_stage c 11 n) m.waves j (view s m j) → (view s m j).work ≡ 0 = (λ j h. h.team.idle_mid (omega arith) (omega arith)) in
    let ready : IsReady d (at_stage c 14 0) s m =
    advance d c 11 n 14 0 s m g (omega arith) (omega arith) (λ z. omega arith) (λ z. absurd (omega arith)) (words_at d c 11 n 14 0 (globe s m) (omega arith) (omega arith) (omega arith) (λ z. absurd (omega arith)) g.words)
    (course_at d c 11 n 14 0 m.registrations m.pool (omega arith) (λ z. omega arith) (λ z. omega arith) (λ z. omega arith) g.course)
    (desks_taken_relaxed_totals c n s.words.counter (get_or s.words.run c.bsp 0) _ _ _)
    (λ j l h. desks_taken_relaxed d c m.waves n j (view s m j) (late j l) (idle j h) h)
    (λ j l q h r. desks_taken_relaxed_run c n j (get_or s.words.run j 0) (view s m j) (late j l) (idle j h) h.self.team_bit h.team (h.peer q) r) in
    let r : Reached d c s m LeavingInside =
    plain d c s m LeavingInside 14 0 ready (no_aim d c 14 0 (λ z. omega arith) (λ z. omega arith) (λ z. omega arith) (λ z. omega arith) (λ z. omega arith) (λ z. omega arith)) refl refl (λ z. absurd (omega arith)) refl (λ z. absurd (omega arith)) in
    turns d c s s.words s.lying m t0 (record t { position = LeadingAt LeavingInside }) LeavingInside r e st refl sv
    (record { wave = k.wave; blocked = k.blocked; listed = k.listed; held = k.held; chair = k.chair })
desks_over d c s m t0 t at false is g e st sv k =
    let zero : mode_of d ≡ 0 = ap bit is in
    let n : ℕ = d.processors in
    let x : Chair = begun_chair c c.wave in
    let c1 : Context = record c { chair = x } in
    let wave : t.wave ≡ c.wave = k.wave in
    let held : t.held ≡ c.held = k.held in
    let chair : t.chair ≡ Some c.chair = k.chair in
    let course : IsCourse d (at_stage c1 11 n) m.registrations m.pool = begun_course d (at_stage c 11 n) c.wave m (omega arith) g.course in
    let begun : IsReady d (at_stage c1 11 n) s m =
    rechaired d (at_stage c 11 n) x s m (omega arith) (omega arith) g course
    (λ j l q. resting_job d (at_stage c 11 n) (at_stage c1 11 n) j (member m j).job (λ z. omega arith) (g.jobs j l q)) in
    let late : (j : ℕ) → j < n → n ≤ j → (view s m j).present ≢ 1 = (λ j l y. absurd (omega arith)) in
    let ready : IsReady d (at_stage c1 12 0) s m =
    advance d c1 11 n 12 0 s m begun (omega arith) (omega arith) (λ z. omega arith) (λ z. absurd (omega arith)) (words_at d c1 11 n 12 0 (globe s m) (omega arith) (omega arith) (omega arith) (λ z. absurd (omega arith)) begun.words)
    (starting_course d (at_stage c1 11 n) (at_stage c1 12 0) m refl (omega arith) (omega arith) refl course)
    (desks_taken_totals c1 n s.words.counter (get_or s.words.run c.bsp 0) _ _ _)
    (λ j l h. desks_taken d c1 m.waves n j (view s m j) (late j l) h)
    (λ j l q h r. desks_taken_run c1 n j (get_or s.words.run j 0) (view s m j) (late j l) h.self.team_bit h.team (h.peer q) r) in
    let r : Reached d c1 s m BeginningToServe = record {
      stage = 12;
      next = 0;
      ready = ready;
      aim = no_aim d c1 12 0 (λ z. omega arith) (λ z. omega arith) (λ z. omega arith) (λ z. omega arith) (λ z. omega arith) (λ z. omega arith);
      is_stage = ap begins_at is;
      is_next = refl;
      traditional = λ z. absurd (omega arith);
      begins = λ _. is_beginning d (at_stage c 11 n) (at_stage c1 12 0) c.wave m (omega arith) g.course;
      serves = λ z. absurd (omega arith);
      collects = λ z. absurd (omega arith);
      early = λ z. absurd (omega arith);
    } in
    let t' : Seat = record t { position = LeadingAt BeginningToServe; wave = c.wave; chair = Some x; held = c.held } in
    rw (chair, held, wave)
    (turns d c1 s s.words s.lying m t0 t' BeginningToServe r e st refl (ap (λ (y : List (Option Desk)). seat_view Leading c.bsp (record t { held = y })) (sym held) ∙ sv)
    (record { wave = refl; blocked = k.blocked; listed = k.listed; held = refl; chair = refl }))

-- the next desk, or what comes after them
desks_next : (d : SetupData) (c : Context) (s : Scene) (m : Machine) (t0 t : Seat) (at : Lead) (from : ℕ) (o : Option ℕ) → Found (lacks (closing d c)) from d.processors o
    → IsReady d (at_stage c 11 from) s m → from ≤ d.processors → ListsFrom d c from → seat s c.bsp ≡ t0 → station_of t0.position ≡ Leading → seat_view Leading c.bsp t ≡ seat_view Leading c.bsp t0 → IsKept c t
    → IsFine d (record { words = s.words; lying = s.lying; actors = slice_set (actors_of d s) c.bsp (OfProcessor (left_to (close.left_of (row_or row.TakeDesk (after_close (is_relaxed d.mode)) o)) (record (processor_at d c.bsp (LeadingAt at) t) { part = closing_at d c.bsp (row_or row.TakeDesk (after_close (is_relaxed d.mode)) o) t.listed }))) }) m
desks_next d c s m t0 t at from None found g a lists e st sv k =
    desks_over d c s m t0 t at (is_relaxed d.mode) refl (desks_ready d c s m from d.processors g a lists found) e st sv k
desks_next d c s m t0 t at from (Some j) found g a lists e st sv k =
    let own = other_true j c.bsp (not (get_or c.listed j false)) found.2 in
    let free : is_some (get_or c.held j None) ≡ false = sym (lists j found.1 found.0) ∙ not_true (get_or c.listed j false) own.1 in
    let ready : IsReady d (at_stage c 11 j) s m = desks_ready d c s m from j g found.0 lists found.3 in
    let aim : IsAim d (at_stage c 11 j) = record { signals = λ z. absurd (omega arith); takes = λ _. (found.1, own.0, free); releases = λ z. absurd (omega arith); dismisses = λ z. absurd (omega arith); gives = λ z. absurd (omega arith); closes = λ _ z. absurd (omega arith); closes_on = λ _ i l y. lists i l (let u = found.0 in omega arith) } in
    let r : Reached d c s m (TakingDesk j) = plain d c s m (TakingDesk j) 11 j ready aim refl refl (λ z. absurd (omega arith)) refl (λ z. absurd (omega arith)) in
    turns d c s s.words s.lying m t0 (record t { position = LeadingAt (TakingDesk j) }) (TakingDesk j) r e st refl sv
    (record { wave = k.wave; blocked = k.blocked; listed = k.listed; held = k.held; chair = k.chair })

-- THE COUNTER IS LOCKED

-- the test of the close is that of its list
tested : (d : SetupData) (c : Context) (r : Row) (listed : List Bool) (from : ℕ) → listed ≡ c.listed
    → Found (lacks (closing d c)) from d.processors (next_below d.processors (lacks (record (closing d c) { held = listed; row = r })) from)
tested d c r listed from e =
    subst (λ (l : List Bool). Found (lacks (closing d c)) from d.processors (next_below d.processors (lacks (record (closing d c) { held = l; row = r })) from)) (sym e)
    (found_next d.processors (lacks (closing d c)) from)

may_close : (d : SetupData) (c : Context) (s : Scene) (m : Machine) (mode : Mode) → d.mode ≡ mode → IsReady d (at_stage c 9 0) s m → MayClose d m mode c.session
may_close d c s m Traditional is g = g.session.waited (ap (λ (y : Mode). bit (is_relaxed y)) is) (omega arith)
may_close d c s m Relaxed is g =
    let one : mode_of d ≡ 1 = ap (λ (y : Mode). bit (is_relaxed y)) is in (
      is_served d (at_stage c 9 0) s m g (omega arith) (omega arith),
      all_collected d (at_stage c 9 0) s m g (λ j l. (g.each j l).team.idle_mid (omega arith) (omega arith)),
    )

lock_counter_at : (d : SetupData) (c : Context) (s : Scene) (m : Machine) (t : Seat) → t.position ≡ LeadingAt LockingCounter → Holds d (at_stage c 9 0) s m → seat s c.bsp ≡ t
    → IsLead d (at_stage c 9 0) m.registrations m.pool LockingCounter t → KeptAt d s m c.bsp t (LeadingAt LockingCounter)
lock_counter_at d c s m t q f e at =
    let g = f.ready in
    let left : ℕ = s.words.counter - 1 in
    let c2 : Context = record c { peers = left; session = made_closed c.session } in
    let s' : Scene = locked_scene s in
    let m' : Machine = closed_machine m in
    let st = ap station_of q in
    let keeps : IsKept c2 t = record { wave = at.wave; blocked = at.blocked; listed = at.listed; held = at.held; chair = at.chair (omega arith) } in
    let rule = bsp_says d (at_stage c 9 0) s m (λ x. (x.is_closed ≡ false) × MayClose d m d.mode x) g (omega arith) (g.session.unclosed (omega arith), may_close d c s m d.mode refl g) in
    let count = count_is d (at_stage c 9 0) s m g (omega arith) in
    ⊎_elim
    (λ (z : left ≡ 0).
    let ready : IsReady d (at_stage c2 11 0) s' m' = lock_ready d c 11 0 s m g (inr (refl, refl, z)) (omega arith) (omega arith) (inl refl) in
    simp (eq-eqb left 0 z) (
      refl,
      (rule, count),
      desks_next d c2 s' m' t t LockingCounter 0 (next_below d.processors (lacks (record (closing d c2) { held = t.listed; row = row.LockCounter })) 0) (tested d c2 row.LockCounter t.listed 0 at.listed) ready (omega arith)
          (λ j l _. f.aim.closes (omega arith) (omega arith) j l) e st refl keeps,
    ))
    (λ (z : left ≢ 0).
    let ready : IsReady d (at_stage c2 10 left) s' m' = lock_ready d c 10 left s m g (inl (refl, refl, omega arith)) (omega arith) (omega arith) (inr refl) in
    let aim : IsAim d (at_stage c2 10 left) = record { signals = λ y. absurd (omega arith); takes = λ y. absurd (omega arith); releases = λ y. absurd (omega arith); dismisses = λ y. absurd (omega arith); gives = λ y. absurd (omega arith); closes = λ _ _. f.aim.closes (omega arith) (omega arith); closes_on = λ y. absurd (omega arith) } in
    let r : Reached d c2 s' m' (AwaitingReports left) = plain d c2 s' m' (AwaitingReports left) 10 left ready aim refl refl (λ y. absurd (omega arith)) refl (λ y. absurd (omega arith)) in
    simp (ne_eqb left 0 z) (
      refl,
      (rule, count),
      turns d c2 s s'.words s.lying m' t (record t { position = LeadingAt (AwaitingReports left) }) (AwaitingReports left) r e st refl refl
          (record { wave = at.wave; blocked = at.blocked; listed = at.listed; held = at.held; chair = at.chair (omega arith) }),
    ))
    (cases_eq left 0)

pub lock_counter : (d : SetupData) (c : Context) (i : ℕ) (s : Scene) (m : Machine) (t : Seat) → Holds d c s m → i < d.processors → seat s i ≡ t
    → t.position ≡ LeadingAt LockingCounter → KeptAt d s m i t (LeadingAt LockingCounter)
lock_counter d c i s m t f l e q = lead_kept d c i s m t LockingCounter f l e q (λ k e' at. lock_counter_at d c s m t q k e' at)

-- IT WAITS FOR THE REPORTS

await_reports_at : (d : SetupData) (c : Context) (left : ℕ) (s : Scene) (m : Machine) (t : Seat) → t.position ≡ LeadingAt (AwaitingReports left) → Holds d (at_stage c 10 left) s m
    → seat s c.bsp ≡ t → IsLead d (at_stage c 10 left) m.registrations m.pool (AwaitingReports left) t → KeptAt d s m c.bsp t (LeadingAt (AwaitingReports left))
await_reports_at d c left s m t q f e at =
    let g = f.ready in
    let v : ℕ = get_or s.words.run c.bsp 0 in
    let n : ℕ = d.processors in
    let mode = mode_le d in
    let st = ap station_of q in
    let run : List ℕ = slice_set s.words.run c.bsp (v - 1) in
    let s' : Scene = record s { words = record s.words { run = run } } in
    let keeps : IsKept c t = record { wave = at.wave; blocked = at.blocked; listed = at.listed; held = at.held; chair = at.chair (omega arith) } in
    let sums = g.totals.run_reports refl in
    ⊎_elim
    (λ (z : v ≡ 0). rw (eq-eqb v 0 z) (stays d (at_stage c 10 left) s m f))
    (λ (z : v ≢ 0).
    ⊎_elim
    (λ (y : left - 1 ≡ 0).
    let last : left ≡ 1 = (let u = sums.0 in omega arith) in
    let raised = sums.2 in
    let peers = g.totals.peers (omega arith) in
    let le : (j : ℕ) → j < n → j ≢ c.bsp → made (view s m j).departed (view s m j).station ≤ 1 * (member_of (view s m j).station + (view s m j).departed) =
    (λ j l x.
    let h = g.each j l in
    let idle = h.team.idle_mid (omega arith) (omega arith) in
    let none = (g.runs j l x).upto (omega arith) (λ u. omega arith) in
    let un = h.team.unreleased (omega arith) in
    made_once (view s m j).departed (view s m j).station (omega arith)) in
    let told = round_over d (at_stage c 10 left) s m 1 g (omega arith) le (omega arith) in
    let ready : IsReady d (at_stage c 11 0) s' m =
    lowered d c 10 left 11 0 s m g (omega arith) (omega arith) (λ u. omega arith) (λ u. absurd (omega arith)) (words_at d c 10 left 11 0 (globe s m) (omega arith) (omega arith) (omega arith) (λ u. absurd (omega arith)) g.words)
    (course_at d c 10 left 11 0 m.registrations m.pool (omega arith) (λ u. omega arith) (λ u. omega arith) (λ u. omega arith) g.course)
    (reports_came_totals c left s.words.counter v _ _ _ z y g.totals)
    (λ j l h. reports_came d c m.waves left j (view s m j) (λ x. let u = told j l x in omega arith) h)
    (λ j l x h k. reports_came_run c left j (get_or s.words.run j 0) (view s m j) (let u = told j l x in omega arith) h.self.team_bit h.team (h.peer x) k) in
    simp (ne_eqb v 0 z, eq-eqb (left - 1) 0 y) (
      refl,
      tt,
      desks_next d c s' m t t (AwaitingReports left) 0 (next_below d.processors (lacks (record (closing d c) { held = t.listed; row = row.AwaitReports left })) 0) (tested d c (row.AwaitReports left) t.listed 0 at.listed) ready (omega arith)
          (λ j l _. f.aim.closes (omega arith) (omega arith) j l) e st refl keeps,
    ))
    (λ (y : left - 1 ≢ 0).
    let ready : IsReady d (at_stage c 10 (left - 1)) s' m =
    lowered d c 10 left 10 (left - 1) s m g (omega arith) (omega arith) (λ u. omega arith) (λ u. absurd (omega arith)) (words_at d c 10 left 10 (left - 1) (globe s m) (omega arith) (omega arith) (omega arith) (λ u. absurd (omega arith)) g.words)
    (course_at d c 10 left 10 (left - 1) m.registrations m.pool (omega arith) (λ u. u) (λ u. u) (λ u. omega arith) g.course)
    (report_came_totals c left (left - 1) s.words.counter v _ _ _ z refl y g.totals)
    (λ j l h. report_came d c m.waves left (left - 1) j (view s m j) h)
    (λ j l x h k. report_came_run c left (left - 1) j (get_or s.words.run j 0) (view s m j) h.self.team_bit h.team (h.peer x) k) in
    let aim : IsAim d (at_stage c 10 (left - 1)) = record { signals = λ u. absurd (omega arith); takes = λ u. absurd (omega arith); releases = λ u. absurd (omega arith); dismisses = λ u. absurd (omega arith); gives = λ u. absurd (omega arith); closes = λ _ _. f.aim.closes (omega arith) (omega arith); closes_on = λ u. absurd (omega arith) } in
    let r : Reached d c s' m (AwaitingReports (left - 1)) = plain d c s' m (AwaitingReports (left - 1)) 10 (left - 1) ready aim refl refl (λ u. absurd (omega arith)) refl (λ u. absurd (omega arith)) in
    simp (ne_eqb v 0 z, ne_eqb (left - 1) 0 y) (
      refl,
      tt,
      turns d c s s'.words s.lying m t (record t { position = LeadingAt (AwaitingReports (left - 1)) }) (AwaitingReports (left - 1)) r e st refl refl
          (record { wave = at.wave; blocked = at.blocked; listed = at.listed; held = at.held; chair = at.chair (omega arith) }),
    ))
    (cases_eq (left - 1) 0))
    (cases_eq v 0)

pub await_reports : (d : SetupData) (c : Context) (i : ℕ) (s : Scene) (m : Machine) (t : Seat) (left : ℕ) → Holds d c s m → i < d.processors → seat s i ≡ t
    → t.position ≡ LeadingAt (AwaitingReports left) → KeptAt d s m i t (LeadingAt (AwaitingReports left))
await_reports d c i s m t left f l e q = lead_kept d c i s m t (AwaitingReports left) f l e q (λ k e' at. await_reports_at d c left s m t q k e' at)

-- IT TAKES A DESK

-- the context with this desk held
abbrev with_desk : Context → ℕ → Desk → Context
with_desk c j desk = record c { held = slice_set c.held j (Some desk) }

taken_self : (d : SetupData) (waves : ℕ) (at : Option Desk) (v : View) → v.present ≡ 1 → v.released ≡ 0 → v.work ≡ 0 → IsSelf d waves at v
    → IsSelf d waves (Some (desk_at v.image None)) (record v { present = 2; on_present = None })
taken_self d waves at v p r w h =
    record { phase = h.phase; visits = h.visits; registers = h.registers; last = h.last; kind = h.kind; most = h.most; waiting = h.waiting; through = h.through; inside = h.inside; begun = h.begun; team_bit = h.team_bit; released_bit = h.released_bit; departed_bit = h.departed_bit; work_le = h.work_le; present_le = omega arith; absent = λ z. absurd (let y = h.absent z in omega arith); there = λ _. omega arith; worker = λ _. refl; idle_away = h.idle_away; running = h.running; own = h.own; own_job = h.own_job; own_out = h.own_out; on_present = λ z. absurd (omega arith); off_present = λ _. refl; on_run = h.on_run; on_run_job = h.on_run_job; off_run = h.off_run; off_run_own = h.off_run_own; held = λ _ _ _. refl; not_held = λ z. absurd (z refl); given_back = λ z. absurd (omega arith); lent = λ z. absurd (omega arith) }

taken_team : (c c2 : Context) (x i present : ℕ) (o : Option Cargo) (v : View) → (i < x + 1 → present ≢ 1) → IsTeam (at_stage c 11 x) i v
    → IsTeam (at_stage c2 11 (x + 1)) i (record v { present = present; on_present = o })
taken_team c c2 x i present o v p h =
    record { team_open = λ z. absurd (omega arith); departed_open = λ z. absurd (omega arith); team = λ _. h.team (omega arith); unreleased = λ _. h.unreleased (omega arith); idle_early = λ z. absurd (omega arith); idle_mid = λ _ _. h.idle_mid (omega arith) (omega arith); idle_after = λ z. absurd (omega arith); unclaimed = λ z. absurd (omega arith); claimed_so_far = λ _ y. p y; claimed = λ z. absurd (omega arith) }

taken_peer : (c : Context) (held : List (Option Desk)) (x i present : ℕ) (o : Option Cargo) (v : View) → IsPeer (at_stage c 11 x) i v
    → IsPeer (at_stage (record c { held = held }) 11 (x + 1)) i (record v { present = present; on_present = o })
taken_peer c held x i present o v h =
    record { station = h.station; walking = λ _. omega arith; knows = h.knows; gone = h.gone; listed = λ z. absurd (omega arith); released_so_far = λ z. absurd (omega arith); released_no_more = λ z. absurd (omega arith); released = λ z. absurd (omega arith); told = λ _. h.told (omega arith); answered = λ z. absurd (omega arith); ended = λ z. absurd (omega arith) }

taken_run : (c c2 : Context) (x i present r : ℕ) (o : Option Cargo) (v : View) → IsRunOf (at_stage c 11 x) i v r
    → IsRunOf (at_stage c2 11 (x + 1)) i (record v { present = present; on_present = o }) r
taken_run c c2 x i present r o v h =
    record { upto = λ _ y. h.upto (omega arith) y; lent = h.lent; so_far = λ z. absurd (omega arith); no_more = λ z. absurd (omega arith); late = λ z. absurd (omega arith) }

taken_totals : (c : Context) (held : List (Option Desk)) (x counter run a b e a' b' e' : ℕ) → b' ≡ b → e' ≡ e → IsTotals (at_stage c 11 x) counter run a b e
    → IsTotals (at_stage (record c { held = held }) 11 (x + 1)) counter run a' b' e'
taken_totals c held x counter run a b e a' b' e' eb ee h =
    let l = h.counter_locked (omega arith) in
    let p = h.peers (omega arith) in
    let r = h.run_reported (omega arith) (omega arith) in
    record { counted = λ z. absurd (omega arith); counter_locked = λ _. l; peers = λ _. omega arith; run_open = λ q z. absurd (omega arith); run_reports = λ z. absurd (omega arith); run_reported = λ _ _. omega arith; run_answers = λ z. absurd (omega arith); run_answered = λ z. absurd (omega arith); run_ends = λ z. absurd (omega arith); run_ended = λ z. absurd (omega arith) }

abbrev taking_scene : Scene → ℕ → Scene
taking_scene s j = record s { words = record s.words { present = slice_set s.words.present j 2 }; lying = record s.lying { present = slice_set s.lying.present j None } }

taken_ready : (d : SetupData) (c : Context) (j : ℕ) (s : Scene) (m : Machine) → IsReady d (at_stage c 11 j) s m → j < d.processors → j ≢ c.bsp
    → get_or s.words.present j 0 ≡ 1 → IsReady d (at_stage (with_desk c j (desk_at (member m j).image None)) 11 (j + 1)) (taking_scene s j) m
taken_ready d c j s m g l nb one =
    let n : ℕ = d.processors in
    let desk : Desk = desk_at (member m j).image None in
    let c1 : Context = with_desk c j desk in
    let c2 : Context = at_stage c1 11 (j + 1) in
    let s2 : Scene = taking_scene s j in
    let V : ℕ → View = view s m in
    let V' : ℕ → View = view s2 m in
    let z = g.sized in
    let w = g.words in
    let x = g.session in
    let k = g.course in
    let mode = mode_le d in
    let lp : j < length s.words.present = rw z.present l in
    let lo : j < length s.lying.present = rw z.on_present l in
    let lh : j < length c.held = rw (z.held (omega arith)) l in
    let new : V' j ≡ record (V j) { present = 2; on_present = None } = rw (get_or-set_same s.words.present j 2 0 lp, get_or-set_same s.lying.present j None None lo) refl in
    let other : (i : ℕ) → i ≢ j → V' i ≡ V i = (λ i q. rw (get_or-set_other s.words.present j i 2 0 q, get_or-set_other s.lying.present j i None None q) refl) in
    let same : (f : View → ℕ) → f (record (V j) { present = 2; on_present = None }) ≡ f (V j) → (i : ℕ) → f (V' i) ≡ f (V i) =
    (λ f e i. ⊎_elim (λ (q : i ≡ j). subst (λ (y : ℕ). f (V' y) ≡ f (V y)) (sym q) (ap f new ∙ e)) (λ (q : i ≢ j). ap f (other i q)) (cases_eq i j)) in
    let h = g.each j l in
    let un = h.team.unreleased (omega arith) in
    let idle = h.team.idle_mid (omega arith) (omega arith) in
    record {
      platform = g.platform;
      sized = record { seats = z.seats; pend = z.pend; present = length-set s.words.present j 2 ∙ z.present; run = z.run; busy = z.busy; on_present = length-set s.lying.present j None ∙ z.on_present; on_run = z.on_run; on_busy = z.on_busy; members = z.members; held = λ _. length-set c.held j (Some desk) ∙ z.held (omega arith) };
      words = record { some_bsp = w.some_bsp; no_bsp = w.no_bsp; bsp_before = w.bsp_before; bsp_taken = w.bsp_taken; bsp_free = w.bsp_free; leads = w.leads; inside_before = w.inside_before; inside = w.inside; inside_after = w.inside_after; insync_before = w.insync_before; insync = w.insync; insync_after = w.insync_after; chair_before = w.chair_before; chair = w.chair; chair_after = w.chair_after; source = w.source; except = w.except; no_session = w.no_session; session = w.session };
      session = record { bsp = x.bsp; unserved = x.unserved; served = x.served; ungathered = x.ungathered; gathered = x.gathered; unready = x.unready; fresh = x.fresh; expired = x.expired; waited = x.waited; unclosed = x.unclosed; closed = x.closed; unbegun = x.unbegun; undone = x.undone; done = x.done };
      course = record { setup = k.setup; size = k.size; registered = k.registered; pooled = k.pooled; me = k.me; led = k.led; listed = k.listed; over = k.over };
      chipset = g.chipset;
      totals =
          taken_totals c (slice_set c.held j (Some desk)) j s.words.counter (get_or s.words.run c.bsp 0) (members_in n V) (team_in n V) (raised_in n V) (members_in n V') (team_in n V') (raised_in n V')
          (sum_below-same n (λ i. (V' i).team) (λ i. (V i).team) (λ i _. same (λ v. v.team) refl i))
          (sum_below-same n (λ i. made (V' i).departed (V' i).station) (λ i. made (V i).departed (V i).station) (λ i _. same (λ v. made v.departed v.station) refl i))
          g.totals;
      each = λ i t.
          ⊎_elim
          (λ (q : i ≡ j). subst (λ (y : ℕ). IsCpu d c2 m.waves y (V' y)) (sym q) (subst (λ (v : View). IsCpu d c2 m.waves j v) (sym new)
          (record {
            self = subst (λ (o : Option Desk). IsSelf d m.waves o (record (V j) { present = 2; on_present = None })) (sym (rw (ne_eqb j c.bsp nb) (get_or-set_same c.held j (Some desk) None lh))) (taken_self d m.waves (desk_kept (at_stage c 11 j) j) (V j) one un idle h.self);
            team = taken_team c c1 j j 2 None (V j) (λ _ y. omega arith) h.team;
            leader = λ y. absurd (nb y);
            peer = λ y. taken_peer c (slice_set c.held j (Some desk)) j j 2 None (V j) (h.peer y);
          })))
          (λ (q : i ≢ j). subst (λ (v : View). IsCpu d c2 m.waves i v) (sym (other i q))
          (let y = g.each i t in
          record {
            self = subst (λ (o : Option Desk). IsSelf d m.waves o (V i)) (sym (ap (λ (o : Option Desk). if i == c.bsp then None else o) (get_or-set_other c.held j i (Some desk) None q))) y.self;
            team = taken_team c c1 j i (V i).present (V i).on_present (V i) (λ u. y.team.claimed_so_far refl (omega arith)) y.team;
            leader = λ u. let b = y.leader u in record { station = b.station; released = b.released; departed = b.departed; work = b.work };
            peer = λ u. taken_peer c (slice_set c.held j (Some desk)) j i (V i).present (V i).on_present (V i) (y.peer u);
          }))
          (cases_eq i j);
      runs = λ i t q.
          ⊎_elim
          (λ (e : i ≡ j). subst (λ (y : ℕ). IsRunOf c2 y (V' y) (get_or s.words.run y 0)) (sym e) (subst (λ (v : View). IsRunOf c2 j v (get_or s.words.run j 0)) (sym new) (taken_run c c1 j j 2 (get_or s.words.run j 0) None (V j) (g.runs j l nb))))
          (λ (e : i ≢ j). subst (λ (v : View). IsRunOf c2 i v (get_or s.words.run i 0)) (sym (other i e)) (taken_run c c1 j i (V i).present (get_or s.words.run i 0) (V i).on_present (V i) (g.runs i t q)))
          (cases_eq i j);
      jobs = λ i t q. resting_job d (at_stage c 11 j) c2 i (member m i).job (λ y. omega arith) (g.jobs i t q);
      idle = λ i t q. let y = g.idle i t q in record { size = y.size; held = y.held; chair = y.chair };
      signals = g.signals;
      busies = g.busies;
    }

take_desk_at : (d : SetupData) (c : Context) (j : ℕ) (s : Scene) (m : Machine) (t : Seat) → t.position ≡ LeadingAt (TakingDesk j) → Holds d (at_stage c 11 j) s m
    → seat s c.bsp ≡ t → IsLead d (at_stage c 11 j) m.registrations m.pool (TakingDesk j) t → KeptAt d s m c.bsp t (LeadingAt (TakingDesk j))
take_desk_at d c j s m t q f e at =
    let g = f.ready in
    let n : ℕ = d.processors in
    let v : ℕ = get_or s.words.present j 0 in
    let st = ap station_of q in
    let aim = f.aim.takes refl in
    let h = g.each j aim.0 in
    let mode = mode_le d in
    let lists = f.aim.closes_on refl in
    ⊎_elim
    (λ (z : v ≡ 1).
    let desk : Desk = desk_at (member m j).image None in
    let lies : get_or s.lying.present j None ≡ Some (cargo.Desk desk) = h.self.on_present z in
    let kind : is_kind (member m j).image.kind d.kind ≡ true = is_same_kind (member m j).image.kind d.kind h.self.kind in
    let c1 : Context = with_desk c j desk in
    let t1 : Seat = record t { held = slice_set t.held j (Some desk) } in
    let keeps : IsKept c1 t1 = record { wave = at.wave; blocked = at.blocked; listed = at.listed; held = ap (λ (y : List (Option Desk)). slice_set y j (Some desk)) at.held; chair = at.chair (omega arith) } in
    let own : seat_view Leading c.bsp t1 ≡ seat_view Leading c.bsp t = ap (λ (o : Option Desk). record { station = Leading; knows = t.bsp; visits = t.visits; own = o; registers = t.registers; last = t.last }) (get_or-set_other t.held j c.bsp (Some desk) None (λ y. aim.1 (sym y))) in
    let more : ListsFrom d c1 (j + 1) = (λ i l y. lists i l (omega arith) ∙ ap is_some (sym (get_or-set_other c.held j i (Some desk) None (λ u. omega arith)))) in
    simp (eq-eqb v 1 z, lies, kind) (
      refl,
      tt,
      desks_next d c1 (taking_scene s j) m t t1 (TakingDesk j) (j + 1) (next_below n (lacks (record (closing d c1) { held = t.listed; row = row.TakeDesk j })) (j + 1)) (tested d c1 (row.TakeDesk j) t.listed (j + 1) at.listed) (taken_ready d c j s m g aim.0 aim.1 z) (let u = aim.0 in omega arith) more e st own keeps,
    ))
    (λ (z : v ≢ 1).
    let keeps : IsKept c t = record { wave = at.wave; blocked = at.blocked; listed = at.listed; held = at.held; chair = at.chair (omega arith) } in
    let not_there : (i : ℕ) → j ≤ i → i < j + 1 → (view s m i).present ≢ 1 = (λ i a b. let y : i ≡ j = omega arith in subst (λ (k : ℕ). (view s m k).present ≢ 1) (sym y) z) in
    let ready : IsReady d (at_stage c 11 (j + 1)) s m =
    advance d c 11 j 11 (j + 1) s m g (omega arith) (omega arith) (λ u. omega arith) (λ u. absurd (omega arith)) (words_at d c 11 j 11 (j + 1) (globe s m) (omega arith) (omega arith) (omega arith) (λ u. absurd (omega arith)) g.words)
    (course_at d c 11 j 11 (j + 1) m.registrations m.pool (omega arith) (λ u. u) (λ u. u) (λ u. omega arith) g.course)
    (desks_skipped_totals c j (j + 1) s.words.counter (get_or s.words.run c.bsp 0) _ _ _)
    (λ i l y. desks_skipped d c m.waves j (j + 1) i (view s m i) (omega arith) (not_there i) y)
    (λ i l x y r. desks_skipped_run c j (j + 1) i (get_or s.words.run i 0) (view s m i) (omega arith) (not_there i) y.self.team_bit y.team (y.peer x) r) in
    simp (ne_eqb v 1 z) (
      refl,
      tt,
      desks_next d c s m t t (TakingDesk j) (j + 1) (next_below n (lacks (record (closing d c) { held = t.listed; row = row.TakeDesk j })) (j + 1)) (tested d c (row.TakeDesk j) t.listed (j + 1) at.listed) ready (let u = aim.0 in omega arith)
          (λ i l y. lists i l (omega arith)) e st refl keeps,
    ))
    (cases_eq v 1)

pub take_desk : (d : SetupData) (c : Context) (i : ℕ) (s : Scene) (m : Machine) (t : Seat) (j : ℕ) → Holds d c s m → i < d.processors → seat s i ≡ t
    → t.position ≡ LeadingAt (TakingDesk j) → KeptAt d s m i t (LeadingAt (TakingDesk j))
take_desk d c i s m t j f l e q = lead_kept d c i s m t (TakingDesk j) f l e q (λ k e' at. take_desk_at d c j s m t q k e' at)

-- The row at which the server raises the word of a processor, with the desk on which that was given its job.
use Rattle.std.proofs.Common.{ℕ, ◌+◌, ◌≡◌, ◌≢◌, ◌<◌, ◌≤◌, inr, arith, Bool, true, false, List, length, get_or, slice_set, Option, Some, None, refl, sym, ap, subst, ⊎_elim, ◌∙◌}
use Rattle.std.specs.Prelude.{IsSomeAnd, ◌==◌, if◌then◌else◌, is_some, option_map}
use Rattle.std.proofs.lemmas.Bool.{cases_eq, ne_eqb}
use Rattle.std.proofs.lemmas.List.{get_or-set_other, get_or-set_same, length-set}
use Rattle.cpu_table.specs.Data.{SetupData}
use Rattle.sync_words.specs.declared.label.Label.{Label}
use Rattle.sync_words.specs.declared.label.Label.TheVariants as say
use Rattle.handler_ops.specs.declared.desk.Desk.{Desk}
use Rattle.handler_ops.specs.declared.desk.Job.{Job}
use Rattle.handler_ops.specs.declared.row.Row.{Row}
use Rattle.handler_ops.specs.declared.row.Row.TheVariants as told
use Rattle.serving_place.specs.declared.seat.Seat.{Seat as JobSeat}
use Rattle.serving_place.specs.declared.seat.Seat.TheVariants.{Free, Open}
use Rattle.serving_place.specs.Serving.{IsFree, IsDone, HasOpen}
use Rattle.serving_place.specs.Forms.{Own}
use Rattle.serving_place.specs.Beginning.{program_of}
use Rattle.serving_place.specs.Places.{Place, Accepts, next}
use Rattle.handler_ops.specs.Course.{Desks, desk_of, has_job, is_held}
use Rattle.handler_ops.specs.Conditions.{IsSound}
use Rattle.handler_ops.specs.Sessions.{Session as Chair}
use Rattle.handler_ops.specs.Told.{with_job}
use Rattle.handler_ops.proofs.Dues.{held_is}
use Rattle.cpu_program.specs.declared.cargo.Cargo.{Cargo}
use Rattle.cpu_program.specs.declared.cargo.Cargo.TheVariants as cargo
use Rattle.cpu_program.specs.Actors.{OfProcessor}
use Rattle.cpu_program.specs.Processors.{is_relaxed}
use Rattle.rendezvous_machine.specs.Machines.{Machine, Member, Session, member, nobody}
use Rattle.rendezvous_machine.specs.Listed.{CanSay, grown}
use Rattle.rendezvous_machine.specs.Refusals.{refusal}
use Rattle.rendezvous_machine.specs.Rules.{Rule}
use Rattle.rendezvous_machine.specs.Effects.{effect, given, says, with_member}
use Rattle.rendezvous_machine.specs.Services.{setting}
use Rattle.schedule_laws.proofs.Scenes.{Scene, Seat, seat, actors_of}
use Rattle.schedule_laws.proofs.Stations.{here_of, here_of-le, job_of, low, out_of, work_of}
use Rattle.schedule_laws.proofs.Leads.{serves_at}
use Rattle.schedule_laws.proofs.Invariant.{Context, View, IsReady, IsCourse, IsSelf, IsTeam, IsCpu, IsRunOf, IsJobOf, IsFine, desk_at, desk_kept, begins_from, serves_from, mode_of, globe, locked, seat_known, seat_listed, sizes, view, with_done}
use Rattle.schedule_laws.proofs.Facts.{true_false}
use Rattle.schedule_laws.proofs.Frames.{IsDelta, busies_more, mode_le, signals_more, totals_move}
use Rattle.schedule_laws.proofs.LeadFrames.{at_stage}
use Rattle.schedule_laws.proofs.SessionFrames.{bsp_says, session_map}
use Rattle.schedule_laws.proofs.HandlerSteps.{seat_in}
use Rattle.schedule_laws.proofs.HandlerPlaces.{IsNext, alike, can_say, led_on, next_both, serves_is}
use Rattle.schedule_laws.proofs.HandlerRows.{IsStart, IsWatched}
use Rattle.schedule_laws.proofs.HandlerLandings.{IsAnswered, next_told, serves_low, serves_high}
use Rattle.schedule_laws.proofs.HandlerFrames.{answers, cpu_on, held_some, idle_on, kept_is, run_on, session_on, sized_on, totals_on, watched, words_on}
use Rattle.schedule_laws.proofs.HandlerLooks.{IsTold, RowKept, accepted, chair_told, course_said, said_on, told_processor}
use Rattle.schedule_laws.proofs.HandlerReads.{hand_agrees, hand_desk}
use Rattle.schedule_laws.proofs.HandlerRaises.{given_run, given_self, there_out}

-- serving is at none of the stages at which no processor may have a job
serves_outside : (b : Bool) → 5 ≤ serves_at b → serves_at b ≤ 12 → ⊥
serves_outside true h k = omega (arith, h)
serves_outside false h k = omega (arith, k)

-- a processor with its job, whose desk lies on its word `run`
abbrev given_view : Job → View → View
given_view job v = record v { work = 1; job = Some job; on_run = Some (cargo.Desk (desk_at v.image (Some job))) }

given_team : (c c' : Context) (x : ℕ) (v : View) (job : Job) → c'.stage ≡ c.stage → 4 ≤ c.stage → c.stage ≤ 13 → (5 ≤ c.stage → c.stage ≤ 12 → ⊥) → IsTeam c x v
    → IsTeam c' x (given_view job v)
given_team c c' x v job e a b out g =
    record {
      team_open = λ z. g.team_open (omega (arith, z, e));
      departed_open = λ z. g.departed_open (omega (arith, z, e));
      team = λ z. g.team (omega (arith, z, e));
      unreleased = λ z. g.unreleased (omega (arith, z, e));
      idle_early = λ z. absurd (omega (arith, z, e, a));
      idle_mid = λ y z. absurd (out (omega (arith, y, e)) (omega (arith, z, e)));
      idle_after = λ z. absurd (omega (arith, z, e, b));
      unclaimed = λ z. absurd (omega (arith, z, e, a));
      claimed_so_far = λ z _. absurd (out (omega (arith, z, e)) (omega (arith, z, e)));
      claimed = λ z. g.claimed (omega (arith, z, e));
    }

module _ (d : SetupData) (c : Context) (s : Scene) (m : Machine) (t : Seat) (x number procedure argument : ℕ) (h : IsTold d c s m t (told.Raising x (say.Start x number procedure argument))) (known : procedure < length d.procedures) (allowed : refusal d m c.bsp ≡ None) where
  abbrev stage : ℕ
  stage = serves_at (is_relaxed d.mode)

  abbrev before : Context
  before = at_stage c stage 0

  abbrev label : Label
  label = say.Start x number procedure argument

  abbrev job : Job
  job = given number procedure argument

  -- its desk with the job, which is given away
  abbrev desk : Option Cargo
  desk = Some (cargo.Desk (desk_at (member m x).image (Some job)))

  abbrev handed : Desks
  handed = slice_set c.held x (option_map (with_job number procedure argument) (desk_of c.held x))

  abbrev held : Desks
  held = slice_set handed x None

  abbrev raised : Context
  raised = said_on d c held label

  abbrev later : Context
  later = at_stage raised stage 0

  abbrev worker : Member
  worker = record (member m x) { job = Some job }

  abbrev machine : Machine
  machine = record m { members = slice_set m.members x worker; session = Some (says label c.session) }

  abbrev word : ℕ
  word = get_or s.words.run x 0 + 1

  abbrev scene : Scene
  scene = record s { words = record s.words { run = slice_set s.words.run x word }; lying = record s.lying { run = slice_set s.lying.run x desk } }

  -- THE STAGE

  some : 1 ≤ stage
  some = let a = serves_low (is_relaxed d.mode) in omega (arith, a)

  few : stage ≤ 14
  few = let a = serves_high (is_relaxed d.mode) in omega (arith, a)

  late : begins_from (mode_of d) < stage
  late = let a = serves_is (is_relaxed d.mode) in let b = mode_le d in omega (arith, a, b)

  at : serves_from (mode_of d) ≤ stage
  at = let a = serves_is (is_relaxed d.mode) in omega (arith, a)

  -- THE PROCESSOR AS IT WAS

  watching : IsWatched d c s m
  watching = watched d c s m h.ready h.serving.goes_on h.serving.sound h.serving.own

  cpu : IsCpu d before m.waves x (view s m x)
  cpu = h.ready.each x h.fits.0

  no_job : (member m x).job ≡ None
  no_job = (watching.seen x h.fits.0 h.fits.1).held_idle h.fits.2

  idle : (view s m x).work ≡ 0
  idle = ap work_of no_job

  unreleased : (view s m x).released ≡ 0
  unreleased = cpu.team.unreleased few

  claimed : (view s m x).present ≡ 2
  claimed =
      ⊎_elim
      (λ (z : (view s m x).present ≡ 2). z)
      (λ (z : (view s m x).present ≢ 2). absurd (held_some (get_or c.held x None) (sym (held_is c.held x) ∙ h.fits.2) (sym (kept_is c x h.fits.1) ∙ cpu.self.not_held z)))
      (cases_eq (view s m x).present 2)

  there : here_of (view s m x).station ≡ 1
  there =
      let a = claimed in
      let b = here_of-le (view s m x).station in
      ⊎_elim
      (λ (z : here_of (view s m x).station ≡ 1). z)
      (λ (z : here_of (view s m x).station ≢ 1). let e = cpu.self.absent (omega (arith, b, z)) in absurd (omega (arith, a, e)))
      (cases_eq (here_of (view s m x).station) 1)

  run_is : get_or s.words.run x 0 + low (view s m x).departed (view s m x).station ≡ 0
  run_is =
      let a = few in
      let b = idle in
      (h.ready.runs x h.fits.0 h.fits.1).upto (omega (arith, a)) (λ z. omega (arith, z, b)) ∙ unreleased

  unraised : get_or s.words.run x 0 ≡ 0
  unraised = let a = run_is in omega (arith, a)

  unlowered : low (view s m x).departed (view s m x).station ≡ 0
  unlowered = let a = run_is in omega (arith, a)

  out : (out_of (view s m x).station ≡ 1) × (job_of (view s m x).station ≡ 0)
  out = there_out (view s m x).departed (view s m x).station there unlowered

  -- THE DESKS

  held_size : length c.held ≡ d.processors
  held_size = h.ready.sized.held some

  there_held : x < length c.held
  there_held = let a = held_size in let b = h.fits.0 in omega (arith, a, b)

  gift : get_or handed x None ≡ Some (desk_at (member m x).image (Some job))
  gift =
      get_or-set_same c.held x (option_map (with_job number procedure argument) (desk_of c.held x)) None there_held
      ∙ ap (λ (o : Option Desk). option_map (with_job number procedure argument) o)
      (hand_desk d c s m t x (subst (λ (r : Row). IsTold d c s m t r) (sym h.told) h) h.fits.0 (inr h.fits.2))

  later_size : length held ≡ d.processors
  later_size = length-set handed x None ∙ length-set c.held x (option_map (with_job number procedure argument) (desk_of c.held x)) ∙ held_size

  held_here : get_or held x None ≡ None
  held_here =
      let a = length-set c.held x (option_map (with_job number procedure argument) (desk_of c.held x)) in
      let b = there_held in
      get_or-set_same handed x None None (omega (arith, a, b))

  held_other : (j : ℕ) → j ≢ x → get_or held j None ≡ get_or c.held j None
  held_other j n =
      get_or-set_other handed x j None None n ∙ get_or-set_other c.held x j (option_map (with_job number procedure argument) (desk_of c.held x)) None n

  -- THE LIST

  takes : Accepts (program_of d) c.chair.course.place (Own label)
  takes = accepted d c (told.Raising x label) s.words.inside c.held label h.serving h.told refl

  both : IsNext d label c.chair.course.place c.place
  both =
      let w = watching in
      next_both d h.ready.platform.handlers c.chair.course.place c.place label w.tied.same (alike d c m w.tied) w.tied.size (hand_agrees d c s m x w (inr h.fits.2)) h.serving.fits takes

  abbrev token : Bool
  token = both.seats.0

  known_here : seat_known raised x ≡ Open number token
  known_here =
      let a = h.fits.0 in
      let b = h.ready.course.size in
      ap (λ (qs : List JobSeat). seat_in qs x) both.seats.1 ∙ get_or-set_same c.chair.course.place.state.seats x (Open number token) Free (omega (arith, a, b))

  listed_here : seat_listed raised x ≡ Open number token
  listed_here =
      let a = h.fits.0 in
      let b = watching.tied.listed_size in
      ap (λ (rs : List JobSeat). seat_in rs x) both.seats.2 ∙ get_or-set_same c.place.state.seats x (Open number token) Free (omega (arith, a, b))

  known_other : (j : ℕ) → j ≢ x → seat_known raised j ≡ seat_known c j
  known_other j n =
      ap (λ (qs : List JobSeat). seat_in qs j) both.seats.1 ∙ get_or-set_other c.chair.course.place.state.seats x j (Open number token) Free n

  listed_other : (j : ℕ) → j ≢ x → seat_listed raised j ≡ seat_listed c j
  listed_other j n = ap (λ (rs : List JobSeat). seat_in rs j) both.seats.2 ∙ get_or-set_other c.place.state.seats x j (Open number token) Free n

  seats_size : length (course_said d c label).place.state.seats ≡ length c.chair.course.place.state.seats
  seats_size = ap (λ (qs : List JobSeat). length qs) both.seats.1 ∙ length-set c.chair.course.place.state.seats x (Open number token)

  -- THE JOBS

  own_job : IsJobOf d later x worker.job
  own_job =
      record {
        procedure = λ _. known;
        free = λ _ z. absurd (true_false (has_job (seat_known raised x)) (ap has_job known_here) z);
        given = λ _ _. subst (λ (q : JobSeat). HasOpen q number) (sym known_here) refl;
        listed = λ _ _. listed_here ∙ sym known_here;
      }

  other_job : (j : ℕ) → j < d.processors → j ≢ c.bsp → j ≢ x → IsJobOf d later j (member m j).job
  other_job j l nb n =
      let g = h.ready.jobs j l nb in
      let back = ap has_job (sym (known_other j n)) in
      record {
        procedure = g.procedure;
        free = λ y z. g.free y (back ∙ z);
        given = λ y z. subst (λ (q : JobSeat). IsSomeAnd (member m j).job (λ k. HasOpen q k.number)) (sym (known_other j n)) (g.given y (back ∙ z));
        listed = λ y _. listed_other j n ∙ g.listed y h.serving.goes_on ∙ ap (λ (q : JobSeat). with_done (member m j).job q) (sym (known_other j n));
      }

  there_member : x < length m.members
  there_member = let a = h.ready.sized.members in let b = h.fits.0 in omega (arith, a, b)

  jobs : (j : ℕ) → j < d.processors → j ≢ c.bsp → IsJobOf d later j (member machine j).job
  jobs j l nb =
      ⊎_elim
      (λ (q : j ≡ x). subst (λ (y : ℕ). IsJobOf d later y (member machine y).job) (sym q)
      (subst (λ (y : Member). IsJobOf d later x y.job) (sym (get_or-set_same m.members x worker nobody there_member)) own_job))
      (λ (q : j ≢ x). subst (λ (y : Member). IsJobOf d later j y.job) (sym (get_or-set_other m.members x j worker nobody q)) (other_job j l nb q))
      (cases_eq j x)

  -- THE VIEWS

  abbrev seen : View
  seen = given_view job (view s m x)

  seen_is : view scene machine x ≡ seen
  seen_is =
      let a = h.fits.0 in
      let b = h.ready.sized.on_run in
      rw (get_or-set_same s.lying.run x desk None (omega (arith, a, b)), get_or-set_same m.members x worker nobody there_member) refl

  other_is : (j : ℕ) → j ≢ x → view scene machine j ≡ view s m j
  other_is j n = rw (get_or-set_other s.lying.run x j desk None n, get_or-set_other m.members x j worker nobody n) refl

  own_cpu : IsCpu d later m.waves x seen
  own_cpu =
      let b : Bool = is_relaxed d.mode in
      let e = cpu in
      record {
        self = subst (λ (o : Option Desk). IsSelf d m.waves o seen) (sym (kept_is raised x h.fits.1 ∙ held_here))
            (given_self d m.waves (desk_kept c x) (view s m x) job idle unreleased claimed there out.0 out.1 e.self);
        team = given_team before later x (view s m x) job refl (serves_low b) (serves_high b) (serves_outside b) e.team;
        leader = λ z. absurd (h.fits.1 z);
        peer = λ z. let p = e.peer z in record { station = p.station; walking = p.walking; knows = p.knows; gone = p.gone; listed = p.listed; released_so_far = p.released_so_far; released_no_more = p.released_no_more; released = p.released; told = p.told; answered = p.answered; ended = p.ended };
      }

  abbrev chair : Chair
  chair = chair_told d c held (course_said d c label)

  abbrev place : Place
  place = next (program_of d) c.place (Own label)

  each : (j : ℕ) → j < d.processors → IsCpu d later m.waves j (view scene machine j)
  each j l =
      ⊎_elim
      (λ (q : j ≡ x). subst (λ (y : ℕ). IsCpu d later m.waves y (view scene machine y)) (sym q)
      (subst (λ (v : View). IsCpu d later m.waves x v) (sym seen_is) own_cpu))
      (λ (q : j ≢ x). subst (λ (v : View). IsCpu d later m.waves j v) (sym (other_is j q))
      (cpu_on before held chair place (grown (Own label) c.session.serving) d m.waves j (view s m j) (ap (λ (o : Option Desk). if j == c.bsp then None else o) (held_other j q)) (h.ready.each j l)))
      (cases_eq j x)

  own_run : IsRunOf later x seen word
  own_run = given_run before later x (get_or s.words.run x 0) (view s m x) seen few unraised unlowered refl refl refl (h.ready.runs x h.fits.0 h.fits.1)

  runs : (j : ℕ) → j < d.processors → j ≢ c.bsp → IsRunOf later j (view scene machine j) (get_or scene.words.run j 0)
  runs j l nb =
      let a = h.fits.0 in
      let b = h.ready.sized.run in
      ⊎_elim
      (λ (q : j ≡ x). subst (λ (y : ℕ). IsRunOf later y (view scene machine y) (get_or scene.words.run y 0)) (sym q)
      (subst (λ (v : View). IsRunOf later x v (get_or scene.words.run x 0)) (sym seen_is)
      (subst (λ (r : ℕ). IsRunOf later x seen r) (sym (get_or-set_same s.words.run x word 0 (omega (arith, a, b)))) own_run)))
      (λ (q : j ≢ x). subst (λ (v : View). IsRunOf later j v (get_or scene.words.run j 0)) (sym (other_is j q))
      (subst (λ (r : ℕ). IsRunOf later j (view s m j) r) (sym (get_or-set_other s.words.run x j word 0 q))
      (run_on before held chair place (grown (Own label) c.session.serving) j (view s m j) (get_or s.words.run j 0) (h.ready.runs j l nb))))
      (cases_eq j x)

  -- the sums stay
  stays_sum : IsDelta later s.words.counter (get_or s.words.run c.bsp 0) (view s m x) scene.words.counter (get_or scene.words.run c.bsp 0) (view scene machine x)
  stays_sum =
      let bsp_run : get_or scene.words.run c.bsp 0 ≡ get_or s.words.run c.bsp 0 = get_or-set_other s.words.run x c.bsp word 0 (λ q. h.fits.1 (sym q)) in
      subst (λ (v : View). IsDelta later s.words.counter (get_or s.words.run c.bsp 0) (view s m x) scene.words.counter (get_or scene.words.run c.bsp 0) v) (sym seen_is)
      (subst (λ (r : ℕ). IsDelta later s.words.counter (get_or s.words.run c.bsp 0) (view s m x) s.words.counter r seen) (sym bsp_run)
      (record { counted = λ _. refl; locked = λ _. refl; team = refl; made = λ _. refl }))

  -- ALL OF IT

  raise_course : IsCourse d later m.registrations m.pool
  raise_course =
      let f = h.ready.course in
      let a = late in
      let b = serves_is (is_relaxed d.mode) in
      record {
        setup = refl;
        size = seats_size ∙ f.size;
        registered = λ z. absurd (omega (arith, z, a));
        pooled = λ z. absurd (omega (arith, z, a));
        me = λ _. refl;
        led = λ z. led_on d c.wave m.registrations m.pool c.place c.session.serving (Own label) (f.led z) both.accepts;
        listed = λ _. both.listed;
        over = λ z. absurd (omega (arith, b, z));
      }

  raise_ready : IsReady d later scene machine
  raise_ready =
      let f = h.ready in
      let z = f.sized in
      let es = grown (Own label) c.session.serving in
      let most : stage ≤ 19 = (let a = few in omega (arith, a)) in
      record {
        platform = f.platform;
        sized = sized_on before held chair place es d (sizes scene machine) later_size
            (record { seats = z.seats; pend = z.pend; present = z.present; run = length-set s.words.run x word ∙ z.run; busy = z.busy; on_present = z.on_present; on_run = length-set s.lying.run x desk ∙ z.on_run; on_busy = z.on_busy; members = length-set m.members x worker ∙ z.members; held = z.held });
        words = words_on before held chair place es d (globe s m) some most f.words;
        session = session_on before held chair place es (mode_of d) late f.session;
        course = raise_course;
        chipset = f.chipset;
        totals = totals_move later d.processors x s.words.counter (get_or s.words.run c.bsp 0) (view s m) scene.words.counter (get_or scene.words.run c.bsp 0) (view scene machine)
            (totals_on before held chair place es s.words.counter (get_or s.words.run c.bsp 0) _ _ _ f.totals) h.fits.0 (λ j _ n. other_is j n) stays_sum;
        each = each;
        runs = runs;
        jobs = jobs;
        idle = λ j l n. idle_on before held chair place es d j (seat s j) some (globe s m) f.words n (f.idle j l n);
        signals = signals_more d m x worker s.words.pend there_member (omega arith) f.signals;
        busies = busies_more d m x worker s there_member
            (λ y. record {
              lies = λ u. absurd (omega (arith, u));
              finished = λ u. let a = y.finished u in let b : work_of (member m x).job ≡ 0 = idle in absurd (omega (arith, a, b));
              ran = λ u. absurd (omega (arith, u));
            })
            f.busies;
      }

  raise_sound : IsSound (setting d c.bsp) (is_held held) (course_said d c label).place.state
  raise_sound =
      let v = h.serving.sound in
      let same : (j : ℕ) → j ≢ x → is_held held j ≡ is_held c.held j =
      (λ j n. held_is held j ∙ ap (λ (o : Option Desk). is_some o) (held_other j n) ∙ sym (held_is c.held j)) in
      record {
        size = seats_size ∙ v.size;
        mine = same c.bsp (λ q. h.fits.1 (sym q)) ∙ v.mine;
        idle = λ j e.
            ⊎_elim
            (λ (q : j ≡ x). absurd (held_some (get_or held x None) (sym (held_is held x) ∙ subst (λ (y : ℕ). is_held held y ≡ true) q e) held_here))
            (λ (q : j ≢ x). subst (λ (y : JobSeat). IsFree y) (sym (known_other j q)) (v.idle j (sym (same j q) ∙ e)))
            (cases_eq j x);
        undone = λ j e.
            ⊎_elim
            (λ (q : j ≡ x). subst (λ (y : JobSeat). IsDone y) known_here (subst (λ (y : ℕ). IsDone (seat_known raised y)) q e))
            (λ (q : j ≢ x). v.undone j (subst (λ (y : JobSeat). IsDone y) (known_other j q) e))
            (cases_eq j x);
      }

  raise_answered : IsAnswered d raised scene machine
  raise_answered =
      let n : c.bsp ≢ x = (λ q. h.fits.1 (sym q)) in
      answers d raised scene machine raise_ready raise_sound both.fits (listed_other c.bsp n ∙ h.serving.own ∙ sym (known_other c.bsp n)) refl

  rule : Rule d m c.bsp label
  rule =
      let f = h.ready in
      let low = serves_low (is_relaxed d.mode) in
      let can : CanSay d m label c.session =
      can_say d c.wave m.registrations m.pool c.place c.session.served c.session.serving label (f.session.served (omega (arith, low))) (f.course.led at) both.accepts in
      (bsp_says d before s m (CanSay d m label) f some can, allowed, no_job)

  fine : IsFine d (record { words = scene.words; lying = scene.lying; actors = slice_set (actors_of d s) c.bsp (OfProcessor (told_processor d raised t)) }) (effect d m c.bsp label)
  fine =
      let lead = h.leading in
      let after : effect d m c.bsp label ≡ machine =
      ap (λ (o : Option Session). record (with_member x worker m) { session = o }) (session_map m.session c.session (says label) (h.ready.words.session some)) in
      subst (λ (n : Machine). IsFine d (record { words = scene.words; lying = scene.lying; actors = slice_set (actors_of d s) c.bsp (OfProcessor (told_processor d raised t)) }) n) (sym after)
      (next_told d raised scene machine t raise_answered
      (record { seat_is = lead.seat_is; leads = lead.leads; wave = lead.wave; blocked = lead.blocked; listed = lead.listed })
      (held_other c.bsp (λ q. h.fits.1 (sym q)) ∙ h.own))

  raise : RowKept d c s m t (told.Raising x label)
  raise =
      let a = h.fits.0 in
      let b = unraised in
      let low_word = ne_eqb (get_or s.words.run x 0) locked (λ z. omega (arith, z, b)) in
      let other = ne_eqb x d.processors (λ z. omega (arith, z, a)) in
      simp (other, gift, low_word) (refl, rule, fine)

pub raising : (d : SetupData) (c : Context) (s : Scene) (m : Machine) (t : Seat) (x : ℕ) (l : Label) → IsTold d c s m t (told.Raising x l) → RowKept d c s m t (told.Raising x l)
raising d c s m t x l h =
    let start : IsStart d c m x l = h.fits.4 in
    subst (λ (k : Label). RowKept d c s m t (told.Raising x k)) (sym start.is)
    (raise d c s m t x start.job start.procedure start.argument (subst (λ (k : Label). IsTold d c s m t (told.Raising x k)) start.is h) start.known start.allowed)

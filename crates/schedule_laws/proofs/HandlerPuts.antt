-- The row at which the server marks that a processor is given a job.
use Rattle.std.proofs.Common.{ℕ, ◌≡◌, ◌≢◌, ◌<◌, ◌≤◌, arith, true, get_or, slice_set, Option, None, refl, sym, ap, subst, ⊎_elim, ◌∙◌}
use Rattle.std.proofs.lemmas.Bool.{cases_eq}
use Rattle.std.proofs.lemmas.List.{get_or-set_other, get_or-set_same, length-set}
use Rattle.cpu_table.specs.Data.{SetupData}
use Rattle.handler_ops.specs.declared.row.Row.TheVariants as told
use Rattle.handler_ops.specs.Course.{Course}
use Rattle.handler_ops.specs.Sessions.{Session as Chair}
use Rattle.cpu_program.specs.Processors.{is_relaxed}
use Rattle.rendezvous_machine.specs.Machines.{Machine, Session, member}
use Rattle.schedule_laws.proofs.Scenes.{Scene, Seat, seat}
use Rattle.schedule_laws.proofs.Stations.{work_of}
use Rattle.schedule_laws.proofs.Leads.{serves_at}
use Rattle.schedule_laws.proofs.Invariant.{Context, IsReady, IsWords, IsBusy, begins_from, mode_of, globe, sizes, view}
use Rattle.schedule_laws.proofs.Frames.{mode_le}
use Rattle.schedule_laws.proofs.LeadFrames.{at_stage}
use Rattle.schedule_laws.proofs.HandlerPlaces.{serves_is}
use Rattle.schedule_laws.proofs.HandlerLandings.{next_told, serves_low, serves_high}
use Rattle.schedule_laws.proofs.HandlerFrames.{moves_on, words_on, session_on, totals_on, cpu_on, run_on, idle_on, sized_on, seen_of, answers}
use Rattle.schedule_laws.proofs.HandlerLooks.{IsTold, RowKept, chair_told}

module _ (d : SetupData) (c : Context) (s : Scene) (m : Machine) (t : Seat) (x : ℕ) (h : IsTold d c s m t (told.Putting x)) where
  abbrev stage : ℕ
  stage = serves_at (is_relaxed d.mode)

  -- the word is put
  abbrev marked_course : Course
  marked_course = record { place = c.chair.course.place; marked = true }

  abbrev marked : Context
  marked = moves_on c c.held (chair_told d c c.held marked_course) c.place c.session.serving

  abbrev scene : Scene
  scene = record s { words = record s.words { busy = slice_set s.words.busy x 1 } }

  put_ready : IsReady d (at_stage marked stage 0) scene m
  put_ready =
      let f = h.ready in
      let c1 : Context = at_stage c stage 0 in
      let k : Chair = chair_told d c c.held marked_course in
      let low = serves_low (is_relaxed d.mode) in
      let high = serves_high (is_relaxed d.mode) in
      let is = serves_is (is_relaxed d.mode) in
      let le = mode_le d in
      let some : 1 ≤ stage = omega (arith, low) in
      let few : stage ≤ 19 = omega (arith, high) in
      let late : begins_from (mode_of d) < stage = omega (arith, is, le) in
      let z = f.sized in
      let sees = seen_of d c stage s m (omega (arith, high)) f x h.fits.0 h.fits.1 in
      let none : work_of (member m x).job ≡ 0 = ap work_of (sees.held_idle h.fits.2) in
      record {
        platform = f.platform;
        sized = sized_on c1 c.held k c.place c.session.serving d (sizes scene m) (z.held some)
            (record { seats = z.seats; pend = z.pend; present = z.present; run = z.run; busy = length-set s.words.busy x 1 ∙ z.busy; on_present = z.on_present; on_run = z.on_run; on_busy = z.on_busy; members = z.members; held = z.held });
        words = subst (λ (o : Option Session). IsWords d (at_stage marked stage 0) (record (globe s m) { session = o })) (sym (f.words.session some))
            (words_on c1 c.held k c.place c.session.serving d (globe s m) some few f.words);
        session = session_on c1 c.held k c.place c.session.serving (mode_of d) late f.session;
        course = record { setup = refl; size = f.course.size; registered = λ y. absurd (omega (arith, y, late)); pooled = λ y. absurd (omega (arith, y, late)); me = λ _. refl; led = f.course.led; listed = f.course.listed; over = λ y. absurd (omega (arith, is, y)) };
        chipset = f.chipset;
        totals = totals_on c1 c.held k c.place c.session.serving s.words.counter (get_or s.words.run c.bsp 0) _ _ _ f.totals;
        each = λ j l. cpu_on c1 c.held k c.place c.session.serving d m.waves j (view s m j) refl (f.each j l);
        runs = λ j l n. run_on c1 c.held k c.place c.session.serving j (view s m j) (get_or s.words.run j 0) (f.runs j l n);
        jobs = λ j l n. let g = f.jobs j l n in record { procedure = g.procedure; free = g.free; given = g.given; listed = g.listed };
        idle = λ j l n. idle_on c1 c.held k c.place c.session.serving d j (seat s j) some (globe s m) f.words n (f.idle j l n);
        signals = f.signals;
        busies = λ j l.
            ⊎_elim
            (λ (q : j ≡ x). subst (λ (y : ℕ). IsBusy (member m y) (get_or (slice_set s.words.busy x 1) y 0) (get_or s.lying.busy y None)) (sym q)
            (subst (λ (y : ℕ). IsBusy (member m x) y (get_or s.lying.busy x None)) (sym (get_or-set_same s.words.busy x 1 0 (let b = z.busy in let a = h.fits.0 in omega (arith, a, b))))
            (record { lies = (f.busies x h.fits.0).lies; finished = λ y. absurd (omega (arith, y)); ran = λ y. absurd (omega (arith, y, none)) })))
            (λ (q : j ≢ x). subst (λ (y : ℕ). IsBusy (member m j) y (get_or s.lying.busy j None)) (sym (get_or-set_other s.words.busy x j 1 0 q)) (f.busies j l))
            (cases_eq j x);
      }

  pub putting : RowKept d c s m t (told.Putting x)
  putting =
      let v = h.serving in
      let lead = h.leading in (
        refl,
        tt,
        next_told d marked scene m t (answers d marked scene m put_ready v.sound v.fits v.own refl)
            (record { seat_is = lead.seat_is; leads = lead.leads; wave = lead.wave; blocked = lead.blocked; listed = lead.listed }) h.own,
      )

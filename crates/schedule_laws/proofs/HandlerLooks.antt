-- The rows of the server that look: a label is said, and nothing changes hands.
use Rattle.std.proofs.Common.{ℕ, ◌≡◌, ◌≢◌, ◌<◌, ◌≤◌, arith, false, List, length, get_or, slice_set, Option, Some, None, Result, Ok, Err, refl, sym, ap, subst, ◌∙◌}
use Rattle.std.specs.Prelude.{IsSomeAnd}
use Rattle.std.proofs.lemmas.Bool.{ne_eqb}
use Rattle.cpu_table.specs.Data.{SetupData}
use Rattle.sync_words.specs.declared.label.Label.{Label}
use Rattle.sync_words.specs.declared.label.Label.TheVariants as say
use Rattle.smram_pool.specs.declared.error.PoolError.{PoolError}
use Rattle.smram_pool.specs.State.{allocated}
use Rattle.handler_ops.specs.declared.row.Row.{Row}
use Rattle.handler_ops.specs.declared.row.Row.TheVariants as told
use Rattle.serving_place.specs.declared.seat.Seat.{Seat as JobSeat}
use Rattle.serving_place.specs.Serving.{HasOpen}
use Rattle.serving_place.specs.Forms.{Own}
use Rattle.serving_place.specs.Beginning.{program_of}
use Rattle.serving_place.specs.Places.{Place, Accepts, next}
use Rattle.serving_place.specs.Stands.{Leads}
use Rattle.serving_place.specs.Operations.{alloc_label}
use Rattle.handler_ops.specs.Course.{Course, Desks, Move, Speaks, Step, is_held, has_job, step_of, said, moved}
use Rattle.handler_ops.specs.Conditions.{CameFor}
use Rattle.handler_ops.specs.NextRow.{row_of}
use Rattle.handler_ops.specs.Sessions.{Session as Chair}
use Rattle.handler_ops.specs.Told.{step_as, handed_as}
use Rattle.handler_ops.proofs.Rows.{step_leads}
use Rattle.handler_ops.proofs.RowSteps.{step_of_row}
use Rattle.cpu_program.specs.Actors.{Processor, OfProcessor}
use Rattle.cpu_program.specs.Processors.{is_relaxed, can_serve, with_need}
use Rattle.rendezvous_core.specs.Worlds.{turn, turned}
use Rattle.rendezvous_machine.specs.Machines.{Machine, Session, member}
use Rattle.rendezvous_machine.specs.Listed.{CanSay, grown}
use Rattle.rendezvous_machine.specs.Rules.{Rule}
use Rattle.rendezvous_machine.specs.Effects.{effect, says}
use Rattle.rendezvous_machine.specs.Services.{setting}
use Rattle.rendezvous_laws.proofs.Places.{sound_with}
use Rattle.schedule_laws.proofs.Scenes.{Scene, Seat, seat, actors_of, world_of}
use Rattle.schedule_laws.proofs.Leads.{serves_at}
use Rattle.schedule_laws.proofs.Invariant.{Context, IsReady, IsServing, IsFine, Kept, with_done, mode_of, serves_from, begins_from, globe, sizes, view}
use Rattle.schedule_laws.proofs.Frames.{mode_le}
use Rattle.schedule_laws.proofs.LeadFrames.{at_stage}
use Rattle.schedule_laws.proofs.SessionFrames.{bsp_says, session_map}
use Rattle.schedule_laws.proofs.HandlerSteps.{seat_in, SeatsBoth}
use Rattle.schedule_laws.proofs.HandlerPlaces.{IsNext, next_both, alike, tied, serves_is, can_say, led_on}
use Rattle.schedule_laws.proofs.HandlerSays.{Asks, plain_rule, plain_effect}
use Rattle.schedule_laws.proofs.HandlerRows.{Says, RowFits}
use Rattle.schedule_laws.proofs.HandlerLandings.{IsLeading, IsAnswered, serving_processor, next_told, serves_low, serves_high}
use Rattle.schedule_laws.proofs.HandlerFrames.{moves_on, words_on, session_on, totals_on, cpu_on, run_on, idle_on, sized_on, answers}

-- THE CONTEXT AFTER A LABEL

abbrev pub course_said : SetupData → Context → Label → Course
course_said d c l = record { place = next (program_of d) c.chair.course.place (Own l); marked = false }

-- the state of serving with this course, whose next row is told with these desks
abbrev pub chair_told : SetupData → Context → Desks → Course → Chair
chair_told d c held course = record { setup = d; me = c.bsp; course = course; told = row_of (setting d c.bsp) held course }

abbrev pub said_on : SetupData → Context → Desks → Label → Context
said_on d c held l = moves_on c held (chair_told d c held (course_said d c l)) (next (program_of d) c.place (Own l)) (grown (Own l) c.session.serving)

abbrev pub machine_said : Context → Machine → Label → Machine
machine_said c m l = record m { session = Some (says l c.session) }

-- the processor that was told the next need
abbrev pub told_processor : SetupData → Context → Seat → Processor
told_processor d c t = with_need (can_serve d.processors c.chair.told (handed_as c.chair.told c.held)) (serving_processor d c t (handed_as c.chair.told c.held))

-- the label of a row is one that the place takes
pub accepted : (d : SetupData) (c : Context) (r : Row) (found : ℕ) (now : Desks) (l : Label) → IsServing d c → c.chair.told ≡ r
    → (step_as (setting d c.bsp) c.chair.course.place.state r).on found now ≡ Speaks l → Accepts (program_of d) c.chair.course.place (Own l)
accepted d c r found now l v e h =
    let x = setting d c.bsp in
    let k : Course = c.chair.course in
    let is : (step_of x c.held k).on found now ≡ Speaks l =
    ap (λ (y : Step). y.on found now) (sym (step_of_row x c.held k) ∙ ap (λ (y : Row). step_as x k.place.state y) (sym v.told ∙ e)) ∙ h in
    let P : Move → Type 0 = λ (y : Move). CameFor k.place.state y now → Leads (program_of d) k.place (said y now) (moved x k y now).place in
    (subst P is (step_leads x c.held k found now v.sound) tt).0

-- a label of this kind leaves the jobs
pub plain_seats : (d : SetupData) (m : Machine) (i : ℕ) (l : Label) (qs qs' rs rs' : List JobSeat) → Asks d m i l → SeatsBoth l qs qs' rs rs' → (qs' ≡ qs) × (rs' ≡ rs)
plain_seats d m i (say.Start c j p a) qs qs' rs rs' h k = absurd h
plain_seats d m i (say.Collect c) qs qs' rs rs' h k = absurd h
plain_seats d m i _ qs qs' rs rs' h k = k

module _ (d : SetupData) (c : Context) (s : Scene) (m : Machine) (l : Label) (f : IsReady d (at_stage c (serves_at (is_relaxed d.mode)) 0) s m) (v : IsServing d c) (may : Says d c m l) (takes : Accepts (program_of d) c.chair.course.place (Own l)) where
  abbrev stage : ℕ
  stage = serves_at (is_relaxed d.mode)

  some : 1 ≤ stage
  some = let a = serves_low (is_relaxed d.mode) in omega (arith, a)

  few : stage ≤ 19
  few = let a = serves_high (is_relaxed d.mode) in omega (arith, a)

  late : begins_from (mode_of d) < stage
  late = let a = serves_is (is_relaxed d.mode) in let b = mode_le d in omega (arith, a, b)

  at : serves_from (mode_of d) ≤ stage
  at = let a = serves_is (is_relaxed d.mode) in omega (arith, a)

  both : IsNext d l c.chair.course.place c.place
  both =
      let t = tied d c stage s m (serves_is (is_relaxed d.mode)) f v.goes_on v.own in
      next_both d f.platform.handlers c.chair.course.place c.place l t.same (alike d c m t) t.size may.1 v.fits takes

  seats : ((course_said d c l).place.state.seats ≡ c.chair.course.place.state.seats) × ((next (program_of d) c.place (Own l)).state.seats ≡ c.place.state.seats)
  seats = plain_seats d m c.bsp l _ _ _ _ may.0 both.seats

  said_ready : IsReady d (at_stage (said_on d c c.held l) stage 0) s (machine_said c m l)
  said_ready =
      let c1 : Context = at_stage c stage 0 in
      let k : Chair = chair_told d c c.held (course_said d c l) in
      let q : Place = next (program_of d) c.place (Own l) in
      let es = grown (Own l) c.session.serving in
      record {
        platform = f.platform;
        sized = sized_on c1 c.held k q es d (sizes s m) (f.sized.held some) f.sized;
        words = words_on c1 c.held k q es d (globe s m) some few f.words;
        session = session_on c1 c.held k q es (mode_of d) late f.session;
        course = record {
          setup = refl;
          size = ap (λ (qs : List JobSeat). length qs) seats.0 ∙ f.course.size;
          registered = λ z. absurd (let a = late in omega (arith, z, a));
          pooled = λ z. absurd (let a = late in omega (arith, z, a));
          me = λ _. refl;
          led = λ z. led_on d c.wave m.registrations m.pool c.place c.session.serving (Own l) (f.course.led z) both.accepts;
          listed = λ _. both.listed;
          over = λ z. absurd (let a = serves_is (is_relaxed d.mode) in omega (arith, z, a));
        };
        chipset = f.chipset;
        totals = totals_on c1 c.held k q es s.words.counter (get_or s.words.run c.bsp 0) _ _ _ f.totals;
        each = λ j n. cpu_on c1 c.held k q es d m.waves j (view s m j) refl (f.each j n);
        runs = λ j n z. run_on c1 c.held k q es j (view s m j) (get_or s.words.run j 0) (f.runs j n z);
        jobs = λ j n z.
            let g = f.jobs j n z in
            let back = ap (λ (qs : List JobSeat). has_job (seat_in qs j)) (sym seats.0) in
            record {
              procedure = g.procedure;
              free = λ y h. g.free y (back ∙ h);
              given = λ y h. subst (λ (qs : List JobSeat). IsSomeAnd (member m j).job (λ x. HasOpen (seat_in qs j) x.number)) (sym seats.0) (g.given y (back ∙ h));
              listed = λ y _. ap (λ (rs : List JobSeat). seat_in rs j) seats.1 ∙ g.listed y v.goes_on ∙ ap (λ (qs : List JobSeat). with_done (member m j).job (seat_in qs j)) (sym seats.0);
            };
        idle = λ j n z. idle_on c1 c.held k q es d j (seat s j) some (globe s m) f.words z (f.idle j n z);
        signals = f.signals;
        busies = f.busies;
      }

  said_answered : IsAnswered d (said_on d c c.held l) s (machine_said c m l)
  said_answered =
      answers d (said_on d c c.held l) s (machine_said c m l) said_ready
      (sound_with (setting d c.bsp) (is_held c.held) c.chair.course.place.state (course_said d c l).place.state seats.0 v.sound)
      both.fits
      (ap (λ (rs : List JobSeat). seat_in rs c.bsp) seats.1 ∙ v.own ∙ ap (λ (qs : List JobSeat). seat_in qs c.bsp) (sym seats.0))
      refl

  -- the rule, and the world after the label
  pub says_kept : (t : Seat) → IsLeading c s t → get_or c.held c.bsp None ≡ get_or t.held c.bsp None
      → Rule d m c.bsp l × IsFine d (record { words = s.words; lying = s.lying; actors = slice_set (actors_of d s) c.bsp (OfProcessor (told_processor d (said_on d c c.held l) t)) }) (effect d m c.bsp l)
  says_kept t lead own =
      let c1 : Context = at_stage c stage 0 in
      let low = serves_low (is_relaxed d.mode) in
      let can : CanSay d m l c.session =
      can_say d c.wave m.registrations m.pool c.place c.session.served c.session.serving l (f.session.served (omega (arith, low))) (f.course.led at) both.accepts in
      let after : effect d m c.bsp l ≡ machine_said c m l =
      plain_effect d m c.bsp l may.0 ∙ ap (λ (o : Option Session). record m { session = o }) (session_map m.session c.session (says l) (f.words.session some)) in (
        plain_rule d m c.bsp l may.0 (bsp_says d c1 s m (CanSay d m l) f some can),
        subst (λ (n : Machine). IsFine d (record { words = s.words; lying = s.lying; actors = slice_set (actors_of d s) c.bsp (OfProcessor (told_processor d (said_on d c c.held l) t)) }) n) (sym after)
            (next_told d (said_on d c c.held l) s (machine_said c m l) t said_answered
            (record { seat_is = lead.seat_is; leads = lead.leads; wave = lead.wave; blocked = lead.blocked; listed = lead.listed }) own),
      )

-- THE ROWS

-- the server's processor as it was told a row
abbrev pub at_row : SetupData → Context → Seat → Row → Processor
at_row d c t r = record (serving_processor d c t (handed_as r c.held)) { chair = Some (record { setup = d; me = c.bsp; course = c.chair.course; told = r }) }

-- its turn
abbrev pub RowKept : SetupData → Context → Scene → Machine → Seat → Row → Type 0
RowKept d c s m t r = Kept d m c.bsp (turned (world_of d s) c.bsp (turn s.words s.lying c.bsp (OfProcessor (at_row d c t r))))

-- what a row may count on
pub record IsTold (d : SetupData) (c : Context) (s : Scene) (m : Machine) (t : Seat) (r : Row) : Type 0 where
  pub ready : IsReady d (at_stage c (serves_at (is_relaxed d.mode)) 0) s m
  pub serving : IsServing d c
  pub leading : IsLeading c s t
  pub told : c.chair.told ≡ r
  pub fits : RowFits d c s m r
  pub own : get_or c.held c.bsp None ≡ get_or t.held c.bsp None

alloc_says : (d : SetupData) (c : Context) (m : Machine) (n : ℕ) (r : Result ℕ PoolError) → Says d c m (alloc_label n r)
alloc_says d c m n (Ok place) = (tt, tt)
alloc_says d c m n (Err e) = (tt, tt)

module _ (d : SetupData) (c : Context) (s : Scene) (m : Machine) (t : Seat) where
  pub looking : (l : Label) → IsTold d c s m t (told.Looking l) → RowKept d c s m t (told.Looking l)
  looking l h =
      let a = accepted d c (told.Looking l) s.words.inside c.held l h.serving h.told refl in
      let k = says_kept d c s m l h.ready h.serving h.fits a t h.leading h.own in (refl, k.0, k.1)

  pub allocating : (n : ℕ) → IsTold d c s m t (told.Allocating n) → RowKept d c s m t (told.Allocating n)
  allocating n h =
      let r = (allocated n c.chair.course.place.state.pool).0 in
      let a = accepted d c (told.Allocating n) s.words.inside c.held (alloc_label n r) h.serving h.told refl in
      let k = says_kept d c s m (alloc_label n r) h.ready h.serving (alloc_says d c m n r) a t h.leading h.own in (refl, k.0, k.1)

  pub freeing : (n : ℕ) → IsTold d c s m t (told.Freeing n) → RowKept d c s m t (told.Freeing n)
  freeing n h =
      let a = accepted d c (told.Freeing n) s.words.inside c.held _ h.serving h.told refl in
      let k = says_kept d c s m _ h.ready h.serving (tt, tt) a t h.leading h.own in (refl, k.0, k.1)

  -- a claim that doesn't find what it is for
  pub desk_missing : (x : ℕ) (l : Label) → IsTold d c s m t (told.ClaimingDesk x l) → get_or s.words.present x 0 ≢ 1 → RowKept d c s m t (told.ClaimingDesk x l)
  desk_missing x l h z =
      let y : ℕ = get_or s.words.present x 0 in
      let no = ne_eqb y 1 z in
      let a = accepted d c (told.ClaimingDesk x l) y c.held l h.serving h.told (simp no refl) in
      let k = says_kept d c s m l h.ready h.serving (h.fits.4 z) a t h.leading h.own in simp no (refl, k.0, k.1)

  pub job_missing : (x : ℕ) (l : Label) → IsTold d c s m t (told.ClaimingJob x l) → get_or s.words.busy x 0 ≢ 2 → RowKept d c s m t (told.ClaimingJob x l)
  job_missing x l h z =
      let y : ℕ = get_or s.words.busy x 0 in
      let no = ne_eqb y 2 z in
      let a = accepted d c (told.ClaimingJob x l) y c.held l h.serving h.told (simp no refl) in
      let k = says_kept d c s m l h.ready h.serving (h.fits.2 z) a t h.leading h.own in simp no (refl, k.0, k.1)

-- The rows at which the server collects a job: it claims the word `busy` of its processor, or waits for it, and receives the desk.
use Rattle.std.proofs.Common.{ℕ, ◌≡◌, ◌≢◌, ◌<◌, ◌≤◌, ◌⊎◌, inl, arith, Bool, true, false, List, [], ◌∷◌, length, get_or, slice_set, Option, Some, None, refl, sym, ap, subst, ⊎_elim, ◌∙◌}
use Rattle.std.specs.Prelude.{is_some, IsSome, IsSomeAnd, option_map}
use Rattle.std.proofs.lemmas.Bool.{cases_eq, cases_Bool, eq-eqb, ne_eqb}
use Rattle.std.proofs.lemmas.List.{get_or-set_other, get_or-set_same, length-set, set-set}
use Rattle.smm_base.specs.declared.kinds.HandlerType.{HandlerType}
use Rattle.cpu_table.specs.Data.{SetupData}
use Rattle.sync_words.specs.declared.label.Label.{Label}
use Rattle.sync_words.specs.declared.label.Label.TheVariants as say
use Rattle.handler_ops.specs.declared.desk.Desk.{Desk}
use Rattle.handler_ops.specs.declared.desk.Job.{Job}
use Rattle.handler_ops.specs.declared.row.Row.{Row}
use Rattle.handler_ops.specs.declared.row.Row.TheVariants as told
use Rattle.serving_place.specs.declared.seat.Seat.{Seat as JobSeat}
use Rattle.serving_place.specs.declared.seat.Seat.TheVariants.{Free}
use Rattle.serving_place.specs.Serving.{HasOpen, IsFree, IsDone, run_at}
use Rattle.serving_place.specs.Forms.{Event, Own, Ran}
use Rattle.serving_place.specs.Beginning.{program_of}
use Rattle.serving_place.specs.Places.{OpenWalk, Begun, Place, HasMore, Accepts, next}
use Rattle.serving_place.specs.Stands.{Leads}
use Rattle.handler_ops.specs.Course.{Course, Desks, Move, Takes, Step, desk_of, has_job, is_held, done_on, with_run, after_all, step_of, said, moved}
use Rattle.handler_ops.specs.Conditions.{IsSound, HasCome, CameFor}
use Rattle.handler_ops.specs.Told.{step_as}
use Rattle.serving_place.proofs.Completion.{owner_ran}
use Rattle.handler_ops.proofs.Dues.{held_is}
use Rattle.handler_ops.proofs.Rows.{step_leads}
use Rattle.handler_ops.proofs.RowSteps.{step_of_row}
use Rattle.cpu_program.specs.declared.cargo.Cargo.TheVariants as cargo
use Rattle.cpu_program.specs.Actors.{OfProcessor}
use Rattle.cpu_program.specs.Hands.{is_kind}
use Rattle.cpu_program.specs.Processors.{is_relaxed}
use Rattle.rendezvous_machine.specs.Machines.{Machine, Member, Session, member, nobody}
use Rattle.rendezvous_machine.specs.Listed.{CanSay, IsServed, grown, is_over, nothing_left, place_of}
use Rattle.rendezvous_machine.specs.Rules.{Rule, IsLeast}
use Rattle.rendezvous_machine.specs.Effects.{effect, hears, with_job}
use Rattle.rendezvous_machine.specs.Services.{setting}
use Rattle.schedule_laws.proofs.Scenes.{Scene, Seat, actors_of}
use Rattle.schedule_laws.proofs.Stations.{work_of}
use Rattle.schedule_laws.proofs.Leads.{serves_at}
use Rattle.schedule_laws.proofs.Invariant.{Context, IsCourse, IsJobOf, IsFine, Holds, begins_from, serves_from, mode_of, with_done, seat_known, seat_listed, desk_at}
use Rattle.schedule_laws.proofs.Frames.{mode_le, stays}
use Rattle.schedule_laws.proofs.Facts.{true_false}
use Rattle.schedule_laws.proofs.LeadFrames.{at_stage}
use Rattle.schedule_laws.proofs.SessionFrames.{bsp_says}
use Rattle.schedule_laws.proofs.ImageKinds.{is_same_kind}
use Rattle.schedule_laws.proofs.HandlerSteps.{seat_in, IsAlike}
use Rattle.schedule_laws.proofs.HandlerPlaces.{IsTied, IsNext, next_both, alike, tied, serves_is, can_say, led_on}
use Rattle.schedule_laws.proofs.HandlerLandings.{next_told, serves_low}
use Rattle.schedule_laws.proofs.HandlerFrames.{place_at, answers}
use Rattle.schedule_laws.proofs.HandlerLooks.{IsTold, RowKept, chair_told, told_processor}
use Rattle.schedule_laws.proofs.JobDesks.{IsFinished, finished_job, held_back, scene_back, machine_back, context_back, ready_back}

goes_left : (kinds : List HandlerType) (walks : List OpenWalk) (b : Option Begun) → HasMore kinds walks b → nothing_left kinds walks b ≡ false
goes_left [] [] None h = absurd h
goes_left (k ∷ ks) walks b h = refl
goes_left [] (w ∷ ws) b h = refl
goes_left [] [] (Some b) h = refl

module _ (d : SetupData) (c : Context) (s : Scene) (m : Machine) (t : Seat) (r : Row) (x : ℕ) (h : IsTold d c s m t r) (there : x < d.processors) (busy : get_or s.words.busy x 0 ≡ 2) (finished : IsFinished (member m x).job) where
  abbrev stage : ℕ
  stage = serves_at (is_relaxed d.mode)

  abbrev label : Label
  label = say.Collect x

  abbrev known : Place
  known = c.chair.course.place

  -- the server learns what the job gave as it collects it
  abbrev ran : Place
  ran = next (program_of d) known (Ran x finished.job.number finished.answer.0 finished.answer.1)

  abbrev collected : Place
  collected = next (program_of d) ran (Own label)

  abbrev listed : Place
  listed = next (program_of d) c.place (Own label)

  abbrev held : Desks
  held = held_back c m x

  abbrev course : Course
  course = record { place = collected; marked = false }

  abbrev list : Option (List Event)
  list = grown (Own label) c.session.serving

  abbrev to : Context
  to = context_back c m x (chair_told d c held course) listed list

  abbrev scene : Scene
  scene = scene_back s x

  abbrev machine : Machine
  machine = machine_back c m x list

  -- the desk that lies on the word
  abbrev desk : Desk
  desk = desk_at (member m x).image (Some (record finished.job { done = Some finished.answer }))

  abbrev seat_ran : JobSeat
  seat_ran = run_at (seat_known c x) finished.answer.0 finished.answer.1

  two : work_of (member m x).job ≡ 2
  two = (h.ready.busies x there).finished busy

  other : x ≢ c.bsp
  other = λ z. let idle = ((h.ready.each x there).leader z).work in let a = two in absurd (omega (arith, idle, a))

  own : c.bsp ≢ x
  own = λ z. other (sym z)

  ties : IsTied d c m
  ties = tied d c stage s m (serves_is (is_relaxed d.mode)) h.ready h.serving.goes_on h.serving.own

  owed : has_job (seat_known c x) ≡ true
  owed =
      let a = two in
      ⊎_elim
      (λ (z : has_job (seat_known c x) ≡ true). z)
      (λ (z : has_job (seat_known c x) ≡ false). absurd (let b = ties.free x there other z in omega (arith, a, b)))
      (cases_Bool (has_job (seat_known c x)))

  open_known : HasOpen (seat_known c x) finished.job.number
  open_known = subst (λ (o : Option Job). IsSomeAnd o (λ y. HasOpen (seat_known c x) y.number)) finished.is (ties.given x there other owed)

  there_known : x < length known.state.seats
  there_known = let a = ties.size in omega (arith, a, there)

  there_listed : x < length c.place.state.seats
  there_listed = let a = ties.listed_size in omega (arith, a, there)

  size_ran : length ran.state.seats ≡ d.processors
  size_ran = length-set known.state.seats x seat_ran ∙ ties.size

  alike_ran : IsAlike ran.state.seats c.place.state.seats
  alike_ran =
      let a = alike d c m ties in
      record {
        size = a.size ∙ sym (length-set known.state.seats x seat_ran);
        owner_is = λ n. a.owner_is n ∙ sym (owner_ran n finished.answer.0 x finished.answer.1 known.state.seats);
      }

  agrees_ran : seat_in c.place.state.seats x ≡ seat_in ran.state.seats x
  agrees_ran =
      ties.listed x there other ∙ ap (λ (o : Option Job). with_done o (seat_known c x)) finished.is
      ∙ sym (get_or-set_same known.state.seats x seat_ran Free there_known)

  -- the desk that came has the job that is collected: the place takes its collect
  takes : (found : ℕ) (now : Desks) → desk_of now x ≡ Some desk → (step_as (setting d c.bsp) known.state r).on found now ≡ Takes x → Accepts (program_of d) ran (Own label)
  takes found now came is =
      let y = setting d c.bsp in
      let k : Course = c.chair.course in
      let step : (step_of y c.held k).on found now ≡ Takes x =
      ap (λ (z : Step). z.on found now) (sym (step_of_row y c.held k) ∙ ap (λ (z : Row). step_as y known.state z) (sym h.serving.told ∙ h.told)) ∙ is in
      let P : Move → Type 0 = λ (z : Move). CameFor known.state z now → Leads (program_of d) known (said z now) (moved y k z now).place in
      let Q : Option Desk → Type 0 = λ (o : Option Desk). HasCome known.state x (done_on o) → Leads (program_of d) known (with_run x (done_on o)) (after_all (program_of d) known (with_run x (done_on o))) in
      let leads : Q (desk_of now x) = subst P step (step_leads y c.held k found now h.serving.sound) in
      let led = subst Q came leads open_known in led.1.0

  -- what becomes of the world
  module _ (may : Accepts (program_of d) ran (Own label)) where
    both : IsNext d label ran c.place
    both =
        next_both d h.ready.platform.handlers ran c.place label ties.same alike_ran size_ran agrees_ran
        (record { walks = h.serving.fits.walks; begun = h.serving.fits.begun }) may

    known_other : (j : ℕ) → j ≢ x → seat_in collected.state.seats j ≡ seat_known c j
    known_other j n =
        ap (λ (qs : List JobSeat). seat_in qs j) both.seats.0 ∙ get_or-set_other ran.state.seats x j Free Free n ∙ get_or-set_other known.state.seats x j seat_ran Free n

    known_free : seat_in collected.state.seats x ≡ Free
    known_free =
        ap (λ (qs : List JobSeat). seat_in qs x) both.seats.0 ∙ get_or-set_same ran.state.seats x Free Free (let a = size_ran in omega (arith, a, there))

    listed_other : (j : ℕ) → j ≢ x → seat_in listed.state.seats j ≡ seat_listed c j
    listed_other j n = ap (λ (qs : List JobSeat). seat_in qs j) both.seats.1 ∙ get_or-set_other c.place.state.seats x j Free Free n

    listed_free : seat_in listed.state.seats x ≡ Free
    listed_free = ap (λ (qs : List JobSeat). seat_in qs x) both.seats.1 ∙ get_or-set_same c.place.state.seats x Free Free there_listed

    size_known : length collected.state.seats ≡ d.processors
    size_known = ap (λ (qs : List JobSeat). length qs) both.seats.0 ∙ length-set ran.state.seats x Free ∙ size_ran

    course_after : IsCourse d (at_stage to stage 0) m.registrations m.pool
    course_after =
        let f = h.ready in
        let is = serves_is (is_relaxed d.mode) in
        let le = mode_le d in
        let late : begins_from (mode_of d) < stage = omega (arith, is, le) in
        record {
          setup = refl;
          size = size_known;
          registered = λ z. absurd (omega (arith, z, late));
          pooled = λ z. absurd (omega (arith, z, late));
          me = λ _. refl;
          led = λ z. led_on d c.wave m.registrations m.pool c.place c.session.serving (Own label) (f.course.led z) both.accepts;
          listed = λ _. both.listed;
          over = λ z. absurd (omega (arith, is, z));
        }

    job_none : IsJobOf d (at_stage to stage 0) x None
    job_none =
        record {
          procedure = λ z. absurd (omega (arith, z));
          free = λ _ _. refl;
          given = λ _ z. absurd (true_false (has_job (seat_in collected.state.seats x)) z (ap has_job known_free));
          listed = λ _ _. listed_free ∙ sym known_free;
        }

    job_other : (j : ℕ) → j < d.processors → j ≢ c.bsp → j ≢ x → IsJobOf d (at_stage to stage 0) j (member m j).job
    job_other j l b n =
        let g = h.ready.jobs j l b in
        let back = known_other j n in
        record {
          procedure = g.procedure;
          free = λ y z. g.free y (sym (ap has_job back) ∙ z);
          given = λ y z. subst (λ (p : JobSeat). IsSomeAnd (member m j).job (λ a. HasOpen p a.number)) (sym back) (g.given y (sym (ap has_job back) ∙ z));
          listed = λ y _. listed_other j n ∙ g.listed y h.serving.goes_on ∙ ap (λ (p : JobSeat). with_done (member m j).job p) (sym back);
        }

    jobs_after : (j : ℕ) → j < d.processors → j ≢ c.bsp → IsJobOf d (at_stage to stage 0) j (member machine j).job
    jobs_after j l b =
        let new : Member = record (member m x) { job = None } in
        let size : x < length m.members = (let a = h.ready.sized.members in omega (arith, a, there)) in
        ⊎_elim
        (λ (z : j ≡ x). subst (λ (i : ℕ). IsJobOf d (at_stage to stage 0) i (member machine i).job) (sym z)
        (subst (λ (y : Member). IsJobOf d (at_stage to stage 0) x y.job) (sym (get_or-set_same m.members x new nobody size)) job_none))
        (λ (z : j ≢ x). subst (λ (y : Member). IsJobOf d (at_stage to stage 0) j y.job) (sym (get_or-set_other m.members x j new nobody z)) (job_other j l b z))
        (cases_eq j x)

    sound_after : IsSound (setting d c.bsp) (is_held held) collected.state
    sound_after =
        let v = h.serving.sound in
        let same : (j : ℕ) → j ≢ x → is_held held j ≡ is_held c.held j =
        (λ j n. held_is held j ∙ ap (λ (o : Option Desk). is_some o) (get_or-set_other c.held x j (Some (desk_at (member m x).image None)) None n) ∙ sym (held_is c.held j)) in
        record {
          size = size_known;
          mine = same c.bsp own ∙ v.mine;
          idle = λ j e.
              ⊎_elim
              (λ (z : j ≡ x). subst (λ (i : ℕ). IsFree (seat_in collected.state.seats i)) (sym z) (subst (λ (p : JobSeat). IsFree p) (sym known_free) tt))
              (λ (z : j ≢ x). subst (λ (p : JobSeat). IsFree p) (sym (known_other j z)) (v.idle j (sym (same j z) ∙ e)))
              (cases_eq j x);
          undone = λ j e.
              ⊎_elim
              (λ (z : j ≡ x). subst (λ (p : JobSeat). IsDone p) known_free (subst (λ (i : ℕ). IsDone (seat_in collected.state.seats i)) z e))
              (λ (z : j ≢ x). v.undone j (subst (λ (p : JobSeat). IsDone p) (known_other j z) e))
              (cases_eq j x);
        }

    fine : IsFine d (record { words = scene.words; lying = scene.lying; actors = slice_set (actors_of d s) c.bsp (OfProcessor (told_processor d to t)) }) machine
    fine =
        let lead = h.leading in
        next_told d to scene machine t
        (answers d to scene machine (ready_back d c s m x (chair_told d c held course) listed list h.ready there busy course_after jobs_after) sound_after both.fits
        (listed_other c.bsp own ∙ h.serving.own ∙ sym (known_other c.bsp own)) refl)
        (record { seat_is = lead.seat_is; leads = lead.leads; wave = lead.wave; blocked = lead.blocked; listed = lead.listed })
        (get_or-set_other c.held x c.bsp (Some (desk_at (member m x).image None)) None own ∙ h.own)

    -- the machine's list isn't whole, and grows by the collect
    effect_is : effect d m c.bsp label ≡ machine
    effect_is =
        let low = serves_low (is_relaxed d.mode) in
        let on : is_over (place_of d m) ≡ false =
        ap is_over (place_at d c stage s m (serves_is (is_relaxed d.mode)) (omega (arith, low)) h.ready ∙ ties.same) ∙ goes_left known.kinds known.walks known.begun h.serving.goes_on in
        let session : m.session ≡ Some c.session = h.ready.words.session (omega (arith, low)) in
        ap (λ (b : Bool). record (with_job x None m) { session = option_map (hears b (Own label)) m.session }) on
        ∙ ap (λ (o : Option Session). record (with_job x None m) { session = option_map (hears false (Own label)) o }) session

    rule : Rule d m c.bsp label
    rule =
        let f = h.ready in
        let low = serves_low (is_relaxed d.mode) in
        let some : 1 ≤ stage = omega (arith, low) in
        let at : serves_from (mode_of d) ≤ stage = (let a = serves_is (is_relaxed d.mode) in omega (arith, a)) in
        let can : CanSay d m label c.session =
        can_say d c.wave m.registrations m.pool c.place c.session.served c.session.serving label (f.session.served (omega (arith, low))) (f.course.led at) both.accepts in (
          bsp_says d (at_stage c stage 0) s m (λ y. CanSay d m label y ⊎ (IsServed d m y × IsLeast m x)) f some (inl can),
          subst (λ (o : Option Job). IsSomeAnd o (λ y. IsSome y.done)) (sym finished.is) refl,
        )

    pub collects : Rule d m c.bsp label × IsFine d (record { words = scene.words; lying = scene.lying; actors = slice_set (actors_of d s) c.bsp (OfProcessor (told_processor d to t)) }) (effect d m c.bsp label)
    collects =
        (rule, subst (λ (n : Machine). IsFine d (record { words = scene.words; lying = scene.lying; actors = slice_set (actors_of d s) c.bsp (OfProcessor (told_processor d to t)) }) n) (sym effect_is) fine)

  lies : get_or s.lying.busy x None ≡ Some (cargo.Desk desk)
  lies = (h.ready.busies x there).lies two ∙ ap (λ (o : Option Job). Some (cargo.Desk (desk_at (member m x).image o))) finished.is

  kind : is_kind (member m x).image.kind d.kind ≡ true
  kind = is_same_kind (member m x).image.kind d.kind (h.ready.each x there).self.kind

  came : get_or (slice_set c.held x (Some desk)) x None ≡ Some desk
  came = let low = serves_low (is_relaxed d.mode) in get_or-set_same c.held x (Some desk) None (let a = h.ready.sized.held (omega (arith, low)) in omega (arith, a, there))

  twice : slice_set (slice_set c.held x (Some desk)) x (Some (desk_at (member m x).image None)) ≡ held
  twice = set-set c.held x (Some desk) (Some (desk_at (member m x).image None))

  pub claims : (l : Label) → r ≡ told.ClaimingJob x l → RowKept d c s m t (told.ClaimingJob x l)
  claims l e =
      let v : ℕ = get_or s.words.busy x 0 in
      let one = eq-eqb v 2 busy in
      let now : Desks = slice_set c.held x (Some desk) in
      let k = collects (takes v now came (ap (λ (y : Row). (step_as (setting d c.bsp) known.state y).on v now) e ∙ (simp one refl))) in
      simp (one, lies, kind, came, twice) (refl, k.0, k.1)

  pub awaits : r ≡ told.AwaitingJob x → RowKept d c s m t (told.AwaitingJob x)
  awaits e =
      let v : ℕ = get_or s.words.busy x 0 in
      let one = eq-eqb v 2 busy in
      let now : Desks = slice_set c.held x (Some desk) in
      let k = collects (takes v now came (ap (λ (y : Row). (step_as (setting d c.bsp) known.state y).on v now) e)) in
      simp (one, lies, kind, came, twice) (refl, k.0, k.1)

pub job_claimed : (d : SetupData) (c : Context) (s : Scene) (m : Machine) (t : Seat) (x : ℕ) (l : Label) → IsTold d c s m t (told.ClaimingJob x l) → get_or s.words.busy x 0 ≡ 2
    → RowKept d c s m t (told.ClaimingJob x l)
job_claimed d c s m t x l h busy =
    let there = h.fits.0 in
    claims d c s m t (told.ClaimingJob x l) x h there busy (finished_job (member m x).job ((h.ready.busies x there).finished busy)) l refl

-- where the word isn't 2 the BSP waits
pub job_awaited : (d : SetupData) (c : Context) (s : Scene) (m : Machine) (t : Seat) (x : ℕ) → Holds d (at_stage c (serves_at (is_relaxed d.mode)) 0) s m
    → IsTold d c s m t (told.AwaitingJob x) → RowKept d c s m t (told.AwaitingJob x)
job_awaited d c s m t x k h =
    ⊎_elim
    (λ (z : get_or s.words.busy x 0 ≡ 2). awaits d c s m t (told.AwaitingJob x) x h h.fits z (finished_job (member m x).job ((h.ready.busies x h.fits).finished z)) refl)
    (λ (z : get_or s.words.busy x 0 ≢ 2). let no = ne_eqb (get_or s.words.busy x 0) 2 z in simp no (stays d (at_stage c (serves_at (is_relaxed d.mode)) 0) s m k))
    (cases_eq (get_or s.words.busy x 0) 2)

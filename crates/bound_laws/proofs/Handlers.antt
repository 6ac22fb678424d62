-- What an event of the BSP spends as it serves, row by row.
use Rattle.std.proofs.Common.{ℕ, zero, suc, ◌+◌, ◌-◌, ◌*◌, ◌≡◌, ◌≢◌, ◌<◌, ◌≤◌, arith, Bool, true, false, List, [], ◌∷◌, length, get_or, slice_set, Option, Some, None, Result, Ok, Err, refl, sym, ap, subst, ⊎_elim, ◌∙◌}
use Rattle.std.specs.Prelude.{◌==◌, ◌&&◌, if◌then◌else◌, option_map, is_some, IsSomeAnd}
use Rattle.std.proofs.lemmas.Bool.{cases_eq, cases_Bool, eq-eqb, ne_eqb}
use Rattle.std.proofs.lemmas.List.{get_or-set_other, get_or-set_same}
use Rattle.smm_base.specs.declared.status.Status.{Status}
use Rattle.smm_base.specs.declared.kinds.HandlerType.{HandlerType}
use Rattle.cpu_table.specs.Data.{SetupData}
use Rattle.cpu_table.specs.declared.handlers.OpDef.{OpDef}
use Rattle.cpu_table.specs.declared.handlers.OpDef.TheVariants as op
use Rattle.sync_words.specs.declared.access.Access.TheVariants as access
use Rattle.sync_words.specs.declared.access.Applied.{Applied}
use Rattle.sync_words.specs.declared.access.Applied.TheVariants.{Changed, Same, NotReady}
use Rattle.sync_words.specs.declared.event.Hand.TheVariants.{Give}
use Rattle.sync_words.specs.declared.label.StartRefusal.{StartRefusal}
use Rattle.sync_words.specs.declared.label.Label.{Label}
use Rattle.sync_words.specs.declared.label.Label.TheVariants as say
use Rattle.sync_words.specs.declared.word.WordId.TheVariants as word
use Rattle.sync_words.specs.Access.{applied}
use Rattle.handler_registry.specs.Registrations.{Registrations}
use Rattle.smram_pool.specs.declared.error.PoolError.{PoolError}
use Rattle.smram_pool.specs.State.{PoolState, allocated}
use Rattle.handler_ops.specs.declared.desk.Desk.{Desk}
use Rattle.handler_ops.specs.declared.desk.Job.{Job}
use Rattle.handler_ops.specs.declared.reach.Reach.{Reach}
use Rattle.handler_ops.specs.declared.reach.Reach.TheVariants.{Outside, AtHand, Working, Elsewhere}
use Rattle.handler_ops.specs.declared.row.Row.{Row}
use Rattle.handler_ops.specs.declared.row.Row.TheVariants as told
use Rattle.serving_place.specs.declared.token.TokenState.{TokenState}
use Rattle.serving_place.specs.declared.token.TokenState.TheVariants.{NotOut, Uncollected, Collected}
use Rattle.serving_place.specs.Serving.{Serving, HasOpen}
use Rattle.serving_place.specs.Operations.{alloc_label}
use Rattle.serving_place.specs.Forms.{Own, Ran, Program}
use Rattle.serving_place.specs.Beginning.{program_of, at_begin}
use Rattle.serving_place.specs.Places.{Place, Accepts, next}
use Rattle.serving_place.specs.Stands.{Leads}
use Rattle.serving_place.specs.Setting.{Setting}
use Rattle.serving_place.specs.Due.{Due, Nothing, Saying, Awaiting, Doing, due}
use Rattle.handler_ops.specs.Course.{Course, Desks, JobDone, Move, Quiet, Speaks, Takes, Step, desk_of, has_job, done_on, with_run, step_of, said, moved as course_moved}
use Rattle.handler_ops.specs.Conditions.{HasCome, CameFor, beginning}
use Rattle.handler_ops.specs.NextRow.{desk_row, start_row, checking_row, waiting_row, operation_row, due_row, row_of}
use Rattle.handler_ops.specs.Told.{step_as, handed_as, with_job, read_at_hand, write_at_hand}
use Rattle.handler_ops.specs.Answering.{answered, taken_off, without_job, written_on, written}
use Rattle.handler_ops.specs.Sessions.{Session as Chair, setting_of}
use Rattle.handler_ops.proofs.Dues.{held_is}
use Rattle.handler_ops.proofs.Rows.{step_leads}
use Rattle.handler_ops.proofs.RowSteps.{step_of_row}
use Rattle.cpu_program.specs.declared.cargo.Cargo.{Cargo}
use Rattle.cpu_program.specs.declared.cargo.Cargo.TheVariants as cargo
use Rattle.cpu_program.specs.Actors.{OfProcessor, Processor}
use Rattle.cpu_program.specs.Programs.{gift_of}
use Rattle.cpu_program.specs.Hands.{is_kind}
use Rattle.cpu_program.specs.Processors.{is_relaxed, serve_on, job_to_run}
use Rattle.rendezvous_core.specs.Worlds.{Lying, accesses, gives, turn}
use Rattle.rendezvous_machine.specs.Machines.{Machine, member}
use Rattle.rendezvous_machine.specs.Services.{setting}
use Rattle.schedule_laws.proofs.Sums.{sum_below-change, sum_below-le}
use Rattle.schedule_laws.proofs.Stations.{work_of, bit}
use Rattle.schedule_laws.proofs.Scenes.{Scene, Seat, BeginningToServe, Leading, processor_at}
use Rattle.schedule_laws.proofs.Leads.{serves_at}
use Rattle.schedule_laws.proofs.Invariant.{Context, desk_at, seat_known}
use Rattle.schedule_laws.proofs.ImageKinds.{is_same_kind}
use Rattle.schedule_laws.proofs.JobDesks.{IsFinished, finished_job}
use Rattle.schedule_laws.proofs.HandlerPlaces.{IsTied, tied, serves_is}
use Rattle.schedule_laws.proofs.HandlerSays.{Asks}
use Rattle.schedule_laws.proofs.HandlerRows.{IsStart}
use Rattle.schedule_laws.proofs.HandlerLandings.{serves_low as serves_from_low}
use Rattle.schedule_laws.proofs.HandlerLooks.{IsTold, accepted, at_row}
use Rattle.bound_laws.proofs.Energies.{jobs_left, place_weight, jobs_weight, told_weight, vacant, vacancies, spare, rank, part_gives, waiting}
use Rattle.bound_laws.proofs.Places.{Fell, is_start, next_fell, ran_weight, more-le}
use Rattle.bound_laws.proofs.Leads.{LeadMoved, LeadTurn, Low, by_access, serves_low, told_weight-le, changed_vacancies, vacant-le}

-- an event that leaves the BSP with so little, and the others with what they had
pub moves_by : (d : SetupData) (s : Scene) (i : ℕ) (p q : Processor) (lying : Lying) (k g v : ℕ) → Low d q k g v → p.visits ≡ v → ((x : ℕ) → k + 1 ≤ rank d x p.part p.chair p.held) → g ≤ part_gives d p.part p.chair
    → ((j : ℕ) → 2 * g + waiting d (get_or lying.run j None) ≤ 2 * part_gives d p.part p.chair + waiting d (get_or s.lying.run j None)) → LeadMoved d s i p lying (OfProcessor q)
moves_by d s i p q lying k g v h e l b w = (
  λ x x'. let a = h.left x' in let c = l x in let u = ap (spare d) (h.begun ∙ sym e) in omega (arith, a, c, u),
  let a = h.gives in omega (arith, a, b),
  λ j n z. let a = h.gives in let c = w j in omega (arith, a, c),
  h.round,
)

-- LABELS

asks_plain : (d : SetupData) (m : Machine) (i : ℕ) (l : Label) → Asks d m i l → is_start l ≡ false
asks_plain d m i (say.Start c j p a) h = absurd h
asks_plain d m i _ h = refl

alloc_plain : (n : ℕ) (r : Result ℕ PoolError) → is_start (alloc_label n r) ≡ false
alloc_plain n (Ok place) = refl
alloc_plain n (Err e) = refl

plain_fell : (l : Label) (p q : Place) → is_start l ≡ false → Fell (is_start l) p q → Fell false p q
plain_fell l p q e h = subst (λ (b : Bool). Fell b p q) e h

-- a job that is collected, and was run just before
collect_fell : (program : Program) (p q : Place) (c : ℕ) (o : Option JobDone) → Leads program p (with_run c o) q → Fell false p q
collect_fell program p q c None h = subst (Fell false p) h.1 (next_fell program p (say.Collect c) h.0)
collect_fell program p q c (Some j) h =
    let r = ran_weight program p c j.number j.result j.status in
    let f = next_fell program (next program p (Ran c j.number j.result j.status)) (say.Collect c) h.1.0 in
    subst (Fell false p) h.1.1 (let a = r.0 in let b = r.1 in let e = r.2 in (omega (arith, a, b, f.0), omega (arith, e, f.1)))

-- DESKS

set_le : (held : Desks) (c j : ℕ) (desk : Desk) → vacant (get_or (slice_set held c (Some desk)) j None) ≤ vacant (get_or held j None)
set_le [] c j desk = omega arith
set_le (x ∷ xs) zero zero desk = omega arith
set_le (x ∷ xs) zero (suc j) desk = omega arith
set_le (x ∷ xs) (suc c) zero desk = omega arith
set_le (x ∷ xs) (suc c) (suc j) desk = set_le xs c j desk

came_vacancies : (n : ℕ) (held : Desks) (c : ℕ) (desk : Desk) → vacancies n (slice_set held c (Some desk)) ≤ vacancies n held
came_vacancies n held c desk =
    sum_below-le n (λ j. vacant (get_or (slice_set held c (Some desk)) j None)) (λ j. vacant (get_or held j None)) (λ j l. set_le held c j desk)

-- a desk that wasn't there
claimed_vacancies : (n : ℕ) (held : Desks) (c : ℕ) (desk : Desk) → c < n → c < length held → get_or held c None ≡ None → vacancies n (slice_set held c (Some desk)) + 1 ≡ vacancies n held
claimed_vacancies n held c desk l size none =
    let F : ℕ → ℕ = λ j. vacant (get_or held j None) in
    let G : ℕ → ℕ = λ j. vacant (get_or (slice_set held c (Some desk)) j None) in
    let change = sum_below-change n F G c l (λ j k q. ap vacant (sym (get_or-set_other held c j (Some desk) None q))) in
    let f : F c ≡ 1 = ap vacant none in
    let g : G c ≡ 0 = ap vacant (get_or-set_same held c (Some desk) None size) in
    omega (arith, change, f, g)

given_vacancies : (n : ℕ) (held : Desks) (c : ℕ) → c < n → vacancies n (slice_set held c None) ≤ vacancies n held + 1
given_vacancies n held c l =
    let F : ℕ → ℕ = λ j. vacant (get_or held j None) in
    let G : ℕ → ℕ = λ j. vacant (get_or (slice_set held c None) j None) in
    let change = sum_below-change n F G c l (λ j k q. ap vacant (sym (get_or-set_other held c j None None q))) in
    let g = vacant-le (get_or (slice_set held c None) c None) in
    omega (arith, change, g)

-- A WORD THAT IS PUT

desk_puts : (z : Reach) (x c reg width : ℕ) (refused : Status → Label) (absent : Status) → desk_row z c refused absent (told.Reading c reg width) ≡ told.Putting x → ⊥
desk_puts Outside x c reg width f S e = cc
desk_puts AtHand x c reg width f S e = cc
desk_puts Working x c reg width f S e = cc
desk_puts Elsewhere x c reg width f S e = cc

write_puts : (z : Reach) (x c reg width v : ℕ) (refused : Status → Label) (absent : Status) → desk_row z c refused absent (told.Writing c reg width v) ≡ told.Putting x → ⊥
write_puts Outside x c reg width v f S e = cc
write_puts AtHand x c reg width v f S e = cc
write_puts Working x c reg width v f S e = cc
write_puts Elsewhere x c reg width v f S e = cc

check_puts : (z : TokenState) (x n : ℕ) → checking_row z n ≡ told.Putting x → ⊥
check_puts NotOut x n e = cc
check_puts (Uncollected c) x n e = cc
check_puts (Collected t) x n e = cc

wait_puts : (z : TokenState) (x n : ℕ) → waiting_row z n ≡ told.Putting x → ⊥
wait_puts NotOut x n e = cc
wait_puts (Uncollected c) x n e = cc
wait_puts (Collected t) x n e = cc

await_puts : (c x : ℕ) → told.AwaitingJob c ≡ told.Putting x → ⊥
await_puts c x e = cc

claim_puts : (c x : ℕ) (l : Label) → told.ClaimingJob c l ≡ told.Putting x → ⊥
claim_puts c x l e = cc

start_puts : (o : Option StartRefusal) (job held marked : Bool) (c x : ℕ) (collect : Row) (start : Label) → (collect ≡ told.Putting x → ⊥) → start_row o job held marked c collect start ≡ told.Putting x
    → told_weight (start_row o job held true c collect start) ≡ 0
start_puts (Some y) job held marked c x collect start n e = cc
start_puts None true held marked c x collect start n e = absurd (n e)
start_puts None false false marked c x collect start n e = cc
start_puts None false true marked c x collect start n e = refl

operation_puts : (t : Setting) (held : Desks) (s : Serving) (marked : Bool) (n x : ℕ) (o : OpDef) → operation_row t held s marked n o ≡ told.Putting x → told_weight (operation_row t held s true n o) ≡ 0
operation_puts t held s marked n x (op.Set into v) e = cc
operation_puts t held s marked n x (op.Read c reg width into) e = absurd (desk_puts _ x c reg width _ _ e)
operation_puts t held s marked n x (op.Write c reg width v) e = absurd (write_puts _ x c reg width _ _ _ e)
operation_puts t held s marked n x (op.Start c name arg into) e = start_puts _ _ _ marked c x _ _ (await_puts c x) e
operation_puts t held s marked n x (op.Launch c name arg into) e = start_puts _ _ _ marked c x _ _ (claim_puts c x _) e
operation_puts t held s marked n x (op.Check v) e = absurd (check_puts _ x _ e)
operation_puts t held s marked n x (op.Wait v into) e = absurd (wait_puts _ x _ e)
operation_puts t held s marked n x (op.Alloc v into) e = cc
operation_puts t held s marked n x (op.Free v) e = cc
operation_puts t held s marked n x (op.Register h kind into) e = cc
operation_puts t held s marked n x (op.Unregister v) e = cc
operation_puts t held s marked n x (op.Manage kind) e = cc

due_puts : (t : Setting) (held : Desks) (s : Serving) (marked : Bool) (x : ℕ) (y : Due) → due_row t held s marked y ≡ told.Putting x → told_weight (due_row t held s true y) ≡ 0
due_puts t held s marked x Nothing e = cc
due_puts t held s marked x (Saying l) e = cc
due_puts t held s marked x (Awaiting c) e = cc
due_puts t held s marked x (Doing n o) e = operation_puts t held s marked n x o e

waiting-le : (d : SetupData) (o : Option Cargo) → waiting d o ≤ 2
waiting-le d None = omega arith
waiting-le d (Some (cargo.Chair x)) = omega arith
waiting-le d (Some (cargo.Desk desk)) = by_bit (job_to_run d (Some desk))
  where
    by_bit : (b : Bool) → 2 * bit b ≤ 2
    by_bit true = omega arith
    by_bit false = omega arith

held_none : (o : Option Desk) → is_some o ≡ false → o ≡ None
held_none None h = refl
held_none (Some x) h = cc

-- ITS FIRST LABEL

abbrev pub first_chair : SetupData → ℕ → ℕ → List HandlerType → Registrations → PoolState → Chair
first_chair d i wave kinds registrations pool =
    record { setup = d; me = i; course = beginning wave kinds (at_begin d registrations pool); told = told.Looking (say.Begin wave) }

pub begins : (d : SetupData) (s : Scene) (i : ℕ) (t : Seat) (wave : ℕ) (kinds : List HandlerType) (registrations : Registrations) (pool : PoolState)
    → t.chair ≡ Some (first_chair d i wave kinds registrations pool)
    → LeadTurn d s i (processor_at d i (Leading BeginningToServe) t) (turn s.words s.lying i (OfProcessor (processor_at d i (Leading BeginningToServe) t)))
begins d s i t wave kinds registrations pool e =
    let x : Chair = first_chair d i wave kinds registrations pool in
    let p : Processor = record (processor_at d i (Leading BeginningToServe) t) { chair = Some x } in
    let is : p ≡ processor_at d i (Leading BeginningToServe) t = (λ k. record (processor_at d i (Leading BeginningToServe) t) { chair = sym e k }) in
    subst (λ (q : Processor). LeadTurn d s i q (turn s.words s.lying i (OfProcessor q))) is
    (by_access d s i p word.Inside access.Look
    (λ f.
    let y : Chair = answered (Speaks (say.Begin wave)) t.held x in
    let w = told_weight-le (row_of (setting_of y) t.held y.course) in
    let m = more-le None [] kinds in
    moves_by d s i p _ s.lying _ (jobs_left y.course.place) t.visits (serves_low p y) refl (λ z. omega (arith, w, m)) (omega arith) (λ j. omega arith)))

-- AT THE HANDLERS

module _ (d : SetupData) (c : Context) (s : Scene) (m : Machine) (t : Seat) where
  abbrev known : Place
  known = c.chair.course.place

  abbrev chair : Row → Chair
  chair r = record { setup = d; me = c.bsp; course = c.chair.course; told = r }

  abbrev TurnAt : Row → Type 0
  TurnAt r = LeadTurn d s c.bsp (at_row d c t r) (turn s.words s.lying c.bsp (OfProcessor (at_row d c t r)))

  -- after a move, with these desks
  abbrev after : Row → Move → Desks → Desks → Processor
  after r y now held = serve_on (answered y now (chair r)) (record (at_row d c t r) { held = held })

  -- what it has then is less than what the row has
  spends : (r : Row) (y : Move) (now held : Desks) (lying : Lying)
      → (let k = course_moved (setting d c.bsp) c.chair.course y now in
      (place_weight k.place + jobs_weight k.place.state.seats + told_weight (row_of (setting d c.bsp) held k) + vacancies d.processors held + 1
      ≤ place_weight known + jobs_weight known.state.seats + told_weight r + vacancies d.processors (handed_as r c.held)) × (jobs_left k.place ≤ jobs_left known))
      → ((j : ℕ) → 2 * jobs_left (course_moved (setting d c.bsp) c.chair.course y now).place + waiting d (get_or lying.run j None) ≤ 2 * jobs_left known + waiting d (get_or s.lying.run j None))
      → LeadMoved d s c.bsp (at_row d c t r) lying (OfProcessor (after r y now held))
  spends r y now held lying h w =
      let p : Processor = record (at_row d c t r) { held = held } in
      let a = h.0 in
      moves_by d s c.bsp (at_row d c t r) (after r y now held) lying _ _ t.visits (serves_low p (answered y now (chair r))) refl (λ z. omega (arith, a)) h.1 w

  -- a label that starts no job
  speaks : (r : Row) (l : Label) (now held : Desks) → told_weight r ≡ 1 → vacancies d.processors held ≤ vacancies d.processors (handed_as r c.held) → is_start l ≡ false → Accepts (program_of d) known (Own l)
      → LeadMoved d s c.bsp (at_row d c t r) s.lying (OfProcessor (after r (Speaks l) now held))
  speaks r l now held one v plain may =
      let f = plain_fell l known (next (program_of d) known (Own l)) plain (next_fell (program_of d) known l may) in
      let w = told_weight-le (row_of (setting d c.bsp) held (course_moved (setting d c.bsp) c.chair.course (Speaks l) now)) in
      spends r (Speaks l) now held s.lying (omega (arith, f.0, w, one, v), f.1) (λ j. let b = f.1 in omega (arith, b))

  looking : (l : Label) → IsTold d c s m t (told.Looking l) → TurnAt (told.Looking l)
  looking l h =
      by_access d s c.bsp (at_row d c t (told.Looking l)) word.Inside access.Look
      (λ f. speaks (told.Looking l) l c.held c.held refl (omega arith) (asks_plain d m c.bsp l h.fits.0) (accepted d c (told.Looking l) f c.held l h.serving h.told refl))

  allocating : (n : ℕ) → IsTold d c s m t (told.Allocating n) → TurnAt (told.Allocating n)
  allocating n h =
      let r = (allocated n known.state.pool).0 in
      by_access d s c.bsp (at_row d c t (told.Allocating n)) word.Inside access.Look
      (λ f. speaks (told.Allocating n) (alloc_label n r) c.held c.held refl (omega arith) (alloc_plain n r) (accepted d c (told.Allocating n) f c.held (alloc_label n r) h.serving h.told refl))

  freeing : (n : ℕ) → IsTold d c s m t (told.Freeing n) → TurnAt (told.Freeing n)
  freeing n h =
      by_access d s c.bsp (at_row d c t (told.Freeing n)) word.Inside access.Look
      (λ f. speaks (told.Freeing n) _ c.held c.held refl (omega arith) refl (accepted d c (told.Freeing n) f c.held _ h.serving h.told refl))

  reading : (x reg width : ℕ) → IsTold d c s m t (told.Reading x reg width) → TurnAt (told.Reading x reg width)
  reading x reg width h =
      let l : Label = read_at_hand (setting d c.bsp) x reg width c.held in
      by_access d s c.bsp (at_row d c t (told.Reading x reg width)) word.Inside access.Look
      (λ f. speaks (told.Reading x reg width) l c.held c.held refl (omega arith) refl (accepted d c (told.Reading x reg width) f c.held l h.serving h.told refl))

  writing : (x reg width v : ℕ) → IsTold d c s m t (told.Writing x reg width v) → TurnAt (told.Writing x reg width v)
  writing x reg width v h =
      let l : Label = write_at_hand x reg width v c.held in
      let same = changed_vacancies d.processors (written_on reg width v) c.held x in
      by_access d s c.bsp (at_row d c t (told.Writing x reg width v)) word.Inside access.Look
      (λ f. speaks (told.Writing x reg width v) l c.held (written x reg width v c.held) refl (omega (arith, same)) refl (accepted d c (told.Writing x reg width v) f c.held l h.serving h.told refl))

  putting : (x : ℕ) → IsTold d c s m t (told.Putting x) → TurnAt (told.Putting x)
  putting x h =
      let k : Course = c.chair.course in
      let row : row_of (setting d c.bsp) c.held k ≡ told.Putting x = sym h.serving.told ∙ h.told in
      let z = due_puts (setting d c.bsp) c.held known.state k.marked x (due (program_of d) known) row in
      by_access d s c.bsp (at_row d c t (told.Putting x)) (word.Busy x) (access.Put 1)
      (λ f. spends (told.Putting x) (Quiet true) c.held c.held s.lying (omega (arith, z), omega arith) (λ j. omega arith))

  -- a claim that doesn't find what it is for
  desk_missing : (x : ℕ) (l : Label) → IsTold d c s m t (told.ClaimingDesk x l) → get_or s.words.present x 0 ≢ 1 → TurnAt (told.ClaimingDesk x l)
  desk_missing x l h z =
      let y : ℕ = get_or s.words.present x 0 in
      let no = ne_eqb y 1 z in
      let a = accepted d c (told.ClaimingDesk x l) y c.held l h.serving h.told (simp no refl) in
      simp no (refl, speaks (told.ClaimingDesk x l) l c.held c.held refl (omega arith) (asks_plain d m c.bsp l (h.fits.4 z).0) a)

  job_missing : (x : ℕ) (l : Label) → IsTold d c s m t (told.ClaimingJob x l) → get_or s.words.busy x 0 ≢ 2 → TurnAt (told.ClaimingJob x l)
  job_missing x l h z =
      let y : ℕ = get_or s.words.busy x 0 in
      let no = ne_eqb y 2 z in
      let a = accepted d c (told.ClaimingJob x l) y c.held l h.serving h.told (simp no refl) in
      simp no (refl, speaks (told.ClaimingJob x l) l c.held c.held refl (omega arith) (asks_plain d m c.bsp l (h.fits.2 z).0) a)

  held_size : (r : Row) → IsTold d c s m t r → length c.held ≡ d.processors
  held_size r h = let low = serves_from_low (is_relaxed d.mode) in h.ready.sized.held (omega (arith, low))

  desk_claimed : (x : ℕ) (l : Label) → IsTold d c s m t (told.ClaimingDesk x l) → get_or s.words.present x 0 ≡ 1 → TurnAt (told.ClaimingDesk x l)
  desk_claimed x l h present =
      let desk : Desk = desk_at (member m x).image None in
      let e = h.ready.each x h.fits.0 in
      let lies : get_or s.lying.present x None ≡ Some (cargo.Desk desk) = e.self.on_present present in
      let kind = is_same_kind (member m x).image.kind d.kind e.self.kind in
      let one = eq-eqb (get_or s.words.present x 0) 1 present in
      let none : get_or c.held x None ≡ None = held_none (get_or c.held x None) (sym (held_is c.held x) ∙ h.fits.2) in
      let size = held_size (told.ClaimingDesk x l) h in
      let below = h.fits.0 in
      let v = claimed_vacancies d.processors c.held x desk below (omega (arith, size, below)) none in
      let now : Desks = slice_set c.held x (Some desk) in
      let w = told_weight-le (row_of (setting d c.bsp) now (record { place = known; marked = false })) in
      simp (one, lies, kind)
      (refl, spends (told.ClaimingDesk x l) (Quiet false) now now (record s.lying { present = slice_set s.lying.present x None }) (omega (arith, v, w), omega arith) (λ j. omega arith))

  -- JOBS

  module _ (r : Row) (x : ℕ) (h : IsTold d c s m t r) (there : x < d.processors) (busy : get_or s.words.busy x 0 ≡ 2) (finished : IsFinished (member m x).job) where
    abbrev desk : Desk
    desk = desk_at (member m x).image (Some (record finished.job { done = Some finished.answer }))

    abbrev now : Desks
    now = slice_set c.held x (Some desk)

    two : work_of (member m x).job ≡ 2
    two = (h.ready.busies x there).finished busy

    other : x ≢ c.bsp
    other = λ z. let idle = ((h.ready.each x there).leader z).work in let a = two in absurd (omega (arith, idle, a))

    ties : IsTied d c m
    ties = tied d c (serves_at (is_relaxed d.mode)) s m (serves_is (is_relaxed d.mode)) h.ready h.serving.goes_on h.serving.own

    owed : has_job (seat_known c x) ≡ true
    owed =
        let a = two in
        ⊎_elim
        (λ (z : has_job (seat_known c x) ≡ true). z)
        (λ (z : has_job (seat_known c x) ≡ false). absurd (let b = ties.free x there other z in omega (arith, a, b)))
        (cases_Bool (has_job (seat_known c x)))

    open_known : HasOpen (seat_known c x) finished.job.number
    open_known = subst (λ (o : Option Job). IsSomeAnd o (λ y. HasOpen (seat_known c x) y.number)) finished.is (ties.given x there other owed)

    came : desk_of now x ≡ Some desk
    came = get_or-set_same c.held x (Some desk) None (let a = held_size r h in omega (arith, a, there))

    fell : (found : ℕ) → (step_as (setting d c.bsp) known.state r).on found now ≡ Takes x → Fell false known (course_moved (setting d c.bsp) c.chair.course (Takes x) now).place
    fell found is =
        let y = setting d c.bsp in
        let k : Course = c.chair.course in
        let step : (step_of y c.held k).on found now ≡ Takes x =
        ap (λ (z : Step). z.on found now) (sym (step_of_row y c.held k) ∙ ap (λ (z : Row). step_as y known.state z) (sym h.serving.told ∙ h.told)) ∙ is in
        let P : Move → Type 0 = λ (z : Move). CameFor known.state z now → Leads (program_of d) known (said z now) (course_moved y k z now).place in
        let come : HasCome known.state x (done_on (desk_of now x)) = subst (λ (o : Option Desk). HasCome known.state x (done_on o)) (sym came) open_known in
        collect_fell (program_of d) known (course_moved y k (Takes x) now).place x (done_on (desk_of now x)) (subst P step (step_leads y c.held k found now h.serving.sound) come)

    lies : get_or s.lying.busy x None ≡ Some (cargo.Desk desk)
    lies = (h.ready.busies x there).lies two ∙ ap (λ (o : Option Job). Some (cargo.Desk (desk_at (member m x).image o))) finished.is

    kind : is_kind (member m x).image.kind d.kind ≡ true
    kind = is_same_kind (member m x).image.kind d.kind (h.ready.each x there).self.kind

    gets : (q : Row) (found : ℕ) → told_weight q ≡ 1 → vacancies d.processors (handed_as q c.held) ≡ vacancies d.processors c.held → (step_as (setting d c.bsp) known.state r).on found now ≡ Takes x
        → LeadMoved d s c.bsp (at_row d c t q) (record s.lying { busy = slice_set s.lying.busy x None }) (OfProcessor (after q (Takes x) now (taken_off x now)))
    gets q found one same is =
        let f = fell found is in
        let a = changed_vacancies d.processors without_job now x in
        let b = came_vacancies d.processors c.held x desk in
        let w = told_weight-le (row_of (setting d c.bsp) (taken_off x now) (course_moved (setting d c.bsp) c.chair.course (Takes x) now)) in
        spends q (Takes x) now (taken_off x now) (record s.lying { busy = slice_set s.lying.busy x None }) (omega (arith, f.0, a, b, w, one, same), f.1) (λ j. let g = f.1 in omega (arith, g))

    claims : (l : Label) → r ≡ told.ClaimingJob x l → TurnAt (told.ClaimingJob x l)
    claims l e =
        let v : ℕ = get_or s.words.busy x 0 in
        let one = eq-eqb v 2 busy in
        let g = gets (told.ClaimingJob x l) v refl refl (ap (λ (y : Row). (step_as (setting d c.bsp) known.state y).on v now) e ∙ (simp one refl)) in
        simp (one, lies, kind) (refl, g)

    awaits : r ≡ told.AwaitingJob x → TurnAt (told.AwaitingJob x)
    awaits e =
        let v : ℕ = get_or s.words.busy x 0 in
        let one = eq-eqb v 2 busy in
        let g = gets (told.AwaitingJob x) v refl refl (ap (λ (y : Row). (step_as (setting d c.bsp) known.state y).on v now) e) in
        simp (one, lies, kind) (refl, g)

  job_claimed : (x : ℕ) (l : Label) → IsTold d c s m t (told.ClaimingJob x l) → get_or s.words.busy x 0 ≡ 2 → TurnAt (told.ClaimingJob x l)
  job_claimed x l h busy =
      let there = h.fits.0 in claims (told.ClaimingJob x l) x h there busy (finished_job (member m x).job ((h.ready.busies x there).finished busy)) l refl

  job_awaited : (x : ℕ) → IsTold d c s m t (told.AwaitingJob x) → TurnAt (told.AwaitingJob x)
  job_awaited x h =
      ⊎_elim
      (λ (z : get_or s.words.busy x 0 ≡ 2). awaits (told.AwaitingJob x) x h h.fits z (finished_job (member m x).job ((h.ready.busies x h.fits).finished z)) refl)
      (λ (z : get_or s.words.busy x 0 ≢ 2). let no = ne_eqb (get_or s.words.busy x 0) 2 z in simp no tt)
      (cases_eq (get_or s.words.busy x 0) 2)

  -- a job is given
  module _ (x number procedure argument : ℕ) (h : IsTold d c s m t (told.Raising x (say.Start x number procedure argument))) where
    abbrev label : Label
    label = say.Start x number procedure argument

    abbrev raise_row : Row
    raise_row = told.Raising x label

    abbrev handed : Desks
    handed = slice_set c.held x (option_map (with_job number procedure argument) (desk_of c.held x))

    start_fell : Fell true known (next (program_of d) known (Own label))
    start_fell = next_fell (program_of d) known label (accepted d c raise_row 0 handed label h.serving h.told refl)

    -- with desks of which one more may be away
    starts : (held : Desks) (lying : Lying) → vacancies d.processors held ≤ vacancies d.processors handed + 1 → ((j : ℕ) → waiting d (get_or lying.run j None) ≤ waiting d (get_or s.lying.run j None) + 2)
        → LeadMoved d s c.bsp (at_row d c t raise_row) lying (OfProcessor (after raise_row (Speaks label) held held))
    starts held lying v w =
        let f = start_fell in
        let a = told_weight-le (row_of (setting d c.bsp) held (course_moved (setting d c.bsp) c.chair.course (Speaks label) held)) in
        spends raise_row (Speaks label) held held lying (omega (arith, f.0, f.2, a, v), omega (arith, f.1)) (λ j. let b = f.1 in let e = w j in omega (arith, b, e))

    laid : (y : Cargo) (j : ℕ) → waiting d (get_or (slice_set s.lying.run x (Some y)) j None) ≤ waiting d (get_or s.lying.run j None) + 2
    laid y j = let a = waiting-le d (get_or (slice_set s.lying.run x (Some y)) j None) in omega (arith, a)

    gave : (n f : ℕ) (o : Option Cargo) → LeadTurn d s c.bsp (at_row d c t raise_row) (gives s.words s.lying c.bsp (word.Run x) access.Up n f (OfProcessor (at_row d c t raise_row)) o)
    gave n f None = tt
    gave n f (Some y) =
        let away = ne_eqb x d.processors (let a = h.fits.0 in λ z. omega (arith, z, a)) in
        let g = starts (slice_set handed x None) (record s.lying { run = slice_set s.lying.run x (Some y) }) (given_vacancies d.processors handed x h.fits.0) (laid y) in
        simp away (refl, g)

    raises_run : (y : Applied) → LeadTurn d s c.bsp (at_row d c t raise_row) (accesses s.words s.lying c.bsp (word.Run x) access.Up (Give x) (OfProcessor (at_row d c t raise_row)) y)
    raises_run (NotReady f) = tt
    raises_run (Same f) = (refl, starts handed s.lying (omega arith) (λ j. omega arith))
    raises_run (Changed n f) = gave n f (gift_of (OfProcessor (at_row d c t raise_row)))

    raise : TurnAt raise_row
    raise = raises_run (applied (get_or s.words.run x 0) access.Up)

  raising : (x : ℕ) (l : Label) → IsTold d c s m t (told.Raising x l) → TurnAt (told.Raising x l)
  raising x l h =
      let start : IsStart d c m x l = h.fits.4 in
      subst (λ (k : Label). TurnAt (told.Raising x k)) (sym start.is)
      (raise x start.job start.procedure start.argument (subst (λ (k : Label). IsTold d c s m t (told.Raising x k)) start.is h))

  pub row_turn : (r : Row) → IsTold d c s m t r → TurnAt r
  row_turn told.Finished h = tt
  row_turn (told.Looking l) h = looking l h
  row_turn (told.ClaimingDesk x l) h =
      ⊎_elim
      (λ (z : get_or s.words.present x 0 ≡ 1). desk_claimed x l h z)
      (λ (z : get_or s.words.present x 0 ≢ 1). desk_missing x l h z)
      (cases_eq (get_or s.words.present x 0) 1)
  row_turn (told.ClaimingJob x l) h =
      ⊎_elim
      (λ (z : get_or s.words.busy x 0 ≡ 2). job_claimed x l h z)
      (λ (z : get_or s.words.busy x 0 ≢ 2). job_missing x l h z)
      (cases_eq (get_or s.words.busy x 0) 2)
  row_turn (told.AwaitingJob x) h = job_awaited x h
  row_turn (told.Putting x) h = putting x h
  row_turn (told.Raising x l) h = raising x l h
  row_turn (told.Reading x reg width) h = reading x reg width h
  row_turn (told.Writing x reg width v) h = writing x reg width v h
  row_turn (told.Allocating n) h = allocating n h
  row_turn (told.Freeing n) h = freeing n h

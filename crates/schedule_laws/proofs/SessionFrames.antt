-- What a further stage of the session leaves as it is, where no view changes; and what the BSP may say.
use Rattle.std.proofs.Common.{ℕ, ◌+◌, ◌-◌, ◌*◌, ◌≡◌, ◌≢◌, ◌<◌, ◌≤◌, arith, Bool, false, List, length, get_or, slice_set, Option, Some, None, refl, sym, ap, subst, ⊎_elim, ◌∙◌}
use Rattle.std.specs.Prelude.{option_map, ◌&&◌, ◌==◌}
use Rattle.std.proofs.lemmas.Bool.{cases_lt, ne_eqb}
use Rattle.std.proofs.lemmas.List.{length-replicate}
use Rattle.smm_base.specs.declared.kinds.Policy.{Policy}
use Rattle.smm_base.specs.declared.kinds.Policy.TheVariants.{Elected, Fixed}
use Rattle.cpu_table.specs.Data.{SetupData}
use Rattle.handler_registry.specs.Registrations.{Registrations}
use Rattle.smram_pool.specs.State.{PoolState}
use Rattle.handler_ops.specs.declared.desk.Job.{Job}
use Rattle.serving_place.specs.declared.seat.Seat.{Seat as JobSeat}
use Rattle.serving_place.specs.declared.seat.Seat.TheVariants.{Free}
use Rattle.handler_ops.specs.Answering.{told_on}
use Rattle.serving_place.specs.Beginning.{at_begin, walks_of}
use Rattle.handler_ops.specs.Conditions.{beginning}
use Rattle.handler_ops.specs.Course.{Course}
use Rattle.handler_ops.specs.Sessions.{Session as Chair, begun_session}
use Rattle.cpu_program.specs.Processors.{is_relaxed}
use Rattle.rendezvous_core.specs.Worlds.{Words, Lying}
use Rattle.rendezvous_machine.specs.Machines.{Machine, Session, IsBsp, member}
use Rattle.rendezvous_machine.specs.Platforms.{MayLead}
use Rattle.schedule_laws.proofs.Scenes.{Scene, Seat, Lead, Leading as LeadingAt, seat, actors_of, processor_of}
use Rattle.schedule_laws.proofs.Stations.{Leading, station_of}
use Rattle.schedule_laws.proofs.Leads.{stage_in, stage_some, next_of, is_traditional, part_of}
use Rattle.schedule_laws.proofs.Invariant.{Context, View, IsCpu, IsTotals, IsWords, IsSession, IsCourse, IsChipset, IsSized, IsReady, IsFine, IsAim, IsBeginning, IsJobOf, IsIdle, IsRunOf, IsSignal, IsBusy, begins_from, serves_from, mode_of, chair_home, globe, seat_view, sizes, view, members_in, team_in, raised_in}
use Rattle.schedule_laws.proofs.Frames.{mode_le, seated}
use Rattle.schedule_laws.proofs.LeadFrames.{at_stage, Reached, IsHolding, reaches}
use Rattle.schedule_laws.proofs.Facts.{some_and}

-- the BSP says what holds of the session
pub bsp_says : (d : SetupData) (c : Context) (s : Scene) (m : Machine) (P : Session → Type 0) → IsReady d c s m → 1 ≤ c.stage → P c.session → IsBsp m c.bsp P
bsp_says d c s m P f st h = some_and m.session c.session (λ x. (x.bsp ≡ c.bsp) × P x) (f.words.session st) (f.session.bsp st, h)

pub session_map : (o : Option Session) (x : Session) (g : Session → Session) → o ≡ Some x → option_map g o ≡ Some (g x)
session_map o x g e = ap (option_map g) e

-- The context, the words of all and those that no view shows change, and the machine but for its members.
pub reframe : (d : SetupData) (c c' : Context) (s s' : Scene) (m m' : Machine) → IsReady d c s m → view s' m' ≡ view s m → s'.seats ≡ s.seats
    → IsChipset d s'.watch m'.waves m'.excepted → m'.waves ≡ m.waves
    → ((j : ℕ) → j < d.processors → IsSignal d m'.waves (view s m j).visits (get_or s'.words.pend j 0))
    → ((j : ℕ) → j < d.processors → IsBusy (member m' j) (get_or s'.words.busy j 0) (get_or s'.lying.busy j None)) → IsSized d (record c' { bsp = c.bsp }) (sizes s' m')
    → IsWords d (record c' { bsp = c.bsp }) (globe s' m') → IsSession (mode_of d) (record c' { bsp = c.bsp })
    → IsCourse d (record c' { bsp = c.bsp }) m'.registrations m'.pool
    → IsTotals (record c' { bsp = c.bsp }) s'.words.counter (get_or s'.words.run c.bsp 0) (members_in d.processors (view s m)) (team_in d.processors (view s m)) (raised_in d.processors (view s m))
    → ((j : ℕ) → j < d.processors → IsCpu d (record c' { bsp = c.bsp }) m.waves j (view s m j))
    → ((j : ℕ) → j < d.processors → j ≢ c.bsp → IsRunOf (record c' { bsp = c.bsp }) j (view s m j) (get_or s'.words.run j 0))
    → ((j : ℕ) → j < d.processors → j ≢ c.bsp → IsJobOf d (record c' { bsp = c.bsp }) j (view s m j).job)
    → ((j : ℕ) → j < d.processors → j ≢ c.bsp → IsIdle d (record c' { bsp = c.bsp }) j (seat s j)) → IsReady d (record c' { bsp = c.bsp }) s' m'
reframe d c c' s s' m m' f same seats chip waves signals busies sized words session course totals each runs jobs idle =
    let c2 : Context = record c' { bsp = c.bsp } in
    let back : (P : (ℕ → View) → Type 0) → P (view s m) → P (view s' m') = (λ P h. subst (λ (V : ℕ → View). P V) (sym same) h) in
    record {
      platform = f.platform;
      sized = sized;
      words = words;
      session = session;
      course = course;
      chipset = chip;
      totals = back (λ V. IsTotals c2 s'.words.counter (get_or s'.words.run c.bsp 0) (members_in d.processors V) (team_in d.processors V) (raised_in d.processors V)) totals;
      each = subst (λ (x : ℕ). (j : ℕ) → j < d.processors → IsCpu d c2 x j (view s' m' j)) (sym waves) (back (λ V. (j : ℕ) → j < d.processors → IsCpu d c2 m.waves j (V j)) each);
      runs = back (λ V. (j : ℕ) → j < d.processors → j ≢ c.bsp → IsRunOf c2 j (V j) (get_or s'.words.run j 0)) runs;
      jobs = back (λ V. (j : ℕ) → j < d.processors → j ≢ c.bsp → IsJobOf d c2 j (V j).job) jobs;
      idle = λ j k n. subst (λ (ts : List Seat). IsIdle d c2 j (seat (record s { seats = ts }) j)) (sym seats) (idle j k n);
      signals = back (λ V. (j : ℕ) → j < d.processors → IsSignal d m'.waves (V j).visits (get_or s'.words.pend j 0)) signals;
      busies = busies;
    }

-- THE SESSION WHILE IT IS OPEN

-- its stage bears on nobody
pub open_cpu : (d : SetupData) (c c' : Context) (waves j : ℕ) (v : View) → c'.bsp ≡ c.bsp → c'.held ≡ c.held → c.stage ≤ 9 → c'.stage ≤ 9 → 2 ≤ c'.stage → c.stage ≢ 4
    → (c'.stage ≤ 3 → c.stage ≤ 3) → IsCpu d c waves j v → IsCpu d c' waves j v
open_cpu d c c' waves j v e eh a b low off early h =
    let g = h.team in
    let idle : v.work ≡ 0 = ⊎_elim (λ (z : c.stage < 4). g.idle_early (omega arith)) (λ (z : 4 ≤ c.stage). g.idle_mid (omega arith) (omega arith)) (cases_lt c.stage 4) in
    record {
      self = rw (e, eh) h.self;
      team = record { team_open = λ _. g.team_open a; departed_open = λ _. g.departed_open a; team = λ z. absurd (omega arith); unreleased = λ _. g.unreleased (omega arith); idle_early = λ _. idle; idle_mid = λ _ _. idle; idle_after = λ z. absurd (omega arith); unclaimed = λ z. g.unclaimed (early z); claimed_so_far = λ z. absurd (omega arith); claimed = λ z. absurd (omega arith) };
      leader = λ z. h.leader (z ∙ e);
      peer = λ z.
          let y = h.peer (λ u. z (u ∙ sym e)) in
          record { station = y.station; walking = λ _. low; knows = λ u. y.knows u ∙ sym e; gone = y.gone; listed = λ u. absurd (omega arith); released_so_far = λ u. absurd (omega arith); released_no_more = λ u. absurd (omega arith); released = λ u. absurd (omega arith); told = λ u. absurd (omega arith); answered = λ u. absurd (omega arith); ended = λ u. absurd (omega arith) };
    }

pub open_run : (c c' : Context) (j : ℕ) (v : View) (r : ℕ) → c.stage ≤ 9 → c'.stage ≤ 9 → IsRunOf c j v r → IsRunOf c' j v r
open_run c c' j v r a b h =
    record { upto = λ _ y. h.upto (omega arith) y; lent = h.lent; so_far = λ z. absurd (omega arith); no_more = λ z. absurd (omega arith); late = λ z. absurd (omega arith) }

pub open_totals : (c c' : Context) (counter run a b e : ℕ) → 1 ≤ c.stage → c.stage ≤ 9 → c'.stage ≤ 9 → IsTotals c counter run a b e → IsTotals c' counter run a b e
open_totals c c' counter run a b e x y z h =
    record {
      counted = λ _. h.counted y;
      counter_locked = λ u. absurd (omega arith);
      peers = λ u. absurd (omega arith);
      run_open = λ _ _. h.run_open x y;
      run_reports = λ u. absurd (omega arith);
      run_reported = λ u. absurd (omega arith);
      run_answers = λ u. absurd (omega arith);
      run_answered = λ u. absurd (omega arith);
      run_ends = λ u. absurd (omega arith);
      run_ended = λ u. absurd (omega arith);
    }

-- where the handlers don't serve, the list says nothing of a job
pub resting_job : (d : SetupData) (c c' : Context) (j : ℕ) (job : Option Job) → c'.stage ≢ serves_from (mode_of d) → IsJobOf d c j job → IsJobOf d c' j job
resting_job d c c' j job n h = record { procedure = h.procedure; free = λ z. absurd (n z); given = λ z. absurd (n z); listed = λ z. absurd (n z) }

-- the state of serving, before the handlers begin
pub resting_course : (d : SetupData) (c c' : Context) (m : Machine) → c'.chair ≡ c.chair → c.stage ≤ begins_from (mode_of d) → c'.stage < begins_from (mode_of d)
    → IsCourse d c m.registrations m.pool → IsCourse d c' m.registrations m.pool
resting_course d c c' m e a b h =
    let mode = mode_le d in
    record {
      setup = rw e h.setup;
      size = rw e h.size;
      registered = λ _. rw e (h.registered a);
      pooled = λ _. rw e (h.pooled a);
      me = λ z. absurd (omega arith);
      led = λ z. absurd (omega arith);
      listed = λ z. absurd (omega arith);
      over = λ z. absurd (omega arith);
    }

pub idle_same : (d : SetupData) (c c' : Context) (j : ℕ) (t : Seat) → c'.chair ≡ c.chair → IsIdle d c j t → IsIdle d c' j t
idle_same d c c' j t e h = record { size = h.size; held = h.held; chair = rw e h.chair }

-- A step within an open session that changes neither the words that views show nor the counter, where nothing is served. The BSP may have a new list of desks.
pub open_listed : (d : SetupData) (c : Context) (k x k' x' : ℕ) (s s' : Scene) (m m' : Machine) (session : Session) (wave blocked : ℕ) (listed : List Bool) → 1 ≤ k → k ≤ 9 → 2 ≤ k' → k' ≤ 9
    → k ≢ 4 → (k' ≤ 3 → k ≤ 3) → k' ≢ serves_from (mode_of d) → IsReady d (at_stage c k x) s m → view s' m' ≡ view s m → s'.seats ≡ s.seats
    → s'.words.counter ≡ s.words.counter → s'.words.run ≡ s.words.run → s'.watch ≡ s.watch → m'.waves ≡ m.waves → m'.excepted ≡ m.excepted
    → ((j : ℕ) → j < d.processors → IsSignal d m'.waves (view s m j).visits (get_or s'.words.pend j 0))
    → ((j : ℕ) → j < d.processors → IsBusy (member m' j) (get_or s'.words.busy j 0) (get_or s'.lying.busy j None)) → IsSized d (at_stage c k x) (sizes s' m')
    → IsWords d (record (at_stage c k' x') { wave = wave; blocked = blocked; session = session; listed = listed }) (globe s' m')
    → IsSession (mode_of d) (record (at_stage c k' x') { wave = wave; blocked = blocked; session = session; listed = listed })
    → IsCourse d (record (at_stage c k' x') { wave = wave; blocked = blocked; session = session; listed = listed }) m'.registrations m'.pool
    → IsReady d (record (at_stage c k' x') { wave = wave; blocked = blocked; session = session; listed = listed }) s' m'
open_listed d c k x k' x' s s' m m' session wave blocked listed a b low high off early n f same seats counter run watch waves excepted signals busies sized words is course =
    let c1 : Context = at_stage c k x in
    let c2 : Context = record (at_stage c k' x') { wave = wave; blocked = blocked; session = session; listed = listed } in
    reframe d c1 c2 s s' m m' f same seats (rw (watch, waves, excepted) f.chipset) waves signals busies
    (record { seats = sized.seats; pend = sized.pend; present = sized.present; run = sized.run; busy = sized.busy; on_present = sized.on_present; on_run = sized.on_run; on_busy = sized.on_busy; members = sized.members; held = λ _. sized.held a })
    words is course
    (rw (counter, run) (open_totals c1 c2 s.words.counter (get_or s.words.run c.bsp 0) _ _ _ a b high f.totals))
    (λ j g. open_cpu d c1 c2 m.waves j (view s m j) refl refl b high low off early (f.each j g))
    (λ j g q. rw run (open_run c1 c2 j (view s m j) (get_or s.words.run j 0) b high (f.runs j g q)))
    (λ j g q. resting_job d c1 c2 j (view s m j).job n (f.jobs j g q))
    (λ j g q. idle_same d c1 c2 j (seat s j) refl (f.idle j g q))

-- the same where the list stays
pub open_ready : (d : SetupData) (c : Context) (k x k' x' : ℕ) (s s' : Scene) (m m' : Machine) (session : Session) (wave blocked : ℕ) → 1 ≤ k → k ≤ 9 → 2 ≤ k' → k' ≤ 9
    → k ≢ 4 → (k' ≤ 3 → k ≤ 3) → k' ≢ serves_from (mode_of d) → IsReady d (at_stage c k x) s m → view s' m' ≡ view s m → s'.seats ≡ s.seats
    → s'.words.counter ≡ s.words.counter → s'.words.run ≡ s.words.run → s'.watch ≡ s.watch → m'.waves ≡ m.waves → m'.excepted ≡ m.excepted
    → ((j : ℕ) → j < d.processors → IsSignal d m'.waves (view s m j).visits (get_or s'.words.pend j 0))
    → ((j : ℕ) → j < d.processors → IsBusy (member m' j) (get_or s'.words.busy j 0) (get_or s'.lying.busy j None)) → IsSized d (at_stage c k x) (sizes s' m')
    → IsWords d (record (at_stage c k' x') { wave = wave; blocked = blocked; session = session }) (globe s' m')
    → IsSession (mode_of d) (record (at_stage c k' x') { wave = wave; blocked = blocked; session = session })
    → IsCourse d (record (at_stage c k' x') { wave = wave; blocked = blocked; session = session }) m'.registrations m'.pool
    → IsReady d (record (at_stage c k' x') { wave = wave; blocked = blocked; session = session }) s' m'
open_ready d c k x k' x' s s' m m' session wave blocked a b low high off early n f same seats counter run watch waves excepted signals busies sized words is course =
    open_listed d c k x k' x' s s' m m' session wave blocked c.listed a b low high off early n f same seats counter run watch waves excepted signals busies sized words is course

-- the words at another stage of an open session, with `inside`, `insync` and `source` as they then are
pub words_open : (d : SetupData) (c : Context) (k x k' x' : ℕ) (s : Scene) (m : Machine) (inside insync : ℕ) (o : Option Session) (session : Session) (wave blocked : ℕ)
    → 1 ≤ k → k ≤ 9 → 2 ≤ k' → k' ≤ 9 → inside ≡ 1 → (k' ≤ 8 → insync ≡ 0) → (k' ≡ 9 → insync ≡ 1) → (m.session ≡ Some c.session → o ≡ Some session)
    → IsWords d (at_stage c k x) (globe s m)
    → IsWords d (record (at_stage c k' x') { wave = wave; blocked = blocked; session = session }) (record (globe s m) { inside = inside; insync = insync; session = o })
words_open d c k x k' x' s m inside insync o session wave blocked a b low high i j l u h =
    record {
      some_bsp = λ _. h.some_bsp a;
      no_bsp = λ z. absurd (omega arith);
      bsp_before = λ z. absurd (omega arith);
      bsp_taken = λ _ _. h.bsp_taken a (omega arith);
      bsp_free = λ z. absurd (omega arith);
      leads = λ _. h.leads a;
      inside_before = λ z. absurd (omega arith);
      inside = λ _ _. i;
      inside_after = λ z. absurd (omega arith);
      insync_before = j;
      insync = λ y z. l (omega arith);
      insync_after = λ z. absurd (omega arith);
      chair_before = λ z. absurd (omega arith);
      chair = λ _ _. h.chair a (omega arith);
      chair_after = λ z. absurd (omega arith);
      source = h.source;
      except = h.except;
      no_session = λ z. absurd (omega arith);
      session = λ _. u (h.session a);
    }

-- stages at which no processor is named
pub no_aim : (d : SetupData) (c : Context) (k x : ℕ) → k ≢ 6 → k ≢ 11 → k ≢ 15 → k ≢ 17 → k ≢ 19 → (8 ≤ k → 11 ≤ k) → IsAim d (at_stage c k x)
no_aim d c k x a b e f n g =
    record { signals = λ z. absurd (a z); takes = λ z. absurd (b z); releases = λ z. absurd (e z); dismisses = λ z. absurd (f z); gives = λ z. absurd (n z); closes = λ z y. absurd (let u = g z in omega arith); closes_on = λ z. absurd (b z) }

-- THE STATE OF SERVING CHANGES

-- where the BSP has the chair, the others' chairs don't depend on it
pub home_same : (policy : Policy) (bsp j : ℕ) (x y : Chair) → MayLead policy bsp → j ≢ bsp → chair_home policy j x ≡ chair_home policy j y
home_same Elected bsp j x y lead n = refl
home_same (Fixed b) bsp j x y lead n = rw (ne_eqb j b (λ z. n (z ∙ sym lead))) refl

pub rechaired : (d : SetupData) (c : Context) (x : Chair) (s : Scene) (m : Machine) → 1 ≤ c.stage → c.stage ≤ 19 → IsReady d c s m
    → IsCourse d (record c { chair = x }) m.registrations m.pool
    → ((j : ℕ) → j < d.processors → j ≢ c.bsp → IsJobOf d (record c { chair = x }) j (member m j).job) → IsReady d (record c { chair = x }) s m
rechaired d c x s m a b f course jobs =
    let z = f.sized in
    let w = f.words in
    let n = f.session in
    let y = f.totals in
    record {
      platform = f.platform;
      sized = record { seats = z.seats; pend = z.pend; present = z.present; run = z.run; busy = z.busy; on_present = z.on_present; on_run = z.on_run; on_busy = z.on_busy; members = z.members; held = z.held };
      words = record { some_bsp = w.some_bsp; no_bsp = w.no_bsp; bsp_before = w.bsp_before; bsp_taken = w.bsp_taken; bsp_free = w.bsp_free; leads = w.leads; inside_before = w.inside_before; inside = w.inside; inside_after = w.inside_after; insync_before = w.insync_before; insync = w.insync; insync_after = w.insync_after; chair_before = λ u. absurd (omega arith); chair = w.chair; chair_after = λ u. absurd (omega arith); source = w.source; except = w.except; no_session = w.no_session; session = w.session };
      session = record { bsp = n.bsp; unserved = n.unserved; served = n.served; ungathered = n.ungathered; gathered = n.gathered; unready = n.unready; fresh = n.fresh; expired = n.expired; waited = n.waited; unclosed = n.unclosed; closed = n.closed; unbegun = n.unbegun; undone = n.undone; done = n.done };
      course = course;
      chipset = f.chipset;
      totals = record { counted = y.counted; counter_locked = y.counter_locked; peers = y.peers; run_open = y.run_open; run_reports = y.run_reports; run_reported = y.run_reported; run_answers = y.run_answers; run_answered = y.run_answered; run_ends = y.run_ends; run_ended = y.run_ended };
      each = λ j l.
          let h = f.each j l in
          let g = h.team in
          record {
            self = h.self;
            team = record { team_open = g.team_open; departed_open = g.departed_open; team = g.team; unreleased = g.unreleased; idle_early = g.idle_early; idle_mid = g.idle_mid; idle_after = g.idle_after; unclaimed = g.unclaimed; claimed_so_far = g.claimed_so_far; claimed = g.claimed };
            leader = h.leader;
            peer = λ q. let k = h.peer q in record { station = k.station; walking = k.walking; knows = k.knows; gone = k.gone; listed = k.listed; released_so_far = k.released_so_far; released_no_more = k.released_no_more; released = k.released; told = k.told; answered = k.answered; ended = k.ended };
          };
      runs = λ j l q. let h = f.runs j l q in record { upto = h.upto; lent = h.lent; so_far = h.so_far; no_more = h.no_more; late = h.late };
      jobs = jobs;
      idle = λ j l q. let h = f.idle j l q in record { size = h.size; held = h.held; chair = h.chair ∙ home_same d.policy c.bsp j c.chair x (w.leads a) q };
      signals = f.signals;
      busies = f.busies;
    }

-- the state of serving as the BSP begins to serve this wave, and its first row
abbrev pub begun_chair : Context → ℕ → Chair
begun_chair c wave = told_on c.held (begun_session c.bsp wave c.chair)

pub begun_course : (d : SetupData) (c : Context) (wave : ℕ) (m : Machine) → c.stage ≤ begins_from (mode_of d) → IsCourse d c m.registrations m.pool
    → IsCourse d (record c { chair = begun_chair c wave }) m.registrations m.pool
begun_course d c wave m st h =
    let mode = mode_le d in
    record {
      setup = h.setup;
      size = length-replicate {A = JobSeat} c.chair.setup.processors Free ∙ ap (λ (y : SetupData). y.processors) h.setup;
      registered = λ _. h.registered st;
      pooled = λ _. h.pooled st;
      me = λ _. refl;
      led = λ z. absurd (omega arith);
      listed = λ z. absurd (omega arith);
      over = λ z. absurd (omega arith);
    }

-- the same state at a stage up to the one at which the handlers begin
pub starting_course : (d : SetupData) (c c' : Context) (m : Machine) → c'.chair ≡ c.chair → c.stage ≤ begins_from (mode_of d) → c'.stage ≤ begins_from (mode_of d)
    → c'.chair.me ≡ c'.bsp → IsCourse d c m.registrations m.pool → IsCourse d c' m.registrations m.pool
starting_course d c c' m e a b me h =
    let mode = mode_le d in
    record {
      setup = rw e h.setup;
      size = rw e h.size;
      registered = λ _. rw e (h.registered a);
      pooled = λ _. rw e (h.pooled a);
      me = λ _. me;
      led = λ z. absurd (omega arith);
      listed = λ z. absurd (omega arith);
      over = λ z. absurd (omega arith);
    }

pub is_beginning : (d : SetupData) (c to : Context) (wave : ℕ) (m : Machine) → c.stage ≤ begins_from (mode_of d) → IsCourse d c m.registrations m.pool
    → IsBeginning d (record to { chair = begun_chair c wave; wave = wave }) m.registrations m.pool
is_beginning d c to wave m st h =
    let at : SetupData → Registrations → PoolState → Course = λ y g p. beginning wave (walks_of y.waves wave) (at_begin y g p) in
    let old = c.chair.course.place.state in
    record {
      course = ap (λ (y : SetupData). at y old.registrations old.pool) h.setup ∙ ap (λ (y : Registrations). at d y old.pool) (h.registered st) ∙ ap (λ (y : PoolState). at d m.registrations y) (h.pooled st);
      told = refl;
    }

-- THE BSP GOES ON

-- a position at which nothing is served
pub plain : (d : SetupData) (c : Context) (s : Scene) (m : Machine) (lead : Lead) (k x : ℕ) → IsReady d (at_stage c k x) s m → IsAim d (at_stage c k x)
    → stage_in lead (is_relaxed d.mode) ≡ k → next_of lead ≡ x → (is_traditional lead ≡ 1 → is_relaxed d.mode ≡ false) → part_of lead ≡ 0
    → (20 ≤ k → chair_home d.policy c.bsp c.chair ≡ Some c.chair) → Reached d c s m lead
plain d c s m lead k x ready aim st nx trad none early =
    record { stage = k; next = x; ready = ready; aim = aim; is_stage = st; is_next = nx; traditional = trad; begins = λ z. absurd (omega arith); serves = λ z. absurd (omega arith); collects = λ z. absurd (omega arith); early = early }

-- the world after the BSP's turn
pub turns : (d : SetupData) (c : Context) (s : Scene) (words : Words) (lying : Lying) (m : Machine) (t t' : Seat) (lead : Lead)
    → Reached d c (record s { words = words; lying = lying }) m lead → seat s c.bsp ≡ t → station_of t.position ≡ Leading → t'.position ≡ LeadingAt lead
    → seat_view Leading c.bsp t' ≡ seat_view Leading c.bsp t → IsHolding c lead t'
    → IsFine d (record { words = words; lying = lying; actors = slice_set (actors_of d s) c.bsp (processor_of d c.bsp t') }) m
turns d c s words lying m t t' lead r e a b sv h =
    let some = stage_some lead (is_relaxed d.mode) in
    let is = r.is_stage in
    let l : c.bsp < length s.seats = rw r.ready.sized.seats (r.ready.words.some_bsp (omega arith)) in
    seated d (at_stage c r.stage r.next) s words lying m c.bsp t' l (reaches d c (record s { words = words; lying = lying }) m t t' lead r e a b sv h)

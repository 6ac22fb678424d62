-- Every schedule is a run, where each turn of a processor keeps what holds: the induction over the schedule, and its start.
use Rattle.std.proofs.Common.{ℕ, zero, suc, ◌+◌, ◌≡◌, ◌≢◌, ◌<◌, ◌≤◌, arith, List, [], ◌∷◌, length, get_or, slice_set, replicate, map, Option, Some, None, refl, sym, ap, subst, ⊎_elim, ◌∙◌}
use Rattle.std.proofs.lemmas.Bool.{cases_eq, cases_lt, ne_eqb}
use Rattle.std.proofs.lemmas.List.{get_or-set_other, get_or-set_same, length-set, length-replicate, get_or-replicate}
use Rattle.std.specs.Prelude.{slice_get, zip}
use Rattle.smm_base.specs.declared.kinds.Policy.{Policy}
use Rattle.smm_base.specs.declared.kinds.Policy.TheVariants.{Elected, Fixed}
use Rattle.save_state_map.specs.Images.{ImageContents}
use Rattle.cpu_regs.specs.Registers.{Registers}
use Rattle.cpu_table.specs.Data.{SetupData}
use Rattle.handler_ops.specs.declared.desk.Desk.{Desk}
use Rattle.serving_place.specs.declared.seat.Seat.{Seat as JobSeat}
use Rattle.serving_place.specs.declared.seat.Seat.TheVariants.{Free}
use Rattle.handler_ops.specs.Sessions.{first_session}
use Rattle.cpu_program.specs.declared.cargo.Cargo.{Cargo}
use Rattle.cpu_program.specs.Actors.{Actor}
use Rattle.rendezvous_core.specs.Worlds.{World, step, step_of, start, first_words, first_lying, first_actors, own_chair, last_image, last_in, labels, replay_events, replay_world, events_from, world_after, as_cargo, chair_at_first}
use Rattle.rendezvous_machine.specs.declared.phase.Phase.TheVariants.{Out}
use Rattle.rendezvous_machine.specs.Machines.{Machine, Member, member, nobody, first_member, beginning, no_image}
use Rattle.rendezvous_machine.specs.Effects.{opened}
use Rattle.rendezvous_machine.specs.Runs.{IsRun, machine_after}
use Rattle.rendezvous_laws.proofs.Simulations.{EachStepKeeps, ran_from}
use Rattle.schedule_laws.proofs.Scenes.{Scene, Seat, AwaitingSmi, Watch, AnnouncingBlocked, seat, no_seat, processor_of, chipset_of, actors_from, actors_of, world_of, seat_get, watch_from, beyond_from}
use Rattle.schedule_laws.proofs.Stations.{member_of}
use Rattle.schedule_laws.proofs.Stations as stations
use Rattle.schedule_laws.proofs.Sums.{sum_below-zero}
use Rattle.schedule_laws.proofs.Invariant.{Context, IsPlatform, IsCpu, IsSelf, IsRunOf, IsJobOf, IsIdle, IsTotals, IsReady, Holds, IsFine, Kept, KeptAt, KeptHerald, View, chair_home, chair_lying, locked, members_in, team_in, raised_in, view}
use Rattle.schedule_laws.proofs.Frames.{stays, mode_le}
use Rattle.schedule_laws.proofs.Heralds.{herald_kept}

-- EACH STEP

-- each turn of a processor keeps what holds, and the machine allows its label
abbrev pub AllTurnsKept : SetupData → Type 0
AllTurnsKept d = (c : Context) (s : Scene) (m : Machine) (i : ℕ) → Holds d c s m → i < d.processors → KeptAt d s m i (seat s i) (seat s i).position

module _ (d : SetupData) (turns : AllTurnsKept d) where
  -- the step of the actor with this number
  seat_steps : (c : Context) (s : Scene) (m : Machine) (i : ℕ) → Holds d c s m → i < d.processors → Kept d m i (step (world_of d s) i)
  seat_steps c s m i f l =
      let inside : i < length s.seats = rw (f.ready.sized.seats) l in
      subst (λ (o : Option Actor). Kept d m i (step_of (world_of d s) i o)) (sym (seat_get d s i inside)) (turns c s m i f l)

  watch_steps : (c : Context) (s : Scene) (m : Machine) → Holds d c s m → Kept d m d.processors (step (world_of d s) d.processors)
  watch_steps c s m f =
      let at : slice_get (actors_of d s) d.processors ≡ Some (chipset_of d s.watch) =
      ap (λ (k : ℕ). slice_get (actors_of d s) k) (sym f.ready.sized.seats) ∙ watch_from d 0 s.seats s.watch in
      let kept : KeptHerald d s m s.watch.herald = herald_kept d c s m s.watch.herald f refl in
      subst (λ (o : Option Actor). Kept d m d.processors (step_of (world_of d s) d.processors o)) (sym at) kept

  nobody_steps : (c : Context) (s : Scene) (m : Machine) (i : ℕ) → Holds d c s m → d.processors < i → Kept d m i (step (world_of d s) i)
  nobody_steps c s m i f l =
      let beyond : length s.seats < i = rw (f.ready.sized.seats) l in
      subst (λ (o : Option Actor). Kept d m i (step_of (world_of d s) i o)) (sym (beyond_from d 0 s.seats s.watch i beyond)) (stays d c s m f)

  actor_steps : (c : Context) (s : Scene) (m : Machine) (i : ℕ) → Holds d c s m → Kept d m i (step (world_of d s) i)
  actor_steps c s m i f =
      ⊎_elim
      (λ (l : i < d.processors). seat_steps c s m i f l)
      (λ (g : d.processors ≤ i).
      ⊎_elim
      (λ (e : i ≡ d.processors). subst (λ (k : ℕ). Kept d m k (step (world_of d s) k)) (sym e) (watch_steps c s m f))
      (λ (n : i ≢ d.processors). nobody_steps c s m i f (omega arith))
      (cases_eq i d.processors))
      (cases_lt i d.processors)

  pub each_step : EachStepKeeps d (λ w m. IsFine d w m)
  each_step i w m f = subst (λ (u : World). Kept d m i (step u i)) f.world_is (actor_steps f.context f.scene m i f.holds)

-- the last resumed images agree
pub last_is : (d : SetupData) (w : World) (m : Machine) (i : ℕ) → IsFine d w m → i < d.processors → last_image w i ≡ Some (member m i).last
last_is d w m i f l =
    let s : Scene = f.scene in
    let inside : i < length s.seats = rw (f.holds.ready.sized.seats) l in
    let own : (seat s i).last ≡ (member m i).last = (f.holds.ready.each i l).self.last in
    subst (λ (u : World). last_image u i ≡ Some (member m i).last) f.world_is
    (ap last_in (seat_get d s i inside) ∙ ap (λ (x : ImageContents). Some x) own)

-- THE START

abbrev first_held : ℕ → ℕ → ImageContents → List (Option Desk)
first_held n j image = slice_set (replicate n None) j (Some (record { image = image; job = None }))

abbrev first_seat : SetupData → ℕ → Registers → ImageContents → Seat
first_seat d j registers image =
    record { position = AwaitingSmi; visits = 0; wave = 0; bsp = 0; blocked = 0; listed = []; registers = registers; last = image; held = first_held d.processors j image; chair = own_chair d.policy d j }

abbrev first_seats : SetupData → ℕ → List Registers → List ImageContents → List Seat
first_seats d j [] images = []
first_seats d j (r ∷ rs) [] = []
first_seats d j (r ∷ rs) (image ∷ images) = first_seat d j r image ∷ first_seats d (j + 1) rs images

abbrev first_watch : Watch
first_watch = record { herald = AnnouncingBlocked; wave = 1 }

abbrev first_scene : SetupData → List Registers → List ImageContents → Scene
first_scene d registers images = record { words = first_words d; lying = first_lying d; seats = first_seats d 0 registers images; watch = first_watch }

first_actors_are : (d : SetupData) (j : ℕ) (registers : List Registers) (images : List ImageContents) → actors_from d j (first_seats d j registers images) first_watch ≡ first_actors d j registers images
first_actors_are d j [] images = refl
first_actors_are d j (r ∷ rs) [] = refl
first_actors_are d j (r ∷ rs) (image ∷ images) = ap (λ (xs : List Actor). processor_of d j (first_seat d j r image) ∷ xs) (first_actors_are d (j + 1) rs images)

-- a seat and a member at first
record IsFirst (d : SetupData) (j : ℕ) (t : Seat) (x : Member) : Type 0 where
  registers : Registers
  image : ImageContents
  seat_is : t ≡ first_seat d j registers image
  member_is : x ≡ first_member registers image
  kind : image.kind ≡ d.kind

abbrev first_members : List Registers → List ImageContents → List Member
first_members registers images = map (λ x. first_member x.0 x.1) (zip registers images)

first_at : (d : SetupData) (j : ℕ) (registers : List Registers) (images : List ImageContents) (k : ℕ) → length registers ≡ length images → k < length registers
    → ((i : ℕ) → i < length images → (get_or images i no_image).kind ≡ d.kind)
    → IsFirst d (j + k) (get_or (first_seats d j registers images) k no_seat) (get_or (first_members registers images) k nobody)
first_at d j [] images k e l kinds = absurd (omega arith)
first_at d j (r ∷ rs) [] k e l kinds = absurd (omega arith)
first_at d j (r ∷ rs) (image ∷ images) zero e l kinds =
    let at : j ≡ j + 0 = omega arith in
    subst (λ (y : ℕ). IsFirst d y (first_seat d j r image) (first_member r image)) at
    (record { registers = r; image = image; seat_is = refl; member_is = refl; kind = kinds 0 (omega arith) })
first_at d j (r ∷ rs) (image ∷ images) (suc k) e l kinds =
    let at : (j + 1) + k ≡ j + suc k = omega arith in
    subst (λ (y : ℕ). IsFirst d y (get_or (first_seats d (j + 1) rs images) k no_seat) (get_or (first_members rs images) k nobody)) at
    (first_at d (j + 1) rs images k (omega arith) (omega arith) (λ i h. kinds (suc i) (omega arith)))

first_sizes : (d : SetupData) (j : ℕ) (registers : List Registers) (images : List ImageContents) → length registers ≡ length images
    → (length (first_seats d j registers images) ≡ length registers) × (length (first_members registers images) ≡ length registers)
first_sizes d j [] [] e = (refl, refl)
first_sizes d j [] (image ∷ images) e = absurd (omega arith)
first_sizes d j (r ∷ rs) [] e = absurd (omega arith)
first_sizes d j (r ∷ rs) (image ∷ images) e = let rest = first_sizes d (j + 1) rs images (omega arith) in (omega (arith, rest.0), omega (arith, rest.1))

-- nobody is the BSP
abbrev first_context : SetupData → Context
first_context d =
    record {
      stage = 0;
      bsp = locked;
      next = 0;
      peers = 0;
      wave = 0;
      blocked = 0;
      held = [];
      listed = [];
      chair = first_session d;
      place = (first_session d).course.place;
      session = opened 0;
    }

own_chair_is : (d : SetupData) (j : ℕ) (policy : Policy) → own_chair policy d j ≡ chair_home policy j (first_session d)
own_chair_is d j Elected = refl
own_chair_is d j (Fixed b) = refl

pub record IsPlatformWith (d : SetupData) (registers : List Registers) (images : List ImageContents) : Type 0 where
  pub platform : IsPlatform d
  pub count : length registers ≡ d.processors
  pub many : length images ≡ d.processors
  pub kinds : (i : ℕ) → i < length images → (get_or images i no_image).kind ≡ d.kind

chair_lying_is : (d : SetupData) (policy : Policy) → as_cargo (chair_at_first policy d) ≡ chair_lying policy (first_session d)
chair_lying_is d Elected = refl
chair_lying_is d (Fixed b) = refl

-- a list of nothing has nothing at any place
nothing_at : (n k : ℕ) → get_or {A = Option Desk} (replicate n None) k None ≡ None
nothing_at zero k = refl
nothing_at (suc n) zero = refl
nothing_at (suc n) (suc k) = nothing_at n k

-- a processor at first
first_self : (d : SetupData) (registers : Registers) (image : ImageContents) → IsPlatform d → image.kind ≡ d.kind → (own : Option Desk)
    → own ≡ Some (record { image = image; job = None })
    → IsSelf d 0 None (record { station = stations.AwaitingSmi; knows = 0; seat_visits = 0; own = own; seat_registers = registers; seat_last = image; present = 0; on_present = None; on_run = None; phase = Out; visits = 0; registers = registers; last = image; image = image; job = None; work = 0; team = 0; released = 0; departed = 0 })
first_self d registers image p k own e =
    record {
      phase = refl;
      visits = refl;
      registers = refl;
      last = refl;
      kind = k;
      most = omega arith;
      waiting = λ _. let v = p.visits in omega arith;
      through = λ z. absurd (omega arith);
      inside = λ z. absurd (omega arith);
      begun = λ z. absurd (omega arith);
      team_bit = omega arith;
      released_bit = omega arith;
      departed_bit = omega arith;
      work_le = omega arith;
      present_le = omega arith;
      absent = λ _. refl;
      there = λ z. absurd (omega arith);
      worker = λ z. absurd (omega arith);
      idle_away = λ _. refl;
      running = λ z. absurd (omega arith);
      own = λ _ _. e;
      own_job = λ z. absurd (omega arith);
      own_out = λ z. absurd (omega arith);
      on_present = λ z. absurd (omega arith);
      off_present = λ _. refl;
      on_run = λ z. absurd (omega arith);
      on_run_job = λ z. absurd (omega arith);
      off_run = λ _ _. refl;
      off_run_own = λ _. refl;
      held = λ z. absurd (omega arith);
      not_held = λ _. refl;
      given_back = λ z. absurd (omega arith);
      lent = λ z. absurd (omega arith);
    }

module _ (d : SetupData) (registers : List Registers) (images : List ImageContents) (p : IsPlatformWith d registers images) where
  abbrev scene : Scene
  scene = first_scene d registers images

  abbrev machine : Machine
  machine = beginning d registers images

  first_is : (j : ℕ) → j < d.processors → IsFirst d j (seat scene j) (member machine j)
  first_is j l =
      let e : 0 + j ≡ j = omega arith in
      subst (λ (k : ℕ). IsFirst d k (seat scene j) (member machine j)) e (first_at d 0 registers images j (p.count ∙ sym p.many) (rw p.count l) p.kinds)

  -- the view of a processor at first
  abbrev first_view : Registers → ImageContents → ℕ → View
  first_view own image j =
      record { station = stations.AwaitingSmi; knows = 0; seat_visits = 0; own = get_or (first_held d.processors j image) j None; seat_registers = own; seat_last = image; present = 0; on_present = None; on_run = None; phase = Out; visits = 0; registers = own; last = image; image = image; job = None; work = 0; team = 0; released = 0; departed = 0 }

  view_is : (j : ℕ) (l : j < d.processors) → view scene machine j ≡ first_view (first_is j l).registers (first_is j l).image j
  view_is j l =
      let f = first_is j l in
      rw (f.seat_is, f.member_is, get_or-replicate {A = ℕ} d.processors j 0 0 l, get_or-replicate {A = Option Cargo} d.processors j None None l) refl

  first_cpu : (j : ℕ) → j < d.processors → IsCpu d (first_context d) 0 j (view scene machine j)
  first_cpu j l =
      let f = first_is j l in
      let own : get_or (first_held d.processors j f.image) j None ≡ Some (record { image = f.image; job = None }) =
      get_or-set_same (replicate d.processors None) j (Some (record { image = f.image; job = None })) None (rw (length-replicate {A = Option Desk} d.processors None) l) in
      let few = p.platform.few in
      subst (λ (v : View). IsCpu d (first_context d) 0 j v) (sym (view_is j l))
      (record {
        self = rw (ne_eqb j locked (λ z. omega arith)) (first_self d f.registers f.image p.platform f.kind (get_or (first_held d.processors j f.image) j None) own);
        team = record { team_open = λ _. refl; departed_open = λ _. refl; team = λ z. absurd (omega arith); unreleased = λ _. refl; idle_early = λ _. refl; idle_mid = λ z. absurd (omega arith); idle_after = λ z. absurd (omega arith); unclaimed = λ _. omega arith; claimed_so_far = λ z. absurd (omega arith); claimed = λ z. absurd (omega arith) };
        leader = λ z. absurd (omega arith);
        peer = λ _. record { station = refl; walking = λ z. absurd (omega arith); knows = λ z. absurd (omega arith); gone = λ z. absurd (omega arith); listed = λ z. absurd (omega arith); released_so_far = λ z. absurd (omega arith); released_no_more = λ z. absurd (omega arith); released = λ z. absurd (omega arith); told = λ z. absurd (omega arith); answered = λ z. absurd (omega arith); ended = λ z. absurd (omega arith) };
      })

  first_run : (j : ℕ) → j < d.processors → IsRunOf (first_context d) j (view scene machine j) (get_or scene.words.run j 0)
  first_run j l =
      subst (λ (v : View). IsRunOf (first_context d) j v (get_or scene.words.run j 0)) (sym (view_is j l))
      (rw (get_or-replicate {A = ℕ} d.processors j 0 0 l)
      (record { upto = λ _ _. refl; lent = λ z. absurd (omega arith); so_far = λ z. absurd (omega arith); no_more = λ z. absurd (omega arith); late = λ z. absurd (omega arith) }))

  first_job : (j : ℕ) → j < d.processors → IsJobOf d (first_context d) j (member machine j).job
  first_job j l =
      let f = first_is j l in
      let mode = mode_le d in
      subst (λ (x : Member). IsJobOf d (first_context d) j x.job) (sym f.member_is)
      (record { procedure = λ z. absurd (omega arith); free = λ _ _. refl; given = λ z. absurd (omega arith); listed = λ z. absurd (omega arith) })

  first_idle : (j : ℕ) → j < d.processors → IsIdle d (first_context d) j (seat scene j)
  first_idle j l =
      let f = first_is j l in
      subst (IsIdle d (first_context d) j) (sym f.seat_is)
      (record {
        size = length-set (replicate d.processors None) j (Some (record { image = f.image; job = None })) ∙ length-replicate {A = Option Desk} d.processors None;
        held = λ k n. get_or-set_other (replicate d.processors None) j k (Some (record { image = f.image; job = None })) None n ∙ nothing_at d.processors k;
        chair = own_chair_is d j d.policy;
      })

  first_totals : IsTotals (first_context d) 0 (get_or scene.words.run locked 0) (members_in d.processors (view scene machine)) (team_in d.processors (view scene machine)) (raised_in d.processors (view scene machine))
  first_totals =
      record {
        counted = λ _. sym (sum_below-zero d.processors (λ j. member_of (view scene machine j).station) (λ j l. ap (λ (v : View). member_of v.station) (view_is j l)));
        counter_locked = λ z. absurd (omega arith);
        peers = λ z. absurd (omega arith);
        run_open = λ z. absurd (omega arith);
        run_reports = λ z. absurd (omega arith);
        run_reported = λ z. absurd (omega arith);
        run_answers = λ z. absurd (omega arith);
        run_answered = λ z. absurd (omega arith);
        run_ends = λ z. absurd (omega arith);
        run_ended = λ z. absurd (omega arith);
      }

  first_ready : IsReady d (first_context d) scene machine
  first_ready =
      let sizes = first_sizes d 0 registers images (p.count ∙ sym p.many) in
      let mode = mode_le d in
      record {
        platform = p.platform;
        sized = record {
          seats = sizes.0 ∙ p.count;
          pend = length-replicate {A = ℕ} d.processors 0;
          present = length-replicate {A = ℕ} d.processors 0;
          run = length-replicate {A = ℕ} d.processors 0;
          busy = length-replicate {A = ℕ} d.processors 0;
          on_present = length-replicate {A = Option Cargo} d.processors None;
          on_run = length-replicate {A = Option Cargo} d.processors None;
          on_busy = length-replicate {A = Option Cargo} d.processors None;
          members = sizes.1 ∙ p.count;
          held = λ z. absurd (omega arith);
        };
        words = record {
          some_bsp = λ z. absurd (omega arith);
          no_bsp = λ _. refl;
          bsp_before = λ _. refl;
          bsp_taken = λ z. absurd (omega arith);
          bsp_free = λ z. absurd (omega arith);
          leads = λ z. absurd (omega arith);
          inside_before = λ _. refl;
          inside = λ z. absurd (omega arith);
          inside_after = λ z. absurd (omega arith);
          insync_before = λ _. refl;
          insync = λ z. absurd (omega arith);
          insync_after = λ z. absurd (omega arith);
          chair_before = λ _. chair_lying_is d d.policy;
          chair = λ z. absurd (omega arith);
          chair_after = λ z. absurd (omega arith);
          source = refl;
          except = refl;
          no_session = λ _. refl;
          session = λ z. absurd (omega arith);
        };
        session = record { bsp = λ z. absurd (omega arith); unserved = λ _. refl; served = λ z. absurd (omega arith); ungathered = λ _. refl; gathered = λ _ z. absurd (omega arith); unready = λ _. refl; fresh = λ _. refl; expired = λ _ z. absurd (omega arith); waited = λ _ z. absurd (omega arith); unclosed = λ _. refl; closed = λ z. absurd (omega arith); unbegun = λ _. refl; undone = λ _. refl; done = λ z. absurd (omega arith) };
        course = record { setup = refl; size = length-replicate {A = JobSeat} d.processors Free; registered = λ _. refl; pooled = λ _. refl; me = λ z. absurd (omega arith); led = λ z. absurd (omega arith); listed = λ z. absurd (omega arith); over = λ z. absurd (omega arith) };
        chipset = record { before = λ _. (refl, refl, let w = p.platform.waves in omega arith); between = λ z. absurd (omega arith); announced = λ z. absurd (omega arith); through = λ z. absurd (omega arith) };
        totals = first_totals;
        each = first_cpu;
        runs = λ j l _. first_run j l;
        jobs = λ j l _. first_job j l;
        idle = λ j l _. first_idle j l;
        signals = λ j l. rw (get_or-replicate {A = ℕ} d.processors j 0 0 l) (record { some = λ z. absurd (omega arith); off = λ z. absurd (omega arith) });
        busies = λ j l. let f = first_is j l in rw (f.member_is, get_or-replicate {A = ℕ} d.processors j 0 0 l) (record { lies = λ z. absurd (omega arith); finished = λ z. absurd (omega arith); ran = λ z. absurd (omega arith) });
      }

  pub first_fine : IsFine d (start d registers images) machine
  first_fine =
      record {
        context = first_context d;
        scene = scene;
        world_is = ap (λ (xs : List Actor). record { words = first_words d; lying = first_lying d; actors = xs }) (first_actors_are d 0 registers images);
        holds = record {
          ready = first_ready;
          aim = record { signals = λ z. absurd (omega arith); takes = λ z. absurd (omega arith); releases = λ z. absurd (omega arith); dismisses = λ z. absurd (omega arith); gives = λ z. absurd (omega arith); closes = λ z. absurd (omega arith); closes_on = λ z. absurd (omega arith) };
          at = λ z. absurd (omega arith);
        };
      }

-- EVERY SCHEDULE

-- the labels are a run, and the replay leaves the machine's last resumed images
pub record IsReplayed (d : SetupData) (registers : List Registers) (images : List ImageContents) (schedule : List ℕ) : Type 0 where
  pub run : IsRun d (beginning d registers images) (labels (replay_events d registers images schedule))
  pub after : (i : ℕ) → i < d.processors
      → last_image (replay_world d registers images schedule) i ≡ Some (member (machine_after d (beginning d registers images) (labels (replay_events d registers images schedule))) i).last

pub replayed : (d : SetupData) (registers : List Registers) (images : List ImageContents) (schedule : List ℕ) → AllTurnsKept d → IsPlatformWith d registers images
    → IsReplayed d registers images schedule
replayed d registers images schedule turns p =
    let w : World = start d registers images in
    let m : Machine = beginning d registers images in
    let ran = ran_from d (λ u n. IsFine d u n) (each_step d turns) schedule w m (first_fine d registers images p) in
    record { run = ran.run; after = λ i l. last_is d (world_after w schedule) (machine_after d m (labels (events_from w schedule))) i ran.after l }

-- An AP runs its job as it gives its desk back: the machine's serving list grows by that, unless serving is over.
use Rattle.std.proofs.Common.{ℕ, ◌+◌, ◌-◌, ◌*◌, ◌≡◌, ◌≢◌, ◌<◌, ◌≤◌, ◌⊎◌, inl, inr, arith, Bool, true, false, List, [], ◌∷◌, ◌++◌, length, get_or, slice_set, Option, Some, None, refl, sym, subst, ap, ⊎_elim, ◌∙◌}
use Rattle.std.specs.Prelude.{IsSomeAnd, option_map}
use Rattle.std.proofs.lemmas.Bool.{cases_eq, cases_Bool, cases_lt, ne_eqb, lt-ltb}
use Rattle.std.proofs.lemmas.List.{get_or-set_other, get_or-set_same, length-set}
use Rattle.smm_base.specs.declared.kinds.HandlerType.{HandlerType}
use Rattle.smm_base.specs.declared.status.Status.{Status}
use Rattle.save_state_map.specs.Images.{ImageContents}
use Rattle.cpu_table.specs.Data.{SetupData}
use Rattle.handler_ops.specs.declared.desk.Desk.{Desk}
use Rattle.handler_ops.specs.declared.desk.Job.{Job}
use Rattle.serving_place.specs.declared.seat.Seat.{Seat as JobSeat}
use Rattle.serving_place.specs.declared.seat.Seat.TheVariants.{Free}
use Rattle.serving_place.specs.Serving.{Serving, HasOpen, run_at}
use Rattle.serving_place.specs.Serving as serving
use Rattle.serving_place.specs.Forms.{Event, Ran}
use Rattle.serving_place.specs.Beginning.{program_of}
use Rattle.serving_place.specs.Places.{OpenWalk, Begun, Place, next}
use Rattle.handler_ops.specs.Procedures.{job_on, desk_with}
use Rattle.serving_place.specs.Stands.{Leads}
use Rattle.cpu_program.specs.declared.cargo.Cargo.{Cargo}
use Rattle.cpu_program.specs.declared.cargo.Cargo.TheVariants as cargo
use Rattle.cpu_program.specs.Processors.{is_relaxed, can_run}
use Rattle.rendezvous_core.specs.Worlds.{Words, Lying}
use Rattle.rendezvous_machine.specs.Machines.{Machine, Member, Session, member, nobody}
use Rattle.rendezvous_machine.specs.Listed.{is_over, nothing_left, place_of, place_in, place_by, first_serving, grown_unless}
use Rattle.rendezvous_machine.specs.Effects.{with_member, worked, hears, answered, image_run}
use Rattle.rendezvous_machine.proofs.ImageKinds.{run_kind}
use Rattle.rendezvous_laws.proofs.Places.{leads_after, leads_on}
use Rattle.schedule_laws.proofs.Scenes.{Scene, Seat, GivingBack, AwaitingRelease, seat, no_seat, processor_of, actors_of}
use Rattle.schedule_laws.proofs.Stations.{station_of, work_of}
use Rattle.schedule_laws.proofs.Stations as stations
use Rattle.schedule_laws.proofs.Leads.{serves_stage}
use Rattle.schedule_laws.proofs.Invariant.{Context, View, IsCpu, IsAt, IsCourse, IsJobOf, IsIdle, IsRunOf, IsBusy, GoesOn, Holds, IsFine, KeptAt, begins_from, serves_from, mode_of, desk_at, first_place, with_done, by_done, is_owed, seat_known, seat_listed, view, view_at, view_of, seat_view, locked}
use Rattle.schedule_laws.proofs.Frames.{IsAround, IsMover, mover, around, peers_move, own_at, run_of, view_is, seat_set, seated, keeps_own, keeps_idle, busies_set, signals_more, mode_le}
use Rattle.schedule_laws.proofs.Facts.{work_unreleased}
use Rattle.schedule_laws.proofs.Works.{IsOpenJob, open_job}
use Rattle.schedule_laws.proofs.ReportMoves.{running_job, running_job_run}

-- ANOTHER LIST, AND THE PLACE THAT STANDS FOR IT

abbrev relisted : Context → Option (List Event) → Place → Context
relisted c said p = record c { place = p; session = record c.session { serving = said } }

relisted_cpu : (d : SetupData) (c : Context) (said : Option (List Event)) (p : Place) (waves j : ℕ) (v : View) → IsCpu d c waves j v → IsCpu d (relisted c said p) waves j v
relisted_cpu d c said p waves j v h =
    let g = h.team in
    record {
      self = h.self;
      team = record { team_open = g.team_open; departed_open = g.departed_open; team = g.team; unreleased = g.unreleased; idle_early = g.idle_early; idle_mid = g.idle_mid; idle_after = g.idle_after; unclaimed = g.unclaimed; claimed_so_far = g.claimed_so_far; claimed = g.claimed };
      leader = h.leader;
      peer = λ z. let k = h.peer z in record { station = k.station; walking = k.walking; knows = k.knows; gone = k.gone; listed = k.listed; released_so_far = k.released_so_far; released_no_more = k.released_no_more; released = k.released; told = k.told; answered = k.answered; ended = k.ended };
    }

relisted_run : (c : Context) (said : Option (List Event)) (p : Place) (j : ℕ) (v : View) (run : ℕ) → IsRunOf c j v run → IsRunOf (relisted c said p) j v run
relisted_run c said p j v run h = record { upto = h.upto; lent = h.lent; so_far = h.so_far; no_more = h.no_more; late = h.late }

relisted_at : (d : SetupData) (c : Context) (said : Option (List Event)) (p : Place) (m : Machine) (t : Seat) → serving.seat p.state c.bsp ≡ seat_listed c c.bsp → IsAt d c m.registrations m.pool t
    → IsAt d (relisted c said p) m.registrations m.pool t
relisted_at d c said p m t leads h =
    let k = h.is in
    record {
      lead = h.lead;
      position = h.position;
      is = record {
        stage = k.stage;
        traditional = k.traditional;
        next = k.next;
        wave = k.wave;
        blocked = k.blocked;
        listed = k.listed;
        held = k.held;
        chair = k.chair;
        no_chair = k.no_chair;
        begins = λ z. let y = k.begins z in record { course = y.course; told = y.told };
        serves = λ z. let y = k.serves z in record { goes_on = y.goes_on; fits = y.fits; own = leads ∙ y.own; sound = y.sound; told = y.told };
        collects = λ z. let y = k.collects z in record { over = y.over; next = y.next; other = y.other; owed = y.owed; own = y.own };
      };
    }

relisted_around : (d : SetupData) (c : Context) (said : Option (List Event)) (p : Place) (s : Scene) (m : Machine) → begins_from (mode_of d) < c.stage → serving.seat p.state c.bsp ≡ seat_listed c c.bsp → IsAround d c s m
    → IsAround d (relisted c said p) s m
relisted_around d c said p s m late leads g =
    let x = g.session in
    let y = g.totals in
    let a = g.aim in
    record {
      platform = g.platform;
      session = record { bsp = x.bsp; unserved = x.unserved; served = x.served; ungathered = x.ungathered; gathered = x.gathered; unready = x.unready; fresh = x.fresh; expired = x.expired; waited = x.waited; unclosed = x.unclosed; closed = x.closed; unbegun = λ z. absurd (omega arith); undone = x.undone; done = x.done };
      totals = record { counted = y.counted; counter_locked = y.counter_locked; peers = y.peers; run_open = y.run_open; run_reports = y.run_reports; run_reported = y.run_reported; run_answers = y.run_answers; run_answered = y.run_answered; run_ends = y.run_ends; run_ended = y.run_ended };
      each = λ j k. relisted_cpu d c said p m.waves j (view s m j) (g.each j k);
      runs = λ j k n. relisted_run c said p j (view s m j) (get_or s.words.run j 0) (g.runs j k n);
      idle = λ j k n. let h = g.idle j k n in record { size = h.size; held = h.held; chair = h.chair };
      aim = record { signals = a.signals; takes = a.takes; releases = a.releases; dismisses = a.dismisses; gives = a.gives; closes = a.closes; closes_on = a.closes_on };
      at = λ z. relisted_at d c said p m (seat s c.bsp) leads (g.at z);
    }

-- THE PLACE OF THE MACHINE'S LIST

-- there is one, and it leads to the context's place
pub record IsSaid (d : SetupData) (c : Context) (m : Machine) : Type 0 where
  pub said : List Event
  pub is : c.session.serving ≡ Some said
  pub place : place_of d m ≡ c.place

said_some : (o : Option (List Event)) (P : List Event → Type 0) → IsSomeAnd o P → (x : List Event) × (o ≡ Some x) × P x
said_some None P h = absurd h
said_some (Some x) P h = (x, refl, h)

pub place_said : (d : SetupData) (c : Context) (s : Scene) (m : Machine) → Holds d c s m → c.stage ≡ serves_from (mode_of d) → IsSaid d c m
place_said d c s m f st =
    let g = f.ready in
    let mode = mode_le d in
    let have = said_some c.session.serving _ (g.course.led (omega arith)) in
    let fs : Serving = first_serving d m in
    let session : m.session ≡ Some c.session = g.words.session (omega arith) in
    let served : c.session.served ≡ Some c.wave = g.session.served (omega arith) in
    record {
      said = have.0;
      is = have.1;
      place = ap (λ (o : Option Session). place_in d fs o) session ∙ ap (λ (o : Option ℕ). place_by d fs o c.session.serving) served
          ∙ ap (λ (o : Option (List Event)). place_by d fs (Some c.wave) o) have.1
          ∙ leads_after (program_of d) (first_place d c.wave m.registrations m.pool) have.0 c.place have.2;
    }

over_goes : (kinds : List HandlerType) (walks : List OpenWalk) (begun : Option Begun) (s : Serving) → nothing_left kinds walks begun ≡ true
    → GoesOn (record { kinds = kinds; walks = walks; begun = begun; state = s }) → ⊥
over_goes [] [] None s e h = h
over_goes (k ∷ ks) walks begun s e h = absurd cc
over_goes [] (w ∷ ws) begun s e h = absurd cc
over_goes [] [] (Some b) s e h = absurd cc

not_over_goes : (kinds : List HandlerType) (walks : List OpenWalk) (begun : Option Begun) (s : Serving) → nothing_left kinds walks begun ≡ false
    → GoesOn (record { kinds = kinds; walks = walks; begun = begun; state = s })
not_over_goes [] [] None s e = absurd cc
not_over_goes (k ∷ ks) walks begun s e = tt
not_over_goes [] (w ∷ ws) begun s e = tt
not_over_goes [] [] (Some b) s e = tt

-- THE STEP

-- what stays where the job x was run, with this list and this place
gives_back : (d : SetupData) (c : Context) (i : ℕ) (s : Scene) (m : Machine) (t : Seat) (x : Member) (o : Option Cargo) (said : Option (List Event)) (p : Place)
    (session : Option Session) → IsMover d c i s m t GivingBack → begins_from (mode_of d) < c.stage → serving.seat p.state c.bsp ≡ seat_listed c c.bsp → session ≡ Some (record c.session { serving = said })
    → IsCourse d (relisted c said p) m.registrations m.pool
    → ((j : ℕ) → j < d.processors → j ≢ c.bsp → IsJobOf d (relisted c said p) j (member (with_member i x m) j).job) → IsBusy x 2 o → x.visits ≡ (member m i).visits
    → x.in_closed_set ≡ (member m i).in_closed_set → x.has_departed ≡ (member m i).has_departed
    → IsCpu d c m.waves i (view_of (seat_view stations.AwaitingRelease i (record t { position = AwaitingRelease; held = slice_set t.held i None })) (get_or s.words.present i 0) (get_or s.lying.present i None) (get_or s.lying.run i None) x)
    → IsRunOf c i (view_of (seat_view stations.AwaitingRelease i (record t { position = AwaitingRelease; held = slice_set t.held i None })) (get_or s.words.present i 0) (get_or s.lying.present i None) (get_or s.lying.run i None) x) (get_or s.words.run i 0)
    → Holds d (relisted c said p) (record s { words = record s.words { busy = slice_set s.words.busy i 2 }; lying = record s.lying { busy = slice_set s.lying.busy i o }; seats = slice_set s.seats i (record t { position = AwaitingRelease; held = slice_set t.held i None }) })
    (record (with_member i x m) { session = session })
gives_back d c i s m t x o said p session h late leads se course jobs bz ev et ed own run =
    let f = h.holds in
    let g = f.ready in
    let z = g.sized in
    let w = g.words in
    let c' : Context = relisted c said p in
    let t' : Seat = record t { position = AwaitingRelease; held = slice_set t.held i None } in
    let ls : i < length s.seats = rw z.seats h.there in
    let lm : i < length m.members = rw z.members h.there in
    let lb : i < length s.words.busy = rw z.busy h.there in
    let lo : i < length s.lying.busy = rw z.on_busy h.there in
    let s' : Scene = record s { words = record s.words { busy = slice_set s.words.busy i 2 }; lying = record s.lying { busy = slice_set s.lying.busy i o }; seats = slice_set s.seats i t' } in
    let m1 : Machine = with_member i x m in
    let m' : Machine = record m1 { session = session } in
    let v' : View = view_of (seat_view stations.AwaitingRelease i t') (get_or s.words.present i 0) (get_or s.lying.present i None) (get_or s.lying.run i None) x in
    let here : seat s' i ≡ t' = seat_set s i t' ls in
    let new : view s' m' i ≡ v' = rw (get_or-set_same s.seats i t' no_seat ls, get_or-set_same m.members i x nobody lm) refl in
    let keeps : IsIdle d c i t' = keeps_idle d c i s m t t' GivingBack h (keeps_own i t None AwaitingRelease) in
    peers_move d c' i s s' m m' (view_at (station_of GivingBack) t s m i) v' (get_or s.words.run i 0) (relisted_around d c said p s m late leads (around d c s m f)) h.there h.other
    (record {
      sized = record { seats = length-set s.seats i t' ∙ z.seats; pend = z.pend; present = z.present; run = z.run; busy = length-set s.words.busy i 2 ∙ z.busy; on_present = z.on_present; on_run = z.on_run; on_busy = length-set s.lying.busy i o ∙ z.on_busy; members = length-set m.members i x ∙ z.members; held = z.held };
      words = record { some_bsp = w.some_bsp; no_bsp = w.no_bsp; bsp_before = w.bsp_before; bsp_taken = w.bsp_taken; bsp_free = w.bsp_free; leads = w.leads; inside_before = w.inside_before; inside = w.inside; inside_after = w.inside_after; insync_before = w.insync_before; insync = w.insync; insync_after = w.insync_after; chair_before = w.chair_before; chair = w.chair; chair_after = w.chair_after; source = w.source; except = w.except; no_session = λ y. absurd (omega arith); session = λ _. se };
      course = course;
      chipset = g.chipset;
      waves = refl;
      registered = refl;
      pooled = refl;
      old = view_is s m i t GivingBack h.seat_is h.position_is;
      new = new;
      others = λ j k n. rw (get_or-set_other s.seats i j t' no_seat n, get_or-set_other m.members i j x nobody n) refl;
      seats = λ j n. get_or-set_other s.seats i j t' no_seat n;
      runs = λ j n u. refl;
      own_run = refl;
      jobs = jobs;
      idle = subst (IsIdle d c' i) (sym here) (record { size = keeps.size; held = keeps.held; chair = keeps.chair });
      signals = signals_more d m i x s.words.pend lm (omega arith) g.signals;
      busies = busies_set d m i 2 o x s (slice_set s.lying.busy i o) lm lb (get_or-set_same s.lying.busy i o None lo) (λ j n. get_or-set_other s.lying.busy i j o None n) bz g.busies;
    })
    (record { counted = λ _. omega arith; locked = λ _. refl; team = ap stations.bit et; made = λ _. omega (arith, ap stations.bit ed) })
    (relisted_cpu d c said p m.waves i v' own)
    (relisted_run c said p i v' (get_or s.words.run i 0) run)

-- the same list and place: nothing is to be told
same_job : (d : SetupData) (c : Context) (j : ℕ) (job : Option Job) → IsJobOf d c j job → IsJobOf d (relisted c c.session.serving c.place) j job
same_job d c j job h = record { procedure = h.procedure; free = h.free; given = h.given; listed = h.listed }

same_course : (d : SetupData) (c : Context) (m : Machine) → IsCourse d c m.registrations m.pool
    → IsCourse d (relisted c c.session.serving c.place) m.registrations m.pool
same_course d c m h =
    record { setup = h.setup; size = h.size; registered = h.registered; pooled = h.pooled; me = h.me; led = h.led; listed = h.listed; over = h.over }

-- the list with the job that was run
more_course : (d : SetupData) (c : Context) (m : Machine) (i n a : ℕ) (S : Status) (said : List Event) → begins_from (mode_of d) < c.stage
    → c.session.serving ≡ Some said → GoesOn c.place → HasOpen (seat_listed c i) n → serves_from (mode_of d) ≤ c.stage → IsCourse d c m.registrations m.pool
    → IsCourse d (relisted c (Some (said ++ Ran i n a S ∷ [])) (next (program_of d) c.place (Ran i n a S))) m.registrations m.pool
more_course d c m i n a S said late is on given st h =
    let old = h.listed st in
    let e : Event = Ran i n a S in
    let led : Leads (program_of d) (first_place d c.wave m.registrations m.pool) said c.place =
    subst (λ (o : Option (List Event)). IsSomeAnd o (λ es. Leads (program_of d) (first_place d c.wave m.registrations m.pool) es c.place)) is (h.led st) in
    let seats : List JobSeat = slice_set c.place.state.seats i (run_at (seat_listed c i) a S) in
    record {
      setup = h.setup;
      size = h.size;
      registered = λ z. absurd (omega arith);
      pooled = λ z. absurd (omega arith);
      me = h.me;
      led = λ _. leads_on (program_of d) (first_place d c.wave m.registrations m.pool) said c.place e led (on, given);
      listed = λ _. record {
        size = length-set c.place.state.seats i (run_at (seat_listed c i) a S) ∙ old.size;
        same = ap (λ (y : Place). record y { state = record y.state { seats = seats } }) old.same;
      };
      over = h.over;
    }

-- the others' jobs in that list, and the one that was run
other_job : (d : SetupData) (c : Context) (said : List Event) (i j n a : ℕ) (S : Status) (job : Option Job) → j ≢ i → IsJobOf d c j job
    → IsJobOf d (relisted c (Some said) (next (program_of d) c.place (Ran i n a S))) j job
other_job d c said i j n a S job ne h =
    record {
      procedure = h.procedure;
      free = h.free;
      given = h.given;
      listed = λ st on. get_or-set_other c.place.state.seats i j (run_at (seat_listed c i) a S) Free ne ∙ h.listed st on;
    }

-- what holds of the job that was run, in either list
record IsRunJob (d : SetupData) (c : Context) (i : ℕ) (job : Job) : Type 0 where
  procedure : job.procedure < length d.procedures
  given : HasOpen (seat_known c i) job.number

ran_job : (d : SetupData) (c : Context) (said : Option (List Event)) (p : Place) (i : ℕ) (job : Job) (answer : ℕ × Status) (o : Option Job)
    → o ≡ Some (record job { done = Some answer }) → IsRunJob d c i job → (is_owed c i ≡ false → ⊥)
    → (GoesOn c.chair.course.place → serving.seat p.state i ≡ run_at (seat_known c i) answer.0 answer.1) → IsJobOf d (relisted c said p) i o
ran_job d c said p i job answer o e h busy listed =
    subst (λ (y : Option Job). IsJobOf d (relisted c said p) i y) (sym e)
    (record { procedure = λ _. h.procedure; free = λ _ z. absurd (busy z); given = λ _ _. h.given; listed = λ _ on. listed on })

-- members but the one that moves
moved_jobs : (d : SetupData) (c c' : Context) (m : Machine) (i : ℕ) (x : Member) → i < length m.members → i < d.processors → i ≢ c.bsp
    → ((j : ℕ) → j < d.processors → j ≢ c.bsp → j ≢ i → IsJobOf d c' j (member m j).job) → IsJobOf d c' i x.job → (j : ℕ) → j < d.processors → j ≢ c.bsp
    → IsJobOf d c' j (member (with_member i x m) j).job
moved_jobs d c c' m i x lm l nb others own j k n =
    ⊎_elim
    (λ (q : j ≡ i). subst (λ (y : ℕ). IsJobOf d c' y (member (with_member i x m) y).job) (sym q)
    (subst (λ (y : Member). IsJobOf d c' i y.job) (sym (get_or-set_same m.members i x nobody lm)) own))
    (λ (q : j ≢ i). subst (λ (y : Member). IsJobOf d c' j y.job) (sym (get_or-set_other m.members i j x nobody q)) (others j k n q))
    (cases_eq j i)

pub give_back : (d : SetupData) (c : Context) (i : ℕ) (s : Scene) (m : Machine) (t : Seat) → Holds d c s m → i < d.processors → seat s i ≡ t → t.position ≡ GivingBack
    → KeptAt d s m i t GivingBack
give_back d c i s m t f l e q =
    let g = f.ready in
    let v : View = view_at (station_of GivingBack) t s m i in
    let own : IsCpu d c m.waves i (view_at (station_of GivingBack) t s m i) = own_at d c i s m t GivingBack f l e q in
    let h : IsMover d c i s m t GivingBack = mover d c i s m t GivingBack refl f l e q in
    let nb : i ≢ c.bsp = h.other in
    let ls : i < length s.seats = rw g.sized.seats l in
    let lm : i < length m.members = rw g.sized.members l in
    let platform = g.platform.few in
    let few : i ≢ d.processors = (λ y. omega arith) in
    let work : v.work ≡ 1 = own.self.running refl in
    let free : v.released ≡ 0 = work_unreleased c i v work own.team in
    let J : IsOpenJob (member m i).job = open_job (member m i).job work in
    let image : ImageContents = (member m i).image in
    let answer : ℕ × Status = (job_on d.procedures J.job image).answer in
    let idle : IsIdle d c i t = subst (IsIdle d c i) h.seat_is (g.idle i l nb) in
    let team = own.team in
    let stages : (c.stage ≡ 4) ⊎ (c.stage ≡ 13) =
    ⊎_elim
    (λ (a : c.stage < 5). ⊎_elim (λ (b : c.stage < 4). absurd (let y = team.idle_early (omega arith) in omega arith)) (λ (b : 4 ≤ c.stage). inl (omega arith)) (cases_lt c.stage 4))
    (λ (a : 5 ≤ c.stage).
    ⊎_elim
    (λ (b : c.stage < 13). absurd (let y = team.idle_mid a (omega arith) in omega arith))
    (λ (b : 13 ≤ c.stage). ⊎_elim (λ (k : c.stage < 14). inr (omega arith)) (λ (k : 14 ≤ c.stage). absurd (let y = team.idle_after k in omega arith)) (cases_lt c.stage 14))
    (cases_lt c.stage 13))
    (cases_lt c.stage 5) in
    let some : 1 ≤ c.stage = ⊎_elim (λ (a : c.stage ≡ 4). omega arith) (λ (a : c.stage ≡ 13). omega arith) stages in
    let at = f.at some in
    let st : c.stage ≡ serves_from (mode_of d) = serves_stage at.lead (is_relaxed d.mode) c.stage at.is.stage stages in
    let mode = mode_le d in
    let late : begins_from (mode_of d) < c.stage = omega arith in
    let later : serves_from (mode_of d) ≤ c.stage = omega arith in
    let job = g.jobs i l nb in
    let some_work : 1 ≤ work_of (member m i).job = omega arith in
    let procedure : J.job.procedure < length d.procedures = subst (λ (o : Option Job). IsSomeAnd o (λ y. y.procedure < length d.procedures)) J.is (job.procedure some_work) in
    let busy : is_owed c i ≡ false → ⊥ = (λ z. let y = job.free st z in omega arith) in
    let owed : is_owed c i ≡ true = ⊎_elim (λ (a : is_owed c i ≡ true). a) (λ (a : is_owed c i ≡ false). absurd (busy a)) (cases_Bool (is_owed c i)) in
    let open_known : HasOpen (seat_known c i) J.job.number = subst (λ (o : Option Job). IsSomeAnd o (λ y. HasOpen (seat_known c i) y.number)) J.is (job.given st owed) in
    let run_job : IsRunJob d c i J.job = record { procedure = procedure; given = open_known } in
    let can : can_run d J.job ≡ true = rw (J.undone, lt-ltb J.job.procedure (length d.procedures) procedure) refl in
    let desk : get_or t.held i None ≡ Some (desk_at image (Some J.job)) = own.self.own_job refl ∙ ap (λ (o : Option Job). Some (desk_at image o)) J.is in
    let x : Member = worked d (answer.0, answer.1) (member m i) in
    let image_is : x.image ≡ (job_on d.procedures J.job image).image = ap (λ (o : Option Job). image_run d o image) J.is in
    let job_is : x.job ≡ Some (record J.job { done = Some answer }) = ap (option_map (answered answer)) J.is in
    let run_work : work_of x.job ≡ 2 = ap work_of job_is in
    let o : Option Cargo = Some (cargo.Desk (desk_with J.job (job_on d.procedures J.job image))) in
    let lies : o ≡ Some (cargo.Desk (desk_at x.image x.job)) =
    ap (λ (y : ImageContents). Some (cargo.Desk (desk_at y (Some (record J.job { done = Some answer }))))) (sym image_is) ∙ ap (λ (y : Option Job). Some (cargo.Desk (desk_at x.image y))) (sym job_is) in
    let kind : x.image.kind ≡ d.kind = run_kind d (member m i).job image ∙ own.self.kind in
    let gone : get_or (slice_set t.held i None) i None ≡ None = get_or-set_same t.held i None None (rw idle.size l) in
    let seen : Option Desk → ℕ → View = λ k n. record v { station = stations.AwaitingRelease; own = k; image = x.image; job = x.job; work = n } in
    let cpu : IsCpu d c m.waves i (seen (get_or (slice_set t.held i None) i None) (work_of x.job)) =
    subst (λ (k : Option Desk). IsCpu d c m.waves i (seen k (work_of x.job))) (sym gone) (subst (λ (n : ℕ). IsCpu d c m.waves i (seen None n)) (sym run_work) (running_job d c m.waves i 0 v x.image x.job kind work free nb own)) in
    let word : IsRunOf c i (seen (get_or (slice_set t.held i None) i None) (work_of x.job)) (get_or s.words.run i 0) =
    subst (λ (k : Option Desk). IsRunOf c i (seen k (work_of x.job)) (get_or s.words.run i 0)) (sym gone)
    (subst (λ (n : ℕ). IsRunOf c i (seen None n) (get_or s.words.run i 0)) (sym run_work) (running_job_run d c m.waves i (get_or s.words.run i 0) v x.image x.job kind work free nb own (run_of d c i s m t GivingBack h))) in
    let ready : IsBusy x 2 o = record { lies = λ _. lies; finished = λ _. run_work; ran = λ _. refl } in
    let event : Event = Ran i J.job.number answer.0 answer.1 in
    let said = place_said d c s m f st in
    let session : m.session ≡ Some c.session = g.words.session some in
    let B : Bool = is_over (place_of d m) in
    let told : option_map (hears B event) m.session ≡ Some (record c.session { serving = grown_unless B event c.session.serving }) = ap (option_map (hears B event)) session in
    let same : c.place ≡ record c.chair.course.place { state = record c.chair.course.place.state { seats = c.place.state.seats } } = (g.course.listed later).same in
    let t' : Seat = record t { position = AwaitingRelease; held = slice_set t.held i None } in
    let words : Words = record s.words { busy = slice_set s.words.busy i 2 } in
    let lying : Lying = record s.lying { busy = slice_set s.lying.busy i o } in
    let fine : IsFine d (record { words = words; lying = lying; actors = slice_set (actors_of d s) i (processor_of d i t') }) (record (with_member i x m) { session = option_map (hears B event) m.session }) =
    ⊎_elim
    (λ (b : is_over c.place ≡ true).
    let over : B ≡ true = ap is_over said.place ∙ b in
    let as_is : option_map (hears B event) m.session ≡ Some (record c.session { serving = c.session.serving }) =
    told ∙ ap (λ (y : Bool). Some (record c.session { serving = grown_unless y event c.session.serving })) over in
    let stops : GoesOn c.chair.course.place → ⊥ = (λ on. over_goes c.place.kinds c.place.walks c.place.begun c.place.state b (subst (λ (y : Place). GoesOn y) (sym same) on)) in
    seated d (relisted c c.session.serving c.place) s words lying (record (with_member i x m) { session = option_map (hears B event) m.session }) i t' ls
    (gives_back d c i s m t x o c.session.serving c.place (option_map (hears B event) m.session) h late refl as_is (same_course d c m g.course)
    (moved_jobs d c (relisted c c.session.serving c.place) m i x lm l nb (λ j k n _. same_job d c j (member m j).job (g.jobs j k n))
    (ran_job d c c.session.serving c.place i J.job answer x.job job_is run_job busy (λ on. absurd (stops on))))
    ready refl refl refl cpu word))
    (λ (b : is_over c.place ≡ false).
    let goes : B ≡ false = ap is_over said.place ∙ b in
    let as_is : option_map (hears B event) m.session ≡ Some (record c.session { serving = Some (said.said ++ event ∷ []) }) =
    told ∙ ap (λ (y : Bool). Some (record c.session { serving = grown_unless y event c.session.serving })) goes
    ∙ ap (λ (y : Option (List Event)). Some (record c.session { serving = option_map (λ es. es ++ event ∷ []) y })) said.is in
    let on_place : GoesOn c.place = not_over_goes c.place.kinds c.place.walks c.place.begun c.place.state b in
    let on : GoesOn c.chair.course.place = subst (λ (y : Place). GoesOn y) same on_place in
    let known : seat_listed c i ≡ seat_known c i = job.listed st on ∙ ap (λ (y : Option Job). with_done y (seat_known c i)) J.is ∙ ap (λ (y : Option (ℕ × Status)). by_done y (seat_known c i)) J.undone in
    let open_listed : HasOpen (seat_listed c i) J.job.number = subst (λ (y : JobSeat). HasOpen y J.job.number) (sym known) open_known in
    let size : i < length c.place.state.seats = rw ((g.course.listed later).size, g.course.size) l in
    let p : Place = next (program_of d) c.place event in
    let more : Option (List Event) = Some (said.said ++ event ∷ []) in
    seated d (relisted c more p) s words lying (record (with_member i x m) { session = option_map (hears B event) m.session }) i t' ls
    (gives_back d c i s m t x o more p (option_map (hears B event) m.session) h late (get_or-set_other c.place.state.seats i c.bsp (run_at (seat_listed c i) answer.0 answer.1) Free (λ z. nb (sym z))) as_is
    (more_course d c m i J.job.number answer.0 answer.1 said.said late said.is on_place open_listed later g.course)
    (moved_jobs d c (relisted c more p) m i x lm l nb (λ j k n ne. other_job d c (said.said ++ event ∷ []) i j J.job.number answer.0 answer.1 (member m j).job ne (g.jobs j k n))
    (ran_job d c more p i J.job answer x.job job_is run_job busy
    (λ _. get_or-set_same c.place.state.seats i (run_at (seat_listed c i) answer.0 answer.1) Free size ∙ ap (λ (y : JobSeat). run_at y answer.0 answer.1) known)))
    ready refl refl refl cpu word))
    (cases_Bool (is_over c.place)) in
    simp (ne_eqb i d.processors few, desk, can)
    (refl, (own.self.phase, subst (λ (y : Option Job). IsSomeAnd y (λ z. (z.number ≡ J.job.number) × (z.done ≡ None) × ((job_on d.procedures z image).answer ≡ (answer.0, answer.1)))) (sym J.is) (refl, J.undone, refl)), fine)

-- The steps of the chipset.
use Rattle.std.proofs.Common.{ℕ, ◌+◌, ◌-◌, ◌*◌, ◌%◌, ◌≡◌, ◌≢◌, ◌<◌, ◌≤◌, arith, Bool, true, false, List, length, get_or, slice_set, Option, Some, None, refl, sym, ap, ⊎_elim, ◌∙◌}
use Rattle.std.specs.Prelude.{nat_lt, if◌then◌else◌, slice_index_or}
use Rattle.std.proofs.lemmas.Bool.{cases_eq, cases_lt, eq-eqb, ne_eqb, lt-ltb, le-ltb}
use Rattle.std.proofs.lemmas.List.{length-set}
use Rattle.cpu_table.specs.Data.{SetupData}
use Rattle.cpu_table.specs.declared.waves.Arrival.{Arrival}
use Rattle.cpu_table.specs.declared.waves.Arrival.TheVariants.{Prompt, Delayed, Blocked, Absent}
use Rattle.cpu_table.specs.Waves.{arrivals_of, blocked_in}
use Rattle.sync_words.specs.declared.row.Row.TheVariants as row
use Rattle.handler_ops.specs.declared.desk.Desk.{Desk}
use Rattle.cpu_program.specs.Actors.{Actor, OfChipset}
use Rattle.chipset.specs.Chipsets.{signal_for, signal_in, is_watched}
use Rattle.rendezvous_core.specs.Worlds.{Words, Lying}
use Rattle.rendezvous_machine.specs.Machines.{Machine, member}
use Rattle.schedule_laws.proofs.Scenes.{Scene, Watch, Herald, AnnouncingBlocked, AnnouncingWave, Raising, Watching, AwaitingServed, TurningOff, Silenced, chipset_at, chipset_of, actors_of, watch_set_from}
use Rattle.schedule_laws.proofs.Invariant.{Context, View, IsSelf, IsSignal, IsChipset, Holds, IsFine, stage_of, desk_kept, view, KeptHerald}
use Rattle.schedule_laws.proofs.Frames.{stays, signal_set}

-- the chipset goes on
fine_watch : (d : SetupData) (c : Context) (s : Scene) (words : Words) (lying : Lying) (m : Machine) (x : Watch) → length s.seats ≡ d.processors
    → Holds d c (record s { words = words; lying = lying; watch = x }) m
    → IsFine d (record { words = words; lying = lying; actors = slice_set (actors_of d s) d.processors (chipset_of d x) }) m
fine_watch d c s words lying m x e h =
    record {
      context = c;
      scene = record s { words = words; lying = lying; watch = x };
      world_is = ap (λ (xs : List Actor). record { words = words; lying = lying; actors = xs })
          (sym (watch_set_from d 0 s.seats s.watch x) ∙ ap (λ (k : ℕ). slice_set (actors_of d s) k (chipset_of d x)) e);
      holds = h;
    }

-- signals and its own position change
herald_holds : (d : SetupData) (c : Context) (s : Scene) (m : Machine) (pend : List ℕ) (x : Watch) → Holds d c s m → length pend ≡ length s.words.pend
    → ((j : ℕ) → j < d.processors → IsSignal d m.waves (member m j).visits (get_or pend j 0)) → IsChipset d x m.waves m.excepted
    → Holds d c (record s { words = record s.words { pend = pend }; watch = x }) m
herald_holds d c s m pend x f lp sig chip =
    let g = f.ready in
    let z = g.sized in
    record {
      ready = record {
        platform = g.platform;
        sized = record { seats = z.seats; pend = lp ∙ z.pend; present = z.present; run = z.run; busy = z.busy; on_present = z.on_present; on_run = z.on_run; on_busy = z.on_busy; members = z.members; held = z.held };
        words = g.words;
        session = g.session;
        course = g.course;
        chipset = chip;
        totals = g.totals;
        each = g.each;
        runs = g.runs;
        jobs = g.jobs;
        idle = g.idle;
        signals = sig;
        busies = g.busies;
      };
      aim = f.aim;
      at = f.at;
    }

herald_fine : (d : SetupData) (c : Context) (s : Scene) (m : Machine) (pend : List ℕ) (x : Watch) → Holds d c s m → length pend ≡ length s.words.pend
    → ((j : ℕ) → j < d.processors → IsSignal d m.waves (member m j).visits (get_or pend j 0)) → IsChipset d x m.waves m.excepted
    → IsFine d (record { words = record s.words { pend = pend }; lying = s.lying; actors = slice_set (actors_of d s) d.processors (chipset_of d x) }) m
herald_fine d c s m pend x f lp sig chip =
    fine_watch d c s (record s.words { pend = pend }) s.lying m x f.ready.sized.seats (herald_holds d c s m pend x f lp sig chip)

-- what was announced, while the wave is raised or watched, and after the last
going_on : (d : SetupData) (h : Herald) (wave waves excepted : ℕ) → 3 ≤ stage_of h → stage_of h ≤ 5
    → (wave ≡ waves) × (excepted ≡ waves) × (1 ≤ waves) × (waves ≤ length d.waves) → IsChipset d (record { herald = h; wave = wave }) waves excepted
going_on d h wave waves excepted a b k =
    record { before = λ z. absurd (omega arith); between = λ z. absurd (omega arith); announced = λ _ _. k; through = λ z. absurd (omega arith) }

turning_off : (d : SetupData) (h : Herald) (wave waves excepted : ℕ) → 6 ≤ stage_of h → (waves ≡ length d.waves) × (excepted ≡ waves)
    → IsChipset d (record { herald = h; wave = wave }) waves excepted
turning_off d h wave waves excepted a k =
    record { before = λ z. absurd (omega arith); between = λ z. absurd (omega arith); announced = λ y z. absurd (omega arith); through = λ _. k }

announced_at : (d : SetupData) (c : Context) (s : Scene) (m : Machine) (h : Herald) → Holds d c s m → s.watch.herald ≡ h → 3 ≤ stage_of h → stage_of h ≤ 5
    → (s.watch.wave ≡ m.waves) × (m.excepted ≡ m.waves) × (1 ≤ m.waves) × (m.waves ≤ length d.waves)
announced_at d c s m h f q a b = let e = ap stage_of q in f.ready.chipset.announced (omega arith) (omega arith)

through_at : (d : SetupData) (c : Context) (s : Scene) (m : Machine) (h : Herald) → Holds d c s m → s.watch.herald ≡ h → 6 ≤ stage_of h
    → (m.waves ≡ length d.waves) × (m.excepted ≡ m.waves)
through_at d c s m h f q a = let e = ap stage_of q in f.ready.chipset.through (omega arith)

-- ANNOUNCING

pub announce_blocked : (d : SetupData) (c : Context) (s : Scene) (m : Machine) → Holds d c s m → s.watch.herald ≡ AnnouncingBlocked → KeptHerald d s m AnnouncingBlocked
announce_blocked d c s m f q =
    let g = f.ready in
    let h = g.chipset.before (ap stage_of q) in
    let w = g.words in
    let z = g.sized in
    let x : Watch = record { herald = AnnouncingWave; wave = s.watch.wave } in (
      refl,
      ((refl, h.2), h.1, ap (λ (y : ℕ). blocked_in d.waves y) h.0),
      fine_watch d c s (record s.words { except = blocked_in d.waves s.watch.wave }) s.lying (record m { excepted = m.excepted + 1; last_excepted = blocked_in d.waves s.watch.wave }) x z.seats
          (record {
            ready = record {
              platform = g.platform;
              sized = record { seats = z.seats; pend = z.pend; present = z.present; run = z.run; busy = z.busy; on_present = z.on_present; on_run = z.on_run; on_busy = z.on_busy; members = z.members; held = z.held };
              words = record { some_bsp = w.some_bsp; no_bsp = w.no_bsp; bsp_before = w.bsp_before; bsp_taken = w.bsp_taken; bsp_free = w.bsp_free; leads = w.leads; inside_before = w.inside_before; inside = w.inside; inside_after = w.inside_after; insync_before = w.insync_before; insync = w.insync; insync_after = w.insync_after; chair_before = w.chair_before; chair = w.chair; chair_after = w.chair_after; source = w.source; except = refl; no_session = w.no_session; session = w.session };
              session = g.session;
              course = g.course;
              chipset = record { before = λ y. absurd (omega arith); between = λ _. (h.0, omega (arith, h.1), h.2); announced = λ y _. absurd (omega arith); through = λ y. absurd (omega arith) };
              totals = g.totals;
              each = g.each;
              runs = g.runs;
              jobs = g.jobs;
              idle = g.idle;
              signals = g.signals;
              busies = g.busies;
            };
            aim = f.aim;
            at = f.at;
          }),
    )

more_waves : (d : SetupData) (waves : ℕ) (v : View) (at : Option Desk) → IsSelf d waves at v → IsSelf d (waves + 1) at v
more_waves d waves v at h =
    record { phase = h.phase; visits = h.visits; registers = h.registers; last = h.last; kind = h.kind; most = h.most; waiting = h.waiting; through = h.through; inside = λ _. omega arith; begun = λ _. omega arith; team_bit = h.team_bit; released_bit = h.released_bit; departed_bit = h.departed_bit; work_le = h.work_le; present_le = h.present_le; absent = h.absent; there = h.there; worker = h.worker; idle_away = h.idle_away; running = h.running; own = h.own; own_job = h.own_job; own_out = h.own_out; on_present = h.on_present; off_present = h.off_present; on_run = h.on_run; on_run_job = h.on_run_job; off_run = h.off_run; off_run_own = h.off_run_own; held = h.held; not_held = h.not_held; given_back = h.given_back; lent = h.lent }

-- the wave is announced, and the chipset is at h
announced_wave : (d : SetupData) (c : Context) (s : Scene) (m : Machine) (h : Herald) → Holds d c s m → s.watch.herald ≡ AnnouncingWave → 3 ≤ stage_of h → stage_of h ≤ 5
    → IsFine d (record { words = record s.words { source = s.watch.wave }; lying = s.lying; actors = slice_set (actors_of d s) d.processors (chipset_of d (record { herald = h; wave = s.watch.wave })) })
    (record m { waves = s.watch.wave; source = s.watch.wave })
announced_wave d c s m h f q lo hi =
    let g = f.ready in
    let k = g.chipset.between (ap stage_of q) in
    let w = g.words in
    let z = g.sized in
    let x : Watch = record { herald = h; wave = s.watch.wave } in
    fine_watch d c s (record s.words { source = s.watch.wave }) s.lying (record m { waves = s.watch.wave; source = s.watch.wave }) x z.seats
    (record {
      ready = record {
        platform = g.platform;
        sized = record { seats = z.seats; pend = z.pend; present = z.present; run = z.run; busy = z.busy; on_present = z.on_present; on_run = z.on_run; on_busy = z.on_busy; members = z.members; held = z.held };
        words = record { some_bsp = w.some_bsp; no_bsp = w.no_bsp; bsp_before = w.bsp_before; bsp_taken = w.bsp_taken; bsp_free = w.bsp_free; leads = w.leads; inside_before = w.inside_before; inside = w.inside; inside_after = w.inside_after; insync_before = w.insync_before; insync = w.insync; insync_after = w.insync_after; chair_before = w.chair_before; chair = w.chair; chair_after = w.chair_after; source = refl; except = w.except; no_session = w.no_session; session = w.session };
        session = g.session;
        course = g.course;
        chipset = going_on d h s.watch.wave s.watch.wave m.excepted lo hi (refl, omega (arith, k.0, k.1), omega (arith, k.0), omega (arith, k.0, k.2));
        totals = g.totals;
        each = λ j l.
            let y = g.each j l in
            record { self = rw (k.0) (more_waves d m.waves (view s m j) (desk_kept c j) y.self); team = y.team; leader = y.leader; peer = y.peer };
        runs = g.runs;
        jobs = g.jobs;
        idle = g.idle;
        signals = λ j l. let y = g.signals j l in record { some = λ _. omega (arith, k.0); off = λ a b. let u = y.off a b in absurd (omega (arith, u, k.2)) };
        busies = g.busies;
      };
      aim = f.aim;
      at = f.at;
    })

-- the loop over the processors goes on, or the chipset watches
raising_next : (d : SetupData) (c : Context) (s : Scene) (m : Machine) (j : ℕ) (b : Bool) → Holds d c s m → s.watch.herald ≡ AnnouncingWave
    → IsFine d (record { words = record s.words { source = s.watch.wave }; lying = s.lying; actors = slice_set (actors_of d s) d.processors (OfChipset (record { setup = d; row = Some (if b then row.RaiseWave j else row.WatchSource 0); wave = s.watch.wave })) })
    (record m { waves = s.watch.wave; source = s.watch.wave })
raising_next d c s m j true f q = announced_wave d c s m (Raising j) f q (omega arith) (omega arith)
raising_next d c s m j false f q = announced_wave d c s m (Watching 0) f q (omega arith) (omega arith)

pub announce_wave : (d : SetupData) (c : Context) (s : Scene) (m : Machine) → Holds d c s m → s.watch.herald ≡ AnnouncingWave → KeptHerald d s m AnnouncingWave
announce_wave d c s m f q =
    let h = f.ready.chipset.between (ap stage_of q) in (refl, ((refl, h.2), h.1, h.0), raising_next d c s m 0 (nat_lt 0 d.processors) f q)

-- RAISING THE WAVE

signal_le : (a : Arrival) → signal_for a ≤ 3
signal_le Prompt = omega arith
signal_le Delayed = omega arith
signal_le Blocked = omega arith
signal_le Absent = omega arith

-- a signal is raised to x
raised : (d : SetupData) (waves x v visits : ℕ) → x ≤ 3 → 1 ≤ waves → IsSignal d waves visits (v - v % 8 + x)
raised d waves x v visits a b = record { some = λ _. b; off = λ z _. absurd (omega arith) }

raise_next : (d : SetupData) (c : Context) (s : Scene) (m : Machine) (j : ℕ) (pend : List ℕ) (b : Bool) → Holds d c s m → s.watch.herald ≡ Raising j
    → length pend ≡ length s.words.pend → ((k : ℕ) → k < d.processors → IsSignal d m.waves (member m k).visits (get_or pend k 0))
    → IsFine d (record { words = record s.words { pend = pend }; lying = s.lying; actors = slice_set (actors_of d s) d.processors (OfChipset (record { setup = d; row = Some (if b then row.RaiseWave (j + 1) else row.WatchSource 0); wave = s.watch.wave })) }) m
raise_next d c s m j pend true f q lp sig =
    herald_fine d c s m pend (record { herald = Raising (j + 1); wave = s.watch.wave }) f lp sig
    (going_on d (Raising (j + 1)) s.watch.wave m.waves m.excepted (omega arith) (omega arith) (announced_at d c s m (Raising j) f q (omega arith) (omega arith)))
raise_next d c s m j pend false f q lp sig =
    herald_fine d c s m pend (record { herald = Watching 0; wave = s.watch.wave }) f lp sig
    (going_on d (Watching 0) s.watch.wave m.waves m.excepted (omega arith) (omega arith) (announced_at d c s m (Raising j) f q (omega arith) (omega arith)))

pub raise_wave : (d : SetupData) (c : Context) (s : Scene) (m : Machine) (j : ℕ) → Holds d c s m → s.watch.herald ≡ Raising j → KeptHerald d s m (Raising j)
raise_wave d c s m j f q =
    let g = f.ready in
    let v : ℕ = get_or s.words.pend j 0 in
    let x : ℕ = signal_in d.waves s.watch.wave j in
    let h = announced_at d c s m (Raising j) f q (omega arith) (omega arith) in
    let le : x ≤ 3 = signal_le (slice_index_or (arrivals_of d.waves s.watch.wave) j Absent) in
    ⊎_elim
    (λ (z : v % 8 ≡ 4). simp (eq-eqb (v % 8) 4 z) (refl, tt, raise_next d c s m j s.words.pend (nat_lt (j + 1) d.processors) f q refl g.signals))
    (λ (z : v % 8 ≢ 4).
    ⊎_elim
    (λ (y : v % 8 ≡ 1). simp (ne_eqb (v % 8) 4 z, eq-eqb (v % 8) 1 y) (stays d c s m f))
    (λ (y : v % 8 ≢ 1). simp (ne_eqb (v % 8) 4 z, ne_eqb (v % 8) 1 y) (
      refl,
      tt,
      raise_next d c s m j (slice_set s.words.pend j (v - v % 8 + x)) (nat_lt (j + 1) d.processors) f q (length-set s.words.pend j (v - v % 8 + x))
          (signal_set d m m.waves j (v - v % 8 + x) s.words.pend g.sized.pend g.signals (λ _. raised d m.waves x v (member m j).visits le h.2)),
    ))
    (cases_eq (v % 8) 1))
    (cases_eq (v % 8) 4)

-- WATCHING FOR THE WAVE TO BE SERVED

watched : (d : SetupData) (c : Context) (s : Scene) (m : Machine) (looks : ℕ) (b : Bool) → Holds d c s m → s.watch.herald ≡ Watching looks
    → IsFine d (record { words = s.words; lying = s.lying; actors = slice_set (actors_of d s) d.processors (OfChipset (record { setup = d; row = Some (if b then row.AwaitServed else row.WatchSource (looks + 1)); wave = s.watch.wave })) }) m
watched d c s m looks true f q =
    herald_fine d c s m s.words.pend (record { herald = AwaitingServed; wave = s.watch.wave }) f refl f.ready.signals
    (going_on d AwaitingServed s.watch.wave m.waves m.excepted (omega arith) (omega arith) (announced_at d c s m (Watching looks) f q (omega arith) (omega arith)))
watched d c s m looks false f q =
    herald_fine d c s m s.words.pend (record { herald = Watching (looks + 1); wave = s.watch.wave }) f refl f.ready.signals
    (going_on d (Watching (looks + 1)) s.watch.wave m.waves m.excepted (omega arith) (omega arith) (announced_at d c s m (Watching looks) f q (omega arith) (omega arith)))

pub watch_source : (d : SetupData) (c : Context) (s : Scene) (m : Machine) (looks : ℕ) → Holds d c s m → s.watch.herald ≡ Watching looks → KeptHerald d s m (Watching looks)
watch_source d c s m looks f q = (refl, tt, watched d c s m looks (is_watched (chipset_at d (Watching looks) s.watch) looks s.words.source) f q)

off_first : (d : SetupData) (c : Context) (s : Scene) (m : Machine) (b : Bool) → Holds d c s m → m.waves ≡ length d.waves → m.excepted ≡ m.waves
    → IsFine d (record { words = s.words; lying = s.lying; actors = slice_set (actors_of d s) d.processors (OfChipset (record { setup = d; row = if b then Some (row.RaiseOff 0) else None; wave = s.watch.wave })) }) m
off_first d c s m true f a b =
    herald_fine d c s m s.words.pend (record { herald = TurningOff 0; wave = s.watch.wave }) f refl f.ready.signals (turning_off d (TurningOff 0) s.watch.wave m.waves m.excepted (omega arith) (a, b))
off_first d c s m false f a b =
    herald_fine d c s m s.words.pend (record { herald = Silenced; wave = s.watch.wave }) f refl f.ready.signals (turning_off d Silenced s.watch.wave m.waves m.excepted (omega arith) (a, b))

pub await_served : (d : SetupData) (c : Context) (s : Scene) (m : Machine) → Holds d c s m → s.watch.herald ≡ AwaitingServed → KeptHerald d s m AwaitingServed
await_served d c s m f q =
    let g = f.ready in
    let h = announced_at d c s m AwaitingServed f q (omega arith) (omega arith) in
    ⊎_elim
    (λ (z : s.words.inside ≡ 0).
    ⊎_elim
    (λ (t : s.watch.wave < length d.waves). simp (eq-eqb s.words.inside 0 z, lt-ltb s.watch.wave (length d.waves) t) (
      refl,
      tt,
      herald_fine d c s m s.words.pend (record { herald = AnnouncingBlocked; wave = s.watch.wave + 1 }) f refl g.signals
          (record { before = λ _. (omega (arith, h.0), h.1, omega (arith, h.0)); between = λ y. absurd (omega arith); announced = λ y _. absurd (omega arith); through = λ y. absurd (omega arith) }),
    ))
    (λ (t : length d.waves ≤ s.watch.wave). simp (eq-eqb s.words.inside 0 z, le-ltb s.watch.wave (length d.waves) t)
    (refl, tt, off_first d c s m (nat_lt 0 d.processors) f (omega (arith, h.0, h.3)) h.1))
    (cases_lt s.watch.wave (length d.waves)))
    (λ (z : s.words.inside ≢ 0). simp (ne_eqb s.words.inside 0 z) (stays d c s m f))
    (cases_eq s.words.inside 0)

-- TURNING ALL SIGNALS OFF

off_next : (d : SetupData) (c : Context) (s : Scene) (m : Machine) (j : ℕ) (pend : List ℕ) (b : Bool) → Holds d c s m → s.watch.herald ≡ TurningOff j
    → length pend ≡ length s.words.pend → ((k : ℕ) → k < d.processors → IsSignal d m.waves (member m k).visits (get_or pend k 0))
    → IsFine d (record { words = record s.words { pend = pend }; lying = s.lying; actors = slice_set (actors_of d s) d.processors (OfChipset (record { setup = d; row = if b then Some (row.RaiseOff (j + 1)) else None; wave = s.watch.wave })) }) m
off_next d c s m j pend true f q lp sig =
    herald_fine d c s m pend (record { herald = TurningOff (j + 1); wave = s.watch.wave }) f lp sig
    (turning_off d (TurningOff (j + 1)) s.watch.wave m.waves m.excepted (omega arith) (through_at d c s m (TurningOff j) f q (omega arith)))
off_next d c s m j pend false f q lp sig =
    herald_fine d c s m pend (record { herald = Silenced; wave = s.watch.wave }) f lp sig
    (turning_off d Silenced s.watch.wave m.waves m.excepted (omega arith) (through_at d c s m (TurningOff j) f q (omega arith)))

pub turn_off : (d : SetupData) (c : Context) (s : Scene) (m : Machine) (j : ℕ) → Holds d c s m → s.watch.herald ≡ TurningOff j → KeptHerald d s m (TurningOff j)
turn_off d c s m j f q =
    let g = f.ready in
    let v : ℕ = get_or s.words.pend j 0 in
    let h = through_at d c s m (TurningOff j) f q (omega arith) in
    let some = g.platform.waves in
    ⊎_elim
    (λ (z : v % 8 ≡ 4). simp (eq-eqb (v % 8) 4 z) (refl, tt, off_next d c s m j s.words.pend (nat_lt (j + 1) d.processors) f q refl g.signals))
    (λ (z : v % 8 ≢ 4).
    ⊎_elim
    (λ (y : v % 8 ≡ 1). simp (ne_eqb (v % 8) 4 z, eq-eqb (v % 8) 1 y) (stays d c s m f))
    (λ (y : v % 8 ≢ 1). simp (ne_eqb (v % 8) 4 z, ne_eqb (v % 8) 1 y) (
      refl,
      tt,
      off_next d c s m j (slice_set s.words.pend j (v - v % 8 + 4)) (nat_lt (j + 1) d.processors) f q (length-set s.words.pend j (v - v % 8 + 4))
          (signal_set d m m.waves j (v - v % 8 + 4) s.words.pend g.sized.pend g.signals (λ _. record { some = λ _. omega (arith, h.0, some); off = λ _ _. h.0 })),
    ))
    (cases_eq (v % 8) 1))
    (cases_eq (v % 8) 4)

-- the chipset at any position
pub herald_kept : (d : SetupData) (c : Context) (s : Scene) (m : Machine) (h : Herald) → Holds d c s m → s.watch.herald ≡ h → KeptHerald d s m h
herald_kept d c s m AnnouncingBlocked f q = announce_blocked d c s m f q
herald_kept d c s m AnnouncingWave f q = announce_wave d c s m f q
herald_kept d c s m (Raising j) f q = raise_wave d c s m j f q
herald_kept d c s m (Watching looks) f q = watch_source d c s m looks f q
herald_kept d c s m AwaitingServed f q = await_served d c s m f q
herald_kept d c s m (TurningOff j) f q = turn_off d c s m j f q
herald_kept d c s m Silenced f q = stays d c s m f

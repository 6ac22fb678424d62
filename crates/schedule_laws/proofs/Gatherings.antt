-- The BSP of a new session: it says that it is at work, takes the wave, and gathers the others in the traditional mode.
use Rattle.std.proofs.Common.{ℕ, ◌+◌, ◌-◌, ◌*◌, ◌%◌, ◌≡◌, ◌≢◌, ◌<◌, ◌≤◌, arith, false, slice_set, Option, Some, None, refl, sym, subst, ap, ⊎_elim, ◌∙◌}
use Rattle.std.specs.Prelude.{IsSome, option_map, ◌||◌, ◌==◌, if◌then◌else◌}
use Rattle.cpu_table.specs.Data.{SetupData}
use Rattle.cpu_table.specs.declared.setup.Mode.{Mode}
use Rattle.cpu_table.specs.declared.setup.Mode.TheVariants.{Traditional, Relaxed}
use Rattle.handler_ops.specs.Sessions.{Session as Chair}
use Rattle.cpu_program.specs.Actors.{OfProcessor}
use Rattle.cpu_program.specs.Processors.{is_relaxed, after_source, at_row}
use Rattle.rendezvous_core.specs.Worlds.{Words}
use Rattle.rendezvous_machine.specs.Machines.{Machine, Session, member}
use Rattle.rendezvous_machine.specs.Effects.{serves, gathers, with_session}
use Rattle.schedule_laws.proofs.Scenes.{Scene, Seat, MarkingInside, TakingSource, LookingAtExcept, GatheringFirst, BeginningToServe, Leading as LeadingAt, seat, processor_at, actors_of}
use Rattle.schedule_laws.proofs.Stations.{bit, station_of}
use Rattle.schedule_laws.proofs.Leads.{begins_at}
use Rattle.schedule_laws.proofs.Invariant.{Context, IsWords, IsSession, IsReady, IsCourse, IsLead, Holds, IsFine, KeptAt, begins_from, mode_of, globe}
use Rattle.schedule_laws.proofs.Frames.{mode_le}
use Rattle.schedule_laws.proofs.LeadFrames.{at_stage, IsHolding, Reached, lead_kept}
use Rattle.schedule_laws.proofs.SessionFrames.{bsp_says, session_map, open_ready, words_open, resting_course, starting_course, no_aim, rechaired, resting_job, begun_chair, begun_course, is_beginning, plain, turns}

-- THE SESSION'S STAGES

marks_session : (mode : ℕ) (c : Context) → mode ≤ 1 → IsSession mode (at_stage c 1 0) → IsSession mode (at_stage c 2 0)
marks_session mode c b h =
    record { bsp = λ _. h.bsp (omega arith); unserved = λ _. h.unserved (omega arith); served = λ z. absurd (omega arith); ungathered = λ _. h.ungathered (omega arith); gathered = λ _ z. absurd (omega arith); unready = λ _. h.unready (omega arith); fresh = λ _. h.fresh (omega arith); expired = λ _ z. absurd (omega arith); waited = λ _ z. absurd (omega arith); unclosed = λ _. h.unclosed (omega arith); closed = λ z. absurd (omega arith); unbegun = λ _. h.unbegun (omega arith); undone = λ _. h.undone (omega arith); done = λ z. absurd (omega arith) }

-- the context with this wave, which the session serves
abbrev serving_wave : Context → ℕ → Context
serving_wave c wave = record c { wave = wave; session = serves wave c.session }

serves_session : (mode : ℕ) (c : Context) (wave : ℕ) → mode ≤ 1 → IsSession mode (at_stage c 2 0) → IsSession mode (at_stage (serving_wave c wave) 3 0)
serves_session mode c wave b h =
    record { bsp = λ _. h.bsp (omega arith); unserved = λ z. absurd (omega arith); served = λ _. refl; ungathered = λ _. h.ungathered (omega arith); gathered = λ _ z. absurd (omega arith); unready = λ _. h.unready (omega arith); fresh = λ _. h.fresh (omega arith); expired = λ _ z. absurd (omega arith); waited = λ _ z. absurd (omega arith); unclosed = λ _. h.unclosed (omega arith); closed = λ z. absurd (omega arith); unbegun = λ _. h.unbegun (omega arith); undone = λ _. h.undone (omega arith); done = λ z. absurd (omega arith) }

-- the context with so many blocked processors, which the session has gathered
abbrev gathering_with : Context → ℕ → Context
gathering_with c blocked = record c { blocked = blocked; session = gathers blocked c.session }

gathers_session : (c : Context) (blocked : ℕ) → IsSession 0 (at_stage c 3 0) → IsSession 0 (at_stage (gathering_with c blocked) 5 0)
gathers_session c blocked h =
    record { bsp = λ _. h.bsp (omega arith); unserved = λ z. absurd (omega arith); served = λ _. h.served (omega arith); ungathered = λ z. absurd (omega arith); gathered = λ _ _. refl; unready = λ _. h.unready (omega arith); fresh = λ _. h.fresh (omega arith); expired = λ _ z. absurd (omega arith); waited = λ _ z. absurd (omega arith); unclosed = λ _. h.unclosed (omega arith); closed = λ z. absurd (omega arith); unbegun = λ _. h.unbegun (omega arith); undone = λ _. h.undone (omega arith); done = λ z. absurd (omega arith) }

-- IT IS AT WORK

mark_inside_at : (d : SetupData) (c : Context) (s : Scene) (m : Machine) (t : Seat) → t.position ≡ LeadingAt MarkingInside → Holds d (at_stage c 1 0) s m → seat s c.bsp ≡ t
    → IsLead d (at_stage c 1 0) m.registrations m.pool MarkingInside t → KeptAt d s m c.bsp t (LeadingAt MarkingInside)
mark_inside_at d c s m t q f e at =
    let g = f.ready in
    let w = g.words in
    let mode = mode_le d in
    let words : Words = record s.words { inside = 1 } in
    let s' : Scene = record s { words = words; lying = s.lying } in
    let hold : IsHolding c TakingSource (record t { position = LeadingAt TakingSource }) = record { wave = at.wave; blocked = at.blocked; listed = at.listed; held = at.held; chair = at.chair (omega arith) } in
    let course = resting_course d (at_stage c 1 0) (at_stage c 2 0) m refl (omega arith) (omega arith) g.course in
    let is : IsWords d (at_stage c 2 0) (globe s' m) =
    words_open d c 1 0 2 0 s m 1 s.words.insync m.session c.session c.wave c.blocked (omega arith) (omega arith) (omega arith) (omega arith) refl (λ _. w.insync_before (omega arith)) (λ y. absurd (omega arith)) (λ y. y) w in
    let ready : IsReady d (at_stage c 2 0) s' m =
    open_ready d c 1 0 2 0 s s' m m c.session c.wave c.blocked (omega arith) (omega arith) (omega arith) (omega arith) (λ z. absurd (omega arith)) (λ z. omega arith) (λ z. omega arith) g refl refl refl refl refl refl refl g.signals g.busies g.sized is (marks_session (mode_of d) c mode g.session) course in
    let r : Reached d c s' m TakingSource =
    plain d c s' m TakingSource 2 0 ready (no_aim d c 2 0 (λ z. omega arith) (λ z. omega arith) (λ z. omega arith) (λ z. omega arith) (λ z. omega arith) (λ z. absurd (omega arith))) refl refl (λ z. absurd (omega arith)) refl (λ z. absurd (omega arith)) in
    (refl, tt, turns d c s words s.lying m t (record t { position = LeadingAt TakingSource }) TakingSource r e (ap station_of q) refl refl hold)

pub mark_inside : (d : SetupData) (c : Context) (i : ℕ) (s : Scene) (m : Machine) (t : Seat) → Holds d c s m → i < d.processors → seat s i ≡ t
    → t.position ≡ LeadingAt MarkingInside → KeptAt d s m i t (LeadingAt MarkingInside)
mark_inside d c i s m t f l e q = lead_kept d c i s m t MarkingInside f l e q (λ k e' at. mark_inside_at d c s m t q k e' at)

-- IT TAKES THE WAVE

-- the words `source` are 0
served_words : (d : SetupData) (c : Context) (wave : ℕ) (s : Scene) (m : Machine) (o : Option Session) → (m.session ≡ Some c.session → o ≡ Some (serves wave c.session))
    → IsWords d (at_stage c 2 0) (globe s m) → IsWords d (at_stage (serving_wave c wave) 3 0) (record (globe s m) { source = 0; m_source = 0; session = o })
served_words d c wave s m o u h =
    record {
      some_bsp = λ _. h.some_bsp (omega arith);
      no_bsp = λ z. absurd (omega arith);
      bsp_before = λ z. absurd (omega arith);
      bsp_taken = λ _ _. h.bsp_taken (omega arith) (omega arith);
      bsp_free = λ z. absurd (omega arith);
      leads = λ _. h.leads (omega arith);
      inside_before = λ z. absurd (omega arith);
      inside = λ _ _. h.inside (omega arith) (omega arith);
      inside_after = λ z. absurd (omega arith);
      insync_before = λ _. h.insync_before (omega arith);
      insync = λ z. absurd (omega arith);
      insync_after = λ z. absurd (omega arith);
      chair_before = λ z. absurd (omega arith);
      chair = λ _ _. h.chair (omega arith) (omega arith);
      chair_after = λ z. absurd (omega arith);
      source = refl;
      except = h.except;
      no_session = λ z. absurd (omega arith);
      session = λ _. u (h.session (omega arith));
    }

-- the scene and the machine with the wave taken
abbrev taken_scene : Scene → Scene
taken_scene s = record s { words = record s.words { source = 0 }; lying = s.lying }

abbrev taken_machine : Machine → ℕ → Machine
taken_machine m wave = record m { source = 0; session = option_map (serves wave) m.session }

served_ready : (d : SetupData) (c : Context) (s : Scene) (m : Machine) → begins_from (mode_of d) ≢ 3 → IsReady d (at_stage c 2 0) s m
    → IsReady d (at_stage (serving_wave c s.words.source) 3 0) (taken_scene s) (taken_machine m s.words.source)
served_ready d c s m n g =
    let w = g.words in
    let mode = mode_le d in
    let wave : ℕ = s.words.source in
    let c' : Context = at_stage (serving_wave c wave) 3 0 in
    let m' : Machine = taken_machine m wave in
    open_ready d c 2 0 3 0 s (taken_scene s) m m' (serves wave c.session) wave c.blocked (omega arith) (omega arith) (omega arith) (omega arith) (λ z. absurd (omega arith)) (λ z. omega arith) (λ z. omega arith) g refl refl refl refl refl refl refl g.signals g.busies g.sized
    (served_words d c wave s m (option_map (serves wave) m.session) (session_map m.session c.session (serves wave)) w) (serves_session (mode_of d) c wave mode g.session)
    (resting_course d (at_stage c 2 0) c' m refl (omega arith) (omega arith) g.course)

-- what comes next, by the mode
source_taken : (d : SetupData) (c : Context) (s : Scene) (m : Machine) (t : Seat) (mode : Mode) → d.mode ≡ mode → t.position ≡ LeadingAt TakingSource
    → Holds d (at_stage c 2 0) s m → seat s c.bsp ≡ t → IsLead d (at_stage c 2 0) m.registrations m.pool TakingSource t
    → IsFine d (record { words = record s.words { source = 0 }; lying = s.lying; actors = slice_set (actors_of d s) c.bsp (OfProcessor (at_row (after_source mode) (record (processor_at d c.bsp (LeadingAt TakingSource) t) { wave = s.words.source }))) }) (taken_machine m s.words.source)
source_taken d c s m t Traditional is q f e at =
    let g = f.ready in
    let wave : ℕ = s.words.source in
    let c2 : Context = serving_wave c wave in
    let t' : Seat = record t { position = LeadingAt LookingAtExcept; wave = wave } in
    let zero : mode_of d ≡ 0 = ap (λ (x : Mode). bit (is_relaxed x)) is in
    let ready = served_ready d c s m (λ z. omega arith) g in
    let r : Reached d c2 (taken_scene s) (taken_machine m wave) LookingAtExcept =
    plain d c2 (taken_scene s) (taken_machine m wave) LookingAtExcept 3 0 ready (no_aim d c2 3 0 (λ z. omega arith) (λ z. omega arith) (λ z. omega arith) (λ z. omega arith) (λ z. omega arith) (λ z. absurd (omega arith))) refl refl (λ _. ap is_relaxed is) refl (λ z. absurd (omega arith)) in
    turns d c2 s (record s.words { source = 0 }) s.lying (taken_machine m wave) t t' LookingAtExcept r e (ap station_of q) refl refl
    (record { wave = refl; blocked = at.blocked; listed = at.listed; held = at.held; chair = at.chair (omega arith) })
source_taken d c s m t Relaxed is q f e at =
    let g = f.ready in
    let wave : ℕ = s.words.source in
    let one : mode_of d ≡ 1 = ap (λ (x : Mode). bit (is_relaxed x)) is in
    let chair : t.chair ≡ Some c.chair = at.chair (omega arith) in
    let held : t.held ≡ c.held = at.held in
    let x : Chair = begun_chair c wave in
    let c1 : Context = record c { chair = x } in
    let c3 : Context = serving_wave c1 wave in
    let t' : Seat = record t { position = LeadingAt BeginningToServe; wave = wave; chair = Some x; held = c.held } in
    let s1 : Scene = taken_scene s in
    let m1 : Machine = taken_machine m wave in
    let course : IsCourse d (at_stage c1 2 0) m.registrations m.pool = begun_course d (at_stage c 2 0) wave m (omega arith) g.course in
    let begun : IsReady d (at_stage c1 2 0) s m =
    rechaired d (at_stage c 2 0) x s m (omega arith) (omega arith) g course
    (λ j l n. resting_job d (at_stage c 2 0) (at_stage c1 2 0) j (member m j).job (λ z. omega arith) (g.jobs j l n)) in
    let ready : IsReady d (at_stage c3 3 0) s1 m1 =
    open_ready d c1 2 0 3 0 s s1 m m1 (serves wave c.session) wave c.blocked (omega arith) (omega arith) (omega arith) (omega arith) (λ z. absurd (omega arith)) (λ z. omega arith) (λ z. omega arith) begun refl refl refl refl refl refl refl begun.signals begun.busies begun.sized
    (served_words d c1 wave s m (option_map (serves wave) m.session) (session_map m.session c.session (serves wave)) begun.words) (serves_session (mode_of d) c1 wave (mode_le d) begun.session)
    (starting_course d (at_stage c1 2 0) (at_stage c3 3 0) m refl (omega arith) (omega arith) refl course) in
    let r : Reached d c3 s1 m1 BeginningToServe = record {
      stage = 3;
      next = 0;
      ready = ready;
      aim = no_aim d c3 3 0 (λ z. omega arith) (λ z. omega arith) (λ z. omega arith) (λ z. omega arith) (λ z. omega arith) (λ z. absurd (omega arith));
      is_stage = ap (λ (y : Mode). begins_at (is_relaxed y)) is;
      is_next = refl;
      traditional = λ z. absurd (omega arith);
      begins = λ _. is_beginning d (at_stage c 2 0) (at_stage c3 3 0) wave m (omega arith) g.course;
      serves = λ z. absurd (omega arith);
      collects = λ z. absurd (omega arith);
      early = λ z. absurd (omega arith);
    } in
    rw (chair, held)
    (turns d c3 s (record s.words { source = 0 }) s.lying m1 t t' BeginningToServe r e (ap station_of q) refl (rw held refl)
    (record { wave = refl; blocked = at.blocked; listed = at.listed; held = refl; chair = refl }))

take_source_at : (d : SetupData) (c : Context) (s : Scene) (m : Machine) (t : Seat) → t.position ≡ LeadingAt TakingSource → Holds d (at_stage c 2 0) s m → seat s c.bsp ≡ t
    → IsLead d (at_stage c 2 0) m.registrations m.pool TakingSource t → KeptAt d s m c.bsp t (LeadingAt TakingSource)
take_source_at d c s m t q f e at =
    let g = f.ready in (
      refl,
      bsp_says d (at_stage c 2 0) s m (λ x. (x.served ≡ None) × (s.words.source ≡ m.source)) g (omega arith) (g.session.unserved (omega arith), g.words.source),
      source_taken d c s m t d.mode refl q f e at,
    )

pub take_source : (d : SetupData) (c : Context) (i : ℕ) (s : Scene) (m : Machine) (t : Seat) → Holds d c s m → i < d.processors → seat s i ≡ t
    → t.position ≡ LeadingAt TakingSource → KeptAt d s m i t (LeadingAt TakingSource)
take_source d c i s m t f l e q = lead_kept d c i s m t TakingSource f l e q (λ k e' at. take_source_at d c s m t q k e' at)

-- IT LOOKS HOW MANY ARE BLOCKED

traditional_is : (mode : Mode) → is_relaxed mode ≡ false → mode ≡ Traditional
traditional_is Traditional h = refl
traditional_is Relaxed h = absurd cc

look_at_except_at : (d : SetupData) (c : Context) (s : Scene) (m : Machine) (t : Seat) → t.position ≡ LeadingAt LookingAtExcept → Holds d (at_stage c 3 0) s m → seat s c.bsp ≡ t
    → IsLead d (at_stage c 3 0) m.registrations m.pool LookingAtExcept t → KeptAt d s m c.bsp t (LeadingAt LookingAtExcept)
look_at_except_at d c s m t q f e at =
    let g = f.ready in
    let w = g.words in
    let trad : is_relaxed d.mode ≡ false = at.traditional refl in
    let zero : mode_of d ≡ 0 = ap bit trad in
    let blocked : ℕ = s.words.except in
    let c2 : Context = gathering_with c blocked in
    let m' : Machine = with_session (gathers blocked) m in
    let t' : Seat = record t { position = LeadingAt (GatheringFirst 0); blocked = blocked } in
    let is : IsWords d (at_stage c2 5 0) (globe s m') =
    words_open d c 3 0 5 0 s m s.words.inside s.words.insync (option_map (gathers blocked) m.session) (gathers blocked c.session) c.wave blocked (omega arith) (omega arith) (omega arith) (omega arith) (w.inside (omega arith) (omega arith)) (λ _. w.insync_before (omega arith)) (λ y. absurd (omega arith)) (session_map m.session c.session (gathers blocked)) w in
    let old : IsSession 0 (at_stage c 3 0) = subst (λ (n : ℕ). IsSession n (at_stage c 3 0)) zero g.session in
    let now : IsSession (mode_of d) (at_stage c2 5 0) = subst (λ (n : ℕ). IsSession n (at_stage c2 5 0)) (sym zero) (gathers_session c blocked old) in
    let ready : IsReady d (at_stage c2 5 0) s m' =
    open_ready d c 3 0 5 0 s s m m' (gathers blocked c.session) c.wave blocked (omega arith) (omega arith) (omega arith) (omega arith) (λ z. absurd (omega arith)) (λ z. absurd (omega arith)) (λ z. omega arith) g refl refl refl refl refl refl refl g.signals g.busies g.sized is now
    (resting_course d (at_stage c 3 0) (at_stage c2 5 0) m refl (omega arith) (omega arith) g.course) in
    let r : Reached d c2 s m' (GatheringFirst 0) =
    plain d c2 s m' (GatheringFirst 0) 5 0 ready (no_aim d c2 5 0 (λ z. omega arith) (λ z. omega arith) (λ z. omega arith) (λ z. omega arith) (λ z. omega arith) (λ z. absurd (omega arith))) refl refl (λ _. trad) refl (λ z. absurd (omega arith)) in
    let has : IsSome c.session.served = subst (λ (o : Option ℕ). IsSome o) (sym (g.session.served (omega arith))) refl in (
      refl,
      (bsp_says d (at_stage c 3 0) s m (λ x. IsSome x.served × (x.gathered ≡ None) × (blocked ≡ m.last_excepted)) g (omega arith) (has, g.session.ungathered (omega arith), w.except), traditional_is d.mode trad),
      turns d c2 s s.words s.lying m' t t' (GatheringFirst 0) r e (ap station_of q) refl refl
          (record { wave = at.wave; blocked = refl; listed = at.listed; held = at.held; chair = at.chair (omega arith) }),
    )

pub look_at_except : (d : SetupData) (c : Context) (i : ℕ) (s : Scene) (m : Machine) (t : Seat) → Holds d c s m → i < d.processors → seat s i ≡ t
    → t.position ≡ LeadingAt LookingAtExcept → KeptAt d s m i t (LeadingAt LookingAtExcept)
look_at_except d c i s m t f l e q = lead_kept d c i s m t LookingAtExcept f l e q (λ k e' at. look_at_except_at d c s m t q k e' at)

-- Serving begins with its first label.
use Rattle.std.proofs.Common.{ℕ, zero, suc, ◌≡◌, ◌<◌, ◌≤◌, arith, Bool, true, false, List, [], ◌∷◌, get_or, slice_set, replicate, Option, Some, None, refl, sym, ap, subst, ◌∙◌}
use Rattle.std.specs.Prelude.{is_some}
use Rattle.std.proofs.lemmas.List.{length-replicate}
use Rattle.smm_base.specs.declared.status.Status.{Status}
use Rattle.cpu_table.specs.Data.{SetupData}
use Rattle.cpu_table.specs.declared.setup.Mode.{Mode}
use Rattle.cpu_table.specs.declared.setup.Mode.TheVariants.{Traditional, Relaxed}
use Rattle.sync_words.specs.declared.label.Label.TheVariants as say
use Rattle.handler_ops.specs.declared.desk.Desk.{Desk}
use Rattle.handler_ops.specs.declared.desk.Job.{Job}
use Rattle.handler_ops.specs.declared.row.Row.TheVariants as told
use Rattle.serving_place.specs.declared.seat.Seat.{Seat as JobSeat}
use Rattle.serving_place.specs.declared.seat.Seat.TheVariants.{Free}
use Rattle.serving_place.specs.Serving.{Serving}
use Rattle.serving_place.specs.Forms.{Own}
use Rattle.serving_place.specs.Beginning.{at_begin, walks_of}
use Rattle.serving_place.specs.Places.{place_at}
use Rattle.handler_ops.specs.Course.{Course, is_held, has_job}
use Rattle.handler_ops.specs.Conditions.{IsSound, beginning}
use Rattle.handler_ops.specs.Sessions.{Session as Chair}
use Rattle.handler_ops.proofs.Dues.{held_is}
use Rattle.handler_ops.proofs.Sessions.{begins_sound}
use Rattle.cpu_program.specs.Actors.{Processor, OfProcessor}
use Rattle.cpu_program.specs.Processors.{is_relaxed}
use Rattle.rendezvous_core.specs.Worlds.{turn, turned}
use Rattle.rendezvous_machine.specs.Machines.{Machine, Session, AllReported, member}
use Rattle.rendezvous_machine.specs.Effects.{made_begun, with_session}
use Rattle.rendezvous_machine.specs.Rules.{Rule, MayBegin}
use Rattle.rendezvous_machine.specs.Services.{setting}
use Rattle.schedule_laws.proofs.Scenes.{Scene, Seat, BeginningToServe, Leading as LeadingAt, seat, processor_at, actors_of, world_of}
use Rattle.schedule_laws.proofs.Stations.{bit, work_of, work_done, station_of}
use Rattle.schedule_laws.proofs.Leads.{begins_at, serves_at}
use Rattle.schedule_laws.proofs.Invariant.{Context, View, Globe, IsCpu, IsTeam, IsPeer, IsTotals, IsWords, IsSession, IsRunOf, IsReady, IsFine, IsLead, Holds, Kept, KeptAt, with_done, begins_from, globe, view}
use Rattle.schedule_laws.proofs.Frames.{mode_le, view_is}
use Rattle.schedule_laws.proofs.LeadFrames.{at_stage, lead_kept}
use Rattle.schedule_laws.proofs.SessionFrames.{bsp_says, session_map, home_same}
use Rattle.schedule_laws.proofs.ClosedFrames.{all_reported}
use Rattle.schedule_laws.proofs.HandlerSteps.{seat_in}
use Rattle.schedule_laws.proofs.HandlerPlaces.{serves_is}
use Rattle.schedule_laws.proofs.HandlerLandings.{IsLeading, next_told}
use Rattle.schedule_laws.proofs.HandlerFrames.{moves_on, answers}
use Rattle.schedule_laws.proofs.HandlerLooks.{chair_told, told_processor}

-- serving behind its first label
abbrev first_state : SetupData → Machine → Serving
first_state d m = at_begin d m.registrations m.pool

abbrev first_course : SetupData → Context → Machine → Course
first_course d c m = record { place = place_at (walks_of d.waves c.wave) [] (first_state d m); marked = false }

abbrev begun : SetupData → Context → Machine → Context
begun d c m = moves_on c c.held (chair_told d c c.held (first_course d c m)) (first_course d c m).place (Some (Own (say.Begin c.wave) ∷ []))

-- the stage of serving
begun_team : (d : SetupData) (c : Context) (m : Machine) (b : Bool) (j : ℕ) (v : View) → IsTeam (at_stage c (begins_at b) 0) j v → IsTeam (at_stage (begun d c m) (serves_at b) 0) j v
begun_team d c m true j v g =
    record { team_open = λ _. g.team_open (omega arith); departed_open = λ _. g.departed_open (omega arith); team = λ z. absurd (omega arith); unreleased = λ _. g.unreleased (omega arith); idle_early = λ z. absurd (omega arith); idle_mid = λ z _. absurd (omega arith); idle_after = λ z. absurd (omega arith); unclaimed = λ z. absurd (omega arith); claimed_so_far = λ z _. absurd (omega arith); claimed = λ z. absurd (omega arith) }
begun_team d c m false j v g =
    record { team_open = λ z. absurd (omega arith); departed_open = λ z. absurd (omega arith); team = λ _. g.team (omega arith); unreleased = λ _. g.unreleased (omega arith); idle_early = λ z. absurd (omega arith); idle_mid = λ _ z. absurd (omega arith); idle_after = λ z. absurd (omega arith); unclaimed = λ z. absurd (omega arith); claimed_so_far = λ z _. absurd (omega arith); claimed = λ _. g.claimed (omega arith) }

begun_peer : (d : SetupData) (c : Context) (m : Machine) (b : Bool) (j : ℕ) (v : View) → IsPeer (at_stage c (begins_at b) 0) j v → IsPeer (at_stage (begun d c m) (serves_at b) 0) j v
begun_peer d c m true j v y =
    record { station = y.station; walking = λ _. omega arith; knows = y.knows; gone = y.gone; listed = λ z _. absurd (omega arith); released_so_far = λ z _. absurd (omega arith); released_no_more = λ z _. absurd (omega arith); released = λ z. absurd (omega arith); told = λ z. absurd (omega arith); answered = λ z. absurd (omega arith); ended = λ z. absurd (omega arith) }
begun_peer d c m false j v y =
    record { station = y.station; walking = λ _. omega arith; knows = y.knows; gone = y.gone; listed = λ z _. absurd (omega arith); released_so_far = λ z _. absurd (omega arith); released_no_more = λ z _. absurd (omega arith); released = λ z. absurd (omega arith); told = λ _. y.told (omega arith); answered = λ z. absurd (omega arith); ended = λ z. absurd (omega arith) }

begun_run : (d : SetupData) (c : Context) (m : Machine) (b : Bool) (j : ℕ) (v : View) (r : ℕ) → IsRunOf (at_stage c (begins_at b) 0) j v r
    → IsRunOf (at_stage (begun d c m) (serves_at b) 0) j v r
begun_run d c m true j v r h =
    record { upto = λ _ y. h.upto (omega arith) y; lent = h.lent; so_far = λ z _. absurd (omega arith); no_more = λ z _. absurd (omega arith); late = λ z. absurd (omega arith) }
begun_run d c m false j v r h =
    record { upto = λ _ y. h.upto (omega arith) y; lent = h.lent; so_far = λ z _. absurd (omega arith); no_more = λ z _. absurd (omega arith); late = λ z. absurd (omega arith) }

begun_totals : (d : SetupData) (c : Context) (m : Machine) (b : Bool) (counter run x y z : ℕ) → IsTotals (at_stage c (begins_at b) 0) counter run x y z
    → IsTotals (at_stage (begun d c m) (serves_at b) 0) counter run x y z
begun_totals d c m true counter run x y z h =
    record { counted = λ _. h.counted (omega arith); counter_locked = λ u. absurd (omega arith); peers = λ u. absurd (omega arith); run_open = λ _ _. h.run_open (omega arith) (omega arith); run_reports = λ u. absurd (omega arith); run_reported = λ u _. absurd (omega arith); run_answers = λ u. absurd (omega arith); run_answered = λ u. absurd (omega arith); run_ends = λ u. absurd (omega arith); run_ended = λ u. absurd (omega arith) }
begun_totals d c m false counter run x y z h =
    record { counted = λ u. absurd (omega arith); counter_locked = λ _. h.counter_locked (omega arith); peers = λ _. h.peers (omega arith); run_open = λ _ u. absurd (omega arith); run_reports = λ u. absurd (omega arith); run_reported = λ _ _. h.run_reported (omega arith) (omega arith); run_answers = λ u. absurd (omega arith); run_answered = λ u. absurd (omega arith); run_ends = λ u. absurd (omega arith); run_ended = λ u. absurd (omega arith) }

begun_words : (d : SetupData) (c : Context) (m : Machine) (b : Bool) (g : Globe) → IsWords d (at_stage c (begins_at b) 0) g
    → IsWords d (at_stage (begun d c m) (serves_at b) 0) (record g { session = Some (begun d c m).session })
begun_words d c m true g h =
    record { some_bsp = λ _. h.some_bsp (omega arith); no_bsp = λ z. absurd (omega arith); bsp_before = λ z. absurd (omega arith); bsp_taken = λ _ _. h.bsp_taken (omega arith) (omega arith); bsp_free = λ z. absurd (omega arith); leads = λ _. h.leads (omega arith); inside_before = λ z. absurd (omega arith); inside = λ _ _. h.inside (omega arith) (omega arith); inside_after = λ z. absurd (omega arith); insync_before = λ _. h.insync_before (omega arith); insync = λ z. absurd (omega arith); insync_after = λ z. absurd (omega arith); chair_before = λ z. absurd (omega arith); chair = λ _ _. h.chair (omega arith) (omega arith); chair_after = λ z. absurd (omega arith); source = h.source; except = h.except; no_session = λ z. absurd (omega arith); session = λ _. refl }
begun_words d c m false g h =
    record { some_bsp = λ _. h.some_bsp (omega arith); no_bsp = λ z. absurd (omega arith); bsp_before = λ z. absurd (omega arith); bsp_taken = λ _ _. h.bsp_taken (omega arith) (omega arith); bsp_free = λ z. absurd (omega arith); leads = λ _. h.leads (omega arith); inside_before = λ z. absurd (omega arith); inside = λ _ _. h.inside (omega arith) (omega arith); inside_after = λ z. absurd (omega arith); insync_before = λ z. absurd (omega arith); insync = λ _ _. h.insync (omega arith) (omega arith); insync_after = λ z. absurd (omega arith); chair_before = λ z. absurd (omega arith); chair = λ _ _. h.chair (omega arith) (omega arith); chair_after = λ z. absurd (omega arith); source = h.source; except = h.except; no_session = λ z. absurd (omega arith); session = λ _. refl }

begun_session : (d : SetupData) (c : Context) (m : Machine) (b : Bool) → IsSession (bit b) (at_stage c (begins_at b) 0) → IsSession (bit b) (at_stage (begun d c m) (serves_at b) 0)
begun_session d c m true h =
    record { bsp = λ _. h.bsp (omega arith); unserved = λ z. absurd (omega arith); served = λ _. h.served (omega arith); ungathered = λ z. absurd (omega arith); gathered = λ y _. absurd (omega arith); unready = λ _. h.unready (omega arith); fresh = λ _. h.fresh (omega arith); expired = λ y _ _. absurd (omega arith); waited = λ y _. absurd (omega arith); unclosed = λ _. h.unclosed (omega arith); closed = λ z. absurd (omega arith); unbegun = λ z. absurd (omega arith); undone = λ _. h.undone (omega arith); done = λ z. absurd (omega arith) }
begun_session d c m false h =
    record { bsp = λ _. h.bsp (omega arith); unserved = λ z. absurd (omega arith); served = λ _. h.served (omega arith); ungathered = λ z. absurd (omega arith); gathered = λ y _. h.gathered y (omega arith); unready = λ z. absurd (omega arith); fresh = λ z. absurd (omega arith); expired = λ _ _ z. absurd (omega arith); waited = λ y _. h.waited y (omega arith); unclosed = λ z. absurd (omega arith); closed = λ _. h.closed (omega arith); unbegun = λ z. absurd (omega arith); undone = λ _. h.undone (omega arith); done = λ z. absurd (omega arith) }

begun_idle : (c : Context) (b : Bool) (j : ℕ) (v : View) → IsTeam (at_stage c (begins_at b) 0) j v → v.work ≡ 0
begun_idle c true j v g = g.idle_early (omega arith)
begun_idle c false j v g = g.idle_mid (omega arith) (omega arith)

begins_early : (b : Bool) → begins_at b ≤ begins_from (bit b)
begins_early true = omega arith
begins_early false = omega arith

begins_some : (b : Bool) → 3 ≤ begins_at b
begins_some true = omega arith
begins_some false = omega arith

begins_high : (b : Bool) → begins_at b ≤ 12
begins_high true = omega arith
begins_high false = omega arith

begins_is : (b : Bool) → begins_at b ≡ begins_from (bit b)
begins_is true = refl
begins_is false = refl

no_job : (job : Option Job) (q : JobSeat) → work_of job ≡ 0 → with_done job q ≡ q
no_job None q h = refl
no_job (Some job) q h = absurd (some_work job.done h)
  where
    some_work : (o : Option (ℕ × Status)) → work_done o ≡ 0 → ⊥
    some_work None e = absurd (omega arith)
    some_work (Some answer) e = absurd (omega arith)

module _ (d : SetupData) (c : Context) (s : Scene) (m : Machine) (f : IsReady d (at_stage c (begins_at (is_relaxed d.mode)) 0) s m) where
  abbrev mode : Bool
  mode = is_relaxed d.mode

  abbrev machine : Machine
  machine = record m { session = Some (begun d c m).session }

  seat_free : (j : ℕ) → seat_in (first_state d m).seats j ≡ Free
  seat_free j = free_at d.processors j
    where
      free_at : (n j : ℕ) → seat_in (replicate n Free) j ≡ Free
      free_at zero j = refl
      free_at (suc n) zero = refl
      free_at (suc n) (suc j) = free_at n j

  begun_ready : IsReady d (at_stage (begun d c m) (serves_at mode) 0) s machine
  begun_ready =
      let z = f.sized in
      let low = begins_some mode in
      let early = begins_early mode in
      let late = serves_is mode in
      let le = mode_le d in
      record {
        platform = f.platform;
        sized = record { seats = z.seats; pend = z.pend; present = z.present; run = z.run; busy = z.busy; on_present = z.on_present; on_run = z.on_run; on_busy = z.on_busy; members = z.members; held = λ _. z.held (omega (arith, low)) };
        words = begun_words d c m mode (globe s m) f.words;
        session = begun_session d c m mode f.session;
        course = record {
          setup = refl;
          size = length-replicate {A = JobSeat} d.processors Free;
          registered = λ y. absurd (omega (arith, late, le, y));
          pooled = λ y. absurd (omega (arith, late, le, y));
          me = λ _. refl;
          led = λ _. (refl, refl);
          listed = λ _. record { size = refl; same = refl };
          over = λ y. absurd (omega (arith, late, y));
        };
        chipset = f.chipset;
        totals = begun_totals d c m mode s.words.counter (get_or s.words.run c.bsp 0) _ _ _ f.totals;
        each = λ j l.
            let e = f.each j l in
            record { self = e.self; team = begun_team d c m mode j (view s m j) e.team; leader = e.leader; peer = λ q. begun_peer d c m mode j (view s m j) (e.peer q) };
        runs = λ j l q. begun_run d c m mode j (view s m j) (get_or s.words.run j 0) (f.runs j l q);
        jobs = λ j l q.
            let idle = begun_idle c mode j (view s m j) (f.each j l).team in
            record {
              procedure = (f.jobs j l q).procedure;
              free = λ _ _. idle;
              given = λ _ h. absurd (let u = sym h ∙ ap has_job (seat_free j) in cc);
              listed = λ _ _. sym (no_job (member m j).job (seat_in (first_state d m).seats j) idle);
            };
        idle = λ j l q. let i = f.idle j l q in record { size = i.size; held = i.held; chair = i.chair ∙ home_same d.policy c.bsp j c.chair (begun d c m).chair (f.words.leads (omega (arith, low))) q };
        signals = f.signals;
        busies = f.busies;
      }

  -- the BSP's own desk is at hand
  own_held : (t : Seat) → seat s c.bsp ≡ t → t.position ≡ LeadingAt BeginningToServe → t.held ≡ c.held → is_held c.held c.bsp ≡ true
  own_held t e q held =
      let low = begins_some mode in
      let l : c.bsp < d.processors = f.words.some_bsp (omega (arith, low)) in
      let own = subst (λ (v : View). IsCpu d (at_stage c (begins_at mode) 0) m.waves c.bsp v) (view_is s m c.bsp t (LeadingAt BeginningToServe) e q) (f.each c.bsp l) in
      held_is c.held c.bsp ∙ ap (λ (h : List (Option Desk)). is_some (get_or h c.bsp None)) (sym held) ∙ ap (λ (o : Option Desk). is_some o) (own.self.own refl refl)

  may_begin : (by : Mode) → d.mode ≡ by → MayBegin m by c.session
  may_begin Traditional is =
      let trad : is_relaxed d.mode ≡ false = ap is_relaxed is in
      let g : IsReady d (at_stage c 12 0) s m = subst (λ (b : Bool). IsReady d (at_stage c (begins_at b) 0) s m) trad f in
      let bsp : c.session.bsp ≡ c.bsp = g.session.bsp (omega arith) in (
        g.session.closed (omega arith),
        subst (λ (i : ℕ). AllReported m i) (sym bsp) (all_reported d (at_stage c 12 0) s m g (omega arith) (omega arith) (λ j l. (g.each j l).team.idle_mid (omega arith) (omega arith))),
      )
  may_begin Relaxed is =
      let relaxed : is_relaxed d.mode ≡ true = ap is_relaxed is in
      let g : IsReady d (at_stage c 3 0) s m = subst (λ (b : Bool). IsReady d (at_stage c (begins_at b) 0) s m) relaxed f in
      g.session.unclosed (omega arith)

  rule : Rule d m c.bsp (say.Begin c.wave)
  rule =
      let low = begins_some mode in
      let early = begins_early mode in
      bsp_says d (at_stage c (begins_at mode) 0) s m (λ x. (x.served ≡ Some c.wave) × (x.serving ≡ None) × MayBegin m d.mode x) f (omega (arith, low))
      (f.session.served low, f.session.unbegun early, may_begin d.mode refl)

  begun_at : (t : Seat) → seat s c.bsp ≡ t → t.position ≡ LeadingAt BeginningToServe → IsLead d (at_stage c (begins_at mode) 0) m.registrations m.pool BeginningToServe t
      → KeptAt d s m c.bsp t (LeadingAt BeginningToServe)
  begun_at t e q at =
      let low = begins_some mode in
      let held : t.held ≡ c.held = at.held in
      let begins = at.begins refl in
      let high : begins_at mode ≤ 12 = begins_high mode in
      let first : Chair = record { setup = d; me = c.bsp; course = beginning c.wave (walks_of d.waves c.wave) (first_state d m); told = told.Looking (say.Begin c.wave) } in
      let chair : c.chair ≡ first =
      (λ i. record { setup = f.course.setup i; me = (f.course.me (let a = begins_is mode in omega (arith, a))) i; course = begins.course i; told = begins.told i }) in
      let is : processor_at d c.bsp (LeadingAt BeginningToServe) t ≡ record (processor_at d c.bsp (LeadingAt BeginningToServe) t) { chair = Some first; held = c.held } =
      (λ i. record (processor_at d c.bsp (LeadingAt BeginningToServe) t) { chair = (at.chair (omega (arith, high)) ∙ ap (λ (x : Chair). Some x) chair) i; held = held i }) in
      let c' : Context = begun d c m in
      let sound : IsSound (setting d c.bsp) (is_held c.held) (first_state d m) = begins_sound d m.registrations m.pool (setting d c.bsp) (is_held c.held) refl (own_held t e q held) in
      let a = answers d c' s machine begun_ready sound (record { walks = tt; begun = tt }) refl refl in
      let lead : IsLeading c' s t = record { seat_is = e; leads = ap station_of q; wave = at.wave; blocked = at.blocked; listed = at.listed } in
      let fine = next_told d c' s machine t a lead (ap (λ (h : List (Option Desk)). get_or h c.bsp None) (sym held)) in
      let after : with_session (made_begun c.wave) m ≡ machine = ap (λ (o : Option Session). record m { session = o }) (session_map m.session c.session (made_begun c.wave) (f.words.session (omega (arith, low)))) in
      subst (λ (p : Processor). Kept d m c.bsp (turned (world_of d s) c.bsp (turn s.words s.lying c.bsp (OfProcessor p)))) (sym is)
      (refl, rule, subst (λ (n : Machine). IsFine d (record { words = s.words; lying = s.lying; actors = slice_set (actors_of d s) c.bsp (OfProcessor (told_processor d c' t)) }) n) (sym after) fine)

pub begin_to_serve : (d : SetupData) (c : Context) (i : ℕ) (s : Scene) (m : Machine) (t : Seat) → Holds d c s m → i < d.processors → seat s i ≡ t
    → t.position ≡ LeadingAt BeginningToServe → KeptAt d s m i t (LeadingAt BeginningToServe)
begin_to_serve d c i s m t f l e q = lead_kept d c i s m t BeginningToServe f l e q (λ k e' at. begun_at d c s m k.ready t e' q at)

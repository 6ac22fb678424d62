-- After its handlers the BSP collects the jobs that are left: it waits until the next one was run, and takes that desk back.
use Rattle.std.proofs.Common.{ℕ, ◌+◌, ◌≡◌, ◌≢◌, ◌<◌, ◌≤◌, ◌⊎◌, inr, arith, Bool, true, false, List, [], ◌∷◌, length, get_or, slice_set, Option, Some, None, refl, sym, ap, subst, ⊎_elim, ◌∙◌}
use Rattle.std.specs.Prelude.{◌==◌, if◌then◌else◌, IsSome, IsSomeAnd, option_map}
use Rattle.std.proofs.lemmas.Bool.{cases_eq, ne_eqb, eq-eqb}
use Rattle.std.proofs.lemmas.List.{get_or-set_other, get_or-set_same, length-set}
use Rattle.smm_base.specs.declared.kinds.HandlerType.{HandlerType}
use Rattle.smm_base.specs.declared.status.Status.{Status}
use Rattle.cpu_table.specs.Data.{SetupData}
use Rattle.sync_words.specs.declared.label.Label.TheVariants as say
use Rattle.sync_words.specs.declared.row.Row.TheVariants as row
use Rattle.sync_words.specs.Steps.{next_below, row_or}
use Rattle.handler_ops.specs.declared.desk.Desk.{Desk}
use Rattle.handler_ops.specs.declared.desk.Job.{Job}
use Rattle.handler_ops.specs.Answering.{taken_off, without_job}
use Rattle.handler_ops.specs.Course.{Desks, has_job}
use Rattle.serving_place.specs.Forms.{Own}
use Rattle.serving_place.specs.Places.{OpenWalk, Begun, HasMore}
use Rattle.cpu_program.specs.declared.cargo.Cargo.TheVariants as cargo
use Rattle.cpu_program.specs.Actors.{Processor, OfProcessor}
use Rattle.cpu_program.specs.Processors.{after_jobs, go_on, is_relaxed, owes_job}
use Rattle.rendezvous_core.specs.Worlds.{turn, turned}
use Rattle.rendezvous_machine.specs.Machines.{Machine, Member, Session, member, nobody}
use Rattle.rendezvous_machine.specs.Listed.{CanSay, IsServed, is_over, nothing_left, place_of}
use Rattle.rendezvous_machine.specs.Rules.{IsLeast, Rule}
use Rattle.rendezvous_machine.specs.Effects.{effect, hears, with_job}
use Rattle.schedule_laws.proofs.Scenes.{Scene, Seat, Collecting, Leading as LeadingAt, seat, actors_of, processor_at, world_of}
use Rattle.schedule_laws.proofs.Stations.{station_of, work_done, work_of, member_of, made}
use Rattle.schedule_laws.proofs.Leads.{serves_at}
use Rattle.schedule_laws.proofs.Invariant.{Context, View, IsSelf, IsTeam, IsPeer, IsRunOf, IsCpu, IsTotals, IsJobOf, IsCollecting, IsReady, IsLead, Holds, IsFine, Kept, KeptAt, desk_at, desk_kept, is_owed, seat_known, serves_from, mode_of, view, members_in, team_in, raised_in}
use Rattle.schedule_laws.proofs.Sums.{sum_below-same}
use Rattle.schedule_laws.proofs.Frames.{busies_set, signals_more, stays}
use Rattle.schedule_laws.proofs.LeadFrames.{at_stage, lead_kept}
use Rattle.schedule_laws.proofs.SessionFrames.{bsp_says}
use Rattle.schedule_laws.proofs.Facts.{true_false}
use Rattle.schedule_laws.proofs.ImageKinds.{is_same_kind}
use Rattle.schedule_laws.proofs.Owes.{owed_below, owed_on}
use Rattle.schedule_laws.proofs.Served.{over_listed, place_is, served_over}
use Rattle.schedule_laws.proofs.HandlerPlaces.{serves_is}
use Rattle.schedule_laws.proofs.HandlerRows.{job_none}
use Rattle.schedule_laws.proofs.HandlerLandings.{IsLeading, ended, leading_processor, serves_low, serves_high}
use Rattle.schedule_laws.proofs.HandlerFrames.{kept_is}
use Rattle.schedule_laws.proofs.HandlerRaises.{collected_self}

-- THE NUMBER OF THE LOOP, AND OTHER DESKS

module _ (c : Context) (held : Desks) (k x y : ℕ) (n10 : k ≢ 10) (n11 : k ≢ 11) (n15 : k ≢ 15) (n16 : k ≢ 16) (n17 : k ≢ 17) (n18 : k ≢ 18) where
  abbrev old : Context
  old = at_stage c k x

  abbrev new : Context
  new = at_stage (record c { held = held }) k y

  next_team : (i : ℕ) (v : View) → IsTeam old i v → IsTeam new i v
  next_team i v g =
      record { team_open = g.team_open; departed_open = g.departed_open; team = g.team; unreleased = g.unreleased; idle_early = g.idle_early; idle_mid = g.idle_mid; idle_after = g.idle_after; unclaimed = g.unclaimed; claimed_so_far = λ z. absurd (n11 z); claimed = g.claimed }

  next_peer : (i : ℕ) (v : View) → IsPeer old i v → IsPeer new i v
  next_peer i v p =
      record { station = p.station; walking = p.walking; knows = p.knows; gone = p.gone; listed = p.listed; released_so_far = λ z. absurd (n15 z); released_no_more = λ z. absurd (n15 z); released = p.released; told = p.told; answered = p.answered; ended = p.ended }

  next_cpu : (d : SetupData) (waves i : ℕ) (v : View) → desk_kept new i ≡ desk_kept old i → IsCpu d old waves i v → IsCpu d new waves i v
  next_cpu d waves i v same e =
      record { self = subst (λ (o : Option Desk). IsSelf d waves o v) (sym same) e.self; team = next_team i v e.team; leader = e.leader; peer = λ z. next_peer i v (e.peer z) }

  next_run : (i r : ℕ) (v : View) → IsRunOf old i v r → IsRunOf new i v r
  next_run i r v h = record { upto = h.upto; lent = h.lent; so_far = λ z. absurd (n17 z); no_more = λ z. absurd (n17 z); late = h.late }

  next_totals : (counter run a b e a' b' e' : ℕ) → a' ≡ a → b' ≡ b → e' ≡ e → IsTotals old counter run a b e → IsTotals new counter run a' b' e'
  next_totals counter run a b e a' b' e' p q r t =
      rw (p, q, r) (record { counted = t.counted; counter_locked = t.counter_locked; peers = t.peers; run_open = t.run_open; run_reports = λ z. absurd (n10 z); run_reported = t.run_reported; run_answers = λ z. absurd (n16 z); run_answered = t.run_answered; run_ends = λ z. absurd (n18 z); run_ended = t.run_ended })

  next_job : (d : SetupData) (i : ℕ) (job : Option Job) → is_owed new i ≡ is_owed old i → IsJobOf d old i job → IsJobOf d new i job
  next_job d i job same g = record { procedure = g.procedure; free = λ z h. g.free z (sym same ∙ h); given = λ z h. g.given z (sym same ∙ h); listed = g.listed }

-- THE ONE WHOSE JOB IT IS

-- without its job
abbrev collected_view : View → View
collected_view v = record v { work = 0; job = None }

collected_team : (c : Context) (i : ℕ) (v : View) → IsTeam c i v → IsTeam c i (collected_view v)
collected_team c i v g =
    record { team_open = g.team_open; departed_open = g.departed_open; team = g.team; unreleased = g.unreleased; idle_early = λ _. refl; idle_mid = λ _ _. refl; idle_after = λ _. refl; unclaimed = g.unclaimed; claimed_so_far = g.claimed_so_far; claimed = g.claimed }

collected_peer : (c : Context) (i : ℕ) (v : View) → IsPeer c i v → IsPeer c i (collected_view v)
collected_peer c i v p =
    record { station = p.station; walking = p.walking; knows = p.knows; gone = p.gone; listed = p.listed; released_so_far = p.released_so_far; released_no_more = p.released_no_more; released = p.released; told = p.told; answered = p.answered; ended = p.ended }

collected_run : (c : Context) (i r : ℕ) (v : View) → v.work ≡ 2 → IsRunOf c i v r → IsRunOf c i (collected_view v) r
collected_run c i r v two h =
    record { upto = λ z _. h.upto z (λ u. omega (arith, u, two)); lent = λ z. absurd (omega (arith, z)); so_far = h.so_far; no_more = h.no_more; late = h.late }

has_finished : (job : Option Job) → work_of job ≡ 2 → IsSomeAnd job (λ x. IsSome x.done)
has_finished None h = absurd (omega (arith, h))
has_finished (Some job) h = is_done job.done h
  where
    is_done : (o : Option (ℕ × Status)) → work_done o ≡ 2 → IsSome o
    is_done None e = absurd (omega (arith, e))
    is_done (Some answer) e = refl

nothing_is : (kinds : List HandlerType) (walks : List OpenWalk) (b : Option Begun) → (HasMore kinds walks b → ⊥) → nothing_left kinds walks b ≡ true
nothing_is [] [] None h = refl
nothing_is [] [] (Some b) h = absurd (h tt)
nothing_is [] (w ∷ ws) b h = absurd (h tt)
nothing_is (k ∷ ks) walks b h = absurd (h tt)

serves_not : (b : Bool) (k : ℕ) → k ≢ 4 → k ≢ 13 → serves_at b ≢ k
serves_not true k p q = λ z. p (sym z)
serves_not false k p q = λ z. q (sym z)

-- A JOB IS COLLECTED

module _ (d : SetupData) (c : Context) (s : Scene) (m : Machine) (j : ℕ) (f : IsReady d (at_stage c (serves_at (is_relaxed d.mode)) j) s m) (v : IsCollecting d (at_stage c (serves_at (is_relaxed d.mode)) j)) (two : get_or s.words.busy j 0 ≡ 2) where
  abbrev stage : ℕ
  stage = serves_at (is_relaxed d.mode)

  abbrev now : Context
  now = at_stage c stage j

  abbrev desk : Desk
  desk = desk_at (member m j).image (member m j).job

  abbrev come : Desks
  come = slice_set c.held j (Some desk)

  abbrev held : Desks
  held = taken_off j come

  abbrev after : Context
  after = record c { held = held }

  abbrev free : Member
  free = record (member m j) { job = None }

  abbrev machine : Machine
  machine = with_job j None m

  abbrev scene : Scene
  scene = record s { words = record s.words { busy = slice_set s.words.busy j 0 }; lying = record s.lying { busy = slice_set s.lying.busy j None } }

  some : 1 ≤ stage
  some = let a = serves_low (is_relaxed d.mode) in omega (arith, a)

  low : 3 ≤ stage
  low = let a = serves_low (is_relaxed d.mode) in omega (arith, a)

  at : serves_from (mode_of d) ≤ stage
  at = let a = serves_is (is_relaxed d.mode) in omega (arith, a)

  work : work_of (member m j).job ≡ 2
  work = (f.busies j v.next).finished two

  member_free : member machine j ≡ free
  member_free = get_or-set_same m.members j free nobody (let e = f.sized.members in let l = v.next in omega (arith, e, l))

  member_other : (i : ℕ) → i ≢ j → member machine i ≡ member m i
  member_other i q = get_or-set_other m.members j i free nobody q

  seen_is : view scene machine j ≡ collected_view (view s m j)
  seen_is = rw member_free refl

  other_is : (i : ℕ) → i ≢ j → view scene machine i ≡ view s m i
  other_is i q = rw (member_other i q) refl

  -- a number of the view that the job doesn't bear on
  same : (g : View → ℕ) → ((u : View) → g (collected_view u) ≡ g u) → (i : ℕ) → g (view scene machine i) ≡ g (view s m i)
  same g e i =
      ⊎_elim
      (λ (q : i ≡ j). subst (λ (y : ℕ). g (view scene machine y) ≡ g (view s m y)) (sym q) (ap g seen_is ∙ e (view s m j)))
      (λ (q : i ≢ j). ap g (other_is i q))
      (cases_eq i j)

  come_size : length come ≡ d.processors
  come_size = length-set c.held j (Some desk) ∙ f.sized.held some

  held_size : length held ≡ d.processors
  held_size = length-set come j (option_map without_job (get_or come j None)) ∙ come_size

  held_here : get_or held j None ≡ Some (desk_at (member m j).image None)
  held_here =
      get_or-set_same come j (option_map without_job (get_or come j None)) None (let e = come_size in let l = v.next in omega (arith, e, l))
      ∙ ap (option_map without_job) (get_or-set_same c.held j (Some desk) None (let e = f.sized.held some in let l = v.next in omega (arith, e, l)))

  held_other : (i : ℕ) → i ≢ j → get_or held i None ≡ get_or c.held i None
  held_other i q = get_or-set_other come j i (option_map without_job (get_or come j None)) None q ∙ get_or-set_other c.held j i (Some desk) None q

  not_at : (k : ℕ) → k ≢ 4 → k ≢ 13 → stage ≢ k
  not_at k p q = serves_not (is_relaxed d.mode) k p q

  n10 : stage ≢ 10
  n10 = not_at 10 (λ z. omega arith) (λ z. omega arith)

  n11 : stage ≢ 11
  n11 = not_at 11 (λ z. omega arith) (λ z. omega arith)

  n15 : stage ≢ 15
  n15 = not_at 15 (λ z. omega arith) (λ z. omega arith)

  n16 : stage ≢ 16
  n16 = not_at 16 (λ z. omega arith) (λ z. omega arith)

  n17 : stage ≢ 17
  n17 = not_at 17 (λ z. omega arith) (λ z. omega arith)

  n18 : stage ≢ 18
  n18 = not_at 18 (λ z. omega arith) (λ z. omega arith)

  abbrev next : Context
  next = at_stage after stage (j + 1)

  collected_cpu : IsCpu d next m.waves j (collected_view (view s m j))
  collected_cpu =
      let e = f.each j v.next in
      let high = serves_high (is_relaxed d.mode) in
      let here : desk_kept next j ≡ Some (desk_at (member m j).image None) = kept_is next j v.other ∙ held_here in
      record {
        self = subst (λ (o : Option Desk). IsSelf d m.waves o (collected_view (view s m j))) (sym here)
            (collected_self d m.waves (desk_kept now j) (view s m j) work (e.self.worker (let w = work in omega (arith, w))) (e.team.unreleased (omega (arith, high))) e.self);
        team = next_team c held stage j (j + 1) n10 n11 n15 n16 n17 n18 j (collected_view (view s m j)) (collected_team now j (view s m j) e.team);
        leader = λ z. absurd (v.other z);
        peer = λ z. next_peer c held stage j (j + 1) n10 n11 n15 n16 n17 n18 j (collected_view (view s m j)) (collected_peer now j (view s m j) (e.peer z));
      }

  other_cpu : (i : ℕ) → i < d.processors → i ≢ j → IsCpu d next m.waves i (view s m i)
  other_cpu i l q =
      next_cpu c held stage j (j + 1) n10 n11 n15 n16 n17 n18 d m.waves i (view s m i) (ap (λ (o : Option Desk). if i == c.bsp then None else o) (held_other i q)) (f.each i l)

  collected_job : IsJobOf d next j None
  collected_job =
      record {
        procedure = λ z. absurd (omega (arith, z));
        free = λ _ _. refl;
        given = λ _ h. absurd (true_false (is_owed next j) h (owed_below (j + 1) j (has_job (seat_known c j)) (omega arith)));
        listed = λ _ on. absurd (v.over on);
      }

  other_job : (i : ℕ) → i < d.processors → i ≢ c.bsp → i ≢ j → IsJobOf d next i (member m i).job
  other_job i l n q =
      next_job c held stage j (j + 1) n10 n11 n15 n16 n17 n18 d i (member m i).job (owed_on j (j + 1) i (has_job (seat_known c i)) (omega arith) (λ a b. absurd (q (omega (arith, a, b))))) (f.jobs i l n)

  collected_ready : IsReady d next scene machine
  collected_ready =
      let z = f.sized in
      let w = f.words in
      let n = f.session in
      let h = f.course in
      let N : ℕ = d.processors in
      let V : ℕ → View = view s m in
      let V' : ℕ → View = view scene machine in
      let lm : j < length m.members = (let e = z.members in let l = v.next in omega (arith, e, l)) in
      let lb : j < length s.words.busy = (let e = z.busy in let l = v.next in omega (arith, e, l)) in
      let lo : j < length s.lying.busy = (let e = z.on_busy in let l = v.next in omega (arith, e, l)) in
      record {
        platform = f.platform;
        sized = record { seats = z.seats; pend = z.pend; present = z.present; run = z.run; busy = length-set s.words.busy j 0 ∙ z.busy; on_present = z.on_present; on_run = z.on_run; on_busy = length-set s.lying.busy j None ∙ z.on_busy; members = length-set m.members j free ∙ z.members; held = λ _. held_size };
        words = record { some_bsp = w.some_bsp; no_bsp = w.no_bsp; bsp_before = w.bsp_before; bsp_taken = w.bsp_taken; bsp_free = w.bsp_free; leads = w.leads; inside_before = w.inside_before; inside = w.inside; inside_after = w.inside_after; insync_before = w.insync_before; insync = w.insync; insync_after = w.insync_after; chair_before = w.chair_before; chair = w.chair; chair_after = w.chair_after; source = w.source; except = w.except; no_session = w.no_session; session = w.session };
        session = record { bsp = n.bsp; unserved = n.unserved; served = n.served; ungathered = n.ungathered; gathered = n.gathered; unready = n.unready; fresh = n.fresh; expired = n.expired; waited = n.waited; unclosed = n.unclosed; closed = n.closed; unbegun = n.unbegun; undone = n.undone; done = n.done };
        course = record { setup = h.setup; size = h.size; registered = h.registered; pooled = h.pooled; me = h.me; led = h.led; listed = h.listed; over = h.over };
        chipset = f.chipset;
        totals =
            next_totals c held stage j (j + 1) n10 n11 n15 n16 n17 n18 s.words.counter (get_or s.words.run c.bsp 0) (members_in N V) (team_in N V) (raised_in N V) (members_in N V') (team_in N V') (raised_in N V')
            (sum_below-same N (λ i. member_of (V' i).station) (λ i. member_of (V i).station) (λ i _. same (λ u. member_of u.station) (λ u. refl) i))
            (sum_below-same N (λ i. (V' i).team) (λ i. (V i).team) (λ i _. same (λ u. u.team) (λ u. refl) i))
            (sum_below-same N (λ i. made (V' i).departed (V' i).station) (λ i. made (V i).departed (V i).station) (λ i _. same (λ u. made u.departed u.station) (λ u. refl) i))
            f.totals;
        each = λ i l.
            ⊎_elim
            (λ (q : i ≡ j). subst (λ (y : ℕ). IsCpu d next m.waves y (V' y)) (sym q) (subst (λ (u : View). IsCpu d next m.waves j u) (sym seen_is) collected_cpu))
            (λ (q : i ≢ j). subst (λ (u : View). IsCpu d next m.waves i u) (sym (other_is i q)) (other_cpu i l q))
            (cases_eq i j);
        runs = λ i l n.
            ⊎_elim
            (λ (q : i ≡ j). subst (λ (y : ℕ). IsRunOf next y (V' y) (get_or s.words.run y 0)) (sym q)
            (subst (λ (u : View). IsRunOf next j u (get_or s.words.run j 0)) (sym seen_is)
            (next_run c held stage j (j + 1) n10 n11 n15 n16 n17 n18 j (get_or s.words.run j 0) (collected_view (V j)) (collected_run now j (get_or s.words.run j 0) (V j) work (f.runs j v.next v.other)))))
            (λ (q : i ≢ j). subst (λ (u : View). IsRunOf next i u (get_or s.words.run i 0)) (sym (other_is i q))
            (next_run c held stage j (j + 1) n10 n11 n15 n16 n17 n18 i (get_or s.words.run i 0) (V i) (f.runs i l n)))
            (cases_eq i j);
        jobs = λ i l n.
            ⊎_elim
            (λ (q : i ≡ j). subst (λ (y : ℕ). IsJobOf d next y (member machine y).job) (sym q) (subst (λ (x : Member). IsJobOf d next j x.job) (sym member_free) collected_job))
            (λ (q : i ≢ j). subst (λ (x : Member). IsJobOf d next i x.job) (sym (member_other i q)) (other_job i l n q))
            (cases_eq i j);
        idle = λ i l n. let y = f.idle i l n in record { size = y.size; held = y.held; chair = y.chair };
        signals = signals_more d m j free s.words.pend lm (omega arith) f.signals;
        busies =
            busies_set d m j 0 None free s (slice_set s.lying.busy j None) lm lb (get_or-set_same s.lying.busy j None None lo) (λ i q. get_or-set_other s.lying.busy j i None None q)
            (record { lies = λ u. absurd (omega (arith, u)); finished = λ u. absurd (omega (arith, u)); ran = λ u. absurd (omega (arith, u)) }) f.busies;
      }

  -- WHAT THE MACHINE ALLOWS

  least : IsLeast m j
  least i l =
      job_none (member m i).job
      (⊎_elim
      (λ (q : i ≡ c.bsp). ((f.each i (let n = v.next in omega (arith, l, n))).leader q).work)
      (λ (q : i ≢ c.bsp). (f.jobs i (let n = v.next in omega (arith, l, n)) q).free (serves_is (is_relaxed d.mode)) (owed_below j i (has_job (seat_known c i)) l))
      (cases_eq i c.bsp))

  may_collect : Rule d m c.bsp (say.Collect j)
  may_collect = (
    bsp_says d now s m (λ x. CanSay d m (say.Collect j) x ⊎ (IsServed d m x × IsLeast m j)) f some (inr (served_over d now s m f at low v.over, least)),
    has_finished (member m j).job work,
  )

  -- its list is whole, and stays
  whole : is_over (place_of d m) ≡ true
  whole =
      ap is_over (place_is d now s m f at low)
      ∙ nothing_is c.place.kinds c.place.walks c.place.begun (over_listed c.chair.course.place c.place (f.course.listed at) v.over)

  machine_is : effect d m c.bsp (say.Collect j) ≡ machine
  machine_is =
      let is : m.session ≡ Some c.session = f.words.session some in
      ap (λ (o : Option Session). record machine { session = o })
      (ap (λ (b : Bool). option_map (hears b (Own (say.Collect j))) m.session) whole ∙ ap (option_map (hears true (Own (say.Collect j)))) is ∙ sym is)

-- THE TURN

-- where the job was run
collect_run : (d : SetupData) (c : Context) (s : Scene) (m : Machine) (t : Seat) (j : ℕ) → t.position ≡ LeadingAt (Collecting j) → IsReady d (at_stage c (serves_at (is_relaxed d.mode)) j) s m → seat s c.bsp ≡ t
    → IsLead d (at_stage c (serves_at (is_relaxed d.mode)) j) m.registrations m.pool (Collecting j) t → IsCollecting d (at_stage c (serves_at (is_relaxed d.mode)) j) → get_or s.words.busy j 0 ≡ 2
    → Kept d m c.bsp (turned (world_of d s) c.bsp (turn s.words s.lying c.bsp (OfProcessor (leading_processor d c t (Collecting j) c.held))))
collect_run d c s m t j q f e at v two =
    let x : Member = member m j in
    let lies : get_or s.lying.busy j None ≡ Some (cargo.Desk (desk_at x.image x.job)) = (f.busies j v.next).lies ((f.busies j v.next).finished two) in
    let kind = is_same_kind x.image.kind d.kind (f.each j v.next).self.kind in
    let one = eq-eqb (get_or s.words.busy j 0) 2 two in
    let held : t.held ≡ c.held = at.held in
    let c2 : Context = after d c s m j f v two in
    let s2 : Scene = scene d c s m j f v two in
    let lead : IsLeading c2 s2 t = record { seat_is = e; leads = ap station_of q; wave = at.wave; blocked = at.blocked; listed = at.listed } in
    let own : get_or c2.held c.bsp None ≡ get_or t.held c.bsp None =
    held_other d c s m j f v two c.bsp (λ u. v.other (sym u)) ∙ ap (λ (h : Desks). get_or h c.bsp None) (sym held) in
    let fine = ended d c2 s2 (machine d c s m j f v two) t (Collecting j) (j + 1) (collected_ready d c s m j f v two) v.over lead own v.own in
    let on : Processor = go_on (row_or row.CollectJob (after_jobs d.mode) (next_below d.processors (owes_job (Some c.chair)) (j + 1))) (leading_processor d c t (Collecting j) c2.held) in
    let goes = subst (λ (n : Machine). IsFine d (record { words = s2.words; lying = s2.lying; actors = slice_set (actors_of d s) c.bsp (OfProcessor on) }) n) (sym (machine_is d c s m j f v two)) fine in
    simp (one, lies, kind) (refl, may_collect d c s m j f v two, goes)

collect_at : (d : SetupData) (c : Context) (s : Scene) (m : Machine) (t : Seat) (j : ℕ) → t.position ≡ LeadingAt (Collecting j) → Holds d (at_stage c (serves_at (is_relaxed d.mode)) j) s m → seat s c.bsp ≡ t
    → IsLead d (at_stage c (serves_at (is_relaxed d.mode)) j) m.registrations m.pool (Collecting j) t → KeptAt d s m c.bsp t (LeadingAt (Collecting j))
collect_at d c s m t j q k e at =
    let high = serves_high (is_relaxed d.mode) in
    let chair : t.chair ≡ Some c.chair = at.chair (omega (arith, high)) in
    let held : t.held ≡ c.held = at.held in
    let is : processor_at d c.bsp (LeadingAt (Collecting j)) t ≡ leading_processor d c t (Collecting j) c.held =
    (λ i. record (processor_at d c.bsp (LeadingAt (Collecting j)) t) { chair = chair i; held = held i }) in
    ⊎_elim
    (λ (z : get_or s.words.busy j 0 ≡ 2).
    subst (λ (p : Processor). Kept d m c.bsp (turned (world_of d s) c.bsp (turn s.words s.lying c.bsp (OfProcessor p)))) (sym is) (collect_run d c s m t j q k.ready e at (at.collects refl) z))
    (λ (z : get_or s.words.busy j 0 ≢ 2). simp (ne_eqb (get_or s.words.busy j 0) 2 z) (stays d (at_stage c (serves_at (is_relaxed d.mode)) j) s m k))
    (cases_eq (get_or s.words.busy j 0) 2)

pub collect : (d : SetupData) (c : Context) (i : ℕ) (s : Scene) (m : Machine) (t : Seat) (j : ℕ) → Holds d c s m → i < d.processors → seat s i ≡ t
    → t.position ≡ LeadingAt (Collecting j) → KeptAt d s m i t (LeadingAt (Collecting j))
collect d c i s m t j f l e q = lead_kept d c i s m t (Collecting j) f l e q (λ g e' at. collect_at d c s m t j q g e' at)

-- For what the BSP waits: for reports, answers or departures at its own word, or for a job at the word of the AP that has it.
use Rattle.std.proofs.Common.{ℕ, ◌≡◌, ◌≢◌, ◌<◌, ◌≤◌, ◌⊎◌, ⊎_elim, arith, Bool, true, false, List, length, get_or, Option, Some, None, refl, sym, ap, subst, ◌∙◌}
use Rattle.std.specs.Prelude.{is_some, option_map, IsSomeAnd}
use Rattle.std.proofs.lemmas.Bool.{cases_eq, cases_lt, eq-eqb}
use Rattle.std.proofs.lemmas.List.{get_or_past, get_or-set_same}
use Rattle.smm_base.specs.declared.status.Status.{Status}
use Rattle.cpu_table.specs.Data.{SetupData}
use Rattle.sync_words.specs.declared.label.Label.{Label}
use Rattle.sync_words.specs.declared.label.Label.TheVariants as say
use Rattle.sync_words.specs.Steps.{hand_of}
use Rattle.handler_ops.specs.declared.desk.Desk.{Desk}
use Rattle.handler_ops.specs.declared.desk.Job.{Job}
use Rattle.handler_ops.specs.declared.row.Row.{Row}
use Rattle.handler_ops.specs.declared.row.Row.TheVariants as told
use Rattle.handler_ops.specs.Course.{Desks, has_job, desk_of}
use Rattle.handler_ops.specs.Told.{need_as, handed_as, given_job, with_job}
use Rattle.handler_ops.specs.Sessions.{Session as Chair}
use Rattle.handler_ops.proofs.Dues.{held_is}
use Rattle.handler_ops.proofs.Rows.{finished}
use Rattle.handler_ops.proofs.RowSteps.{need_of_row}
use Rattle.serving_place.specs.declared.seat.Seat.{Seat as JobSeat}
use Rattle.serving_place.specs.declared.seat.Seat.TheVariants.{Free, Open, Done}
use Rattle.serving_place.specs.Beginning.{program_of}
use Rattle.serving_place.specs.Forms.{Event}
use Rattle.serving_place.specs.Places.{Place, Begun, First, Started, Awaited}
use Rattle.serving_place.specs.Stands.{Leads as LeadsTo}
use Rattle.cpu_program.specs.Actors.{Actor, Processor, OfProcessor}
use Rattle.cpu_program.specs.Hands.{thing_given, chair_given}
use Rattle.cpu_program.specs.Processors.{is_relaxed, want_for, want_of_session}
use Rattle.cpu_program.specs.Programs.{gift_of, gift_of_hand}
use Rattle.rendezvous_machine.specs.Machines.{Machine, member}
use Rattle.rendezvous_machine.specs.Services.{setting}
use Rattle.schedule_laws.proofs.Scenes.{Scene, Seat, Position, Lead, MarkingInside, AwaitingReports, TakingDesk, BeginningToServe, AtHandlers, Collecting, Releasing, AwaitingReleased, AwaitingDismissed, GivingChair, Leading as LeadingAt, seat, processor_at}
use Rattle.schedule_laws.proofs.Stations.{bit}
use Rattle.schedule_laws.proofs.Leads.{stage_in, next_of, serves_at}
use Rattle.schedule_laws.proofs.Invariant.{Context, View, IsReady, IsLead, IsAt, IsServing, Holds, by_done, with_done, seat_known, seat_listed, first_place, desk_at, view}
use Rattle.schedule_laws.proofs.LeadFrames.{at_stage, the_bsp}
use Rattle.schedule_laws.proofs.Facts.{true_false}
use Rattle.schedule_laws.proofs.ClosedFrames.{desk_of_team}
use Rattle.schedule_laws.proofs.HandlerPlaces.{IsTied, serves_is}
use Rattle.schedule_laws.proofs.HandlerLandings.{serves_low, serves_high}
use Rattle.schedule_laws.proofs.HandlerRows.{RowFits, IsWatched, row_fits, free_no_job}
use Rattle.schedule_laws.proofs.HandlerFrames.{watched}
use Rattle.ending_laws.proofs.Waits.{IsWaiting, some_none, desk_gift, gift_none}
use Rattle.ending_laws.proofs.Halts.{WaitsAt}
use Rattle.ending_laws.proofs.Owed.{IsOwed, BegunOwed, RowOwed, leads_owed, row_owed}

-- the BSP awaits the job of the processor x, which wasn't run
abbrev pub AwaitsJob : SetupData → Context → Scene → ℕ → Type 0
AwaitsJob d c s x = (x < d.processors) × (x ≢ c.bsp) × (has_job (seat_known c x) ≡ true) × (get_or s.words.busy x 0 ≢ 2)

abbrev pub LeadHalts : SetupData → Context → Scene → Lead → Type 0
LeadHalts d c s (AwaitingReports left) = get_or s.words.run c.bsp 0 ≡ 0
LeadHalts d c s (AwaitingReleased left) = get_or s.words.run c.bsp 0 ≡ 0
LeadHalts d c s (AwaitingDismissed left) = get_or s.words.run c.bsp 0 ≡ 0
LeadHalts d c s AtHandlers = (x : ℕ) × AwaitsJob d c s x
LeadHalts d c s (Collecting j) = AwaitsJob d c s j
LeadHalts d c s _ = ⊥

-- WHAT IS TAKEN IS THERE

desk_there : (d : SetupData) (c : Context) (s : Scene) (m : Machine) (x : ℕ) → IsReady d c s m → get_or s.words.present x 0 ≡ 1 → get_or s.lying.present x None ≡ None → ⊥
desk_there d c s m x f z n =
    ⊎_elim
    (λ (l : x < d.processors). some_none (get_or s.lying.present x None) _ ((f.each x l).self.on_present z) n)
    (λ (l : d.processors ≤ x). let y = get_or_past s.words.present x 0 (rw f.sized.present l) in omega (arith, y, z))
    (cases_lt x d.processors)

job_there : (d : SetupData) (c : Context) (s : Scene) (m : Machine) (x : ℕ) → IsReady d c s m → get_or s.words.busy x 0 ≡ 2 → get_or s.lying.busy x None ≡ None → ⊥
job_there d c s m x f z n =
    ⊎_elim
    (λ (l : x < d.processors). let b = f.busies x l in some_none (get_or s.lying.busy x None) _ (b.lies (b.finished z)) n)
    (λ (l : d.processors ≤ x). let y = get_or_past s.words.busy x 0 (rw f.sized.busy l) in omega (arith, y, z))
    (cases_lt x d.processors)

-- JOBS THAT ARE AWAITED

done_job : (o : Option (ℕ × Status)) (q : JobSeat) → has_job (by_done o q) ≡ has_job q
done_job None q = refl
done_job (Some answer) Free = refl
done_job (Some answer) (Open j t) = refl
done_job (Some answer) (Done j t x S) = refl

listed_job : (job : Option Job) (q : JobSeat) → has_job (with_done job q) ≡ has_job q
listed_job None q = refl
listed_job (Some job) q = done_job job.done q

-- the server has the job of each processor that has one in the machine's list
known_job : (d : SetupData) (c : Context) (m : Machine) → IsTied d c m → (x : ℕ) → has_job (seat_listed c x) ≡ true → has_job (seat_known c x) ≡ true
known_job d c m t x h =
    ⊎_elim
    (λ (l : x < d.processors).
    ⊎_elim
    (λ (q : x ≡ c.bsp). subst (λ (i : ℕ). has_job (seat_listed c i) ≡ true → has_job (seat_known c i) ≡ true) (sym q) (λ y. ap has_job (sym t.own) ∙ y) h)
    (λ (q : x ≢ c.bsp). sym (ap has_job (t.listed x l q) ∙ listed_job (member m x).job (seat_known c x)) ∙ h)
    (cases_eq x c.bsp))
    (λ (l : d.processors ≤ x). absurd (true_false false (sym (ap has_job (get_or_past c.place.state.seats x Free (rw t.listed_size l))) ∙ h) refl))
    (cases_lt x d.processors)

begun_known : (d : SetupData) (c : Context) (m : Machine) → IsTied d c m → (b : Option Begun) → BegunOwed b c.place.state.seats → BegunOwed b c.chair.course.place.state.seats
begun_known d c m t None h = tt
begun_known d c m t (Some (First w)) h = tt
begun_known d c m t (Some (Started o)) h = tt
begun_known d c m t (Some (Awaited x into)) h = known_job d c m t x h

led_owed : (d : SetupData) (p q : Place) (o : Option (List Event)) → IsSomeAnd o (λ said. LeadsTo (program_of d) p said q) → IsOwed p → IsOwed q
led_owed d p q None h k = absurd h
led_owed d p q (Some said) h k = leads_owed (program_of d) p said q h k

place_owed : (d : SetupData) (c : Context) (m : Machine) → IsTied d c m → IsSomeAnd c.session.serving (λ said. LeadsTo (program_of d) (first_place d c.wave m.registrations m.pool) said c.place)
    → IsOwed c.chair.course.place
place_owed d c m t led =
    let listed : IsOwed c.place = led_owed d (first_place d c.wave m.registrations m.pool) c.place c.session.serving led tt in
    begun_known d c m t c.chair.course.place.begun (subst (λ (b : Option Begun). BegunOwed b c.place.state.seats) (ap (λ (p : Place). p.begun) t.same) listed)

-- THE ROW OF THE SERVER

mapped : (f : Desk → Desk) (o : Option Desk) → is_some (option_map f o) ≡ is_some o
mapped f None = refl
mapped f (Some x) = refl

-- the desk that a raise gives is there
raised_there : (d : SetupData) (c : Context) (s : Scene) (m : Machine) (x : ℕ) (l : Label) → RowFits d c s m (told.Raising x l) → length c.held ≡ d.processors
    → is_some (desk_of (handed_as (told.Raising x l) c.held) x) ≡ true
raised_there d c s m x l h size =
    let start = h.4 in
    subst (λ (k : Label). is_some (desk_of (given_job x k c.held) x) ≡ true) (sym start.is)
    (ap (λ (o : Option Desk). is_some o) (get_or-set_same c.held x (option_map (with_job start.job start.procedure start.argument) (desk_of c.held x)) None (rw size h.0))
    ∙ mapped (with_job start.job start.procedure start.argument) (desk_of c.held x) ∙ sym (held_is c.held x) ∙ h.2)

module _ (d : SetupData) (c c' : Context) (s : Scene) (m : Machine) (p : Processor) where
  -- the processor p is told this row
  row_waits : (r : Row) → RowFits d c s m r → IsReady d c' s m → IsServing d c → p.setup ≡ d → p.held ≡ handed_as r c.held → length c.held ≡ d.processors → p.chair ≡ Some c.chair
      → c.chair.told ≡ r → (r ≡ told.Finished → ⊥) → RowOwed c.chair.course.place.state.seats r → (gift_of (OfProcessor p) ≡ gift_of_hand (hand_of (want_for (need_as r))) p)
      → IsWaiting s.words s.lying (OfProcessor p) (want_for (need_as r)) → (x : ℕ) × AwaitsJob d c s x
  row_waits told.Finished fits f v setup held size chair told_is more owed gift h = absurd (more refl)
  row_waits (told.ClaimingDesk x l) fits f v setup held size chair told_is more owed gift h =
      ⊎_elim (λ (z : ⊥). absurd z) (λ (z : (get_or s.words.present x 0 ≡ 1) × (get_or s.lying.present x None ≡ None)). absurd (desk_there d c' s m x f z.0 z.1)) h
  row_waits (told.ClaimingJob x l) fits f v setup held size chair told_is more owed gift h =
      ⊎_elim (λ (z : ⊥). absurd z) (λ (z : (get_or s.words.busy x 0 ≡ 2) × (get_or s.lying.busy x None ≡ None)). absurd (job_there d c' s m x f z.0 z.1)) h
  row_waits (told.AwaitingJob x) fits f v setup held size chair told_is more owed gift h =
      let apart : x ≢ c.bsp = (λ q. true_false (has_job (seat_known c c.bsp)) (subst (λ (i : ℕ). has_job (seat_known c i) ≡ true) q owed) (free_no_job (seat_known c c.bsp) (v.sound.idle c.bsp v.sound.mine))) in
      ⊎_elim
      (λ (z : get_or s.words.busy x 0 ≢ 2). (x, (fits, apart, owed, z)))
      (λ (z : (get_or s.words.busy x 0 ≡ 2) × (get_or s.lying.busy x None ≡ None)). absurd (job_there d c' s m x f z.0 z.1))
      h
  row_waits (told.Raising x l) fits f v setup held size chair told_is more owed gift h =
      ⊎_elim
      (λ (z : ⊥). absurd z)
      (λ (z : Unit {0} × (gift_of (OfProcessor p) ≡ None)).
      let few : x ≢ p.setup.processors = (λ y. let a = fits.0 in let b = ap (λ (u : SetupData). u.processors) setup in omega (arith, a, b, y)) in
      let none : is_some (desk_of p.held x) ≡ false = gift_none p x few (sym gift ∙ z.1) in
      absurd (true_false _ (raised_there d c s m x l fits size) (ap (λ (xs : Desks). is_some (desk_of xs x)) (sym held) ∙ none)))
      h
  row_waits r fits f v setup held size chair told_is more owed gift h = absurd h

-- THE POSITIONS OF THE BSP

ctx_is : (c : Context) (k x : ℕ) → c.stage ≡ k → c.next ≡ x → c ≡ at_stage c k x
ctx_is c k x a b = λ t. record { stage = a t; bsp = c.bsp; next = b t; peers = c.peers; wave = c.wave; blocked = c.blocked; held = c.held; listed = c.listed; chair = c.chair; place = c.place; session = c.session }

abbrev pub lead_of : Position → Lead
lead_of (LeadingAt lead) = lead
lead_of _ = MarkingInside

-- the context at a position of the BSP
pub led : (d : SetupData) (c : Context) (i : ℕ) (s : Scene) (m : Machine) (t : Seat) (lead : Lead) (P : ℕ → Type 0) → Holds d c s m → i < d.processors → seat s i ≡ t
    → t.position ≡ LeadingAt lead
    → (Holds d (at_stage c (stage_in lead (is_relaxed d.mode)) (next_of lead)) s m → seat s c.bsp ≡ t
    → IsLead d (at_stage c (stage_in lead (is_relaxed d.mode)) (next_of lead)) m.registrations m.pool lead t → P c.bsp)
    → P i
led d c i s m t lead P f l e q then_on =
    let k : i ≡ c.bsp = the_bsp d c i s m t lead f l e q in
    let few = f.ready.platform.few in
    let st : 1 ≤ c.stage = ⊎_elim (λ (z : c.stage ≡ 0). let y = f.ready.words.no_bsp z in absurd (omega arith)) (λ (z : c.stage ≢ 0). omega arith) (cases_eq c.stage 0) in
    let e' : seat s c.bsp ≡ t = ap (seat s) (sym k) ∙ e in
    let at : IsAt d c m.registrations m.pool t = subst (IsAt d c m.registrations m.pool) e' (f.at st) in
    let same : at.lead ≡ lead = ap lead_of (sym at.position ∙ q) in
    let h : IsLead d c m.registrations m.pool lead t = subst (λ (x : Lead). IsLead d c m.registrations m.pool x t) same at.is in
    let to : c ≡ at_stage c (stage_in lead (is_relaxed d.mode)) (next_of lead) = ctx_is c (stage_in lead (is_relaxed d.mode)) (next_of lead) (sym h.stage) (sym h.next) in
    subst P (sym k) (then_on (subst (λ (x : Context). Holds d x s m) to f) e' (subst (λ (x : Context). IsLead d x m.registrations m.pool lead t) to h))

begin_low : (b : Bool) → stage_in BeginningToServe b ≤ 19
begin_low true = omega arith
begin_low false = omega arith

chair_gift : (p : Processor) (k : ℕ) (x : Chair) → k ≡ p.setup.processors → p.chair ≡ Some x → thing_given p k ≡ None → ⊥
chair_gift p k x e c h =
    let y : chair_given p.chair ≡ None = rw (eq-eqb k p.setup.processors e) at h in
    let z : chair_given (Some x) ≡ None = subst (λ (o : Option Chair). chair_given o ≡ None) c y in
    cc

module _ (d : SetupData) (c : Context) (s : Scene) (m : Machine) (t : Seat) where
  abbrev actor : Lead → Actor
  actor lead = OfProcessor (processor_at d c.bsp (LeadingAt lead) t)

  -- the first label is looked for
  begins_on : Holds d (at_stage c (stage_in BeginningToServe (is_relaxed d.mode)) 0) s m → IsLead d (at_stage c (stage_in BeginningToServe (is_relaxed d.mode)) 0) m.registrations m.pool BeginningToServe t
      → stage_in BeginningToServe (is_relaxed d.mode) ≤ 19 → WaitsAt d s c.bsp t (LeadingAt BeginningToServe) → ⊥
  begins_on f at few h =
      let b = at.begins refl in
      let one : IsWaiting s.words s.lying (actor BeginningToServe) (want_of_session (Some c.chair)) =
      subst (λ (o : Option Chair). IsWaiting s.words s.lying (actor BeginningToServe) (want_of_session o)) (at.chair few) h in
      let two : IsWaiting s.words s.lying (actor BeginningToServe) (want_for (need_as (told.Looking (say.Begin c.wave)))) =
      subst (λ (r : Row). IsWaiting s.words s.lying (actor BeginningToServe) (want_for (need_as r))) b.told one in
      two

  serves_on : Holds d (at_stage c (serves_at (is_relaxed d.mode)) 0) s m → IsLead d (at_stage c (serves_at (is_relaxed d.mode)) 0) m.registrations m.pool AtHandlers t
      → WaitsAt d s c.bsp t (LeadingAt AtHandlers) → (x : ℕ) × AwaitsJob d c s x
  serves_on k at h =
      let c1 : Context = at_stage c (serves_at (is_relaxed d.mode)) 0 in
      let f = k.ready in
      let low = serves_low (is_relaxed d.mode) in
      let high = serves_high (is_relaxed d.mode) in
      let is = serves_is (is_relaxed d.mode) in
      let y = at.serves refl in
      let v : IsServing d c = record { goes_on = y.goes_on; fits = y.fits; own = y.own; sound = y.sound; told = y.told } in
      let r : Row = c.chair.told in
      let p : Processor = processor_at d c.bsp (LeadingAt AtHandlers) t in
      let w : IsWatched d c s m = watched d c s m f v.goes_on v.sound v.own in
      let fits : RowFits d c s m r = subst (RowFits d c s m) (sym v.told) (row_fits d c s m w v.fits) in
      let chair : t.chair ≡ Some c.chair = at.chair (omega (arith, high)) in
      let owed : RowOwed c.chair.course.place.state.seats r =
      subst (RowOwed c.chair.course.place.state.seats) (sym v.told) (row_owed (setting d c.bsp) c.held c.chair.course (place_owed d c m w.tied (f.course.led (omega (arith, is))))) in
      let more : r ≡ told.Finished → ⊥ =
      (λ z. (finished (setting d c.bsp) c.held c.chair.course).0 (sym (need_of_row (setting d c.bsp) c.held c.chair.course) ∙ ap need_as (sym v.told ∙ z)) v.goes_on) in
      let gift : gift_of (OfProcessor p) ≡ gift_of_hand (hand_of (want_for (need_as r))) p = ap (λ (o : Option Chair). gift_of_hand (hand_of (want_of_session o)) p) chair in
      let waits : IsWaiting s.words s.lying (OfProcessor p) (want_for (need_as r)) = subst (λ (o : Option Chair). IsWaiting s.words s.lying (OfProcessor p) (want_of_session o)) chair h in
      row_waits d c c1 s m p r fits f v refl at.held (f.sized.held (omega (arith, low))) chair refl more owed gift waits

  releases_on : (j : ℕ) → Holds d (at_stage c 15 j) s m → IsLead d (at_stage c 15 j) m.registrations m.pool (Releasing j) t → WaitsAt d s c.bsp t (LeadingAt (Releasing j)) → ⊥
  releases_on j f h x =
      let g = f.ready in
      let k : Context = at_stage c 15 j in
      let a = f.aim.releases refl in
      let v : View = view s m j in
      let own = g.each j a.0 in
      let peer = own.peer a.1 in
      let team : v.team ≡ 1 = sym (peer.listed (omega arith) (omega arith)) ∙ ap bit a.2 in
      let un : v.released ≡ 0 = peer.released_no_more refl (omega arith) in
      let idle : v.work ≡ 0 = own.team.idle_after (omega arith) in
      let desk : get_or t.held j None ≡ Some (desk_at (member m j).image None) =
      ap (λ (xs : List (Option Desk)). get_or xs j None) h.held ∙ (desk_of_team d k m.waves j (get_or s.words.run j 0) v (omega arith) (omega arith) idle un (omega arith) a.1 own (g.runs j a.0 a.1)).1 in
      ⊎_elim
      (λ (z : ⊥). z)
      (λ (z : Unit {0} × (gift_of (actor (Releasing j)) ≡ None)). desk_gift (processor_at d c.bsp (LeadingAt (Releasing j)) t) j _ (λ y. let b = a.0 in omega (arith, b, y)) desk z.1)
      x

  pub lead_halts : (lead : Lead) → Holds d (at_stage c (stage_in lead (is_relaxed d.mode)) (next_of lead)) s m
      → IsLead d (at_stage c (stage_in lead (is_relaxed d.mode)) (next_of lead)) m.registrations m.pool lead t → WaitsAt d s c.bsp t (LeadingAt lead) → LeadHalts d c s lead
  lead_halts (TakingDesk j) f at h =
      ⊎_elim (λ (z : ⊥). z) (λ (z : (get_or s.words.present j 0 ≡ 1) × (get_or s.lying.present j None ≡ None)). desk_there d (at_stage c 11 j) s m j f.ready z.0 z.1) h
  lead_halts BeginningToServe f at h = begins_on f at (begin_low (is_relaxed d.mode)) h
  lead_halts AtHandlers f at h = serves_on f at h
  lead_halts (Collecting j) f at h =
      let k = at.collects refl in
      ⊎_elim
      (λ (z : get_or s.words.busy j 0 ≢ 2). (k.next, k.other, k.owed, z))
      (λ (z : (get_or s.words.busy j 0 ≡ 2) × (get_or s.lying.busy j None ≡ None)). absurd (job_there d (at_stage c (serves_at (is_relaxed d.mode)) j) s m j f.ready z.0 z.1))
      h
  lead_halts (Releasing j) f at h = releases_on j f at h
  lead_halts GivingChair f at h =
      ⊎_elim
      (λ (z : ⊥). z)
      (λ (z : Unit {0} × (gift_of (actor GivingChair) ≡ None)). chair_gift (processor_at d c.bsp (LeadingAt GivingChair) t) d.processors c.chair refl (at.chair (omega arith)) z.1)
      h
  lead_halts lead f at h = h

-- In a session some actor goes on: the BSP, or a processor for whose report, answer, departure or job it waits.
use Rattle.std.proofs.Common.{ℕ, ◌+◌, ◌*◌, ◌≡◌, ◌≢◌, ◌<◌, ◌≤◌, ◌⊎◌, ⊎_elim, arith, true, eqb, cond, length, get_or, Option, Some, None, refl, sym, ap, subst, ◌∙◌}
use Rattle.std.specs.Prelude.{IsSomeAnd}
use Rattle.std.proofs.lemmas.Bool.{cases_eq, eq-eqb, ne_eqb}
use Rattle.smm_base.specs.declared.status.Status.{Status}
use Rattle.cpu_table.specs.Data.{SetupData}
use Rattle.handler_ops.specs.declared.desk.Job.{Job}
use Rattle.handler_ops.specs.Course.{has_job}
use Rattle.cpu_program.specs.Actors.{Actor}
use Rattle.cpu_program.specs.Processors.{is_relaxed}
use Rattle.rendezvous_core.specs.Worlds.{World, step, step_of, turn, MakesNoEvent}
use Rattle.rendezvous_machine.specs.Machines.{Machine, member}
use Rattle.schedule_laws.proofs.Scenes.{Scene, Seat, Position, Lead, AwaitingReports, AtHandlers, Collecting, AwaitingReleased, AwaitingDismissed, AwaitingSmi, SeekingBsp, AwaitingRelease, AwaitingDismissal, AwaitingEnd, Away, Leading as LeadingAt, seat, processor_of, part_at, world_of, seat_get}
use Rattle.schedule_laws.proofs.Stations.{Station, station_of, is_bsp, work_of, work_done, member_of, here_of, made, low}
use Rattle.schedule_laws.proofs.Stations as stations
use Rattle.schedule_laws.proofs.Leads.{stage_in, next_of, serves_at}
use Rattle.schedule_laws.proofs.Sums.{sum_below, sum_below-le, sum_below-change, sum_below-scale}
use Rattle.schedule_laws.proofs.Invariant.{Context, View, IsTeam, IsPeer, IsRunOf, IsAt, Holds, view, team_in, raised_in, serves_from, mode_of, is_owed, seat_known}
use Rattle.schedule_laws.proofs.Owes.{owed_from}
use Rattle.schedule_laws.proofs.LeadFrames.{at_stage}
use Rattle.schedule_laws.proofs.HandlerPlaces.{serves_is}
use Rattle.schedule_laws.proofs.HandlerLandings.{serves_low}
use Rattle.ending_laws.proofs.Waits.{turned_idle, idle_waits}
use Rattle.ending_laws.proofs.Halts.{Halts, WaitsAt, HasHalted, halts, halted}
use Rattle.ending_laws.proofs.Leaders.{AwaitsJob, LeadHalts, led, lead_halts}
use Rattle.ending_laws.proofs.Parts.{class_of}
use Rattle.ending_laws.proofs.Steady.{IsSteady}
use Rattle.ending_laws.proofs.Steps.{class_is}

-- no processor makes an event
abbrev pub AllWait : SetupData → World → Type 0
AllWait d w = (i : ℕ) → i ≤ d.processors → MakesNoEvent (step w i).0

pub seat_waits : (d : SetupData) (s : Scene) (i : ℕ) → i < length s.seats → MakesNoEvent (step (world_of d s) i).0 → WaitsAt d s i (seat s i) (seat s i).position
seat_waits d s i l h =
    let idle : MakesNoEvent (step_of (world_of d s) i (Some (processor_of d i (seat s i)))).0 = subst (λ (o : Option Actor). MakesNoEvent (step_of (world_of d s) i o).0) (seat_get d s i l) h in
    idle_waits s.words s.lying i (processor_of d i (seat s i)) (turned_idle (world_of d s) i (turn s.words s.lying i (processor_of d i (seat s i))) idle)

pub seat_halts : (d : SetupData) (c : Context) (s : Scene) (m : Machine) (i : ℕ) → Holds d c s m → i < d.processors → AllWait d (world_of d s) → Halts d s i (seat s i).position
seat_halts d c s m i f l h =
    halts d c i s m (seat s i) (seat s i).position f l refl refl (seat_waits d s i (rw f.ready.sized.seats l) (h i (omega (arith, l))))

-- THE BSP'S OWN WORD

abbrev IsOut : ℕ → Station → Type 0
IsOut n r = (member_of r ≡ 0) × (made n r ≡ 3 * n)

abbrev IsStill : ℕ → ℕ → Station → Type 0
IsStill n run r = (run ≡ 0) × (member_of r ≡ 1) × (((made n r ≡ 1) × (low n r ≡ 0)) ⊎ ((made n r ≡ 2) × (low n r ≡ 1)))

-- what another processor that halts has made, at the three waits of the BSP
lags_reports : (c : Context) (j run : ℕ) (v : View) → c.stage ≡ 10 → v.team ≤ 1 → IsTeam c j v → HasHalted v.departed run v.station → 1 * v.team ≤ made v.departed v.station
lags_reports c j run v st tb t x =
    let a = t.team (omega (arith, st)) in
    ⊎_elim
    (λ (z : IsOut v.departed v.station). let z0 = z.0 in let z1 = z.1 in omega arith)
    (λ (z : IsStill v.departed run v.station).
    ⊎_elim
    (λ (y : (made v.departed v.station ≡ 1) × (low v.departed v.station ≡ 0)). let y0 = y.0 in omega arith)
    (λ (y : (made v.departed v.station ≡ 2) × (low v.departed v.station ≡ 1)). let y0 = y.0 in omega arith)
    z.2)
    x

lags_answers : (c : Context) (j run : ℕ) (v : View) → c.stage ≡ 16 → v.team ≤ 1 → IsTeam c j v → IsPeer c j v → IsRunOf c j v run → HasHalted v.departed run v.station
    → 2 * v.team ≤ made v.departed v.station
lags_answers c j run v st tb t h k x =
    let a = t.team (omega (arith, st)) in
    let w = t.idle_after (omega (arith, st)) in
    let b = k.upto (omega (arith, st)) (λ z. omega (arith, w, z)) in
    let e = h.released (omega (arith, st)) in
    ⊎_elim
    (λ (z : IsOut v.departed v.station). let z0 = z.0 in let z1 = z.1 in omega arith)
    (λ (z : IsStill v.departed run v.station).
    let z0 = z.0 in
    ⊎_elim
    (λ (y : (made v.departed v.station ≡ 1) × (low v.departed v.station ≡ 0)). let y0 = y.0 in let y1 = y.1 in omega arith)
    (λ (y : (made v.departed v.station ≡ 2) × (low v.departed v.station ≡ 1)). let y0 = y.0 in omega arith)
    z.2)
    x

lags_ends : (c : Context) (j run : ℕ) (v : View) → c.stage ≡ 18 → v.team ≤ 1 → IsTeam c j v → IsRunOf c j v run → HasHalted v.departed run v.station → 3 * v.team ≤ made v.departed v.station
lags_ends c j run v st tb t k x =
    let a = t.team (omega (arith, st)) in
    let b = k.late (omega (arith, st)) in
    ⊎_elim
    (λ (z : IsOut v.departed v.station). let z0 = z.0 in let z1 = z.1 in omega arith)
    (λ (z : IsStill v.departed run v.station).
    let z0 = z.0 in
    ⊎_elim
    (λ (y : (made v.departed v.station ≡ 1) × (low v.departed v.station ≡ 0)). let y0 = y.0 in let y1 = y.1 in omega arith)
    (λ (y : (made v.departed v.station ≡ 2) × (low v.departed v.station ≡ 1)). let y0 = y.0 in let y1 = y.1 in omega arith)
    z.2)
    x

-- where each other processor has made as much as the BSP waits for, the sum is all that it waits for
lagging : (n i k : ℕ) (V : ℕ → View) → i < n → (V i).team ≡ 1 → made (V i).departed (V i).station ≡ 0 → ((j : ℕ) → j < n → j ≢ i → k * (V j).team ≤ made (V j).departed (V j).station)
    → k * team_in n V ≤ raised_in n V + k
lagging n i k V l t z h =
    let F : ℕ → ℕ = λ j. made (V j).departed (V j).station in
    let G : ℕ → ℕ = λ j. k * (V j).team in
    let H : ℕ → ℕ = λ j. cond (eqb j i) (G j) (F j) in
    let at : H i ≡ G i = rw (eq-eqb i i refl) refl in
    let off : (j : ℕ) → j ≢ i → H j ≡ F j = (λ j d. rw (ne_eqb j i d) refl) in
    let change : sum_below n F + H i ≡ sum_below n H + F i = sum_below-change n H F i l (λ j g d. off j d) in
    let le : sum_below n G ≤ sum_below n H =
    sum_below-le n G H (λ j g. ⊎_elim (λ (q : j ≡ i). subst (λ (x : ℕ). G x ≤ H x) (sym q) (omega arith)) (λ (q : j ≢ i). let x = off j q in let y = h j g q in omega arith) (cases_eq j i)) in
    let scale : sum_below n G ≡ k * team_in n V = sum_below-scale n k (λ j. (V j).team) in
    let gi : G i ≡ k = ap (λ x. k * x) t ∙ (omega arith) in
    omega arith

module _ (d : SetupData) (c : Context) (s : Scene) (m : Machine) (f : Holds d c s m) (h : AllWait d (world_of d s)) where
  abbrev V : ℕ → View
  V = view s m

  -- another processor halts, while `bsp` names the BSP
  peer_halts : 1 ≤ c.stage → c.stage ≤ 19 → (j : ℕ) → j < d.processors → j ≢ c.bsp → HasHalted (V j).departed (get_or s.words.run j 0) (V j).station
  peer_halts some few j l q =
      let g = f.ready in
      let taken = g.words.bsp_taken some few in
      let there = g.words.some_bsp some in
      halted d s j (V j).departed (seat s j).position (seat_halts d c s m j f l h) (omega (arith, taken, there)) ((g.each j l).peer q).station

  -- the BSP is in the closed set and has made nothing
  sum_is : (k : ℕ) → 10 ≤ c.stage → ((j : ℕ) → j < d.processors → j ≢ c.bsp → k * (V j).team ≤ made (V j).departed (V j).station)
      → k * team_in d.processors V ≤ raised_in d.processors V + k
  sum_is k st all =
      let g = f.ready in
      let l : c.bsp < d.processors = g.words.some_bsp (omega (arith, st)) in
      let own = g.each c.bsp l in
      let b = own.leader refl in
      let t = own.team.team st in
      let e : member_of (V c.bsp).station ≡ 1 = ap member_of b.station in
      let gone = b.departed in
      let none : made (V c.bsp).departed (V c.bsp).station ≡ 0 = ap (made (V c.bsp).departed) b.station in
      lagging d.processors c.bsp k V l (omega (arith, e, t, gone)) none all

  reports_come : c.stage ≡ 10 → get_or s.words.run c.bsp 0 ≡ 0 → ⊥
  reports_come st z =
      let g = f.ready in
      let t = g.totals.run_reports st in
      let t0 = t.0 in
      let t2 = t.2 in
      let u = g.totals.peers (omega (arith, st)) in
      let sum = sum_is 1 (omega (arith, st)) (λ j l q. lags_reports c j (get_or s.words.run j 0) (V j) st (g.each j l).self.team_bit (g.each j l).team (peer_halts (omega (arith, st)) (omega (arith, st)) j l q)) in
      omega arith

  answers_come : c.stage ≡ 16 → get_or s.words.run c.bsp 0 ≡ 0 → ⊥
  answers_come st z =
      let g = f.ready in
      let t = g.totals.run_answers st in
      let t0 = t.0 in
      let t2 = t.2 in
      let u = g.totals.peers (omega (arith, st)) in
      let sum = sum_is 2 (omega (arith, st)) (λ j l q. lags_answers c j (get_or s.words.run j 0) (V j) st (g.each j l).self.team_bit (g.each j l).team ((g.each j l).peer q) (g.runs j l q) (peer_halts (omega (arith, st)) (omega (arith, st)) j l q)) in
      omega arith

  departures_come : c.stage ≡ 18 → get_or s.words.run c.bsp 0 ≡ 0 → ⊥
  departures_come st z =
      let g = f.ready in
      let t = g.totals.run_ends st in
      let t0 = t.0 in
      let t2 = t.2 in
      let u = g.totals.peers (omega (arith, st)) in
      let sum = sum_is 3 (omega (arith, st)) (λ j l q. lags_ends c j (get_or s.words.run j 0) (V j) st (g.each j l).self.team_bit (g.each j l).team (g.runs j l q) (peer_halts (omega (arith, st)) (omega (arith, st)) j l q)) in
      omega arith

-- A JOB THAT IS AWAITED

some_work : (o : Option Job) (P : Job → Type 0) → IsSomeAnd o P → 1 ≤ work_of o
some_work None P h = absurd h
some_work (Some job) P h = done_work job.done
  where
    done_work : (o : Option (ℕ × Status)) → 1 ≤ work_done o
    done_work None = omega arith
    done_work (Some answer) = omega arith

-- one that is there, was given a job and wasn't released doesn't halt
works : (d : SetupData) (s : Scene) (j n : ℕ) (t : Seat) (at : Position) → Halts d s j at → is_bsp (station_of at) ≡ 0 → here_of (station_of at) ≡ 1
    → get_or s.words.run j 0 + low n (station_of at) ≡ 1 → class_of (part_at d j at t) ≢ 2 → ⊥
works d s j n t AwaitingSmi h b e r k = omega (arith, e)
works d s j n t (SeekingBsp seen) h b e r k = omega (arith, e)
works d s j n t AwaitingRelease h b e r k = omega (arith, h, r)
works d s j n t AwaitingDismissal h b e r k = k refl
works d s j n t AwaitingEnd h b e r k = omega (arith, e)
works d s j n t Away h b e r k = omega (arith, e)
works d s j n t (LeadingAt lead) h b e r k = omega (arith, b)
works d s j n t _ h b e r k = h

module _ (d : SetupData) (c : Context) (s : Scene) (m : Machine) (f : Holds d c s m) (k : IsSteady d (world_of d s)) (h : AllWait d (world_of d s)) where
  -- the BSP is at the handlers, or collects
  job_comes : c.stage ≡ serves_from (mode_of d) → class_of (part_at d c.bsp (seat s c.bsp).position (seat s c.bsp)) ≡ 1 → (x : ℕ) → c.next ≤ x → AwaitsJob d c s x → ⊥
  job_comes st serves x from w =
      let g = f.ready in
      let l : x < d.processors = w.0 in
      let n : x ≢ c.bsp = w.1 in
      let owed : is_owed c x ≡ true = owed_from c.next x (has_job (seat_known c x)) from ∙ w.2 in
      let v : View = view s m x in
      let own = g.each x l in
      let some : 1 ≤ v.work = some_work (member m x).job _ ((g.jobs x l n).given st owed) in
      let most = own.self.work_le in
      let one : v.work ≡ 1 = ⊎_elim (λ (z : v.work ≡ 2). absurd (w.3 ((g.busies x l).ran z))) (λ (z : v.work ≢ 2). omega (arith, some, most, z)) (cases_eq v.work 2) in
      let two = own.self.worker some in
      let here : here_of v.station ≡ 1 =
      ⊎_elim (λ (z : here_of v.station ≡ 0). let y = own.self.absent z in absurd (omega (arith, two, y))) (λ (z : here_of v.station ≢ 0). let y = stations.here_of-le v.station in omega (arith, y, z)) (cases_eq (here_of v.station) 0) in
      let inside : x < length s.seats = rw g.sized.seats l in
      let there : c.bsp < d.processors = g.words.some_bsp (let a = serves_low (is_relaxed d.mode) in let b = serves_is (is_relaxed d.mode) in omega (arith, st, a, b)) in
      let bsp_in : c.bsp < length s.seats = rw g.sized.seats there in
      let stays : class_of (part_at d x (seat s x).position (seat s x)) ≢ 2 =
      (λ z. k.staying c.bsp x there l (class_is d s c.bsp bsp_in ∙ serves) (class_is d s x inside ∙ z)) in
      works d s x v.departed (seat s x) (seat s x).position (seat_halts d c s m x f l h) (own.peer n).station here ((g.runs x l n).lent one) stays

-- THE SESSION GOES ON

module _ (d : SetupData) (c : Context) (s : Scene) (m : Machine) (k : IsSteady d (world_of d s)) (h : AllWait d (world_of d s)) where
  serving : (n : ℕ) (lead : Lead) → class_of (part_at d c.bsp (LeadingAt lead) (seat s c.bsp)) ≡ 1 → Holds d (at_stage c (serves_at (is_relaxed d.mode)) n) s m
      → (seat s c.bsp).position ≡ LeadingAt lead → (x : ℕ) → n ≤ x → AwaitsJob d c s x → ⊥
  serving n lead one f q x from w =
      job_comes d (at_stage c (serves_at (is_relaxed d.mode)) n) s m f k h (serves_is (is_relaxed d.mode)) (ap (λ (p : Position). class_of (part_at d c.bsp p (seat s c.bsp))) q ∙ one) x from w

  lead_comes : (lead : Lead) → Holds d (at_stage c (stage_in lead (is_relaxed d.mode)) (next_of lead)) s m → (seat s c.bsp).position ≡ LeadingAt lead → LeadHalts d c s lead → ⊥
  lead_comes (AwaitingReports left) f q x = reports_come d (at_stage c 10 left) s m f h refl x
  lead_comes (AwaitingReleased left) f q x = answers_come d (at_stage c 16 left) s m f h refl x
  lead_comes (AwaitingDismissed left) f q x = departures_come d (at_stage c 18 left) s m f h refl x
  lead_comes AtHandlers f q x = serving 0 AtHandlers refl f q x.0 (omega arith) x.1
  lead_comes (Collecting j) f q x = serving j (Collecting j) refl f q j (omega arith) x
  lead_comes _ f q x = x

pub session_goes_on : (d : SetupData) (c : Context) (s : Scene) (m : Machine) → Holds d c s m → IsSteady d (world_of d s) → 1 ≤ c.stage → AllWait d (world_of d s) → ⊥
session_goes_on d c s m f k st h =
    let l : c.bsp < d.processors = f.ready.words.some_bsp st in
    let at : IsAt d c m.registrations m.pool (seat s c.bsp) = f.at st in
    let lead : Lead = at.lead in
    let waits : WaitsAt d s c.bsp (seat s c.bsp) (LeadingAt lead) =
    subst (λ (p : Position). WaitsAt d s c.bsp (seat s c.bsp) p) at.position (seat_waits d s c.bsp (rw f.ready.sized.seats l) (h c.bsp (omega (arith, l)))) in
    led d c c.bsp s m (seat s c.bsp) lead (λ _. ⊥) f l refl at.position
    (λ g e is. lead_comes d c s m k h lead g at.position (lead_halts d c s m (seat s c.bsp) lead g is waits))

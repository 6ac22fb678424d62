-- What a further stage of a closed session leaves as it is, and the waits of its BSP.
use Rattle.std.proofs.Common.{ℕ, ◌+◌, ◌-◌, ◌*◌, ◌≡◌, ◌≢◌, ◌<◌, ◌≤◌, arith, List, length, get_or, slice_set, Option, Some, None, refl, sym, ap, subst, ⊎_elim, ◌∙◌}
use Rattle.std.specs.Prelude.{is_some}
use Rattle.std.proofs.lemmas.Bool.{cases_eq, ne_eqb}
use Rattle.std.proofs.lemmas.List.{get_or-set_other, get_or-set_same, length-set}
use Rattle.cpu_table.specs.Data.{SetupData}
use Rattle.handler_registry.specs.Registrations.{Registrations}
use Rattle.smram_pool.specs.State.{PoolState}
use Rattle.handler_ops.specs.declared.desk.Desk.{Desk}
use Rattle.rendezvous_machine.specs.declared.phase.Phase.TheVariants.{Here}
use Rattle.rendezvous_machine.specs.Machines.{Machine, member, is_counted_phase, AllReported, AllCollected}
use Rattle.schedule_laws.proofs.Scenes.{Scene, seat}
use Rattle.schedule_laws.proofs.Stations as station
use Rattle.schedule_laws.proofs.Stations.{Station, bit, member_of, member_is, here_of, out_of, phase_of, made, is_reported}
use Rattle.schedule_laws.proofs.Sums.{sum_below, sum_below-two_gaps, sum_below-zero}
use Rattle.schedule_laws.proofs.Invariant.{Context, View, IsTeam, IsPeer, IsCpu, IsTotals, IsWords, IsSession, IsCourse, IsSized, IsReady, IsRunOf, Globe, begins_from, serves_from, mode_of, globe, sizes, desk_kept, desk_at, view, members_in, team_in, raised_in}
use Rattle.schedule_laws.proofs.Frames.{mode_le}
use Rattle.schedule_laws.proofs.LeadFrames.{at_stage, all_made}
use Rattle.schedule_laws.proofs.SessionFrames.{reframe, resting_job, idle_same}
use Rattle.schedule_laws.proofs.Works.{no_job}

-- STAGES

pub words_at : (d : SetupData) (c : Context) (k x k' x' : ℕ) (g : Globe) → 10 ≤ k → k ≤ k' → k' ≤ 19 → (15 ≤ k' → 15 ≤ k) → IsWords d (at_stage c k x) g
    → IsWords d (at_stage c k' x') g
words_at d c k x k' x' g a b e r h =
    record {
      some_bsp = λ _. h.some_bsp (omega arith);
      no_bsp = λ z. absurd (omega arith);
      bsp_before = λ z. absurd (omega arith);
      bsp_taken = λ _ _. h.bsp_taken (omega arith) (omega arith);
      bsp_free = λ z. absurd (omega arith);
      leads = λ _. h.leads (omega arith);
      inside_before = λ z. absurd (omega arith);
      inside = λ _ y. h.inside (omega arith) (omega arith);
      inside_after = λ z. h.inside_after (r z);
      insync_before = λ z. absurd (omega arith);
      insync = λ _ _. h.insync (omega arith) (omega arith);
      insync_after = λ z. absurd (omega arith);
      chair_before = λ z. absurd (omega arith);
      chair = λ _ _. h.chair (omega arith) (omega arith);
      chair_after = λ z. absurd (omega arith);
      source = h.source;
      except = h.except;
      no_session = λ z. absurd (omega arith);
      session = λ _. h.session (omega arith);
    }

pub session_at : (mode : ℕ) (c : Context) (k x k' x' : ℕ) → 10 ≤ k → k ≤ k' → (15 ≤ k' → 15 ≤ k) → IsSession mode (at_stage c k x) → IsSession mode (at_stage c k' x')
session_at mode c k x k' x' a b r h =
    record {
      bsp = λ _. h.bsp (omega arith);
      unserved = λ z. absurd (omega arith);
      served = λ _. h.served (omega arith);
      ungathered = λ z. absurd (omega arith);
      gathered = λ y _. h.gathered y (omega arith);
      unready = λ z. absurd (omega arith);
      fresh = λ z. absurd (omega arith);
      expired = λ y u z. absurd (omega arith);
      waited = λ y _. h.waited y (omega arith);
      unclosed = λ z. absurd (omega arith);
      closed = λ _. h.closed (omega arith);
      unbegun = λ z. h.unbegun (omega arith);
      undone = λ z. h.undone (omega arith);
      done = λ z. h.done (r z);
    }

-- the state of serving, where a further stage is on the same side of the handlers
pub course_at : (d : SetupData) (c : Context) (k x k' x' : ℕ) (registrations : Registrations) (pool : PoolState) → k ≤ k' → (begins_from (mode_of d) ≤ k' → begins_from (mode_of d) ≤ k)
    → (serves_from (mode_of d) < k' → serves_from (mode_of d) < k) → k' ≢ serves_from (mode_of d) → IsCourse d (at_stage c k x) registrations pool → IsCourse d (at_stage c k' x') registrations pool
course_at d c k x k' x' registrations pool a b e n h =
    record {
      setup = h.setup;
      size = h.size;
      registered = λ z. h.registered (omega arith);
      pooled = λ z. h.pooled (omega arith);
      me = λ z. h.me (b z);
      led = λ z. h.led (let y = e (omega arith) in omega arith);
      listed = λ z. h.listed (let y = e (omega arith) in omega arith);
      over = λ z. h.over (e z);
    }

-- after the handlers
pub course_late : (d : SetupData) (c : Context) (k x k' x' : ℕ) (registrations : Registrations) (pool : PoolState) → 14 ≤ k → k ≤ k' → IsCourse d (at_stage c k x) registrations pool
    → IsCourse d (at_stage c k' x') registrations pool
course_late d c k x k' x' registrations pool a b h =
    course_at d c k x k' x' registrations pool b (λ z. omega arith) (λ z. omega arith) (λ z. absurd (omega arith)) h

apart : (d : SetupData) (k : ℕ) → 10 ≤ k → k ≢ 13 → k ≢ serves_from (mode_of d)
apart d k a n z = let mode = mode_le d in n (omega arith)

sized_at : (d : SetupData) (c : Context) (k x k' x' : ℕ) (s : Scene) (m : Machine) (run : List ℕ) → 1 ≤ k → length run ≡ length s.words.run → IsSized d (at_stage c k x) (sizes s m)
    → IsSized d (at_stage c k' x') (sizes (record s { words = record s.words { run = run } }) m)
sized_at d c k x k' x' s m run a e z =
    record { seats = z.seats; pend = z.pend; present = z.present; run = e ∙ z.run; busy = z.busy; on_present = z.on_present; on_run = z.on_run; on_busy = z.on_busy; members = z.members; held = λ _. z.held a }

-- A further stage, with other numbers on the words `run`, which the AP don't see in their views.
pub further : (d : SetupData) (c : Context) (k x k' x' : ℕ) (s : Scene) (m : Machine) (run : List ℕ) → IsReady d (at_stage c k x) s m → length run ≡ length s.words.run → 10 ≤ k → k ≤ k'
    → k' ≢ 13 → (15 ≤ k' → 15 ≤ k) → IsWords d (at_stage c k' x') (globe s m) → IsCourse d (at_stage c k' x') m.registrations m.pool
    → IsTotals (at_stage c k' x') s.words.counter (get_or run c.bsp 0) (members_in d.processors (view s m)) (team_in d.processors (view s m)) (raised_in d.processors (view s m))
    → ((j : ℕ) → j < d.processors → IsCpu d (at_stage c k x) m.waves j (view s m j) → IsCpu d (at_stage c k' x') m.waves j (view s m j))
    → ((j : ℕ) → j < d.processors → j ≢ c.bsp → IsCpu d (at_stage c k x) m.waves j (view s m j) → IsRunOf (at_stage c k x) j (view s m j) (get_or s.words.run j 0) → IsRunOf (at_stage c k' x') j (view s m j) (get_or run j 0))
    → IsReady d (at_stage c k' x') (record s { words = record s.words { run = run } }) m
further d c k x k' x' s m run g e a b n r words course totals each runs =
    reframe d (at_stage c k x) (at_stage c k' x') s (record s { words = record s.words { run = run } }) m m g refl refl g.chipset refl g.signals g.busies
    (sized_at d c k x k' x' s m run (omega arith) e g.sized) words (session_at (mode_of d) c k x k' x' a b r g.session) course totals
    (λ j l. each j l (g.each j l))
    (λ j l q. runs j l q (g.each j l) (g.runs j l q))
    (λ j l q. resting_job d (at_stage c k x) (at_stage c k' x') j (member m j).job (apart d k' (omega arith) n) (g.jobs j l q))
    (λ j l q. idle_same d (at_stage c k x) (at_stage c k' x') j (seat s j) refl (g.idle j l q))

-- a further stage alone
pub advance : (d : SetupData) (c : Context) (k x k' x' : ℕ) (s : Scene) (m : Machine) → IsReady d (at_stage c k x) s m → 10 ≤ k → k ≤ k' → k' ≢ 13 → (15 ≤ k' → 15 ≤ k)
    → IsWords d (at_stage c k' x') (globe s m) → IsCourse d (at_stage c k' x') m.registrations m.pool
    → (IsTotals (at_stage c k x) s.words.counter (get_or s.words.run c.bsp 0) (members_in d.processors (view s m)) (team_in d.processors (view s m)) (raised_in d.processors (view s m))
    → IsTotals (at_stage c k' x') s.words.counter (get_or s.words.run c.bsp 0) (members_in d.processors (view s m)) (team_in d.processors (view s m)) (raised_in d.processors (view s m)))
    → ((j : ℕ) → j < d.processors → IsCpu d (at_stage c k x) m.waves j (view s m j) → IsCpu d (at_stage c k' x') m.waves j (view s m j))
    → ((j : ℕ) → j < d.processors → j ≢ c.bsp → IsCpu d (at_stage c k x) m.waves j (view s m j) → IsRunOf (at_stage c k x) j (view s m j) (get_or s.words.run j 0) → IsRunOf (at_stage c k' x') j (view s m j) (get_or s.words.run j 0))
    → IsReady d (at_stage c k' x') s m
advance d c k x k' x' s m g a b n r words course totals each runs =
    further d c k x k' x' s m s.words.run g refl a b n r words course (totals g.totals) each runs

-- the BSP lowers its word
pub lowered : (d : SetupData) (c : Context) (k x k' x' : ℕ) (s : Scene) (m : Machine) → IsReady d (at_stage c k x) s m → 10 ≤ k → k ≤ k' → k' ≢ 13 → (15 ≤ k' → 15 ≤ k)
    → IsWords d (at_stage c k' x') (globe s m) → IsCourse d (at_stage c k' x') m.registrations m.pool
    → IsTotals (at_stage c k' x') s.words.counter (get_or s.words.run c.bsp 0 - 1) (members_in d.processors (view s m)) (team_in d.processors (view s m)) (raised_in d.processors (view s m))
    → ((j : ℕ) → j < d.processors → IsCpu d (at_stage c k x) m.waves j (view s m j) → IsCpu d (at_stage c k' x') m.waves j (view s m j))
    → ((j : ℕ) → j < d.processors → j ≢ c.bsp → IsCpu d (at_stage c k x) m.waves j (view s m j) → IsRunOf (at_stage c k x) j (view s m j) (get_or s.words.run j 0) → IsRunOf (at_stage c k' x') j (view s m j) (get_or s.words.run j 0))
    → IsReady d (at_stage c k' x') (record s { words = record s.words { run = slice_set s.words.run c.bsp (get_or s.words.run c.bsp 0 - 1) } }) m
lowered d c k x k' x' s m g a b n r words course totals each runs =
    let y : ℕ = get_or s.words.run c.bsp 0 - 1 in
    let l : c.bsp < length s.words.run = rw g.sized.run (g.words.some_bsp (omega arith)) in
    further d c k x k' x' s m (slice_set s.words.run c.bsp y) g (length-set s.words.run c.bsp y) a b n r words course
    (rw (get_or-set_same s.words.run c.bsp y 0 l) totals)
    each
    (λ j t q u v. rw (get_or-set_other s.words.run c.bsp j y 0 q) (runs j t q u v))

-- THE CLOSED SET

-- the BSP is in it and raises nothing
pub bsp_team : (d : SetupData) (c : Context) (s : Scene) (m : Machine) → IsReady d c s m → 10 ≤ c.stage
    → ((view s m c.bsp).team ≡ 1) × (made (view s m c.bsp).departed (view s m c.bsp).station ≡ 0)
bsp_team d c s m g st =
    let v : View = view s m c.bsp in
    let own = g.each c.bsp (g.words.some_bsp (omega arith)) in
    let h = own.leader refl in
    (team v h.station h.departed (own.team.team st), ap (made v.departed) h.station)
  where
    team : (v : View) → v.station ≡ station.Leading → v.departed ≡ 0 → member_of v.station + v.departed ≡ v.team → v.team ≡ 1
    team v r z t = let y : member_of v.station ≡ 1 = ap member_of r in omega arith

-- it is the BSP alone
pub alone : (d : SetupData) (c : Context) (s : Scene) (m : Machine) → IsReady d c s m → 10 ≤ c.stage → c.peers ≡ 0 → (j : ℕ) → j < d.processors → j ≢ c.bsp → (view s m j).team ≡ 0
alone d c s m g st z j l q =
    let n : ℕ = d.processors in
    let F : ℕ → ℕ = λ _. 0 in
    let G : ℕ → ℕ = λ x. (view s m x).team in
    let gaps : sum_below n F + G c.bsp + G j ≤ sum_below n G + F c.bsp + F j = sum_below-two_gaps n F G c.bsp j (g.words.some_bsp (omega arith)) l (λ y. q (sym y)) (λ _ _. omega arith) in
    let e : sum_below n F ≡ 0 = sum_below-zero n F (λ _ _. refl) in
    let t = (bsp_team d c s m g st).0 in
    let u = g.totals.peers st in
    omega arith

-- where the last wait of a round is over, each of the closed set has raised the BSP's word in it
pub round_over : (d : SetupData) (c : Context) (s : Scene) (m : Machine) (k : ℕ) → IsReady d c s m → 10 ≤ c.stage
    → ((j : ℕ) → j < d.processors → j ≢ c.bsp → made (view s m j).departed (view s m j).station ≤ k * (member_of (view s m j).station + (view s m j).departed))
    → k * team_in d.processors (view s m) ≤ raised_in d.processors (view s m) + k → (j : ℕ) → j < d.processors → j ≢ c.bsp
    → k * (view s m j).team ≤ made (view s m j).departed (view s m j).station
round_over d c s m k g st le sum j l q =
    let V : ℕ → View = view s m in
    let b = bsp_team d c s m g st in
    all_made d.processors c.bsp k V (g.words.some_bsp (omega arith)) b.0 b.1
    (λ x u.
    ⊎_elim
    (λ (z : x ≡ c.bsp). subst (λ (a : ℕ). made (V a).departed (V a).station ≤ k * (V a).team) (sym z) (rw b.1 (omega arith)))
    (λ (z : x ≢ c.bsp). subst (λ (t : ℕ). made (V x).departed (V x).station ≤ k * t) ((g.each x u).team.team st) (le x u z))
    (cases_eq x c.bsp))
    sum j l q

-- ONE THAT HAS REPORTED

here_member : (r : Station) → here_of r ≤ member_of r
here_member station.AwaitingSmi = omega arith
here_member station.SwitchingOff = omega arith
here_member station.LookingAtSource = omega arith
here_member station.LookingInside = omega arith
here_member station.CountingIn = omega arith
here_member station.ClaimingChair = omega arith
here_member station.AskingForChair = omega arith
here_member station.Leading = omega arith
here_member station.AwaitingInside = omega arith
here_member station.FindingBsp = omega arith
here_member station.SignallingBsp = omega arith
here_member station.AwaitingInsideAgain = omega arith
here_member station.CountingOut = omega arith
here_member station.SeekingBsp = omega arith
here_member station.Reporting = omega arith
here_member station.TellingReport = omega arith
here_member station.AwaitingRelease = omega arith
here_member station.GivingBack = omega arith
here_member station.TellingRelease = omega arith
here_member station.AwaitingDismissal = omega arith
here_member station.Withdrawing = omega arith
here_member station.TellingDismissal = omega arith
here_member station.AwaitingEnd = omega arith
here_member station.ClearingSignal = omega arith
here_member station.Away = omega arith

-- one of the closed set that isn't released and has no job is there without its desk, and its word isn't raised
pub has_reported : (c : Context) (j r : ℕ) (v : View) → 11 ≤ c.stage → c.stage ≤ 16 → v.work ≡ 0 → v.released ≡ 0 → 1 ≤ v.team → v.team ≤ 1 → IsTeam c j v → IsPeer c j v
    → IsRunOf c j v r → (here_of v.station ≡ 1) × (out_of v.station ≡ 1) × (phase_of v.station ≡ Here) × (r ≡ 0)
has_reported c j r v a b wk un some t h g q =
    let told = g.told a in
    let up = q.upto b (λ y. absurd (omega arith)) in
    let there = is_reported v.departed v.station (omega arith) (omega arith) in
    (there.0, there.1, there.2, omega arith)

-- every member but the BSP has reported, where none has a job
pub all_reported : (d : SetupData) (c : Context) (s : Scene) (m : Machine) → IsReady d c s m → 11 ≤ c.stage → c.stage ≤ 14
    → ((j : ℕ) → j < d.processors → (view s m j).work ≡ 0) → AllReported m c.bsp
all_reported d c s m g a b idle =
    λ j l q h.
    let y = g.sized.members in
    let l' : j < d.processors = omega arith in
    let v : View = view s m j in
    let own = g.each j l' in
    let one : member_of v.station ≡ 1 = sym (member_is v.station) ∙ ap (λ z. bit (is_counted_phase z)) (sym own.self.phase) ∙ ap bit h in
    let team = own.team.team (omega arith) in
    let there = has_reported c j (get_or s.words.run j 0) v a (omega arith) (idle j l') (own.team.unreleased b) (omega arith) own.self.team_bit own.team (own.peer q) (g.runs j l' q) in
    own.self.phase ∙ there.2

pub all_collected : (d : SetupData) (c : Context) (s : Scene) (m : Machine) → IsReady d c s m → ((j : ℕ) → j < d.processors → (view s m j).work ≡ 0) → AllCollected m
all_collected d c s m g idle = λ j l. let y = g.sized.members in no_job (member m j).job (idle j (omega arith))

pub kept_is : (c : Context) (j : ℕ) → j ≢ c.bsp → desk_kept c j ≡ get_or c.held j None
kept_is c j n = rw (ne_eqb j c.bsp n) refl

-- the BSP holds the desk of one of the closed set that it hasn't released, once it has claimed all desks and collected all jobs
pub desk_of_team : (d : SetupData) (c : Context) (waves j r : ℕ) (v : View) → 12 ≤ c.stage → c.stage ≤ 16 → v.work ≡ 0 → v.released ≡ 0 → 1 ≤ v.team → j ≢ c.bsp → IsCpu d c waves j v
    → IsRunOf c j v r → (v.present ≡ 2) × (get_or c.held j None ≡ Some (desk_at v.image None))
desk_of_team d c waves j r v a b wk un some q h k =
    let there = has_reported c j r v (omega arith) b wk un some h.self.team_bit h.team (h.peer q) k in
    let here = h.self.there there.0 in
    let claimed = h.team.claimed a in
    let most = h.self.present_le in
    let two : v.present ≡ 2 = omega arith in
    (two, sym (kept_is c j q) ∙ h.self.held two un wk)

-- and no other desk
pub no_desk_of : (d : SetupData) (c : Context) (waves j : ℕ) (v : View) → 10 ≤ c.stage → v.team ≡ 0 → j ≢ c.bsp → IsCpu d c waves j v → get_or c.held j None ≡ None
no_desk_of d c waves j v a z q h =
    let team = h.team.team a in
    let here = here_member v.station in
    let absent = h.self.absent (omega arith) in
    sym (kept_is c j q) ∙ h.self.not_held (λ y. absurd (omega arith))

pub listed_is : (d : SetupData) (c : Context) (waves j r : ℕ) (v : View) → 12 ≤ c.stage → c.stage ≤ 16 → v.work ≡ 0 → v.released ≡ 0 → j ≢ c.bsp → IsCpu d c waves j v → IsRunOf c j v r
    → bit (is_some (get_or c.held j None)) ≡ v.team
listed_is d c waves j r v a b wk un q h k =
    ⊎_elim
    (λ (z : v.team ≡ 0). ap (λ (o : Option Desk). bit (is_some o)) (no_desk_of d c waves j v (omega arith) z q h) ∙ sym z)
    (λ (z : v.team ≢ 0).
    let t = h.self.team_bit in
    let one : 1 ≡ v.team = omega arith in
    ap (λ (o : Option Desk). bit (is_some o)) ((desk_of_team d c waves j r v a b wk un (omega arith) q h k).1) ∙ one)
    (cases_eq v.team 0)

-- The counter is locked, and with it the session is closed: its members are the closed set.
use Rattle.std.proofs.Common.{ℕ, zero, suc, ◌+◌, ◌-◌, ◌*◌, ◌≡◌, ◌≢◌, ◌<◌, ◌≤◌, ◌⊎◌, arith, List, [], ◌∷◌, get_or, map, Option, None, refl, sym, ap, subst, ⊎_elim, ◌∙◌}
use Rattle.std.proofs.lemmas.List.{length-map}
use Rattle.cpu_table.specs.Data.{SetupData}
use Rattle.handler_ops.specs.declared.desk.Desk.{Desk}
use Rattle.rendezvous_machine.specs.Machines.{Machine, Member, member, nobody, is_counted, is_counted_phase}
use Rattle.rendezvous_machine.specs.Effects.{enclosed, made_closed, with_session}
use Rattle.schedule_laws.proofs.Scenes.{Scene}
use Rattle.schedule_laws.proofs.Stations.{bit, member_of, member_is, made}
use Rattle.schedule_laws.proofs.Sums.{sum_below, sum_below-same, sum_below-two_gaps, sum_below-zero}
use Rattle.schedule_laws.proofs.Invariant.{Context, View, IsCpu, IsSelf, IsTeam, IsPeer, IsRunOf, IsTotals, IsWords, IsSession, IsCourse, IsJobOf, IsBusy, IsSignal, IsReady, globe, locked, members_in, mode_of, raised_in, team_in, view}
use Rattle.schedule_laws.proofs.Frames.{bit-le, mode_le}
use Rattle.schedule_laws.proofs.LeadFrames.{at_stage}
use Rattle.schedule_laws.proofs.Facts.{counted_some}
use Rattle.schedule_laws.proofs.SessionFrames.{resting_job, session_map}

-- the context as the session is closed, with so many APs
abbrev pub closed_context : Context → ℕ → ℕ → ℕ → Context
closed_context c k x peers = record (at_stage c k x) { peers = peers; session = made_closed c.session }

abbrev pub closed_machine : Machine → Machine
closed_machine m = with_session made_closed (record m { members = map enclosed m.members })

abbrev pub locked_scene : Scene → Scene
locked_scene s = record s { words = record s.words { counter = locked } }

-- there are reports to wait for, or none
abbrev pub Waits : ℕ → ℕ → ℕ → Type 0
Waits k x peers = (k ≡ 10) × (x ≡ peers) × (1 ≤ peers) ⊎ (k ≡ 11) × (x ≡ 0) × (peers ≡ 0)

pub enclosed_at : (xs : List Member) (j : ℕ) → get_or (map enclosed xs) j nobody ≡ enclosed (get_or xs j nobody)
enclosed_at [] j = refl
enclosed_at (x ∷ xs) zero = refl
enclosed_at (x ∷ xs) (suc j) = enclosed_at xs j

-- ONE PROCESSOR

lock_self : (d : SetupData) (waves t : ℕ) (at : Option Desk) (v : View) → t ≤ 1 → IsSelf d waves at v → IsSelf d waves at (record v { team = t })
lock_self d waves t at v b h =
    record { phase = h.phase; visits = h.visits; registers = h.registers; last = h.last; kind = h.kind; most = h.most; waiting = h.waiting; through = h.through; inside = h.inside; begun = h.begun; team_bit = b; released_bit = h.released_bit; departed_bit = h.departed_bit; work_le = h.work_le; present_le = h.present_le; absent = h.absent; there = h.there; worker = h.worker; idle_away = h.idle_away; running = h.running; own = h.own; own_job = h.own_job; own_out = h.own_out; on_present = h.on_present; off_present = h.off_present; on_run = h.on_run; on_run_job = h.on_run_job; off_run = h.off_run; off_run_own = h.off_run_own; held = h.held; not_held = h.not_held; given_back = h.given_back; lent = h.lent }

lock_team : (c c' : Context) (j t : ℕ) (v : View) → c.stage ≡ 9 → 10 ≤ c'.stage → c'.stage ≤ 11 → c'.next ≡ 0 ⊎ (c'.stage ≡ 10) → t ≡ member_of v.station → IsTeam c j v
    → IsTeam c' j (record v { team = t })
lock_team c c' j t v a b e x u h =
    let dep = h.departed_open (omega arith) in
    let un = h.unreleased (omega arith) in
    let idle = h.idle_mid (omega arith) (omega arith) in
    record {
      team_open = λ z. absurd (omega arith);
      departed_open = λ z. absurd (omega arith);
      team = λ _. omega arith;
      unreleased = λ _. un;
      idle_early = λ _. idle;
      idle_mid = λ _ _. idle;
      idle_after = λ z. absurd (omega arith);
      unclaimed = λ z. absurd (omega arith);
      claimed_so_far = λ y z. ⊎_elim (λ (q : c'.next ≡ 0). absurd (omega arith)) (λ (q : c'.stage ≡ 10). absurd (omega arith)) x;
      claimed = λ z. absurd (omega arith);
    }

lock_peer : (c c' : Context) (j t : ℕ) (v : View) → c.stage ≡ 9 → 10 ≤ c'.stage → c'.stage ≤ 11 → c'.bsp ≡ c.bsp → (11 ≤ c'.stage → t ≡ 0) → IsPeer c j v
    → IsPeer c' j (record v { team = t })
lock_peer c c' j t v a b e k u h =
    record {
      station = h.station;
      walking = λ _. omega arith;
      knows = λ z. h.knows z ∙ sym k;
      gone = h.gone;
      listed = λ z. absurd (omega arith);
      released_so_far = λ z. absurd (omega arith);
      released_no_more = λ z. absurd (omega arith);
      released = λ z. absurd (omega arith);
      told = λ z. let y = u z in omega arith;
      answered = λ z. absurd (omega arith);
      ended = λ z. absurd (omega arith);
    }

lock_run : (c c' : Context) (j t r : ℕ) (v : View) → c.stage ≡ 9 → c'.stage ≤ 11 → IsRunOf c j v r → IsRunOf c' j (record v { team = t }) r
lock_run c c' j t r v a b h =
    record { upto = λ _ y. h.upto (omega arith) y; lent = h.lent; so_far = λ z. absurd (omega arith); no_more = λ z. absurd (omega arith); late = λ z. absurd (omega arith) }

-- THE SESSION

lock_session : (mode : ℕ) (c : Context) (k x peers : ℕ) → 10 ≤ k → k ≤ 11 → IsSession mode (at_stage c 9 0) → IsSession mode (closed_context c k x peers)
lock_session mode c k x peers a b h =
    record { bsp = λ _. h.bsp (omega arith); unserved = λ z. absurd (omega arith); served = λ _. h.served (omega arith); ungathered = λ z. absurd (omega arith); gathered = λ y _. h.gathered y (omega arith); unready = λ z. absurd (omega arith); fresh = λ z. absurd (omega arith); expired = λ _ _ z. absurd (omega arith); waited = λ y _. h.waited y (omega arith); unclosed = λ z. absurd (omega arith); closed = λ _. refl; unbegun = λ z. h.unbegun (omega arith); undone = λ _. h.undone (omega arith); done = λ z. absurd (omega arith) }

lock_course : (d : SetupData) (c : Context) (k x peers : ℕ) (m : Machine) → 10 ≤ k → k ≤ 11 → IsCourse d (at_stage c 9 0) m.registrations m.pool
    → IsCourse d (closed_context c k x peers) m.registrations m.pool
lock_course d c k x peers m a b h =
    let mode = mode_le d in
    record { setup = h.setup; size = h.size; registered = λ z. h.registered (omega arith); pooled = λ z. h.pooled (omega arith); me = λ z. h.me (omega arith); led = λ z. h.led (omega arith); listed = λ z. h.listed (omega arith); over = λ z. h.over (omega arith) }

lock_words : (d : SetupData) (c : Context) (k x peers : ℕ) (s : Scene) (m : Machine) → 10 ≤ k → k ≤ 11 → IsWords d (at_stage c 9 0) (globe s m)
    → IsWords d (closed_context c k x peers) (globe (locked_scene s) (closed_machine m))
lock_words d c k x peers s m a b h =
    record {
      some_bsp = λ _. h.some_bsp (omega arith);
      no_bsp = λ z. absurd (omega arith);
      bsp_before = λ z. absurd (omega arith);
      bsp_taken = λ _ _. h.bsp_taken (omega arith) (omega arith);
      bsp_free = λ z. absurd (omega arith);
      leads = λ _. h.leads (omega arith);
      inside_before = λ z. absurd (omega arith);
      inside = λ _ _. h.inside (omega arith) (omega arith);
      inside_after = λ z. absurd (omega arith);
      insync_before = λ z. absurd (omega arith);
      insync = λ _ _. h.insync (omega arith) (omega arith);
      insync_after = λ z. absurd (omega arith);
      chair_before = λ z. absurd (omega arith);
      chair = λ _ _. h.chair (omega arith) (omega arith);
      chair_after = λ z. absurd (omega arith);
      source = h.source;
      except = h.except;
      no_session = λ z. absurd (omega arith);
      session = λ _. session_map m.session c.session made_closed (h.session (omega arith));
    }

lock_totals : (c : Context) (k x peers counter run a b e b' e' : ℕ) → Waits k x peers → 1 ≤ counter → peers ≡ counter - 1 → b' ≡ a → e' ≡ e
    → IsTotals (at_stage c 9 0) counter run a b e → IsTotals (closed_context c k x peers) locked run a b' e'
lock_totals c k x peers counter run a b e b' e' alt some is eb ee h =
    let g = h.counted (omega arith) in
    let r = h.run_open (omega arith) (omega arith) in
    ⊎_elim
    (λ (y : (k ≡ 10) × (x ≡ peers) × (1 ≤ peers)).
    let y0 = y.0 in
    let y1 = y.1 in
    let y2 = y.2 in
    record { counted = λ z. absurd (omega arith); counter_locked = λ _. refl; peers = λ _. omega arith; run_open = λ q z. absurd (omega arith); run_reports = λ _. (omega arith, omega arith, omega arith); run_reported = λ q z. absurd (omega arith); run_answers = λ z. absurd (omega arith); run_answered = λ z. absurd (omega arith); run_ends = λ z. absurd (omega arith); run_ended = λ z. absurd (omega arith) })
    (λ (y : (k ≡ 11) × (x ≡ 0) × (peers ≡ 0)).
    let y0 = y.0 in
    let y2 = y.2 in
    record { counted = λ z. absurd (omega arith); counter_locked = λ _. refl; peers = λ _. omega arith; run_open = λ q z. absurd (omega arith); run_reports = λ z. absurd (omega arith); run_reported = λ _ _. omega arith; run_answers = λ z. absurd (omega arith); run_answered = λ z. absurd (omega arith); run_ends = λ z. absurd (omega arith); run_ended = λ z. absurd (omega arith) })
    alt

-- ALL OF IT

pub lock_ready : (d : SetupData) (c : Context) (k x : ℕ) (s : Scene) (m : Machine) → IsReady d (at_stage c 9 0) s m → Waits k x (s.words.counter - 1) → 10 ≤ k → k ≤ 11
    → x ≡ 0 ⊎ (k ≡ 10) → IsReady d (closed_context c k x (s.words.counter - 1)) (locked_scene s) (closed_machine m)
lock_ready d c k x s m g alt ka kb next =
    let n : ℕ = d.processors in
    let peers : ℕ = s.words.counter - 1 in
    let c' : Context = closed_context c k x peers in
    let s' : Scene = locked_scene s in
    let m' : Machine = closed_machine m in
    let V : ℕ → View = view s m in
    let V' : ℕ → View = view s' m' in
    let t : ℕ → ℕ = λ j. bit (is_counted (member m j)) in
    let new : (j : ℕ) → V' j ≡ record (V j) { team = t j } = (λ j. rw (enclosed_at m.members j) refl) in
    let is_t : (j : ℕ) → j < n → t j ≡ member_of (V j).station = (λ j l. ap (λ y. bit (is_counted_phase y)) ((g.each j l).self.phase) ∙ member_is (V j).station) in
    let z = g.sized in
    let mode = mode_le d in
    let lb : c.bsp < n = g.words.some_bsp (omega arith) in
    let own = g.each c.bsp lb in
    let own_member : member_of (V c.bsp).station ≡ 1 = ap member_of ((own.leader refl).station) in
    let some : 1 ≤ s.words.counter = counted_some d (at_stage c 9 0) c.bsp s m g lb (omega arith) own_member in
    let count = g.totals.counted (omega arith) in
    let solo : peers ≡ 0 → (j : ℕ) → j < n → j ≢ c.bsp → t j ≡ 0 =
    (λ y j l q.
    let F : ℕ → ℕ = λ _. 0 in
    let G : ℕ → ℕ = λ i. member_of (V i).station in
    let gaps : sum_below n F + G c.bsp + G j ≤ sum_below n G + F c.bsp + F j = sum_below-two_gaps n F G c.bsp j lb l (λ u. q (sym u)) (λ _ _. omega arith) in
    let e : sum_below n F ≡ 0 = sum_below-zero n F (λ _ _. refl) in
    let u = is_t j l in
    omega arith) in
    record {
      platform = g.platform;
      sized = record { seats = z.seats; pend = z.pend; present = z.present; run = z.run; busy = z.busy; on_present = z.on_present; on_run = z.on_run; on_busy = z.on_busy; members = length-map m.members enclosed ∙ z.members; held = λ _. z.held (omega arith) };
      words = lock_words d c k x peers s m ka kb g.words;
      session = lock_session (mode_of d) c k x peers ka kb g.session;
      course = lock_course d c k x peers m ka kb g.course;
      chipset = g.chipset;
      totals =
          lock_totals c k x peers s.words.counter (get_or s.words.run c.bsp 0) (members_in n V) (team_in n V) (raised_in n V) (team_in n V') (raised_in n V') alt some refl
          (sum_below-same n (λ j. (V' j).team) (λ j. member_of (V j).station) (λ j l. ap (λ (v : View). v.team) (new j) ∙ is_t j l))
          (sum_below-same n (λ j. made (V' j).departed (V' j).station) (λ j. made (V j).departed (V j).station) (λ j l. ap (λ (v : View). made v.departed v.station) (new j)))
          g.totals;
      each = λ j l. subst (λ (v : View). IsCpu d c' m.waves j v) (sym (new j))
          (let h = g.each j l in
          record {
            self = lock_self d m.waves (t j) _ (V j) (bit-le _) h.self;
            team = lock_team (at_stage c 9 0) c' j (t j) (V j) refl ka kb next (is_t j l) h.team;
            leader = λ y. let u = h.leader y in record { station = u.station; released = u.released; departed = u.departed; work = u.work };
            peer = λ y.
                lock_peer (at_stage c 9 0) c' j (t j) (V j) refl ka kb refl
                (λ u. ⊎_elim (λ (b : (k ≡ 10) × (x ≡ peers) × (1 ≤ peers)). let b0 = b.0 in absurd (omega arith)) (λ (b : (k ≡ 11) × (x ≡ 0) × (peers ≡ 0)). solo b.2 j l y) alt)
                (h.peer y);
          });
      runs = λ j l q. subst (λ (v : View). IsRunOf c' j v (get_or s.words.run j 0)) (sym (new j)) (lock_run (at_stage c 9 0) c' j (t j) (get_or s.words.run j 0) (V j) refl kb (g.runs j l q));
      jobs = λ j l q. subst (λ (y : Member). IsJobOf d c' j y.job) (sym (enclosed_at m.members j)) (resting_job d (at_stage c 9 0) c' j (member m j).job (λ y. omega arith) (g.jobs j l q));
      idle = λ j l q. let h = g.idle j l q in record { size = h.size; held = h.held; chair = h.chair };
      signals = λ j l. subst (λ (y : Member). IsSignal d m.waves y.visits (get_or s.words.pend j 0)) (sym (enclosed_at m.members j)) (g.signals j l);
      busies = λ j l. subst (λ (y : Member). IsBusy y (get_or s.words.busy j 0) (get_or s.lying.busy j None)) (sym (enclosed_at m.members j)) (let y = g.busies j l in record { lies = y.lies; finished = y.finished; ran = y.ran });
    }

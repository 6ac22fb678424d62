-- A processor becomes the BSP, or finds that another one is.
use Rattle.std.proofs.Common.{ℕ, ◌+◌, ◌-◌, ◌*◌, ◌≡◌, ◌≢◌, ◌<◌, ◌≤◌, arith, true, length, get_or, slice_set, Option, Some, None, refl, sym, subst, ap, ⊎_elim, ◌∙◌}
use Rattle.std.specs.Prelude.{◌==◌, if◌then◌else◌}
use Rattle.std.proofs.lemmas.Bool.{cases_eq, ne_eqb, eq-eqb, ltb-true}
use Rattle.std.proofs.lemmas.List.{get_or-set_other, length-set}
use Rattle.smm_base.specs.declared.kinds.Policy.{Policy}
use Rattle.smm_base.specs.declared.kinds.Policy.TheVariants.{Elected, Fixed}
use Rattle.cpu_table.specs.Data.{SetupData}
use Rattle.cpu_table.specs.Ranges.{policy_fits}
use Rattle.handler_ops.specs.declared.desk.Desk.{Desk}
use Rattle.handler_ops.specs.Sessions.{Session as Chair}
use Rattle.cpu_program.specs.declared.cargo.Cargo.{Cargo}
use Rattle.cpu_program.specs.declared.cargo.Cargo.TheVariants as cargo
use Rattle.rendezvous_core.specs.Worlds.{bsp_at_first}
use Rattle.rendezvous_machine.specs.Machines.{Machine, member}
use Rattle.rendezvous_machine.specs.Effects.{opened}
use Rattle.rendezvous_machine.specs.Platforms.{MayLead}
use Rattle.schedule_laws.proofs.Scenes.{Scene, Seat, Position, ClaimingChair, AskingForChair, AwaitingInside, Leading as LeadingAt, MarkingInside, seat, no_seat}
use Rattle.schedule_laws.proofs.Stations.{station_of, Leading, member_of, walk_of, made, low, made_zero}
use Rattle.schedule_laws.proofs.Stations as stations
use Rattle.schedule_laws.proofs.Sums.{sum_below-same, sum_below-zero}
use Rattle.schedule_laws.proofs.Invariant.{Context, View, IsCpu, IsSelf, IsTeam, IsPeer, IsRunOf, IsIdle, IsTotals, IsWords, IsSession, IsAt, Holds, KeptAt, chair_home, chair_lying, desk_kept, globe, locked, members_in, mode_of, raised_in, team_in, view, view_at}
use Rattle.schedule_laws.proofs.Frames.{IsMover, mover, own_at, run_of, seat_set, seated, view_is, mode_le}
use Rattle.schedule_laws.proofs.OwnFrames.{seat_holds}
use Rattle.schedule_laws.proofs.Facts.{early_stage}
use Rattle.schedule_laws.proofs.SessionFrames.{resting_course, resting_job, no_aim}
use Rattle.schedule_laws.proofs.VisitMoves.{beaten, beaten_run, not_owner, not_owner_run}

-- WHAT BECOMES OF THE FACTS

claims_self : (d : SetupData) (waves : ℕ) (at : Option Desk) (v : View) → IsSelf d waves at (record v { station = stations.ClaimingChair })
    → IsSelf d waves at (record v { station = Leading })
claims_self d waves at v h = grind arith

asks_self : (d : SetupData) (waves : ℕ) (at : Option Desk) (v : View) → IsSelf d waves at (record v { station = stations.AskingForChair })
    → IsSelf d waves at (record v { station = Leading })
asks_self d waves at v h = grind arith

elect_team : (c c' : Context) (j : ℕ) (v v' : View) → c.stage ≡ 0 → c'.stage ≡ 1 → v'.present ≡ v.present → v'.team ≡ v.team → v'.departed ≡ v.departed
    → v'.released ≡ v.released → v'.work ≡ v.work → IsTeam c j v → IsTeam c' j v'
elect_team c c' j v v' a b e1 e2 e3 e4 e5 h =
    record {
      team_open = λ _. e2 ∙ h.team_open (omega arith);
      departed_open = λ _. e3 ∙ h.departed_open (omega arith);
      team = λ z. absurd (omega arith);
      unreleased = λ _. e4 ∙ h.unreleased (omega arith);
      idle_early = λ _. e5 ∙ h.idle_early (omega arith);
      idle_mid = λ z. absurd (omega arith);
      idle_after = λ z. absurd (omega arith);
      unclaimed = λ _. let y = h.unclaimed (omega arith) in omega arith;
      claimed_so_far = λ z. absurd (omega arith);
      claimed = λ z. absurd (omega arith);
    }

elect_peer : (c c' : Context) (j : ℕ) (v : View) → c.stage ≡ 0 → c'.stage ≡ 1 → IsPeer c j v → IsPeer c' j v
elect_peer c c' j v a b h =
    record {
      station = h.station;
      walking = λ z. let y = h.walking z in absurd (omega arith);
      knows = λ z. let y = h.walking (omega arith) in absurd (omega arith);
      gone = h.gone;
      listed = λ z. absurd (omega arith);
      released_so_far = λ z. absurd (omega arith);
      released_no_more = λ z. absurd (omega arith);
      released = λ z. absurd (omega arith);
      told = λ z. absurd (omega arith);
      answered = λ z. absurd (omega arith);
      ended = λ z. absurd (omega arith);
    }

elect_run : (c c' : Context) (j r : ℕ) (v : View) → c.stage ≡ 0 → c'.stage ≡ 1 → IsRunOf c j v r → IsRunOf c' j v r
elect_run c c' j r v a b h =
    record { upto = λ _ y. h.upto (omega arith) y; lent = h.lent; so_far = λ z. absurd (omega arith); no_more = λ z. absurd (omega arith); late = λ z. absurd (omega arith) }

elect_totals : (c c' : Context) (counter run run' a b e a' b' e' : ℕ) → c.stage ≡ 0 → c'.stage ≡ 1 → a' ≡ a → run' ≡ 0 → e' ≡ 0 → IsTotals c counter run a b e
    → IsTotals c' counter run' a' b' e'
elect_totals c c' counter run run' a b e a' b' e' x y p r s h =
    record {
      counted = λ _. h.counted (omega arith) ∙ sym p;
      counter_locked = λ z. absurd (omega arith);
      peers = λ z. absurd (omega arith);
      run_open = λ _ _. r ∙ sym s;
      run_reports = λ z. absurd (omega arith);
      run_reported = λ z. absurd (omega arith);
      run_answers = λ z. absurd (omega arith);
      run_answered = λ z. absurd (omega arith);
      run_ends = λ z. absurd (omega arith);
      run_ended = λ z. absurd (omega arith);
    }

-- the session that a processor has opened
abbrev opened_context : Context → ℕ → Seat → Context
opened_context c i t =
    record { stage = 1; bsp = i; next = 0; peers = 0; wave = t.wave; blocked = t.blocked; held = t.held; listed = t.listed; chair = c.chair; place = c.place; session = opened i }

elect_words : (d : SetupData) (c : Context) (i : ℕ) (t : Seat) (s : Scene) (m : Machine) → MayLead d.policy i → c.stage ≡ 0 → i < d.processors → IsWords d c (globe s m)
    → IsWords d (opened_context c i t) (record (globe s m) { bsp = i; on_bsp = None; session = Some (opened i) })
elect_words d c i t s m lead a l h =
    record {
      some_bsp = λ _. l;
      no_bsp = λ z. absurd (omega arith);
      bsp_before = λ z. absurd (omega arith);
      bsp_taken = λ _ _. refl;
      bsp_free = λ z. absurd (omega arith);
      leads = λ _. lead;
      inside_before = λ _. h.inside_before (omega arith);
      inside = λ z. absurd (omega arith);
      inside_after = λ z. absurd (omega arith);
      insync_before = λ _. h.insync_before (omega arith);
      insync = λ z. absurd (omega arith);
      insync_after = λ z. absurd (omega arith);
      chair_before = λ z. absurd (omega arith);
      chair = λ _ _. refl;
      chair_after = λ z. absurd (omega arith);
      source = h.source;
      except = h.except;
      no_session = λ z. absurd (omega arith);
      session = λ _. refl;
    }

opened_session : (mode : ℕ) (c : Context) (i : ℕ) (t : Seat) → IsSession mode (opened_context c i t)
opened_session mode c i t =
    record {
      bsp = λ _. refl;
      unserved = λ _. refl;
      served = λ z. absurd (omega arith);
      ungathered = λ _. refl;
      gathered = λ y z. absurd (omega arith);
      unready = λ _. refl;
      fresh = λ _. refl;
      expired = λ y z. absurd (omega arith);
      waited = λ y z. absurd (omega arith);
      unclosed = λ _. refl;
      closed = λ z. absurd (omega arith);
      unbegun = λ _. refl;
      undone = λ _. refl;
      done = λ z. absurd (omega arith);
    }

-- THE FIRST OF THEM

-- the processor i, at a position of the entry, becomes the BSP of a new session
elected : (d : SetupData) (c : Context) (i : ℕ) (s : Scene) (m : Machine) (t : Seat) (at : Position) → MayLead d.policy i → member_of (station_of at) ≡ 1
    → ((e : ℕ) → low e (station_of at) ≡ 0)
    → ((o : Option Desk) (v : View) → IsSelf d m.waves o (record v { station = station_of at }) → IsSelf d m.waves o (record v { station = Leading })) → c.stage ≡ 0
    → IsMover d c i s m t at
    → Holds d (opened_context c i t) (record s { words = record s.words { bsp = i }; lying = record s.lying { bsp = None }; seats = slice_set s.seats i (record t { position = LeadingAt MarkingInside; chair = Some c.chair }) })
    (record m { session = Some (opened i) })
elected d c i s m t at lead rm rl rs st h =
    let f = h.holds in
    let g = f.ready in
    let n : ℕ = d.processors in
    let l = h.there in
    let t' : Seat = record t { position = LeadingAt MarkingInside; chair = Some c.chair } in
    let s' : Scene = record s { words = record s.words { bsp = i }; lying = record s.lying { bsp = None }; seats = slice_set s.seats i t' } in
    let m' : Machine = record m { session = Some (opened i) } in
    let c' : Context = opened_context c i t in
    let V : ℕ → View = view s m in
    let V' : ℕ → View = view s' m' in
    let z = g.sized in
    let mode = mode_le d in
    let ls : i < length s.seats = rw z.seats l in
    let few = g.platform.few in
    let no = g.words.no_bsp st in
    let nb : (j : ℕ) → j < n → j ≢ c.bsp = (λ j a y. omega arith) in
    let idle : IsIdle d c i t = subst (IsIdle d c i) h.seat_is (g.idle i l h.other) in
    let here : seat s' i ≡ t' = seat_set s i t' ls in
    let old : V i ≡ view_at (station_of at) t s m i = view_is s m i t at h.seat_is h.position_is in
    let own : IsCpu d c m.waves i (view_at (station_of at) t s m i) = own_at d c i s m t at f l h.seat_is h.position_is in
    let new : V' i ≡ record (view_at (station_of at) t s m i) { station = Leading } = view_is s' m' i t' (LeadingAt MarkingInside) here refl in
    let other : (j : ℕ) → j ≢ i → V' j ≡ V j = (λ j q. rw (get_or-set_other s.seats i j t' no_seat q) refl) in
    let word = (run_of d c i s m t at h).upto (omega arith) (λ y. let u = own.team.idle_early (omega arith) in absurd (omega arith)) in
    let un = own.team.unreleased (omega arith) in
    let low_none = rl (view_at (station_of at) t s m i).departed in
    let members : members_in n V' ≡ members_in n V =
    sum_below-same n (λ j. member_of (V' j).station) (λ j. member_of (V j).station)
    (λ j k.
    ⊎_elim
    (λ (q : j ≡ i). subst (λ (y : ℕ). member_of (V' y).station ≡ member_of (V y).station) (sym q) (ap (λ (v : View). member_of v.station) new ∙ sym (ap (λ (v : View). member_of v.station) old ∙ rm)))
    (λ (q : j ≢ i). ap (λ (v : View). member_of v.station) (other j q))
    (cases_eq j i)) in
    let raised : raised_in n V' ≡ 0 =
    sum_below-zero n (λ j. made (V' j).departed (V' j).station)
    (λ j k.
    ⊎_elim
    (λ (q : j ≡ i). subst (λ (y : ℕ). made (V' y).departed (V' y).station ≡ 0) (sym q) (ap (λ (v : View). made v.departed v.station) new))
    (λ (q : j ≢ i).
    let y = g.each j k in
    let walk : walk_of (V j).station ≡ 0 = ⊎_elim (λ (u : walk_of (V j).station ≡ 0). u) (λ (u : walk_of (V j).station ≢ 0). let x = (y.peer (nb j k)).walking (omega arith) in absurd (omega arith)) (cases_eq (walk_of (V j).station) 0) in
    ap (λ (v : View). made v.departed v.station) (other j q) ∙ ap (λ (x : ℕ). made x (V j).station) (y.team.departed_open (omega arith)) ∙ made_zero (V j).station walk)
    (cases_eq j i)) in
    let was_none : (j : ℕ) → j < n → desk_kept c j ≡ None = (λ j k. let y = g.each j k in y.self.not_held (λ x. let u = y.team.unclaimed (omega arith) in absurd (omega arith))) in
    let now_none : (j : ℕ) → desk_kept c' j ≡ None =
    (λ j.
    ⊎_elim
    (λ (q : j ≡ i). rw (eq-eqb j i q) refl)
    (λ (q : j ≢ i). rw (ne_eqb j i q) (idle.held j q))
    (cases_eq j i)) in
    let same_at : (j : ℕ) → j < n → desk_kept c' j ≡ desk_kept c j = (λ j k. now_none j ∙ sym (was_none j k)) in
    record {
      ready = record {
        platform = g.platform;
        sized = record { seats = length-set s.seats i t' ∙ z.seats; pend = z.pend; present = z.present; run = z.run; busy = z.busy; on_present = z.on_present; on_run = z.on_run; on_busy = z.on_busy; members = z.members; held = λ _. idle.size };
        words = elect_words d c i t s m lead st l g.words;
        session = opened_session (mode_of d) c i t;
        course = resting_course d c c' m refl (omega arith) (omega arith) g.course;
        chipset = g.chipset;
        totals = elect_totals c c' s.words.counter (get_or s.words.run c.bsp 0) (get_or s.words.run i 0) (members_in n V) (team_in n V) (raised_in n V) (members_in n V') (team_in n V') (raised_in n V') st refl members (omega arith) raised g.totals;
        each = λ j k.
            ⊎_elim
            (λ (q : j ≡ i). subst (λ (y : ℕ). IsCpu d c' m.waves y (V' y)) (sym q) (subst (λ (v : View). IsCpu d c' m.waves i v) (sym new)
            (record {
              self = subst (λ (o : Option Desk). IsSelf d m.waves o (record (view_at (station_of at) t s m i) { station = Leading })) (sym (same_at i l)) (rs (desk_kept c i) (view_at (station_of at) t s m i) own.self);
              team = elect_team c c' i (view_at (station_of at) t s m i) (record (view_at (station_of at) t s m i) { station = Leading }) st refl refl refl refl refl refl own.team;
              leader = λ _. record { station = refl; released = un; departed = own.team.departed_open (omega arith); work = own.team.idle_early (omega arith) };
              peer = λ y. absurd (y refl);
            })))
            (λ (q : j ≢ i). subst (λ (v : View). IsCpu d c' m.waves j v) (sym (other j q))
            (let y = g.each j k in
            record {
              self = subst (λ (o : Option Desk). IsSelf d m.waves o (V j)) (sym (same_at j k)) y.self;
              team = elect_team c c' j (V j) (V j) st refl refl refl refl refl refl y.team;
              leader = λ x. absurd (q x);
              peer = λ _. elect_peer c c' j (V j) st refl (y.peer (nb j k));
            }))
            (cases_eq j i);
        runs = λ j k q. subst (λ (v : View). IsRunOf c' j v (get_or s.words.run j 0)) (sym (other j q)) (elect_run c c' j (get_or s.words.run j 0) (V j) st refl (g.runs j k (nb j k)));
        jobs = λ j k q. resting_job d c c' j (member m j).job (λ y. omega arith) (g.jobs j k (nb j k));
        idle = λ j k q. subst (IsIdle d c' j) (sym (get_or-set_other s.seats i j t' no_seat q)) (let y = g.idle j k (nb j k) in record { size = y.size; held = y.held; chair = y.chair });
        signals = g.signals;
        busies = g.busies;
      };
      aim = no_aim d c' 1 0 (λ x. omega arith) (λ x. omega arith) (λ x. omega arith) (λ x. omega arith) (λ x. omega arith) (λ x. absurd (omega arith));
      at = λ _. subst (IsAt d c' m.registrations m.pool) (sym here)
          (record {
            lead = MarkingInside;
            position = refl;
            is = record { stage = refl; traditional = λ y. absurd (omega arith); next = refl; wave = refl; blocked = refl; listed = refl; held = refl; chair = λ _. refl; no_chair = λ y. absurd (omega arith); begins = λ y. absurd (omega arith); serves = λ y. absurd (omega arith); collects = λ y. absurd (omega arith) };
          });
    }

-- THE TWO POLICIES

policy_elects : (n : ℕ) (policy : Policy) → policy_fits n policy ≡ true → n ≤ 64 → bsp_at_first policy ≡ locked → policy ≡ Elected
policy_elects n Elected fits few e = refl
policy_elects n (Fixed b) fits few e = absurd (let y = ltb-true b n fits in omega arith)

policy_fixes : (policy : Policy) (i : ℕ) → i ≢ locked → bsp_at_first policy ≡ i → policy ≡ Fixed i
policy_fixes Elected i n e = absurd (n (sym e))
policy_fixes (Fixed b) i n e = ap (λ (y : ℕ). Fixed y) e

pub claim_chair : (d : SetupData) (c : Context) (i : ℕ) (s : Scene) (m : Machine) (t : Seat) (source inside : ℕ) → Holds d c s m → i < d.processors → seat s i ≡ t
    → t.position ≡ ClaimingChair source inside → KeptAt d s m i t (ClaimingChair source inside)
claim_chair d c i s m t source inside f l e q =
    let g = f.ready in
    let v : View = view_at stations.ClaimingChair t s m i in
    let own : IsCpu d c m.waves i (view_at stations.ClaimingChair t s m i) = own_at d c i s m t (ClaimingChair source inside) f l e q in
    let h : IsMover d c i s m t (ClaimingChair source inside) = mover d c i s m t (ClaimingChair source inside) refl f l e q in
    let nb : i ≢ c.bsp = h.other in
    let ls : i < length s.seats = rw g.sized.seats l in
    let early : c.stage ≤ 10 = early_stage c i v own.team (own.peer nb) refl refl in
    let few = g.platform.few in
    ⊎_elim
    (λ (z : s.words.bsp ≡ locked).
    let st : c.stage ≡ 0 = ⊎_elim (λ (y : c.stage ≡ 0). y) (λ (y : c.stage ≢ 0). let u = g.words.some_bsp (omega arith) in let k = g.words.bsp_taken (omega arith) (omega arith) in absurd (omega arith)) (cases_eq c.stage 0) in
    let policy : d.policy ≡ Elected = policy_elects d.processors d.policy g.platform.policy few (sym (g.words.bsp_before st) ∙ z) in
    let lead : MayLead d.policy i = subst (λ (y : Policy). MayLead y i) (sym policy) tt in
    let lies : s.lying.bsp ≡ Some (cargo.Chair c.chair) = g.words.chair_before st ∙ ap (λ (y : Policy). chair_lying y c.chair) policy in
    let one : (c.chair.setup.processors == d.processors) ≡ true = eq-eqb c.chair.setup.processors d.processors (ap (λ (y : SetupData). y.processors) g.course.setup) in
    let two : (d.processors == d.processors) ≡ true = eq-eqb d.processors d.processors refl in
    simp (eq-eqb s.words.bsp locked z, lies, one, two) (
      refl,
      (own.self.phase, g.words.no_session st, lead),
      seated d (opened_context c i t) s (record s.words { bsp = i }) (record s.lying { bsp = None }) (record m { session = Some (opened i) }) i (record t { position = LeadingAt MarkingInside; chair = Some c.chair }) ls
          (elected d c i s m t (ClaimingChair source inside) lead refl (λ x. refl) (λ o y. claims_self d m.waves o y) st h),
    ))
    (λ (z : s.words.bsp ≢ locked).
    simp (ne_eqb s.words.bsp locked z) (
      refl,
      tt,
      seated d c s s.words s.lying m i (record t { position = AwaitingInside 0 }) ls
          (seat_holds d c i s m t (record t { position = AwaitingInside 0 }) (ClaimingChair source inside) s.words.pend h (record { size = refl; held = λ k n. refl; chair = refl }) refl g.signals refl refl (beaten d c m.waves i 0 v nb own) (λ y. beaten_run d c m.waves i (get_or s.words.run i 0) v nb own y)),
    ))
    (cases_eq s.words.bsp locked)

-- where the platform fixes the BSP, it has the chair already
pub ask_for_chair : (d : SetupData) (c : Context) (i : ℕ) (s : Scene) (m : Machine) (t : Seat) (source inside : ℕ) → Holds d c s m → i < d.processors → seat s i ≡ t
    → t.position ≡ AskingForChair source inside → KeptAt d s m i t (AskingForChair source inside)
ask_for_chair d c i s m t source inside f l e q =
    let g = f.ready in
    let v : View = view_at stations.AskingForChair t s m i in
    let own : IsCpu d c m.waves i (view_at stations.AskingForChair t s m i) = own_at d c i s m t (AskingForChair source inside) f l e q in
    let h : IsMover d c i s m t (AskingForChair source inside) = mover d c i s m t (AskingForChair source inside) refl f l e q in
    let nb : i ≢ c.bsp = h.other in
    let ls : i < length s.seats = rw g.sized.seats l in
    let early : c.stage ≤ 10 = early_stage c i v own.team (own.peer nb) refl refl in
    let few = g.platform.few in
    ⊎_elim
    (λ (z : s.words.bsp ≡ i).
    let st : c.stage ≡ 0 = ⊎_elim (λ (y : c.stage ≡ 0). y) (λ (y : c.stage ≢ 0). absurd (nb (sym z ∙ g.words.bsp_taken (omega arith) (omega arith)))) (cases_eq c.stage 0) in
    let policy : d.policy ≡ Fixed i = policy_fixes d.policy i (λ y. omega arith) (sym (g.words.bsp_before st) ∙ z) in
    let lead : MayLead d.policy i = subst (λ (y : Policy). MayLead y i) (sym policy) refl in
    let none : s.lying.bsp ≡ None = g.words.chair_before st ∙ ap (λ (y : Policy). chair_lying y c.chair) policy in
    let idle : IsIdle d c i t = subst (IsIdle d c i) e (g.idle i l nb) in
    let chair : t.chair ≡ Some c.chair = idle.chair ∙ ap (λ (y : Policy). chair_home y i c.chair) policy ∙ rw (eq-eqb i i refl) refl in
    let won = elected d c i s m t (AskingForChair source inside) lead refl (λ x. refl) (λ o y. asks_self d m.waves o y) st h in
    let as_is = subst (λ (x : Option Chair). Holds d (opened_context c i t) (record s { words = record s.words { bsp = i }; lying = record s.lying { bsp = None }; seats = slice_set s.seats i (record t { position = LeadingAt MarkingInside; chair = x }) }) (record m { session = Some (opened i) })) (sym chair) won in
    let words = subst (λ (x : ℕ). Holds d (opened_context c i t) (record s { words = record s.words { bsp = x }; lying = record s.lying { bsp = None }; seats = slice_set s.seats i (record t { position = LeadingAt MarkingInside }) }) (record m { session = Some (opened i) })) (sym z) as_is in
    let lying = subst (λ (x : Option Cargo). Holds d (opened_context c i t) (record s { lying = record s.lying { bsp = x }; seats = slice_set s.seats i (record t { position = LeadingAt MarkingInside }) }) (record m { session = Some (opened i) })) (sym none) words in
    simp (eq-eqb s.words.bsp i z) (
      refl,
      (own.self.phase, g.words.no_session st, lead),
      seated d (opened_context c i t) s s.words s.lying (record m { session = Some (opened i) }) i (record t { position = LeadingAt MarkingInside }) ls lying,
    ))
    (λ (z : s.words.bsp ≢ i).
    simp (ne_eqb s.words.bsp i z) (
      refl,
      tt,
      seated d c s s.words s.lying m i (record t { position = AwaitingInside 0 }) ls
          (seat_holds d c i s m t (record t { position = AwaitingInside 0 }) (AskingForChair source inside) s.words.pend h (record { size = refl; held = λ k n. refl; chair = refl }) refl g.signals refl refl (not_owner d c m.waves i 0 v nb own) (λ y. not_owner_run d c m.waves i (get_or s.words.run i 0) v nb own y)),
    ))
    (cases_eq s.words.bsp i)

-- The last steps of a session: the BSP gives the chair back, says that the session is over, and unlocks the counter.
use Rattle.std.proofs.Common.{ℕ, zero, suc, ◌+◌, ◌-◌, ◌*◌, ◌≡◌, ◌≢◌, ◌<◌, ◌≤◌, arith, Bool, true, false, List, [], ◌∷◌, length, get_or, slice_set, map, Option, Some, None, refl, sym, ap, subst, ⊎_elim, ◌∙◌}
use Rattle.std.specs.Prelude.{◌==◌, if◌then◌else◌}
use Rattle.std.proofs.lemmas.Bool.{cases_eq, cases_lt, eq-eqb}
use Rattle.std.proofs.lemmas.List.{get_or_past, get_or-set_other, get_or-set_same, length-set, length-map}
use Rattle.smm_base.specs.declared.kinds.Policy.{Policy}
use Rattle.smm_base.specs.declared.kinds.Policy.TheVariants.{Elected}
use Rattle.cpu_table.specs.Data.{SetupData}
use Rattle.handler_ops.specs.declared.desk.Desk.{Desk}
use Rattle.handler_ops.specs.declared.desk.Job.{Job}
use Rattle.serving_place.specs.Places.{Place}
use Rattle.handler_ops.specs.Sessions.{Session as Chair}
use Rattle.cpu_program.specs.declared.cargo.Cargo.{Cargo}
use Rattle.cpu_program.specs.declared.cargo.Cargo.TheVariants as cargo
use Rattle.rendezvous_core.specs.Worlds.{bsp_at_first}
use Rattle.rendezvous_machine.specs.declared.phase.Phase.TheVariants.{Gone}
use Rattle.rendezvous_machine.specs.Machines.{Machine, Member, Session, member, nobody, AllDeparted}
use Rattle.rendezvous_machine.specs.Effects.{opened, cleared, ended_session}
use Rattle.rendezvous_machine.specs.Listed.{place_of}
use Rattle.schedule_laws.proofs.Scenes.{Scene, Seat, GivingChair, LeavingInsync, UnlockingCounter, AwaitingEnd as AtEnd, Leading as LeadingAt, seat, no_seat}
use Rattle.schedule_laws.proofs.Stations.{Leading, AwaitingEnd, station_of, is_bsp, walk_of, here_of, out_of, in_of, job_of, member_of, work_of, made, made_thrice, low, out_row}
use Rattle.schedule_laws.proofs.Sums.{sum_below, sum_below-one_gap, sum_below-scale, sum_below-zero}
use Rattle.schedule_laws.proofs.Invariant.{Context, View, Globe, IsSelf, IsCpu, IsTeam, IsPeer, IsRunOf, IsTotals, IsWords, IsSession, IsCourse, IsIdle, IsSignal, IsBusy, IsReady, IsLead, Holds, KeptAt, chair_home, chair_lying, desk_at, desk_kept, locked, globe, mode_of, seat_view, view, view_of, members_in, team_in, raised_in}
use Rattle.schedule_laws.proofs.Frames.{seated, mode_le, bit_true, seat_set, view_is}
use Rattle.schedule_laws.proofs.LeadFrames.{at_stage, takes_seat, lead_kept}
use Rattle.schedule_laws.proofs.SessionFrames.{bsp_says, reframe, resting_job, idle_same, no_aim}
use Rattle.schedule_laws.proofs.ClosedFrames.{session_at, course_late, bsp_team, kept_is}
use Rattle.schedule_laws.proofs.ClosedStages.{chair_given, chair_given_run, chair_given_totals, insync_left, insync_left_run, insync_left_totals}
use Rattle.schedule_laws.proofs.Facts.{each_peer}
use Rattle.schedule_laws.proofs.Served.{place_is}

-- THE CHAIR

given_words : (d : SetupData) (c : Context) (g : Globe) (o : Option Cargo) → locked ≡ bsp_at_first d.policy → o ≡ chair_lying d.policy c.chair → IsWords d (at_stage c 19 0) g
    → IsWords d (at_stage c 20 0) (record g { bsp = locked; on_bsp = o })
given_words d c g o a b h =
    record {
      some_bsp = λ _. h.some_bsp (omega arith);
      no_bsp = λ z. absurd (omega arith);
      bsp_before = λ z. absurd (omega arith);
      bsp_taken = λ _ z. absurd (omega arith);
      bsp_free = λ _. a;
      leads = λ _. h.leads (omega arith);
      inside_before = λ z. absurd (omega arith);
      inside = λ _ z. absurd (omega arith);
      inside_after = λ _. h.inside_after (omega arith);
      insync_before = λ z. absurd (omega arith);
      insync = λ _ _. h.insync (omega arith) (omega arith);
      insync_after = λ z. absurd (omega arith);
      chair_before = λ z. absurd (omega arith);
      chair = λ _ z. absurd (omega arith);
      chair_after = λ _. b;
      source = h.source;
      except = h.except;
      no_session = λ z. absurd (omega arith);
      session = λ _. h.session (omega arith);
    }

give_chair_at : (d : SetupData) (c : Context) (s : Scene) (m : Machine) (t : Seat) → t.position ≡ LeadingAt GivingChair → Holds d (at_stage c 19 0) s m → seat s c.bsp ≡ t
    → IsLead d (at_stage c 19 0) m.registrations m.pool GivingChair t → KeptAt d s m c.bsp t (LeadingAt GivingChair)
give_chair_at d c s m t q f e h =
    let g = f.ready in
    let z = g.sized in
    let policy : d.policy ≡ Elected = f.aim.gives refl in
    let o : Option Cargo = Some (cargo.Chair c.chair) in
    let s' : Scene = record s { words = record s.words { bsp = locked }; lying = record s.lying { bsp = o } } in
    let k : Context = at_stage c 19 0 in
    let c' : Context = at_stage c 20 0 in
    let t' : Seat = record t { position = LeadingAt LeavingInsync; chair = None } in
    let chair : t.chair ≡ Some c.chair = h.chair (omega arith) in
    let ls : c.bsp < length s.seats = rw z.seats (g.words.some_bsp (omega arith)) in
    let after : IsReady d c' s' m =
    reframe d k c' s s' m m g refl refl g.chipset refl g.signals g.busies
    (record { seats = z.seats; pend = z.pend; present = z.present; run = z.run; busy = z.busy; on_present = z.on_present; on_run = z.on_run; on_busy = z.on_busy; members = z.members; held = λ _. z.held (omega arith) })
    (given_words d c (globe s m) o (ap bsp_at_first (sym policy)) (ap (λ (y : Policy). chair_lying y c.chair) (sym policy)) g.words)
    (session_at (mode_of d) c 19 0 20 0 (omega arith) (omega arith) (λ _. omega arith) g.session)
    (course_late d c 19 0 20 0 m.registrations m.pool (omega arith) (omega arith) g.course)
    (chair_given_totals c 0 s.words.counter (get_or s.words.run c.bsp 0) _ _ _ g.totals)
    (λ j l. chair_given d c m.waves 0 j (view s m j) (g.each j l))
    (λ j l n. let y = g.each j l in chair_given_run c 0 j (get_or s.words.run j 0) (view s m j) y.self.team_bit y.team (y.peer n) (g.runs j l n))
    (λ j l n. let mode = mode_le d in resting_job d k c' j (member m j).job (λ u. absurd (omega arith)) (g.jobs j l n))
    (λ j l n. idle_same d k c' j (seat s j) refl (g.idle j l n)) in
    simp (eq-eqb d.processors d.processors refl, chair) (
      refl,
      tt,
      seated d c' s s'.words s'.lying m c.bsp t' ls
          (takes_seat d c' s' m t t' after (no_aim d c 20 0 (omega arith) (omega arith) (omega arith) (omega arith) (omega arith) (λ _. omega arith)) (omega arith) e (ap station_of q) refl refl
          (record {
            lead = LeavingInsync;
            position = refl;
            is = record { stage = refl; traditional = λ y. absurd (omega arith); next = refl; wave = h.wave; blocked = h.blocked; listed = h.listed; held = h.held; chair = λ y. absurd (omega arith); no_chair = λ _. ap (λ (y : Policy). chair_home y c.bsp c.chair) (sym policy); begins = λ y. absurd (omega arith); serves = λ y. absurd (omega arith); collects = λ y. absurd (omega arith) };
          })),
    )

pub give_chair : (d : SetupData) (c : Context) (i : ℕ) (s : Scene) (m : Machine) (t : Seat) → Holds d c s m → i < d.processors → seat s i ≡ t → t.position ≡ LeadingAt GivingChair
    → KeptAt d s m i t (LeadingAt GivingChair)
give_chair d c i s m t f l e q = lead_kept d c i s m t GivingChair f l e q (give_chair_at d c s m t q)

-- `insync`

left_words : (d : SetupData) (c : Context) (g : Globe) → IsWords d (at_stage c 20 0) g → IsWords d (at_stage c 21 0) (record g { insync = 0 })
left_words d c g h =
    record {
      some_bsp = λ _. h.some_bsp (omega arith);
      no_bsp = λ z. absurd (omega arith);
      bsp_before = λ z. absurd (omega arith);
      bsp_taken = λ _ z. absurd (omega arith);
      bsp_free = λ _. h.bsp_free (omega arith);
      leads = λ _. h.leads (omega arith);
      inside_before = λ z. absurd (omega arith);
      inside = λ _ z. absurd (omega arith);
      inside_after = λ _. h.inside_after (omega arith);
      insync_before = λ z. absurd (omega arith);
      insync = λ _ z. absurd (omega arith);
      insync_after = λ _. refl;
      chair_before = λ z. absurd (omega arith);
      chair = λ _ z. absurd (omega arith);
      chair_after = λ _. h.chair_after (omega arith);
      source = h.source;
      except = h.except;
      no_session = λ z. absurd (omega arith);
      session = λ _. h.session (omega arith);
    }

leave_insync_at : (d : SetupData) (c : Context) (s : Scene) (m : Machine) (t : Seat) → t.position ≡ LeadingAt LeavingInsync → Holds d (at_stage c 20 0) s m → seat s c.bsp ≡ t
    → IsLead d (at_stage c 20 0) m.registrations m.pool LeavingInsync t → KeptAt d s m c.bsp t (LeadingAt LeavingInsync)
leave_insync_at d c s m t q f e h =
    let g = f.ready in
    let z = g.sized in
    let s' : Scene = record s { words = record s.words { insync = 0 } } in
    let k : Context = at_stage c 20 0 in
    let c' : Context = at_stage c 21 0 in
    let t' : Seat = record t { position = LeadingAt UnlockingCounter } in
    let ls : c.bsp < length s.seats = rw z.seats (g.words.some_bsp (omega arith)) in
    let after : IsReady d c' s' m =
    reframe d k c' s s' m m g refl refl g.chipset refl g.signals g.busies
    (record { seats = z.seats; pend = z.pend; present = z.present; run = z.run; busy = z.busy; on_present = z.on_present; on_run = z.on_run; on_busy = z.on_busy; members = z.members; held = λ _. z.held (omega arith) })
    (left_words d c (globe s m) g.words)
    (session_at (mode_of d) c 20 0 21 0 (omega arith) (omega arith) (λ _. omega arith) g.session)
    (course_late d c 20 0 21 0 m.registrations m.pool (omega arith) (omega arith) g.course)
    (insync_left_totals c 0 s.words.counter (get_or s.words.run c.bsp 0) _ _ _ g.totals)
    (λ j l. insync_left d c m.waves 0 j (view s m j) (g.each j l))
    (λ j l n. let y = g.each j l in insync_left_run c 0 j (get_or s.words.run j 0) (view s m j) y.self.team_bit y.team (y.peer n) (g.runs j l n))
    (λ j l n. let mode = mode_le d in resting_job d k c' j (member m j).job (λ u. absurd (omega arith)) (g.jobs j l n))
    (λ j l n. idle_same d k c' j (seat s j) refl (g.idle j l n)) in (
      refl,
      tt,
      seated d c' s s'.words s'.lying m c.bsp t' ls
          (takes_seat d c' s' m t t' after (no_aim d c 21 0 (omega arith) (omega arith) (omega arith) (omega arith) (omega arith) (λ _. omega arith)) (omega arith) e (ap station_of q) refl refl
          (record {
            lead = UnlockingCounter;
            position = refl;
            is = record { stage = refl; traditional = λ y. absurd (omega arith); next = refl; wave = h.wave; blocked = h.blocked; listed = h.listed; held = h.held; chair = λ y. absurd (omega arith); no_chair = λ _. h.no_chair (omega arith); begins = λ y. absurd (omega arith); serves = λ y. absurd (omega arith); collects = λ y. absurd (omega arith) };
          })),
    )

pub leave_insync : (d : SetupData) (c : Context) (i : ℕ) (s : Scene) (m : Machine) (t : Seat) → Holds d c s m → i < d.processors → seat s i ≡ t → t.position ≡ LeadingAt LeavingInsync
    → KeptAt d s m i t (LeadingAt LeavingInsync)
leave_insync d c i s m t f l e q = lead_kept d c i s m t LeavingInsync f l e q (leave_insync_at d c s m t q)

-- THE END

-- one as the ended session leaves it
abbrev resting : View → View
resting v = record v { team = 0; released = 0; departed = 0 }

-- the BSP as it leaves it
abbrev unseated : View → View
unseated v = record (resting v) { station = AwaitingEnd; phase = Gone }

end_self : (d : SetupData) (waves : ℕ) (at at' : Option Desk) (v : View) → at' ≡ None → v.work ≡ 0 → v.present ≡ 0 → out_of v.station ≡ 0 → IsSelf d waves at v → IsSelf d waves at' (resting v)
end_self d waves at at' v none wk a out h =
    record { phase = h.phase; visits = h.visits; registers = h.registers; last = h.last; kind = h.kind; most = h.most; waiting = h.waiting; through = h.through; inside = h.inside; begun = h.begun; team_bit = omega arith; released_bit = omega arith; departed_bit = omega arith; work_le = h.work_le; present_le = h.present_le; absent = h.absent; there = h.there; worker = h.worker; idle_away = h.idle_away; running = h.running; own = h.own; own_job = h.own_job; own_out = h.own_out; on_present = h.on_present; off_present = h.off_present; on_run = λ z. absurd (omega arith); on_run_job = λ z. absurd (omega arith); off_run = λ _ _. h.off_run_own out; off_run_own = h.off_run_own; held = λ z. absurd (omega arith); not_held = λ _. none; given_back = λ _. none; lent = λ _. none }

end_bsp_self : (d : SetupData) (waves : ℕ) (at at' : Option Desk) (v : View) → at' ≡ None → v.work ≡ 0 → v.present ≡ 0 → v.station ≡ Leading → IsSelf d waves at v → IsSelf d waves at' (unseated v)
end_bsp_self d waves at at' v none wk a r h =
    let x : out_of v.station ≡ 0 = ap out_of r in
    let y : in_of v.station ≡ 1 = ap in_of r in
    let no_job : job_of v.station ≡ 0 = ap job_of r in
    record { phase = refl; visits = h.visits; registers = h.registers; last = h.last; kind = h.kind; most = h.most; waiting = λ z. absurd (omega arith); through = λ z. absurd (omega arith); inside = λ _. h.inside y; begun = h.begun; team_bit = omega arith; released_bit = omega arith; departed_bit = omega arith; work_le = h.work_le; present_le = h.present_le; absent = λ _. a; there = λ z. absurd (omega arith); worker = h.worker; idle_away = λ _. wk; running = λ z. absurd (omega arith); own = λ _ _. h.own x no_job; own_job = λ z. absurd (omega arith); own_out = λ z. absurd (omega arith); on_present = h.on_present; off_present = h.off_present; on_run = λ z. absurd (omega arith); on_run_job = λ z. absurd (omega arith); off_run = λ _ _. h.off_run_own x; off_run_own = λ _. h.off_run_own x; held = λ z. absurd (omega arith); not_held = λ _. none; given_back = λ _. none; lent = λ _. none }

end_team : (c : Context) (j : ℕ) (v : View) → c.stage ≡ 0 → v.work ≡ 0 → v.present ≡ 0 → IsTeam c j (resting v)
end_team c j v a wk b =
    record { team_open = λ _. refl; departed_open = λ _. refl; team = λ z. absurd (omega arith); unreleased = λ _. refl; idle_early = λ _. wk; idle_mid = λ _ _. wk; idle_after = λ _. wk; unclaimed = λ _. omega arith; claimed_so_far = λ z. absurd (omega arith); claimed = λ z. absurd (omega arith) }

end_peer : (c : Context) (j : ℕ) (v : View) → c.stage ≡ 0 → is_bsp v.station ≡ 0 → walk_of v.station ≡ 0 → IsPeer c j (resting v)
end_peer c j v a b w =
    record { station = b; walking = λ z. absurd (omega arith); knows = λ z. absurd (omega arith); gone = λ z. absurd (omega arith); listed = λ z. absurd (omega arith); released_so_far = λ z. absurd (omega arith); released_no_more = λ z. absurd (omega arith); released = λ z. absurd (omega arith); told = λ z. absurd (omega arith); answered = λ z. absurd (omega arith); ended = λ z. absurd (omega arith) }

end_run : (c : Context) (j r : ℕ) (v : View) → c.stage ≡ 0 → v.work ≡ 0 → r ≡ 0 → low 0 v.station ≡ 0 → IsRunOf c j (resting v) r
end_run c j r v a wk b e = record { upto = λ _ _. omega arith; lent = λ y. absurd (omega arith); so_far = λ z. absurd (omega arith); no_more = λ z. absurd (omega arith); late = λ z. absurd (omega arith) }

end_session : (mode : ℕ) (c : Context) → c.stage ≡ 0 → (x : ℕ) → c.session ≡ opened x → IsSession mode c
end_session mode c a x e =
    record {
      bsp = λ z. absurd (omega arith);
      unserved = λ _. ap (λ (y : Session). y.served) e;
      served = λ z. absurd (omega arith);
      ungathered = λ _. ap (λ (y : Session). y.gathered) e;
      gathered = λ y z. absurd (omega arith);
      unready = λ _. ap (λ (y : Session). y.is_ready) e;
      fresh = λ _. ap (λ (y : Session). y.expired) e;
      expired = λ y z. absurd (omega arith);
      waited = λ y z. absurd (omega arith);
      unclosed = λ _. ap (λ (y : Session). y.is_closed) e;
      closed = λ z. absurd (omega arith);
      unbegun = λ _. ap (λ (y : Session). y.serving) e;
      undone = λ _. ap (λ (y : Session). y.is_done) e;
      done = λ z. absurd (omega arith);
    }

end_words : (d : SetupData) (c c' : Context) (g : Globe) → c'.stage ≡ 0 → c'.bsp ≡ locked → c'.chair ≡ c.chair → IsWords d (at_stage c 21 0) g → IsWords d c' (record g { session = None })
end_words d c c' g a b e h =
    record {
      some_bsp = λ z. absurd (omega arith);
      no_bsp = λ _. b;
      bsp_before = λ _. h.bsp_free (omega arith);
      bsp_taken = λ z. absurd (omega arith);
      bsp_free = λ z. absurd (omega arith);
      leads = λ z. absurd (omega arith);
      inside_before = λ _. h.inside_after (omega arith);
      inside = λ z. absurd (omega arith);
      inside_after = λ z. absurd (omega arith);
      insync_before = λ _. h.insync_after (omega arith);
      insync = λ z. absurd (omega arith);
      insync_after = λ z. absurd (omega arith);
      chair_before = λ _. rw e (h.chair_after (omega arith));
      chair = λ z. absurd (omega arith);
      chair_after = λ z. absurd (omega arith);
      source = h.source;
      except = h.except;
      no_session = λ _. refl;
      session = λ z. absurd (omega arith);
    }

no_totals : (c : Context) (counter run a b e : ℕ) → c.stage ≡ 0 → counter ≡ a → IsTotals c counter run a b e
no_totals c counter run a b e z x =
    record { counted = λ _. x; counter_locked = λ y. absurd (omega arith); peers = λ y. absurd (omega arith); run_open = λ y. absurd (omega arith); run_reports = λ y. absurd (omega arith); run_reported = λ y. absurd (omega arith); run_answers = λ y. absurd (omega arith); run_answered = λ y. absurd (omega arith); run_ends = λ y. absurd (omega arith); run_ended = λ y. absurd (omega arith) }

-- each AP is out of the session then
ended : (c : Context) (j : ℕ) (v : View) → IsTeam (at_stage c 21 0) j v → IsPeer (at_stage c 21 0) j v
    → (walk_of v.station ≡ 0) × (member_of v.station ≡ 0) × (low 0 v.station ≡ 0) × (low v.departed v.station ≡ 2 * v.departed) × (here_of v.station ≡ 0) × (out_of v.station ≡ 0)
ended c j v h g = let a = g.ended (omega arith) in let b = h.team (omega arith) in out_row v.departed v.station (omega arith) g.gone

-- the BSP's word is down to 0
ended_run : (d : SetupData) (c : Context) (s : Scene) (m : Machine) → IsReady d (at_stage c 21 0) s m → get_or s.words.run c.bsp 0 ≡ 0
ended_run d c s m g =
    let n : ℕ = d.processors in
    let k : Context = at_stage c 21 0 in
    let V : ℕ → View = view s m in
    let F : ℕ → ℕ = λ j. made (V j).departed (V j).station in
    let G : ℕ → ℕ = λ j. 3 * (V j).team in
    let b = bsp_team d k s m g (omega arith) in
    let b1 = b.1 in
    let b0 = b.0 in
    let le : (j : ℕ) → j < n → F j ≤ G j =
    (λ j l.
    ⊎_elim
    (λ (q : j ≡ c.bsp). subst (λ (x : ℕ). F x ≤ G x) (sym q) (omega arith))
    (λ (q : j ≢ c.bsp).
    let h = g.each j l in
    let a = h.team.team (omega arith) in
    let t = made_thrice (V j).departed (V j).station ((h.peer q).gone) in
    omega arith)
    (cases_eq j c.bsp)) in
    let gap : sum_below n F + G c.bsp ≤ sum_below n G + F c.bsp = sum_below-one_gap n F G c.bsp (g.words.some_bsp (omega arith)) le in
    let scale : sum_below n G ≡ 3 * team_in n V = sum_below-scale n 3 (λ j. (V j).team) in
    let x = g.totals.peers (omega arith) in
    let y = g.totals.run_ended (omega arith) in
    omega arith

cleared_at : (xs : List Member) (j : ℕ) → get_or (map cleared xs) j nobody ≡ cleared (get_or xs j nobody)
cleared_at [] j = refl
cleared_at (x ∷ xs) zero = refl
cleared_at (x ∷ xs) (suc j) = cleared_at xs j

-- flags and a phase bear on no job
end_busy : (i : ℕ) (x : Member) (xs : List Member) (j b : ℕ) (o : Option Cargo) → i < length xs → x.job ≡ (get_or xs i nobody).job → x.image ≡ (get_or xs i nobody).image
    → IsBusy (get_or xs j nobody) b o → IsBusy (get_or (map cleared (slice_set xs i x)) j nobody) b o
end_busy i x xs j b o l ej ei h =
    subst (λ (y : Member). IsBusy y b o) (sym (cleared_at (slice_set xs i x) j))
    (⊎_elim
    (λ (q : j ≡ i).
    let e : get_or (slice_set xs i x) j nobody ≡ x = ap (λ (y : ℕ). get_or (slice_set xs i x) y nobody) q ∙ get_or-set_same xs i x nobody l in
    let h' : IsBusy (get_or xs i nobody) b o = subst (λ (y : ℕ). IsBusy (get_or xs y nobody) b o) q h in
    subst (λ (y : Member). IsBusy (cleared y) b o) (sym e)
    (record {
      lies = λ z. h'.lies (ap work_of (sym ej) ∙ z) ∙ ap (λ (y : Option Job). Some (cargo.Desk (desk_at (get_or xs i nobody).image y))) (sym ej) ∙ ap (λ y. Some (cargo.Desk (desk_at y x.job))) (sym ei);
      finished = λ z. ap work_of ej ∙ h'.finished z;
      ran = λ z. h'.ran (ap work_of (sym ej) ∙ z);
    }))
    (λ (q : j ≢ i). subst (λ (y : Member). IsBusy (cleared y) b o) (sym (get_or-set_other xs i j x nobody q)) (record { lies = h.lies; finished = h.finished; ran = h.ran }))
    (cases_eq j i))

none_either : (b : Bool) → (if b then None else get_or {A = Option Desk} [] 0 None) ≡ None
none_either true = refl
none_either false = refl

-- the server's state is told by the ended list
end_course : (d : SetupData) (c c' : Context) (m : Machine) (p : Place) → c'.stage ≡ 0 → c'.chair ≡ c.chair → p ≡ c.place → IsCourse d (at_stage c 21 0) m.registrations m.pool
    → IsCourse d c' p.state.registrations p.state.pool
end_course d c c' m p a e is h =
    let mode = mode_le d in
    let listed = h.listed (omega arith) in
    let same : p ≡ record c.chair.course.place { state = record c.chair.course.place.state { seats = c.place.state.seats } } = is ∙ listed.same in
    record {
      setup = rw e h.setup;
      size = rw e h.size;
      registered = λ _. rw e (sym (ap (λ (y : Place). y.state.registrations) same));
      pooled = λ _. rw e (sym (ap (λ (y : Place). y.state.pool) same));
      me = λ z. absurd (omega arith);
      led = λ z. absurd (omega arith);
      listed = λ z. absurd (omega arith);
      over = λ z. absurd (omega arith);
    }

-- the context where there is no session
abbrev pub idle_context : Context → Context
idle_context c = record (at_stage c 0 0) { bsp = locked; held = []; session = opened 0 }

no_desk : (c : Context) (j : ℕ) → desk_kept (idle_context c) j ≡ None
no_desk c j = none_either (j == locked)

-- no desk is left with the BSP
nothing_of : (d : SetupData) (c : Context) (s : Scene) (m : Machine) → IsReady d (at_stage c 21 0) s m → (u : ℕ) → u ≢ c.bsp → get_or c.held u None ≡ None
nothing_of d c s m g u q =
    let size = g.sized.held (omega arith) in
    ⊎_elim
    (λ (l : u < d.processors).
    let y = g.each u l in
    let absent : (view s m u).present ≡ 0 = y.self.absent (ended c u (view s m u) y.team (y.peer q)).4 in
    sym (kept_is c u q) ∙ y.self.not_held (λ b. absurd (omega arith)))
    (λ (l : d.processors ≤ u). get_or_past c.held u None (omega arith))
    (cases_lt u d.processors)

unlocked : (d : SetupData) (c : Context) (s : Scene) (m : Machine) (t : Seat) → Holds d (at_stage c 21 0) s m → seat s c.bsp ≡ t → IsLead d (at_stage c 21 0) m.registrations m.pool UnlockingCounter t
    → Holds d (idle_context c) (record s { words = record s.words { counter = 0 }; seats = slice_set s.seats c.bsp (record t { position = AtEnd }) }) (ended_session d c.bsp m)
unlocked d c s m t f e h =
    let g = f.ready in
    let n : ℕ = d.processors in
    let k : Context = at_stage c 21 0 in
    let i : ℕ = c.bsp in
    let t' : Seat = record t { position = AtEnd } in
    let x : Member = record (member m i) { phase = Gone } in
    let c' : Context = idle_context c in
    let s' : Scene = record s { words = record s.words { counter = 0 }; seats = slice_set s.seats i t' } in
    let m' : Machine = ended_session d i m in
    let V : ℕ → View = view s m in
    let V' : ℕ → View = view s' m' in
    let z = g.sized in
    let li : i < n = g.words.some_bsp (omega arith) in
    let ls : i < length s.seats = rw z.seats li in
    let lm : i < length m.members = rw z.members li in
    let few = g.platform.few in
    let nb : (j : ℕ) → j < n → j ≢ locked = (λ j a y. omega arith) in
    let mode = mode_le d in
    let own = g.each i li in
    let bsp = own.leader refl in
    let at : seat s' i ≡ t' = seat_set s i t' ls in
    let new : V' i ≡ unseated (V i) =
    view_is s' m' i t' AtEnd at refl
    ∙ ap (λ (y : Member). view_of (seat_view AwaitingEnd i t') (get_or s.words.present i 0) (get_or s.lying.present i None) (get_or s.lying.run i None) y) (cleared_at (slice_set m.members i x) i ∙ ap cleared (get_or-set_same m.members i x nobody lm))
    ∙ ap (λ (y : Seat). view_of (seat_view AwaitingEnd i y) (get_or s.words.present i 0) (get_or s.lying.present i None) (get_or s.lying.run i None) (cleared x)) (sym e) in
    let other : (j : ℕ) → j ≢ i → V' j ≡ resting (V j) = (λ j y. rw (get_or-set_other s.seats i j t' no_seat y, cleared_at (slice_set m.members i x) j, get_or-set_other m.members i j x nobody y) refl) in
    let out : (j : ℕ) → j < n → j ≢ i → (walk_of (V j).station ≡ 0) × (member_of (V j).station ≡ 0) × (low 0 (V j).station ≡ 0) × (low (V j).departed (V j).station ≡ 2 * (V j).departed) × (here_of (V j).station ≡ 0) × (out_of (V j).station ≡ 0) =
    (λ j l y. let u = g.each j l in ended c j (V j) u.team (u.peer y)) in
    let absent : (j : ℕ) → j < n → j ≢ i → (V j).present ≡ 0 = (λ j l y. (g.each j l).self.absent (out j l y).4) in
    let bsp_absent : (V i).present ≡ 0 = own.self.absent (ap here_of bsp.station) in
    let members : members_in n V' ≡ 0 =
    sum_below-zero n (λ j. member_of (V' j).station)
    (λ j l.
    ⊎_elim
    (λ (y : j ≡ i). subst (λ (u : ℕ). member_of (V' u).station ≡ 0) (sym y) (ap (λ (v : View). member_of v.station) new))
    (λ (y : j ≢ i). ap (λ (v : View). member_of v.station) (other j y) ∙ (out j l y).1)
    (cases_eq j i)) in
    let back : (F : View → ℕ) → F (unseated (V i)) ≡ F (V i) → ((j : ℕ) → F (resting (V j)) ≡ F (V j)) → (j : ℕ) → F (V' j) ≡ F (V j) =
    (λ F a b j. ⊎_elim (λ (y : j ≡ i). subst (λ (u : ℕ). F (V' u) ≡ F (V u)) (sym y) (ap F new ∙ a)) (λ (y : j ≢ i). ap F (other j y) ∙ b j) (cases_eq j i)) in
    let idle : (j : ℕ) → j < n → (V j).work ≡ 0 = (λ j l. (g.each j l).team.idle_after (omega arith)) in
    record {
      ready = record {
        platform = g.platform;
        sized = record { seats = length-set s.seats i t' ∙ z.seats; pend = z.pend; present = z.present; run = z.run; busy = z.busy; on_present = z.on_present; on_run = z.on_run; on_busy = z.on_busy; members = length-map (slice_set m.members i x) cleared ∙ length-set m.members i x ∙ z.members; held = λ y. absurd (omega arith) };
        words = end_words d c c' (globe s m) refl refl refl g.words;
        session = end_session (mode_of d) c' refl 0 refl;
        course = end_course d c c' m (place_of d m) refl refl (place_is d k s m g (omega arith) (omega arith)) g.course;
        chipset = g.chipset;
        totals = no_totals c' 0 (get_or s.words.run locked 0) (members_in n V') (team_in n V') (raised_in n V') refl (sym members);
        each = λ j l.
            ⊎_elim
            (λ (y : j ≡ i). subst (λ (u : ℕ). IsCpu d c' m.waves u (V' u)) (sym y) (subst (λ (v : View). IsCpu d c' m.waves i v) (sym new)
            (record {
              self = end_bsp_self d m.waves (desk_kept k i) (desk_kept c' i) (V i) (no_desk c i) bsp.work bsp_absent bsp.station own.self;
              team = end_team c' i (record (V i) { station = AwaitingEnd; phase = Gone }) refl bsp.work bsp_absent;
              leader = λ u. absurd (nb i li u);
              peer = λ u. end_peer c' i (record (V i) { station = AwaitingEnd; phase = Gone }) refl refl refl;
            })))
            (λ (y : j ≢ i). subst (λ (v : View). IsCpu d c' m.waves j v) (sym (other j y))
            (let u = g.each j l in
            let o = out j l y in
            record {
              self = end_self d m.waves (desk_kept k j) (desk_kept c' j) (V j) (no_desk c j) (idle j l) (absent j l y) o.5 u.self;
              team = end_team c' j (V j) refl (idle j l) (absent j l y);
              leader = λ b. absurd (nb j l b);
              peer = λ b. end_peer c' j (V j) refl ((u.peer y).station) o.0;
            }))
            (cases_eq j i);
        runs = λ j l b.
            ⊎_elim
            (λ (y : j ≡ i). subst (λ (u : ℕ). IsRunOf c' u (V' u) (get_or s.words.run u 0)) (sym y) (subst (λ (v : View). IsRunOf c' i v (get_or s.words.run i 0)) (sym new)
            (end_run c' i (get_or s.words.run i 0) (record (V i) { station = AwaitingEnd; phase = Gone }) refl bsp.work (ended_run d c s m g) refl)))
            (λ (y : j ≢ i). subst (λ (v : View). IsRunOf c' j v (get_or s.words.run j 0)) (sym (other j y))
            (let o = out j l y in
            let u = (g.each j l).team.team (omega arith) in
            let w = (g.runs j l y).late (omega arith) in
            let o1 = o.1 in
            let o3 = o.3 in
            end_run c' j (get_or s.words.run j 0) (V j) refl (idle j l) (omega arith) o.2))
            (cases_eq j i);
        jobs = λ j l b.
            let w : work_of (member m' j).job ≡ 0 = back (λ (v : View). work_of v.job) refl (λ u. refl) j ∙ idle j l in
            record { procedure = λ u. absurd (omega arith); free = λ u. absurd (omega arith); given = λ u. absurd (omega arith); listed = λ u. absurd (omega arith) };
        idle = λ j l b.
            ⊎_elim
            (λ (y : j ≡ i). subst (λ (u : ℕ). IsIdle d c' u (seat s' u)) (sym y) (subst (IsIdle d c' i) (sym at)
            (record {
              size = ap (λ (xs : List (Option Desk)). length xs) h.held ∙ z.held (omega arith);
              held = λ u q. ap (λ (xs : List (Option Desk)). get_or xs u None) h.held ∙ nothing_of d c s m g u q;
              chair = h.no_chair (omega arith);
            })))
            (λ (y : j ≢ i). subst (IsIdle d c' j) (sym (get_or-set_other s.seats i j t' no_seat y)) (idle_same d k c' j (seat s j) refl (g.idle j l y)))
            (cases_eq j i);
        signals = λ j l. subst (λ (y : ℕ). IsSignal d m.waves y (get_or s.words.pend j 0)) (sym (back (λ (v : View). v.visits) refl (λ u. refl) j)) (g.signals j l);
        busies = λ j l. end_busy i x m.members j (get_or s.words.busy j 0) (get_or s.lying.busy j None) lm refl refl (g.busies j l);
      };
      aim = no_aim d c' 0 0 (omega arith) (omega arith) (omega arith) (omega arith) (omega arith) (λ y. absurd (omega arith));
      at = λ y. absurd (omega arith);
    }

unlock_counter_at : (d : SetupData) (c : Context) (s : Scene) (m : Machine) (t : Seat) → t.position ≡ LeadingAt UnlockingCounter → Holds d (at_stage c 21 0) s m → seat s c.bsp ≡ t
    → IsLead d (at_stage c 21 0) m.registrations m.pool UnlockingCounter t → KeptAt d s m c.bsp t (LeadingAt UnlockingCounter)
unlock_counter_at d c s m t q f e h =
    let g = f.ready in
    let k : Context = at_stage c 21 0 in
    let ls : c.bsp < length s.seats = rw g.sized.seats (g.words.some_bsp (omega arith)) in
    let departed : AllDeparted m c.bsp =
    each_peer d k s m (λ y. y.has_departed ≡ true) g
    (λ j l y one. bit_true (member m j).has_departed (let u = g.each j l in let team = u.team.team (omega arith) in let b = (ended c j (view s m j) u.team (u.peer y)).1 in omega arith)) in (
      refl,
      (bsp_says d k s m (λ y. y.is_done ≡ true) g (omega arith) (g.session.done (omega arith)), departed),
      seated d (idle_context c) s (record s.words { counter = 0 }) s.lying (ended_session d c.bsp m) c.bsp (record t { position = AtEnd }) ls (unlocked d c s m t f e h),
    )

pub unlock_counter : (d : SetupData) (c : Context) (i : ℕ) (s : Scene) (m : Machine) (t : Seat) → Holds d c s m → i < d.processors → seat s i ≡ t → t.position ≡ LeadingAt UnlockingCounter
    → KeptAt d s m i t (LeadingAt UnlockingCounter)
unlock_counter d c i s m t f l e q = lead_kept d c i s m t UnlockingCounter f l e q (unlock_counter_at d c s m t q)

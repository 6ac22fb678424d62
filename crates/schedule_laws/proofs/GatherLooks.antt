-- The BSP's looks for the others to come: two rounds, between them an interrupt to each that hasn't reported, and then the close begins.
use Rattle.std.proofs.Common.{ℕ, ◌+◌, ◌-◌, ◌*◌, ◌%◌, ◌≡◌, ◌≢◌, ◌<◌, ◌≤◌, inl, inr, arith, Bool, true, false, List, length, get_or, slice_set, Option, Some, None, refl, sym, subst, ap, ⊎_elim, ◌∙◌}
use Rattle.std.specs.Prelude.{IsSomeAnd, option_map, ◌||◌, ◌==◌, nat_le, if◌then◌else◌}
use Rattle.std.proofs.lemmas.Bool.{cases_eq, cases_Bool, ne_eqb, eq-eqb, leb-true, leb-false}
use Rattle.std.proofs.lemmas.List.{length-set}
use Rattle.cpu_table.specs.Data.{SetupData}
use Rattle.sync_words.specs.Steps.{next_below, row_or}
use Rattle.sync_words.specs.declared.row.Row.TheVariants as row
use Rattle.arrival.specs.Gather as gather
use Rattle.arrival.specs.Gather.{is_other}
use Rattle.arrival.specs.Rounds.{is_last_look}
use Rattle.cpu_program.specs.Actors.{OfProcessor}
use Rattle.cpu_program.specs.Processors.{is_relaxed, desks_held, left_to}
use Rattle.rendezvous_machine.specs.Machines.{Machine, Session, member, count_of, HasWaited}
use Rattle.rendezvous_machine.specs.Effects.{made_ready, has_expired, with_session}
use Rattle.schedule_laws.proofs.Scenes.{Scene, Seat, Lead, GatheringFirst, FindingMissing, SignallingMissing, GatheringSecond, MarkingInsync, Leading as LeadingAt, seat, processor_at, processor_of, actors_of, gathering_at}
use Rattle.schedule_laws.proofs.Stations.{Leading, bit, in_of, station_of}
use Rattle.schedule_laws.proofs.Invariant.{Context, IsWords, IsSession, IsReady, IsAim, IsLead, IsSignal, Holds, IsFine, KeptAt, mode_of, globe}
use Rattle.schedule_laws.proofs.Frames.{signal_set}
use Rattle.schedule_laws.proofs.LeadFrames.{at_stage, Reached, lead_kept}
use Rattle.schedule_laws.proofs.SessionFrames.{bsp_says, session_map, open_listed, resting_course, no_aim, plain, turns}
use Rattle.schedule_laws.proofs.Facts.{some_and}
use Rattle.schedule_laws.proofs.Loops.{Found, found_next}
use Rattle.schedule_laws.proofs.Counts.{count_is, listed_is}

-- THE SESSION'S STAGES, of the traditional mode

looks_session : (c : Context) (k x k' x' : ℕ) → 6 ≤ k → k ≤ 7 → 6 ≤ k' → k' ≤ 7 → IsSession 0 (at_stage c k x) → IsSession 0 (at_stage c k' x')
looks_session c k x k' x' a b e f h =
    record { bsp = λ _. h.bsp (omega arith); unserved = λ z. absurd (omega arith); served = λ _. h.served (omega arith); ungathered = λ z. absurd (omega arith); gathered = λ _ _. h.gathered refl (omega arith); unready = λ _. h.unready b; fresh = λ z. absurd (omega arith); expired = λ _ _ _. h.expired refl a b; waited = λ _ z. absurd (omega arith); unclosed = λ _. h.unclosed (omega arith); closed = λ z. absurd (omega arith); unbegun = λ _. h.unbegun (omega arith); undone = λ _. h.undone (omega arith); done = λ z. absurd (omega arith) }

-- the first round expired
abbrev expiring : Context → ℕ → Context
expiring c k = record c { session = has_expired k c.session }

expires_session : (c : Context) → IsSession 0 (at_stage c 5 0) → IsSession 0 (at_stage (expiring c 1) 7 0)
expires_session c h =
    record { bsp = λ _. h.bsp (omega arith); unserved = λ z. absurd (omega arith); served = λ _. h.served (omega arith); ungathered = λ z. absurd (omega arith); gathered = λ _ _. h.gathered refl (omega arith); unready = λ _. h.unready (omega arith); fresh = λ z. absurd (omega arith); expired = λ _ _ _. refl; waited = λ _ z. absurd (omega arith); unclosed = λ _. h.unclosed (omega arith); closed = λ z. absurd (omega arith); unbegun = λ _. h.unbegun (omega arith); undone = λ _. h.undone (omega arith); done = λ z. absurd (omega arith) }

-- the waiting has ended, with this session
abbrev waited_for : Context → Session → Context
waited_for c session = record c { session = session; listed = desks_held c.held }

-- such a session is the one before, but that its waiting has ended
record HasEnded (old new : Session) : Type 0 where
  bsp : new.bsp ≡ old.bsp
  served : new.served ≡ old.served
  gathered : new.gathered ≡ old.gathered
  waited : HasWaited new
  closed : new.is_closed ≡ old.is_closed
  serving : new.serving ≡ old.serving
  done : new.is_done ≡ old.is_done

waited_session : (c : Context) (k x : ℕ) (new : Session) → 5 ≤ k → k ≤ 7 → HasEnded c.session new → IsSession 0 (at_stage c k x) → IsSession 0 (at_stage (waited_for c new) 8 0)
waited_session c k x new a b e h =
    record { bsp = λ _. e.bsp ∙ h.bsp (omega arith); unserved = λ z. absurd (omega arith); served = λ _. e.served ∙ h.served (omega arith); ungathered = λ z. absurd (omega arith); gathered = λ _ _. e.gathered ∙ h.gathered refl (omega arith); unready = λ z. absurd (omega arith); fresh = λ z. absurd (omega arith); expired = λ _ _ z. absurd (omega arith); waited = λ _ _. e.waited; unclosed = λ _. e.closed ∙ h.unclosed (omega arith); closed = λ z. absurd (omega arith); unbegun = λ _. e.serving ∙ h.unbegun (omega arith); undone = λ _. e.done ∙ h.undone (omega arith); done = λ z. absurd (omega arith) }

-- the words stay as they are
gather_words : (d : SetupData) (c c' : Context) (s : Scene) (m : Machine) (o : Option Session) → c'.bsp ≡ c.bsp → c'.chair ≡ c.chair → 5 ≤ c.stage → c.stage ≤ 7
    → 5 ≤ c'.stage → c'.stage ≤ 8 → (m.session ≡ Some c.session → o ≡ Some c'.session) → IsWords d c (globe s m) → IsWords d c' (record (globe s m) { session = o })
gather_words d c c' s m o e f a b low high u h =
    record {
      some_bsp = λ _. rw e (h.some_bsp (omega arith));
      no_bsp = λ z. absurd (omega arith);
      bsp_before = λ z. absurd (omega arith);
      bsp_taken = λ _ _. h.bsp_taken (omega arith) (omega arith) ∙ sym e;
      bsp_free = λ z. absurd (omega arith);
      leads = λ _. rw e (h.leads (omega arith));
      inside_before = λ z. absurd (omega arith);
      inside = λ _ _. h.inside (omega arith) (omega arith);
      inside_after = λ z. absurd (omega arith);
      insync_before = λ _. h.insync_before (omega arith);
      insync = λ z. absurd (omega arith);
      insync_after = λ z. absurd (omega arith);
      chair_before = λ z. absurd (omega arith);
      chair = λ _ _. h.chair (omega arith) (omega arith);
      chair_after = λ z. absurd (omega arith);
      source = h.source;
      except = h.except;
      no_session = λ z. absurd (omega arith);
      session = λ _. u (h.session (omega arith));
    }

-- GOING ON

-- a further stage of the gathering, with a signal that may have been written, and another session
gather_ready : (d : SetupData) (c : Context) (k x k' x' : ℕ) (s : Scene) (m : Machine) (pend : List ℕ) (o : Option Session) (session : Session) (listed : List Bool)
    → mode_of d ≡ 0 → 5 ≤ k → k ≤ 7 → 5 ≤ k' → k' ≤ 8 → length pend ≡ length s.words.pend
    → ((j : ℕ) → j < d.processors → IsSignal d m.waves (member m j).visits (get_or pend j 0)) → (m.session ≡ Some c.session → o ≡ Some session)
    → IsSession 0 (record (at_stage c k' x') { session = session; listed = listed }) → IsReady d (at_stage c k x) s m
    → IsReady d (record (at_stage c k' x') { session = session; listed = listed }) (record s { words = record s.words { pend = pend } }) (record m { session = o })
gather_ready d c k x k' x' s m pend o session listed zero a b low high lp sig u is g =
    let z = g.sized in
    let s' : Scene = record s { words = record s.words { pend = pend } } in
    let c2 : Context = record (at_stage c k' x') { session = session; listed = listed } in
    open_listed d c k x k' x' s s' m (record m { session = o }) session c.wave c.blocked listed (omega arith) (omega arith) (omega arith) (omega arith) (λ y. omega arith) (λ y. omega arith) (λ y. omega arith) g refl refl refl refl refl refl refl sig g.busies
    (record { seats = z.seats; pend = lp ∙ z.pend; present = z.present; run = z.run; busy = z.busy; on_present = z.on_present; on_run = z.on_run; on_busy = z.on_busy; members = z.members; held = z.held })
    (gather_words d (at_stage c k x) c2 s m o refl refl a b low high u g.words) (subst (λ (n : ℕ). IsSession n c2) (sym zero) is)
    (resting_course d (at_stage c k x) c2 m refl (omega arith) (omega arith) g.course)

-- all is gathered, or the waiting has expired twice: the close begins, and the BSP lists whose desks it holds
close_begins : (d : SetupData) (c : Context) (k x : ℕ) (s : Scene) (m : Machine) (t : Seat) (new : Session) (f : Session → Session) → f c.session ≡ new
    → is_relaxed d.mode ≡ false → 5 ≤ k → k ≤ 7 → HasEnded c.session new → IsReady d (at_stage c k x) s m → seat s c.bsp ≡ t → station_of t.position ≡ Leading
    → t.wave ≡ c.wave → t.blocked ≡ c.blocked → t.held ≡ c.held → t.chair ≡ Some c.chair
    → IsFine d (record { words = s.words; lying = s.lying; actors = slice_set (actors_of d s) c.bsp (processor_of d c.bsp (record t { position = LeadingAt MarkingInsync; listed = desks_held t.held })) })
    (with_session f m)
close_begins d c k x s m t new f fe trad a b ended g e st wave blocked held chair =
    let zero : mode_of d ≡ 0 = ap bit trad in
    let c2 : Context = waited_for c new in
    let m' : Machine = with_session f m in
    let t' : Seat = record t { position = LeadingAt MarkingInsync; listed = desks_held t.held } in
    let few = g.platform.few in
    let ready : IsReady d (at_stage c2 8 0) s m' =
    gather_ready d c k x 8 0 s m s.words.pend (option_map f m.session) new (desks_held c.held) zero a b (omega arith) (omega arith) refl g.signals
    (λ y. session_map m.session c.session f y ∙ ap (λ (n : Session). Some n) fe) (waited_session c k x new a b ended (subst (λ (n : ℕ). IsSession n (at_stage c k x)) zero g.session)) g in
    let aim : IsAim d (at_stage c2 8 0) = record { signals = λ z. absurd (omega arith); takes = λ z. absurd (omega arith); releases = λ z. absurd (omega arith); dismisses = λ z. absurd (omega arith); gives = λ z. absurd (omega arith); closes = λ _ _ j l. listed_is c.held j (omega arith); closes_on = λ z. absurd (omega arith) } in
    let r : Reached d c2 s m' MarkingInsync = plain d c2 s m' MarkingInsync 8 0 ready aim refl refl (λ z. absurd (omega arith)) refl (λ z. absurd (omega arith)) in
    turns d c2 s s.words s.lying m' t t' MarkingInsync r e st refl refl
    (record { wave = wave; blocked = blocked; listed = ap desks_held held; held = held; chair = chair })

-- THE LOOP OVER THOSE THAT ARE MISSING

is_other_apart : (j me : ℕ) → is_other me j ≡ true → j ≢ me
is_other_apart j me h q = absurd (grind (arith, eq-eqb j me q, h))

missing_aim : (d : SetupData) (c : Context) (j : ℕ) → j < d.processors → j ≢ c.bsp → IsAim d (at_stage c 6 j)
missing_aim d c j l n =
    record { signals = λ _. (l, n); takes = λ z. absurd (omega arith); releases = λ z. absurd (omega arith); dismisses = λ z. absurd (omega arith); gives = λ z. absurd (omega arith); closes = λ z. absurd (omega arith); closes_on = λ z. absurd (omega arith) }

-- the next of them, or the second round
missing_next : (d : SetupData) (c : Context) (k x : ℕ) (s : Scene) (m : Machine) (t : Seat) (at : Lead) (pend : List ℕ) (from : ℕ) (o : Option ℕ)
    → Found (is_other c.bsp) from d.processors o → is_relaxed d.mode ≡ false → 6 ≤ k → k ≤ 7 → IsReady d (at_stage c k x) s m → length pend ≡ length s.words.pend
    → ((j : ℕ) → j < d.processors → IsSignal d m.waves (member m j).visits (get_or pend j 0)) → seat s c.bsp ≡ t → station_of t.position ≡ Leading
    → t.wave ≡ c.wave → t.blocked ≡ c.blocked → t.listed ≡ c.listed → t.held ≡ c.held → t.chair ≡ Some c.chair
    → IsFine d (record { words = record s.words { pend = pend }; lying = s.lying; actors = slice_set (actors_of d s) c.bsp (OfProcessor (left_to (gather.left_of (row_or row.FindMissing (row.GatherSecond 0) o)) (record (processor_at d c.bsp (LeadingAt at) t) { part = gathering_at d c.bsp (row_or row.FindMissing (row.GatherSecond 0) o) t.blocked }))) }) m
missing_next d c k x s m t at pend from None found trad a b g lp sig e st wave blocked listed held chair =
    let zero : mode_of d ≡ 0 = ap bit trad in
    let old : IsSession 0 (at_stage c k x) = subst (λ (n : ℕ). IsSession n (at_stage c k x)) zero g.session in
    let s' : Scene = record s { words = record s.words { pend = pend } } in
    let ready : IsReady d (at_stage c 7 0) s' m =
    gather_ready d c k x 7 0 s m pend m.session c.session c.listed zero (omega arith) b (omega arith) (omega arith) lp sig (λ y. y) (looks_session c k x 7 0 a b (omega arith) (omega arith) old) g in
    let r : Reached d c s' m (GatheringSecond 0) =
    plain d c s' m (GatheringSecond 0) 7 0 ready (no_aim d c 7 0 (λ z. omega arith) (λ z. omega arith) (λ z. omega arith) (λ z. omega arith) (λ z. omega arith) (λ z. absurd (omega arith))) refl refl (λ _. trad) refl (λ z. absurd (omega arith)) in
    turns d c s (record s.words { pend = pend }) s.lying m t (record t { position = LeadingAt (GatheringSecond 0) }) (GatheringSecond 0) r e st refl refl
    (record { wave = wave; blocked = blocked; listed = listed; held = held; chair = chair })
missing_next d c k x s m t at pend from (Some j) found trad a b g lp sig e st wave blocked listed held chair =
    let zero : mode_of d ≡ 0 = ap bit trad in
    let old : IsSession 0 (at_stage c k x) = subst (λ (n : ℕ). IsSession n (at_stage c k x)) zero g.session in
    let s' : Scene = record s { words = record s.words { pend = pend } } in
    let other : j ≢ c.bsp = is_other_apart j c.bsp found.2 in
    let ready : IsReady d (at_stage c 6 j) s' m =
    gather_ready d c k x 6 j s m pend m.session c.session c.listed zero (omega arith) b (omega arith) (omega arith) lp sig (λ y. y) (looks_session c k x 6 j a b (omega arith) (omega arith) old) g in
    let r : Reached d c s' m (FindingMissing j) =
    plain d c s' m (FindingMissing j) 6 j ready (missing_aim d c j found.1 other) refl refl (λ _. trad) refl (λ z. absurd (omega arith)) in
    turns d c s (record s.words { pend = pend }) s.lying m t (record t { position = LeadingAt (FindingMissing j) }) (FindingMissing j) r e st refl refl
    (record { wave = wave; blocked = blocked; listed = listed; held = held; chair = chair })

-- THE POSITIONS

gather_first_at : (d : SetupData) (c : Context) (looks : ℕ) (s : Scene) (m : Machine) (t : Seat) → t.position ≡ LeadingAt (GatheringFirst looks) → Holds d (at_stage c 5 0) s m
    → seat s c.bsp ≡ t → IsLead d (at_stage c 5 0) m.registrations m.pool (GatheringFirst looks) t → KeptAt d s m c.bsp t (LeadingAt (GatheringFirst looks))
gather_first_at d c looks s m t q f e at =
    let g = f.ready in
    let trad : is_relaxed d.mode ≡ false = at.traditional refl in
    let zero : mode_of d ≡ 0 = ap bit trad in
    let v : ℕ = s.words.counter in
    let chair : t.chair ≡ Some c.chair = at.chair (omega arith) in
    let count : v ≡ count_of m = count_is d (at_stage c 5 0) s m g (omega arith) in
    let gathered : c.session.gathered ≡ Some c.blocked = g.session.gathered zero (omega arith) in
    let old : IsSession 0 (at_stage c 5 0) = subst (λ (n : ℕ). IsSession n (at_stage c 5 0)) zero g.session in
    let fresh = g.session.fresh (omega arith) in
    let blocked : t.blocked ≡ c.blocked = at.blocked in
    ⊎_elim
    (λ (b : nat_le d.processors (v + t.blocked) ≡ true).
    let enough : d.processors ≤ v + t.blocked = leb-true d.processors (v + t.blocked) b in
    let all : d.processors ≤ v + c.blocked = omega arith in
    let may : IsSomeAnd c.session.gathered (λ n. d.processors ≤ v + n) = some_and c.session.gathered c.blocked (λ n. d.processors ≤ v + n) gathered all in
    simp b (
      refl,
      (bsp_says d (at_stage c 5 0) s m (λ y. (y.is_ready ≡ false) × (y.expired ≤ 1) × IsSomeAnd y.gathered (λ n. d.processors ≤ v + n)) g (omega arith) (g.session.unready (omega arith), omega arith, may), count),
      close_begins d c 5 0 s m t (made_ready c.session) made_ready refl trad (omega arith) (omega arith)
          (record { bsp = refl; served = refl; gathered = refl; waited = inl refl; closed = refl; serving = refl; done = refl }) g e (ap station_of q) at.wave blocked at.held chair,
    ))
    (λ (b : nat_le d.processors (v + t.blocked) ≡ false).
    ⊎_elim
    (λ (l : is_last_look looks d.t1 ≡ true).
    let few : v + t.blocked < d.processors = leb-false d.processors (v + t.blocked) b in
    let less : count_of m + c.blocked < d.processors = omega arith in
    let may : IsSomeAnd c.session.gathered (λ n. count_of m + n < d.processors) = some_and c.session.gathered c.blocked (λ n. count_of m + n < d.processors) gathered less in
    let c2 : Context = expiring c 1 in
    let m' : Machine = with_session (has_expired 1) m in
    let ready : IsReady d (at_stage c2 7 0) s m' =
    gather_ready d c 5 0 7 0 s m s.words.pend (option_map (has_expired 1) m.session) (has_expired 1 c.session) c.listed zero (omega arith) (omega arith) (omega arith) (omega arith) refl g.signals (session_map m.session c.session (has_expired 1)) (expires_session c old) g in
    simp (b, l) (
      refl,
      bsp_says d (at_stage c 5 0) s m (λ y. (y.is_ready ≡ false) × (y.expired + 1 ≡ 1) × (1 ≤ 2) × IsSomeAnd y.gathered (λ n. count_of m + n < d.processors)) g (omega arith) (g.session.unready (omega arith), omega arith, omega arith, may),
      missing_next d c2 7 0 s m' t (GatheringFirst looks) s.words.pend 0 (next_below d.processors (is_other c.bsp) 0) (found_next d.processors (is_other c.bsp) 0) trad (omega arith) (omega arith) ready refl g.signals e (ap station_of q) at.wave blocked at.listed at.held chair,
    ))
    (λ (l : is_last_look looks d.t1 ≡ false).
    let r : Reached d c s m (GatheringFirst (looks + 1)) =
    plain d c s m (GatheringFirst (looks + 1)) 5 0 g (no_aim d c 5 0 (λ z. omega arith) (λ z. omega arith) (λ z. omega arith) (λ z. omega arith) (λ z. omega arith) (λ z. absurd (omega arith))) refl refl (λ _. trad) refl (λ z. absurd (omega arith)) in
    simp (b, l) (
      refl,
      tt,
      turns d c s s.words s.lying m t (record t { position = LeadingAt (GatheringFirst (looks + 1)) }) (GatheringFirst (looks + 1)) r e (ap station_of q) refl refl
          (record { wave = at.wave; blocked = blocked; listed = at.listed; held = at.held; chair = chair }),
    ))
    (cases_Bool (is_last_look looks d.t1)))
    (cases_Bool (nat_le d.processors (v + t.blocked)))

pub gather_first : (d : SetupData) (c : Context) (i : ℕ) (s : Scene) (m : Machine) (t : Seat) (looks : ℕ) → Holds d c s m → i < d.processors → seat s i ≡ t
    → t.position ≡ LeadingAt (GatheringFirst looks) → KeptAt d s m i t (LeadingAt (GatheringFirst looks))
gather_first d c i s m t looks f l e q = lead_kept d c i s m t (GatheringFirst looks) f l e q (λ k e' at. gather_first_at d c looks s m t q k e' at)

gather_second_at : (d : SetupData) (c : Context) (looks : ℕ) (s : Scene) (m : Machine) (t : Seat) → t.position ≡ LeadingAt (GatheringSecond looks) → Holds d (at_stage c 7 0) s m
    → seat s c.bsp ≡ t → IsLead d (at_stage c 7 0) m.registrations m.pool (GatheringSecond looks) t → KeptAt d s m c.bsp t (LeadingAt (GatheringSecond looks))
gather_second_at d c looks s m t q f e at =
    let g = f.ready in
    let trad : is_relaxed d.mode ≡ false = at.traditional refl in
    let zero : mode_of d ≡ 0 = ap bit trad in
    let v : ℕ = s.words.counter in
    let chair : t.chair ≡ Some c.chair = at.chair (omega arith) in
    let count : v ≡ count_of m = count_is d (at_stage c 7 0) s m g (omega arith) in
    let gathered : c.session.gathered ≡ Some c.blocked = g.session.gathered zero (omega arith) in
    let once = g.session.expired zero (omega arith) (omega arith) in
    let blocked : t.blocked ≡ c.blocked = at.blocked in
    ⊎_elim
    (λ (b : nat_le d.processors (v + t.blocked) ≡ true).
    let enough : d.processors ≤ v + t.blocked = leb-true d.processors (v + t.blocked) b in
    let all : d.processors ≤ v + c.blocked = omega arith in
    let may : IsSomeAnd c.session.gathered (λ n. d.processors ≤ v + n) = some_and c.session.gathered c.blocked (λ n. d.processors ≤ v + n) gathered all in
    simp b (
      refl,
      (bsp_says d (at_stage c 7 0) s m (λ y. (y.is_ready ≡ false) × (y.expired ≤ 1) × IsSomeAnd y.gathered (λ n. d.processors ≤ v + n)) g (omega arith) (g.session.unready (omega arith), omega arith, may), count),
      close_begins d c 7 0 s m t (made_ready c.session) made_ready refl trad (omega arith) (omega arith)
          (record { bsp = refl; served = refl; gathered = refl; waited = inl refl; closed = refl; serving = refl; done = refl }) g e (ap station_of q) at.wave blocked at.held chair,
    ))
    (λ (b : nat_le d.processors (v + t.blocked) ≡ false).
    ⊎_elim
    (λ (l : is_last_look looks d.t2 ≡ true).
    let few : v + t.blocked < d.processors = leb-false d.processors (v + t.blocked) b in
    let less : count_of m + c.blocked < d.processors = omega arith in
    let may : IsSomeAnd c.session.gathered (λ n. count_of m + n < d.processors) = some_and c.session.gathered c.blocked (λ n. count_of m + n < d.processors) gathered less in
    simp (b, l) (
      refl,
      bsp_says d (at_stage c 7 0) s m (λ y. (y.is_ready ≡ false) × (y.expired + 1 ≡ 2) × (2 ≤ 2) × IsSomeAnd y.gathered (λ n. count_of m + n < d.processors)) g (omega arith) (g.session.unready (omega arith), omega arith, omega arith, may),
      close_begins d c 7 0 s m t (has_expired 2 c.session) (has_expired 2) refl trad (omega arith) (omega arith)
          (record { bsp = refl; served = refl; gathered = refl; waited = inr refl; closed = refl; serving = refl; done = refl }) g e (ap station_of q) at.wave blocked at.held chair,
    ))
    (λ (l : is_last_look looks d.t2 ≡ false).
    let r : Reached d c s m (GatheringSecond (looks + 1)) =
    plain d c s m (GatheringSecond (looks + 1)) 7 0 g (no_aim d c 7 0 (λ z. omega arith) (λ z. omega arith) (λ z. omega arith) (λ z. omega arith) (λ z. omega arith) (λ z. absurd (omega arith))) refl refl (λ _. trad) refl (λ z. absurd (omega arith)) in
    simp (b, l) (
      refl,
      tt,
      turns d c s s.words s.lying m t (record t { position = LeadingAt (GatheringSecond (looks + 1)) }) (GatheringSecond (looks + 1)) r e (ap station_of q) refl refl
          (record { wave = at.wave; blocked = blocked; listed = at.listed; held = at.held; chair = chair }),
    ))
    (cases_Bool (is_last_look looks d.t2)))
    (cases_Bool (nat_le d.processors (v + t.blocked)))

pub gather_second : (d : SetupData) (c : Context) (i : ℕ) (s : Scene) (m : Machine) (t : Seat) (looks : ℕ) → Holds d c s m → i < d.processors → seat s i ≡ t
    → t.position ≡ LeadingAt (GatheringSecond looks) → KeptAt d s m i t (LeadingAt (GatheringSecond looks))
gather_second d c i s m t looks f l e q = lead_kept d c i s m t (GatheringSecond looks) f l e q (λ k e' at. gather_second_at d c looks s m t q k e' at)

find_missing_at : (d : SetupData) (c : Context) (j : ℕ) (s : Scene) (m : Machine) (t : Seat) → t.position ≡ LeadingAt (FindingMissing j) → Holds d (at_stage c 6 j) s m
    → seat s c.bsp ≡ t → IsLead d (at_stage c 6 j) m.registrations m.pool (FindingMissing j) t → KeptAt d s m c.bsp t (LeadingAt (FindingMissing j))
find_missing_at d c j s m t q f e at =
    let g = f.ready in
    let trad : is_relaxed d.mode ≡ false = at.traditional refl in
    let v : ℕ = get_or s.words.present j 0 in
    let chair : t.chair ≡ Some c.chair = at.chair (omega arith) in
    ⊎_elim
    (λ (z : v ≡ 0).
    let r : Reached d c s m (SignallingMissing j) =
    plain d c s m (SignallingMissing j) 6 j g (missing_aim d c j (f.aim.signals refl).0 (f.aim.signals refl).1) refl refl (λ _. trad) refl (λ y. absurd (omega arith)) in
    simp (eq-eqb v 0 z) (
      refl,
      tt,
      turns d c s s.words s.lying m t (record t { position = LeadingAt (SignallingMissing j) }) (SignallingMissing j) r e (ap station_of q) refl refl
          (record { wave = at.wave; blocked = at.blocked; listed = at.listed; held = at.held; chair = chair }),
    ))
    (λ (z : v ≢ 0).
    simp (ne_eqb v 0 z) (
      refl,
      tt,
      missing_next d c 6 j s m t (FindingMissing j) s.words.pend (j + 1) (next_below d.processors (is_other c.bsp) (j + 1)) (found_next d.processors (is_other c.bsp) (j + 1)) trad (omega arith) (omega arith) g refl g.signals e (ap station_of q) at.wave at.blocked at.listed at.held chair,
    ))
    (cases_eq v 0)

pub find_missing : (d : SetupData) (c : Context) (i : ℕ) (s : Scene) (m : Machine) (t : Seat) (j : ℕ) → Holds d c s m → i < d.processors → seat s i ≡ t
    → t.position ≡ LeadingAt (FindingMissing j) → KeptAt d s m i t (LeadingAt (FindingMissing j))
find_missing d c i s m t j f l e q = lead_kept d c i s m t (FindingMissing j) f l e q (λ k e' at. find_missing_at d c j s m t q k e' at)

signal_missing_at : (d : SetupData) (c : Context) (j : ℕ) (s : Scene) (m : Machine) (t : Seat) → t.position ≡ LeadingAt (SignallingMissing j) → Holds d (at_stage c 6 j) s m
    → seat s c.bsp ≡ t → IsLead d (at_stage c 6 j) m.registrations m.pool (SignallingMissing j) t → KeptAt d s m c.bsp t (LeadingAt (SignallingMissing j))
signal_missing_at d c j s m t q f e at =
    let g = f.ready in
    let trad : is_relaxed d.mode ≡ false = at.traditional refl in
    let x : ℕ = get_or s.words.pend j 0 in
    let chair : t.chair ≡ Some c.chair = at.chair (omega arith) in
    let own = g.each c.bsp (g.words.some_bsp (omega arith)) in
    let some : 1 ≤ m.waves = own.self.inside (ap in_of ((own.leader refl).station)) in
    ⊎_elim
    (λ (z : (x % 8 == 0 || x % 8 == 2) ≡ true). simp z (
      refl,
      tt,
      missing_next d c 6 j s m t (SignallingMissing j) (slice_set s.words.pend j (x - x % 8 + 1)) (j + 1) (next_below d.processors (is_other c.bsp) (j + 1)) (found_next d.processors (is_other c.bsp) (j + 1)) trad (omega arith) (omega arith) g (length-set s.words.pend j (x - x % 8 + 1))
          (signal_set d m m.waves j (x - x % 8 + 1) s.words.pend g.sized.pend g.signals (λ _. record { some = λ _. some; off = λ y. absurd (omega arith) })) e (ap station_of q) at.wave at.blocked at.listed at.held chair,
    ))
    (λ (z : (x % 8 == 0 || x % 8 == 2) ≡ false). simp z (
      refl,
      tt,
      missing_next d c 6 j s m t (SignallingMissing j) s.words.pend (j + 1) (next_below d.processors (is_other c.bsp) (j + 1)) (found_next d.processors (is_other c.bsp) (j + 1)) trad (omega arith) (omega arith) g refl g.signals e (ap station_of q) at.wave at.blocked at.listed at.held chair,
    ))
    (cases_Bool (x % 8 == 0 || x % 8 == 2))

pub signal_missing : (d : SetupData) (c : Context) (i : ℕ) (s : Scene) (m : Machine) (t : Seat) (j : ℕ) → Holds d c s m → i < d.processors → seat s i ≡ t
    → t.position ≡ LeadingAt (SignallingMissing j) → KeptAt d s m i t (LeadingAt (SignallingMissing j))
signal_missing d c i s m t j f l e q = lead_kept d c i s m t (SignallingMissing j) f l e q (λ k e' at. signal_missing_at d c j s m t q k e' at)

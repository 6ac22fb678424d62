-- What an event of a processor that isn't the BSP spends.
use Rattle.std.proofs.Common.{ℕ, zero, suc, ◌+◌, ◌-◌, ◌*◌, ◌≡◌, ◌≢◌, ◌<◌, ◌≤◌, arith, Bool, true, false, List, [], ◌∷◌, length, get_or, slice_set, Option, Some, None, refl, sym, ap, subst, ⊎_elim, ◌∙◌}
use Rattle.std.specs.Prelude.{◌==◌, ◌&&◌, nat_le, nat_lt, if◌then◌else◌}
use Rattle.std.proofs.lemmas.Bool.{cases_Bool, eqb-false}
use Rattle.std.proofs.lemmas.List.{get_or-set_other, get_or-set_same}
use Rattle.smm_base.specs.declared.kinds.Policy.{Policy}
use Rattle.smm_base.specs.declared.kinds.Policy.TheVariants.{Elected, Fixed}
use Rattle.cpu_table.specs.Data.{SetupData}
use Rattle.sync_words.specs.declared.access.Access.{Access}
use Rattle.sync_words.specs.declared.access.Access.TheVariants as access
use Rattle.sync_words.specs.declared.access.Applied.{Applied}
use Rattle.sync_words.specs.declared.access.Applied.TheVariants.{Changed, Same, NotReady}
use Rattle.sync_words.specs.declared.access.TheConstants.{LOCKED}
use Rattle.sync_words.specs.declared.signal.TheConstants.{DELIVERABLE}
use Rattle.sync_words.specs.declared.event.Hand.TheVariants.{Nothing, Take}
use Rattle.sync_words.specs.declared.event.Want.TheVariants as want
use Rattle.sync_words.specs.declared.word.WordId.{WordId}
use Rattle.sync_words.specs.declared.word.WordId.TheVariants as word
use Rattle.sync_words.specs.Access.{applied}
use Rattle.cpu_program.specs.Actors.{Actor, OfProcessor, Processor}
use Rattle.cpu_program.specs.Programs.{taken}
use Rattle.cpu_program.specs.declared.part.Part.TheVariants as part
use Rattle.cpu_program.specs.Processors.{between, to_await, resumed, left_to, job_to_run, work_row}
use Rattle.cpu_program.specs.Hands.{after_giving, after_receiving, is_kind}
use Rattle.cpu_program.specs.declared.cargo.Cargo.{Cargo}
use Rattle.cpu_program.specs.declared.cargo.Cargo.TheVariants as cargo
use Rattle.cpu_regs.specs.Registers.{Registers}
use Rattle.save_state_map.specs.Images.{ImageContents}
use Rattle.handler_ops.specs.declared.desk.Desk.{Desk}
use Rattle.handler_ops.specs.declared.desk.Job.{Job}
use Rattle.handler_ops.specs.Sessions.{Session as Chair}
use Rattle.sync_words.specs.declared.row.Row.{Row}
use Rattle.sync_words.specs.declared.row.Row.TheVariants as row
use Rattle.arrival.specs.Entry as entry
use Rattle.rendezvous_core.specs.Worlds.{Lying, Turn, Moves, Waits, Rests, read, accesses, takes, gives, turn, turn_wanting}
use Rattle.schedule_laws.proofs.Scenes.{Scene, Seat, Position, AwaitingSmi, SwitchingOff, LookingAtSource, LookingInside, CountingIn, ClaimingChair, AskingForChair, Leading, AwaitingInside, FindingBsp, SignallingBsp, AwaitingInsideAgain, CountingOut, SeekingBsp, Reporting, TellingReport, AwaitingRelease, GivingBack, TellingRelease, AwaitingDismissal, Withdrawing, TellingDismissal, AwaitingEnd, ClearingSignal, Away, processor_at, part_at, entering_at}
use Rattle.schedule_laws.proofs.Stations.{bit, station_of, is_bsp}
use Rattle.bound_laws.proofs.Energies.{IsPolled, RoundFits, visit_events, spare, energy, gives_of, knows_of, part_work, waiting}

-- what an event of the processor i, at this position, leaves lying, and the processor after it: it has spent some of its energy, it gives
-- no more jobs than there are units, it has given nobody a job, and it keeps whom it knows while it works
abbrev pub PeerMoved : SetupData → Scene → ℕ → Seat → Position → Lying → Actor → Type 0
PeerMoved d s i t at lying a =
    ((y y' : ℕ) → y' ≤ 2 * d.ops → (part_work (part_at d i at t) ≡ true → y' ≤ y)
    → energy d (y' + waiting d (get_or lying.run i None)) a + 1 ≤ energy d (y + waiting d (get_or s.lying.run i None)) (OfProcessor (processor_at d i at t)))
    × (gives_of d a ≤ d.ops)
    × ((j : ℕ) → j ≢ i → get_or lying.run j None ≡ get_or s.lying.run j None)
    × (part_work (part_at d i at t) ≡ true → knows_of a ≡ t.bsp)
    × RoundFits d a

abbrev pub PeerTurn : SetupData → Scene → ℕ → Seat → Position → Turn → Type 0
PeerTurn d s i t at (Moves e words lying a) = (e.actor ≡ i) × PeerMoved d s i t at lying a
PeerTurn d s i t at (Waits found) = Unit {0}
PeerTurn d s i t at Rests = Unit {0}

-- by an access at which nothing changes hands, whatever number it finds
by_access : (d : SetupData) (s : Scene) (i : ℕ) (t : Seat) (at : Position) (word : WordId) (how : Access)
    → ((found : ℕ) → PeerMoved d s i t at s.lying (taken (OfProcessor (processor_at d i at t)) found).after)
    → PeerTurn d s i t at (turn_wanting s.words s.lying i (OfProcessor (processor_at d i at t)) (want.Access word how Nothing))
by_access d s i t at word how h = go (applied (read s.words word) how)
  where
    go : (x : Applied) → PeerTurn d s i t at (accesses s.words s.lying i word how Nothing (OfProcessor (processor_at d i at t)) x)
    go (NotReady f) = tt
    go (Same f) = (refl, h f)
    go (Changed n f) = (refl, h f)

-- WHAT CHANGES HANDS

either : (b : Bool) (P : Processor → Type 0) (x y : Processor) → P x → P y → P (if b then x else y)
either true P x y h k = h
either false P x y h k = k

-- one that received has other desks or the chair, and is where it was
pub received_is : (P : Processor → Type 0) (p : Processor) (k : ℕ) (x : Cargo)
    → ((held : List (Option Desk)) (chair : Option Chair) → P (record p { held = held; chair = chair })) → P (after_receiving p k x)
received_is P p k (cargo.Desk desk) h =
    either (is_kind desk.image.kind p.setup.kind) P (record p { held = slice_set p.held k (Some desk) }) p (h (slice_set p.held k (Some desk)) p.chair) (h p.held p.chair)
received_is P p k (cargo.Chair x) h =
    either (k == p.setup.processors && x.setup.processors == p.setup.processors) P (record p { chair = Some x }) p (h p.held (Some x)) (h p.held p.chair)

-- and so is one that gave
pub given_is : (P : Processor → Type 0) (p : Processor) (k : ℕ)
    → ((held : List (Option Desk)) (chair : Option Chair) (ran : Option Job) → P (record p { held = held; chair = chair; ran = ran })) → P (after_giving p k)
given_is P p k h = either (k == p.setup.processors) P _ _ (h p.held None p.ran) (h _ p.chair _)

-- what was taken off a list isn't there
pub unset : (xs : List (Option Cargo)) (i : ℕ) → get_or (slice_set xs i None) i None ≡ None
unset [] i = refl
unset (x ∷ xs) zero = refl
unset (x ∷ xs) (suc i) = unset xs i

-- VISITS

pub times_step : (n k : ℕ) → suc n * k ≡ k + n * k
times_step n k = omega arith

pub spare_step : (d : SetupData) (visits : ℕ) → visits < d.visits → spare d visits ≡ visit_events d + spare d (visits + 1)
unfolding spare
spare_step d visits l =
    let e : d.visits - visits ≡ suc (d.visits - (visits + 1)) = omega arith in
    ap (λ (n : ℕ). n * visit_events d) e ∙ times_step (d.visits - (visits + 1)) (visit_events d)

-- how a BSP is told
policy_case : (q : Policy) (P : Row → Type 0) → P row.ClaimBsp → P row.LookAtBsp → P (entry.to_elect q)
policy_case Elected P h k = h
policy_case (Fixed b) P h k = k

resumed_is : (P : Actor → Type 0) (o : Option Desk) (p : Processor)
    → ((registers : Registers) (last : ImageContents) → P (OfProcessor (record p { part = part.Between (to_await p); registers = registers; last = last }))) → P (OfProcessor (resumed o p))
resumed_is P None p h = h p.registers p.last
resumed_is P (Some desk) p h = h _ desk.image

module _ (d : SetupData) (s : Scene) (i : ℕ) (t : Seat) (polls : IsPolled d) where
  abbrev TurnAt : Position → Type 0
  TurnAt at = PeerTurn d s i t at (turn s.words s.lying i (OfProcessor (processor_at d i at t)))

  -- the processor at that row
  abbrev at_entry : Position → ℕ → ℕ → Row → Actor
  at_entry at source inside r = OfProcessor (left_to (entry.left_of r) (record (processor_at d i at t) { part = entering_at d i r source inside }))

  pub await_smi : t.visits < d.visits → TurnAt AwaitingSmi
  await_smi l =
      let more = spare_step d t.visits l in
      by_access d s i t AwaitingSmi (word.Pend i) access.TakeSmi
      (λ f.
      ⊎_elim
      (λ (z : (f == DELIVERABLE) ≡ true). simp z (λ y y' a b. omega arith, omega arith, λ j n. refl, λ z. absurd cc, tt))
      (λ (z : (f == DELIVERABLE) ≡ false). simp z (λ y y' a b. omega arith, omega arith, λ j n. refl, λ z. absurd cc, tt))
      (cases_Bool (f == DELIVERABLE)))

  pub switch_off : TurnAt SwitchingOff
  switch_off = by_access d s i t SwitchingOff (word.Pend i) (access.Put 4) (λ f. (λ y y' a b. omega arith, omega arith, λ j n. refl, λ z. absurd cc, tt))

  pub look_at_source : TurnAt LookingAtSource
  look_at_source = by_access d s i t LookingAtSource word.Source access.Look (λ f. (λ y y' a b. omega arith, omega arith, λ j n. refl, λ z. absurd cc, tt))

  pub look_inside : (source : ℕ) → TurnAt (LookingInside source)
  look_inside source = by_access d s i t (LookingInside source) word.Inside access.Look
      (λ f.
      ⊎_elim
      (λ (z : (source == 0 && f == 0) ≡ true). simp z (λ y y' a b. omega arith, omega arith, λ j n. refl, λ z. absurd cc, tt))
      (λ (z : (source == 0 && f == 0) ≡ false). simp z (λ y y' a b. omega arith, omega arith, λ j n. refl, λ z. absurd cc, tt))
      (cases_Bool (source == 0 && f == 0)))

  pub count_in : (source inside : ℕ) → TurnAt (CountingIn source inside)
  count_in source inside =
      let at : Position = CountingIn source inside in
      by_access d s i t at word.Counter access.Up
      (λ f.
      ⊎_elim
      (λ (z : (f == LOCKED) ≡ true). simp z (λ y y' a b. omega arith, omega arith, λ j n. refl, λ z. absurd cc, tt))
      (λ (z : (f == LOCKED) ≡ false).
      simp z
      (⊎_elim
      (λ (q : (inside == 0) ≡ true). simp q (policy_case d.policy (λ r. PeerMoved d s i t (CountingIn source inside) s.lying (at_entry (CountingIn source inside) source inside r))
      (λ y y' a b. omega arith, omega arith, λ j n. refl, λ z. absurd cc, tt)
      (λ y y' a b. omega arith, omega arith, λ j n. refl, λ z. absurd cc, tt)))
      (λ (q : (inside == 0) ≡ false). simp q (λ y y' a b. omega arith, omega arith, λ j n. refl, λ z. absurd cc, polls.first))
      (cases_Bool (inside == 0))))
      (cases_Bool (f == LOCKED)))

  -- it became the BSP or not
  abbrev elected_at : Position → ℕ → ℕ → Bool → Processor → Actor
  elected_at at source inside b p =
      let e : entry.EntryPosition = record { processors = d.processors; policy = d.policy; me = i; row = row.ClaimBsp; source = source; inside = inside } in
      OfProcessor (left_to (entry.left_of (entry.elected b e).after.row) (record p { part = part.Entering (entry.elected b e).after }))

  module _ (source inside : ℕ) where
    abbrev claiming : Position
    claiming = ClaimingChair source inside

    abbrev claimer : Processor
    claimer = processor_at d i claiming t

    elected_moved : (lying : Lying) (b : Bool) (held : List (Option Desk)) (chair : Option Chair) → ((j : ℕ) → get_or lying.run j None ≡ get_or s.lying.run j None)
        → PeerMoved d s i t claiming lying (elected_at claiming source inside b (record claimer { held = held; chair = chair }))
    elected_moved lying true held chair e = (λ y y' a b. let u = ap (waiting d) (e i) in omega (arith, u), omega arith, λ j n. e j, λ z. absurd cc, tt)
    elected_moved lying false held chair e = (λ y y' a b. let u = ap (waiting d) (e i) in omega (arith, u), omega arith, λ j n. e j, λ z. absurd cc, polls.first)

    took_chair : (n f : ℕ) (o : Option Cargo) → PeerTurn d s i t claiming (takes s.words s.lying i word.Bsp (access.Claim LOCKED i) n f (OfProcessor claimer) o)
    took_chair n f None = tt
    took_chair n f (Some x) = (
      refl,
      received_is (λ q. PeerMoved d s i t claiming (record s.lying { bsp = None }) (taken (OfProcessor q) f).after) claimer d.processors x
          (λ held chair. elected_moved (record s.lying { bsp = None }) (f == LOCKED) held chair (λ j. refl)),
    )

    claims_chair : (x : Applied) → PeerTurn d s i t claiming (accesses s.words s.lying i word.Bsp (access.Claim LOCKED i) (Take d.processors) (OfProcessor claimer) x)
    claims_chair (NotReady f) = tt
    claims_chair (Same f) = (refl, elected_moved s.lying (f == LOCKED) t.held t.chair (λ j. refl))
    claims_chair (Changed n f) = took_chair n f s.lying.bsp

    pub claim_chair : TurnAt claiming
    claim_chair = claims_chair (applied s.words.bsp (access.Claim LOCKED i))

  pub ask_for_chair : (source inside : ℕ) → TurnAt (AskingForChair source inside)
  ask_for_chair source inside =
      by_access d s i t (AskingForChair source inside) word.Bsp access.Look
      (λ f.
      ⊎_elim
      (λ (z : (f == i) ≡ true). simp z (λ y y' a b. omega arith, omega arith, λ j n. refl, λ z. absurd cc, tt))
      (λ (z : (f == i) ≡ false). simp z (λ y y' a b. omega arith, omega arith, λ j n. refl, λ z. absurd cc, polls.first))
      (cases_Bool (f == i)))

  -- REPORTS

  pub await_inside : (looks : ℕ) → looks < d.t1 → TurnAt (AwaitingInside looks)
  await_inside looks l =
      by_access d s i t (AwaitingInside looks) word.Inside access.Look
      (λ f.
      ⊎_elim
      (λ (z : (f == 0) ≡ true).
      simp z
      (⊎_elim
      (λ (q : (looks + 1 == d.t1) ≡ true). simp q (λ y y' a b. omega arith, omega arith, λ j n. refl, λ z. absurd cc, tt))
      (λ (q : (looks + 1 == d.t1) ≡ false). let u = eqb-false (looks + 1) d.t1 q in simp q (λ y y' a b. omega (arith, u, l), omega arith, λ j n. refl, λ z. absurd cc, omega (arith, u, l)))
      (cases_Bool (looks + 1 == d.t1))))
      (λ (z : (f == 0) ≡ false). simp z (λ y y' a b. omega arith, omega arith, λ j n. refl, λ z. absurd cc, tt))
      (cases_Bool (f == 0)))

  pub find_bsp : TurnAt FindingBsp
  find_bsp =
      by_access d s i t FindingBsp word.Bsp access.Look
      (λ f.
      ⊎_elim
      (λ (z : nat_lt f d.processors ≡ true). simp z (λ y y' a b. omega arith, omega arith, λ j n. refl, λ z. absurd cc, tt))
      (λ (z : nat_lt f d.processors ≡ false). simp z (λ y y' a b. omega arith, omega arith, λ j n. refl, λ z. absurd cc, polls.second))
      (cases_Bool (nat_lt f d.processors)))

  pub signal_bsp : (seen : ℕ) → TurnAt (SignallingBsp seen)
  signal_bsp seen = by_access d s i t (SignallingBsp seen) (word.Pend seen) access.Signal (λ f. (λ y y' a b. omega arith, omega arith, λ j n. refl, λ z. absurd cc, polls.second))

  pub await_inside_again : (looks seen : ℕ) → looks < d.t2 → TurnAt (AwaitingInsideAgain looks seen)
  await_inside_again looks seen l =
      by_access d s i t (AwaitingInsideAgain looks seen) word.Inside access.Look
      (λ f.
      ⊎_elim
      (λ (z : (f == 0) ≡ true).
      simp z
      (⊎_elim
      (λ (q : (looks + 1 == d.t2) ≡ true). simp q (λ y y' a b. omega arith, omega arith, λ j n. refl, λ z. absurd cc, tt))
      (λ (q : (looks + 1 == d.t2) ≡ false). let u = eqb-false (looks + 1) d.t2 q in simp q (λ y y' a b. omega (arith, u, l), omega arith, λ j n. refl, λ z. absurd cc, omega (arith, u, l)))
      (cases_Bool (looks + 1 == d.t2))))
      (λ (z : (f == 0) ≡ false). simp z (λ y y' a b. omega arith, omega arith, λ j n. refl, λ z. absurd cc, tt))
      (cases_Bool (f == 0)))

  pub count_out : (seen : ℕ) → TurnAt (CountingOut seen)
  count_out seen =
      by_access d s i t (CountingOut seen) word.Counter access.Lower
      (λ f.
      ⊎_elim
      (λ (z : (f == LOCKED) ≡ true). simp z (λ y y' a b. omega arith, omega arith, λ j n. refl, λ z. absurd cc, tt))
      (λ (z : (f == LOCKED) ≡ false). simp z (λ y y' a b. omega arith, omega arith, λ j n. refl, λ z. absurd cc, tt))
      (cases_Bool (f == LOCKED)))

  pub seek_bsp : (seen : ℕ) → TurnAt (SeekingBsp seen)
  seek_bsp seen = by_access d s i t (SeekingBsp seen) word.Bsp (access.Seek d.processors) (λ f. (λ y y' a b. omega arith, omega arith, λ j n. refl, λ z. absurd cc, tt))

  -- nothing lies on the word of one that reports
  reports_gave : get_or s.lying.run i None ≡ None → (n f : ℕ) (o : Option Cargo)
      → PeerTurn d s i t Reporting (gives s.words s.lying i (word.Present i) (access.Put 1) n f (OfProcessor (processor_at d i Reporting t)) o)
  reports_gave none n f None = tt
  reports_gave none n f (Some x) = (
    refl,
    given_is (λ q. PeerMoved d s i t Reporting (record s.lying { present = slice_set s.lying.present i (Some x) }) (taken (OfProcessor q) f).after) (processor_at d i Reporting t) i
        (λ held chair ran. (λ y y' a b. let u = ap (waiting d) none in omega (arith, u, a), omega arith, λ j n. refl, λ z. absurd cc, tt)),
  )

  pub reports : get_or s.lying.run i None ≡ None → TurnAt Reporting
  reports none = reports_gave none 1 (get_or s.words.present i 0) _

  pub tell_report : TurnAt TellingReport
  tell_report = by_access d s i t TellingReport (word.Run t.bsp) access.Up (λ f. (λ y y' a b. let u = b refl in omega (arith, u), omega arith, λ j n. refl, λ z. refl, tt))

  -- JOBS

  -- its desk is out, and comes back to its place
  module _ (none : get_or t.held i None ≡ None) (size : i < length t.held) where
    abbrev free : Lying
    free = record s.lying { run = slice_set s.lying.run i None }

    abbrev worker : Bool → Processor → Actor
    worker b q = OfProcessor (between (work_row b) q)

    abbrev awaiter : Processor
    awaiter = processor_at d i AwaitingRelease t

    runs : (j : ℕ) → j ≢ i → get_or free.run j None ≡ get_or s.lying.run j None
    runs j n = get_or-set_other s.lying.run i j None None n

    -- released, with what else came
    let_go : (q : Processor) → q.visits ≡ t.visits → q.bsp ≡ t.bsp → PeerMoved d s i t AwaitingRelease free (worker false q)
    let_go q v k = (λ y y' a b. let u = ap (spare d) v in omega (arith, u), omega arith, runs, λ z. k, tt)

    job : (b : Bool) (desk : Desk) (q : Processor) → job_to_run d (Some desk) ≡ b → get_or s.lying.run i None ≡ Some (cargo.Desk desk) → q.visits ≡ t.visits → q.bsp ≡ t.bsp
        → PeerMoved d s i t AwaitingRelease free (worker b q)
    job false desk q e r v k = let_go q v k
    job true desk q e r v k = (
      λ y y' a b.
          let u = ap (spare d) v in
          let w : waiting d (get_or s.lying.run i None) ≡ 2 = ap (waiting d) r ∙ ap (λ (x : Bool). 2 * bit x) e in
          let w' : waiting d (get_or free.run i None) ≡ 0 = ap (waiting d) (unset s.lying.run i) in
          let c = b refl in omega (arith, u, w, w', c),
      omega arith,
      runs,
      λ z. k,
      tt,
    )

    -- nothing came that it would take
    idle : PeerMoved d s i t AwaitingRelease free (worker (job_to_run d (get_or t.held i None)) awaiter)
    idle = subst (λ (o : Option Desk). PeerMoved d s i t AwaitingRelease free (worker (job_to_run d o) awaiter)) (sym none) (let_go awaiter refl refl)

    came : (n f : ℕ) (x : Cargo) → get_or s.lying.run i None ≡ Some x → PeerTurn d s i t AwaitingRelease (takes s.words s.lying i (word.Run i) access.Down n f (OfProcessor awaiter) (Some x))
    came n f (cargo.Chair x) e =
        let q : Processor = record awaiter { chair = Some x } in
        let one : PeerMoved d s i t AwaitingRelease free (worker (job_to_run d (get_or t.held i None)) q) =
        subst (λ (o : Option Desk). PeerMoved d s i t AwaitingRelease free (worker (job_to_run d o) q)) (sym none) (let_go q refl refl) in
        (refl, either (i == d.processors && x.setup.processors == d.processors) (λ (z : Processor). PeerMoved d s i t AwaitingRelease free (taken (OfProcessor z) f).after) q awaiter one idle)
    came n f (cargo.Desk desk) e =
        let back : get_or (slice_set t.held i (Some desk)) i None ≡ Some desk = get_or-set_same t.held i (Some desk) None size in
        let q : Processor = record awaiter { held = slice_set t.held i (Some desk) } in
        let one : PeerMoved d s i t AwaitingRelease free (worker (job_to_run d (get_or (slice_set t.held i (Some desk)) i None)) q) =
        subst (λ (o : Option Desk). PeerMoved d s i t AwaitingRelease free (worker (job_to_run d o) q)) (sym back) (job (job_to_run d (Some desk)) desk q refl e refl refl) in
        (refl, either (is_kind desk.image.kind d.kind) (λ (z : Processor). PeerMoved d s i t AwaitingRelease free (taken (OfProcessor z) f).after) q awaiter one idle)

    took_desk : (n f : ℕ) (o : Option Cargo) → get_or s.lying.run i None ≡ o → PeerTurn d s i t AwaitingRelease (takes s.words s.lying i (word.Run i) access.Down n f (OfProcessor awaiter) o)
    took_desk n f None e = tt
    took_desk n f (Some x) e = came n f x e

    lowers : (v : ℕ) → PeerTurn d s i t AwaitingRelease (accesses s.words s.lying i (word.Run i) access.Down (Take i) (OfProcessor awaiter) (applied v access.Down))
    lowers v =
        ⊎_elim
        (λ (z : (v == 0) ≡ true). simp z tt)
        (λ (z : (v == 0) ≡ false). simp z (took_desk (v - 1) v (get_or s.lying.run i None) refl))
        (cases_Bool (v == 0))

    pub await_release : TurnAt AwaitingRelease
    await_release = lowers (get_or s.words.run i 0)

  gave_back : (n f : ℕ) (o : Option Cargo) → PeerTurn d s i t GivingBack (gives s.words s.lying i (word.Busy i) (access.Put 2) n f (OfProcessor (processor_at d i GivingBack t)) o)
  gave_back n f None = tt
  gave_back n f (Some x) = (
    refl,
    given_is (λ q. PeerMoved d s i t GivingBack (record s.lying { busy = slice_set s.lying.busy i (Some x) }) (taken (OfProcessor q) f).after) (processor_at d i GivingBack t) i
        (λ held chair ran. (λ y y' a b. let u = b refl in omega (arith, u), omega arith, λ j n. refl, λ z. refl, tt)),
  )

  pub give_back : TurnAt GivingBack
  give_back = gave_back 2 (get_or s.words.busy i 0) _

  -- LEAVING

  pub tell_release : TurnAt TellingRelease
  tell_release = by_access d s i t TellingRelease (word.Run t.bsp) access.Up (λ f. (λ y y' a b. omega arith, omega arith, λ j n. refl, λ z. absurd cc, tt))

  pub await_dismissal : TurnAt AwaitingDismissal
  await_dismissal = by_access d s i t AwaitingDismissal (word.Run i) access.Down (λ f. (λ y y' a b. omega arith, omega arith, λ j n. refl, λ z. absurd cc, tt))

  pub withdraw : TurnAt Withdrawing
  withdraw = by_access d s i t Withdrawing (word.Present i) (access.Put 0) (λ f. (λ y y' a b. omega arith, omega arith, λ j n. refl, λ z. absurd cc, tt))

  pub tell_dismissal : TurnAt TellingDismissal
  tell_dismissal = by_access d s i t TellingDismissal (word.Run t.bsp) access.Up (λ f. (λ y y' a b. omega arith, omega arith, λ j n. refl, λ z. absurd cc, tt))

  pub await_end : TurnAt AwaitingEnd
  await_end = by_access d s i t AwaitingEnd word.Insync (access.Await 0 0) (λ f. (λ y y' a b. omega arith, omega arith, λ j n. refl, λ z. absurd cc, tt))

  pub clear_signal : TurnAt ClearingSignal
  clear_signal =
      by_access d s i t ClearingSignal (word.Pend i) access.ClearSmi
      (λ f.
      resumed_is (PeerMoved d s i t ClearingSignal s.lying) (get_or t.held i None) (processor_at d i ClearingSignal t)
      (λ registers last.
      ⊎_elim
      (λ (z : nat_le d.visits t.visits ≡ true). simp z (λ y y' a b. omega arith, omega arith, λ j n. refl, λ z. absurd cc, tt))
      (λ (z : nat_le d.visits t.visits ≡ false). simp z (λ y y' a b. omega arith, omega arith, λ j n. refl, λ z. absurd cc, tt))
      (cases_Bool (nat_le d.visits t.visits))))

  pub away : TurnAt Away
  away = tt

  -- what the invariant says of it
  pub record IsPeerAt (at : Position) : Type 0 where
    pub visits : at ≡ AwaitingSmi → t.visits < d.visits
    pub unlent : at ≡ Reporting → get_or s.lying.run i None ≡ None
    pub out : at ≡ AwaitingRelease → get_or t.held i None ≡ None
    pub size : i < length t.held
    pub peer : is_bsp (station_of at) ≡ 0
    pub round : RoundFits d (OfProcessor (processor_at d i at t))

  pub peer_turn : (at : Position) → IsPeerAt at → TurnAt at
  peer_turn AwaitingSmi h = await_smi (h.visits refl)
  peer_turn SwitchingOff h = switch_off
  peer_turn LookingAtSource h = look_at_source
  peer_turn (LookingInside source) h = look_inside source
  peer_turn (CountingIn source inside) h = count_in source inside
  peer_turn (ClaimingChair source inside) h = claim_chair source inside
  peer_turn (AskingForChair source inside) h = ask_for_chair source inside
  peer_turn (Leading lead) h = absurd (let e = h.peer in omega (arith, e))
  peer_turn (AwaitingInside looks) h = await_inside looks h.round
  peer_turn FindingBsp h = find_bsp
  peer_turn (SignallingBsp seen) h = signal_bsp seen
  peer_turn (AwaitingInsideAgain looks seen) h = await_inside_again looks seen h.round
  peer_turn (CountingOut seen) h = count_out seen
  peer_turn (SeekingBsp seen) h = seek_bsp seen
  peer_turn Reporting h = reports (h.unlent refl)
  peer_turn TellingReport h = tell_report
  peer_turn AwaitingRelease h = await_release (h.out refl) h.size
  peer_turn GivingBack h = give_back
  peer_turn TellingRelease h = tell_release
  peer_turn AwaitingDismissal h = await_dismissal
  peer_turn Withdrawing h = withdraw
  peer_turn TellingDismissal h = tell_dismissal
  peer_turn AwaitingEnd h = await_end
  peer_turn ClearingSignal h = clear_signal
  peer_turn Away h = away

-- Each step keeps what holds of the world alone, where what holds of the session holds.
use Rattle.std.proofs.Common.{ℕ, ◌+◌, ◌-◌, ◌%◌, ◌≡◌, ◌≢◌, ◌<◌, ◌≤◌, ⊎_elim, arith, Bool, true, false, List, length, get_or, slice_set, Option, Some, None, refl, sym, ap, subst, ◌∙◌}
use Rattle.std.specs.Prelude.{◌==◌, ◌||◌, if◌then◌else◌, nat_lt, slice_get, slice_index_or, IsSomeAnd}
use Rattle.std.proofs.lemmas.Bool.{cases_eq, cases_lt, cases_Bool, eq-eqb, ne_eqb, lt-ltb, le-ltb, ltb-false}
use Rattle.std.proofs.lemmas.List.{get_or-set_same, get_or-set_other, length-set}
use Rattle.std.proofs.lemmas.Option.{get_or_from_slice_get}
use Rattle.cpu_table.specs.Data.{SetupData}
use Rattle.cpu_table.specs.declared.waves.Arrival.{Arrival}
use Rattle.cpu_table.specs.declared.waves.Arrival.TheVariants.{Prompt, Delayed, Blocked, Absent}
use Rattle.cpu_table.specs.Waves.{arrivals_of, blocked_in}
use Rattle.sync_words.specs.declared.access.Access.TheVariants.{Signal}
use Rattle.sync_words.specs.declared.event.Hand.TheVariants.{Nothing}
use Rattle.sync_words.specs.declared.event.Want.TheVariants as want
use Rattle.sync_words.specs.declared.row.Row.TheVariants as row
use Rattle.sync_words.specs.declared.word.WordId.TheVariants as word
use Rattle.smm_base.specs.declared.status.Status.{Status}
use Rattle.save_state_map.specs.Images.{ImageContents}
use Rattle.cpu_program.specs.declared.part.Part.{Part}
use Rattle.cpu_program.specs.declared.part.Part.TheVariants as part
use Rattle.handler_ops.specs.declared.desk.Desk.{Desk}
use Rattle.handler_ops.specs.declared.desk.Job.{Job}
use Rattle.handler_ops.specs.declared.need.Need.{Need}
use Rattle.handler_ops.specs.declared.need.Need.TheVariants as need
use Rattle.handler_ops.specs.Sessions.{Session as Chair}
use Rattle.handler_ops.specs.Told.{need_as}
use Rattle.cpu_program.specs.declared.cargo.Cargo.TheVariants as cargo
use Rattle.cpu_program.specs.Actors.{Actor, Processor, OfProcessor, OfChipset}
use Rattle.chipset.specs.Chipsets.{signal_for, signal_in, is_watched, Chipset, first_chipset}
use Rattle.cpu_program.specs.Hands.{is_kind}
use Rattle.cpu_program.specs.Processors.{entered, is_relaxed, job_to_run, own_desk, resumed, taken_in, want_for, want_of_session}
use Rattle.cpu_program.specs.Programs.{want_of}
use Rattle.rendezvous_core.specs.Worlds.{World, Words, Lying, turn, step, step_of, turn_wanting}
use Rattle.rendezvous_machine.specs.Machines.{Machine, member}
use Rattle.schedule_laws.proofs.Scenes.{Scene, Seat, Herald, AnnouncingBlocked, AnnouncingWave, Raising, Watching, AwaitingServed, TurningOff, Silenced, Position, Lead, MarkingInside, TakingSource, LookingAtExcept, GatheringFirst, FindingMissing, SignallingMissing, GatheringSecond, MarkingInsync, LockingCounter, AwaitingReports, TakingDesk, BeginningToServe, AtHandlers, Collecting, LeavingInside, Releasing, AwaitingReleased, Dismissing, AwaitingDismissed, GivingChair, LeavingInsync, UnlockingCounter, AwaitingSmi, SwitchingOff, LookingAtSource, LookingInside, CountingIn, ClaimingChair, AskingForChair, Leading, AwaitingInside, FindingBsp, SignallingBsp, AwaitingInsideAgain, CountingOut, SeekingBsp, Reporting, TellingReport, AwaitingRelease, GivingBack, TellingRelease, AwaitingDismissal, Withdrawing, TellingDismissal, AwaitingEnd, ClearingSignal, Away, seat, row_at, chipset_at, chipset_of, processor_at, processor_of, part_at, actors_of, world_of, seat_get, watch_from, beyond_from}
use Rattle.schedule_laws.proofs.Stations.{station_of, low, work_of, work_done}
use Rattle.schedule_laws.proofs.Leads.{stage_in}
use Rattle.schedule_laws.proofs.Invariant.{Context, View, IsCpu, IsIdle, IsAt, Holds, desk_at, view, view_at}
use Rattle.schedule_laws.proofs.Frames.{IsMover, mover, own_at, run_of}
use Rattle.schedule_laws.proofs.Facts.{is_free, true_false}
use Rattle.schedule_laws.proofs.ImageKinds.{is_same_kind}
use Rattle.schedule_laws.proofs.LeadFrames.{the_bsp}
use Rattle.ending_laws.proofs.Parts.{class_of, most_of, most_led, most_led-le, goes_on, apart_on, resumed_class, leaver_low, server_leads, server_stage}
use Rattle.ending_laws.proofs.Leaders.{lead_of}
use Rattle.ending_laws.proofs.Steady.{IsPend, IsSteady, SteadyTurn, Lands, actor_at, class_at, class_in, told, told_in, told_row, moved, moved_chip, written, low_digit, other_word, plain, turned_steady}

-- IN A SCENE

pub actor_is : (d : SetupData) (s : Scene) (i : ℕ) → i < length s.seats → actor_at d (world_of d s) i ≡ processor_of d i (seat s i)
actor_is d s i l = get_or_from_slice_get (actors_of d s) i (processor_of d i (seat s i)) (OfChipset (first_chipset d)) (seat_get d s i l)

pub class_is : (d : SetupData) (s : Scene) (i : ℕ) → i < length s.seats → class_at d (world_of d s) i ≡ class_of (part_at d i (seat s i).position (seat s i))
class_is d s i l = ap class_in (actor_is d s i l)

pub told_is : (d : SetupData) (s : Scene) → length s.seats ≡ d.processors → told d (world_of d s) ≡ told_row d.processors (row_at s.watch.herald)
told_is d s e =
    let at : slice_get (actors_of d s) d.processors ≡ Some (chipset_of d s.watch) = ap (λ (k : ℕ). slice_get (actors_of d s) k) (sym e) ∙ watch_from d 0 s.seats s.watch in
    ap (told_in d.processors) (get_or_from_slice_get (actors_of d s) d.processors (chipset_of d s.watch) (OfChipset (first_chipset d)) at)

-- WHO SERVES AND WHO LEAVES

-- the stage is that of the BSP's position
lead_stage : (d : SetupData) (c : Context) (i : ℕ) (s : Scene) (m : Machine) (lead : Lead) → Holds d c s m → i < d.processors → (seat s i).position ≡ Leading lead
    → (stage_in lead (is_relaxed d.mode) ≡ c.stage) × (i ≡ c.bsp)
lead_stage d c i s m lead f l q =
    let k : i ≡ c.bsp = the_bsp d c i s m (seat s i) lead f l refl q in
    let few = f.ready.platform.few in
    let st : 1 ≤ c.stage = ⊎_elim (λ (z : c.stage ≡ 0). let y = f.ready.words.no_bsp z in absurd (omega arith)) (λ (z : c.stage ≢ 0). omega arith) (cases_eq c.stage 0) in
    let at : IsAt d c m.registrations m.pool (seat s c.bsp) = f.at st in
    let same : at.lead ≡ lead = ap lead_of (sym at.position ∙ ap (λ (x : ℕ). (seat s x).position) (sym k) ∙ q) in
    (ap (λ (x : Lead). stage_in x (is_relaxed d.mode)) (sym same) ∙ at.is.stage, k)

-- once the BSP releases, nobody serves
no_servers : (d : SetupData) (c : Context) (s : Scene) (m : Machine) → Holds d c s m → 14 ≤ c.stage → (b : ℕ) → b < d.processors → class_at d (world_of d s) b ≢ 1
no_servers d c s m f st b l =
    λ e.
    let ls : b < length s.seats = rw f.ready.sized.seats l in
    let h = server_leads d b (seat s b) (seat s b).position (sym (class_is d s b ls) ∙ e) in
    let a = lead_stage d c b s m h.0 f l h.1 in
    let k = server_stage d b (seat s b) h.0 (is_relaxed d.mode) h.2 in
    omega (arith, a.0, k, st)

-- before, and where no job can be open, nobody was released
no_leavers : (d : SetupData) (c : Context) (s : Scene) (m : Machine) → Holds d c s m → c.stage ≤ 14 → ((j : ℕ) → j < d.processors → (view s m j).work ≡ 0) → (j : ℕ) → j < d.processors
    → class_at d (world_of d s) j ≢ 2
no_leavers d c s m f st idle j l =
    λ e.
    let g = f.ready in
    let ls : j < length s.seats = rw g.sized.seats l in
    let v : View = view s m j in
    let some : 1 ≤ low v.departed v.station = leaver_low d j v.departed (seat s j) (seat s j).position (sym (class_is d s j ls) ∙ e) in
    let own = g.each j l in
    ⊎_elim
    (λ (q : j ≡ c.bsp). let z = ap (low v.departed) (own.leader q).station in omega (arith, some, z))
    (λ (q : j ≢ c.bsp).
    let un = own.team.unreleased st in
    let wk = idle j l in
    let up = (g.runs j l q).upto (omega (arith, st)) (λ z. omega (arith, wk, z)) in
    omega (arith, some, un, up))
    (cases_eq j c.bsp)

-- a job that is open is run
undone : (o : Option (ℕ × Status)) → work_done o ≡ 1 → o ≡ None
undone None h = refl
undone (Some a) h = absurd (omega (arith, h))

can_run_open : (d : SetupData) (image : ImageContents) (o : Option Job) → work_of o ≡ 1 → IsSomeAnd o (λ x. x.procedure < length d.procedures)
    → job_to_run d (Some (desk_at image o)) ≡ true
can_run_open d image None h p = absurd p
can_run_open d image (Some job) h p = simp (undone job.done h, lt-ltb job.procedure (length d.procedures) p) refl

module _ (d : SetupData) (c : Context) (i : ℕ) (s : Scene) (m : Machine) (f : Holds d c s m) (k : IsSteady d (world_of d s)) (l : i < d.processors) where
  abbrev w : World
  w = world_of d s

  abbrev t : Seat
  t = seat s i

  within : i < length s.seats
  within = rw f.ready.sized.seats l

  -- a position of one of three loops of the BSP where no job can be open
  early : (lead : Lead) → t.position ≡ Leading lead → (stage_in lead (is_relaxed d.mode) ≤ 3) → (j : ℕ) → j < d.processors → j ≢ i → class_at d w j ≢ 2
  early lead q few j lj n =
      let st = (lead_stage d c i s m lead f l q).0 in no_leavers d c s m f (omega (arith, st, few)) (λ y ly. (f.ready.each y ly).team.idle_early (omega (arith, st, few))) j lj

  mid : (lead : Lead) → t.position ≡ Leading lead → 5 ≤ stage_in lead (is_relaxed d.mode) → stage_in lead (is_relaxed d.mode) ≤ 12 → (j : ℕ) → j < d.processors → j ≢ i → class_at d w j ≢ 2
  mid lead q some few j lj n =
      let st = (lead_stage d c i s m lead f l q).0 in
      no_leavers d c s m f (omega (arith, st, few)) (λ y ly. (f.ready.each y ly).team.idle_mid (omega (arith, st, some)) (omega (arith, st, few))) j lj

  served : (at : Position) → t.position ≡ at → class_of (part_at d i at t) ≡ 1 → (j : ℕ) → j < d.processors → j ≢ i → class_at d w j ≢ 2
  served at q e j lj n = k.staying i j l lj (class_is d s i within ∙ ap (λ (x : Position). class_of (part_at d i x t)) q ∙ e)

  -- the BSP serves only while nobody leaves
  calm_lead : (lead : Lead) → t.position ≡ Leading lead → most_led lead ≡ 1 → (j : ℕ) → j < d.processors → j ≢ i → class_at d w j ≢ 2
  calm_lead MarkingInside q e = early MarkingInside q (omega arith)
  calm_lead TakingSource q e = early TakingSource q (omega arith)
  calm_lead LookingAtExcept q e = early LookingAtExcept q (omega arith)
  calm_lead (GatheringFirst looks) q e = mid (GatheringFirst looks) q (omega arith) (omega arith)
  calm_lead (FindingMissing x) q e = mid (FindingMissing x) q (omega arith) (omega arith)
  calm_lead (SignallingMissing x) q e = mid (SignallingMissing x) q (omega arith) (omega arith)
  calm_lead (GatheringSecond looks) q e = mid (GatheringSecond looks) q (omega arith) (omega arith)
  calm_lead MarkingInsync q e = mid MarkingInsync q (omega arith) (omega arith)
  calm_lead LockingCounter q e = mid LockingCounter q (omega arith) (omega arith)
  calm_lead (AwaitingReports left) q e = mid (AwaitingReports left) q (omega arith) (omega arith)
  calm_lead (TakingDesk x) q e = mid (TakingDesk x) q (omega arith) (omega arith)
  calm_lead BeginningToServe q e = served (Leading BeginningToServe) q refl
  calm_lead AtHandlers q e = served (Leading AtHandlers) q refl
  calm_lead (Collecting x) q e = served (Leading (Collecting x)) q refl
  calm_lead _ q e = absurd (omega (arith, e))

  abbrev Leavers : Position → Type 0
  Leavers at = most_of at ≡ 1 → (j : ℕ) → j < d.processors → j ≢ i → class_at d w j ≢ 2

  abbrev Servers : Position → Type 0
  Servers at = most_of at ≡ 2 → (b : ℕ) → b < d.processors → b ≢ i → class_at d w b ≢ 1

  -- one that left already finds nobody serve
  left_before : (at : Position) → t.position ≡ at → class_of (part_at d i at t) ≡ 2 → Servers at
  left_before at q e z b lb n =
      λ x. k.staying b i lb l x (class_is d s i within ∙ ap (λ (y : Position). class_of (part_at d i y t)) q ∙ e)

  -- the processor goes on from this position, with these signals
  lands_with : (at : Position) → most_of at ≤ 2 → Leavers at → Servers at → (q : Processor) (found : ℕ) → q.part ≡ part_at d i at t → (words : Words) (lying : Lying)
      → length words.pend ≡ d.processors → ((j : ℕ) → j < d.processors → IsPend (told d w) j (class_at d w j) (get_or words.pend j 0))
      → IsSteady d (record { words = words; lying = lying; actors = slice_set w.actors i (OfProcessor (taken_in q.part q found).after) })
  lands_with at few leavers servers q found e words lying size signals =
      let a : Actor = OfProcessor (taken_in q.part q found).after in
      let most : class_in a ≤ most_of at = subst (λ (x : Part). class_of (taken_in x q found).after.part ≤ most_of at) (sym e) (goes_on d i t q found at e few) in
      let own = signals i l in
      moved d w i words lying a k l size (λ j lj n. signals j lj)
      (record { below = own.below; out = λ z. absurd (omega (arith, z, most, few)); off = λ z. absurd (omega (arith, z, most, few)); last = own.last })
      (λ one.
      ⊎_elim
      (λ (z : most_of at ≡ 1). leavers z)
      (λ (z : most_of at ≢ 1).
      absurd (apart_on d i t q found at (omega (arith, one, most, few, z)) (subst (λ (x : Part). class_of (taken_in x q found).after.part ≡ 1) e one)))
      (cases_eq (most_of at) 1))
      (λ two. servers (omega (arith, two, most, few)))

  lands : (at : Position) → most_of at ≤ 2 → Leavers at → Servers at → Lands d w i (part_at d i at t)
  lands at few leavers servers q found e words lying same =
      lands_with at few leavers servers q found e words lying (ap (λ (xs : List ℕ). length xs) same ∙ k.pend)
      (λ j lj. subst (λ (xs : List ℕ). IsPend (told d w) j (class_at d w j) (get_or xs j 0)) (sym same) (k.each j lj))

  abbrev TurnAt : Position → Type 0
  TurnAt at = SteadyTurn d w i (turn s.words s.lying i (OfProcessor (processor_at d i at t)))

  plainly : (at : Position) → Lands d w i (part_at d i at t) → other_word (want_of (OfProcessor (processor_at d i at t))) ≡ 1 → TurnAt at
  plainly at h e = plain d w i (processor_at d i at t) h (want_of (OfProcessor (processor_at d i at t))) e

  -- a position of an AP from which it neither serves nor leaves
  calm : (at : Position) → most_of at ≡ 0 → Lands d w i (part_at d i at t)
  calm at e = lands at (omega (arith, e)) (λ z. absurd (omega (arith, e, z))) (λ z. absurd (omega (arith, e, z)))

  led_lands : (lead : Lead) → t.position ≡ Leading lead → Lands d w i (part_at d i (Leading lead) t)
  led_lands lead q = let a = most_led-le lead in lands (Leading lead) (omega (arith, a)) (calm_lead lead q) (λ z. absurd (omega (arith, a, z)))

  leaver_lands : (at : Position) → most_of at ≡ 2 → t.position ≡ at → class_of (part_at d i at t) ≡ 2 → Lands d w i (part_at d i at t)
  leaver_lands at e q h = lands at (omega (arith, e)) (λ z. absurd (omega (arith, e, z))) (left_before at q h)

  -- a signal to the processor j
  signals_at : (at : Position) (j : ℕ) → most_of at ≤ 2 → Leavers at → Servers at → SteadyTurn d w i (turn_wanting s.words s.lying i (OfProcessor (processor_at d i at t)) (want.Access (word.Pend j) Signal Nothing))
  signals_at at j few leavers servers =
      let v : ℕ = get_or s.words.pend j 0 in
      let p : Processor = processor_at d i at t in
      let stays = lands_with at few leavers servers p v refl s.words s.lying k.pend k.each in
      let pend : List ℕ = slice_set s.words.pend j (v - v % 8 + 1) in
      let wrote : v % 8 ≢ 4 → IsSteady d (record { words = record s.words { pend = pend }; lying = s.lying; actors = slice_set w.actors i (OfProcessor (taken_in (part_at d i at t) p v).after) }) =
      (λ z. lands_with at few leavers servers p v refl (record s.words { pend = pend }) s.lying (length-set s.words.pend j (v - v % 8 + 1) ∙ k.pend)
      (written d w j (v - v % 8 + 1) (told d w) k.pend k.each (λ a h. low_digit (told d w) j v 1 (class_at d w j) (omega arith) z h))) in
      ⊎_elim
      (λ (z : (v % 8 == 0 || v % 8 == 2) ≡ true). simp z (wrote (λ y. true_false false (subst (λ (x : ℕ). (x == 0 || x == 2) ≡ true) y z) refl)))
      (λ (z : (v % 8 == 0 || v % 8 == 2) ≡ false). simp z stays)
      (cases_Bool (v % 8 == 0 || v % 8 == 2))

  -- ITS OWN SIGNAL

  -- it has this signal, and is of a class that neither serves nor leaves
  signalled : (a : Actor) (x : ℕ) → (class_in a ≡ 1 → ⊥) → (class_in a ≡ 2 → ⊥) → (IsPend (told d w) i (class_at d w i) (get_or s.words.pend i 0) → IsPend (told d w) i (class_in a) x)
      → IsSteady d (record { words = record s.words { pend = slice_set s.words.pend i x }; lying = s.lying; actors = slice_set w.actors i a })
  signalled a x one two h =
      let pend : List ℕ = slice_set s.words.pend i x in
      let there : i < length s.words.pend = rw k.pend l in
      moved d w i (record s.words { pend = pend }) s.lying a k l (length-set s.words.pend i x ∙ k.pend)
      (λ j lj n. subst (λ (z : ℕ). IsPend (told d w) j (class_at d w j) z) (sym (get_or-set_other s.words.pend i j x 0 n)) (k.each j lj))
      (subst (λ (z : ℕ). IsPend (told d w) i (class_in a) z) (sym (get_or-set_same s.words.pend i x 0 there)) (h (k.each i l)))
      (λ z. absurd (one z)) (λ z. absurd (two z))

  unsignalled : (a : Actor) → (class_in a ≡ 1 → ⊥) → (class_in a ≡ 2 → ⊥) → (IsPend (told d w) i (class_at d w i) (get_or s.words.pend i 0) → IsPend (told d w) i (class_in a) (get_or s.words.pend i 0))
      → IsSteady d (record { words = s.words; lying = s.lying; actors = slice_set w.actors i a })
  unsignalled a one two h = moved d w i s.words s.lying a k l k.pend (λ j lj n. k.each j lj) (h (k.each i l)) (λ z. absurd (one z)) (λ z. absurd (two z))

  await_smi : TurnAt AwaitingSmi
  await_smi =
      let v : ℕ = get_or s.words.pend i 0 in
      let p : Processor = processor_at d i AwaitingSmi t in
      ⊎_elim
      (λ (z : v ≡ 4). simp (eq-eqb v 4 z, ne_eqb v 1 (λ y. omega (arith, z, y)))
      (unsignalled (OfProcessor (record p { part = part.Off })) (λ y. omega (arith, y)) (λ y. omega (arith, y)) (λ h. record { below = h.below; out = λ _. omega (arith, z); off = λ _. omega (arith, z); last = h.last })))
      (λ (z : v ≢ 4).
      ⊎_elim
      (λ (y : v ≡ 1). simp (ne_eqb v 4 z, eq-eqb v 1 y)
      (signalled (OfProcessor (entered p)) 8 (λ x. omega (arith, x)) (λ x. omega (arith, x)) (λ h. record { below = omega arith; out = λ x. absurd (omega (arith, x)); off = λ x. absurd (omega (arith, x)); last = λ x. let u = h.last x in absurd (omega (arith, u, y)) })))
      (λ (y : v ≢ 1). simp (ne_eqb v 4 z, ne_eqb v 1 y) tt)
      (cases_eq v 1))
      (cases_eq v 4)

  switch_off : TurnAt SwitchingOff
  switch_off = signalled (OfProcessor (record (processor_at d i SwitchingOff t) { part = part.Off })) 4 (λ y. omega (arith, y)) (λ y. omega (arith, y)) (λ h. record { below = omega arith; out = λ _. omega arith; off = λ _. refl; last = λ _. refl })

  clear_signal : TurnAt ClearingSignal
  clear_signal =
      let v : ℕ = get_or s.words.pend i 0 in
      let p : Processor = processor_at d i ClearingSignal t in
      let a : Actor = OfProcessor (resumed (own_desk p) p) in
      let e : class_in a ≡ 3 = resumed_class (own_desk p) p in
      ⊎_elim
      (λ (z : v < 8). simp (lt-ltb v 8 z)
      (unsignalled a (λ y. omega (arith, e, y)) (λ y. omega (arith, e, y)) (λ h. record { below = h.below; out = λ _. z; off = λ x. absurd (omega (arith, e, x)); last = h.last })))
      (λ (z : 8 ≤ v). simp (le-ltb v 8 z)
      (signalled a (v - 8) (λ y. omega (arith, e, y)) (λ y. omega (arith, e, y))
      (λ h. let b = h.below in record { below = omega (arith, b); out = λ _. omega (arith, b, z); off = λ x. absurd (omega (arith, e, x)); last = λ x. let u = h.last x in omega (arith, u, z) })))
      (cases_lt v 8)

  -- AN AP IS RELEASED, OR GIVEN A JOB

  await_release : t.position ≡ AwaitingRelease → TurnAt AwaitingRelease
  await_release q =
      let g = f.ready in
      let v : View = view_at (station_of AwaitingRelease) t s m i in
      let own : IsCpu d c m.waves i (view_at (station_of AwaitingRelease) t s m i) = own_at d c i s m t AwaitingRelease f l refl q in
      let h : IsMover d c i s m t AwaitingRelease = mover d c i s m t AwaitingRelease refl f l refl q in
      let nb : i ≢ c.bsp = h.other in
      let x : ℕ = get_or s.words.run i 0 in
      let idle : IsIdle d c i t = g.idle i l nb in
      let kind : is_kind (member m i).image.kind d.kind ≡ true = is_same_kind (member m i).image.kind d.kind own.self.kind in
      ⊎_elim
      (λ (z : x ≡ 0). rw (eq-eqb x 0 z) tt)
      (λ (z : x ≢ 0).
      let one : 1 ≤ x = omega (arith, z) in
      ⊎_elim
      (λ (b : v.work ≡ 1).
      let desk : Desk = desk_at (member m i).image (member m i).job in
      let lies : get_or s.lying.run i None ≡ Some (cargo.Desk desk) = own.self.on_run_job b refl in
      let put : get_or (slice_set t.held i (Some desk)) i None ≡ Some desk = get_or-set_same t.held i (Some desk) None (rw idle.size l) in
      let some : 1 ≤ work_of (member m i).job = omega (arith, b) in
      let can : job_to_run d (Some desk) ≡ true = can_run_open d (member m i).image (member m i).job b ((g.jobs i l nb).procedure some) in
      simp (ne_eqb x 0 z, lies, kind, put, can)
      (moved d w i (record s.words { run = slice_set s.words.run i (x - 1) }) (record s.lying { run = slice_set s.lying.run i None }) (processor_of d i (record t { position = GivingBack; held = slice_set t.held i (Some desk) })) k l k.pend (λ j lj n. k.each j lj)
      (let e = k.each i l in record { below = e.below; out = λ y. absurd (omega (arith, y)); off = λ y. absurd (omega (arith, y)); last = e.last }) (λ y. absurd (omega (arith, y))) (λ y. absurd (omega (arith, y)))))
      (λ (b : v.work ≢ 1).
      let free : v.released ≡ 1 = is_free c i x v one b refl own.self.team_bit own.self.released_bit (own.peer nb) (run_of d c i s m t AwaitingRelease h) in
      let late : 15 ≤ c.stage = ⊎_elim (λ (y : c.stage < 15). let u = own.team.unreleased (omega (arith, y)) in absurd (omega (arith, u, free))) (λ (y : 15 ≤ c.stage). y) (cases_lt c.stage 15) in
      plainly AwaitingRelease (lands AwaitingRelease (omega arith) (λ y. absurd (omega (arith, y))) (λ _ y ly n. no_servers d c s m f (omega (arith, late)) y ly)) refl)
      (cases_eq v.work 1))
      (cases_eq x 0)

  -- EACH POSITION

  other_need : (n : Need) → other_word (want_for n) ≡ 1
  other_need need.Look = refl
  other_need (need.ClaimPresent c) = refl
  other_need (need.ClaimBusy c) = refl
  other_need (need.AwaitBusy c) = refl
  other_need (need.PutBusy c) = refl
  other_need (need.RaiseRun c) = refl
  other_need need.Finished = refl

  other_served : (o : Option Chair) → other_word (want_of_session o) ≡ 1
  other_served None = refl
  other_served (Some x) = other_need (need_as x.told)

  led_turn : (lead : Lead) → t.position ≡ Leading lead → TurnAt (Leading lead)
  led_turn (SignallingMissing j) q = signals_at (Leading (SignallingMissing j)) j (omega arith) (calm_lead (SignallingMissing j) q) (λ z. absurd (omega (arith, z)))
  led_turn BeginningToServe q = plainly (Leading BeginningToServe) (led_lands BeginningToServe q) (other_served t.chair)
  led_turn AtHandlers q = plainly (Leading AtHandlers) (led_lands AtHandlers q) (other_served t.chair)
  led_turn MarkingInside q = plainly (Leading MarkingInside) (led_lands MarkingInside q) refl
  led_turn TakingSource q = plainly (Leading TakingSource) (led_lands TakingSource q) refl
  led_turn LookingAtExcept q = plainly (Leading LookingAtExcept) (led_lands LookingAtExcept q) refl
  led_turn (GatheringFirst looks) q = plainly (Leading (GatheringFirst looks)) (led_lands (GatheringFirst looks) q) refl
  led_turn (FindingMissing j) q = plainly (Leading (FindingMissing j)) (led_lands (FindingMissing j) q) refl
  led_turn (GatheringSecond looks) q = plainly (Leading (GatheringSecond looks)) (led_lands (GatheringSecond looks) q) refl
  led_turn MarkingInsync q = plainly (Leading MarkingInsync) (led_lands MarkingInsync q) refl
  led_turn LockingCounter q = plainly (Leading LockingCounter) (led_lands LockingCounter q) refl
  led_turn (AwaitingReports left) q = plainly (Leading (AwaitingReports left)) (led_lands (AwaitingReports left) q) refl
  led_turn (TakingDesk j) q = plainly (Leading (TakingDesk j)) (led_lands (TakingDesk j) q) refl
  led_turn (Collecting j) q = plainly (Leading (Collecting j)) (led_lands (Collecting j) q) refl
  led_turn LeavingInside q = plainly (Leading LeavingInside) (led_lands LeavingInside q) refl
  led_turn (Releasing j) q = plainly (Leading (Releasing j)) (led_lands (Releasing j) q) refl
  led_turn (AwaitingReleased left) q = plainly (Leading (AwaitingReleased left)) (led_lands (AwaitingReleased left) q) refl
  led_turn (Dismissing j) q = plainly (Leading (Dismissing j)) (led_lands (Dismissing j) q) refl
  led_turn (AwaitingDismissed left) q = plainly (Leading (AwaitingDismissed left)) (led_lands (AwaitingDismissed left) q) refl
  led_turn GivingChair q = plainly (Leading GivingChair) (led_lands GivingChair q) refl
  led_turn LeavingInsync q = plainly (Leading LeavingInsync) (led_lands LeavingInsync q) refl
  led_turn UnlockingCounter q = plainly (Leading UnlockingCounter) (led_lands UnlockingCounter q) refl

  seat_turn : (at : Position) → t.position ≡ at → TurnAt at
  seat_turn AwaitingSmi q = await_smi
  seat_turn SwitchingOff q = switch_off
  seat_turn ClearingSignal q = clear_signal
  seat_turn Away q = tt
  seat_turn AwaitingRelease q = await_release q
  seat_turn (Leading lead) q = led_turn lead q
  seat_turn (SignallingBsp seen) q = signals_at (SignallingBsp seen) seen (omega arith) (λ z. absurd (omega (arith, z))) (λ z. absurd (omega (arith, z)))
  seat_turn LookingAtSource q = plainly LookingAtSource (calm LookingAtSource refl) refl
  seat_turn (LookingInside source) q = plainly (LookingInside source) (calm (LookingInside source) refl) refl
  seat_turn (CountingIn source inside) q = plainly (CountingIn source inside) (calm (CountingIn source inside) refl) refl
  seat_turn (ClaimingChair source inside) q = plainly (ClaimingChair source inside) (calm (ClaimingChair source inside) refl) refl
  seat_turn (AskingForChair source inside) q = plainly (AskingForChair source inside) (calm (AskingForChair source inside) refl) refl
  seat_turn (AwaitingInside looks) q = plainly (AwaitingInside looks) (calm (AwaitingInside looks) refl) refl
  seat_turn FindingBsp q = plainly FindingBsp (calm FindingBsp refl) refl
  seat_turn (AwaitingInsideAgain looks seen) q = plainly (AwaitingInsideAgain looks seen) (calm (AwaitingInsideAgain looks seen) refl) refl
  seat_turn (CountingOut seen) q = plainly (CountingOut seen) (calm (CountingOut seen) refl) refl
  seat_turn (SeekingBsp seen) q = plainly (SeekingBsp seen) (calm (SeekingBsp seen) refl) refl
  seat_turn Reporting q = plainly Reporting (calm Reporting refl) refl
  seat_turn TellingReport q = plainly TellingReport (calm TellingReport refl) refl
  seat_turn GivingBack q = plainly GivingBack (calm GivingBack refl) refl
  seat_turn TellingDismissal q = plainly TellingDismissal (calm TellingDismissal refl) refl
  seat_turn AwaitingEnd q = plainly AwaitingEnd (calm AwaitingEnd refl) refl
  seat_turn TellingRelease q = plainly TellingRelease (leaver_lands TellingRelease refl q refl) refl
  seat_turn AwaitingDismissal q = plainly AwaitingDismissal (leaver_lands AwaitingDismissal refl q refl) refl
  seat_turn Withdrawing q = plainly Withdrawing (leaver_lands Withdrawing refl q refl) refl

-- THE CHIPSET

module _ (d : SetupData) (s : Scene) (k : IsSteady d (world_of d s)) (size : length s.seats ≡ d.processors) (some : 1 ≤ d.processors) where
  abbrev n : ℕ
  n = d.processors

  abbrev u : World
  u = world_of d s

  abbrev HeraldTurn : Herald → Type 0
  HeraldTurn h = SteadyTurn d u n (turn s.words s.lying n (OfChipset (chipset_at d h s.watch)))

  -- it goes on, and has told nobody to turn off
  quiet : (words : Words) (c : Chipset) → words.pend ≡ s.words.pend → told_row n c.row ≡ 0 → IsSteady d (record { words = words; lying = s.lying; actors = slice_set u.actors n (OfChipset c) })
  quiet words c same e =
      moved_chip d u words s.lying c k (ap (λ (xs : List ℕ). length xs) same ∙ k.pend)
      (λ j l.
      let h = k.each j l in
      subst (λ (xs : List ℕ). IsPend (told_row n c.row) j (class_at d u j) (get_or xs j 0)) (sym same)
      (record { below = h.below; out = h.out; off = h.off; last = λ z. absurd (omega (arith, z, e)) }))

  raise_told : (b : Bool) (j : ℕ) → told_row n (Some (if b then row.RaiseWave j else row.WatchSource 0)) ≡ 0
  raise_told true j = refl
  raise_told false j = refl

  watch_told : (b : Bool) (j : ℕ) → told_row n (Some (if b then row.AwaitServed else row.WatchSource j)) ≡ 0
  watch_told true j = refl
  watch_told false j = refl

  signal_le : (a : Arrival) → signal_for a ≤ 3
  signal_le Prompt = omega arith
  signal_le Delayed = omega arith
  signal_le Blocked = omega arith
  signal_le Absent = omega arith

  raise_wave : (j : ℕ) → HeraldTurn (Raising j)
  raise_wave j =
      let v : ℕ = get_or s.words.pend j 0 in
      let x : ℕ = signal_in d.waves s.watch.wave j in
      let le : x ≤ 3 = signal_le (slice_index_or (arrivals_of d.waves s.watch.wave) j Absent) in
      let c : Chipset = record { setup = d; row = Some (if nat_lt (j + 1) n then row.RaiseWave (j + 1) else row.WatchSource 0); wave = s.watch.wave } in
      let e : told_row n c.row ≡ 0 = raise_told (nat_lt (j + 1) n) (j + 1) in
      ⊎_elim
      (λ (z : v % 8 ≡ 4). simp (eq-eqb (v % 8) 4 z) (quiet s.words c refl e))
      (λ (z : v % 8 ≢ 4).
      ⊎_elim
      (λ (y : v % 8 ≡ 1). simp (ne_eqb (v % 8) 4 z, eq-eqb (v % 8) 1 y) tt)
      (λ (y : v % 8 ≢ 1). simp (ne_eqb (v % 8) 4 z, ne_eqb (v % 8) 1 y)
      (moved_chip d u (record s.words { pend = slice_set s.words.pend j (v - v % 8 + x) }) s.lying c k (length-set s.words.pend j (v - v % 8 + x) ∙ k.pend)
      (written d u j (v - v % 8 + x) (told_row n c.row) k.pend (λ i l. let h = k.each i l in record { below = h.below; out = h.out; off = h.off; last = λ a. absurd (omega (arith, a, e)) })
      (λ a h. low_digit (told_row n c.row) j v x (class_at d u j) (omega (arith, le)) z h))))
      (cases_eq (v % 8) 1))
      (cases_eq (v % 8) 4)

  off_told : (j i : ℕ) (b : Bool) → nat_lt (j + 1) n ≡ b → i < n → i < told_row n (if b then Some (row.RaiseOff (j + 1)) else None) → i ≤ j
  off_told j i true e l h = omega (arith, h)
  off_told j i false e l h = let g = ltb-false (j + 1) n e in omega (arith, g, l)

  turn_off : (j : ℕ) → s.watch.herald ≡ TurningOff j → HeraldTurn (TurningOff j)
  turn_off j q =
      let v : ℕ = get_or s.words.pend j 0 in
      let c : Chipset = record { setup = d; row = if nat_lt (j + 1) n then Some (row.RaiseOff (j + 1)) else None; wave = s.watch.wave } in
      let before : told d u ≡ j = told_is d s size ∙ ap (λ (h : Herald). told_row n (row_at h)) q in
      let here : (i : ℕ) → i < n → i < told_row n c.row → i ≢ j → get_or s.words.pend i 0 % 8 ≡ 4 =
      (λ i l a b. let e = off_told j i (nat_lt (j + 1) n) refl l a in (k.each i l).last (omega (arith, e, b, before))) in
      ⊎_elim
      (λ (z : v % 8 ≡ 4). simp (eq-eqb (v % 8) 4 z)
      (moved_chip d u s.words s.lying c k k.pend
      (λ i l.
      let h = k.each i l in
      record { below = h.below; out = h.out; off = h.off; last = λ a. ⊎_elim (λ (b : i ≡ j). ap (λ (y : ℕ). get_or s.words.pend y 0 % 8) b ∙ z) (λ (b : i ≢ j). here i l a b) (cases_eq i j) })))
      (λ (z : v % 8 ≢ 4).
      ⊎_elim
      (λ (y : v % 8 ≡ 1). simp (ne_eqb (v % 8) 4 z, eq-eqb (v % 8) 1 y) tt)
      (λ (y : v % 8 ≢ 1). simp (ne_eqb (v % 8) 4 z, ne_eqb (v % 8) 1 y)
      (let x : ℕ = v - v % 8 + 4 in
      let old = written d u j x (told d u) k.pend k.each (λ a h. low_digit (told d u) j v 4 (class_at d u j) (omega arith) z h) in
      moved_chip d u (record s.words { pend = slice_set s.words.pend j x }) s.lying c k (length-set s.words.pend j x ∙ k.pend)
      (λ i l.
      let h = old i l in
      record {
        below = h.below;
        out = h.out;
        off = h.off;
        last = λ a.
            ⊎_elim
            (λ (b : i ≡ j). ap (λ (y : ℕ). get_or (slice_set s.words.pend j x) y 0 % 8) b ∙ ap (λ (y : ℕ). y % 8) (get_or-set_same s.words.pend j x 0 (let e = k.pend in omega (arith, e, b, l))) ∙ omega arith)
            (λ (b : i ≢ j). let e = off_told j i (nat_lt (j + 1) n) refl l a in h.last (omega (arith, e, b, before)))
            (cases_eq i j);
      })))
      (cases_eq (v % 8) 1))
      (cases_eq (v % 8) 4)

  await_served : HeraldTurn AwaitingServed
  await_served =
      ⊎_elim
      (λ (z : s.words.inside ≡ 0).
      ⊎_elim
      (λ (y : s.watch.wave < length d.waves). simp (eq-eqb s.words.inside 0 z, lt-ltb s.watch.wave (length d.waves) y) (quiet s.words (record { setup = d; row = Some row.AnnounceBlocked; wave = s.watch.wave + 1 }) refl refl))
      (λ (y : length d.waves ≤ s.watch.wave). simp (eq-eqb s.words.inside 0 z, le-ltb s.watch.wave (length d.waves) y, lt-ltb 0 n some)
      (quiet s.words (record { setup = d; row = Some (row.RaiseOff 0); wave = s.watch.wave }) refl refl))
      (cases_lt s.watch.wave (length d.waves)))
      (λ (z : s.words.inside ≢ 0). simp (ne_eqb s.words.inside 0 z) tt)
      (cases_eq s.words.inside 0)

  herald_turn : (h : Herald) → s.watch.herald ≡ h → HeraldTurn h
  herald_turn AnnouncingBlocked q = quiet (record s.words { except = blocked_in d.waves s.watch.wave }) (record { setup = d; row = Some row.AnnounceWave; wave = s.watch.wave }) refl refl
  herald_turn AnnouncingWave q = quiet (record s.words { source = s.watch.wave }) (record { setup = d; row = Some (if nat_lt 0 n then row.RaiseWave 0 else row.WatchSource 0); wave = s.watch.wave }) refl (raise_told (nat_lt 0 n) 0)
  herald_turn (Raising j) q = raise_wave j
  herald_turn (Watching looks) q = quiet s.words (record { setup = d; row = Some (if is_watched (chipset_at d (Watching looks) s.watch) looks s.words.source then row.AwaitServed else row.WatchSource (looks + 1)); wave = s.watch.wave }) refl (watch_told (is_watched (chipset_at d (Watching looks) s.watch) looks s.words.source) (looks + 1))
  herald_turn AwaitingServed q = await_served
  herald_turn (TurningOff j) q = turn_off j q
  herald_turn Silenced q = tt

-- EACH STEP

module _ (d : SetupData) (c : Context) (s : Scene) (m : Machine) (f : Holds d c s m) (k : IsSteady d (world_of d s)) where
  abbrev world : World
  world = world_of d s

  seat_step : (i : ℕ) → i < d.processors → IsSteady d (step world i).1
  seat_step i l =
      let inside : i < length s.seats = rw f.ready.sized.seats l in
      subst (λ (o : Option Actor). IsSteady d (step_of world i o).1) (sym (seat_get d s i inside))
      (turned_steady d world i (turn s.words s.lying i (processor_of d i (seat s i))) k (seat_turn d c i s m f k l (seat s i).position refl))

  watch_step : IsSteady d (step world d.processors).1
  watch_step =
      let at : slice_get (actors_of d s) d.processors ≡ Some (chipset_of d s.watch) = ap (λ (j : ℕ). slice_get (actors_of d s) j) (sym f.ready.sized.seats) ∙ watch_from d 0 s.seats s.watch in
      subst (λ (o : Option Actor). IsSteady d (step_of world d.processors o).1) (sym at)
      (turned_steady d world d.processors (turn s.words s.lying d.processors (chipset_of d s.watch)) k (herald_turn d s k f.ready.sized.seats f.ready.platform.some s.watch.herald refl))

  pub steady_step : (i : ℕ) → IsSteady d (step world i).1
  steady_step i =
      ⊎_elim
      (λ (l : i < d.processors). seat_step i l)
      (λ (g : d.processors ≤ i).
      ⊎_elim
      (λ (e : i ≡ d.processors). subst (λ (j : ℕ). IsSteady d (step world j).1) (sym e) watch_step)
      (λ (n : i ≢ d.processors).
      let beyond : length s.seats < i = rw f.ready.sized.seats (omega (arith, g, n)) in
      subst (λ (o : Option Actor). IsSteady d (step_of world i o).1) (sym (beyond_from d 0 s.seats s.watch i beyond)) k)
      (cases_eq i d.processors))
      (cases_lt i d.processors)

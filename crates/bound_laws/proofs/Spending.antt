-- Each event of an actor spends some of its own energy, and nobody's energy rises.
use Rattle.std.proofs.Common.{ℕ, zero, suc, ◌+◌, ◌-◌, ◌*◌, ◌≡◌, ◌≢◌, ◌<◌, ◌≤◌, ◌⊎◌, arith, Bool, true, false, List, [], ◌∷◌, length, get_or, slice_set, Option, Some, None, refl, sym, ap, subst, ⊎_elim, ◌∙◌}
use Rattle.std.specs.Prelude.{◌==◌, slice_get, unwrap_or, if◌then◌else◌}
use Rattle.std.proofs.lemmas.Bool.{cases_eq, cases_lt}
use Rattle.smm_base.specs.declared.kinds.Policy.{Policy}
use Rattle.smm_base.specs.declared.kinds.Policy.TheVariants.{Elected, Fixed}
use Rattle.cpu_table.specs.Data.{SetupData}
use Rattle.sync_words.specs.declared.row.Row.{Row}
use Rattle.sync_words.specs.declared.row.Row.TheVariants as row
use Rattle.serving_place.specs.Beginning.{walks_of}
use Rattle.handler_ops.specs.declared.desk.Desk.{Desk}
use Rattle.handler_ops.specs.Course.{Desks}
use Rattle.handler_ops.specs.Told.{handed_as}
use Rattle.handler_ops.specs.Sessions.{Session as Chair}
use Rattle.cpu_program.specs.declared.cargo.Cargo.{Cargo}
use Rattle.cpu_program.specs.declared.part.Part.{Part}
use Rattle.cpu_program.specs.declared.part.Part.TheVariants as part
use Rattle.cpu_program.specs.Actors.{Actor, OfProcessor, OfChipset, Processor}
use Rattle.cpu_program.specs.Processors.{is_relaxed}
use Rattle.rendezvous_core.specs.declared.stepped.Stepped.{Stepped}
use Rattle.rendezvous_core.specs.declared.stepped.Stepped.TheVariants as stepped
use Rattle.rendezvous_core.specs.Worlds.{World, Words, Lying, Turn, Moves, Waits, Rests, turn, turned, step, step_of}
use Rattle.rendezvous_machine.specs.Machines.{Machine}
use Rattle.schedule_laws.proofs.Sums.{sum_below-bound}
use Rattle.schedule_laws.proofs.Scenes.{Scene, Seat, Watch, Lead, MarkingInside, TakingSource, LookingAtExcept, GatheringFirst, FindingMissing, SignallingMissing, GatheringSecond, MarkingInsync, LockingCounter, AwaitingReports, TakingDesk, BeginningToServe, AtHandlers, Collecting, LeavingInside, Releasing, AwaitingReleased, Dismissing, AwaitingDismissed, GivingChair, LeavingInsync, UnlockingCounter, Position, AwaitingSmi, SwitchingOff, LookingAtSource, LookingInside, CountingIn, ClaimingChair, AskingForChair, Leading, AwaitingInside, FindingBsp, SignallingBsp, AwaitingInsideAgain, CountingOut, SeekingBsp, Reporting, TellingReport, AwaitingRelease, GivingBack, TellingRelease, AwaitingDismissal, Withdrawing, TellingDismissal, AwaitingEnd, ClearingSignal, Away, seat, processor_at, processor_of, part_at, lead_at, chipset_of, actors_from, actors_of, world_of, seat_get, watch_from, beyond_from}
use Rattle.schedule_laws.proofs.Stations.{bit, station_of, is_bsp, walk_of, waits_of, out_of, member_of, member_of-le}
use Rattle.schedule_laws.proofs.Stations as stations
use Rattle.schedule_laws.proofs.Leads.{stage_in, next_of, part_of, begins_at, serves_at}
use Rattle.schedule_laws.proofs.Invariant.{Context, View, IsLead, IsAt, IsServing, Holds, IsFine, view, desk_at, desk_kept, chair_home, begins_from}
use Rattle.schedule_laws.proofs.Frames.{own_at, mode_le}
use Rattle.schedule_laws.proofs.LeadFrames.{at_stage, the_bsp}
use Rattle.schedule_laws.proofs.HandlerPlaces.{serves_is}
use Rattle.schedule_laws.proofs.HandlerRows.{RowFits, row_fits}
use Rattle.schedule_laws.proofs.HandlerLandings.{handed_own, serves_high}
use Rattle.schedule_laws.proofs.HandlerFrames.{watched, kept_is}
use Rattle.schedule_laws.proofs.HandlerLooks.{IsTold, at_row}
use Rattle.bound_laws.proofs.Energies.{IsPolled, RoundFits, between_rank, reporting_rank, between_work, reporting_work, part_work, works, rank, energy, gives_of, knows_of, gives_in, extra_in, energy_in, energy_of, waiting}
use Rattle.bound_laws.proofs.Peers.{PeerTurn, IsPeerAt, peer_turn}
use Rattle.bound_laws.proofs.Leads.{LeadTurn, IsOther, IsLeadAt, lead_turn}
use Rattle.bound_laws.proofs.Handlers.{first_chair, begins, row_turn}
use Rattle.bound_laws.proofs.Chipset.{ChipTurn, chip_turn}

-- LISTS

some_is : {A : Type 0} (x y : A) → Some x ≡ Some y → x ≡ y
some_is {A} x y e = ap (λ (o : Option A). unwrap_or o x) e

get_same : (xs : List Actor) (i : ℕ) (a : Actor) → i < length xs → slice_get (slice_set xs i a) i ≡ Some a
get_same [] i a l = absurd (omega (arith, l))
get_same (x ∷ xs) zero a l = refl
get_same (x ∷ xs) (suc i) a l = get_same xs i a (omega (arith, l))

get_other : (xs : List Actor) (i j : ℕ) (a : Actor) → j ≢ i → slice_get (slice_set xs i a) j ≡ slice_get xs j
get_other [] i j a n = refl
get_other (x ∷ xs) zero zero a n = absurd (n refl)
get_other (x ∷ xs) zero (suc j) a n = refl
get_other (x ∷ xs) (suc i) zero a n = refl
get_other (x ∷ xs) (suc i) (suc j) a n = get_other xs i j a (λ q. n (ap suc q))

-- ENERGY

between_le : (d : SetupData) (x x' : ℕ) (r : Row) → (between_work r ≡ true → x' ≤ x) → between_rank d x' r ≤ between_rank d x r
between_le d x x' row.AwaitRelease h = let a = h refl in omega (arith, a)
between_le d x x' row.GiveDeskBack h = let a = h refl in omega (arith, a)
between_le d x x' _ h = omega arith

reporting_le : (d : SetupData) (x x' : ℕ) (r : Row) → (reporting_work r ≡ true → x' ≤ x) → reporting_rank d x' r ≤ reporting_rank d x r
reporting_le d x x' row.TellReported h = let a = h refl in omega (arith, a)
reporting_le d x x' _ h = omega arith

rank_le : (d : SetupData) (x x' : ℕ) (p : Part) (chair : Option Chair) (held : Desks) → (part_work p ≡ true → x' ≤ x) → rank d x' p chair held ≤ rank d x p chair held
rank_le d x x' (part.Between r) chair held h = between_le d x x' r h
rank_le d x x' (part.Entering e) chair held h = omega arith
rank_le d x x' (part.Gathering g) chair held h = omega arith
rank_le d x x' (part.Closing c) chair held h = omega arith
rank_le d x x' part.Serving chair held h = omega arith
rank_le d x x' (part.Exiting e) chair held h = omega arith
rank_le d x x' (part.Reporting r) chair held h = reporting_le d x x' r.row h
rank_le d x x' part.Off chair held h = omega arith

energy_le : (d : SetupData) (x x' : ℕ) (a : Actor) → (works a ≡ true → x' ≤ x) → energy d x' a ≤ energy d x a
energy_le d x x' (OfProcessor p) h = let a = rank_le d x x' p.part p.chair p.held h in omega (arith, a)
energy_le d x x' (OfChipset c) h = omega arith

-- WHAT HOLDS BESIDE THE INVARIANT

-- nobody gives more jobs than there are units, and a round has another look
abbrev pub Well : SetupData → World → Type 0
Well d w = (j : ℕ) (a : Actor) → slice_get w.actors j ≡ Some a → (gives_of d a ≤ d.ops) × RoundFits d a

-- what a step spends
abbrev pub Spent : SetupData → World → ℕ → Stepped → World → Type 0
Spent d w i (stepped.Event e) u =
    (e.actor ≡ i) × (i ≤ d.processors) × (energy_of d u i + 1 ≤ energy_of d w i) × ((j : ℕ) → j ≢ i → energy_of d u j ≤ energy_of d w j) × Well d u
Spent d w i (stepped.Waiting found) u = ((j : ℕ) → energy_of d u j ≤ energy_of d w j) × Well d u
Spent d w i stepped.Off u = ((j : ℕ) → energy_of d u j ≤ energy_of d w j) × Well d u

abbrev pub SpentIn : SetupData → World → ℕ → Stepped × World → Type 0
SpentIn d w i o = Spent d w i o.0 o.1

gives_le : (d : SetupData) (w : World) → Well d w → (k : ℕ) (o : Option Actor) → slice_get w.actors k ≡ o → gives_in d o ≤ d.ops
gives_le d w h k None e = omega arith
gives_le d w h k (Some a) e = (h k a e).0

module _ (d : SetupData) (w : World) (well : Well d w) (i : ℕ) (a : Actor) (words : Words) (lying : Lying) (there : i < length w.actors) where
  abbrev u : World
  u = record { words = words; lying = lying; actors = slice_set w.actors i a }

  own_energy : energy_of d u i ≡ energy d (extra_in d u i a) a
  own_energy = ap (energy_in d u i) (get_same w.actors i a there)

  others_le : ((j : ℕ) (b : Actor) → j ≢ i → slice_get w.actors j ≡ Some b → works b ≡ true → extra_in d u j b ≤ extra_in d w j b) → (j : ℕ) → j ≢ i → energy_of d u j ≤ energy_of d w j
  others_le h j n = subst (λ (o : Option Actor). energy_in d u j o ≤ energy_of d w j) (sym (get_other w.actors i j a n)) (by_actor (slice_get w.actors j) refl)
    where
      by_actor : (o : Option Actor) → slice_get w.actors j ≡ o → energy_in d u j o ≤ energy_in d w j o
      by_actor None e = omega arith
      by_actor (Some b) e = energy_le d (extra_in d w j b) (extra_in d u j b) b (λ z. h j b n e z)

  well_on : gives_of d a ≤ d.ops → RoundFits d a → Well d u
  well_on low round j b e =
      ⊎_elim
      (λ (q : j ≡ i).
      let same : a ≡ b = some_is a b (sym (get_same w.actors i a there) ∙ ap (λ (k : ℕ). slice_get (slice_set w.actors i a) k) (sym q) ∙ e) in
      subst (λ (x : Actor). (gives_of d x ≤ d.ops) × RoundFits d x) same (low, round))
      (λ (q : j ≢ i). well j b (sym (get_other w.actors i j a q) ∙ e))
      (cases_eq j i)

-- ONE THAT WORKS KNOWS ITS BSP

lead_idle : (d : SetupData) (i : ℕ) (lead : Lead) (t : Seat) → part_work (lead_at d i lead t) ≡ true → ⊥
lead_idle d i MarkingInside t e = cc
lead_idle d i TakingSource t e = cc
lead_idle d i LookingAtExcept t e = cc
lead_idle d i (GatheringFirst looks) t e = cc
lead_idle d i (FindingMissing j) t e = cc
lead_idle d i (SignallingMissing j) t e = cc
lead_idle d i (GatheringSecond looks) t e = cc
lead_idle d i MarkingInsync t e = cc
lead_idle d i LockingCounter t e = cc
lead_idle d i (AwaitingReports left) t e = cc
lead_idle d i (TakingDesk j) t e = cc
lead_idle d i BeginningToServe t e = cc
lead_idle d i AtHandlers t e = cc
lead_idle d i (Collecting j) t e = cc
lead_idle d i LeavingInside t e = cc
lead_idle d i (Releasing j) t e = cc
lead_idle d i (AwaitingReleased left) t e = cc
lead_idle d i (Dismissing j) t e = cc
lead_idle d i (AwaitingDismissed left) t e = cc
lead_idle d i GivingChair t e = cc
lead_idle d i LeavingInsync t e = cc
lead_idle d i UnlockingCounter t e = cc

work_walks : (d : SetupData) (i : ℕ) (at : Position) (t : Seat) → part_work (part_at d i at t) ≡ true → 2 ≤ walk_of (station_of at)
work_walks d i (Leading lead) t e = absurd (lead_idle d i lead t e)
work_walks d i TellingReport t e = omega arith
work_walks d i AwaitingRelease t e = omega arith
work_walks d i GivingBack t e = omega arith
work_walks d i AwaitingSmi t e = cc
work_walks d i SwitchingOff t e = cc
work_walks d i LookingAtSource t e = cc
work_walks d i (LookingInside source) t e = cc
work_walks d i (CountingIn source inside) t e = cc
work_walks d i (ClaimingChair source inside) t e = cc
work_walks d i (AskingForChair source inside) t e = cc
work_walks d i (AwaitingInside looks) t e = cc
work_walks d i FindingBsp t e = cc
work_walks d i (SignallingBsp seen) t e = cc
work_walks d i (AwaitingInsideAgain looks seen) t e = cc
work_walks d i (CountingOut seen) t e = cc
work_walks d i (SeekingBsp seen) t e = cc
work_walks d i Reporting t e = cc
work_walks d i TellingRelease t e = cc
work_walks d i AwaitingDismissal t e = cc
work_walks d i Withdrawing t e = cc
work_walks d i TellingDismissal t e = cc
work_walks d i AwaitingEnd t e = cc
work_walks d i ClearingSignal t e = cc
work_walks d i Away t e = cc

-- a processor that is past its report knows the BSP, which is another one
walks_know : (d : SetupData) (c : Context) (s : Scene) (m : Machine) (j : ℕ) → Holds d c s m → j < d.processors → 2 ≤ walk_of (station_of (seat s j).position)
    → ((seat s j).bsp ≡ c.bsp) × (c.bsp < d.processors) × (j ≢ c.bsp)
walks_know d c s m j f l w =
    let g = f.ready.each j l in
    let n : j ≢ c.bsp = (λ q. let e = ap walk_of (g.leader q).station in omega (arith, e, w)) in
    let p = g.peer n in
    let st = p.walking (omega (arith, w)) in
    (p.knows w, f.ready.words.some_bsp (omega (arith, st)), n)

position_case : (at : Position) (P : Type 0) → ((lead : Lead) → at ≡ Leading lead → P) → (is_bsp (station_of at) ≡ 0 → P) → P
position_case (Leading lead) P h g = h lead refl
position_case _ P h g = g refl

home_is : (q : Policy) (j : ℕ) (x y : Chair) → chair_home q j x ≡ Some y → x ≡ y
home_is Elected j x y e = cc
home_is (Fixed b) j x y e = by_test (j == b) e
  where
    by_test : (z : Bool) → (if z then Some x else None) ≡ Some y → x ≡ y
    by_test true e = some_is x y e
    by_test false e = cc

abbrev lead_of : Position → Lead
lead_of (Leading x) = x
lead_of _ = MarkingInside

begins_high : (b : Bool) → begins_at b ≤ 12
begins_high true = omega arith
begins_high false = omega arith

begins_is : (b : Bool) → begins_at b ≡ begins_from (bit b)
begins_is true = refl
begins_is false = refl

actors_length : (d : SetupData) (me : ℕ) (ss : List Seat) (x : Watch) → length (actors_from d me ss x) ≡ length ss + 1
actors_length d me [] x = refl
actors_length d me (s ∷ ss) x = let ih = actors_length d (me + 1) ss x in omega (arith, ih)

-- THE TURNS

module _ (d : SetupData) (polls : IsPolled d) (c : Context) (s : Scene) (m : Machine) (f : Holds d c s m) (well : Well d (world_of d s)) where
  abbrev w : World
  w = world_of d s

  -- one that works
  works_known : (j : ℕ) (b : Actor) → slice_get (actors_of d s) j ≡ Some b → works b ≡ true → (j < d.processors) × (knows_of b ≡ c.bsp) × (c.bsp < d.processors) × (j ≢ c.bsp)
  works_known j b e z =
      ⊎_elim
      (λ (l : j < d.processors).
      let inside : j < length s.seats = rw (f.ready.sized.seats) l in
      let is : processor_of d j (seat s j) ≡ b = some_is _ b (sym (seat_get d s j inside) ∙ e) in
      let k = walks_know d c s m j f l (work_walks d j (seat s j).position (seat s j) (ap works is ∙ z)) in
      (l, sym (ap knows_of is) ∙ k.0, k.1, k.2))
      (λ (g : d.processors ≤ j).
      let size = f.ready.sized.seats in
      absurd (⊎_elim
      (λ (q : j ≡ d.processors).
      let is : chipset_of d s.watch ≡ b = some_is _ b (sym (watch_from d 0 s.seats s.watch) ∙ ap (λ (k : ℕ). slice_get (actors_of d s) k) (size ∙ sym q) ∙ e) in
      let no : false ≡ true = ap works is ∙ z in cc)
      (λ (q : j ≢ d.processors).
      let no = sym (beyond_from d 0 s.seats s.watch j (omega (arith, g, q, size))) ∙ e in cc)
      (cases_eq j d.processors)))
      (cases_lt j d.processors)

  -- a turn of one that isn't the BSP
  peer_spent : (i : ℕ) (t : Seat) (at : Position) → i < length w.actors → i ≤ d.processors → slice_get w.actors i ≡ Some (OfProcessor (processor_at d i at t)) → i ≢ c.bsp
      → (x : Turn) → PeerTurn d s i t at x → SpentIn d w i (turned w i x)
  peer_spent i t at there most is other (Waits found) h = (λ j. omega arith, well)
  peer_spent i t at there most is other Rests h = (λ j. omega arith, well)
  peer_spent i t at there most is other (Moves e words lying a) h =
      let own = h.1 in
      let p : Actor = OfProcessor (processor_at d i at t) in
      let later : World = u d w well i a words lying there in
      let well' = well_on d w well i a words lying there own.1 own.4 in
      let low : 2 * gives_in d (slice_get later.actors (knows_of a)) ≤ 2 * d.ops = (let x = gives_le d later well' (knows_of a) (slice_get later.actors (knows_of a)) refl in omega (arith, x)) in
      let keeps : part_work (part_at d i at t) ≡ true → 2 * gives_in d (slice_get later.actors (knows_of a)) ≤ 2 * gives_in d (slice_get w.actors (knows_of p)) =
      (λ z.
      let k = works_known i p is z in
      let same : slice_get later.actors (knows_of a) ≡ slice_get w.actors (knows_of p) =
      ap (λ (x : ℕ). slice_get later.actors x) (own.3 z) ∙ get_other w.actors i t.bsp a (λ q. other (sym q ∙ k.1)) in
      let x = ap (gives_in d) same in omega (arith, x)) in
      let spent = own.0 (2 * gives_in d (slice_get w.actors (knows_of p))) (2 * gives_in d (slice_get later.actors (knows_of a))) low keeps in
      let before : energy_of d w i ≡ energy d (extra_in d w i p) p = ap (energy_in d w i) is in
      let after = own_energy d w well i a words lying there in (
        h.0,
        most,
        omega (arith, spent, before, after),
        others_le d w well i a words lying there
            (λ j b n q z.
            let k = works_known j b q z in
            let x = ap (gives_in d) (get_other w.actors i (knows_of b) a (λ y. other (sym y ∙ k.1))) in
            let y = ap (waiting d) (own.2 j n) in omega (arith, x, y)),
        well',
      )

  -- a turn of the BSP
  lead_spent : (t : Seat) (lead : Lead) → c.bsp < length w.actors → c.bsp ≤ d.processors → slice_get w.actors c.bsp ≡ Some (OfProcessor (processor_at d c.bsp (Leading lead) t))
      → (x : Turn) → LeadTurn d s c.bsp (processor_at d c.bsp (Leading lead) t) x → SpentIn d w c.bsp (turned w c.bsp x)
  lead_spent t lead there most is (Waits found) h = (λ j. omega arith, well)
  lead_spent t lead there most is Rests h = (λ j. omega arith, well)
  lead_spent t lead there most is (Moves e words lying a) h =
      let own = h.1 in
      let p : Actor = OfProcessor (processor_at d c.bsp (Leading lead) t) in
      let later : World = u d w well c.bsp a words lying there in
      let spent = own.0 (extra_in d w c.bsp p) (extra_in d later c.bsp a) in
      let before : energy_of d w c.bsp ≡ energy d (extra_in d w c.bsp p) p = ap (energy_in d w c.bsp) is in
      let after = own_energy d w well c.bsp a words lying there in
      let low = (well c.bsp p is).0 in
      let less = own.1 in (
        h.0,
        most,
        omega (arith, spent, before, after),
        others_le d w well c.bsp a words lying there
            (λ j b n q z.
            let k = works_known j b q z in
            let x : gives_in d (slice_get later.actors (knows_of b)) ≡ gives_of d a = ap (gives_in d) (ap (λ (y : ℕ). slice_get later.actors y) k.1 ∙ get_same w.actors c.bsp a there) in
            let y : gives_in d (slice_get w.actors (knows_of b)) ≡ gives_of d p = ap (gives_in d) (ap (λ (y : ℕ). slice_get w.actors y) k.1 ∙ is) in
            let g = own.2 j k.0 n in omega (arith, x, y, g)),
        well_on d w well c.bsp a words lying there (omega (arith, low, less)) own.3,
      )

  -- a turn of the chipset
  chip_spent : d.processors < length w.actors → slice_get w.actors d.processors ≡ Some (chipset_of d s.watch)
      → (x : Turn) → ChipTurn d s s.watch.herald x → SpentIn d w d.processors (turned w d.processors x)
  chip_spent there is (Waits found) h = (λ j. omega arith, well)
  chip_spent there is Rests h = (λ j. omega arith, well)
  chip_spent there is (Moves e words lying a) h =
      let own = h.2 in
      let p : Actor = chipset_of d s.watch in
      let later : World = u d w well d.processors a words lying there in
      let spent = own.0 (extra_in d w d.processors p) (extra_in d later d.processors a) in
      let before : energy_of d w d.processors ≡ energy d (extra_in d w d.processors p) p = ap (energy_in d w d.processors) is in
      let after = own_energy d w well d.processors a words lying there in (
        h.0,
        omega arith,
        omega (arith, spent, before, after),
        others_le d w well d.processors a words lying there
            (λ j b n q z.
            let k = works_known j b q z in
            let x = ap (gives_in d) (get_other w.actors d.processors (knows_of b) a (λ y. let l = k.2 in let e = k.1 in omega (arith, y, l, e))) in
            let y = ap (waiting d) (ap (λ (xs : List (Option Cargo)). get_or xs j None) h.1) in omega (arith, x, y)),
        well_on d w well d.processors a words lying there own.1 own.2,
      )

  -- WHERE THE BSP IS

  -- the state of serving is the platform's
  chairs : (t : Seat) (lead : Lead) → IsLead d c m.registrations m.pool lead t → (y : Chair) → t.chair ≡ Some y → y.setup ≡ d
  chairs t lead h y e =
      let same : c.chair ≡ y =
      ⊎_elim
      (λ (l : c.stage < 20). some_is c.chair y (sym (h.chair (omega (arith, l))) ∙ e))
      (λ (g : 20 ≤ c.stage). home_is d.policy c.bsp c.chair y (sym (h.no_chair g) ∙ e))
      (cases_lt c.stage 20) in
      subst (λ (x : Chair). x.setup ≡ d) same f.ready.course.setup

  -- the context as the handlers' lemmas have it
  here : (lead : Lead) (t : Seat) → IsLead d c m.registrations m.pool lead t → c ≡ at_stage c (stage_in lead (is_relaxed d.mode)) (next_of lead)
  here lead t h = λ k. record { stage = sym h.stage k; bsp = c.bsp; next = sym h.next k; peers = c.peers; wave = c.wave; blocked = c.blocked; held = c.held; listed = c.listed; chair = c.chair; place = c.place; session = c.session }

  begin_at : (t : Seat) → IsLead d c m.registrations m.pool BeginningToServe t
      → LeadTurn d s c.bsp (processor_at d c.bsp (Leading BeginningToServe) t) (turn s.words s.lying c.bsp (OfProcessor (processor_at d c.bsp (Leading BeginningToServe) t)))
  begin_at t h =
      let begin = h.begins refl in
      let high = begins_high (is_relaxed d.mode) in
      let st = h.stage in
      let is = begins_is (is_relaxed d.mode) in
      let first : Chair = first_chair d c.bsp c.wave (walks_of d.waves c.wave) m.registrations m.pool in
      let chair : c.chair ≡ first =
      (λ k. record { setup = f.ready.course.setup k; me = (f.ready.course.me (omega (arith, st, is))) k; course = begin.course k; told = begin.told k }) in
      begins d s c.bsp t c.wave (walks_of d.waves c.wave) m.registrations m.pool (h.chair (omega (arith, high, st)) ∙ ap (λ (x : Chair). Some x) chair)

  serve_at : (t : Seat) → seat s c.bsp ≡ t → t.position ≡ Leading AtHandlers → IsLead d c m.registrations m.pool AtHandlers t
      → LeadTurn d s c.bsp (processor_at d c.bsp (Leading AtHandlers) t) (turn s.words s.lying c.bsp (OfProcessor (processor_at d c.bsp (Leading AtHandlers) t)))
  serve_at t e q h =
      let to = here AtHandlers t h in
      let k : Holds d (at_stage c (serves_at (is_relaxed d.mode)) 0) s m = subst (λ (x : Context). Holds d x s m) to f in
      let at : IsLead d (at_stage c (serves_at (is_relaxed d.mode)) 0) m.registrations m.pool AtHandlers t = subst (λ (x : Context). IsLead d x m.registrations m.pool AtHandlers t) to h in
      let g = k.ready in
      let high = serves_high (is_relaxed d.mode) in
      let is = serves_is (is_relaxed d.mode) in
      let le = mode_le d in
      let y = at.serves refl in
      let v : IsServing d c = record { goes_on = y.goes_on; fits = y.fits; own = y.own; sound = y.sound; told = y.told } in
      let fits : RowFits d c s m c.chair.told = subst (RowFits d c s m) (sym v.told) (row_fits d c s m (watched d c s m g v.goes_on v.sound v.own) v.fits) in
      let held : t.held ≡ handed_as c.chair.told c.held = at.held in
      let told_is : IsTold d c s m t c.chair.told = record {
        ready = g;
        serving = v;
        leading = record { seat_is = e; leads = ap station_of q; wave = at.wave; blocked = at.blocked; listed = at.listed };
        told = refl;
        fits = fits;
        own = sym (ap (λ (h : Desks). get_or h c.bsp None) held ∙ handed_own d c s m c.chair.told fits);
      } in
      let chair : c.chair ≡ record { setup = d; me = c.bsp; course = c.chair.course; told = c.chair.told } =
      (λ i. record { setup = g.course.setup i; me = (g.course.me (omega (arith, is, le))) i; course = c.chair.course; told = c.chair.told }) in
      let same : processor_at d c.bsp (Leading AtHandlers) t ≡ at_row d c t c.chair.told =
      (λ i. record (processor_at d c.bsp (Leading AtHandlers) t) { chair = (at.chair (omega (arith, high)) ∙ ap (λ (x : Chair). Some x) chair) i; held = held i }) in
      subst (λ (p : Processor). LeadTurn d s c.bsp p (turn s.words s.lying c.bsp (OfProcessor p))) (sym same) (row_turn d c s m t c.chair.told told_is)

  -- a desk that is released has no job
  desk_idle : (t : Seat) (j : ℕ) → IsLead d c m.registrations m.pool (Releasing j) t → (j < d.processors) × ((desk : Desk) → get_or t.held j None ≡ Some desk → desk.job ≡ None)
  desk_idle t j h =
      let st = h.stage in
      let next = h.next in
      let aim = f.aim.releases (sym st) in
      let below : j < d.processors = omega (arith, aim.0, next) in
      let other : j ≢ c.bsp = (λ q. aim.1 (sym next ∙ q)) in
      let g = f.ready.each j below in
      let v : View = view s m j in
      let kept : desk_kept c j ≡ get_or t.held j None = kept_is c j other ∙ ap (λ (x : Desks). get_or x j None) (sym h.held) in (
        below,
        λ desk e.
            ⊎_elim
            (λ (z : v.present ≡ 2).
            let released = (g.peer other).released_no_more (sym st) (omega (arith, next)) in
            let at = g.self.held z released (g.team.idle_after (omega (arith, st))) in
            ap (λ (x : Desk). x.job) (some_is desk (desk_at v.image None) (sym e ∙ sym kept ∙ at)))
            (λ (z : v.present ≢ 2). let no = sym (g.self.not_held z) ∙ kept ∙ e in cc)
            (cases_eq v.present 2),
      )

  counter_le : c.stage ≡ 9 → s.words.counter ≤ d.processors
  counter_le st =
      let a = f.ready.totals.counted (omega (arith, st)) in
      let b = sum_below-bound d.processors 1 (λ j. member_of (view s m j).station) (λ j l. let x = member_of-le (view s m j).station in omega (arith, x)) in
      omega (arith, a, b)

  lead_facts : (t : Seat) (lead : Lead) → (h : IsLead d c m.registrations m.pool lead t) → RoundFits d (OfProcessor (processor_at d c.bsp (Leading lead) t)) → IsLeadAt d s c.bsp t polls (chairs t lead h) lead
  lead_facts t lead h round =
      let st = h.stage in
      let next = h.next in
      let at : (k : Lead) → lead ≡ k → c.stage ≡ stage_in k (is_relaxed d.mode) = (λ k z. sym st ∙ ap (λ (x : Lead). stage_in x (is_relaxed d.mode)) z) in
      record {
        counter = λ z. counter_le (at LockingCounter z);
        desk = λ j z. let aim = f.aim.takes (at (TakingDesk j) z) in let n = ap next_of z in omega (arith, aim.0, n, next);
        job = λ j z. let k = h.collects (ap part_of z) in let below = k.next in let n = ap next_of z in omega (arith, below, n, next);
        released = λ j z. desk_idle t j (subst (λ (x : Lead). IsLead d c m.registrations m.pool x t) z h);
        round = round;
      }

  other_turn : (t : Seat) (lead : Lead) → IsOther lead → (h : IsLead d c m.registrations m.pool lead t) → RoundFits d (OfProcessor (processor_at d c.bsp (Leading lead) t))
      → LeadTurn d s c.bsp (processor_at d c.bsp (Leading lead) t) (turn s.words s.lying c.bsp (OfProcessor (processor_at d c.bsp (Leading lead) t)))
  other_turn t lead o h round = lead_turn d s c.bsp t polls (chairs t lead h) lead o (lead_facts t lead h round)

  -- the turn of the BSP at this position
  bsp_turn : (t : Seat) (lead : Lead) → seat s c.bsp ≡ t → t.position ≡ Leading lead → (h : IsLead d c m.registrations m.pool lead t) → RoundFits d (OfProcessor (processor_at d c.bsp (Leading lead) t))
      → LeadTurn d s c.bsp (processor_at d c.bsp (Leading lead) t) (turn s.words s.lying c.bsp (OfProcessor (processor_at d c.bsp (Leading lead) t)))
  bsp_turn t MarkingInside e q h round = other_turn t MarkingInside tt h round
  bsp_turn t TakingSource e q h round = other_turn t TakingSource tt h round
  bsp_turn t LookingAtExcept e q h round = other_turn t LookingAtExcept tt h round
  bsp_turn t (GatheringFirst n) e q h round = other_turn t (GatheringFirst n) tt h round
  bsp_turn t (FindingMissing n) e q h round = other_turn t (FindingMissing n) tt h round
  bsp_turn t (SignallingMissing n) e q h round = other_turn t (SignallingMissing n) tt h round
  bsp_turn t (GatheringSecond n) e q h round = other_turn t (GatheringSecond n) tt h round
  bsp_turn t MarkingInsync e q h round = other_turn t MarkingInsync tt h round
  bsp_turn t LockingCounter e q h round = other_turn t LockingCounter tt h round
  bsp_turn t (AwaitingReports n) e q h round = other_turn t (AwaitingReports n) tt h round
  bsp_turn t (TakingDesk n) e q h round = other_turn t (TakingDesk n) tt h round
  bsp_turn t BeginningToServe e q h round = begin_at t h
  bsp_turn t AtHandlers e q h round = serve_at t e q h
  bsp_turn t (Collecting n) e q h round = other_turn t (Collecting n) tt h round
  bsp_turn t LeavingInside e q h round = other_turn t LeavingInside tt h round
  bsp_turn t (Releasing n) e q h round = other_turn t (Releasing n) tt h round
  bsp_turn t (AwaitingReleased n) e q h round = other_turn t (AwaitingReleased n) tt h round
  bsp_turn t (Dismissing n) e q h round = other_turn t (Dismissing n) tt h round
  bsp_turn t (AwaitingDismissed n) e q h round = other_turn t (AwaitingDismissed n) tt h round
  bsp_turn t GivingChair e q h round = other_turn t GivingChair tt h round
  bsp_turn t LeavingInsync e q h round = other_turn t LeavingInsync tt h round
  bsp_turn t UnlockingCounter e q h round = other_turn t UnlockingCounter tt h round

  leads : (i : ℕ) (lead : Lead) → i < d.processors → (seat s i).position ≡ Leading lead → i < length w.actors
      → slice_get w.actors i ≡ Some (OfProcessor (processor_at d i (Leading lead) (seat s i)))
      → SpentIn d w i (turned w i (turn s.words s.lying i (OfProcessor (processor_at d i (Leading lead) (seat s i)))))
  leads i lead l q there is =
      let k : i ≡ c.bsp = the_bsp d c i s m (seat s i) lead f l refl q in
      let few = f.ready.platform.few in
      let st : 1 ≤ c.stage = ⊎_elim (λ (z : c.stage ≡ 0). let y = f.ready.words.no_bsp z in absurd (omega (arith, y, k, l, few))) (λ (z : c.stage ≢ 0). omega (arith, z)) (cases_eq c.stage 0) in
      let t : Seat = seat s c.bsp in
      let at : IsAt d c m.registrations m.pool t = f.at st in
      let position : t.position ≡ Leading lead = ap (λ (y : ℕ). (seat s y).position) (sym k) ∙ q in
      let same : at.lead ≡ lead = ap lead_of (sym at.position ∙ position) in
      let h : IsLead d c m.registrations m.pool lead t = subst (λ (x : Lead). IsLead d c m.registrations m.pool x t) same at.is in
      let is' = subst (λ (y : ℕ). slice_get w.actors y ≡ Some (OfProcessor (processor_at d y (Leading lead) (seat s y)))) k is in
      subst (λ (y : ℕ). SpentIn d w y (turned w y (turn s.words s.lying y (OfProcessor (processor_at d y (Leading lead) (seat s y)))))) (sym k)
      (lead_spent t lead (subst (λ (y : ℕ). y < length w.actors) k there) (omega (arith, l, k)) is' _
      (bsp_turn t lead refl position h (well c.bsp (OfProcessor (processor_at d c.bsp (Leading lead) t)) is').1))

  -- what is known of another processor
  peer_facts : (i : ℕ) → i < d.processors → is_bsp (station_of (seat s i).position) ≡ 0 → RoundFits d (OfProcessor (processor_at d i (seat s i).position (seat s i)))
      → (i ≢ c.bsp) × IsPeerAt d s i (seat s i) polls (seat s i).position
  peer_facts i l z round =
      let at : Position = (seat s i).position in
      let own = own_at d c i s m (seat s i) at f l refl refl in
      let other : i ≢ c.bsp = (λ q. let e = ap is_bsp (own.leader q).station in omega (arith, e, z)) in
      let size = (f.ready.idle i l other).size in (
        other,
        record {
          visits = λ y. let a = own.self.waiting (ap (λ (p : Position). waits_of (station_of p)) y) in let b = own.self.visits in omega (arith, a, b);
          unlent = λ y. own.self.off_run_own (ap (λ (p : Position). out_of (station_of p)) y);
          out = λ y. own.self.own_out (ap (λ (p : Position). out_of (station_of p)) y);
          size = omega (arith, size, l);
          peer = z;
          round = round;
        },
      )

  actors_many : length w.actors ≡ d.processors + 1
  actors_many = actors_length d 0 s.seats s.watch ∙ ap (λ (n : ℕ). n + 1) f.ready.sized.seats

  -- any step
  seat_spent : (i : ℕ) → i < d.processors → SpentIn d w i (step w i)
  seat_spent i l =
      let inside : i < length s.seats = rw (f.ready.sized.seats) l in
      let is : slice_get w.actors i ≡ Some (processor_of d i (seat s i)) = seat_get d s i inside in
      let many = actors_many in
      let there : i < length w.actors = omega (arith, many, l) in
      subst (λ (o : Option Actor). SpentIn d w i (step_of w i o)) (sym is)
      (position_case (seat s i).position (SpentIn d w i (turned w i (turn s.words s.lying i (processor_of d i (seat s i)))))
      (λ lead q.
      subst (λ (at : Position). SpentIn d w i (turned w i (turn s.words s.lying i (OfProcessor (processor_at d i at (seat s i)))))) (sym q)
      (leads i lead l q there (subst (λ (at : Position). slice_get w.actors i ≡ Some (OfProcessor (processor_at d i at (seat s i)))) q is)))
      (λ z.
      let k = peer_facts i l z (well i (processor_of d i (seat s i)) is).1 in
      peer_spent i (seat s i) (seat s i).position there (omega (arith, l)) is k.0 _ (peer_turn d s i (seat s i) polls (seat s i).position k.1)))

  watch_spent : SpentIn d w d.processors (step w d.processors)
  watch_spent =
      let is : slice_get w.actors d.processors ≡ Some (chipset_of d s.watch) =
      ap (λ (k : ℕ). slice_get (actors_of d s) k) (sym f.ready.sized.seats) ∙ watch_from d 0 s.seats s.watch in
      let many = actors_many in
      subst (λ (o : Option Actor). SpentIn d w d.processors (step_of w d.processors o)) (sym is)
      (chip_spent (omega (arith, many)) is _ (chip_turn d s s.watch.herald))

  nobody_spent : (i : ℕ) → d.processors < i → SpentIn d w i (step w i)
  nobody_spent i l =
      let beyond : length s.seats < i = rw (f.ready.sized.seats) l in
      subst (λ (o : Option Actor). SpentIn d w i (step_of w i o)) (sym (beyond_from d 0 s.seats s.watch i beyond)) (λ j. omega arith, well)

  scene_spent : (i : ℕ) → SpentIn d w i (step w i)
  scene_spent i =
      ⊎_elim
      (λ (l : i < d.processors). seat_spent i l)
      (λ (g : d.processors ≤ i).
      ⊎_elim
      (λ (e : i ≡ d.processors). subst (λ (k : ℕ). SpentIn d w k (step w k)) (sym e) watch_spent)
      (λ (n : i ≢ d.processors). nobody_spent i (omega (arith, g, n)))
      (cases_eq i d.processors))
      (cases_lt i d.processors)

-- each step spends
pub step_spent : (d : SetupData) (w : World) (m : Machine) (i : ℕ) → IsPolled d → IsFine d w m → Well d w → SpentIn d w i (step w i)
step_spent d w m i polls f well =
    subst (λ (u : World). SpentIn d u i (step u i)) f.world_is
    (scene_spent d polls f.context f.scene m f.holds (subst (Well d) (sym f.world_is) well) i)

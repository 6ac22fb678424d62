-- How many events a schedule has: at most the energy of its actors at the start.
use Rattle.std.proofs.Common.{ℕ, zero, suc, ◌+◌, ◌-◌, ◌*◌, ◌≡◌, ◌≢◌, ◌<◌, ◌≤◌, arith, Bool, cond, List, [], ◌∷◌, length, Option, Some, None, refl, sym, ap, subst, ⊎_elim, ◌∙◌}
use Rattle.std.specs.Prelude.{◌==◌, nat_le, slice_get, unwrap_or}
use Rattle.std.specs.List.{list_all}
use Rattle.std.proofs.lemmas.Bool.{cases_eq, eq-eqb, ne_eqb, and_parts, leb-true}
use Rattle.std.proofs.lemmas.List.Sums.{sum_by-cons}
use Rattle.std.proofs.lemmas.Nat.{mul-le}
use Rattle.std.proofs.lemmas.List.Elements.{All-get_or}
use Rattle.save_state_map.specs.Images.{ImageContents}
use Rattle.cpu_regs.specs.Registers.{Registers}
use Rattle.cpu_table.specs.Data.{SetupData, data_of}
use Rattle.cpu_table.specs.declared.setup.Setup.{Setup}
use Rattle.cpu_table.specs.Ranges.{events_at_most, is_between, wave_fits}
use Rattle.sync_words.specs.declared.event.Event.{Event}
use Rattle.cpu_program.specs.Actors.{Actor, OfChipset}
use Rattle.chipset.specs.Chipsets.{first_chipset}
use Rattle.rendezvous_core.specs.Starts.{AreImagesOf}
use Rattle.rendezvous_core.specs.declared.stepped.Stepped.{Stepped}
use Rattle.rendezvous_core.specs.declared.stepped.Stepped.TheVariants as stepped
use Rattle.rendezvous_core.specs.Worlds.{World, step, start, first_actor, first_actors, with_event, events_from, replay_events}
use Rattle.rendezvous_machine.specs.Machines.{Machine, beginning, no_image}
use Rattle.rendezvous_machine.specs.Effects.{effect}
use Rattle.rendezvous_laws.proofs.Simulations.{KeptBy}
use Rattle.schedule_laws.proofs.Sums.{sum_below, sum_below-same, sum_below-change, sum_below-bound, sum_below-zero}
use Rattle.schedule_laws.proofs.Invariant.{IsFine}
use Rattle.schedule_laws.proofs.Schedules.{IsPlatformWith, each_step, first_fine}
use Rattle.schedule_laws.proofs.Turns.{all_turns}
use Rattle.schedule_laws.proofs.AllSchedules.{platform_of}
use Rattle.bound_laws.specs.Bounds.{events_of, most_in_visit, most_events}
use Rattle.bound_laws.proofs.Energies.{IsPolled, RoundFits, visit_events, spare, later_waves, energy, gives_of, energy_in, energy_of, extra_in}
use Rattle.bound_laws.proofs.Spending.{Well, Spent, step_spent}

-- A SCHEDULE

count_cons : (i : ℕ) (e : Event) (es : List Event) → events_of i (e ∷ es) ≡ cond (e.actor == i) 1 0 + events_of i es
count_cons i e es = sum_by-cons (λ (y : Event). cond (y.actor == i) 1 0) e es

-- the events are of actors that there are
abbrev AreActors : SetupData → List Event → Type 0
AreActors d [] = Unit {0}
AreActors d (e ∷ es) = (e.actor ≤ d.processors) × AreActors d es

abbrev Bounded : SetupData → World → List Event → Type 0
Bounded d w es = ((j : ℕ) → events_of j es ≤ energy_of d w j) × AreActors d es

module _ (d : SetupData) (polls : IsPolled d) where
  behind : (i : ℕ) (w : World) (m : Machine) (rest : List ℕ) → ((u : World) (n : Machine) → IsFine d u n → Well d u → Bounded d u (events_from u rest)) → (st : Stepped) (u : World)
      → KeptBy d (λ v n. IsFine d v n) m i st u → Spent d w i st u → Bounded d w (with_event st (events_from u rest))
  behind i w m rest again (stepped.Event e) u k x =
      let more = again u (effect d m i e.label) k.2 x.4 in
      let is = x.0 in
      let most = x.1 in (
        λ j.
            let count = count_cons j e (events_from u rest) in
            let ih = more.0 j in
            ⊎_elim
            (λ (q : j ≡ i).
            let one : ◌≡◌ {A = ℕ} (cond (e.actor == j) 1 0) 1 = ap (λ (b : Bool). cond b 1 0) (eq-eqb e.actor j (is ∙ sym q)) in
            let falls : energy_of d u j + 1 ≤ energy_of d w j = subst (λ (k : ℕ). energy_of d u k + 1 ≤ energy_of d w k) (sym q) x.2 in
            omega (arith, count, ih, one, falls))
            (λ (q : j ≢ i).
            let none : ◌≡◌ {A = ℕ} (cond (e.actor == j) 1 0) 0 = ap (λ (b : Bool). cond b 1 0) (ne_eqb e.actor j (λ z. q (sym z ∙ is))) in
            let stays = x.3 j q in
            omega (arith, count, ih, none, stays))
            (cases_eq j i),
        (omega (arith, is, most), more.1),
      )
  behind i w m rest again (stepped.Waiting found) u k x = let more = again u m k x.1 in (λ j. let a = more.0 j in let b = x.0 j in omega (arith, a, b), more.1)
  behind i w m rest again stepped.Off u k x = let more = again u m k x.1 in (λ j. let a = more.0 j in let b = x.0 j in omega (arith, a, b), more.1)

  bounded_from : (schedule : List ℕ) (w : World) (m : Machine) → IsFine d w m → Well d w → Bounded d w (events_from w schedule)
  bounded_from [] w m f h = (λ j. omega arith, tt)
  bounded_from (i ∷ rest) w m f h = behind i w m rest (bounded_from rest) (step w i).0 (step w i).1 (each_step d (all_turns d) i w m f) (step_spent d w m i polls f h)

-- THE START

waves_le : (w k n : ℕ) → w * k + (k + n) ≤ suc w * (k + n)
waves_le zero k n = omega arith
waves_le (suc w) k n = let ih = waves_le w k n in omega (arith, ih)

-- what an actor has at the start
record IsFirst (d : SetupData) (a : Actor) : Type 0 where
  few : (x : ℕ) → energy d x a ≤ most_events d
  gives : gives_of d a ≤ d.ops
  round : RoundFits d a

spare_first : (d : SetupData) → spare d 0 ≡ d.visits * visit_events d
unfolding spare
spare_first d = let e : d.visits - 0 ≡ d.visits = omega arith in ap (λ (n : ℕ). n * visit_events d) e

processor_first : (d : SetupData) (me : ℕ) (registers : Registers) (image : ImageContents) → 1 ≤ d.visits → IsFirst d (first_actor d me registers image)
processor_first d me registers image some =
    let l : d.visits * (visit_events d + 1) ≤ most_events d = mul-le d.visits (visit_events d + 1) d.visits (most_in_visit d) (omega arith) (omega arith) in
    let s : d.visits * (visit_events d + 1) ≡ d.visits * visit_events d + d.visits = omega arith in
    let z = spare_first d in
    record { few = λ x. omega (arith, l, s, z, some); gives = omega arith; round = tt }

later_first : (d : SetupData) (w : ℕ) → length d.waves ≡ suc w → later_waves d 1 ≡ w * (5 + d.processors + d.t1 + d.t2)
unfolding later_waves
later_first d w e = let z : length d.waves - 1 ≡ w = omega (arith, e) in ap (λ (n : ℕ). n * (5 + d.processors + d.t1 + d.t2)) z

chipset_by : (d : SetupData) (w : ℕ) → length d.waves ≡ suc w → length d.waves ≤ d.visits → IsFirst d (OfChipset (first_chipset d))
chipset_by d w e few =
    let k : ℕ = 5 + d.processors + d.t1 + d.t2 in
    let n : ℕ = 1 + d.processors in
    let a : w * k + (k + n) ≤ suc w * (k + n) = waves_le w k n in
    let b : suc w * (k + n) ≤ most_events d = mul-le (suc w) (k + n) d.visits (most_in_visit d) (omega (arith, e, few)) (omega arith) in
    let z = later_first d w e in
    record { few = λ x. omega (arith, a, b, z); gives = omega arith; round = tt }

chipset_first : (d : SetupData) → 1 ≤ length d.waves → length d.waves ≤ d.visits → IsFirst d (OfChipset (first_chipset d))
chipset_first d some few = chipset_by d (length d.waves - 1) (omega (arith, some)) few

first_all : (P : Actor → Type 0) (d : SetupData) (me : ℕ) (registers : List Registers) (images : List ImageContents)
    → ((j : ℕ) (r : Registers) (image : ImageContents) → P (first_actor d j r image)) → P (OfChipset (first_chipset d)) → (k : ℕ) (a : Actor) → slice_get (first_actors d me registers images) k ≡ Some a → P a
first_all P d me [] images h c zero a e = subst P (some_is e) c
  where
    some_is : Some (OfChipset (first_chipset d)) ≡ Some a → OfChipset (first_chipset d) ≡ a
    some_is e = ap (λ (o : Option Actor). unwrap_or o a) e
first_all P d me [] images h c (suc k) a e = cc
first_all P d me (r ∷ rs) [] h c zero a e = subst P (ap (λ (o : Option Actor). unwrap_or o a) e) c
first_all P d me (r ∷ rs) [] h c (suc k) a e = cc
first_all P d me (r ∷ rs) (image ∷ images) h c zero a e = subst P (ap (λ (o : Option Actor). unwrap_or o a) e) (h me r image)
first_all P d me (r ∷ rs) (image ∷ images) h c (suc k) a e = first_all P d (me + 1) rs images h c k a e

-- ALL EVENTS

-- how many events there are of those below n
one_of : (n i : ℕ) → i < n → sum_below n (λ j. cond (i == j) 1 0) ≡ 1
one_of n i l =
    let change = sum_below-change n (λ j. 0) (λ j. cond (i == j) 1 0) i l (λ j k q. sym (ap (λ (b : Bool). cond b 1 0) (ne_eqb i j (λ z. q (sym z))))) in
    let zero = sum_below-zero n (λ j. 0) (λ j k. refl) in
    let one : ◌≡◌ {A = ℕ} (cond (i == i) 1 0) 1 = ap (λ (b : Bool). cond b 1 0) (eq-eqb i i refl) in
    omega (arith, change, zero, one)

sum_below-add : (n : ℕ) (f g : ℕ → ℕ) → sum_below n (λ j. f j + g j) ≡ sum_below n f + sum_below n g
unfolding sum_below
sum_below-add zero f g = omega arith
sum_below-add (suc n) f g = let ih = sum_below-add n f g in omega (arith, ih)

all_counted : (d : SetupData) (es : List Event) → AreActors d es → length es ≤ sum_below (d.processors + 1) (λ j. events_of j es)
all_counted d [] h = omega arith
all_counted d (e ∷ es) h =
    let ih = all_counted d es h.1 in
    let add = sum_below-add (d.processors + 1) (λ j. cond (e.actor == j) 1 0) (λ j. events_of j es) in
    let one = one_of (d.processors + 1) e.actor (let a = h.0 in omega (arith, a)) in
    let same = sum_below-same (d.processors + 1) (λ j. events_of j (e ∷ es)) (λ j. cond (e.actor == j) 1 0 + events_of j es) (λ j l. count_cons j e es) in
    omega (arith, ih, add, one, same)

-- EVERY SCHEDULE

pub record IsBounded (d : SetupData) (es : List Event) : Type 0 where
  pub each : (i : ℕ) → events_of i es ≤ most_events d
  pub all : length es ≤ events_at_most d.processors d.t1 d.t2 d.visits d.ops

pub within_limits : (d : SetupData) (registers : List Registers) (images : List ImageContents) (schedule : List ℕ) → IsPlatformWith d registers images → IsPolled d → length d.waves ≤ d.visits
    → IsBounded d (replay_events d registers images schedule)
within_limits d registers images schedule p polls few =
    let w : World = start d registers images in
    let first : (j : ℕ) (a : Actor) → slice_get w.actors j ≡ Some a → IsFirst d a =
    (λ j a e. first_all (IsFirst d) d 0 registers images (λ k r image. processor_first d k r image p.platform.visits) (chipset_first d p.platform.waves few) j a e) in
    let b = bounded_from d polls schedule w (beginning d registers images) (first_fine d registers images p) (λ j a e. let x = first j a e in (x.gives, x.round)) in
    let each : (i : ℕ) → events_of i (events_from w schedule) ≤ most_events d =
    (λ i. let a = b.0 i in let c = at_start d w first i (slice_get w.actors i) refl in omega (arith, a, c)) in
    let sum = all_counted d (events_from w schedule) b.1 in
    let most = sum_below-bound (d.processors + 1) (most_events d) (λ j. events_of j (events_from w schedule)) (λ j l. each j) in
    record { each = each; all = omega (arith, sum, most) }
  where
    at_start : (d : SetupData) (w : World) → ((j : ℕ) (a : Actor) → slice_get w.actors j ≡ Some a → IsFirst d a) → (i : ℕ) (o : Option Actor) → slice_get w.actors i ≡ o → energy_in d w i o ≤ most_events d
    at_start d w first i None e = omega arith
    at_start d w first i (Some a) e = (first i a e).few (extra_in d w i a)

-- a setup keeps the ranges
pub setup_bounded : (setup : Setup) (registers : List Registers) (images : List ImageContents) (schedule : List ℕ) → length registers ≡ setup.processors → AreImagesOf (data_of setup) images
    → IsBounded (data_of setup) (replay_events (data_of setup) registers images schedule)
setup_bounded setup registers images schedule count serve =
    let d : SetupData = data_of setup in
    let waves = and_parts (is_between 1 d.visits (length d.waves)) (list_all (wave_fits d.processors) d.waves) setup.waves_in_range in
    let polls = setup.polls_in_range in
    within_limits d registers images schedule
    (record {
      platform = platform_of d setup.processors_in_range.0 setup.processors_in_range.1 setup.visits_in_range.0 setup.policy_in_range setup.waves_in_range setup.handlers_in_range;
      count = count;
      many = serve.count;
      kinds = λ i l. All-get_or (λ image. image.kind ≡ d.kind) images i no_image l serve.kind;
    })
    (record { first = polls.0; second = polls.2 })
    (leb-true (length d.waves) d.visits (and_parts (nat_le 1 (length d.waves)) (nat_le (length d.waves) d.visits) waves.0).1)

-- and the greatest number of events
pub few_events : (setup : Setup) (registers : List Registers) (images : List ImageContents) (schedule : List ℕ) → length registers ≡ setup.processors → AreImagesOf (data_of setup) images
    → length (replay_events (data_of setup) registers images schedule) ≤ 4194304
few_events setup registers images schedule count serve =
    let all = (setup_bounded setup registers images schedule count serve).all in
    let few = setup.events_in_range in
    omega (arith, all, few)

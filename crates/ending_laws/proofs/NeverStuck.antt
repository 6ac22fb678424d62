-- No world that a schedule reaches is stuck: all is off there, or some actor makes an event.
use Rattle.std.proofs.Common.{ℕ, zero, suc, ◌+◌, ◌%◌, ◌≡◌, ◌≢◌, ◌<◌, ◌≤◌, ◌⊎◌, inl, inr, ⊎_elim, arith, Bool, true, false, List, [], ◌∷◌, length, get_or, Option, Some, refl, sym, ap, subst, ◌∙◌}
use Rattle.std.specs.Prelude.{◌&&◌, slice_get}
use Rattle.std.specs.List.{list_all}
use Rattle.std.proofs.lemmas.Bool.{cases_eq, cases_lt}
use Rattle.std.proofs.lemmas.List.{get_or_past, get_or-replicate, length-replicate}
use Rattle.std.proofs.lemmas.List.Elements.{All-get_or}
use Rattle.save_state_map.specs.Images.{ImageContents}
use Rattle.cpu_regs.specs.Registers.{Registers}
use Rattle.cpu_table.specs.Data.{SetupData, data_of}
use Rattle.cpu_table.specs.declared.setup.Setup.{Setup}
use Rattle.cpu_program.specs.Actors.{Actor, OfProcessor, OfChipset}
use Rattle.chipset.specs.Chipsets.{first_chipset}
use Rattle.cpu_program.specs.Programs.{is_off, want_of}
use Rattle.rendezvous_core.specs.declared.stepped.Stepped.{Stepped}
use Rattle.rendezvous_core.specs.declared.stepped.Stepped.TheVariants as stepped
use Rattle.rendezvous_core.specs.Endings.{MakesEvent, CanGoOn, IsNeverStuck}
use Rattle.rendezvous_core.specs.Starts.{AreImagesOf}
use Rattle.rendezvous_core.specs.Worlds.{World, step, step_of, turn, start, first_actors, world_after, is_complete, MakesNoEvent}
use Rattle.rendezvous_machine.specs.Machines.{Machine, beginning, no_image}
use Rattle.rendezvous_laws.proofs.Simulations.{KeptBy, EachStepKeeps, ran_from}
use Rattle.schedule_laws.proofs.Scenes.{Scene, Seat, Watch, Herald, Raising, AwaitingServed, TurningOff, Silenced, Position, AwaitingSmi, Away, seat, no_seat, row_at, chipset_at, chipset_of, processor_at, processor_of, part_at, actors_from, actors_of, world_of, watch_from}
use Rattle.schedule_laws.proofs.Stations.{station_of, walk_of}
use Rattle.schedule_laws.proofs.Invariant.{Context, IsPlatform, Holds, IsFine}
use Rattle.schedule_laws.proofs.Schedules.{IsPlatformWith, each_step, first_fine}
use Rattle.schedule_laws.proofs.Turns.{all_turns}
use Rattle.schedule_laws.proofs.AllSchedules.{platform_of}
use Rattle.ending_laws.proofs.Waits.{IsWaiting, turned_idle, idle_waits}
use Rattle.ending_laws.proofs.Halts.{IsResting, resting}
use Rattle.ending_laws.proofs.Parts.{class_of}
use Rattle.ending_laws.proofs.Steady.{IsPend, IsSteady, actor_at, class_at, class_in, told, told_in, told_row}
use Rattle.ending_laws.proofs.Steps.{class_is, told_is, steady_step}
use Rattle.ending_laws.proofs.Sessions.{AllWait, seat_halts, session_goes_on}

-- OUTSIDE OF A SESSION

-- the chipset waits for a signal to be taken, or is off
herald_halts : (d : SetupData) (s : Scene) (h : Herald) → s.words.inside ≡ 0 → IsWaiting s.words s.lying (OfChipset (chipset_at d h s.watch)) (want_of (OfChipset (chipset_at d h s.watch)))
    → (h ≡ Silenced) ⊎ ((j : ℕ) × (get_or s.words.pend j 0 % 8 ≡ 1))
herald_halts d s (Raising j) z h = inr (j, h)
herald_halts d s (TurningOff j) z h = inr (j, h)
herald_halts d s AwaitingServed z h = absurd (h z)
herald_halts d s Silenced z h = inl refl
herald_halts d s _ z h = absurd h

watch_waits : (d : SetupData) (s : Scene) → length s.seats ≡ d.processors → MakesNoEvent (step (world_of d s) d.processors).0
    → IsWaiting s.words s.lying (chipset_of d s.watch) (want_of (chipset_of d s.watch))
watch_waits d s e h =
    let at : slice_get (actors_of d s) d.processors ≡ Some (chipset_of d s.watch) = ap (λ (k : ℕ). slice_get (actors_of d s) k) (sym e) ∙ watch_from d 0 s.seats s.watch in
    let idle : MakesNoEvent (step_of (world_of d s) d.processors (Some (chipset_of d s.watch))).0 = subst (λ (o : Option Actor). MakesNoEvent (step_of (world_of d s) d.processors o).0) at h in
    idle_waits s.words s.lying d.processors (chipset_of d s.watch) (turned_idle (world_of d s) d.processors (turn s.words s.lying d.processors (chipset_of d s.watch)) idle)

-- one that has the signal 1 takes it
takes : (d : SetupData) (j tell pend : ℕ) (t : Seat) (at : Position) → IsPend tell j (class_of (part_at d j at t)) pend → pend % 8 ≡ 1 → IsResting pend at → ⊥
takes d j tell pend t at h a x =
    ⊎_elim
    (λ (q : at ≡ Away). let y = h.off (ap (λ (p : Position). class_of (part_at d j p t)) q) in omega (arith, a, y))
    (λ (q : (at ≡ AwaitingSmi) × (pend ≢ 4) × (pend ≢ 1)).
    let e = ap (λ (p : Position). class_of (part_at d j p t)) q.0 in let y = h.out (omega (arith, e)) in q.2 (omega (arith, a, y)))
    x

-- one that was told to turn off is off
turns_off : (d : SetupData) (j tell pend : ℕ) (t : Seat) (at : Position) → IsPend tell j (class_of (part_at d j at t)) pend → j < tell → IsResting pend at → at ≡ Away
turns_off d j tell pend t at h a x =
    ⊎_elim
    (λ (q : at ≡ Away). q)
    (λ (q : (at ≡ AwaitingSmi) × (pend ≢ 4) × (pend ≢ 1)).
    let e = ap (λ (p : Position). class_of (part_at d j p t)) q.0 in let y = h.out (omega (arith, e)) in let z = h.last a in absurd (q.1 (omega (arith, y, z))))
    x

both_true : (a b : Bool) → a ≡ true → b ≡ true → (a && b) ≡ true
both_true true b h k = k
both_true false b h k = h

off_at : (d : SetupData) (me : ℕ) (t : Seat) (at : Position) → at ≡ Away → is_off (OfProcessor (processor_at d me at t)) ≡ true
off_at d me t at e = ap (λ (p : Position). is_off (OfProcessor (processor_at d me p t))) e

all_off : (d : SetupData) (me : ℕ) (ss : List Seat) (x : Watch) → ((j : ℕ) → j < length ss → (get_or ss j no_seat).position ≡ Away) → x.herald ≡ Silenced
    → list_all is_off (actors_from d me ss x) ≡ true
all_off d me [] x h e = both_true (is_off (chipset_of d x)) true (ap (λ (y : Herald). is_off (OfChipset (chipset_at d y x))) e) refl
all_off d me (t ∷ ss) x h e = both_true (is_off (processor_of d me t)) (list_all is_off (actors_from d (me + 1) ss x)) (off_at d me t t.position (h 0 (omega arith))) (all_off d (me + 1) ss x (λ j l. h (suc j) (omega (arith, l))) e)

module _ (d : SetupData) (c : Context) (s : Scene) (m : Machine) (f : Holds d c s m) (k : IsSteady d (world_of d s)) (h : AllWait d (world_of d s)) where
  -- each processor is off, or out with no signal that it would take
  each_rests : c.stage ≡ 0 → (j : ℕ) → j < d.processors → IsResting (get_or s.words.pend j 0) (seat s j).position
  each_rests st j l =
      let g = f.ready in
      let few = g.platform.few in
      let b = g.words.no_bsp st in
      let n : j ≢ c.bsp = (λ z. omega (arith, l, few, b, z)) in
      let x = (g.each j l).peer n in
      let walk : walk_of (station_of (seat s j).position) ≡ 0 =
      ⊎_elim (λ (z : walk_of (station_of (seat s j).position) ≡ 0). z) (λ (z : walk_of (station_of (seat s j).position) ≢ 0). let y = x.walking (omega (arith, z)) in absurd (omega (arith, y, st)))
      (cases_eq (walk_of (station_of (seat s j).position)) 0) in
      resting d s j (seat s j).position (seat_halts d c s m j f l h) x.station walk (g.words.insync_before (omega (arith, st)))

  pend_of : (j : ℕ) → j < d.processors → IsPend (told d (world_of d s)) j (class_of (part_at d j (seat s j).position (seat s j))) (get_or s.words.pend j 0)
  pend_of j l = subst (λ (x : ℕ). IsPend (told d (world_of d s)) j x (get_or s.words.pend j 0)) (class_is d s j (rw f.ready.sized.seats l)) (k.each j l)

  all_complete : c.stage ≡ 0 → is_complete (world_of d s) ≡ true
  all_complete st =
      let g = f.ready in
      ⊎_elim
      (λ (z : s.watch.herald ≡ Silenced).
      let tell : told d (world_of d s) ≡ d.processors = told_is d s g.sized.seats ∙ ap (λ (y : Herald). told_row d.processors (row_at y)) z in
      all_off d 0 s.seats s.watch
      (λ j l.
      let lj : j < d.processors = (let e = g.sized.seats in omega (arith, e, l)) in
      turns_off d j (told d (world_of d s)) (get_or s.words.pend j 0) (seat s j) (seat s j).position (pend_of j lj) (omega (arith, lj, tell)) (each_rests st j lj))
      z)
      (λ (z : (j : ℕ) × (get_or s.words.pend j 0 % 8 ≡ 1)).
      let j : ℕ = z.0 in
      ⊎_elim
      (λ (l : j < d.processors). absurd (takes d j (told d (world_of d s)) (get_or s.words.pend j 0) (seat s j) (seat s j).position (pend_of j l) z.1 (each_rests st j l)))
      (λ (l : d.processors ≤ j). let y = get_or_past s.words.pend j 0 (rw k.pend l) in let u = z.1 in absurd (omega (arith, y, u)))
      (cases_lt j d.processors))
      (herald_halts d s s.watch.herald (g.words.inside_before (omega (arith, st))) (watch_waits d s g.sized.seats (h d.processors (omega arith))))

  pub complete : is_complete (world_of d s) ≡ true
  complete =
      ⊎_elim
      (λ (z : c.stage ≡ 0). all_complete z)
      (λ (z : c.stage ≢ 0). absurd (session_goes_on d c s m f k (omega (arith, z)) h))
      (cases_eq c.stage 0)

-- SOME ACTOR

event_or_none : (x : Stepped) → MakesNoEvent x ⊎ MakesEvent x
event_or_none (stepped.Event e) = inr tt
event_or_none (stepped.Waiting found) = inl tt
event_or_none stepped.Off = inl tt

-- none of the actors below n makes an event, or one does
search_below : (w : World) (n : ℕ) → ((i : ℕ) → i < n → MakesNoEvent (step w i).0) ⊎ ((i : ℕ) × (i < n) × MakesEvent (step w i).0)
search_below w zero = inl (λ i l. absurd (omega arith))
search_below w (suc n) =
    ⊎_elim
    (λ (z : MakesNoEvent (step w n).0).
    ⊎_elim
    (λ (y : (i : ℕ) → i < n → MakesNoEvent (step w i).0).
    inl (λ i l. ⊎_elim (λ (q : i ≡ n). subst (λ (x : ℕ). MakesNoEvent (step w x).0) (sym q) z) (λ (q : i ≢ n). y i (omega (arith, l, q))) (cases_eq i n)))
    (λ (y : (i : ℕ) × (i < n) × MakesEvent (step w i).0). inr (y.0, let l = y.1 in omega (arith, l), y.2))
    (search_below w n))
    (λ (z : MakesEvent (step w n).0). inr (n, omega arith, z))
    (event_or_none (step w n).0)

pub goes_on : (d : SetupData) (w : World) (m : Machine) → IsFine d w m → IsSteady d w → (is_complete w ≡ true) ⊎ CanGoOn w
goes_on d w m f k =
    let steady : IsSteady d (world_of d f.scene) = subst (IsSteady d) (sym f.world_is) k in
    ⊎_elim
    (λ (z : (i : ℕ) → i < d.processors + 1 → MakesNoEvent (step w i).0).
    inl (subst (λ (u : World). is_complete u ≡ true) f.world_is
    (complete d f.context f.scene m f.holds steady (λ i l. subst (λ (u : World). MakesNoEvent (step u i).0) (sym f.world_is) (z i (omega (arith, l)))))))
    (λ (z : (i : ℕ) × (i < d.processors + 1) × MakesEvent (step w i).0). inr (z.0, let l = z.1 in let c = k.count in omega (arith, l, c), z.2))
    (search_below w (d.processors + 1))

-- EVERY SCHEDULE

abbrev IsBoth : SetupData → World → Machine → Type 0
IsBoth d w m = IsFine d w m × IsSteady d w

both_kept : (d : SetupData) (m : Machine) (i : ℕ) (st : Stepped) (w : World) → KeptBy d (λ u n. IsFine d u n) m i st w → IsSteady d w → KeptBy d (λ u n. IsBoth d u n) m i st w
both_kept d m i (stepped.Event e) w h k = (h.0, h.1, (h.2, k))
both_kept d m i (stepped.Waiting found) w h k = (h, k)
both_kept d m i stepped.Off w h k = (h, k)

steps_both : (d : SetupData) → EachStepKeeps d (λ w m. IsBoth d w m)
steps_both d i w m f =
    let steady : IsSteady d (world_of d f.0.scene) = subst (IsSteady d) (sym f.0.world_is) f.1 in
    both_kept d m i (step w i).0 (step w i).1 (each_step d (all_turns d) i w m f.0)
    (subst (λ (u : World). IsSteady d (step u i).1) f.0.world_is (steady_step d f.0.context f.0.scene m f.0.holds steady i))

-- the start

first_class : (d : SetupData) (me : ℕ) (registers : List Registers) (images : List ImageContents) (j : ℕ) → length registers ≡ length images → j < length registers
    → class_in (get_or (first_actors d me registers images) j (OfChipset (first_chipset d))) ≡ 3
first_class d me [] images j e l = absurd (omega (arith, l))
first_class d me (r ∷ rs) [] j e l = absurd (omega (arith, e))
first_class d me (r ∷ rs) (image ∷ images) zero e l = refl
first_class d me (r ∷ rs) (image ∷ images) (suc j) e l = first_class d (me + 1) rs images j (omega (arith, e)) (omega (arith, l))

first_count : (d : SetupData) (me : ℕ) (registers : List Registers) (images : List ImageContents) → length registers ≡ length images
    → (length (first_actors d me registers images) ≡ length registers + 1) × (get_or (first_actors d me registers images) (length registers) (OfChipset (first_chipset d)) ≡ OfChipset (first_chipset d))
first_count d me [] images e = (refl, refl)
first_count d me (r ∷ rs) [] e = absurd (omega (arith, e))
first_count d me (r ∷ rs) (image ∷ images) e = let h = first_count d (me + 1) rs images (omega (arith, e)) in (omega (arith, h.0), h.1)

first_steady : (d : SetupData) (registers : List Registers) (images : List ImageContents) → length registers ≡ d.processors → length images ≡ d.processors → IsSteady d (start d registers images)
first_steady d registers images a b =
    let w : World = start d registers images in
    let same : length registers ≡ length images = a ∙ sym b in
    let count = first_count d 0 registers images same in
    let out_is : (j : ℕ) → j < d.processors → class_at d w j ≡ 3 = (λ j l. first_class d 0 registers images j same (omega (arith, a, l))) in
    let tell : told d w ≡ 0 =
    ap (λ (k : ℕ). told_in d.processors (actor_at d w k)) (sym a) ∙ ap (told_in d.processors) count.1 in
    record {
      count = omega (arith, count.0, a);
      pend = length-replicate {A = ℕ} d.processors 0;
      each = λ j l.
          let e = out_is j l in
          rw (get_or-replicate {A = ℕ} d.processors j 0 0 l)
          (record { below = omega arith; out = λ _. omega arith; off = λ y. absurd (omega (arith, e, y)); last = λ y. absurd (omega (arith, tell, y)) });
      staying = λ i j li lj x y. let e = out_is i li in omega (arith, e, x);
    }

pub never_stuck : (d : SetupData) (registers : List Registers) (images : List ImageContents) → IsPlatform d → length registers ≡ d.processors → AreImagesOf d images
    → IsNeverStuck (start d registers images)
never_stuck d registers images platform count serve schedule =
    let with_images : IsPlatformWith d registers images =
    record { platform = platform; count = count; many = serve.count; kinds = λ i l. All-get_or (λ image. image.kind ≡ d.kind) images i no_image l serve.kind } in
    let first : IsBoth d (start d registers images) (beginning d registers images) = (first_fine d registers images with_images, first_steady d registers images count serve.count) in
    let ran = ran_from d (λ w m. IsBoth d w m) (steps_both d) schedule (start d registers images) (beginning d registers images) first in
    goes_on d (world_after (start d registers images) schedule) _ ran.after.0 ran.after.1

pub setup_never_stuck : (setup : Setup) (registers : List Registers) (images : List ImageContents) → length registers ≡ setup.processors → AreImagesOf (data_of setup) images
    → IsNeverStuck (start (data_of setup) registers images)
setup_never_stuck setup registers images count serve =
    never_stuck (data_of setup) registers images
    (platform_of (data_of setup) setup.processors_in_range.0 setup.processors_in_range.1 setup.visits_in_range.0 setup.policy_in_range setup.waves_in_range setup.handlers_in_range)
    count serve

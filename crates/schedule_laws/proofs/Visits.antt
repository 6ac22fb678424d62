-- The steps of a processor on its way in and on its way out.
use Rattle.std.proofs.Common.{ℕ, ◌+◌, ◌-◌, ◌*◌, ◌%◌, ◌≡◌, ◌≢◌, ◌<◌, ◌≤◌, arith, true, false, eqb, List, length, get_or, slice_set, Option, Some, None, refl, subst, ap, ⊎_elim, inl, inr, ◌∙◌}
use Rattle.std.specs.Prelude.{◌||◌, ◌&&◌, ◌==◌, option_map}
use Rattle.std.proofs.lemmas.Bool.{cases_eq, cases_Bool, ne_eqb, eq-eqb, lt-ltb, le-ltb, lt-leb, le-leb, cases_lt}
use Rattle.std.proofs.lemmas.List.{get_or-set_other, get_or-set_same, length-set}
use Rattle.smm_base.specs.declared.kinds.Policy.{Policy}
use Rattle.smm_base.specs.declared.kinds.Policy.TheVariants.{Elected, Fixed}
use Rattle.smm_base.specs.declared.kinds.Cause.{Cause}
use Rattle.save_state_map.specs.Images.{ImageContents}
use Rattle.cpu_regs.specs.Registers.{Registers, loaded}
use Rattle.cpu_regs.specs.Entering.{saved}
use Rattle.cpu_table.specs.Data.{SetupData}
use Rattle.cpu_table.specs.Causes.{cause_of}
use Rattle.arrival.specs.Entry as entry
use Rattle.arrival.specs.Entry.{to_elect}
use Rattle.handler_ops.specs.declared.desk.Desk.{Desk}
use Rattle.cpu_program.specs.declared.part.Part.TheVariants.{Between}
use Rattle.cpu_program.specs.declared.cargo.Cargo.TheVariants as cargo
use Rattle.cpu_program.specs.Actors.{Processor, OfProcessor}
use Rattle.cpu_program.specs.Processors.{left_to, to_await}
use Rattle.rendezvous_core.specs.Worlds.{Words}
use Rattle.rendezvous_machine.specs.declared.phase.Phase.TheVariants.{Out, In, Counted, Gone, Off}
use Rattle.rendezvous_machine.specs.Machines.{Machine, member}
use Rattle.rendezvous_machine.specs.Effects.{with_member}
use Rattle.rendezvous_machine.proofs.ImageKinds.{saved_kind}
use Rattle.schedule_laws.proofs.Scenes.{Scene, Seat, Position, AwaitingSmi, SwitchingOff, LookingAtSource, LookingInside, CountingIn, ClaimingChair, AskingForChair, AwaitingInside, AwaitingEnd, ClearingSignal, Away, seat, processor_at, actors_of, entering_at}
use Rattle.schedule_laws.proofs.Stations.{station_of, work_of}
use Rattle.schedule_laws.proofs.Invariant.{Context, View, IsCpu, IsIdle, IsSignal, Holds, IsFine, KeptAt, desk_at, locked, view_at}
use Rattle.schedule_laws.proofs.Frames.{IsMover, mover, own_at, seated, stays, signal_set}
use Rattle.schedule_laws.proofs.OwnFrames.{seat_holds, member_holds}
use Rattle.schedule_laws.proofs.Facts.{not_at_work, is_closed, not_closed, locked_stage, open_stage}
use Rattle.schedule_laws.proofs.VisitMoves.{arriving, arriving_first, arriving_first_run, arriving_owner, arriving_owner_run, arriving_run, coming_late, coming_late_run, entering, entering_run, looking_at_source, looking_at_source_run, looking_inside, looking_inside_run, resuming, resuming_last, resuming_last_run, resuming_run, session_ended, session_ended_run, switching_off, switching_off_run, turned_off, turned_off_run, turning, turning_run}

pub look_at_source : (d : SetupData) (c : Context) (i : ℕ) (s : Scene) (m : Machine) (t : Seat) → Holds d c s m → i < d.processors → seat s i ≡ t → t.position ≡ LookingAtSource
    → KeptAt d s m i t LookingAtSource
look_at_source d c i s m t f l e q =
    let g = f.ready in
    let v : View = view_at (station_of LookingAtSource) t s m i in
    let own : IsCpu d c m.waves i (view_at (station_of LookingAtSource) t s m i) = own_at d c i s m t LookingAtSource f l e q in
    let h : IsMover d c i s m t LookingAtSource = mover d c i s m t LookingAtSource refl f l e q in
    let nb : i ≢ c.bsp = h.other in
    let ls : i < length s.seats = rw g.sized.seats l in
    (refl, tt, seated d c s s.words s.lying m i (record t { position = LookingInside s.words.source }) ls (seat_holds d c i s m t (record t { position = LookingInside s.words.source }) LookingAtSource s.words.pend h (record { size = refl; held = λ k n. refl; chair = refl }) refl g.signals refl refl (looking_at_source d c m.waves i 0 v nb own) (λ y. looking_at_source_run d c m.waves i (get_or s.words.run i 0) v nb own y)))

pub look_inside : (d : SetupData) (c : Context) (i : ℕ) (s : Scene) (m : Machine) (t : Seat) (source : ℕ) → Holds d c s m → i < d.processors → seat s i ≡ t → t.position ≡ (LookingInside source)
    → KeptAt d s m i t (LookingInside source)
look_inside d c i s m t source f l e q =
    let g = f.ready in
    let v : View = view_at (station_of (LookingInside source)) t s m i in
    let own : IsCpu d c m.waves i (view_at (station_of (LookingInside source)) t s m i) = own_at d c i s m t (LookingInside source) f l e q in
    let h : IsMover d c i s m t (LookingInside source) = mover d c i s m t (LookingInside source) refl f l e q in
    let nb : i ≢ c.bsp = h.other in
    let ls : i < length s.seats = rw g.sized.seats l in
    ⊎_elim
    (λ (z : s.words.inside ≡ 0).
    ⊎_elim
    (λ (b : eqb source 0 ≡ true). simp (b, eq-eqb s.words.inside 0 z) (refl, (own.self.phase, not_at_work d c s m g z), seated d c s s.words s.lying (with_member i (record (member m i) { phase = Gone }) m) i (record t { position = AwaitingEnd }) ls (member_holds d c i s m t (record t { position = AwaitingEnd }) (LookingInside source) s.words.pend s.words.counter (record (member m i) { phase = Gone }) h (record { size = refl; held = λ k n. refl; chair = refl }) refl g.signals (λ _. omega arith) (λ _. refl) (omega arith) (λ y. record { lies = y.lies; finished = y.finished; ran = y.ran }) refl refl refl (turning d c m.waves i 0 v nb own) (λ y. turning_run d c m.waves i (get_or s.words.run i 0) v nb own y))))
    (λ (b : eqb source 0 ≡ false). simp b (refl, tt, seated d c s s.words s.lying m i (record t { position = CountingIn source s.words.inside }) ls (seat_holds d c i s m t (record t { position = CountingIn source s.words.inside }) (LookingInside source) s.words.pend h (record { size = refl; held = λ k n. refl; chair = refl }) refl g.signals refl refl (looking_inside d c m.waves i 0 v nb own) (λ y. looking_inside_run d c m.waves i (get_or s.words.run i 0) v nb own y))))
    (cases_Bool (eqb source 0)))
    (λ (z : s.words.inside ≢ 0).
    ⊎_elim
    (λ (b : eqb source 0 ≡ true). simp (b, ne_eqb s.words.inside 0 z) (refl, tt, seated d c s s.words s.lying m i (record t { position = CountingIn source s.words.inside }) ls (seat_holds d c i s m t (record t { position = CountingIn source s.words.inside }) (LookingInside source) s.words.pend h (record { size = refl; held = λ k n. refl; chair = refl }) refl g.signals refl refl (looking_inside d c m.waves i 0 v nb own) (λ y. looking_inside_run d c m.waves i (get_or s.words.run i 0) v nb own y))))
    (λ (b : eqb source 0 ≡ false). simp b (refl, tt, seated d c s s.words s.lying m i (record t { position = CountingIn source s.words.inside }) ls (seat_holds d c i s m t (record t { position = CountingIn source s.words.inside }) (LookingInside source) s.words.pend h (record { size = refl; held = λ k n. refl; chair = refl }) refl g.signals refl refl (looking_inside d c m.waves i 0 v nb own) (λ y. looking_inside_run d c m.waves i (get_or s.words.run i 0) v nb own y))))
    (cases_Bool (eqb source 0)))
    (cases_eq s.words.inside 0)

-- one that comes in first, by the policy
arrives : (d : SetupData) (c : Context) (i : ℕ) (s : Scene) (m : Machine) (t : Seat) (policy : Policy) (source inside : ℕ) → Holds d c s m → i < d.processors → seat s i ≡ t
    → t.position ≡ CountingIn source inside → c.stage ≤ 9
    → IsFine d (record { words = record s.words { counter = s.words.counter + 1 }; lying = s.lying; actors = slice_set (actors_of d s) i (OfProcessor (record (processor_at d i (CountingIn source inside) t) { part = entering_at d i (to_elect policy) source inside })) }) (with_member i (record (member m i) { phase = Counted }) m)
arrives d c i s m t Elected source inside f l e q st =
    let g = f.ready in
    let v : View = view_at (station_of (CountingIn source inside)) t s m i in
    let own : IsCpu d c m.waves i (view_at (station_of (CountingIn source inside)) t s m i) = own_at d c i s m t (CountingIn source inside) f l e q in
    let h : IsMover d c i s m t (CountingIn source inside) = mover d c i s m t (CountingIn source inside) refl f l e q in
    let nb : i ≢ c.bsp = h.other in
    let ls : i < length s.seats = rw g.sized.seats l in
    let none : v.departed ≡ 0 = own.team.departed_open st in
    seated d c s (record s.words { counter = s.words.counter + 1 }) s.lying (with_member i (record (member m i) { phase = Counted }) m) i (record t { position = ClaimingChair source inside }) ls (member_holds d c i s m t (record t { position = ClaimingChair source inside }) (CountingIn source inside) s.words.pend (s.words.counter + 1) (record (member m i) { phase = Counted }) h (record { size = refl; held = λ k n. refl; chair = refl }) refl g.signals (λ _. omega arith) (λ y. absurd (omega arith)) (omega arith) (λ y. record { lies = y.lies; finished = y.finished; ran = y.ran }) refl refl (omega arith) (arriving_first d c m.waves i 0 v st nb own) (λ y. arriving_first_run d c m.waves i (get_or s.words.run i 0) v st nb own y))
arrives d c i s m t (Fixed b) source inside f l e q st =
    let g = f.ready in
    let v : View = view_at (station_of (CountingIn source inside)) t s m i in
    let own : IsCpu d c m.waves i (view_at (station_of (CountingIn source inside)) t s m i) = own_at d c i s m t (CountingIn source inside) f l e q in
    let h : IsMover d c i s m t (CountingIn source inside) = mover d c i s m t (CountingIn source inside) refl f l e q in
    let nb : i ≢ c.bsp = h.other in
    let ls : i < length s.seats = rw g.sized.seats l in
    let none : v.departed ≡ 0 = own.team.departed_open st in
    seated d c s (record s.words { counter = s.words.counter + 1 }) s.lying (with_member i (record (member m i) { phase = Counted }) m) i (record t { position = AskingForChair source inside }) ls (member_holds d c i s m t (record t { position = AskingForChair source inside }) (CountingIn source inside) s.words.pend (s.words.counter + 1) (record (member m i) { phase = Counted }) h (record { size = refl; held = λ k n. refl; chair = refl }) refl g.signals (λ _. omega arith) (λ y. absurd (omega arith)) (omega arith) (λ y. record { lies = y.lies; finished = y.finished; ran = y.ran }) refl refl (omega arith) (arriving_owner d c m.waves i 0 v st nb own) (λ y. arriving_owner_run d c m.waves i (get_or s.words.run i 0) v st nb own y))

-- what comes after its entry depends on what it found in `inside`
arrival : (d : SetupData) (i : ℕ) (s : Scene) (m : Machine) (p : Processor) (policy : Policy) (source inside : ℕ) (words : Words)
    → IsFine d (record { words = words; lying = s.lying; actors = slice_set (actors_of d s) i (OfProcessor (record p { part = entering_at d i (to_elect policy) source inside })) }) m
    → IsFine d (record { words = words; lying = s.lying; actors = slice_set (actors_of d s) i (OfProcessor (left_to (entry.left_of (to_elect policy)) (record p { part = entering_at d i (to_elect policy) source inside }))) }) m
arrival d i s m p Elected source inside words f = f
arrival d i s m p (Fixed b) source inside words f = f

pub count_in : (d : SetupData) (c : Context) (i : ℕ) (s : Scene) (m : Machine) (t : Seat) (source inside : ℕ) → Holds d c s m → i < d.processors → seat s i ≡ t → t.position ≡ (CountingIn source inside)
    → KeptAt d s m i t (CountingIn source inside)
count_in d c i s m t source inside f l e q =
    let g = f.ready in
    let v : View = view_at (station_of (CountingIn source inside)) t s m i in
    let own : IsCpu d c m.waves i (view_at (station_of (CountingIn source inside)) t s m i) = own_at d c i s m t (CountingIn source inside) f l e q in
    let h : IsMover d c i s m t (CountingIn source inside) = mover d c i s m t (CountingIn source inside) refl f l e q in
    let nb : i ≢ c.bsp = h.other in
    let ls : i < length s.seats = rw g.sized.seats l in
    ⊎_elim
    (λ (z : s.words.counter ≡ locked).
    let st : 10 ≤ c.stage = locked_stage d c s m g z in
    simp (eq-eqb s.words.counter locked z) (refl, (own.self.phase, is_closed d c s m g st), seated d c s s.words s.lying (with_member i (record (member m i) { phase = Gone }) m) i (record t { position = AwaitingEnd }) ls (member_holds d c i s m t (record t { position = AwaitingEnd }) (CountingIn source inside) s.words.pend s.words.counter (record (member m i) { phase = Gone }) h (record { size = refl; held = λ k n. refl; chair = refl }) refl g.signals (λ _. omega arith) (λ _. refl) (omega arith) (λ y. record { lies = y.lies; finished = y.finished; ran = y.ran }) refl refl refl (coming_late d c m.waves i 0 v nb own) (λ y. coming_late_run d c m.waves i (get_or s.words.run i 0) v nb own y))))
    (λ (z : s.words.counter ≢ locked).
    let st : c.stage ≤ 9 = open_stage d c s m g z in
    let none : v.departed ≡ 0 = own.team.departed_open st in
    ⊎_elim
    (λ (b : eqb inside 0 ≡ true). simp (ne_eqb s.words.counter locked z, b)
    (refl, (own.self.phase, not_closed d c s m g st), arrival d i s (with_member i (record (member m i) { phase = Counted }) m) (processor_at d i (CountingIn source inside) t) d.policy source inside (record s.words { counter = s.words.counter + 1 }) (arrives d c i s m t d.policy source inside f l e q st)))
    (λ (b : eqb inside 0 ≡ false). simp (ne_eqb s.words.counter locked z, b)
    (refl, (own.self.phase, not_closed d c s m g st), seated d c s (record s.words { counter = s.words.counter + 1 }) s.lying (with_member i (record (member m i) { phase = Counted }) m) i (record t { position = AwaitingInside 0 }) ls (member_holds d c i s m t (record t { position = AwaitingInside 0 }) (CountingIn source inside) s.words.pend (s.words.counter + 1) (record (member m i) { phase = Counted }) h (record { size = refl; held = λ k n. refl; chair = refl }) refl g.signals (λ _. omega arith) (λ y. absurd (omega arith)) (omega arith) (λ y. record { lies = y.lies; finished = y.finished; ran = y.ran }) refl refl (omega arith) (arriving d c m.waves i 0 v st nb own) (λ y. arriving_run d c m.waves i (get_or s.words.run i 0) v st nb own y))))
    (cases_Bool (eqb inside 0)))
    (cases_eq s.words.counter locked)

pub await_end : (d : SetupData) (c : Context) (i : ℕ) (s : Scene) (m : Machine) (t : Seat) → Holds d c s m → i < d.processors → seat s i ≡ t → t.position ≡ AwaitingEnd
    → KeptAt d s m i t AwaitingEnd
await_end d c i s m t f l e q =
    let g = f.ready in
    let v : View = view_at (station_of AwaitingEnd) t s m i in
    let own : IsCpu d c m.waves i (view_at (station_of AwaitingEnd) t s m i) = own_at d c i s m t AwaitingEnd f l e q in
    let h : IsMover d c i s m t AwaitingEnd = mover d c i s m t AwaitingEnd refl f l e q in
    let nb : i ≢ c.bsp = h.other in
    let ls : i < length s.seats = rw g.sized.seats l in
    ⊎_elim
    (λ (z : s.words.insync ≡ 0). rw (eq-eqb s.words.insync 0 z) (refl, tt, seated d c s s.words s.lying m i (record t { position = ClearingSignal }) ls (seat_holds d c i s m t (record t { position = ClearingSignal }) AwaitingEnd s.words.pend h (record { size = refl; held = λ k n. refl; chair = refl }) refl g.signals refl refl (session_ended d c m.waves i 0 v nb own) (λ y. session_ended_run d c m.waves i (get_or s.words.run i 0) v nb own y))))
    (λ (z : s.words.insync ≢ 0). rw (ne_eqb s.words.insync 0 z) (stays d c s m f))
    (cases_eq s.words.insync 0)

-- the way out, whatever becomes of its signal: it waits for the next interrupt, or has had all its visits
clears : (d : SetupData) (c : Context) (i : ℕ) (s : Scene) (m : Machine) (t : Seat) (pend : List ℕ) → Holds d c s m → i < d.processors → seat s i ≡ t → t.position ≡ ClearingSignal
    → length pend ≡ length s.words.pend → ((j : ℕ) → j < d.processors → IsSignal d m.waves (member m j).visits (get_or pend j 0))
    → IsFine d (record { words = record s.words { pend = pend }; lying = s.lying; actors = slice_set (actors_of d s) i (OfProcessor (record (processor_at d i ClearingSignal t) { part = Between (to_await (processor_at d i ClearingSignal t)); registers = loaded (member m i).image; last = (member m i).image })) })
    (with_member i (record (member m i) { phase = Out; registers = loaded (member m i).image; last = (member m i).image }) m)
clears d c i s m t pend f l e q lp sig =
    let g = f.ready in
    let v : View = view_at (station_of ClearingSignal) t s m i in
    let own : IsCpu d c m.waves i (view_at (station_of ClearingSignal) t s m i) = own_at d c i s m t ClearingSignal f l e q in
    let h : IsMover d c i s m t ClearingSignal = mover d c i s m t ClearingSignal refl f l e q in
    let nb : i ≢ c.bsp = h.other in
    let ls : i < length s.seats = rw g.sized.seats l in
    let same : t.visits ≡ (member m i).visits = own.self.visits in
    let most : (member m i).visits ≤ d.visits = own.self.most in
    ⊎_elim
    (λ (z : t.visits < d.visits). let left : v.visits < d.visits = omega arith in rw (lt-leb d.visits t.visits z) (seated d c s (record s.words { pend = pend }) s.lying (with_member i (record (member m i) { phase = Out; registers = loaded (member m i).image; last = (member m i).image }) m) i (record t { position = AwaitingSmi; registers = loaded (member m i).image; last = (member m i).image }) ls (member_holds d c i s m t (record t { position = AwaitingSmi; registers = loaded (member m i).image; last = (member m i).image }) ClearingSignal pend s.words.counter (record (member m i) { phase = Out; registers = loaded (member m i).image; last = (member m i).image }) h (record { size = refl; held = λ k n. refl; chair = refl }) lp sig (λ _. omega arith) (λ _. refl) (omega arith) (λ y. record { lies = y.lies; finished = y.finished; ran = y.ran }) refl refl refl (resuming d c m.waves i 0 v (loaded (member m i).image) (member m i).image left nb own) (λ y. resuming_run d c m.waves i (get_or s.words.run i 0) v (loaded (member m i).image) (member m i).image left nb own y))))
    (λ (z : d.visits ≤ t.visits). let left : v.visits ≡ d.visits = omega arith in rw (le-leb d.visits t.visits z) (seated d c s (record s.words { pend = pend }) s.lying (with_member i (record (member m i) { phase = Out; registers = loaded (member m i).image; last = (member m i).image }) m) i (record t { position = SwitchingOff; registers = loaded (member m i).image; last = (member m i).image }) ls (member_holds d c i s m t (record t { position = SwitchingOff; registers = loaded (member m i).image; last = (member m i).image }) ClearingSignal pend s.words.counter (record (member m i) { phase = Out; registers = loaded (member m i).image; last = (member m i).image }) h (record { size = refl; held = λ k n. refl; chair = refl }) lp sig (λ _. omega arith) (λ _. refl) (omega arith) (λ y. record { lies = y.lies; finished = y.finished; ran = y.ran }) refl refl refl (resuming_last d c m.waves i 0 v (loaded (member m i).image) (member m i).image left nb own) (λ y. resuming_last_run d c m.waves i (get_or s.words.run i 0) v (loaded (member m i).image) (member m i).image left nb own y))))
    (cases_lt t.visits d.visits)

pub clear_signal : (d : SetupData) (c : Context) (i : ℕ) (s : Scene) (m : Machine) (t : Seat) → Holds d c s m → i < d.processors → seat s i ≡ t → t.position ≡ ClearingSignal
    → KeptAt d s m i t ClearingSignal
clear_signal d c i s m t f l e q =
    let g = f.ready in
    let v : View = view_at (station_of ClearingSignal) t s m i in
    let own : IsCpu d c m.waves i (view_at (station_of ClearingSignal) t s m i) = own_at d c i s m t ClearingSignal f l e q in
    let h : IsMover d c i s m t ClearingSignal = mover d c i s m t ClearingSignal refl f l e q in
    let nb : i ≢ c.bsp = h.other in
    let ls : i < length s.seats = rw g.sized.seats l in
    let x : ℕ = get_or s.words.pend i 0 in
    let desk : get_or t.held i None ≡ Some (record { image = (member m i).image; job = None }) = own.self.own refl refl in
    ⊎_elim
    (λ (z : x < 8). simp (lt-ltb x 8 z, desk) (refl, (own.self.phase, refl), clears d c i s m t s.words.pend f l e q refl g.signals))
    (λ (z : 8 ≤ x).
    let y = g.signals i l in
    simp (le-ltb x 8 z, desk) (
      refl,
      (own.self.phase, refl),
      clears d c i s m t (slice_set s.words.pend i (x - 8)) f l e q (length-set s.words.pend i (x - 8))
          (signal_set d m m.waves i (x - 8) s.words.pend g.sized.pend g.signals (λ _. record { some = λ a. y.some (omega arith); off = λ a. y.off (omega arith) })),
    ))
    (cases_lt x 8)

pub switch_off : (d : SetupData) (c : Context) (i : ℕ) (s : Scene) (m : Machine) (t : Seat) → Holds d c s m → i < d.processors → seat s i ≡ t → t.position ≡ SwitchingOff
    → KeptAt d s m i t SwitchingOff
switch_off d c i s m t f l e q =
    let g = f.ready in
    let v : View = view_at (station_of SwitchingOff) t s m i in
    let own : IsCpu d c m.waves i (view_at (station_of SwitchingOff) t s m i) = own_at d c i s m t SwitchingOff f l e q in
    let h : IsMover d c i s m t SwitchingOff = mover d c i s m t SwitchingOff refl f l e q in
    let nb : i ≢ c.bsp = h.other in
    let ls : i < length s.seats = rw g.sized.seats l in
    let full : v.visits ≡ d.visits = own.self.through refl in
    let some : 1 ≤ m.waves = own.self.begun (omega (arith, g.platform.visits)) in
    (refl, (own.self.phase, inr full), seated d c s (record s.words { pend = slice_set s.words.pend i 4 }) s.lying (with_member i (record (member m i) { phase = Off }) m) i (record t { position = Away }) ls (member_holds d c i s m t (record t { position = Away }) SwitchingOff (slice_set s.words.pend i 4) s.words.counter (record (member m i) { phase = Off }) h (record { size = refl; held = λ k n. refl; chair = refl }) (length-set s.words.pend i 4) (signal_set d m m.waves i 4 s.words.pend g.sized.pend g.signals (λ _. record { some = λ _. some; off = λ _ y. absurd (omega arith) })) (λ _. omega arith) (λ _. refl) (omega arith) (λ y. record { lies = y.lies; finished = y.finished; ran = y.ran }) refl refl refl (switching_off d c m.waves i 0 v nb own) (λ y. switching_off_run d c m.waves i (get_or s.words.run i 0) v nb own y)))

-- a desk into whose image registers are saved
abbrev desk_saved : Registers → Cause → Desk → Desk
desk_saved r cause a = record a { image = saved r cause a.image }

-- its own desk, as it stands in the list of desks that it has
own_put : (d : SetupData) (c : Context) (i : ℕ) (s : Scene) (m : Machine) (t : Seat) (at : Position) (o : Option Desk) → IsMover d c i s m t at → get_or (slice_set t.held i o) i None ≡ o
own_put d c i s m t at o h =
    let idle : IsIdle d c i t = subst (IsIdle d c i) h.seat_is (h.holds.ready.idle i h.there h.other) in
    get_or-set_same t.held i o None (rw idle.size h.there)

pub await_smi : (d : SetupData) (c : Context) (i : ℕ) (s : Scene) (m : Machine) (t : Seat) → Holds d c s m → i < d.processors → seat s i ≡ t → t.position ≡ AwaitingSmi
    → KeptAt d s m i t AwaitingSmi
await_smi d c i s m t f l e q =
    let g = f.ready in
    let v : View = view_at (station_of AwaitingSmi) t s m i in
    let own : IsCpu d c m.waves i (view_at (station_of AwaitingSmi) t s m i) = own_at d c i s m t AwaitingSmi f l e q in
    let h : IsMover d c i s m t AwaitingSmi = mover d c i s m t AwaitingSmi refl f l e q in
    let nb : i ≢ c.bsp = h.other in
    let ls : i < length s.seats = rw g.sized.seats l in
    let x : ℕ = get_or s.words.pend i 0 in
    let z = g.signals i l in
    let left : v.visits < d.visits = own.self.waiting refl in
    ⊎_elim
    (λ (b : x ≡ 4). simp (eq-eqb x 4 b, ne_eqb x 1 (λ y. omega arith)) (refl, (own.self.phase, inl (z.off (omega arith) left)), seated d c s s.words s.lying (with_member i (record (member m i) { phase = Off }) m) i (record t { position = Away }) ls (member_holds d c i s m t (record t { position = Away }) AwaitingSmi s.words.pend s.words.counter (record (member m i) { phase = Off }) h (record { size = refl; held = λ k n. refl; chair = refl }) refl g.signals (λ _. omega arith) (λ _. refl) (omega arith) (λ y. record { lies = y.lies; finished = y.finished; ran = y.ran }) refl refl refl (turned_off d c m.waves i 0 v nb own) (λ y. turned_off_run d c m.waves i (get_or s.words.run i 0) v nb own y))))
    (λ (b : x ≢ 4).
    ⊎_elim
    (λ (u : x ≡ 1).
    let some : 1 ≤ m.waves = z.some (omega arith) in
    let absent : v.present ≡ 0 = own.self.absent refl in
    let none : work_of (member m i).job ≡ 0 = own.self.idle_away refl in
    let new : ImageContents = saved (member m i).registers (cause_of d.causes i ((member m i).visits + 1)) (member m i).image in
    let kind : new.kind ≡ d.kind = saved_kind (member m i).registers (cause_of d.causes i ((member m i).visits + 1)) (member m i).image ∙ own.self.kind in
    let put : Registers → ℕ → Option Desk → Option Desk = λ r n k. option_map (desk_saved r (cause_of d.causes i (n + 1))) k in
    let o : Option Desk = put t.registers t.visits (get_or t.held i None) in
    let is : o ≡ Some (desk_at new None) = ap (put t.registers t.visits) (own.self.own refl refl) ∙ ap (λ (r : Registers). put r t.visits (Some (desk_at (member m i).image None))) own.self.registers ∙ ap (λ (n : ℕ). put (member m i).registers n (Some (desk_at (member m i).image None))) own.self.visits in
    let desk : get_or (slice_set t.held i o) i None ≡ Some (desk_at new None) = own_put d c i s m t AwaitingSmi o h ∙ is in
    simp (ne_eqb x 4 b, eq-eqb x 1 u) (refl, (own.self.phase, left, some), seated d c s (record s.words { pend = slice_set s.words.pend i 8 }) s.lying (with_member i (record (member m i) { phase = In; visits = (member m i).visits + 1; image = new }) m) i (record t { position = LookingAtSource; visits = t.visits + 1; held = slice_set t.held i o }) ls (member_holds d c i s m t (record t { position = LookingAtSource; visits = t.visits + 1; held = slice_set t.held i o }) AwaitingSmi (slice_set s.words.pend i 8) s.words.counter (record (member m i) { phase = In; visits = (member m i).visits + 1; image = new }) h (record { size = length-set t.held i o; held = λ k n. get_or-set_other t.held i k o None n; chair = refl }) (length-set s.words.pend i 8) (signal_set d m m.waves i 8 s.words.pend g.sized.pend g.signals (λ _. record { some = λ _. some; off = λ a. absurd (omega arith) })) (λ _. omega arith) (λ _. refl) (omega arith) (λ a. record { lies = λ e. absurd (omega arith); finished = λ e. a.finished e; ran = λ e. absurd (omega arith) }) refl refl refl (entering d c m.waves i 0 v (get_or (slice_set t.held i o) i None) new desk kind absent some nb own) (λ y. entering_run d c m.waves i (get_or s.words.run i 0) v (get_or (slice_set t.held i o) i None) new desk kind absent some nb own y))))
    (λ (u : x ≢ 1). simp (ne_eqb x 4 b, ne_eqb x 1 u) (stays d c s m f))
    (cases_eq x 1))
    (cases_eq x 4)

-- The steps of an AP that waits for a BSP and reports to it.
use Rattle.std.proofs.Common.{ℕ, ◌+◌, ◌-◌, ◌*◌, ◌%◌, ◌≡◌, ◌≢◌, ◌<◌, ◌≤◌, arith, true, false, List, length, get_or, slice_set, Option, Some, None, refl, sym, subst, ap, ⊎_elim, ◌∙◌}
use Rattle.std.specs.Prelude.{◌||◌, ◌&&◌, ◌==◌, nat_lt}
use Rattle.std.proofs.lemmas.Bool.{cases_eq, cases_Bool, ne_eqb, eq-eqb}
use Rattle.std.proofs.lemmas.List.{get_or-set_other, get_or-set_same, length-set}
use Rattle.cpu_table.specs.Data.{SetupData}
use Rattle.arrival.specs.Entry as entry
use Rattle.arrival.specs.Rounds.{is_last_look}
use Rattle.handler_ops.specs.declared.desk.Desk.{Desk}
use Rattle.cpu_program.specs.declared.cargo.Cargo.{Cargo}
use Rattle.cpu_program.specs.declared.cargo.Cargo.TheVariants as cargo
use Rattle.rendezvous_core.specs.Worlds.{Words}
use Rattle.rendezvous_machine.specs.declared.phase.Phase.TheVariants.{Here, Gone}
use Rattle.rendezvous_machine.specs.Machines.{Machine, Member, member}
use Rattle.rendezvous_machine.specs.Effects.{with_member}
use Rattle.schedule_laws.proofs.Scenes.{Scene, Seat, AwaitingInside, FindingBsp, SignallingBsp, AwaitingInsideAgain, CountingOut, SeekingBsp, Reporting, TellingReport, AwaitingRelease, AwaitingEnd, seat}
use Rattle.schedule_laws.proofs.Stations.{station_of, member_of}
use Rattle.schedule_laws.proofs.Invariant.{Context, View, IsCpu, IsIdle, IsRunOf, Holds, KeptAt, desk_at, locked, view_at}
use Rattle.schedule_laws.proofs.Frames.{IsMover, mover, own_at, view_is, seated, stays, keeps_own, signal_set, bsp_run_low}
use Rattle.schedule_laws.proofs.OwnFrames.{seat_holds, member_holds, present_holds, raise_holds}
use Rattle.schedule_laws.proofs.Facts.{not_closed, not_led, other_bsp, locked_stage, open_stage, inside_stage, counted_some, early_stage}
use Rattle.schedule_laws.proofs.VisitMoves.{awaited_bsp, awaited_bsp_run, bsp_came, bsp_came_late, bsp_came_late_run, bsp_came_run, found_bsp, found_bsp_run, found_none, found_none_run, giving_up, giving_up_run, quitting, quitting_run, signalled_bsp, signalled_bsp_run, staying, staying_run}
use Rattle.schedule_laws.proofs.ReportMoves.{knowing_bsp, knowing_bsp_run, reporting, reporting_run, told_report, told_report_run}

pub await_inside : (d : SetupData) (c : Context) (i : ℕ) (s : Scene) (m : Machine) (t : Seat) (a : ℕ) → Holds d c s m → i < d.processors → seat s i ≡ t → t.position ≡ (AwaitingInside a)
    → KeptAt d s m i t (AwaitingInside a)
await_inside d c i s m t a f l e q =
    let g = f.ready in
    let v : View = view_at (station_of (AwaitingInside a)) t s m i in
    let own : IsCpu d c m.waves i (view_at (station_of (AwaitingInside a)) t s m i) = own_at d c i s m t (AwaitingInside a) f l e q in
    let h : IsMover d c i s m t (AwaitingInside a) = mover d c i s m t (AwaitingInside a) refl f l e q in
    let nb : i ≢ c.bsp = h.other in
    let ls : i < length s.seats = rw g.sized.seats l in
    ⊎_elim
    (λ (z : s.words.inside ≡ 0).
    ⊎_elim
    (λ (b : is_last_look a d.t1 ≡ true). simp (eq-eqb s.words.inside 0 z, b) (refl, tt, seated d c s s.words s.lying m i (record t { position = FindingBsp }) ls (seat_holds d c i s m t (record t { position = FindingBsp }) (AwaitingInside a) s.words.pend h (record { size = refl; held = λ k n. refl; chair = refl }) refl g.signals refl refl (awaited_bsp d c m.waves i 0 v nb own) (λ y. awaited_bsp_run d c m.waves i (get_or s.words.run i 0) v nb own y))))
    (λ (b : is_last_look a d.t1 ≡ false). simp (eq-eqb s.words.inside 0 z, b) (refl, tt, seated d c s s.words s.lying m i (record t { position = AwaitingInside (a + 1) }) ls (seat_holds d c i s m t (record t { position = AwaitingInside (a + 1) }) (AwaitingInside a) s.words.pend h (record { size = refl; held = λ k n. refl; chair = refl }) refl g.signals refl refl own (λ y. y))))
    (cases_Bool (is_last_look a d.t1)))
    (λ (z : s.words.inside ≢ 0). let st : 2 ≤ c.stage = inside_stage d c s m g z in simp (ne_eqb s.words.inside 0 z) (refl, tt, seated d c s s.words s.lying m i (record t { position = SeekingBsp 0 }) ls (seat_holds d c i s m t (record t { position = SeekingBsp 0 }) (AwaitingInside a) s.words.pend h (record { size = refl; held = λ k n. refl; chair = refl }) refl g.signals refl refl (bsp_came d c m.waves i 0 v st nb own) (λ y. bsp_came_run d c m.waves i (get_or s.words.run i 0) v st nb own y))))
    (cases_eq s.words.inside 0)

pub find_bsp : (d : SetupData) (c : Context) (i : ℕ) (s : Scene) (m : Machine) (t : Seat) → Holds d c s m → i < d.processors → seat s i ≡ t → t.position ≡ FindingBsp
    → KeptAt d s m i t FindingBsp
find_bsp d c i s m t f l e q =
    let g = f.ready in
    let v : View = view_at (station_of FindingBsp) t s m i in
    let own : IsCpu d c m.waves i (view_at (station_of FindingBsp) t s m i) = own_at d c i s m t FindingBsp f l e q in
    let h : IsMover d c i s m t FindingBsp = mover d c i s m t FindingBsp refl f l e q in
    let nb : i ≢ c.bsp = h.other in
    let ls : i < length s.seats = rw g.sized.seats l in
    ⊎_elim
    (λ (b : nat_lt s.words.bsp d.processors ≡ true). simp b (refl, tt, seated d c s s.words s.lying m i (record t { position = SignallingBsp s.words.bsp }) ls (seat_holds d c i s m t (record t { position = SignallingBsp s.words.bsp }) FindingBsp s.words.pend h (record { size = refl; held = λ k n. refl; chair = refl }) refl g.signals refl refl (found_bsp d c m.waves i 0 v nb own) (λ y. found_bsp_run d c m.waves i (get_or s.words.run i 0) v nb own y))))
    (λ (b : nat_lt s.words.bsp d.processors ≡ false). simp b (refl, tt, seated d c s s.words s.lying m i (record t { position = AwaitingInsideAgain 0 0 }) ls (seat_holds d c i s m t (record t { position = AwaitingInsideAgain 0 0 }) FindingBsp s.words.pend h (record { size = refl; held = λ k n. refl; chair = refl }) refl g.signals refl refl (found_none d c m.waves i 0 v nb own) (λ y. found_none_run d c m.waves i (get_or s.words.run i 0) v nb own y))))
    (cases_Bool (nat_lt s.words.bsp d.processors))

pub signal_bsp : (d : SetupData) (c : Context) (i : ℕ) (s : Scene) (m : Machine) (t : Seat) (b : ℕ) → Holds d c s m → i < d.processors → seat s i ≡ t → t.position ≡ (SignallingBsp b)
    → KeptAt d s m i t (SignallingBsp b)
signal_bsp d c i s m t b f l e q =
    let g = f.ready in
    let v : View = view_at (station_of (SignallingBsp b)) t s m i in
    let own : IsCpu d c m.waves i (view_at (station_of (SignallingBsp b)) t s m i) = own_at d c i s m t (SignallingBsp b) f l e q in
    let h : IsMover d c i s m t (SignallingBsp b) = mover d c i s m t (SignallingBsp b) refl f l e q in
    let nb : i ≢ c.bsp = h.other in
    let ls : i < length s.seats = rw g.sized.seats l in
    let x : ℕ = get_or s.words.pend b 0 in
    let some : 1 ≤ m.waves = own.self.inside refl in
    ⊎_elim
    (λ (z : (x % 8 == 0 || x % 8 == 2) ≡ true). simp z (refl, tt, seated d c s (record s.words { pend = slice_set s.words.pend b (x - x % 8 + 1) }) s.lying m i (record t { position = AwaitingInsideAgain 0 b }) ls (seat_holds d c i s m t (record t { position = AwaitingInsideAgain 0 b }) (SignallingBsp b) (slice_set s.words.pend b (x - x % 8 + 1)) h (record { size = refl; held = λ k n. refl; chair = refl }) (length-set s.words.pend b (x - x % 8 + 1)) (signal_set d m m.waves b (x - x % 8 + 1) s.words.pend g.sized.pend g.signals (λ _. record { some = λ _. some; off = λ y. absurd (omega arith) })) refl refl (signalled_bsp d c m.waves i 0 v nb own) (λ y. signalled_bsp_run d c m.waves i (get_or s.words.run i 0) v nb own y))))
    (λ (z : (x % 8 == 0 || x % 8 == 2) ≡ false). simp z (refl, tt, seated d c s s.words s.lying m i (record t { position = AwaitingInsideAgain 0 b }) ls (seat_holds d c i s m t (record t { position = AwaitingInsideAgain 0 b }) (SignallingBsp b) s.words.pend h (record { size = refl; held = λ k n. refl; chair = refl }) refl g.signals refl refl (signalled_bsp d c m.waves i 0 v nb own) (λ y. signalled_bsp_run d c m.waves i (get_or s.words.run i 0) v nb own y))))
    (cases_Bool (x % 8 == 0 || x % 8 == 2))

pub await_inside_again : (d : SetupData) (c : Context) (i : ℕ) (s : Scene) (m : Machine) (t : Seat) (a b : ℕ) → Holds d c s m → i < d.processors → seat s i ≡ t → t.position ≡ (AwaitingInsideAgain a b)
    → KeptAt d s m i t (AwaitingInsideAgain a b)
await_inside_again d c i s m t a b f l e q =
    let g = f.ready in
    let v : View = view_at (station_of (AwaitingInsideAgain a b)) t s m i in
    let own : IsCpu d c m.waves i (view_at (station_of (AwaitingInsideAgain a b)) t s m i) = own_at d c i s m t (AwaitingInsideAgain a b) f l e q in
    let h : IsMover d c i s m t (AwaitingInsideAgain a b) = mover d c i s m t (AwaitingInsideAgain a b) refl f l e q in
    let nb : i ≢ c.bsp = h.other in
    let ls : i < length s.seats = rw g.sized.seats l in
    ⊎_elim
    (λ (z : s.words.inside ≡ 0).
    ⊎_elim
    (λ (k : is_last_look a d.t2 ≡ true). simp (eq-eqb s.words.inside 0 z, k) (refl, tt, seated d c s s.words s.lying m i (record t { position = CountingOut b }) ls (seat_holds d c i s m t (record t { position = CountingOut b }) (AwaitingInsideAgain a b) s.words.pend h (record { size = refl; held = λ k n. refl; chair = refl }) refl g.signals refl refl (giving_up d c m.waves i 0 v nb own) (λ y. giving_up_run d c m.waves i (get_or s.words.run i 0) v nb own y))))
    (λ (k : is_last_look a d.t2 ≡ false). simp (eq-eqb s.words.inside 0 z, k) (refl, tt, seated d c s s.words s.lying m i (record t { position = AwaitingInsideAgain (a + 1) b }) ls (seat_holds d c i s m t (record t { position = AwaitingInsideAgain (a + 1) b }) (AwaitingInsideAgain a b) s.words.pend h (record { size = refl; held = λ k n. refl; chair = refl }) refl g.signals refl refl own (λ y. y))))
    (cases_Bool (is_last_look a d.t2)))
    (λ (z : s.words.inside ≢ 0). let st : 2 ≤ c.stage = inside_stage d c s m g z in simp (ne_eqb s.words.inside 0 z) (refl, tt, seated d c s s.words s.lying m i (record t { position = SeekingBsp b }) ls (seat_holds d c i s m t (record t { position = SeekingBsp b }) (AwaitingInsideAgain a b) s.words.pend h (record { size = refl; held = λ k n. refl; chair = refl }) refl g.signals refl refl (bsp_came_late d c m.waves i 0 v st nb own) (λ y. bsp_came_late_run d c m.waves i (get_or s.words.run i 0) v st nb own y))))
    (cases_eq s.words.inside 0)

pub count_out : (d : SetupData) (c : Context) (i : ℕ) (s : Scene) (m : Machine) (t : Seat) (b : ℕ) → Holds d c s m → i < d.processors → seat s i ≡ t → t.position ≡ (CountingOut b)
    → KeptAt d s m i t (CountingOut b)
count_out d c i s m t b f l e q =
    let g = f.ready in
    let v : View = view_at (station_of (CountingOut b)) t s m i in
    let own : IsCpu d c m.waves i (view_at (station_of (CountingOut b)) t s m i) = own_at d c i s m t (CountingOut b) f l e q in
    let h : IsMover d c i s m t (CountingOut b) = mover d c i s m t (CountingOut b) refl f l e q in
    let nb : i ≢ c.bsp = h.other in
    let ls : i < length s.seats = rw g.sized.seats l in
    ⊎_elim
    (λ (z : s.words.counter ≡ locked).
    let st : 10 ≤ c.stage = locked_stage d c s m g z in
    let two : 2 ≤ c.stage = omega arith in
    simp (eq-eqb s.words.counter locked z) (refl, tt, seated d c s s.words s.lying m i (record t { position = SeekingBsp b }) ls (seat_holds d c i s m t (record t { position = SeekingBsp b }) (CountingOut b) s.words.pend h (record { size = refl; held = λ k n. refl; chair = refl }) refl g.signals refl refl (staying d c m.waves i 0 v two nb own) (λ y. staying_run d c m.waves i (get_or s.words.run i 0) v two nb own y))))
    (λ (z : s.words.counter ≢ locked).
    let st : c.stage ≤ 9 = open_stage d c s m g z in
    let none : v.departed ≡ 0 = own.team.departed_open st in
    let some : 1 ≤ s.words.counter = counted_some d c i s m g l st (ap (λ (x : View). member_of x.station) (view_is s m i t (CountingOut b) e q)) in
    simp (ne_eqb s.words.counter locked z, ne_eqb s.words.counter 0 (λ y. omega arith)) (refl, (own.self.phase, not_led d c i s m g nb, not_closed d c s m g st), seated d c s (record s.words { counter = s.words.counter - 1 }) s.lying (with_member i (record (member m i) { phase = Gone }) m) i (record t { position = AwaitingEnd }) ls (member_holds d c i s m t (record t { position = AwaitingEnd }) (CountingOut b) s.words.pend (s.words.counter - 1) (record (member m i) { phase = Gone }) h (record { size = refl; held = λ k n. refl; chair = refl }) refl g.signals (λ _. omega arith) (λ y. absurd (omega arith)) (omega arith) (λ y. record { lies = y.lies; finished = y.finished; ran = y.ran }) refl refl (omega arith) (quitting d c m.waves i 0 v st nb own) (λ y. quitting_run d c m.waves i (get_or s.words.run i 0) v st nb own y))))
    (cases_eq s.words.counter locked)

pub seek_bsp : (d : SetupData) (c : Context) (i : ℕ) (s : Scene) (m : Machine) (t : Seat) (b : ℕ) → Holds d c s m → i < d.processors → seat s i ≡ t → t.position ≡ (SeekingBsp b)
    → KeptAt d s m i t (SeekingBsp b)
seek_bsp d c i s m t b f l e q =
    let g = f.ready in
    let v : View = view_at (station_of (SeekingBsp b)) t s m i in
    let own : IsCpu d c m.waves i (view_at (station_of (SeekingBsp b)) t s m i) = own_at d c i s m t (SeekingBsp b) f l e q in
    let h : IsMover d c i s m t (SeekingBsp b) = mover d c i s m t (SeekingBsp b) refl f l e q in
    let nb : i ≢ c.bsp = h.other in
    let ls : i < length s.seats = rw g.sized.seats l in
    let st : 2 ≤ c.stage = (own.peer nb).walking (omega arith) in
    let early : c.stage ≤ 10 = early_stage c i v own.team (own.peer nb) refl refl in
    let k : s.words.bsp ≡ c.bsp = g.words.bsp_taken (omega arith) (omega arith) in
    ⊎_elim
    (λ (z : nat_lt s.words.bsp d.processors ≡ true). simp z (refl, tt, seated d c s s.words s.lying m i (record t { position = Reporting; bsp = s.words.bsp }) ls (seat_holds d c i s m t (record t { position = Reporting; bsp = s.words.bsp }) (SeekingBsp b) s.words.pend h (record { size = refl; held = λ k n. refl; chair = refl }) refl g.signals refl refl (knowing_bsp d c m.waves i 0 v s.words.bsp k nb own) (λ y. knowing_bsp_run d c m.waves i (get_or s.words.run i 0) v s.words.bsp k nb own y))))
    (λ (z : nat_lt s.words.bsp d.processors ≡ false). simp z (stays d c s m f))
    (cases_Bool (nat_lt s.words.bsp d.processors))

pub report : (d : SetupData) (c : Context) (i : ℕ) (s : Scene) (m : Machine) (t : Seat) → Holds d c s m → i < d.processors → seat s i ≡ t → t.position ≡ Reporting
    → KeptAt d s m i t Reporting
report d c i s m t f l e q =
    let g = f.ready in
    let v : View = view_at (station_of Reporting) t s m i in
    let own : IsCpu d c m.waves i (view_at (station_of Reporting) t s m i) = own_at d c i s m t Reporting f l e q in
    let h : IsMover d c i s m t Reporting = mover d c i s m t Reporting refl f l e q in
    let nb : i ≢ c.bsp = h.other in
    let ls : i < length s.seats = rw g.sized.seats l in
    let st : 2 ≤ c.stage = (own.peer nb).walking (omega arith) in
    let early : c.stage ≤ 10 = early_stage c i v own.team (own.peer nb) refl refl in
    let unreleased : v.released ≡ 0 = own.team.unreleased (omega arith) in
    let absent : v.present ≡ 0 = own.self.absent refl in
    let lp : i < length s.lying.present = rw g.sized.on_present l in
    let desk : get_or t.held i None ≡ Some (desk_at (member m i).image None) = own.self.own refl refl in
    let o : Option Cargo = Some (cargo.Desk (desk_at (member m i).image None)) in
    let idle : IsIdle d c i t = subst (IsIdle d c i) h.seat_is (f.ready.idle i l nb) in
    let gone : get_or (slice_set t.held i None) i None ≡ None = get_or-set_same t.held i None None (rw idle.size l) in
    let x : Member = record (member m i) { phase = Here } in
    let t' : Seat = record t { position = TellingReport; held = slice_set t.held i None } in
    let words : Words = record s.words { present = slice_set s.words.present i 1 } in
    let lies : List (Option Cargo) = slice_set s.lying.present i o in
    let few : i ≢ d.processors = (λ y. omega arith) in
    simp (ne_eqb i d.processors few, desk) (
      refl,
      (own.self.phase, other_bsp d c i s m g nb (omega arith)),
      seated d c s words (record s.lying { present = lies }) (with_member i x m) i t' ls
          (present_holds d c i s m t t' Reporting 1 lies o x h (keeps_own i t None TellingReport) (length-set s.lying.present i o) (get_or-set_same s.lying.present i o None lp) (λ j n. get_or-set_other s.lying.present i j o None n) (λ _. refl) (omega arith) (λ y. record { lies = y.lies; finished = y.finished; ran = y.ran }) refl refl refl
          (subst (λ (k : Option Desk). IsCpu d c m.waves i (record v { station = station_of TellingReport; own = k; present = 1; on_present = o; phase = Here })) (sym gone) (reporting d c m.waves i 0 v o refl early unreleased absent nb own)) (λ y. subst (λ (k : Option Desk). IsRunOf c i (record v { station = station_of TellingReport; own = k; present = 1; on_present = o; phase = Here }) (get_or s.words.run i 0)) (sym gone) (reporting_run d c m.waves i (get_or s.words.run i 0) v o refl early unreleased absent nb own y))),
    )

pub tell_report : (d : SetupData) (c : Context) (i : ℕ) (s : Scene) (m : Machine) (t : Seat) → Holds d c s m → i < d.processors → seat s i ≡ t → t.position ≡ TellingReport
    → KeptAt d s m i t TellingReport
tell_report d c i s m t f l e q =
    let g = f.ready in
    let v : View = view_at (station_of TellingReport) t s m i in
    let own : IsCpu d c m.waves i (view_at (station_of TellingReport) t s m i) = own_at d c i s m t TellingReport f l e q in
    let h : IsMover d c i s m t TellingReport = mover d c i s m t TellingReport refl f l e q in
    let nb : i ≢ c.bsp = h.other in
    let ls : i < length s.seats = rw g.sized.seats l in
    let st : 2 ≤ c.stage = (own.peer nb).walking (omega arith) in
    let k : t.bsp ≡ c.bsp = (own.peer nb).knows (omega arith) in
    let low : get_or s.words.run t.bsp 0 ≢ locked = (λ z. bsp_run_low d c s m g (omega arith) (ap (λ (x : ℕ). get_or s.words.run x 0) (sym k) ∙ z)) in
    rw (ne_eqb (get_or s.words.run t.bsp 0) locked low) (
      refl,
      tt,
      seated d c s (record s.words { run = slice_set s.words.run t.bsp (get_or s.words.run t.bsp 0 + 1) }) s.lying m i (record t { position = AwaitingRelease }) ls
          (raise_holds d c i t.bsp s m t (record t { position = AwaitingRelease }) TellingReport h (record { size = refl; held = λ k n. refl; chair = refl }) (omega arith) k refl refl (told_report d c m.waves i 0 v nb own) (λ y. told_report_run d c m.waves i (get_or s.words.run i 0) v nb own y)),
    )

-- What holds after an AP's move, by what it changes: its seat and a signal; its member; its mark `present`; a raise of the BSP's word; a
-- lowering of its own.
use Rattle.std.proofs.Common.{ℕ, ◌+◌, ◌-◌, ◌*◌, ◌≡◌, ◌≢◌, ◌<◌, ◌≤◌, arith, List, length, get_or, slice_set, Option, None, refl, sym, ap, subst, ◌∙◌}
use Rattle.std.proofs.lemmas.List.{get_or-set_other, get_or-set_same, length-set}
use Rattle.cpu_table.specs.Data.{SetupData}
use Rattle.cpu_program.specs.declared.cargo.Cargo.{Cargo}
use Rattle.rendezvous_machine.specs.Machines.{Machine, Member, member, nobody}
use Rattle.rendezvous_machine.specs.Effects.{with_member}
use Rattle.schedule_laws.proofs.Scenes.{Scene, Seat, Position, seat, no_seat}
use Rattle.schedule_laws.proofs.Stations.{station_of, bit, member_of, made}
use Rattle.schedule_laws.proofs.Invariant.{Context, View, IsCpu, Holds, IsRunOf, IsIdle, IsSignal, IsBusy, view, view_at, view_of, seat_view}
use Rattle.schedule_laws.proofs.Frames.{IsMover, IsKeeping, keeps_idle, peer_moves, view_is, run_of, seat_set, signals_more, busies_more, jobs_more}

-- its seat, and signals
pub seat_holds : (d : SetupData) (c : Context) (i : ℕ) (s : Scene) (m : Machine) (t t' : Seat) (at : Position) (pend : List ℕ) → IsMover d c i s m t at → IsKeeping i t t'
    → length pend ≡ length s.words.pend → ((j : ℕ) → j < d.processors → IsSignal d m.waves (member m j).visits (get_or pend j 0))
    → member_of (station_of t'.position) ≡ member_of (station_of at)
    → made (bit (member m i).has_departed) (station_of t'.position) ≡ made (bit (member m i).has_departed) (station_of at)
    → IsCpu d c m.waves i (view_at (station_of t'.position) t' s m i)
    → (IsRunOf c i (view_at (station_of at) t s m i) (get_or s.words.run i 0) → IsRunOf c i (view_at (station_of t'.position) t' s m i) (get_or s.words.run i 0))
    → Holds d c (record s { words = record s.words { pend = pend }; seats = slice_set s.seats i t' }) m
seat_holds d c i s m t t' at pend h keeps lp sig em ed own run =
    let f = h.holds in
    let g = f.ready in
    let z = g.sized in
    let ls : i < length s.seats = rw z.seats h.there in
    let s' : Scene = record s { words = record s.words { pend = pend }; seats = slice_set s.seats i t' } in
    let here : seat s' i ≡ t' = seat_set s i t' ls in
    peer_moves d c i s s' m m (view_at (station_of at) t s m i) (view_at (station_of t'.position) t' s m i) (get_or s.words.run i 0) f h.there h.other
    (record {
      sized = record { seats = length-set s.seats i t' ∙ z.seats; pend = lp ∙ z.pend; present = z.present; run = z.run; busy = z.busy; on_present = z.on_present; on_run = z.on_run; on_busy = z.on_busy; members = z.members; held = z.held };
      words = g.words;
      course = g.course;
      chipset = g.chipset;
      waves = refl;
      registered = refl;
      pooled = refl;
      old = view_is s m i t at h.seat_is h.position_is;
      new = view_is s' m i t' t'.position here refl;
      others = λ j k n. rw (get_or-set_other s.seats i j t' no_seat n) refl;
      seats = λ j n. get_or-set_other s.seats i j t' no_seat n;
      runs = λ j n y. refl;
      own_run = refl;
      jobs = g.jobs;
      idle = subst (IsIdle d c i) (sym here) (keeps_idle d c i s m t t' at h keeps);
      signals = sig;
      busies = g.busies;
    })
    (record { counted = λ _. omega arith; locked = λ _. refl; team = refl; made = λ _. omega arith })
    own
    (run (run_of d c i s m t at h))

-- its member, the counter, and signals
pub member_holds : (d : SetupData) (c : Context) (i : ℕ) (s : Scene) (m : Machine) (t t' : Seat) (at : Position) (pend : List ℕ) (count : ℕ) (x : Member)
    → IsMover d c i s m t at → IsKeeping i t t' → length pend ≡ length s.words.pend
    → ((j : ℕ) → j < d.processors → IsSignal d m.waves (member m j).visits (get_or pend j 0))
    → (c.stage ≤ 9 → count + member_of (station_of at) ≡ s.words.counter + member_of (station_of t'.position)) → (10 ≤ c.stage → count ≡ s.words.counter)
    → (member m i).visits ≤ x.visits
    → (IsBusy (member m i) (get_or s.words.busy i 0) (get_or s.lying.busy i None) → IsBusy x (get_or s.words.busy i 0) (get_or s.lying.busy i None))
    → x.job ≡ (member m i).job → x.in_closed_set ≡ (member m i).in_closed_set
    → made (bit x.has_departed) (station_of t'.position) ≡ made (bit (member m i).has_departed) (station_of at)
    → IsCpu d c m.waves i (view_of (seat_view (station_of t'.position) i t') (get_or s.words.present i 0) (get_or s.lying.present i None) (get_or s.lying.run i None) x)
    → (IsRunOf c i (view_at (station_of at) t s m i) (get_or s.words.run i 0)
    → IsRunOf c i (view_of (seat_view (station_of t'.position) i t') (get_or s.words.present i 0) (get_or s.lying.present i None) (get_or s.lying.run i None) x) (get_or s.words.run i 0))
    → Holds d c (record s { words = record s.words { pend = pend; counter = count }; seats = slice_set s.seats i t' }) (with_member i x m)
member_holds d c i s m t t' at pend count x h keeps lp sig ec el ev bz ej et ed own run =
    let f = h.holds in
    let g = f.ready in
    let z = g.sized in
    let ls : i < length s.seats = rw z.seats h.there in
    let lm : i < length m.members = rw z.members h.there in
    let s' : Scene = record s { words = record s.words { pend = pend; counter = count }; seats = slice_set s.seats i t' } in
    let m' : Machine = with_member i x m in
    let v' : View = view_of (seat_view (station_of t'.position) i t') (get_or s.words.present i 0) (get_or s.lying.present i None) (get_or s.lying.run i None) x in
    let here : seat s' i ≡ t' = seat_set s i t' ls in
    let new : view s' m' i ≡ v' =
    view_is s' m' i t' t'.position here refl
    ∙ ap (λ (y : Member). view_of (seat_view (station_of t'.position) i t') (get_or s.words.present i 0) (get_or s.lying.present i None) (get_or s.lying.run i None) y) (get_or-set_same m.members i x nobody lm) in
    peer_moves d c i s s' m m' (view_at (station_of at) t s m i) v' (get_or s.words.run i 0) f h.there h.other
    (record {
      sized = record { seats = length-set s.seats i t' ∙ z.seats; pend = lp ∙ z.pend; present = z.present; run = z.run; busy = z.busy; on_present = z.on_present; on_run = z.on_run; on_busy = z.on_busy; members = length-set m.members i x ∙ z.members; held = z.held };
      words = g.words;
      course = g.course;
      chipset = g.chipset;
      waves = refl;
      registered = refl;
      pooled = refl;
      old = view_is s m i t at h.seat_is h.position_is;
      new = new;
      others = λ j k n. rw (get_or-set_other s.seats i j t' no_seat n, get_or-set_other m.members i j x nobody n) refl;
      seats = λ j n. get_or-set_other s.seats i j t' no_seat n;
      runs = λ j n y. refl;
      own_run = refl;
      jobs = jobs_more d c m i x lm ej g.jobs;
      idle = subst (IsIdle d c i) (sym here) (keeps_idle d c i s m t t' at h keeps);
      signals = signals_more d m i x pend lm ev sig;
      busies = busies_more d m i x s lm bz g.busies;
    })
    (record { counted = λ u. omega (arith, ec u); locked = el; team = ap bit et; made = λ _. omega arith })
    own
    (run (run_of d c i s m t at h))

-- its mark `present`, what lies on it, and its member
pub present_holds : (d : SetupData) (c : Context) (i : ℕ) (s : Scene) (m : Machine) (t t' : Seat) (at : Position) (y : ℕ) (lies : List (Option Cargo)) (o : Option Cargo) (x : Member)
    → IsMover d c i s m t at → IsKeeping i t t' → length lies ≡ length s.lying.present → get_or lies i None ≡ o
    → ((j : ℕ) → j ≢ i → get_or lies j None ≡ get_or s.lying.present j None)
    → (c.stage ≤ 9 → member_of (station_of at) ≡ member_of (station_of t'.position)) → (member m i).visits ≤ x.visits
    → (IsBusy (member m i) (get_or s.words.busy i 0) (get_or s.lying.busy i None) → IsBusy x (get_or s.words.busy i 0) (get_or s.lying.busy i None))
    → x.job ≡ (member m i).job → x.in_closed_set ≡ (member m i).in_closed_set
    → made (bit x.has_departed) (station_of t'.position) ≡ made (bit (member m i).has_departed) (station_of at)
    → IsCpu d c m.waves i (view_of (seat_view (station_of t'.position) i t') y o (get_or s.lying.run i None) x)
    → (IsRunOf c i (view_at (station_of at) t s m i) (get_or s.words.run i 0)
    → IsRunOf c i (view_of (seat_view (station_of t'.position) i t') y o (get_or s.lying.run i None) x) (get_or s.words.run i 0))
    → Holds d c (record s { words = record s.words { present = slice_set s.words.present i y }; lying = record s.lying { present = lies }; seats = slice_set s.seats i t' }) (with_member i x m)
present_holds d c i s m t t' at y lies o x h keeps ll at_lies off_lies ec ev bz ej et ed own run =
    let f = h.holds in
    let g = f.ready in
    let z = g.sized in
    let ls : i < length s.seats = rw z.seats h.there in
    let lm : i < length m.members = rw z.members h.there in
    let lp : i < length s.words.present = rw z.present h.there in
    let s' : Scene = record s { words = record s.words { present = slice_set s.words.present i y }; lying = record s.lying { present = lies }; seats = slice_set s.seats i t' } in
    let m' : Machine = with_member i x m in
    let v' : View = view_of (seat_view (station_of t'.position) i t') y o (get_or s.lying.run i None) x in
    let here : seat s' i ≡ t' = seat_set s i t' ls in
    let new : view s' m' i ≡ v' = rw (get_or-set_same s.seats i t' no_seat ls, get_or-set_same s.words.present i y 0 lp, at_lies, get_or-set_same m.members i x nobody lm) refl in
    peer_moves d c i s s' m m' (view_at (station_of at) t s m i) v' (get_or s.words.run i 0) f h.there h.other
    (record {
      sized = record { seats = length-set s.seats i t' ∙ z.seats; pend = z.pend; present = length-set s.words.present i y ∙ z.present; run = z.run; busy = z.busy; on_present = ll ∙ z.on_present; on_run = z.on_run; on_busy = z.on_busy; members = length-set m.members i x ∙ z.members; held = z.held };
      words = g.words;
      course = g.course;
      chipset = g.chipset;
      waves = refl;
      registered = refl;
      pooled = refl;
      old = view_is s m i t at h.seat_is h.position_is;
      new = new;
      others = λ j k n. rw (get_or-set_other s.seats i j t' no_seat n, get_or-set_other s.words.present i j y 0 n, off_lies j n, get_or-set_other m.members i j x nobody n) refl;
      seats = λ j n. get_or-set_other s.seats i j t' no_seat n;
      runs = λ j n u. refl;
      own_run = refl;
      jobs = jobs_more d c m i x lm ej g.jobs;
      idle = subst (IsIdle d c i) (sym here) (keeps_idle d c i s m t t' at h keeps);
      signals = signals_more d m i x s.words.pend lm ev g.signals;
      busies = busies_more d m i x s lm bz g.busies;
    })
    (record { counted = λ u. omega (arith, ec u); locked = λ _. refl; team = ap bit et; made = λ _. omega arith })
    own
    (run (run_of d c i s m t at h))

-- the BSP's word is raised once
raise_bsp_holds : (d : SetupData) (c : Context) (i : ℕ) (s : Scene) (m : Machine) (t t' : Seat) (at : Position) → IsMover d c i s m t at → IsKeeping i t t' → 1 ≤ c.stage
    → member_of (station_of t'.position) ≡ member_of (station_of at)
    → made (bit (member m i).has_departed) (station_of t'.position) ≡ made (bit (member m i).has_departed) (station_of at) + 1
    → IsCpu d c m.waves i (view_at (station_of t'.position) t' s m i)
    → (IsRunOf c i (view_at (station_of at) t s m i) (get_or s.words.run i 0) → IsRunOf c i (view_at (station_of t'.position) t' s m i) (get_or s.words.run i 0))
    → Holds d c (record s { words = record s.words { run = slice_set s.words.run c.bsp (get_or s.words.run c.bsp 0 + 1) }; seats = slice_set s.seats i t' }) m
raise_bsp_holds d c i s m t t' at h keeps st em ed own run =
    let f = h.holds in
    let g = f.ready in
    let z = g.sized in
    let ls : i < length s.seats = rw z.seats h.there in
    let lb : c.bsp < length s.words.run = rw z.run (g.words.some_bsp st) in
    let y : ℕ = get_or s.words.run c.bsp 0 + 1 in
    let s' : Scene = record s { words = record s.words { run = slice_set s.words.run c.bsp y }; seats = slice_set s.seats i t' } in
    let here : seat s' i ≡ t' = seat_set s i t' ls in
    let up : get_or (slice_set s.words.run c.bsp y) c.bsp 0 ≡ y = get_or-set_same s.words.run c.bsp y 0 lb in
    peer_moves d c i s s' m m (view_at (station_of at) t s m i) (view_at (station_of t'.position) t' s m i) (get_or s.words.run i 0) f h.there h.other
    (record {
      sized = record { seats = length-set s.seats i t' ∙ z.seats; pend = z.pend; present = z.present; run = length-set s.words.run c.bsp y ∙ z.run; busy = z.busy; on_present = z.on_present; on_run = z.on_run; on_busy = z.on_busy; members = z.members; held = z.held };
      words = g.words;
      course = g.course;
      chipset = g.chipset;
      waves = refl;
      registered = refl;
      pooled = refl;
      old = view_is s m i t at h.seat_is h.position_is;
      new = view_is s' m i t' t'.position here refl;
      others = λ j k n. rw (get_or-set_other s.seats i j t' no_seat n) refl;
      seats = λ j n. get_or-set_other s.seats i j t' no_seat n;
      runs = λ j n u. get_or-set_other s.words.run c.bsp j y 0 u;
      own_run = get_or-set_other s.words.run c.bsp i y 0 h.other;
      jobs = g.jobs;
      idle = subst (IsIdle d c i) (sym here) (keeps_idle d c i s m t t' at h keeps);
      signals = g.signals;
      busies = g.busies;
    })
    (record { counted = λ _. omega arith; locked = λ _. refl; team = refl; made = λ _. omega arith })
    own
    (run (run_of d c i s m t at h))

-- the word of the processor that it knows as the BSP
pub raise_holds : (d : SetupData) (c : Context) (i b : ℕ) (s : Scene) (m : Machine) (t t' : Seat) (at : Position) → IsMover d c i s m t at → IsKeeping i t t' → 1 ≤ c.stage
    → b ≡ c.bsp → member_of (station_of t'.position) ≡ member_of (station_of at)
    → made (bit (member m i).has_departed) (station_of t'.position) ≡ made (bit (member m i).has_departed) (station_of at) + 1
    → IsCpu d c m.waves i (view_at (station_of t'.position) t' s m i)
    → (IsRunOf c i (view_at (station_of at) t s m i) (get_or s.words.run i 0) → IsRunOf c i (view_at (station_of t'.position) t' s m i) (get_or s.words.run i 0))
    → Holds d c (record s { words = record s.words { run = slice_set s.words.run b (get_or s.words.run b 0 + 1) }; seats = slice_set s.seats i t' }) m
raise_holds d c i b s m t t' at h keeps st k em ed own run =
    subst (λ (y : ℕ). Holds d c (record s { words = record s.words { run = slice_set s.words.run y (get_or s.words.run y 0 + 1) }; seats = slice_set s.seats i t' }) m) (sym k)
    (raise_bsp_holds d c i s m t t' at h keeps st em ed own run)

-- its own word is lowered once, and what lies on it may be taken
pub lower_holds : (d : SetupData) (c : Context) (i : ℕ) (s : Scene) (m : Machine) (t t' : Seat) (at : Position) (lies : List (Option Cargo)) (o : Option Cargo)
    → IsMover d c i s m t at → IsKeeping i t t' → length lies ≡ length s.lying.run → get_or lies i None ≡ o
    → ((j : ℕ) → j ≢ i → get_or lies j None ≡ get_or s.lying.run j None) → member_of (station_of t'.position) ≡ member_of (station_of at)
    → made (bit (member m i).has_departed) (station_of t'.position) ≡ made (bit (member m i).has_departed) (station_of at)
    → IsCpu d c m.waves i (view_of (seat_view (station_of t'.position) i t') (get_or s.words.present i 0) (get_or s.lying.present i None) o (member m i))
    → (IsRunOf c i (view_at (station_of at) t s m i) (get_or s.words.run i 0)
    → IsRunOf c i (view_of (seat_view (station_of t'.position) i t') (get_or s.words.present i 0) (get_or s.lying.present i None) o (member m i)) (get_or s.words.run i 0 - 1))
    → Holds d c (record s { words = record s.words { run = slice_set s.words.run i (get_or s.words.run i 0 - 1) }; lying = record s.lying { run = lies }; seats = slice_set s.seats i t' }) m
lower_holds d c i s m t t' at lies o h keeps ll at_lies off_lies em ed own run =
    let f = h.holds in
    let g = f.ready in
    let z = g.sized in
    let ls : i < length s.seats = rw z.seats h.there in
    let lr : i < length s.words.run = rw z.run h.there in
    let y : ℕ = get_or s.words.run i 0 - 1 in
    let s' : Scene = record s { words = record s.words { run = slice_set s.words.run i y }; lying = record s.lying { run = lies }; seats = slice_set s.seats i t' } in
    let v' : View = view_of (seat_view (station_of t'.position) i t') (get_or s.words.present i 0) (get_or s.lying.present i None) o (member m i) in
    let here : seat s' i ≡ t' = seat_set s i t' ls in
    let same : get_or (slice_set s.words.run i y) c.bsp 0 ≡ get_or s.words.run c.bsp 0 = get_or-set_other s.words.run i c.bsp y 0 (λ u. h.other (sym u)) in
    peer_moves d c i s s' m m (view_at (station_of at) t s m i) v' y f h.there h.other
    (record {
      sized = record { seats = length-set s.seats i t' ∙ z.seats; pend = z.pend; present = z.present; run = length-set s.words.run i y ∙ z.run; busy = z.busy; on_present = z.on_present; on_run = ll ∙ z.on_run; on_busy = z.on_busy; members = z.members; held = z.held };
      words = g.words;
      course = g.course;
      chipset = g.chipset;
      waves = refl;
      registered = refl;
      pooled = refl;
      old = view_is s m i t at h.seat_is h.position_is;
      new = rw (get_or-set_same s.seats i t' no_seat ls, at_lies) refl;
      others = λ j k n. rw (get_or-set_other s.seats i j t' no_seat n, off_lies j n) refl;
      seats = λ j n. get_or-set_other s.seats i j t' no_seat n;
      runs = λ j n u. get_or-set_other s.words.run i j y 0 n;
      own_run = get_or-set_same s.words.run i y 0 lr;
      jobs = g.jobs;
      idle = subst (IsIdle d c i) (sym here) (keeps_idle d c i s m t t' at h keeps);
      signals = g.signals;
      busies = g.busies;
    })
    (record { counted = λ _. omega arith; locked = λ _. refl; team = refl; made = λ _. omega arith })
    own
    (run (run_of d c i s m t at h))

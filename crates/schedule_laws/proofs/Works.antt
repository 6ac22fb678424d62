-- The steps of an AP that waits for jobs and its release, and leaves.
use Rattle.std.proofs.Common.{ℕ, ◌+◌, ◌-◌, ◌*◌, ◌≡◌, ◌≢◌, ◌<◌, ◌≤◌, arith, true, length, get_or, slice_set, Option, Some, None, refl, sym, subst, ap, ⊎_elim, ◌∙◌}
use Rattle.std.specs.Prelude.{IsSomeAnd}
use Rattle.std.proofs.lemmas.Bool.{cases_eq, ne_eqb, eq-eqb, lt-ltb}
use Rattle.std.proofs.lemmas.List.{get_or-set_other, get_or-set_same, length-set}
use Rattle.smm_base.specs.declared.status.Status.{Status}
use Rattle.save_state_map.specs.Images.{ImageContents}
use Rattle.cpu_table.specs.Data.{SetupData}
use Rattle.handler_ops.specs.declared.desk.Desk.{Desk}
use Rattle.handler_ops.specs.declared.desk.Job.{Job}
use Rattle.cpu_program.specs.declared.cargo.Cargo.TheVariants as cargo
use Rattle.cpu_program.specs.Hands.{is_kind}
use Rattle.cpu_program.specs.Processors.{job_to_run}
use Rattle.rendezvous_machine.specs.declared.phase.Phase.TheVariants.{Gone}
use Rattle.rendezvous_machine.specs.Machines.{Machine, Member, member}
use Rattle.rendezvous_machine.specs.Effects.{with_member}
use Rattle.schedule_laws.proofs.Scenes.{Scene, Seat, AwaitingRelease, GivingBack, TellingRelease, AwaitingDismissal, Withdrawing, TellingDismissal, AwaitingEnd, seat}
use Rattle.schedule_laws.proofs.Stations.{station_of, work_done, work_of}
use Rattle.schedule_laws.proofs.Invariant.{Context, View, IsCpu, IsIdle, Holds, KeptAt, desk_at, locked, view_at}
use Rattle.schedule_laws.proofs.Frames.{IsMover, mover, own_at, run_of, seated, stays, keeps_own, bsp_run_low, bit_true}
use Rattle.schedule_laws.proofs.OwnFrames.{present_holds, raise_holds, lower_holds}
use Rattle.schedule_laws.proofs.Facts.{is_free, free_idle, depart_facts, all_released}
use Rattle.schedule_laws.proofs.ImageKinds.{is_same_kind}
use Rattle.schedule_laws.proofs.ReportMoves.{departing, departing_run, dismissed, dismissed_run, released, released_run, taking_job, taking_job_run, told_departure, told_departure_run, told_release, told_release_run}

-- a job that is still to be run, on a desk
pub record IsOpenJob (o : Option Job) : Type 0 where
  pub job : Job
  pub is : o ≡ Some job
  pub undone : job.done ≡ None

undone_done : (job : Job) (o : Option (ℕ × Status)) → work_done o ≡ 1 → o ≡ None
undone_done job None h = refl
undone_done job (Some a) h = absurd (omega arith)

pub open_job : (o : Option Job) → work_of o ≡ 1 → IsOpenJob o
open_job None h = absurd (omega arith)
open_job (Some job) h = record { job = job; is = refl; undone = undone_done job job.done h }

pub no_job : (o : Option Job) → work_of o ≡ 0 → o ≡ None
no_job None h = refl
no_job (Some job) h = absurd (no_done job.done h)
  where
    no_done : (o : Option (ℕ × Status)) → work_done o ≡ 0 → ⊥
    no_done None h = omega arith
    no_done (Some a) h = omega arith

-- such a job is run
can_run_open : (d : SetupData) (image : ImageContents) (o : Option Job) → work_of o ≡ 1 → IsSomeAnd o (λ x. x.procedure < length d.procedures)
    → job_to_run d (Some (desk_at image o)) ≡ true
can_run_open d image None h p = absurd p
can_run_open d image (Some job) h p = simp (undone_done job job.done h, lt-ltb job.procedure (length d.procedures) p) refl

pub await_release : (d : SetupData) (c : Context) (i : ℕ) (s : Scene) (m : Machine) (t : Seat) → Holds d c s m → i < d.processors → seat s i ≡ t → t.position ≡ AwaitingRelease
    → KeptAt d s m i t AwaitingRelease
await_release d c i s m t f l e q =
    let g = f.ready in
    let v : View = view_at (station_of AwaitingRelease) t s m i in
    let own : IsCpu d c m.waves i (view_at (station_of AwaitingRelease) t s m i) = own_at d c i s m t AwaitingRelease f l e q in
    let h : IsMover d c i s m t AwaitingRelease = mover d c i s m t AwaitingRelease refl f l e q in
    let nb : i ≢ c.bsp = h.other in
    let ls : i < length s.seats = rw g.sized.seats l in
    let x : ℕ = get_or s.words.run i 0 in
    let lo : i < length s.lying.run = rw g.sized.on_run l in
    let word = run_of d c i s m t AwaitingRelease h in
    let idle : IsIdle d c i t = subst (IsIdle d c i) h.seat_is (f.ready.idle i l nb) in
    let few : i ≢ d.processors = (λ y. omega arith) in
    let kind : is_kind (member m i).image.kind d.kind ≡ true = is_same_kind (member m i).image.kind d.kind own.self.kind in
    ⊎_elim
    (λ (z : x ≡ 0). rw (eq-eqb x 0 z) (stays d c s m f))
    (λ (z : x ≢ 0).
    let one : 1 ≤ x = omega arith in
    ⊎_elim
    (λ (b : v.work ≡ 1).
    let desk : Desk = desk_at (member m i).image (member m i).job in
    let lies : get_or s.lying.run i None ≡ Some (cargo.Desk desk) = own.self.on_run_job b refl in
    let put : get_or (slice_set t.held i (Some desk)) i None ≡ Some desk = get_or-set_same t.held i (Some desk) None (rw idle.size l) in
    let some : 1 ≤ work_of (member m i).job = omega arith in
    let can : job_to_run d (Some desk) ≡ true = can_run_open d (member m i).image (member m i).job b ((f.ready.jobs i l nb).procedure some) in
    simp (ne_eqb x 0 z, lies, kind, put, can) (refl, tt, seated d c s (record s.words { run = slice_set s.words.run i (x - 1) }) (record s.lying { run = slice_set s.lying.run i None }) m i (record t { position = GivingBack; held = slice_set t.held i (Some desk) }) ls (lower_holds d c i s m t (record t { position = GivingBack; held = slice_set t.held i (Some desk) }) AwaitingRelease (slice_set s.lying.run i None) None h (keeps_own i t (Some desk) GivingBack) (length-set s.lying.run i None) (get_or-set_same s.lying.run i None None lo) (λ j n. get_or-set_other s.lying.run i j None None n) refl refl (taking_job d c m.waves i x v (get_or (slice_set t.held i (Some desk)) i None) put b one nb own) (λ y. taking_job_run d c m.waves i x v (get_or (slice_set t.held i (Some desk)) i None) put b one nb own y))))
    (λ (b : v.work ≢ 1).
    let desk : Desk = desk_at (member m i).image None in
    let free : v.released ≡ 1 = is_free c i x v one b refl own.self.team_bit own.self.released_bit (own.peer nb) word in
    let idle_now : v.work ≡ 0 = free_idle c i v free own.team in
    let lies : get_or s.lying.run i None ≡ Some (cargo.Desk desk) = own.self.on_run free refl in
    let put : get_or (slice_set t.held i (Some desk)) i None ≡ Some desk = get_or-set_same t.held i (Some desk) None (rw idle.size l) in
    simp (ne_eqb x 0 z, lies, kind, put) (refl, tt, seated d c s (record s.words { run = slice_set s.words.run i (x - 1) }) (record s.lying { run = slice_set s.lying.run i None }) m i (record t { position = TellingRelease; held = slice_set t.held i (Some desk) }) ls (lower_holds d c i s m t (record t { position = TellingRelease; held = slice_set t.held i (Some desk) }) AwaitingRelease (slice_set s.lying.run i None) None h (keeps_own i t (Some desk) TellingRelease) (length-set s.lying.run i None) (get_or-set_same s.lying.run i None None lo) (λ j n. get_or-set_other s.lying.run i j None None n) refl refl (released d c m.waves i x v (get_or (slice_set t.held i (Some desk)) i None) put free idle_now one nb own) (λ y. released_run d c m.waves i x v (get_or (slice_set t.held i (Some desk)) i None) put free idle_now one nb own y))))
    (cases_eq v.work 1))
    (cases_eq x 0)

pub tell_release : (d : SetupData) (c : Context) (i : ℕ) (s : Scene) (m : Machine) (t : Seat) → Holds d c s m → i < d.processors → seat s i ≡ t → t.position ≡ TellingRelease
    → KeptAt d s m i t TellingRelease
tell_release d c i s m t f l e q =
    let g = f.ready in
    let v : View = view_at (station_of TellingRelease) t s m i in
    let own : IsCpu d c m.waves i (view_at (station_of TellingRelease) t s m i) = own_at d c i s m t TellingRelease f l e q in
    let h : IsMover d c i s m t TellingRelease = mover d c i s m t TellingRelease refl f l e q in
    let nb : i ≢ c.bsp = h.other in
    let ls : i < length s.seats = rw g.sized.seats l in
    let st : 2 ≤ c.stage = (own.peer nb).walking (omega arith) in
    let k : t.bsp ≡ c.bsp = (own.peer nb).knows (omega arith) in
    let low : get_or s.words.run t.bsp 0 ≢ locked = (λ z. bsp_run_low d c s m g (omega arith) (ap (λ (x : ℕ). get_or s.words.run x 0) (sym k) ∙ z)) in
    rw (ne_eqb (get_or s.words.run t.bsp 0) locked low) (
      refl,
      tt,
      seated d c s (record s.words { run = slice_set s.words.run t.bsp (get_or s.words.run t.bsp 0 + 1) }) s.lying m i (record t { position = AwaitingDismissal }) ls
          (raise_holds d c i t.bsp s m t (record t { position = AwaitingDismissal }) TellingRelease h (record { size = refl; held = λ k n. refl; chair = refl }) (omega arith) k refl refl (told_release d c m.waves i 0 v nb own) (λ y. told_release_run d c m.waves i (get_or s.words.run i 0) v nb own y)),
    )

pub tell_dismissal : (d : SetupData) (c : Context) (i : ℕ) (s : Scene) (m : Machine) (t : Seat) → Holds d c s m → i < d.processors → seat s i ≡ t → t.position ≡ TellingDismissal
    → KeptAt d s m i t TellingDismissal
tell_dismissal d c i s m t f l e q =
    let g = f.ready in
    let v : View = view_at (station_of TellingDismissal) t s m i in
    let own : IsCpu d c m.waves i (view_at (station_of TellingDismissal) t s m i) = own_at d c i s m t TellingDismissal f l e q in
    let h : IsMover d c i s m t TellingDismissal = mover d c i s m t TellingDismissal refl f l e q in
    let nb : i ≢ c.bsp = h.other in
    let ls : i < length s.seats = rw g.sized.seats l in
    let st : 2 ≤ c.stage = (own.peer nb).walking (omega arith) in
    let k : t.bsp ≡ c.bsp = (own.peer nb).knows (omega arith) in
    let gone : v.departed ≡ 1 = (own.peer nb).gone refl in
    let low : get_or s.words.run t.bsp 0 ≢ locked = (λ z. bsp_run_low d c s m g (omega arith) (ap (λ (x : ℕ). get_or s.words.run x 0) (sym k) ∙ z)) in
    rw (ne_eqb (get_or s.words.run t.bsp 0) locked low) (
      refl,
      tt,
      seated d c s (record s.words { run = slice_set s.words.run t.bsp (get_or s.words.run t.bsp 0 + 1) }) s.lying m i (record t { position = AwaitingEnd }) ls
          (raise_holds d c i t.bsp s m t (record t { position = AwaitingEnd }) TellingDismissal h (record { size = refl; held = λ k n. refl; chair = refl }) (omega arith) k refl (omega arith) (told_departure d c m.waves i 0 v nb own) (λ y. told_departure_run d c m.waves i (get_or s.words.run i 0) v nb own y)),
    )

pub await_dismissal : (d : SetupData) (c : Context) (i : ℕ) (s : Scene) (m : Machine) (t : Seat) → Holds d c s m → i < d.processors → seat s i ≡ t → t.position ≡ AwaitingDismissal
    → KeptAt d s m i t AwaitingDismissal
await_dismissal d c i s m t f l e q =
    let g = f.ready in
    let v : View = view_at (station_of AwaitingDismissal) t s m i in
    let own : IsCpu d c m.waves i (view_at (station_of AwaitingDismissal) t s m i) = own_at d c i s m t AwaitingDismissal f l e q in
    let h : IsMover d c i s m t AwaitingDismissal = mover d c i s m t AwaitingDismissal refl f l e q in
    let nb : i ≢ c.bsp = h.other in
    let ls : i < length s.seats = rw g.sized.seats l in
    let x : ℕ = get_or s.words.run i 0 in
    ⊎_elim
    (λ (z : x ≡ 0). rw (eq-eqb x 0 z) (stays d c s m f))
    (λ (z : x ≢ 0). let one : 1 ≤ x = omega arith in rw (ne_eqb x 0 z) (refl, tt, seated d c s (record s.words { run = slice_set s.words.run i (x - 1) }) s.lying m i (record t { position = Withdrawing }) ls (lower_holds d c i s m t (record t { position = Withdrawing }) AwaitingDismissal s.lying.run (get_or s.lying.run i None) h (record { size = refl; held = λ k n. refl; chair = refl }) refl refl (λ j n. refl) refl refl (dismissed d c m.waves i x v one nb own) (λ y. dismissed_run d c m.waves i x v one nb own y))))
    (cases_eq x 0)

pub withdraw : (d : SetupData) (c : Context) (i : ℕ) (s : Scene) (m : Machine) (t : Seat) → Holds d c s m → i < d.processors → seat s i ≡ t → t.position ≡ Withdrawing
    → KeptAt d s m i t Withdrawing
withdraw d c i s m t f l e q =
    let g = f.ready in
    let v : View = view_at (station_of Withdrawing) t s m i in
    let own : IsCpu d c m.waves i (view_at (station_of Withdrawing) t s m i) = own_at d c i s m t Withdrawing f l e q in
    let h : IsMover d c i s m t Withdrawing = mover d c i s m t Withdrawing refl f l e q in
    let nb : i ≢ c.bsp = h.other in
    let ls : i < length s.seats = rw g.sized.seats l in
    let k = depart_facts c i (get_or s.words.run i 0) v (own.self.there refl) own.self.present_le own.self.team_bit own.self.released_bit own.team (own.peer nb) (run_of d c i s m t Withdrawing h) in
    let idle : v.work ≡ 0 = own.team.idle_after (omega (arith, k.2)) in
    let x : Member = record (member m i) { phase = Gone; has_departed = true } in
    let t' : Seat = record t { position = TellingDismissal } in (
      refl,
      (own.self.phase, all_released d c s m g k.2, bit_true _ k.0),
      seated d c s (record s.words { present = slice_set s.words.present i 0 }) s.lying (with_member i x m) i t' ls
          (present_holds d c i s m t t' Withdrawing 0 s.lying.present (get_or s.lying.present i None) x h (record { size = refl; held = λ k n. refl; chair = refl }) refl refl (λ j n. refl) (λ z. absurd (omega (arith, k.2))) (omega arith) (λ y. record { lies = y.lies; finished = y.finished; ran = y.ran }) refl refl refl
          (departing d c m.waves i 0 v k.0 k.1 k.2 k.3 idle nb own) (λ y. departing_run d c m.waves i (get_or s.words.run i 0) v k.0 k.1 k.2 k.3 idle nb own y)),
    )

-- The BSP closes the session: it says so first.
use Rattle.std.proofs.Common.{ℕ, ◌+◌, ◌-◌, ◌*◌, ◌≡◌, ◌≢◌, ◌<◌, ◌≤◌, arith, refl, ap}
use Rattle.cpu_table.specs.Data.{SetupData}
use Rattle.rendezvous_core.specs.Worlds.{Words}
use Rattle.rendezvous_machine.specs.Machines.{Machine}
use Rattle.schedule_laws.proofs.Scenes.{Scene, Seat, MarkingInsync, LockingCounter, Leading as LeadingAt, seat}
use Rattle.schedule_laws.proofs.Stations.{station_of}
use Rattle.schedule_laws.proofs.Invariant.{Context, IsWords, IsSession, IsCourse, IsReady, IsAim, IsLead, Holds, KeptAt, mode_of, globe}
use Rattle.schedule_laws.proofs.Frames.{mode_le}
use Rattle.schedule_laws.proofs.LeadFrames.{at_stage, IsHolding, Reached, lead_kept}
use Rattle.schedule_laws.proofs.SessionFrames.{open_ready, words_open, plain, turns}

-- IT SAYS THAT THE SESSION IS ABOUT TO BE CLOSED

insync_session : (mode : ℕ) (c : Context) → mode ≤ 1 → IsSession mode (at_stage c 8 0) → IsSession mode (at_stage c 9 0)
insync_session mode c b h =
    record { bsp = λ _. h.bsp (omega arith); unserved = λ z. absurd (omega arith); served = λ _. h.served (omega arith); ungathered = λ z. absurd (omega arith); gathered = λ y _. h.gathered y (omega arith); unready = λ z. absurd (omega arith); fresh = λ z. absurd (omega arith); expired = λ _ _ z. absurd (omega arith); waited = λ y _. h.waited y (omega arith); unclosed = λ _. h.unclosed (omega arith); closed = λ z. absurd (omega arith); unbegun = λ z. h.unbegun (omega arith); undone = λ _. h.undone (omega arith); done = λ z. absurd (omega arith) }

insync_course : (d : SetupData) (c : Context) (m : Machine) → IsCourse d (at_stage c 8 0) m.registrations m.pool → IsCourse d (at_stage c 9 0) m.registrations m.pool
insync_course d c m h =
    let mode = mode_le d in
    record { setup = h.setup; size = h.size; registered = λ z. h.registered (omega arith); pooled = λ z. h.pooled (omega arith); me = λ z. h.me (omega arith); led = λ z. h.led (omega arith); listed = λ z. h.listed (omega arith); over = λ z. h.over (omega arith) }

mark_insync_at : (d : SetupData) (c : Context) (s : Scene) (m : Machine) (t : Seat) → t.position ≡ LeadingAt MarkingInsync → Holds d (at_stage c 8 0) s m → seat s c.bsp ≡ t
    → IsLead d (at_stage c 8 0) m.registrations m.pool MarkingInsync t → KeptAt d s m c.bsp t (LeadingAt MarkingInsync)
mark_insync_at d c s m t q f e at =
    let g = f.ready in
    let w = g.words in
    let mode = mode_le d in
    let words : Words = record s.words { insync = 1 } in
    let s' : Scene = record s { words = words; lying = s.lying } in
    let hold : IsHolding c LockingCounter (record t { position = LeadingAt LockingCounter }) = record { wave = at.wave; blocked = at.blocked; listed = at.listed; held = at.held; chair = at.chair (omega arith) } in
    let is : IsWords d (at_stage c 9 0) (globe s' m) =
    words_open d c 8 0 9 0 s m s.words.inside 1 m.session c.session c.wave c.blocked (omega arith) (omega arith) (omega arith) (omega arith) (w.inside (omega arith) (omega arith)) (λ y. absurd (omega arith)) (λ _. refl) (λ y. y) w in
    let ready : IsReady d (at_stage c 9 0) s' m =
    open_ready d c 8 0 9 0 s s' m m c.session c.wave c.blocked (omega arith) (omega arith) (omega arith) (omega arith) (λ z. absurd (omega arith)) (λ z. absurd (omega arith)) (λ z. omega arith) g refl refl refl refl refl refl refl g.signals g.busies g.sized is (insync_session (mode_of d) c mode g.session) (insync_course d c m g.course) in
    let aim : IsAim d (at_stage c 9 0) = record { signals = λ z. absurd (omega arith); takes = λ z. absurd (omega arith); releases = λ z. absurd (omega arith); dismisses = λ z. absurd (omega arith); gives = λ z. absurd (omega arith); closes = λ _ _. f.aim.closes (omega arith) (omega arith); closes_on = λ z. absurd (omega arith) } in
    let r : Reached d c s' m LockingCounter = plain d c s' m LockingCounter 9 0 ready aim refl refl (λ z. absurd (omega arith)) refl (λ z. absurd (omega arith)) in
    (refl, tt, turns d c s words s.lying m t (record t { position = LeadingAt LockingCounter }) LockingCounter r e (ap station_of q) refl refl hold)

pub mark_insync : (d : SetupData) (c : Context) (i : ℕ) (s : Scene) (m : Machine) (t : Seat) → Holds d c s m → i < d.processors → seat s i ≡ t
    → t.position ≡ LeadingAt MarkingInsync → KeptAt d s m i t (LeadingAt MarkingInsync)
mark_insync d c i s m t f l e q = lead_kept d c i s m t MarkingInsync f l e q (λ k e' at. mark_insync_at d c s m t q k e' at)

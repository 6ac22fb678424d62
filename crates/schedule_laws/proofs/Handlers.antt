-- The turns of the BSP while it serves, row by row.
use Rattle.std.proofs.Common.{ℕ, ◌≡◌, ◌≢◌, ◌<◌, arith, Some, get_or, None, refl, sym, ap, subst, ⊎_elim, ◌∙◌}
use Rattle.std.proofs.lemmas.Bool.{cases_eq}
use Rattle.cpu_table.specs.Data.{SetupData}
use Rattle.handler_ops.specs.declared.row.Row.{Row}
use Rattle.handler_ops.specs.declared.row.Row.TheVariants as told
use Rattle.handler_ops.specs.Course.{Desks}
use Rattle.handler_ops.specs.Sessions.{Session as Chair}
use Rattle.handler_ops.specs.Told.{handed_as}
use Rattle.cpu_program.specs.Actors.{Processor, OfProcessor}
use Rattle.cpu_program.specs.Processors.{is_relaxed}
use Rattle.rendezvous_core.specs.Worlds.{turn, turned}
use Rattle.rendezvous_machine.specs.Machines.{Machine}
use Rattle.schedule_laws.proofs.Scenes.{Scene, Seat, AtHandlers, Leading as LeadingAt, seat, processor_at, world_of}
use Rattle.schedule_laws.proofs.Stations.{station_of}
use Rattle.schedule_laws.proofs.Leads.{serves_at}
use Rattle.schedule_laws.proofs.Invariant.{Context, IsLead, IsServing, Holds, Kept, KeptAt}
use Rattle.schedule_laws.proofs.Frames.{stays, mode_le}
use Rattle.schedule_laws.proofs.LeadFrames.{at_stage, lead_kept}
use Rattle.schedule_laws.proofs.HandlerPlaces.{serves_is}
use Rattle.schedule_laws.proofs.HandlerRows.{RowFits, row_fits}
use Rattle.schedule_laws.proofs.HandlerLandings.{handed_own, serves_high}
use Rattle.schedule_laws.proofs.HandlerFrames.{watched}
use Rattle.schedule_laws.proofs.HandlerLooks.{IsTold, RowKept, at_row, looking, allocating, freeing, desk_missing, job_missing}
use Rattle.schedule_laws.proofs.HandlerReads.{reading}
use Rattle.schedule_laws.proofs.HandlerPuts.{putting}
use Rattle.schedule_laws.proofs.HandlerClaims.{desk_claimed}
use Rattle.schedule_laws.proofs.HandlerJobs.{job_claimed, job_awaited}
use Rattle.schedule_laws.proofs.HandlerStarts.{raising}
use Rattle.schedule_laws.proofs.HandlerWrites.{writing}

module _ (d : SetupData) where
  row_kept : (c : Context) (s : Scene) (m : Machine) (t : Seat) (r : Row) → Holds d (at_stage c (serves_at (is_relaxed d.mode)) 0) s m → IsTold d c s m t r → RowKept d c s m t r
  row_kept c s m t told.Finished k h = stays d (at_stage c (serves_at (is_relaxed d.mode)) 0) s m k
  row_kept c s m t (told.Looking l) k h = looking d c s m t l h
  row_kept c s m t (told.ClaimingDesk x l) k h =
      ⊎_elim
      (λ (z : get_or s.words.present x 0 ≡ 1). desk_claimed d c s m t x l h z)
      (λ (z : get_or s.words.present x 0 ≢ 1). desk_missing d c s m t x l h z)
      (cases_eq (get_or s.words.present x 0) 1)
  row_kept c s m t (told.ClaimingJob x l) k h =
      ⊎_elim
      (λ (z : get_or s.words.busy x 0 ≡ 2). job_claimed d c s m t x l h z)
      (λ (z : get_or s.words.busy x 0 ≢ 2). job_missing d c s m t x l h z)
      (cases_eq (get_or s.words.busy x 0) 2)
  row_kept c s m t (told.AwaitingJob x) k h = job_awaited d c s m t x k h
  row_kept c s m t (told.Putting x) k h = putting d c s m t x h
  row_kept c s m t (told.Raising x l) k h = raising d c s m t x l h
  row_kept c s m t (told.Reading x reg width) k h = reading d c s m t x reg width h
  row_kept c s m t (told.Writing x reg width v) k h = writing d c s m t x reg width v h
  row_kept c s m t (told.Allocating n) k h = allocating d c s m t n h
  row_kept c s m t (told.Freeing n) k h = freeing d c s m t n h

  serve_at : (c : Context) (s : Scene) (m : Machine) (t : Seat) → t.position ≡ LeadingAt AtHandlers → Holds d (at_stage c (serves_at (is_relaxed d.mode)) 0) s m → seat s c.bsp ≡ t
      → IsLead d (at_stage c (serves_at (is_relaxed d.mode)) 0) m.registrations m.pool AtHandlers t → KeptAt d s m c.bsp t (LeadingAt AtHandlers)
  serve_at c s m t q k e at =
      let f = k.ready in
      let high = serves_high (is_relaxed d.mode) in
      let is = serves_is (is_relaxed d.mode) in
      let le = mode_le d in
      let y = at.serves refl in
      let v : IsServing d c = record { goes_on = y.goes_on; fits = y.fits; own = y.own; sound = y.sound; told = y.told } in
      let fits : RowFits d c s m c.chair.told = subst (RowFits d c s m) (sym v.told) (row_fits d c s m (watched d c s m f v.goes_on v.sound v.own) v.fits) in
      let held : t.held ≡ handed_as c.chair.told c.held = at.held in
      let told_is : IsTold d c s m t c.chair.told = record {
        ready = f;
        serving = v;
        leading = record { seat_is = e; leads = ap station_of q; wave = at.wave; blocked = at.blocked; listed = at.listed };
        told = refl;
        fits = fits;
        own = sym (ap (λ (h : Desks). get_or h c.bsp None) held ∙ handed_own d c s m c.chair.told fits);
      } in
      let chair : c.chair ≡ record { setup = d; me = c.bsp; course = c.chair.course; told = c.chair.told } =
      (λ i. record { setup = f.course.setup i; me = (f.course.me (omega (arith, is, le))) i; course = c.chair.course; told = c.chair.told }) in
      let same : processor_at d c.bsp (LeadingAt AtHandlers) t ≡ at_row d c t c.chair.told =
      (λ i. record (processor_at d c.bsp (LeadingAt AtHandlers) t) { chair = (at.chair (omega (arith, high)) ∙ ap (λ (x : Chair). Some x) chair) i; held = held i }) in
      subst (λ (p : Processor). Kept d m c.bsp (turned (world_of d s) c.bsp (turn s.words s.lying c.bsp (OfProcessor p)))) (sym same) (row_kept c s m t c.chair.told k told_is)

  pub at_handlers : (c : Context) (i : ℕ) (s : Scene) (m : Machine) (t : Seat) → Holds d c s m → i < d.processors → seat s i ≡ t → t.position ≡ LeadingAt AtHandlers
      → KeptAt d s m i t (LeadingAt AtHandlers)
  at_handlers c i s m t f l e q = lead_kept d c i s m t AtHandlers f l e q (λ k e' at. serve_at c s m t q k e' at)

-- The row at which the server reads the image on a desk that is held.
use Rattle.std.proofs.Common.{ℕ, ◌≡◌, ◌≢◌, ◌<◌, arith, true, get_or, Option, Some, None, refl, sym, ap, subst, ⊎_elim, ◌∙◌}
use Rattle.std.proofs.lemmas.Bool.{cases_eq}
use Rattle.smm_base.specs.Register.{register_number}
use Rattle.save_state_map.specs.Images.{ImageContents}
use Rattle.cpu_table.specs.Data.{SetupData}
use Rattle.sync_words.specs.declared.label.Label.{Label}
use Rattle.handler_ops.specs.declared.desk.Job.{Job}
use Rattle.save_state_access.specs.Reading.{ReadAnswer}
use Rattle.handler_ops.specs.declared.row.Row.{Row}
use Rattle.handler_ops.specs.declared.row.Row.TheVariants as told
use Rattle.serving_place.specs.Operations.{register_of}
use Rattle.handler_ops.specs.Course.{desk_of, image_in, is_held, read_of, shown_value}
use Rattle.handler_ops.specs.Told.{read_at_hand}
use Rattle.handler_ops.proofs.Dues.{held_is}
use Rattle.cpu_program.specs.Processors.{is_relaxed}
use Rattle.rendezvous_machine.specs.Machines.{Machine, member, is_here}
use Rattle.rendezvous_machine.specs.Services.{setting, Target, Image, by_job, target, ReadShows}
use Rattle.rendezvous_laws.proofs.Writes.{register_known}
use Rattle.schedule_laws.proofs.Scenes.{Scene, Seat, seat}
use Rattle.schedule_laws.proofs.Leads.{serves_at}
use Rattle.schedule_laws.proofs.Invariant.{Context, View, desk_at, view}
use Rattle.schedule_laws.proofs.Stations.{station_of, out_of, job_of, work_of}
use Rattle.schedule_laws.proofs.HandlerSteps.{seat_in}
use Rattle.schedule_laws.proofs.HandlerPlaces.{agree_at}
use Rattle.schedule_laws.proofs.HandlerRows.{Says, AtHandOf, IsWatched, target_own, target_other}
use Rattle.schedule_laws.proofs.HandlerLandings.{serves_high}
use Rattle.schedule_laws.proofs.HandlerFrames.{watched, seen_of, held_some, kept_is}
use Rattle.schedule_laws.proofs.HandlerLooks.{IsTold, RowKept, accepted, says_kept}

-- a desk at hand has the image of its processor, and no job
pub hand_desk : (d : SetupData) (c : Context) (s : Scene) (m : Machine) (t : Seat) (x : ℕ) → IsTold d c s m t c.chair.told → x < d.processors → AtHandOf c x
    → get_or c.held x None ≡ Some (desk_at (member m x).image None)
hand_desk d c s m t x h l hand =
    let f = h.ready in
    let high = serves_high (is_relaxed d.mode) in
    ⊎_elim
    (λ (q : x ≡ c.bsp).
    let e = f.each x l in
    let v : View = view s m x in
    let leads = ap station_of (ap (λ (y : Seat). y.position) (ap (λ (i : ℕ). seat s i) q ∙ h.leading.seat_is)) ∙ h.leading.leads in
    subst (λ (i : ℕ). get_or c.held i None ≡ Some (desk_at (member m x).image None)) (sym q)
    (h.own ∙ ap (λ (y : Seat). get_or y.held c.bsp None) (sym h.leading.seat_is) ∙ ap (λ (i : ℕ). get_or (seat s i).held i None) (sym q)
    ∙ e.self.own (ap out_of leads) (ap job_of leads)))
    (λ (q : x ≢ c.bsp).
    let held : is_held c.held x ≡ true = ⊎_elim (λ (z : x ≡ c.bsp). absurd (q z)) (λ (z : is_held c.held x ≡ true). z) hand in
    let e = f.each x l in
    let v : View = view s m x in
    let sees = seen_of d c (serves_at (is_relaxed d.mode)) s m (omega (arith, high)) f x l q in
    let none : v.work ≡ 0 = ap work_of (sees.held_idle held) in
    let two : v.present ≡ 2 =
    ⊎_elim (λ (z : v.present ≡ 2). z) (λ (z : v.present ≢ 2). absurd (held_some (get_or c.held x None) (sym (held_is c.held x) ∙ held) (sym (kept_is c x q) ∙ e.self.not_held z))) (cases_eq v.present 2) in
    sym (kept_is c x q) ∙ e.self.held two (e.team.unreleased (omega (arith, high))) none)
    (cases_eq x c.bsp)

pub hand_target : (d : SetupData) (c : Context) (s : Scene) (m : Machine) (t : Seat) (x : ℕ) → IsTold d c s m t c.chair.told → IsWatched d c s m → x < d.processors → AtHandOf c x
    → target d m c.bsp x ≡ Image true
hand_target d c s m t x h w l hand =
    ⊎_elim
    (λ (q : x ≡ c.bsp). target_own d c s m w x l q)
    (λ (q : x ≢ c.bsp).
    let held : is_held c.held x ≡ true = ⊎_elim (λ (z : x ≡ c.bsp). absurd (q z)) (λ (z : is_held c.held x ≡ true). z) hand in
    let sees = w.seen x l q in
    target_other d c s m w x l q ∙ ap (λ (o : Option Job). by_job o (is_here (member m x).phase)) (sees.held_idle held) ∙ ap Image (sees.held_here held))
    (cases_eq x c.bsp)

pub hand_agrees : (d : SetupData) (c : Context) (s : Scene) (m : Machine) (x : ℕ) → IsWatched d c s m → AtHandOf c x
    → seat_in c.place.state.seats x ≡ seat_in c.chair.course.place.state.seats x
hand_agrees d c s m x w hand =
    agree_at d c m w.tied x
    (λ l q z.
    let held : is_held c.held x ≡ true = ⊎_elim (λ (y : x ≡ c.bsp). absurd (q y)) (λ (y : is_held c.held x ≡ true). y) hand in
    let none = ap work_of ((w.seen x l q).held_idle held) in omega (arith, none, z))

module _ (d : SetupData) (c : Context) (s : Scene) (m : Machine) (t : Seat) (x reg width : ℕ) (h : IsTold d c s m t (told.Reading x reg width)) where
  here : IsTold d c s m t c.chair.told
  here = subst (λ (r : Row). IsTold d c s m t r) (sym h.told) h

  read_says : Says d c m (read_at_hand (setting d c.bsp) x reg width c.held)
  read_says =
      let w = watched d c s m h.ready h.serving.goes_on h.serving.sound h.serving.own in
      let l = h.fits.0 in
      let image : image_in (desk_of c.held x) ≡ (member m x).image = ap image_in (hand_desk d c s m t x here l h.fits.1) in
      let a : ImageContents → ℕ → ReadAnswer = λ (i : ImageContents) (n : ℕ). read_of (setting d c.bsp) true i x n width in
      let same : a (image_in (desk_of c.held x)) reg ≡ a (member m x).image (register_number (register_of reg)) =
      ap (λ (i : ImageContents). a i reg) image ∙ ap (λ (n : ℕ). a (member m x).image n) (sym (register_known reg h.fits.2)) in (
        subst (λ (k : Target). ReadShows k (λ present. read_of (setting d c.bsp) present (member m x).image x (register_number (register_of reg)) width) (shown_value (a (image_in (desk_of c.held x)) reg)) (a (image_in (desk_of c.held x)) reg).status)
            (sym (hand_target d c s m t x here w l h.fits.1))
            (ap shown_value same, ap (λ (y : ReadAnswer). y.status) same),
        hand_agrees d c s m x w h.fits.1,
      )

  pub reading : RowKept d c s m t (told.Reading x reg width)
  reading =
      let l : Label = read_at_hand (setting d c.bsp) x reg width c.held in
      let a = accepted d c (told.Reading x reg width) s.words.inside c.held l h.serving h.told refl in
      let k = says_kept d c s m l h.ready h.serving read_says a t h.leading h.own in (refl, k.0, k.1)

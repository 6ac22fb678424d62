-- The row at which the server claims the desk of a processor, where that is marked present.
use Rattle.std.proofs.Common.{ℕ, ◌≡◌, ◌≢◌, ◌<◌, ◌≤◌, arith, Bool, true, false, length, get_or, slice_set, Option, Some, None, refl, sym, ap, subst, ⊎_elim, ◌∙◌}
use Rattle.std.specs.Prelude.{◌==◌, if◌then◌else◌, is_some}
use Rattle.std.proofs.lemmas.Bool.{cases_eq, eq-eqb}
use Rattle.std.proofs.lemmas.List.{get_or-set_other, get_or-set_same, length-set}
use Rattle.cpu_table.specs.Data.{SetupData}
use Rattle.sync_words.specs.declared.label.Label.{Label}
use Rattle.handler_ops.specs.declared.desk.Desk.{Desk}
use Rattle.handler_ops.specs.declared.row.Row.TheVariants as told
use Rattle.serving_place.specs.Serving.{IsFree}
use Rattle.serving_place.specs.Serving as serving
use Rattle.handler_ops.specs.Course.{Course, Desks, is_held}
use Rattle.handler_ops.specs.Conditions.{IsSound}
use Rattle.handler_ops.specs.Sessions.{Session as Chair}
use Rattle.handler_ops.proofs.Dues.{held_is}
use Rattle.handler_ops.proofs.Rows.{no_job_free}
use Rattle.cpu_program.specs.declared.cargo.Cargo.TheVariants as cargo
use Rattle.cpu_program.specs.Processors.{is_relaxed}
use Rattle.rendezvous_machine.specs.Machines.{Machine, Session, member}
use Rattle.rendezvous_machine.specs.Services.{setting}
use Rattle.schedule_laws.proofs.Scenes.{Scene, Seat, seat}
use Rattle.schedule_laws.proofs.Leads.{serves_at}
use Rattle.schedule_laws.proofs.Invariant.{Context, View, IsReady, IsWords, IsSelf, IsTeam, IsCpu, desk_at, desk_kept, begins_from, mode_of, globe, sizes, view}
use Rattle.schedule_laws.proofs.Frames.{mode_le}
use Rattle.schedule_laws.proofs.LeadFrames.{at_stage}
use Rattle.schedule_laws.proofs.ImageKinds.{is_same_kind}
use Rattle.schedule_laws.proofs.HandlerPlaces.{serves_is}
use Rattle.schedule_laws.proofs.HandlerLandings.{next_told, serves_low, serves_high}
use Rattle.schedule_laws.proofs.HandlerFrames.{moves_on, words_on, session_on, totals_on, cpu_on, idle_on, sized_on, kept_is, answers}
use Rattle.schedule_laws.proofs.HandlerLooks.{IsTold, RowKept, chair_told}

-- a desk is claimed
pub claimed_self : (d : SetupData) (waves : ℕ) (at : Option Desk) (v : View) → v.present ≡ 1 → v.released ≡ 0 → IsSelf d waves at v
    → IsSelf d waves (Some (desk_at v.image None)) (record v { present = 2; on_present = None })
claimed_self d waves at v a b g = grind arith

serves_apart : (b : Bool) → serves_at b ≢ 11
serves_apart true = λ z. absurd (omega (arith, z))
serves_apart false = λ z. absurd (omega (arith, z))

pub claimed_team : (c c' : Context) (j : ℕ) (v : View) → c'.stage ≡ c.stage → 4 ≤ c.stage → c.stage ≤ 13 → c.stage ≢ 11 → IsTeam c j v
    → IsTeam c' j (record v { present = 2; on_present = None })
claimed_team c c' j v e a b n g =
    record {
      team_open = λ z. g.team_open (omega (arith, z, e));
      departed_open = λ z. g.departed_open (omega (arith, z, e));
      team = λ z. g.team (omega (arith, z, e));
      unreleased = λ z. g.unreleased (omega (arith, z, e));
      idle_early = λ z. absurd (omega (arith, z, e, a));
      idle_mid = λ y z. g.idle_mid (omega (arith, y, e)) (omega (arith, z, e));
      idle_after = λ z. absurd (omega (arith, z, e, b));
      unclaimed = λ z. absurd (omega (arith, z, e, a));
      claimed_so_far = λ z _. absurd (n (omega (arith, z, e)));
      claimed = λ _ z. absurd (omega (arith, z));
    }

module _ (d : SetupData) (c : Context) (s : Scene) (m : Machine) (t : Seat) (x : ℕ) (l : Label) (h : IsTold d c s m t (told.ClaimingDesk x l)) (present : get_or s.words.present x 0 ≡ 1) where
  abbrev stage : ℕ
  stage = serves_at (is_relaxed d.mode)

  abbrev desk : Desk
  desk = desk_at (member m x).image None

  abbrev held : Desks
  held = slice_set c.held x (Some desk)

  abbrev course : Course
  course = record { place = c.chair.course.place; marked = false }

  abbrev claimed : Context
  claimed = moves_on c held (chair_told d c held course) c.place c.session.serving

  abbrev scene : Scene
  scene = record s { words = record s.words { present = slice_set s.words.present x 2 }; lying = record s.lying { present = slice_set s.lying.present x None } }

  abbrev seen : View
  seen = record (view s m x) { present = 2; on_present = None }

  seen_is : view scene m x ≡ seen
  seen_is =
      let z = h.ready.sized in
      let l = h.fits.0 in
      rw (get_or-set_same s.words.present x 2 0 (let a = z.present in omega (arith, a, l)), get_or-set_same s.lying.present x None None (let a = z.on_present in omega (arith, a, l))) refl

  other_is : (j : ℕ) → j ≢ x → view scene m j ≡ view s m j
  other_is j q = rw (get_or-set_other s.words.present x j 2 0 q, get_or-set_other s.lying.present x j None None q) refl

  held_other : (j : ℕ) → j ≢ x → get_or held j None ≡ get_or c.held j None
  held_other j q = get_or-set_other c.held x j (Some desk) None q

  held_size : length c.held ≡ d.processors
  held_size = let low = serves_low (is_relaxed d.mode) in h.ready.sized.held (omega (arith, low))

  held_here : get_or held x None ≡ Some desk
  held_here = get_or-set_same c.held x (Some desk) None (let a = held_size in let l = h.fits.0 in omega (arith, a, l))

  claimed_cpu : IsCpu d (at_stage claimed stage 0) m.waves x seen
  claimed_cpu =
      let low = serves_low (is_relaxed d.mode) in
      let high = serves_high (is_relaxed d.mode) in
      let e = h.ready.each x h.fits.0 in
      let at : desk_kept claimed x ≡ Some desk = kept_is claimed x h.fits.1 ∙ held_here in
      record {
        self = subst (λ (o : Option Desk). IsSelf d m.waves o seen) (sym at) (claimed_self d m.waves (desk_kept c x) (view s m x) present (e.team.unreleased (omega (arith, high))) e.self);
        team = claimed_team (at_stage c stage 0) (at_stage claimed stage 0) x (view s m x) refl low high (serves_apart (is_relaxed d.mode)) e.team;
        leader = λ z. absurd (h.fits.1 z);
        peer = λ z. let p = e.peer z in record { station = p.station; walking = p.walking; knows = p.knows; gone = p.gone; listed = p.listed; released_so_far = p.released_so_far; released_no_more = p.released_no_more; released = p.released; told = p.told; answered = p.answered; ended = p.ended };
      }

  claim_ready : IsReady d (at_stage claimed stage 0) scene m
  claim_ready =
      let f = h.ready in
      let c1 : Context = at_stage c stage 0 in
      let k : Chair = chair_told d c held course in
      let low = serves_low (is_relaxed d.mode) in
      let high = serves_high (is_relaxed d.mode) in
      let is = serves_is (is_relaxed d.mode) in
      let le = mode_le d in
      let some : 1 ≤ stage = omega (arith, low) in
      let few : stage ≤ 19 = omega (arith, high) in
      let late : begins_from (mode_of d) < stage = omega (arith, is, le) in
      let z = f.sized in
      record {
        platform = f.platform;
        sized = sized_on c1 held k c.place c.session.serving d (sizes scene m) (length-set c.held x (Some desk) ∙ held_size)
            (record { seats = z.seats; pend = z.pend; present = length-set s.words.present x 2 ∙ z.present; run = z.run; busy = z.busy; on_present = length-set s.lying.present x None ∙ z.on_present; on_run = z.on_run; on_busy = z.on_busy; members = z.members; held = z.held });
        words = subst (λ (o : Option Session). IsWords d (at_stage claimed stage 0) (record (globe s m) { session = o })) (sym (f.words.session some))
            (words_on c1 held k c.place c.session.serving d (globe s m) some few f.words);
        session = session_on c1 held k c.place c.session.serving (mode_of d) late f.session;
        course = record { setup = refl; size = f.course.size; registered = λ y. absurd (omega (arith, y, late)); pooled = λ y. absurd (omega (arith, y, late)); me = λ _. refl; led = f.course.led; listed = f.course.listed; over = λ y. absurd (omega (arith, is, y)) };
        chipset = f.chipset;
        totals = totals_on c1 held k c.place c.session.serving s.words.counter (get_or s.words.run c.bsp 0) _ _ _ f.totals;
        each = λ j n.
            ⊎_elim
            (λ (q : j ≡ x). subst (λ (y : ℕ). IsCpu d (at_stage claimed stage 0) m.waves y (view scene m y)) (sym q)
            (subst (λ (v : View). IsCpu d (at_stage claimed stage 0) m.waves x v) (sym seen_is) claimed_cpu))
            (λ (q : j ≢ x). subst (λ (v : View). IsCpu d (at_stage claimed stage 0) m.waves j v) (sym (other_is j q))
            (cpu_on c1 held k c.place c.session.serving d m.waves j (view s m j) (ap (λ (o : Option Desk). if j == c.bsp then None else o) (held_other j q)) (f.each j n)))
            (cases_eq j x);
        runs = λ j n q. let r = f.runs j n q in record { upto = r.upto; lent = r.lent; so_far = r.so_far; no_more = r.no_more; late = r.late };
        jobs = λ j n q. let g = f.jobs j n q in record { procedure = g.procedure; free = g.free; given = g.given; listed = g.listed };
        idle = λ j n q. idle_on c1 held k c.place c.session.serving d j (seat s j) some (globe s m) f.words q (f.idle j n q);
        signals = f.signals;
        busies = f.busies;
      }

  claim_sound : IsSound (setting d c.bsp) (is_held held) c.chair.course.place.state
  claim_sound =
      let v = h.serving.sound in
      let same : (j : ℕ) → j ≢ x → is_held held j ≡ is_held c.held j =
      (λ j q. held_is held j ∙ ap (λ (o : Option Desk). is_some o) (held_other j q) ∙ sym (held_is c.held j)) in
      record {
        size = v.size;
        mine = same c.bsp (λ q. h.fits.1 (sym q)) ∙ v.mine;
        idle = λ j e.
            ⊎_elim
            (λ (q : j ≡ x). subst (λ (y : ℕ). IsFree (serving.seat c.chair.course.place.state y)) (sym q) (no_job_free (serving.seat c.chair.course.place.state x) h.fits.3))
            (λ (q : j ≢ x). v.idle j (sym (same j q) ∙ e))
            (cases_eq j x);
        undone = v.undone;
      }

  pub desk_claimed : RowKept d c s m t (told.ClaimingDesk x l)
  desk_claimed =
      let v = h.serving in
      let lead = h.leading in
      let e = h.ready.each x h.fits.0 in
      let lies : get_or s.lying.present x None ≡ Some (cargo.Desk desk) = e.self.on_present present in
      let kind = is_same_kind (member m x).image.kind d.kind e.self.kind in
      let one = eq-eqb (get_or s.words.present x 0) 1 present in
      let fine =
      next_told d claimed scene m t (answers d claimed scene m claim_ready claim_sound v.fits v.own refl)
      (record { seat_is = lead.seat_is; leads = lead.leads; wave = lead.wave; blocked = lead.blocked; listed = lead.listed })
      (held_other c.bsp (λ q. h.fits.1 (sym q)) ∙ h.own) in
      simp (one, lies, kind) (refl, tt, fine)

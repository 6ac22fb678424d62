-- What holds at the next context of serving: the desks, the state of serving, the machine's list and its place change.
use Rattle.std.proofs.Common.{ℕ, ◌≡◌, ◌≢◌, ◌<◌, ◌≤◌, arith, Bool, true, false, List, length, get_or, Option, Some, None, refl, sym, ap, subst, ⊎_elim, ◌∙◌}
use Rattle.std.specs.Prelude.{is_some}
use Rattle.std.proofs.lemmas.Bool.{cases_eq, ne_eqb}
use Rattle.cpu_table.specs.Data.{SetupData}
use Rattle.handler_ops.specs.declared.desk.Desk.{Desk}
use Rattle.serving_place.specs.Serving as serving
use Rattle.serving_place.specs.Forms.{Event}
use Rattle.serving_place.specs.Places.{Place}
use Rattle.handler_ops.specs.Course.{Desks, is_held}
use Rattle.handler_ops.specs.Conditions.{IsSound}
use Rattle.handler_ops.specs.NextRow.{row_of}
use Rattle.handler_ops.specs.Sessions.{Session as Chair}
use Rattle.handler_ops.proofs.Dues.{held_is}
use Rattle.handler_ops.proofs.Rows.{finished}
use Rattle.handler_ops.proofs.RowSteps.{need_of_row}
use Rattle.cpu_program.specs.Processors.{is_relaxed}
use Rattle.rendezvous_machine.specs.Machines.{Machine, Session, member, is_here}
use Rattle.rendezvous_machine.specs.Listed.{place_of, place_in, first_serving}
use Rattle.rendezvous_machine.specs.Services.{setting}
use Rattle.schedule_laws.proofs.Scenes.{Scene, Seat}
use Rattle.schedule_laws.proofs.Stations.{Station, AwaitingSmi, SwitchingOff, LookingAtSource, LookingInside, CountingIn, ClaimingChair, AskingForChair, Leading, AwaitingInside, FindingBsp, SignallingBsp, AwaitingInsideAgain, CountingOut, SeekingBsp, Reporting, TellingReport, AwaitingRelease, GivingBack, TellingRelease, AwaitingDismissal, Withdrawing, TellingDismissal, AwaitingEnd, ClearingSignal, Away, here_of, here_of-le, phase_of, work_of}
use Rattle.schedule_laws.proofs.Stations as stations
use Rattle.schedule_laws.proofs.Leads.{serves_at}
use Rattle.schedule_laws.proofs.Invariant.{Context, View, Globe, Sizes, IsCpu, IsSelf, IsTotals, IsWords, IsSession, IsSized, IsIdle, IsRunOf, IsReady, GoesOn, desk_kept, begins_from, serves_from, mode_of, view}
use Rattle.schedule_laws.proofs.LeadFrames.{at_stage}
use Rattle.schedule_laws.proofs.SessionFrames.{home_same}
use Rattle.schedule_laws.proofs.HandlerFits.{PlaceFits}
use Rattle.schedule_laws.proofs.HandlerPlaces.{tied, serves_is, place_is}
use Rattle.schedule_laws.proofs.HandlerRows.{IsSeen, IsWatched, RowFits, row_fits, job_none}
use Rattle.schedule_laws.proofs.HandlerLandings.{IsAnswered, more_or_over, no_need, serves_low, serves_high}

-- the context with these desks, this state of serving, this place of the machine's list, and this list
abbrev pub moves_on : Context → Desks → Chair → Place → Option (List Event) → Context
moves_on c h k q said = record c { held = h; chair = k; place = q; session = record c.session { serving = said } }

module _ (c : Context) (h : Desks) (k : Chair) (q : Place) (said : Option (List Event)) where
  pub words_on : (d : SetupData) (g : Globe) → 1 ≤ c.stage → c.stage ≤ 19 → IsWords d c g
      → IsWords d (moves_on c h k q said) (record g { session = Some (record c.session { serving = said }) })
  words_on d g a b w =
      record {
        some_bsp = w.some_bsp;
        no_bsp = w.no_bsp;
        bsp_before = w.bsp_before;
        bsp_taken = w.bsp_taken;
        bsp_free = w.bsp_free;
        leads = w.leads;
        inside_before = w.inside_before;
        inside = w.inside;
        inside_after = w.inside_after;
        insync_before = w.insync_before;
        insync = w.insync;
        insync_after = w.insync_after;
        chair_before = λ z. absurd (omega (arith, z, a));
        chair = w.chair;
        chair_after = λ z. absurd (omega (arith, z, b));
        source = w.source;
        except = w.except;
        no_session = λ z. absurd (omega (arith, z, a));
        session = λ _. refl;
      }

  pub session_on : (mode : ℕ) → begins_from mode < c.stage → IsSession mode c → IsSession mode (moves_on c h k q said)
  session_on mode late n =
      record { bsp = n.bsp; unserved = n.unserved; served = n.served; ungathered = n.ungathered; gathered = n.gathered; unready = n.unready; fresh = n.fresh; expired = n.expired; waited = n.waited; unclosed = n.unclosed; closed = n.closed; unbegun = λ z. absurd (omega (arith, z, late)); undone = n.undone; done = n.done }

  pub totals_on : (counter run a b e : ℕ) → IsTotals c counter run a b e → IsTotals (moves_on c h k q said) counter run a b e
  totals_on counter run a b e y =
      record { counted = y.counted; counter_locked = y.counter_locked; peers = y.peers; run_open = y.run_open; run_reports = y.run_reports; run_reported = y.run_reported; run_answers = y.run_answers; run_answered = y.run_answered; run_ends = y.run_ends; run_ended = y.run_ended }

  pub cpu_on : (d : SetupData) (waves j : ℕ) (v : View) → desk_kept (moves_on c h k q said) j ≡ desk_kept c j → IsCpu d c waves j v → IsCpu d (moves_on c h k q said) waves j v
  cpu_on d waves j v same e =
      let g = e.team in
      record {
        self = subst (λ (o : Option Desk). IsSelf d waves o v) (sym same) e.self;
        team = record { team_open = g.team_open; departed_open = g.departed_open; team = g.team; unreleased = g.unreleased; idle_early = g.idle_early; idle_mid = g.idle_mid; idle_after = g.idle_after; unclaimed = g.unclaimed; claimed_so_far = g.claimed_so_far; claimed = g.claimed };
        leader = e.leader;
        peer = λ z. let p = e.peer z in record { station = p.station; walking = p.walking; knows = p.knows; gone = p.gone; listed = p.listed; released_so_far = p.released_so_far; released_no_more = p.released_no_more; released = p.released; told = p.told; answered = p.answered; ended = p.ended };
      }

  pub run_on : (j : ℕ) (v : View) (run : ℕ) → IsRunOf c j v run → IsRunOf (moves_on c h k q said) j v run
  run_on j v run r = record { upto = r.upto; lent = r.lent; so_far = r.so_far; no_more = r.no_more; late = r.late }

  pub idle_on : (d : SetupData) (j : ℕ) (t : Seat) → 1 ≤ c.stage → (g : Globe) → IsWords d c g → j ≢ c.bsp → IsIdle d c j t → IsIdle d (moves_on c h k q said) j t
  idle_on d j t a g w n i = record { size = i.size; held = i.held; chair = i.chair ∙ home_same d.policy c.bsp j c.chair k (w.leads a) n }

  pub sized_on : (d : SetupData) (z : Sizes) → length h ≡ d.processors → IsSized d c z → IsSized d (moves_on c h k q said) z
  sized_on d z e y =
      record { seats = y.seats; pend = y.pend; present = y.present; run = y.run; busy = y.busy; on_present = y.on_present; on_run = y.on_run; on_busy = y.on_busy; members = y.members; held = λ _. e }

-- WHAT THE BSP SEES OF THE OTHERS

not_here : (r : Station) → here_of r ≡ 0 → is_here (phase_of r) ≡ false
not_here AwaitingSmi h = refl
not_here SwitchingOff h = refl
not_here LookingAtSource h = refl
not_here LookingInside h = refl
not_here CountingIn h = refl
not_here ClaimingChair h = refl
not_here AskingForChair h = refl
not_here Leading h = refl
not_here AwaitingInside h = refl
not_here FindingBsp h = refl
not_here SignallingBsp h = refl
not_here AwaitingInsideAgain h = refl
not_here CountingOut h = refl
not_here SeekingBsp h = refl
not_here Reporting h = refl
not_here TellingReport h = absurd (omega (arith, h))
not_here AwaitingRelease h = absurd (omega (arith, h))
not_here GivingBack h = absurd (omega (arith, h))
not_here TellingRelease h = absurd (omega (arith, h))
not_here AwaitingDismissal h = absurd (omega (arith, h))
not_here Withdrawing h = absurd (omega (arith, h))
not_here TellingDismissal h = refl
not_here AwaitingEnd h = refl
not_here ClearingSignal h = refl
not_here Away h = refl

pub held_some : (o : Option Desk) → is_some o ≡ true → o ≡ None → ⊥
held_some o h e = let u = sym h ∙ ap (λ (x : Option Desk). is_some x) e in cc

held_none : (o : Option Desk) (x : Desk) → is_some o ≡ false → o ≡ Some x → ⊥
held_none o x h e = let u = sym h ∙ ap (λ (x : Option Desk). is_some x) e in cc

-- the desk that the BSP holds of another processor
pub kept_is : (c : Context) (x : ℕ) → x ≢ c.bsp → desk_kept c x ≡ get_or c.held x None
kept_is c x n = rw (ne_eqb x c.bsp n) refl

pub seen_of : (d : SetupData) (c : Context) (k : ℕ) (s : Scene) (m : Machine) → k ≤ 14 → IsReady d (at_stage c k 0) s m → (x : ℕ) → x < d.processors → x ≢ c.bsp
    → IsSeen d c m (get_or s.words.present x 0) (get_or s.words.busy x 0) x
seen_of d c k s m low f x l n =
    let e = f.each x l in
    let v : View = view s m x in
    let un : v.released ≡ 0 = e.team.unreleased low in
    let kept : desk_kept c x ≡ get_or c.held x None = kept_is c x n in
    let idle_of : is_held c.held x ≡ true → v.work ≡ 0 =
    (λ h. ⊎_elim (λ (z : v.work ≡ 0). z) (λ (z : v.work ≢ 0). absurd (held_some (get_or c.held x None) (sym (held_is c.held x) ∙ h) (sym kept ∙ e.self.lent (omega (arith, z))))) (cases_eq v.work 0)) in
    record {
      held_idle = λ h. job_none (member m x).job (idle_of h);
      held_here = λ h.
          let two : v.present ≡ 2 = ⊎_elim (λ (z : v.present ≡ 2). z) (λ (z : v.present ≢ 2). absurd (held_some (get_or c.held x None) (sym (held_is c.held x) ∙ h) (sym kept ∙ e.self.not_held z))) (cases_eq v.present 2) in
          let here : here_of v.station ≡ 1 =
          ⊎_elim (λ (z : here_of v.station ≡ 1). z) (λ (z : here_of v.station ≢ 1). absurd (let a = e.self.absent (let b = here_of-le v.station in omega (arith, b, z)) in omega (arith, a, two))) (cases_eq (here_of v.station) 1) in
          ap is_here (e.self.phase ∙ stations.is_here v.station here);
      away = λ h j p.
          let none : v.work ≡ 0 = ap work_of j in
          let gone : here_of v.station ≡ 0 =
          ⊎_elim
          (λ (z : here_of v.station ≡ 0). z)
          (λ (z : here_of v.station ≢ 0).
          let here : here_of v.station ≡ 1 = (let b = here_of-le v.station in omega (arith, b, z)) in
          let some = e.self.there here in
          let most = e.self.present_le in
          let two : v.present ≡ 2 = omega (arith, some, most, p) in
          absurd (held_none (get_or c.held x None) _ (sym (held_is c.held x) ∙ h) (sym kept ∙ e.self.held two un none)))
          (cases_eq (here_of v.station) 0) in
          ap is_here e.self.phase ∙ not_here v.station gone;
      unrun = λ b z. b ((f.busies x l).ran z);
    }

-- THE NEXT NEED

pub place_at : (d : SetupData) (c : Context) (k : ℕ) (s : Scene) (m : Machine) → k ≡ serves_from (mode_of d) → 3 ≤ k → IsReady d (at_stage c k 0) s m → place_of d m ≡ c.place
place_at d c k s m at low f =
    ap (λ (o : Option Session). place_in d (first_serving d m) o) (f.words.session (omega (arith, low)))
    ∙ place_is d c.wave m.registrations m.pool c.place c.session.served c.session.serving (f.session.served low) (f.course.led (omega (arith, at)))

pub watched : (d : SetupData) (c : Context) (s : Scene) (m : Machine) → IsReady d (at_stage c (serves_at (is_relaxed d.mode)) 0) s m → GoesOn c.chair.course.place
    → IsSound (setting d c.bsp) (is_held c.held) c.chair.course.place.state → serving.seat c.place.state c.bsp ≡ serving.seat c.chair.course.place.state c.bsp → IsWatched d c s m
watched d c s m f more sound own =
    let b : Bool = is_relaxed d.mode in
    let low = serves_low b in
    let high = serves_high b in
    record {
      tied = tied d c (serves_at b) s m (serves_is b) f more own;
      sound = sound;
      seen = seen_of d c (serves_at b) s m (omega (arith, high)) f;
      place = place_at d c (serves_at b) s m (serves_is b) (omega (arith, low)) f;
    }

pub answers : (d : SetupData) (c : Context) (s : Scene) (m : Machine) → IsReady d (at_stage c (serves_at (is_relaxed d.mode)) 0) s m
    → IsSound (setting d c.bsp) (is_held c.held) c.chair.course.place.state → PlaceFits d c.chair.course.place
    → serving.seat c.place.state c.bsp ≡ serving.seat c.chair.course.place.state c.bsp → c.chair.told ≡ row_of (setting d c.bsp) c.held c.chair.course → IsAnswered d c s m
answers d c s m f sound fits own told =
    let p : Place = c.chair.course.place in
    record {
      ready = f;
      sound = sound;
      fits = fits;
      own = own;
      row =
          ⊎_elim
          (λ (more : GoesOn p). row_fits d c s m (watched d c s m f more sound own) fits)
          (λ (over : GoesOn p → ⊥).
          let end = no_need (row_of (setting d c.bsp) c.held c.chair.course) (need_of_row (setting d c.bsp) c.held c.chair.course ∙ (finished (setting d c.bsp) c.held c.chair.course).1 over) in
          subst (RowFits d c s m) (sym end) tt)
          (more_or_over p.kinds p.walks p.begun);
      told = told;
    }

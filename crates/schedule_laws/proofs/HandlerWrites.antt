-- The row at which the server writes a register into the image on a desk that is held: another processor's, or its own.
use Rattle.std.proofs.Common.{ℕ, ◌≡◌, ◌≢◌, ◌<◌, ◌≤◌, arith, Bool, true, List, length, get_or, slice_set, Option, Some, None, refl, sym, ap, subst, ⊎_elim, ◌∙◌}
use Rattle.std.specs.Prelude.{◌==◌, if◌then◌else◌, is_some, IsSomeAnd, option_map}
use Rattle.std.proofs.lemmas.Bool.{cases_eq, eq-eqb}
use Rattle.std.proofs.lemmas.List.{get_or-set_other, get_or-set_same, length-set, set-set}
use Rattle.smm_base.specs.Register.{register_number}
use Rattle.save_state_map.specs.Images.{ImageContents}
use Rattle.cpu_table.specs.Data.{SetupData}
use Rattle.sync_words.specs.declared.label.Label.{Label}
use Rattle.handler_ops.specs.declared.desk.Desk.{Desk}
use Rattle.handler_ops.specs.declared.row.Row.{Row}
use Rattle.handler_ops.specs.declared.row.Row.TheVariants as told
use Rattle.serving_place.specs.declared.seat.Seat.{Seat as JobSeat}
use Rattle.serving_place.specs.Serving.{HasOpen}
use Rattle.serving_place.specs.Operations.{register_of}
use Rattle.serving_place.specs.Forms.{Event, Own}
use Rattle.serving_place.specs.Beginning.{program_of}
use Rattle.serving_place.specs.Places.{Place, Accepts, next}
use Rattle.handler_ops.specs.Course.{Desks, desk_of, has_job, image_in, is_held, low_bytes, write_of}
use Rattle.handler_ops.specs.Conditions.{IsSound}
use Rattle.handler_ops.specs.Sessions.{Session as Chair}
use Rattle.handler_ops.specs.Told.{write_at_hand}
use Rattle.handler_ops.specs.Answering.{written_on, written as with_written}
use Rattle.handler_ops.proofs.Dues.{held_is}
use Rattle.cpu_program.specs.Actors.{Actor, OfProcessor}
use Rattle.cpu_program.specs.Processors.{is_relaxed}
use Rattle.rendezvous_machine.specs.Machines.{Machine, Member, Session, member, nobody}
use Rattle.rendezvous_machine.specs.Listed.{CanSay, grown}
use Rattle.rendezvous_machine.specs.Rules.{Rule}
use Rattle.rendezvous_machine.specs.Effects.{effect, says, saying, with_member}
use Rattle.rendezvous_machine.specs.Services.{setting, Target, WriteShows, Writes, written}
use Rattle.rendezvous_machine.proofs.ImageKinds.{write_kind}
use Rattle.rendezvous_laws.proofs.Places.{sound_with}
use Rattle.rendezvous_laws.proofs.Writes.{register_known, written_is}
use Rattle.schedule_laws.proofs.Scenes.{Scene, Seat, seat, no_seat, actors_of, processor_of, seat_put}
use Rattle.schedule_laws.proofs.Stations.{station_of, here_of, here_of-le, out_of, job_of, work_of, low}
use Rattle.schedule_laws.proofs.Leads.{serves_at}
use Rattle.schedule_laws.proofs.Invariant.{Context, View, IsReady, IsSelf, IsCpu, IsTotals, IsRunOf, IsJobOf, IsIdle, IsFine, begins_from, desk_at, desk_kept, globe, members_in, mode_of, raised_in, seat_view, sizes, team_in, view, view_of, with_done}
use Rattle.schedule_laws.proofs.Frames.{busies_more, jobs_more, mode_le, signals_more}
use Rattle.schedule_laws.proofs.LeadFrames.{at_stage}
use Rattle.schedule_laws.proofs.SessionFrames.{bsp_says, session_map}
use Rattle.schedule_laws.proofs.HandlerSteps.{seat_in}
use Rattle.schedule_laws.proofs.HandlerPlaces.{IsNext, next_both, alike, tied, serves_is, can_say, led_on}
use Rattle.schedule_laws.proofs.HandlerRows.{IsWatched}
use Rattle.schedule_laws.proofs.HandlerLandings.{IsAnswered, next_told, serves_low, serves_high}
use Rattle.schedule_laws.proofs.HandlerFrames.{moves_on, words_on, session_on, totals_on, cpu_on, idle_on, sized_on, seen_of, held_some, kept_is, watched, answers}
use Rattle.schedule_laws.proofs.HandlerLooks.{IsTold, RowKept, accepted, chair_told, course_said, said_on, told_processor}
use Rattle.schedule_laws.proofs.HandlerReads.{hand_desk, hand_target, hand_agrees}
use Rattle.schedule_laws.proofs.HandlerRaises.{there_out}

-- THE VIEW OF ONE WHOSE IMAGE CHANGES

-- another processor without a job, whose desk the BSP holds
pub written_self : (d : SetupData) (waves : ℕ) (at : Option Desk) (v : View) (image : ImageContents) → image.kind ≡ d.kind → v.present ≡ 2 → v.released ≡ 0 → v.work ≡ 0
    → out_of v.station ≡ 1 → job_of v.station ≡ 0 → IsSelf d waves at v → IsSelf d waves (Some (desk_at image None)) (record v { image = image })
written_self d waves at v image kind present released work out job g =
    record {
      phase = g.phase;
      visits = g.visits;
      registers = g.registers;
      last = g.last;
      kind = kind;
      most = g.most;
      waiting = g.waiting;
      through = g.through;
      inside = g.inside;
      begun = g.begun;
      team_bit = g.team_bit;
      released_bit = g.released_bit;
      departed_bit = g.departed_bit;
      work_le = g.work_le;
      present_le = g.present_le;
      absent = g.absent;
      there = g.there;
      worker = g.worker;
      idle_away = g.idle_away;
      running = g.running;
      own = λ z _. absurd (omega (arith, z, out));
      own_job = λ z. absurd (omega (arith, z, job));
      own_out = g.own_out;
      on_present = λ z. absurd (omega (arith, z, present));
      off_present = g.off_present;
      on_run = λ z _. absurd (omega (arith, z, released));
      on_run_job = λ z _. absurd (omega (arith, z, work));
      off_run = g.off_run;
      off_run_own = g.off_run_own;
      held = λ _ _ _. refl;
      not_held = λ z. absurd (z present);
      given_back = λ z. absurd (omega (arith, z, released));
      lent = λ z. absurd (omega (arith, z, work));
    }

-- the BSP, which has its own desk
pub written_own : (d : SetupData) (waves : ℕ) (at : Option Desk) (v : View) (image : ImageContents) → image.kind ≡ d.kind → v.present ≡ 0 → v.released ≡ 0 → v.work ≡ 0
    → out_of v.station ≡ 0 → job_of v.station ≡ 0 → IsSelf d waves at v → IsSelf d waves None (record v { own = Some (desk_at image None); image = image })
written_own d waves at v image kind present released work out job g =
    record {
      phase = g.phase;
      visits = g.visits;
      registers = g.registers;
      last = g.last;
      kind = kind;
      most = g.most;
      waiting = g.waiting;
      through = g.through;
      inside = g.inside;
      begun = g.begun;
      team_bit = g.team_bit;
      released_bit = g.released_bit;
      departed_bit = g.departed_bit;
      work_le = g.work_le;
      present_le = g.present_le;
      absent = g.absent;
      there = g.there;
      worker = g.worker;
      idle_away = g.idle_away;
      running = g.running;
      own = λ _ _. refl;
      own_job = λ z. absurd (omega (arith, z, job));
      own_out = λ z. absurd (omega (arith, z, out));
      on_present = λ z. absurd (omega (arith, z, present));
      off_present = g.off_present;
      on_run = λ z _. absurd (omega (arith, z, released));
      on_run_job = λ z _. absurd (omega (arith, z, work));
      off_run = g.off_run;
      off_run_own = g.off_run_own;
      held = λ z. absurd (omega (arith, z, present));
      not_held = λ _. refl;
      given_back = λ _. refl;
      lent = λ _. refl;
    }

-- all else that is said of a processor says nothing of its image and its desk
pub written_cpu : (d : SetupData) (c : Context) (h : Desks) (k : Chair) (q : Place) (said : Option (List Event)) (waves j : ℕ) (v : View) (own : Option Desk) (image : ImageContents)
    → IsSelf d waves (desk_kept (moves_on c h k q said) j) (record v { own = own; image = image }) → IsCpu d c waves j v
    → IsCpu d (moves_on c h k q said) waves j (record v { own = own; image = image })
written_cpu d c h k q said waves j v own image self e =
    let g = e.team in
    record {
      self = self;
      team = record { team_open = g.team_open; departed_open = g.departed_open; team = g.team; unreleased = g.unreleased; idle_early = g.idle_early; idle_mid = g.idle_mid; idle_after = g.idle_after; unclaimed = g.unclaimed; claimed_so_far = g.claimed_so_far; claimed = g.claimed };
      leader = λ z. let l = e.leader z in record { station = l.station; released = l.released; departed = l.departed; work = l.work };
      peer = λ z. let p = e.peer z in record { station = p.station; walking = p.walking; knows = p.knows; gone = p.gone; listed = p.listed; released_so_far = p.released_so_far; released_no_more = p.released_no_more; released = p.released; told = p.told; answered = p.answered; ended = p.ended };
    }

-- one that is its former self but for the image, or but for the desks
member_by : (a b : Member) (image : ImageContents) → a ≡ record b { image = image } → a ≡ record b { image = a.image }
member_by a b image e = e ∙ ap (λ (i : ImageContents). record b { image = i }) (sym (ap (λ (y : Member). y.image) e))

seat_by : (a b : Seat) (held : Desks) → a ≡ record b { held = held } → a ≡ record b { held = a.held }
seat_by a b held e = e ∙ ap (λ (h : Desks). record b { held = h }) (sym (ap (λ (y : Seat). y.held) e))

module _ (d : SetupData) (c : Context) (s : Scene) (m : Machine) (t : Seat) (x reg width value : ℕ) (h : IsTold d c s m t (told.Writing x reg width value)) where
  -- WHAT IS WRITTEN

  abbrev stage : ℕ
  stage = serves_at (is_relaxed d.mode)

  abbrev before : Context
  before = at_stage c stage 0

  abbrev ready : IsReady d before s m
  ready = h.ready

  abbrev there : x < d.processors
  there = h.fits.0

  some : 1 ≤ stage
  some = let a = serves_low (is_relaxed d.mode) in omega (arith, a)

  early : stage ≤ 14
  early = let a = serves_high (is_relaxed d.mode) in omega (arith, a)

  leads_there : c.bsp < d.processors
  leads_there = ready.words.some_bsp some

  here : IsTold d c s m t c.chair.told
  here = subst (λ (r : Row). IsTold d c s m t r) (sym h.told) h

  abbrev image : ImageContents
  image = (write_of true (member m x).image reg width value).image

  abbrev desk : Desk
  desk = desk_at image None

  -- the desks with this one, the BSP's seat with these desks, and the machine's member with the image
  abbrev held : Desks
  held = with_written x reg width value c.held

  abbrev seated : Seat
  seated = record t { held = held }

  abbrev scene : Scene
  scene = record s { seats = slice_set s.seats c.bsp seated }

  abbrev mended : Member
  mended = record (member m x) { image = image }

  abbrev label : Label
  label = write_at_hand x reg width value c.held

  abbrev machine : Machine
  machine = record (with_member x mended m) { session = Some (says label c.session) }

  -- THE DESKS

  on_desk : desk_of c.held x ≡ Some (desk_at (member m x).image None)
  on_desk = hand_desk d c s m t x here there h.fits.1

  held_set : held ≡ slice_set c.held x (Some desk)
  held_set = ap (λ (o : Option Desk). slice_set c.held x (option_map (written_on reg width value) o)) on_desk

  held_size : length held ≡ d.processors
  held_size = ap (λ (hs : Desks). length hs) held_set ∙ length-set c.held x (Some desk) ∙ ready.sized.held some

  held_here : get_or held x None ≡ Some desk
  held_here =
      ap (λ (hs : Desks). get_or hs x None) held_set ∙ get_or-set_same c.held x (Some desk) None (let a = ready.sized.held some in let l = there in omega (arith, a, l))

  held_other : (j : ℕ) → j ≢ x → get_or held j None ≡ get_or c.held j None
  held_other j q = ap (λ (hs : Desks). get_or hs j None) held_set ∙ get_or-set_other c.held x j (Some desk) None q

  held_same : (j : ℕ) → is_held held j ≡ is_held c.held j
  held_same j =
      ⊎_elim
      (λ (q : j ≡ x).
      subst (λ (y : ℕ). is_held held y ≡ is_held c.held y) (sym q)
      (held_is held x ∙ ap (λ (o : Option Desk). is_some o) held_here ∙ sym (ap (λ (o : Option Desk). is_some o) on_desk) ∙ sym (held_is c.held x)))
      (λ (q : j ≢ x). held_is held j ∙ ap (λ (o : Option Desk). is_some o) (held_other j q) ∙ sym (held_is c.held j))
      (cases_eq j x)

  -- WHAT IS SEEN OF EACH PROCESSOR

  members_there : x < length m.members
  members_there = let a = ready.sized.members in let l = there in omega (arith, a, l)

  seats_there : c.bsp < length s.seats
  seats_there = let a = ready.sized.seats in let l = leads_there in omega (arith, a, l)

  member_here : member machine x ≡ mended
  member_here = get_or-set_same m.members x mended nobody members_there

  member_other : (j : ℕ) → j ≢ x → member machine j ≡ member m j
  member_other j q = get_or-set_other m.members x j mended nobody q

  seat_here : seat scene c.bsp ≡ seated
  seat_here = get_or-set_same s.seats c.bsp seated no_seat seats_there

  seat_other : (j : ℕ) → j ≢ c.bsp → seat scene j ≡ seat s j
  seat_other j q = get_or-set_other s.seats c.bsp j seated no_seat q

  member_is : (j : ℕ) → member machine j ≡ record (member m j) { image = (member machine j).image }
  member_is j =
      ⊎_elim
      (λ (q : j ≡ x). subst (λ (y : ℕ). member machine y ≡ record (member m y) { image = (member machine y).image }) (sym q) (member_by (member machine x) (member m x) image member_here))
      (λ (q : j ≢ x). member_by (member machine j) (member m j) (member m j).image (member_other j q))
      (cases_eq j x)

  seat_is : (j : ℕ) → seat scene j ≡ record (seat s j) { held = (seat scene j).held }
  seat_is j =
      ⊎_elim
      (λ (q : j ≡ c.bsp).
      subst (λ (y : ℕ). seat scene y ≡ record (seat s y) { held = (seat scene y).held }) (sym q)
      (seat_by (seat scene c.bsp) (seat s c.bsp) held (seat_here ∙ ap (λ (y : Seat). record y { held = held }) (sym h.leading.seat_is))))
      (λ (q : j ≢ c.bsp). seat_by (seat scene j) (seat s j) (seat s j).held (seat_other j q))
      (cases_eq j c.bsp)

  -- its own desk and its image alone change
  abbrev seen : ℕ → View
  seen j = record (view s m j) { own = get_or (seat scene j).held j None; image = (member machine j).image }

  abbrev view_by : ℕ → Seat → Member → View
  view_by j a b = view_of (seat_view (station_of a.position) j a) (get_or s.words.present j 0) (get_or s.lying.present j None) (get_or s.lying.run j None) b

  seen_is : (j : ℕ) → view scene machine j ≡ seen j
  seen_is j = λ i. view_by j (seat_is j i) (member_is j i)

  views : view scene machine ≡ seen
  views = λ i j. seen_is j i

  own_here : get_or (seat scene c.bsp).held c.bsp None ≡ get_or held c.bsp None
  own_here = ap (λ (y : Seat). get_or y.held c.bsp None) seat_here

  own_other : (j : ℕ) → j ≢ x → get_or (seat scene j).held j None ≡ get_or (seat s j).held j None
  own_other j n =
      ⊎_elim
      (λ (q : j ≡ c.bsp).
      subst (λ (y : ℕ). get_or (seat scene y).held y None ≡ get_or (seat s y).held y None) (sym q)
      (own_here ∙ held_other c.bsp (λ z. n (q ∙ z)) ∙ h.own ∙ ap (λ (y : Seat). get_or y.held c.bsp None) (sym h.leading.seat_is)))
      (λ (q : j ≢ c.bsp). ap (λ (y : Seat). get_or y.held j None) (seat_other j q))
      (cases_eq j c.bsp)

  unseen : (j : ℕ) → j ≢ x → seen j ≡ view s m j
  unseen j q =
      let own = own_other j q in
      let same = ap (λ (y : Member). y.image) (member_other j q) in λ i. record (view s m j) { own = own i; image = same i }

  image_here : (member machine x).image ≡ image
  image_here = ap (λ (y : Member). y.image) member_here

  kind : image.kind ≡ d.kind
  kind = write_kind (member m x).image true reg (low_bytes width value) ∙ (ready.each x there).self.kind

  -- THE LABEL

  place : IsWatched d c s m
  place = watched d c s m ready h.serving.goes_on h.serving.sound h.serving.own

  takes : Accepts (program_of d) c.chair.course.place (Own label)
  takes = accepted d c (told.Writing x reg width value) s.words.inside c.held label h.serving h.told refl

  both : IsNext d label c.chair.course.place c.place
  both =
      let y = place.tied in
      next_both d ready.platform.handlers c.chair.course.place c.place label y.same (alike d c m y) y.size (hand_agrees d c s m x place h.fits.1) h.serving.fits takes

  same_image : image_in (desk_of c.held x) ≡ (member m x).image
  same_image = ap image_in on_desk

  shows : Writes d m c.bsp x (register_of reg) width value (write_of true (image_in (desk_of c.held x)) reg width value).status
  shows =
      let old : ImageContents = (member m x).image in
      subst (λ (k : Target). WriteShows k (λ present. write_of present old (register_number (register_of reg)) width value) (write_of true (image_in (desk_of c.held x)) reg width value).status)
      (sym (hand_target d c s m t x here place there h.fits.1))
      (ap (λ (i : ImageContents). (write_of true i reg width value).status) same_image ∙ ap (λ (n : ℕ). (write_of true old n width value).status) (sym (register_known reg h.fits.2)))

  may : Rule d m c.bsp label
  may =
      let can : CanSay d m label c.session =
      can_say d c.wave m.registrations m.pool c.place c.session.served c.session.serving label (ready.session.served (let a = serves_low (is_relaxed d.mode) in omega (arith, a)))
      (ready.course.led (let a = serves_is (is_relaxed d.mode) in omega (arith, a))) both.accepts in
      (bsp_says d before s m (CanSay d m label) ready some can, shows)

  after : effect d m c.bsp label ≡ machine
  after =
      let old : ImageContents = (member m x).image in
      let image_is : written (write_of true (image_in (desk_of c.held x)) reg width value).status (register_of reg) width value old ≡ image =
      ap (λ (i : ImageContents). written (write_of true i reg width value).status (register_of reg) width value old) same_image
      ∙ written_is reg width value (register_of reg) old (register_known reg h.fits.2) in
      ap (λ (i : ImageContents). saying label (with_member x (record (member m x) { image = i }) m)) image_is
      ∙ ap (λ (o : Option Session). record (with_member x mended m) { session = o }) (session_map m.session c.session (says label) (ready.words.session some))

  -- THE CONTEXT AFTER IT

  abbrev said : Context
  said = said_on d c held label

  abbrev later : Context
  later = at_stage said stage 0

  abbrev chair : Chair
  chair = chair_told d c held (course_said d c label)

  abbrev listed : Place
  listed = next (program_of d) c.place (Own label)

  abbrev events : Option (List Event)
  events = grown (Own label) c.session.serving

  -- another processor, whose desk is held
  peer_self : x ≢ c.bsp → IsSelf d m.waves (desk_kept later x) (seen x)
  peer_self n =
      let v : View = view s m x in
      let e = ready.each x there in
      let is_there : is_held c.held x ≡ true = ⊎_elim (λ (z : x ≡ c.bsp). absurd (n z)) (λ (z : is_held c.held x ≡ true). z) h.fits.1 in
      let none : v.work ≡ 0 = ap work_of ((seen_of d c stage s m early ready x there n).held_idle is_there) in
      let two : v.present ≡ 2 =
      ⊎_elim (λ (z : v.present ≡ 2). z) (λ (z : v.present ≢ 2). absurd (held_some (get_or c.held x None) (sym (held_is c.held x) ∙ is_there) (sym (kept_is c x n) ∙ e.self.not_held z))) (cases_eq v.present 2) in
      let un : v.released ≡ 0 = e.team.unreleased early in
      let arrived : here_of v.station ≡ 1 =
      ⊎_elim (λ (z : here_of v.station ≡ 1). z) (λ (z : here_of v.station ≢ 1). absurd (let b = here_of-le v.station in let a = e.self.absent (omega (arith, b, z)) in omega (arith, a, two))) (cases_eq (here_of v.station) 1) in
      let lowered : low v.departed v.station ≡ 0 =
      (let a = (ready.runs x there n).upto (let o = early in omega (arith, o)) (λ z. omega (arith, z, none)) in omega (arith, a, un)) in
      let out = there_out v.departed v.station arrived lowered in
      let kept : desk_kept later x ≡ Some desk = kept_is later x n ∙ held_here in
      let own : get_or (seat scene x).held x None ≡ v.own = ap (λ (y : Seat). get_or y.held x None) (seat_other x n) in
      let same = image_here in
      let is : seen x ≡ record v { image = image } = (λ i. record v { own = own i; image = same i }) in
      subst (IsSelf d m.waves (desk_kept later x)) (sym is)
      (subst (λ (o : Option Desk). IsSelf d m.waves o (record v { image = image })) (sym kept) (written_self d m.waves (desk_kept before x) v image kind two un none out.0 out.1 e.self))

  -- the BSP itself
  own_self : x ≡ c.bsp → IsSelf d m.waves (desk_kept later x) (seen x)
  own_self q =
      let v : View = view s m x in
      let e = ready.each x there in
      let leads = e.leader q in
      let kept : desk_kept later x ≡ None = simp (eq-eqb x c.bsp q) refl in
      let own : get_or (seat scene x).held x None ≡ Some desk =
      ap (λ (y : ℕ). get_or (seat scene y).held y None) q ∙ own_here ∙ ap (λ (y : ℕ). get_or held y None) (sym q) ∙ held_here in
      let same = image_here in
      let is : seen x ≡ record v { own = Some desk; image = image } = (λ i. record v { own = own i; image = same i }) in
      subst (IsSelf d m.waves (desk_kept later x)) (sym is)
      (subst (λ (o : Option Desk). IsSelf d m.waves o (record v { own = Some desk; image = image })) (sym kept)
      (written_own d m.waves (desk_kept before x) v image kind (e.self.absent (ap here_of leads.station)) leads.released leads.work (ap out_of leads.station) (ap job_of leads.station) e.self))

  here_cpu : IsCpu d later m.waves x (seen x)
  here_cpu =
      written_cpu d before held chair listed events m.waves x (view s m x) (get_or (seat scene x).held x None) (member machine x).image (⊎_elim own_self peer_self (cases_eq x c.bsp))
      (ready.each x there)

  each_cpu : (j : ℕ) → j < d.processors → IsCpu d later m.waves j (seen j)
  each_cpu j l =
      ⊎_elim
      (λ (q : j ≡ x). subst (λ (y : ℕ). IsCpu d later m.waves y (seen y)) (sym q) here_cpu)
      (λ (q : j ≢ x). subst (IsCpu d later m.waves j) (sym (unseen j q))
      (cpu_on before held chair listed events d m.waves j (view s m j) (ap (λ (o : Option Desk). if j == c.bsp then None else o) (held_other j q)) (ready.each j l)))
      (cases_eq j x)

  idle_here : work_of (member m x).job ≡ 0
  idle_here =
      ⊎_elim
      (λ (q : x ≡ c.bsp). ((ready.each x there).leader q).work)
      (λ (n : x ≢ c.bsp).
      let is_there : is_held c.held x ≡ true = ⊎_elim (λ (z : x ≡ c.bsp). absurd (n z)) (λ (z : is_held c.held x ≡ true). z) h.fits.1 in
      ap work_of ((seen_of d c stage s m early ready x there n).held_idle is_there))
      (cases_eq x c.bsp)

  each_job : (j : ℕ) → j < d.processors → j ≢ c.bsp → IsJobOf d later j (member m j).job
  each_job j l n =
      let g = ready.jobs j l n in
      let seats = both.seats in
      let back = ap (λ (qs : List JobSeat). has_job (seat_in qs j)) (sym seats.0) in
      record {
        procedure = g.procedure;
        free = λ y z. g.free y (back ∙ z);
        given = λ y z. subst (λ (qs : List JobSeat). IsSomeAnd (member m j).job (λ k. HasOpen (seat_in qs j) k.number)) (sym seats.0) (g.given y (back ∙ z));
        listed = λ y _. ap (λ (rs : List JobSeat). seat_in rs j) seats.1 ∙ g.listed y h.serving.goes_on ∙ ap (λ (qs : List JobSeat). with_done (member m j).job (seat_in qs j)) (sym seats.0);
      }

  written_ready : IsReady d later scene machine
  written_ready =
      let is = serves_is (is_relaxed d.mode) in
      let le = mode_le d in
      let few : stage ≤ 19 = (let a = early in omega (arith, a)) in
      let late : begins_from (mode_of d) < stage = omega (arith, is, le) in
      let z = ready.sized in
      record {
        platform = ready.platform;
        sized = sized_on before held chair listed events d (sizes scene machine) held_size
            (record { seats = length-set s.seats c.bsp seated ∙ z.seats; pend = z.pend; present = z.present; run = z.run; busy = z.busy; on_present = z.on_present; on_run = z.on_run; on_busy = z.on_busy; members = length-set m.members x mended ∙ z.members; held = z.held });
        words = words_on before held chair listed events d (globe s m) some few ready.words;
        session = session_on before held chair listed events (mode_of d) late ready.session;
        course = record {
          setup = refl;
          size = ap (λ (qs : List JobSeat). length qs) both.seats.0 ∙ ready.course.size;
          registered = λ y. absurd (omega (arith, y, late));
          pooled = λ y. absurd (omega (arith, y, late));
          me = λ _. refl;
          led = λ y. led_on d c.wave m.registrations m.pool c.place c.session.serving (Own label) (ready.course.led y) both.accepts;
          listed = λ _. both.listed;
          over = λ y. absurd (omega (arith, is, y));
        };
        chipset = ready.chipset;
        totals = subst (λ (V : ℕ → View). IsTotals later s.words.counter (get_or s.words.run c.bsp 0) (members_in d.processors V) (team_in d.processors V) (raised_in d.processors V)) (sym views)
            (totals_on before held chair listed events s.words.counter (get_or s.words.run c.bsp 0) _ _ _ ready.totals);
        each = λ j l. subst (λ (V : ℕ → View). IsCpu d later m.waves j (V j)) (sym views) (each_cpu j l);
        runs = λ j l n.
            let r = ready.runs j l n in
            subst (λ (V : ℕ → View). IsRunOf later j (V j) (get_or s.words.run j 0)) (sym views) (record { upto = r.upto; lent = r.lent; so_far = r.so_far; no_more = r.no_more; late = r.late });
        jobs = jobs_more d later m x mended members_there refl each_job;
        idle = λ j l n. subst (IsIdle d later j) (sym (seat_other j n)) (idle_on before held chair listed events d j (seat s j) some (globe s m) ready.words n (ready.idle j l n));
        signals = signals_more d m x mended s.words.pend members_there (omega arith) ready.signals;
        busies = busies_more d m x mended s members_there
            (λ b. record { lies = λ y. absurd (omega (arith, y, idle_here)); finished = b.finished; ran = b.ran }) ready.busies;
      }

  written_answered : IsAnswered d said scene machine
  written_answered =
      let same : is_held c.held ≡ is_held held = (λ i j. sym (held_same j) i) in
      answers d said scene machine written_ready
      (sound_with (setting d c.bsp) (is_held held) c.chair.course.place.state (course_said d c label).place.state both.seats.0
      (subst (λ (on : ℕ → Bool). IsSound (setting d c.bsp) on c.chair.course.place.state) same h.serving.sound))
      both.fits
      (ap (λ (rs : List JobSeat). seat_in rs c.bsp) both.seats.1 ∙ h.serving.own ∙ ap (λ (qs : List JobSeat). seat_in qs c.bsp) (sym both.seats.0))
      refl

  actors_are : (p : Actor) → slice_set (actors_of d scene) c.bsp p ≡ slice_set (actors_of d s) c.bsp p
  actors_are p =
      ap (λ (xs : List Actor). slice_set xs c.bsp p) (sym (seat_put d s c.bsp seated seats_there)) ∙ set-set (actors_of d s) c.bsp (processor_of d c.bsp seated) p

  pub writing : RowKept d c s m t (told.Writing x reg width value)
  writing =
      let lead = h.leading in
      let fine =
      next_told d said scene machine seated written_answered
      (record { seat_is = seat_here; leads = lead.leads; wave = lead.wave; blocked = lead.blocked; listed = lead.listed }) refl in (
        refl,
        may,
        subst (λ (n : Machine). IsFine d (record { words = s.words; lying = s.lying; actors = slice_set (actors_of d s) c.bsp (OfProcessor (told_processor d said t)) }) n) (sym after)
            (subst (λ (xs : List Actor). IsFine d (record { words = s.words; lying = s.lying; actors = xs }) machine) (actors_are (OfProcessor (told_processor d said t))) fine),
      )

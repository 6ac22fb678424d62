-- A job that was run is collected: its desk comes from the word `busy` to the BSP, and its processor has no job.
use Rattle.std.proofs.Common.{ℕ, ◌≡◌, ◌≢◌, ◌<◌, ◌≤◌, arith, List, length, get_or, slice_set, Option, Some, None, refl, sym, ap, subst, ⊎_elim, ◌∙◌}
use Rattle.std.specs.Prelude.{◌==◌, if◌then◌else◌}
use Rattle.std.proofs.lemmas.Bool.{cases_eq}
use Rattle.std.proofs.lemmas.List.{get_or-set_other, get_or-set_same, length-set}
use Rattle.smm_base.specs.declared.status.Status.{Status}
use Rattle.cpu_table.specs.Data.{SetupData}
use Rattle.handler_ops.specs.declared.desk.Desk.{Desk}
use Rattle.handler_ops.specs.declared.desk.Job.{Job}
use Rattle.handler_ops.specs.Course.{Desks}
use Rattle.serving_place.specs.Forms.{Event}
use Rattle.serving_place.specs.Places.{Place}
use Rattle.handler_ops.specs.Sessions.{Session as Chair}
use Rattle.cpu_program.specs.Processors.{is_relaxed}
use Rattle.rendezvous_machine.specs.Machines.{Machine, Member, member, nobody}
use Rattle.rendezvous_machine.specs.Effects.{with_job}
use Rattle.schedule_laws.proofs.Scenes.{Scene, seat}
use Rattle.schedule_laws.proofs.Stations.{member_of, made, work_of, work_done}
use Rattle.schedule_laws.proofs.Leads.{serves_at}
use Rattle.schedule_laws.proofs.Sums.{sum_below-same}
use Rattle.schedule_laws.proofs.Invariant.{Context, View, IsReady, IsCpu, IsSelf, IsRunOf, IsJobOf, IsCourse, IsTotals, begins_from, desk_at, desk_kept, mode_of, globe, sizes, view, members_in, team_in, raised_in}
use Rattle.schedule_laws.proofs.Frames.{mode_le, signals_more, busies_set}
use Rattle.schedule_laws.proofs.LeadFrames.{at_stage, totals_same}
use Rattle.schedule_laws.proofs.HandlerPlaces.{serves_is}
use Rattle.schedule_laws.proofs.HandlerLandings.{serves_low, serves_high}
use Rattle.schedule_laws.proofs.HandlerFrames.{moves_on, words_on, session_on, totals_on, cpu_on, run_on, idle_on, sized_on, kept_is}
use Rattle.schedule_laws.proofs.HandlerRaises.{collected_self}

-- A JOB THAT WAS RUN

pub record IsFinished (o : Option Job) : Type 0 where
  pub job : Job
  pub answer : ℕ × Status
  pub is : o ≡ Some (record job { done = Some answer })

pub finished_job : (o : Option Job) → work_of o ≡ 2 → IsFinished o
finished_job None h = absurd (omega (arith, h))
finished_job (Some job) h = by_done job.done refl h
  where
    by_done : (o : Option (ℕ × Status)) → job.done ≡ o → work_done o ≡ 2 → IsFinished (Some job)
    by_done None e k = absurd (omega (arith, k))
    by_done (Some answer) e k = record { job = job; answer = answer; is = ap (λ (y : Option (ℕ × Status)). Some (record job { done = y })) e }

-- WHAT CHANGES

-- the desk as it was before the job was put on it, but for its image
abbrev pub held_back : Context → Machine → ℕ → Desks
held_back c m x = slice_set c.held x (Some (desk_at (member m x).image None))

abbrev pub scene_back : Scene → ℕ → Scene
scene_back s x = record s { words = record s.words { busy = slice_set s.words.busy x 0 }; lying = record s.lying { busy = slice_set s.lying.busy x None } }

-- the list is this one then
abbrev pub machine_back : Context → Machine → ℕ → Option (List Event) → Machine
machine_back c m x said = record (with_job x None m) { session = Some (record c.session { serving = said }) }

-- the state of serving, the machine's list and its place may be any
abbrev pub context_back : Context → Machine → ℕ → Chair → Place → Option (List Event) → Context
context_back c m x k q said = moves_on c (held_back c m x) k q said

module _ (d : SetupData) (c : Context) (s : Scene) (m : Machine) (x : ℕ) (k : Chair) (q : Place) (said : Option (List Event)) (f : IsReady d (at_stage c (serves_at (is_relaxed d.mode)) 0) s m) (there : x < d.processors) (busy : get_or s.words.busy x 0 ≡ 2) where
  abbrev stage : ℕ
  stage = serves_at (is_relaxed d.mode)

  abbrev held : Desks
  held = held_back c m x

  abbrev to : Context
  to = at_stage (context_back c m x k q said) stage 0

  abbrev scene : Scene
  scene = scene_back s x

  abbrev machine : Machine
  machine = machine_back c m x said

  abbrev old : View
  old = view s m x

  abbrev seen : View
  seen = record old { work = 0; job = None }

  -- the job was run, and its processor is another than the BSP
  ran : old.work ≡ 2
  ran = (f.busies x there).finished busy

  other : x ≢ c.bsp
  other = λ z. let idle = ((f.each x there).leader z).work in let two = ran in absurd (omega (arith, idle, two))

  unreleased : old.released ≡ 0
  unreleased = let high = serves_high (is_relaxed d.mode) in (f.each x there).team.unreleased (omega (arith, high))

  member_there : x < length m.members
  member_there = let a = f.sized.members in omega (arith, a, there)

  held_size : length c.held ≡ d.processors
  held_size = let low = serves_low (is_relaxed d.mode) in f.sized.held (omega (arith, low))

  held_other : (j : ℕ) → j ≢ x → get_or held j None ≡ get_or c.held j None
  held_other j n = get_or-set_other c.held x j (Some (desk_at (member m x).image None)) None n

  held_here : get_or held x None ≡ Some (desk_at (member m x).image None)
  held_here = get_or-set_same c.held x (Some (desk_at (member m x).image None)) None (let a = held_size in omega (arith, a, there))

  seen_is : view scene machine x ≡ seen
  seen_is = rw (get_or-set_same m.members x (record (member m x) { job = None }) nobody member_there) refl

  other_is : (j : ℕ) → j ≢ x → view scene machine j ≡ view s m j
  other_is j n = rw (get_or-set_other m.members x j (record (member m x) { job = None }) nobody n) refl

  -- a number that a job isn't part of
  same : (F : View → ℕ) → F seen ≡ F old → (j : ℕ) → F (view scene machine j) ≡ F (view s m j)
  same F e j =
      ⊎_elim
      (λ (z : j ≡ x). subst (λ (y : ℕ). F (view scene machine y) ≡ F (view s m y)) (sym z) (ap F seen_is ∙ e))
      (λ (z : j ≢ x). ap F (other_is j z))
      (cases_eq j x)

  cpu_back : IsCpu d to m.waves x seen
  cpu_back =
      let e = f.each x there in
      let g = e.team in
      let two = ran in
      let at : desk_kept to x ≡ Some (desk_at (member m x).image None) = kept_is to x other ∙ held_here in
      record {
        self = subst (λ (o : Option Desk). IsSelf d m.waves o seen) (sym at) (collected_self d m.waves (desk_kept c x) old ran (e.self.worker (omega (arith, two))) unreleased e.self);
        team = record { team_open = g.team_open; departed_open = g.departed_open; team = g.team; unreleased = g.unreleased; idle_early = λ _. refl; idle_mid = λ _ _. refl; idle_after = λ _. refl; unclaimed = g.unclaimed; claimed_so_far = g.claimed_so_far; claimed = g.claimed };
        leader = λ z. absurd (other z);
        peer = λ z. let p = e.peer z in record { station = p.station; walking = p.walking; knows = p.knows; gone = p.gone; listed = p.listed; released_so_far = p.released_so_far; released_no_more = p.released_no_more; released = p.released; told = p.told; answered = p.answered; ended = p.ended };
      }

  run_back : IsRunOf to x seen (get_or s.words.run x 0)
  run_back =
      let r = f.runs x there other in
      let two = ran in
      record { upto = λ z _. r.upto z (λ u. omega (arith, u, two)); lent = λ z. absurd (omega (arith, z)); so_far = r.so_far; no_more = r.no_more; late = r.late }

  totals_back : IsTotals to s.words.counter (get_or s.words.run c.bsp 0) (members_in d.processors (view scene machine)) (team_in d.processors (view scene machine)) (raised_in d.processors (view scene machine))
  totals_back =
      let n : ℕ = d.processors in
      let V : ℕ → View = view s m in
      let V' : ℕ → View = view scene machine in
      let c1 : Context = at_stage c stage 0 in
      totals_on c1 held k q said s.words.counter (get_or s.words.run c.bsp 0) (members_in n V') (team_in n V') (raised_in n V')
      (totals_same c1 s.words.counter (get_or s.words.run c.bsp 0) (members_in n V) (team_in n V) (raised_in n V) (members_in n V') (team_in n V') (raised_in n V')
      (sum_below-same n (λ j. member_of (V' j).station) (λ j. member_of (V j).station) (λ j _. same (λ v. member_of v.station) refl j))
      (sum_below-same n (λ j. (V' j).team) (λ j. (V j).team) (λ j _. same (λ v. v.team) refl j))
      (sum_below-same n (λ j. made (V' j).departed (V' j).station) (λ j. made (V j).departed (V j).station) (λ j _. same (λ v. made v.departed v.station) refl j))
      f.totals)

  -- what holds then, where the state of serving and the jobs are as the machine has them
  pub ready_back : IsCourse d to m.registrations m.pool → ((j : ℕ) → j < d.processors → j ≢ c.bsp → IsJobOf d to j (member machine j).job) → IsReady d to scene machine
  ready_back course jobs =
      let c1 : Context = at_stage c stage 0 in
      let low = serves_low (is_relaxed d.mode) in
      let high = serves_high (is_relaxed d.mode) in
      let is = serves_is (is_relaxed d.mode) in
      let le = mode_le d in
      let some : 1 ≤ stage = omega (arith, low) in
      let few : stage ≤ 19 = omega (arith, high) in
      let late : begins_from (mode_of d) < stage = omega (arith, is, le) in
      let z = f.sized in
      let lb : x < length s.words.busy = (let a = z.busy in omega (arith, a, there)) in
      let lo : x < length s.lying.busy = (let a = z.on_busy in omega (arith, a, there)) in
      let new : Member = record (member m x) { job = None } in
      record {
        platform = f.platform;
        sized = sized_on c1 held k q said d (sizes scene machine) (length-set c.held x (Some (desk_at (member m x).image None)) ∙ held_size)
            (record { seats = z.seats; pend = z.pend; present = z.present; run = z.run; busy = length-set s.words.busy x 0 ∙ z.busy; on_present = z.on_present; on_run = z.on_run; on_busy = length-set s.lying.busy x None ∙ z.on_busy; members = length-set m.members x new ∙ z.members; held = z.held });
        words = words_on c1 held k q said d (globe s m) some few f.words;
        session = session_on c1 held k q said (mode_of d) late f.session;
        course = course;
        chipset = f.chipset;
        totals = totals_back;
        each = λ j n.
            ⊎_elim
            (λ (y : j ≡ x). subst (λ (i : ℕ). IsCpu d to m.waves i (view scene machine i)) (sym y) (subst (λ (v : View). IsCpu d to m.waves x v) (sym seen_is) cpu_back))
            (λ (y : j ≢ x). subst (λ (v : View). IsCpu d to m.waves j v) (sym (other_is j y))
            (cpu_on c1 held k q said d m.waves j (view s m j) (ap (λ (o : Option Desk). if j == c.bsp then None else o) (held_other j y)) (f.each j n)))
            (cases_eq j x);
        runs = λ j n b.
            ⊎_elim
            (λ (y : j ≡ x). subst (λ (i : ℕ). IsRunOf to i (view scene machine i) (get_or s.words.run i 0)) (sym y) (subst (λ (v : View). IsRunOf to x v (get_or s.words.run x 0)) (sym seen_is) run_back))
            (λ (y : j ≢ x). subst (λ (v : View). IsRunOf to j v (get_or s.words.run j 0)) (sym (other_is j y)) (run_on c1 held k q said j (view s m j) (get_or s.words.run j 0) (f.runs j n b)))
            (cases_eq j x);
        jobs = jobs;
        idle = λ j n b. idle_on c1 held k q said d j (seat s j) some (globe s m) f.words b (f.idle j n b);
        signals = signals_more d m x new s.words.pend member_there (omega arith) f.signals;
        busies = busies_set d m x 0 None new s (slice_set s.lying.busy x None) member_there lb (get_or-set_same s.lying.busy x None None lo) (λ j n. get_or-set_other s.lying.busy x j None None n)
            (record { lies = λ y. absurd (omega (arith, y)); finished = λ y. absurd (omega (arith, y)); ran = λ y. absurd (omega (arith, y)) })
            f.busies;
      }

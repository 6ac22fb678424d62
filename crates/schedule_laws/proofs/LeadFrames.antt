-- What stays where the BSP moves, and the session with it.
use Rattle.std.proofs.Common.{ℕ, ◌+◌, ◌-◌, ◌*◌, ◌≡◌, ◌≢◌, ◌<◌, ◌≤◌, arith, false, length, get_or, slice_set, Some, None, refl, sym, ap, subst, ⊎_elim, ◌∙◌}
use Rattle.std.proofs.lemmas.Bool.{cases_eq}
use Rattle.std.proofs.lemmas.List.{get_or-set_other, get_or-set_same, length-set}
use Rattle.cpu_table.specs.Data.{SetupData}
use Rattle.cpu_program.specs.Processors.{is_relaxed}
use Rattle.rendezvous_machine.specs.Machines.{Machine, member}
use Rattle.schedule_laws.proofs.Scenes.{Scene, Seat, Lead, MarkingInside, Position, Leading as LeadingAt, seat, no_seat}
use Rattle.schedule_laws.proofs.Stations.{Station, Leading, station_of, member_of, made}
use Rattle.schedule_laws.proofs.Leads.{stage_in, stage_some, next_of, is_traditional, part_of}
use Rattle.schedule_laws.proofs.Sums.{sum_below, sum_below-same, sum_below-two_gaps, sum_below-scale}
use Rattle.schedule_laws.proofs.Invariant.{Context, View, SeatView, IsCpu, IsTotals, IsReady, Holds, IsAim, IsLead, IsAt, IsRunOf, IsIdle, IsBeginning, IsServing, IsCollecting, chair_home, held_at, seat_view, view, view_of, members_in, team_in, raised_in, KeptAt}
use Rattle.schedule_laws.proofs.Frames.{own_at}

-- the context at another stage, with this number in its loop
abbrev pub at_stage : Context → ℕ → ℕ → Context
at_stage c k x = record c { stage = k; next = x }

pub totals_same : (c : Context) (counter run a b e a' b' e' : ℕ) → a' ≡ a → b' ≡ b → e' ≡ e → IsTotals c counter run a b e → IsTotals c counter run a' b' e'
totals_same c counter run a b e a' b' e' x y z h = rw (x, y, z) h

-- the BSP takes its next seat: the others see no change
pub takes_seat : (d : SetupData) (c : Context) (s : Scene) (m : Machine) (t t' : Seat) → IsReady d c s m → IsAim d c → 1 ≤ c.stage → seat s c.bsp ≡ t
    → station_of t.position ≡ Leading → station_of t'.position ≡ Leading → seat_view Leading c.bsp t' ≡ seat_view Leading c.bsp t
    → IsAt d c m.registrations m.pool t' → Holds d c (record s { seats = slice_set s.seats c.bsp t' }) m
takes_seat d c s m t t' f aim st e a b sv at =
    let n : ℕ = d.processors in
    let s' : Scene = record s { seats = slice_set s.seats c.bsp t' } in
    let l : c.bsp < length s.seats = rw f.sized.seats (f.words.some_bsp st) in
    let here : seat s' c.bsp ≡ t' = get_or-set_same s.seats c.bsp t' no_seat l in
    let V : ℕ → View = view s m in
    let V' : ℕ → View = view s' m in
    let see : SeatView → View = λ x. view_of x (get_or s.words.present c.bsp 0) (get_or s.lying.present c.bsp None) (get_or s.lying.run c.bsp None) (member m c.bsp) in
    let own : V' c.bsp ≡ V c.bsp =
    ap (λ (x : Seat). see (seat_view (station_of x.position) c.bsp x)) here
    ∙ ap (λ (r : Station). see (seat_view r c.bsp t')) b
    ∙ ap see sv
    ∙ ap (λ (r : Station). see (seat_view r c.bsp t)) (sym a)
    ∙ ap (λ (x : Seat). see (seat_view (station_of x.position) c.bsp x)) (sym e) in
    let same : (j : ℕ) → V' j ≡ V j =
    (λ j.
    ⊎_elim
    (λ (q : j ≡ c.bsp). subst (λ (y : ℕ). V' y ≡ V y) (sym q) own)
    (λ (q : j ≢ c.bsp). rw (get_or-set_other s.seats c.bsp j t' no_seat q) refl)
    (cases_eq j c.bsp)) in
    let z = f.sized in
    record {
      ready = record {
        platform = f.platform;
        sized = record { seats = length-set s.seats c.bsp t' ∙ z.seats; pend = z.pend; present = z.present; run = z.run; busy = z.busy; on_present = z.on_present; on_run = z.on_run; on_busy = z.on_busy; members = z.members; held = z.held };
        words = f.words;
        session = f.session;
        course = f.course;
        chipset = f.chipset;
        totals =
            totals_same c s.words.counter (get_or s.words.run c.bsp 0) (members_in n V) (team_in n V) (raised_in n V) (members_in n V') (team_in n V') (raised_in n V')
            (sum_below-same n (λ j. member_of (V' j).station) (λ j. member_of (V j).station) (λ j k. ap (λ (v : View). member_of v.station) (same j)))
            (sum_below-same n (λ j. (V' j).team) (λ j. (V j).team) (λ j k. ap (λ (v : View). v.team) (same j)))
            (sum_below-same n (λ j. made (V' j).departed (V' j).station) (λ j. made (V j).departed (V j).station) (λ j k. ap (λ (v : View). made v.departed v.station) (same j)))
            f.totals;
        each = λ j k. subst (λ (v : View). IsCpu d c m.waves j v) (sym (same j)) (f.each j k);
        runs = λ j k q. subst (λ (v : View). IsRunOf c j v (get_or s.words.run j 0)) (sym (same j)) (f.runs j k q);
        jobs = f.jobs;
        idle = λ j k q. subst (IsIdle d c j) (sym (get_or-set_other s.seats c.bsp j t' no_seat q)) (f.idle j k q);
        signals = f.signals;
        busies = f.busies;
      };
      aim = aim;
      at = λ _. subst (IsAt d c m.registrations m.pool) (sym here) at;
    }

-- a position that the BSP may come to, and what holds between its positions
pub record Reached (d : SetupData) (c : Context) (s : Scene) (m : Machine) (lead : Lead) : Type 0 where
  pub stage : ℕ
  pub next : ℕ
  pub ready : IsReady d (at_stage c stage next) s m
  pub aim : IsAim d (at_stage c stage next)
  pub is_stage : stage_in lead (is_relaxed d.mode) ≡ stage
  pub is_next : next_of lead ≡ next
  pub traditional : is_traditional lead ≡ 1 → is_relaxed d.mode ≡ false
  pub begins : part_of lead ≡ 1 → IsBeginning d (at_stage c stage next) m.registrations m.pool
  pub serves : part_of lead ≡ 2 → IsServing d (at_stage c stage next)
  pub collects : part_of lead ≡ 3 → IsCollecting d (at_stage c stage next)
  pub early : 20 ≤ stage → chair_home d.policy c.bsp c.chair ≡ Some c.chair

-- what the BSP's seat keeps at such a position, while it has the chair
pub record IsHolding (c : Context) (lead : Lead) (t : Seat) : Type 0 where
  pub wave : t.wave ≡ c.wave
  pub blocked : t.blocked ≡ c.blocked
  pub listed : t.listed ≡ c.listed
  pub held : t.held ≡ held_at lead c.chair c.held
  pub chair : t.chair ≡ Some c.chair

pub reaches : (d : SetupData) (c : Context) (s : Scene) (m : Machine) (t t' : Seat) (lead : Lead) → (r : Reached d c s m lead) → seat s c.bsp ≡ t
    → station_of t.position ≡ Leading → t'.position ≡ LeadingAt lead → seat_view Leading c.bsp t' ≡ seat_view Leading c.bsp t → IsHolding c lead t'
    → Holds d (at_stage c r.stage r.next) (record s { seats = slice_set s.seats c.bsp t' }) m
reaches d c s m t t' lead r e a b sv h =
    let is = r.is_stage in
    let some = stage_some lead (is_relaxed d.mode) in
    takes_seat d (at_stage c r.stage r.next) s m t t' r.ready r.aim (omega arith) e a (ap station_of b) sv
    (record {
      lead = lead;
      position = b;
      is = record { stage = r.is_stage; traditional = r.traditional; next = r.is_next; wave = h.wave; blocked = h.blocked; listed = h.listed; held = h.held; chair = λ _. h.chair; no_chair = λ z. h.chair ∙ sym (r.early z); begins = r.begins; serves = r.serves; collects = r.collects };
    })

-- A position of the BSP is one of the session's own, and the context is what its seat says.
ctx_is : (c : Context) (k x : ℕ) → c.stage ≡ k → c.next ≡ x → c ≡ at_stage c k x
ctx_is c k x a b = λ t. record { stage = a t; bsp = c.bsp; next = b t; peers = c.peers; wave = c.wave; blocked = c.blocked; held = c.held; listed = c.listed; chair = c.chair; place = c.place; session = c.session }

pub the_bsp : (d : SetupData) (c : Context) (i : ℕ) (s : Scene) (m : Machine) (t : Seat) (lead : Lead) → Holds d c s m → i < d.processors → seat s i ≡ t
    → t.position ≡ LeadingAt lead → i ≡ c.bsp
the_bsp d c i s m t lead f l e q =
    let own = own_at d c i s m t (LeadingAt lead) f l e q in
    ⊎_elim
    (λ (z : i ≡ c.bsp). z)
    (λ (z : i ≢ c.bsp). let x = (own.peer z).station in absurd (omega arith))
    (cases_eq i c.bsp)

abbrev lead_of : Position → Lead
lead_of (LeadingAt lead) = lead
lead_of _ = MarkingInside

-- its stage and loop are those of the position
pub lead_kept : (d : SetupData) (c : Context) (i : ℕ) (s : Scene) (m : Machine) (t : Seat) (lead : Lead) → Holds d c s m → i < d.processors → seat s i ≡ t
    → t.position ≡ LeadingAt lead
    → (Holds d (at_stage c (stage_in lead (is_relaxed d.mode)) (next_of lead)) s m → seat s c.bsp ≡ t
    → IsLead d (at_stage c (stage_in lead (is_relaxed d.mode)) (next_of lead)) m.registrations m.pool lead t → KeptAt d s m c.bsp t (LeadingAt lead))
    → KeptAt d s m i t (LeadingAt lead)
lead_kept d c i s m t lead f l e q turn =
    let k : i ≡ c.bsp = the_bsp d c i s m t lead f l e q in
    let few = f.ready.platform.few in
    let st : 1 ≤ c.stage = ⊎_elim (λ (z : c.stage ≡ 0). let y = f.ready.words.no_bsp z in absurd (omega arith)) (λ (z : c.stage ≢ 0). omega arith) (cases_eq c.stage 0) in
    let e' : seat s c.bsp ≡ t = ap (seat s) (sym k) ∙ e in
    let at : IsAt d c m.registrations m.pool t = subst (IsAt d c m.registrations m.pool) e' (f.at st) in
    let same : at.lead ≡ lead = ap lead_of (sym at.position ∙ q) in
    let h : IsLead d c m.registrations m.pool lead t = subst (λ (x : Lead). IsLead d c m.registrations m.pool x t) same at.is in
    let to : c ≡ at_stage c (stage_in lead (is_relaxed d.mode)) (next_of lead) = ctx_is c (stage_in lead (is_relaxed d.mode)) (next_of lead) (sym h.stage) (sym h.next) in
    subst (λ (x : ℕ). KeptAt d s m x t (LeadingAt lead)) (sym k)
    (turn (subst (λ (x : Context). Holds d x s m) to f) e' (subst (λ (x : Context). IsLead d x m.registrations m.pool lead t) to h))

-- WAITS

-- where the sum of what was raised is all that it can be, each AP of the closed set has raised all that it can: k times
pub all_made : (n i k : ℕ) (V : ℕ → View) → i < n → (V i).team ≡ 1 → made (V i).departed (V i).station ≡ 0
    → ((j : ℕ) → j < n → made (V j).departed (V j).station ≤ k * (V j).team) → k * team_in n V ≤ raised_in n V + k → (j : ℕ) → j < n → j ≢ i
    → k * (V j).team ≤ made (V j).departed (V j).station
all_made n i k V l t z le sum j g q =
    let F : ℕ → ℕ = λ j. made (V j).departed (V j).station in
    let G : ℕ → ℕ = λ j. k * (V j).team in
    let gaps : sum_below n F + G i + G j ≤ sum_below n G + F i + F j = sum_below-two_gaps n F G i j l g (λ y. q (sym y)) le in
    let scale : sum_below n G ≡ k * team_in n V = sum_below-scale n k (λ j. (V j).team) in
    let gi : G i ≡ k = ap (λ x. k * x) t ∙ (omega arith) in
    omega arith

-- What stays where an AP moves.
use Rattle.std.proofs.Common.{ℕ, ◌+◌, ◌-◌, ◌*◌, ◌%◌, ◌≡◌, ◌≢◌, ◌<◌, ◌≤◌, arith, Bool, true, false, List, length, get_or, slice_set, Option, None, refl, sym, ap, subst, ⊎_elim, ◌∙◌}
use Rattle.std.proofs.lemmas.Bool.{cases_eq}
use Rattle.std.proofs.lemmas.List.{get_or-set_other, get_or-set_same, length-set}
use Rattle.cpu_table.specs.Data.{SetupData}
use Rattle.handler_ops.specs.declared.desk.Desk.{Desk}
use Rattle.handler_ops.specs.declared.desk.Job.{Job}
use Rattle.cpu_program.specs.declared.cargo.Cargo.{Cargo}
use Rattle.cpu_program.specs.Actors.{Actor}
use Rattle.cpu_program.specs.Processors.{is_relaxed}
use Rattle.rendezvous_core.specs.Worlds.{Words, Lying}
use Rattle.rendezvous_machine.specs.Machines.{Machine, Member, member, nobody}
use Rattle.rendezvous_machine.specs.Effects.{with_member}
use Rattle.schedule_laws.proofs.Scenes.{Scene, Seat, Position, seat, no_seat, processor_of, actors_of, world_of, seat_put}
use Rattle.schedule_laws.proofs.Stations.{station_of, bit, is_bsp, member_of, made, made-le, member_of-le}
use Rattle.schedule_laws.proofs.Sums.{sum_below-change, sum_below-bound}
use Rattle.schedule_laws.proofs.Invariant.{Context, IsPlatform, IsSession, IsAim, View, IsCpu, IsTotals, IsWords, IsChipset, IsCourse, IsJobOf, IsSized, sizes, IsReady, Holds, IsFine, IsAt, IsRunOf, IsIdle, IsSignal, IsBusy, globe, mode_of, view, view_at, locked, members_in, team_in, raised_in}

-- THE WORLD AFTER A TURN

-- an actor that waits changes nothing
pub stays : (d : SetupData) (c : Context) (s : Scene) (m : Machine) → Holds d c s m → IsFine d (world_of d s) m
stays d c s m h = record { context = c; scene = s; world_is = refl; holds = h }

-- the processor i takes its next seat
pub seated : (d : SetupData) (c : Context) (s : Scene) (words : Words) (lying : Lying) (m : Machine) (i : ℕ) (t : Seat) → i < length s.seats
    → Holds d c (record s { words = words; lying = lying; seats = slice_set s.seats i t }) m
    → IsFine d (record { words = words; lying = lying; actors = slice_set (actors_of d s) i (processor_of d i t) }) m
seated d c s words lying m i t l h =
    record {
      context = c;
      scene = record s { words = words; lying = lying; seats = slice_set s.seats i t };
      world_is = ap (λ (xs : List Actor). record { words = words; lying = lying; actors = xs }) (sym (seat_put d s i t l));
      holds = h;
    }

pub bit-le : (b : Bool) → bit b ≤ 1
bit-le true = omega arith
bit-le false = omega arith

pub bit_true : (b : Bool) → bit b ≡ 1 → b ≡ true
bit_true true h = refl
bit_true false h = absurd (omega arith)

pub bit_false : (b : Bool) → bit b ≡ 0 → b ≡ false
bit_false true h = absurd (omega arith)
bit_false false h = refl

pub mode_le : (d : SetupData) → mode_of d ≤ 1
mode_le d = bit-le (is_relaxed d.mode)

-- SUMS

-- the terms of the sums at the one that moves, before and after
pub record IsDelta (c : Context) (counter run : ℕ) (v : View) (counter' run' : ℕ) (v' : View) : Type 0 where
  pub counted : c.stage ≤ 9 → counter' + member_of v.station ≡ counter + member_of v'.station
  pub locked : 10 ≤ c.stage → counter' ≡ counter
  pub team : v'.team ≡ v.team
  pub made : 1 ≤ c.stage → run' + made v.departed v.station ≡ run + made v'.departed v'.station

pub totals_move : (c : Context) (n i counter run : ℕ) (V : ℕ → View) (counter' run' : ℕ) (V' : ℕ → View)
    → IsTotals c counter run (members_in n V) (team_in n V) (raised_in n V) → i < n → ((j : ℕ) → j < n → j ≢ i → V' j ≡ V j)
    → IsDelta c counter run (V i) counter' run' (V' i) → IsTotals c counter' run' (members_in n V') (team_in n V') (raised_in n V')
totals_move c n i counter run V counter' run' V' h l e d =
    let members = sum_below-change n (λ j. member_of (V j).station) (λ j. member_of (V' j).station) i l (λ j k q. ap (λ (v : View). member_of v.station) (sym (e j k q))) in
    let mades = sum_below-change n (λ j. made (V j).departed (V j).station) (λ j. made (V' j).departed (V' j).station) i l (λ j k q. ap (λ (v : View). made v.departed v.station) (sym (e j k q))) in
    let teams = sum_below-change n (λ j. (V j).team) (λ j. (V' j).team) i l (λ j k q. ap (λ (v : View). v.team) (sym (e j k q))) in
    let a : ℕ = members_in n V in
    let a' : ℕ = members_in n V' in
    let t : ℕ = team_in n V in
    let t' : ℕ = team_in n V' in
    let x : ℕ = raised_in n V in
    let x' : ℕ = raised_in n V' in
    record {
      counted = λ z. omega (arith, h.counted z, d.counted z);
      counter_locked = λ z. omega (arith, h.counter_locked z, d.locked z);
      peers = λ z. omega (arith, h.peers z, d.team);
      run_open = λ z r. omega (arith, h.run_open z r, d.made z);
      run_reports = λ z. let g = h.run_reports z in let k = d.made (omega arith) in (g.0, g.1, omega arith);
      run_reported = λ z r. omega (arith, h.run_reported z r, d.made (omega arith));
      run_answers = λ z. let g = h.run_answers z in let k = d.made (omega arith) in (g.0, g.1, omega arith);
      run_answered = λ z. omega (arith, h.run_answered z, d.made (omega arith));
      run_ends = λ z. let g = h.run_ends z in let k = d.made (omega arith) in (g.0, g.1, omega arith);
      run_ended = λ z. omega (arith, h.run_ended z, d.made (omega arith));
    }

-- ONE AP MOVES

-- the processor i is an AP, with this seat and at this position
pub record IsMover (d : SetupData) (c : Context) (i : ℕ) (s : Scene) (m : Machine) (t : Seat) (at : Position) : Type 0 where
  pub holds : Holds d c s m
  pub there : i < d.processors
  pub other : i ≢ c.bsp
  pub seat_is : seat s i ≡ t
  pub position_is : t.position ≡ at

-- from the view v to v', with x on its word `run` then
pub record IsMove (d : SetupData) (c : Context) (i : ℕ) (s s' : Scene) (m m' : Machine) (v v' : View) (x : ℕ) : Type 0 where
  pub sized : IsSized d c (sizes s' m')
  pub words : IsWords d c (globe s' m')
  pub course : IsCourse d c m'.registrations m'.pool
  pub chipset : IsChipset d s'.watch m'.waves m'.excepted
  pub waves : m'.waves ≡ m.waves
  pub registered : m'.registrations ≡ m.registrations
  pub pooled : m'.pool ≡ m.pool
  pub old : view s m i ≡ v
  pub new : view s' m' i ≡ v'
  pub others : (j : ℕ) → j < d.processors → j ≢ i → view s' m' j ≡ view s m j
  pub seats : (j : ℕ) → j ≢ i → seat s' j ≡ seat s j
  pub runs : (j : ℕ) → j ≢ i → j ≢ c.bsp → get_or s'.words.run j 0 ≡ get_or s.words.run j 0
  pub own_run : get_or s'.words.run i 0 ≡ x
  pub jobs : (j : ℕ) → j < d.processors → j ≢ c.bsp → IsJobOf d c j (member m' j).job
  pub idle : IsIdle d c i (seat s' i)
  pub signals : (j : ℕ) → j < d.processors → IsSignal d m'.waves (member m' j).visits (get_or s'.words.pend j 0)
  pub busies : (j : ℕ) → j < d.processors → IsBusy (member m' j) (get_or s'.words.busy j 0) (get_or s'.lying.busy j None)

-- what a move of an AP leaves alone or changes at one processor
pub record IsAround (d : SetupData) (c : Context) (s : Scene) (m : Machine) : Type 0 where
  pub platform : IsPlatform d
  pub session : IsSession (mode_of d) c
  pub totals : IsTotals c s.words.counter (get_or s.words.run c.bsp 0) (members_in d.processors (view s m)) (team_in d.processors (view s m)) (raised_in d.processors (view s m))
  pub each : (j : ℕ) → j < d.processors → IsCpu d c m.waves j (view s m j)
  pub runs : (j : ℕ) → j < d.processors → j ≢ c.bsp → IsRunOf c j (view s m j) (get_or s.words.run j 0)
  pub idle : (j : ℕ) → j < d.processors → j ≢ c.bsp → IsIdle d c j (seat s j)
  pub aim : IsAim d c
  pub at : 1 ≤ c.stage → IsAt d c m.registrations m.pool (seat s c.bsp)

pub around : (d : SetupData) (c : Context) (s : Scene) (m : Machine) → Holds d c s m → IsAround d c s m
around d c s m f =
    let g = f.ready in
    record { platform = g.platform; session = g.session; totals = g.totals; each = g.each; runs = g.runs; idle = g.idle; aim = f.aim; at = f.at }

pub peers_move : (d : SetupData) (c : Context) (i : ℕ) (s s' : Scene) (m m' : Machine) (v v' : View) (x : ℕ) → IsAround d c s m → i < d.processors → i ≢ c.bsp
    → IsMove d c i s s' m m' v v' x → IsDelta c s.words.counter (get_or s.words.run c.bsp 0) v s'.words.counter (get_or s'.words.run c.bsp 0) v' → IsCpu d c m'.waves i v'
    → IsRunOf c i v' x → Holds d c s' m'
peers_move d c i s s' m m' v v' x g l nb t e own run =
    let delta : IsDelta c s.words.counter (get_or s.words.run c.bsp 0) (view s m i) s'.words.counter (get_or s'.words.run c.bsp 0) (view s' m' i) =
    subst (λ (y : View). IsDelta c s.words.counter (get_or s.words.run c.bsp 0) y s'.words.counter (get_or s'.words.run c.bsp 0) (view s' m' i)) (sym t.old)
    (subst (λ (y : View). IsDelta c s.words.counter (get_or s.words.run c.bsp 0) v s'.words.counter (get_or s'.words.run c.bsp 0) y) (sym t.new) e) in
    record {
      ready = record {
        platform = g.platform;
        sized = t.sized;
        words = t.words;
        session = g.session;
        course = t.course;
        chipset = t.chipset;
        totals = totals_move c d.processors i s.words.counter (get_or s.words.run c.bsp 0) (view s m) s'.words.counter (get_or s'.words.run c.bsp 0) (view s' m') g.totals l t.others delta;
        each = λ j k.
            ⊎_elim
            (λ (q : j ≡ i). subst (λ (y : ℕ). IsCpu d c m'.waves y (view s' m' y)) (sym q) (subst (λ (y : View). IsCpu d c m'.waves i y) (sym t.new) own))
            (λ (q : j ≢ i). subst (λ (y : View). IsCpu d c m'.waves j y) (sym (t.others j k q)) (subst (λ (y : ℕ). IsCpu d c y j (view s m j)) (sym t.waves) (g.each j k)))
            (cases_eq j i);
        runs = λ j k b.
            ⊎_elim
            (λ (q : j ≡ i). subst (λ (y : ℕ). IsRunOf c y (view s' m' y) (get_or s'.words.run y 0)) (sym q)
            (subst (λ (y : View). IsRunOf c i y (get_or s'.words.run i 0)) (sym t.new) (subst (λ (r : ℕ). IsRunOf c i v' r) (sym t.own_run) run)))
            (λ (q : j ≢ i).
            subst (λ (y : View). IsRunOf c j y (get_or s'.words.run j 0)) (sym (t.others j k q))
            (subst (λ (r : ℕ). IsRunOf c j (view s m j) r) (sym (t.runs j q b)) (g.runs j k b)))
            (cases_eq j i);
        jobs = t.jobs;
        idle = λ j k b.
            ⊎_elim
            (λ (q : j ≡ i). subst (λ (y : ℕ). IsIdle d c y (seat s' y)) (sym q) t.idle)
            (λ (q : j ≢ i). subst (IsIdle d c j) (sym (t.seats j q)) (g.idle j k b))
            (cases_eq j i);
        signals = t.signals;
        busies = t.busies;
      };
      aim = g.aim;
      at = λ z.
          let was : IsAt d c m.registrations m.pool (seat s' c.bsp) = subst (IsAt d c m.registrations m.pool) (sym (t.seats c.bsp (λ y. nb (sym y)))) (g.at z) in
          rw (t.registered, t.pooled) was;
    }

pub peer_moves : (d : SetupData) (c : Context) (i : ℕ) (s s' : Scene) (m m' : Machine) (v v' : View) (x : ℕ) → Holds d c s m → i < d.processors → i ≢ c.bsp
    → IsMove d c i s s' m m' v v' x → IsDelta c s.words.counter (get_or s.words.run c.bsp 0) v s'.words.counter (get_or s'.words.run c.bsp 0) v' → IsCpu d c m'.waves i v'
    → IsRunOf c i v' x → Holds d c s' m'
peer_moves d c i s s' m m' v v' x f l nb t e own run = peers_move d c i s s' m m' v v' x (around d c s m f) l nb t e own run

-- the view of one that moves
pub view_is : (s : Scene) (m : Machine) (i : ℕ) (t : Seat) (at : Position) → seat s i ≡ t → t.position ≡ at → view s m i ≡ view_at (station_of at) t s m i
view_is s m i t at e q = ap (λ (x : Seat). view_at (station_of x.position) x s m i) e ∙ ap (λ (x : Position). view_at (station_of x) t s m i) q

pub own_at : (d : SetupData) (c : Context) (i : ℕ) (s : Scene) (m : Machine) (t : Seat) (at : Position) → Holds d c s m → i < d.processors → seat s i ≡ t → t.position ≡ at
    → IsCpu d c m.waves i (view_at (station_of at) t s m i)
own_at d c i s m t at f l e q = subst (λ (x : View). IsCpu d c m.waves i x) (view_is s m i t at e q) (f.ready.each i l)

pub run_of : (d : SetupData) (c : Context) (i : ℕ) (s : Scene) (m : Machine) (t : Seat) (at : Position) → IsMover d c i s m t at
    → IsRunOf c i (view_at (station_of at) t s m i) (get_or s.words.run i 0)
run_of d c i s m t at h = subst (λ (x : View). IsRunOf c i x (get_or s.words.run i 0)) (view_is s m i t at h.seat_is h.position_is) (h.holds.ready.runs i h.there h.other)

-- a position of an AP isn't the BSP's
pub not_bsp : (d : SetupData) (c : Context) (waves i : ℕ) (v : View) → IsCpu d c waves i v → is_bsp v.station ≡ 0 → i ≢ c.bsp
not_bsp d c waves i v h z = λ q. let e = ap is_bsp ((h.leader q).station) in absurd (omega arith)

pub mover : (d : SetupData) (c : Context) (i : ℕ) (s : Scene) (m : Machine) (t : Seat) (at : Position) → is_bsp (station_of at) ≡ 0 → Holds d c s m → i < d.processors
    → seat s i ≡ t → t.position ≡ at → IsMover d c i s m t at
mover d c i s m t at z f l e q =
    record {
      holds = f;
      there = l;
      other = not_bsp d c m.waves i (view_at (station_of at) t s m i) (own_at d c i s m t at f l e q) z;
      seat_is = e;
      position_is = q;
    }

pub seat_set : (s : Scene) (i : ℕ) (t : Seat) → i < length s.seats → seat (record s { seats = slice_set s.seats i t }) i ≡ t
seat_set s i t l = get_or-set_same s.seats i t no_seat l

-- what an AP keeps of desks and of the chair
pub record IsKeeping (i : ℕ) (t t' : Seat) : Type 0 where
  pub size : length t'.held ≡ length t.held
  pub held : (k : ℕ) → k ≢ i → get_or t'.held k None ≡ get_or t.held k None
  pub chair : t'.chair ≡ t.chair

pub keeps_idle : (d : SetupData) (c : Context) (i : ℕ) (s : Scene) (m : Machine) (t t' : Seat) (at : Position) → IsMover d c i s m t at → IsKeeping i t t' → IsIdle d c i t'
keeps_idle d c i s m t t' at h k =
    let idle : IsIdle d c i t = subst (IsIdle d c i) h.seat_is (h.holds.ready.idle i h.there h.other) in
    record { size = k.size ∙ idle.size; held = λ j n. k.held j n ∙ idle.held j n; chair = k.chair ∙ idle.chair }

-- its own desk alone changes
pub keeps_own : (i : ℕ) (t : Seat) (o : Option Desk) (p : Position) → IsKeeping i t (record t { position = p; held = slice_set t.held i o })
keeps_own i t o p =
    record { size = length-set t.held i o; held = λ k n. get_or-set_other t.held i k o None n; chair = refl }

-- COMPONENTS

-- a signal is written
pub signal_set : (d : SetupData) (m : Machine) (waves t x : ℕ) (pend : List ℕ) → length pend ≡ d.processors
    → ((j : ℕ) → j < d.processors → IsSignal d waves (member m j).visits (get_or pend j 0)) → (t < d.processors → IsSignal d waves (member m t).visits x) → (j : ℕ)
    → j < d.processors → IsSignal d waves (member m j).visits (get_or (slice_set pend t x) j 0)
signal_set d m waves t x pend ll h z j k =
    ⊎_elim
    (λ (q : j ≡ t). subst (λ (y : ℕ). y < d.processors → IsSignal d waves (member m y).visits (get_or (slice_set pend t x) y 0)) (sym q)
    (λ lt. subst (λ (y : ℕ). IsSignal d waves (member m t).visits y) (sym (get_or-set_same pend t x 0 (rw ll lt))) (z lt)) k)
    (λ (q : j ≢ t). subst (λ (y : ℕ). IsSignal d waves (member m j).visits y) (sym (get_or-set_other pend t j x 0 q)) (h j k))
    (cases_eq j t)

-- a processor has made more visits
pub signals_more : (d : SetupData) (m : Machine) (i : ℕ) (x : Member) (pend : List ℕ) → i < length m.members → (member m i).visits ≤ x.visits
    → ((j : ℕ) → j < d.processors → IsSignal d m.waves (member m j).visits (get_or pend j 0)) → (j : ℕ) → j < d.processors
    → IsSignal d m.waves (member (with_member i x m) j).visits (get_or pend j 0)
signals_more d m i x pend lm ev h j k =
    let g = h j k in
    ⊎_elim
    (λ (q : j ≡ i).
    let e : (member (with_member i x m) j).visits ≡ x.visits = ap (λ (y : ℕ). (member (with_member i x m) y).visits) q ∙ ap (λ (y : Member). y.visits) (get_or-set_same m.members i x nobody lm) in
    let e' : (member m j).visits ≡ (member m i).visits = ap (λ (y : ℕ). (member m y).visits) q in
    record { some = g.some; off = λ a b. g.off a (omega arith) })
    (λ (q : j ≢ i). subst (λ (y : Member). IsSignal d m.waves y.visits (get_or pend j 0)) (sym (get_or-set_other m.members i j x nobody q)) g)
    (cases_eq j i)

-- a processor's member changes, and its word `busy` still fits
pub busies_more : (d : SetupData) (m : Machine) (i : ℕ) (x : Member) (s : Scene) → i < length m.members
    → (IsBusy (member m i) (get_or s.words.busy i 0) (get_or s.lying.busy i None) → IsBusy x (get_or s.words.busy i 0) (get_or s.lying.busy i None))
    → ((j : ℕ) → j < d.processors → IsBusy (member m j) (get_or s.words.busy j 0) (get_or s.lying.busy j None)) → (j : ℕ) → j < d.processors
    → IsBusy (member (with_member i x m) j) (get_or s.words.busy j 0) (get_or s.lying.busy j None)
busies_more d m i x s lm t h j k =
    ⊎_elim
    (λ (q : j ≡ i). subst (λ (y : ℕ). y < d.processors → IsBusy (member (with_member i x m) y) (get_or s.words.busy y 0) (get_or s.lying.busy y None)) (sym q)
    (λ l. subst (λ (y : Member). IsBusy y (get_or s.words.busy i 0) (get_or s.lying.busy i None)) (sym (get_or-set_same m.members i x nobody lm)) (t (h i l))) k)
    (λ (q : j ≢ i). subst (λ (y : Member). IsBusy y (get_or s.words.busy j 0) (get_or s.lying.busy j None)) (sym (get_or-set_other m.members i j x nobody q)) (h j k))
    (cases_eq j i)

-- a word `busy` and what lies on it change, and the member of its processor
pub busies_set : (d : SetupData) (m : Machine) (i y : ℕ) (o : Option Cargo) (x : Member) (s : Scene) (lies : List (Option Cargo)) → i < length m.members
    → i < length s.words.busy → get_or lies i None ≡ o → ((j : ℕ) → j ≢ i → get_or lies j None ≡ get_or s.lying.busy j None) → IsBusy x y o
    → ((j : ℕ) → j < d.processors → IsBusy (member m j) (get_or s.words.busy j 0) (get_or s.lying.busy j None)) → (j : ℕ) → j < d.processors
    → IsBusy (member (with_member i x m) j) (get_or (slice_set s.words.busy i y) j 0) (get_or lies j None)
busies_set d m i y o x s lies lm lb at off t h j k =
    ⊎_elim
    (λ (q : j ≡ i). subst (λ (u : ℕ). IsBusy (member (with_member i x m) u) (get_or (slice_set s.words.busy i y) u 0) (get_or lies u None)) (sym q)
    (rw (get_or-set_same m.members i x nobody lm, get_or-set_same s.words.busy i y 0 lb, at) t))
    (λ (q : j ≢ i). rw (get_or-set_other m.members i j x nobody q, get_or-set_other s.words.busy i j y 0 q, off j q) (h j k))
    (cases_eq j i)

-- a processor's member changes, and its job stays
pub jobs_more : (d : SetupData) (c : Context) (m : Machine) (i : ℕ) (x : Member) → i < length m.members → x.job ≡ (member m i).job
    → ((j : ℕ) → j < d.processors → j ≢ c.bsp → IsJobOf d c j (member m j).job) → (j : ℕ) → j < d.processors → j ≢ c.bsp → IsJobOf d c j (member (with_member i x m) j).job
jobs_more d c m i x lm e h j k b =
    ⊎_elim
    (λ (q : j ≡ i). subst (λ (y : ℕ). y < d.processors → y ≢ c.bsp → IsJobOf d c y (member (with_member i x m) y).job) (sym q)
    (λ l nb. subst (λ (o : Option Job). IsJobOf d c i o) (sym (ap (λ (y : Member). y.job) (get_or-set_same m.members i x nobody lm) ∙ e)) (h i l nb)) k b)
    (λ (q : j ≢ i). subst (λ (y : Member). IsJobOf d c j y.job) (sym (get_or-set_other m.members i j x nobody q)) (h j k b))
    (cases_eq j i)

-- WHAT THE BSP'S WORD AND THE COUNTER COUNT IS BELOW THEIR LIMIT

pub bsp_run_low : (d : SetupData) (c : Context) (s : Scene) (m : Machine) → IsReady d c s m → 1 ≤ c.stage → get_or s.words.run c.bsp 0 ≢ locked
bsp_run_low d c s m f z =
    let b : raised_in d.processors (view s m) ≤ 3 * d.processors = sum_below-bound d.processors 3 (λ j. made (view s m j).departed (view s m j).station) (λ j k. made-le (view s m j).departed (view s m j).station ((f.each j k).self.departed_bit)) in
    λ q.
    let h = f.totals in
    let k = f.platform.few in
    grind arith

pub counter_low : (d : SetupData) (c : Context) (s : Scene) (m : Machine) → IsReady d c s m → c.stage ≤ 9 → s.words.counter ≢ locked
counter_low d c s m f z =
    let b : members_in d.processors (view s m) ≤ 1 * d.processors = sum_below-bound d.processors 1 (λ j. member_of (view s m j).station) (λ j k. member_of-le (view s m j).station) in
    λ q.
    let h = f.totals.counted z in
    let k = f.platform.few in
    omega arith

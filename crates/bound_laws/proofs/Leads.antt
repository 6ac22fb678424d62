-- What an event of the BSP spends, but for its handlers.
use Rattle.std.proofs.Common.{ℕ, zero, suc, ◌+◌, ◌-◌, ◌*◌, ◌≡◌, ◌≢◌, ◌<◌, ◌≤◌, arith, Bool, true, false, List, [], ◌∷◌, get_or, slice_set, Option, Some, None, refl, sym, ap, subst, ⊎_elim, ◌∙◌}
use Rattle.std.specs.Prelude.{◌==◌, ◌&&◌, nat_le, if◌then◌else◌, option_map, unwrap_or}
use Rattle.std.proofs.lemmas.Bool.{cases_Bool, eqb-false, ne_eqb}
use Rattle.cpu_table.specs.Data.{SetupData}
use Rattle.cpu_table.specs.declared.setup.Mode.{Mode}
use Rattle.cpu_table.specs.declared.setup.Mode.TheVariants.{Traditional, Relaxed}
use Rattle.sync_words.specs.declared.access.Access.{Access}
use Rattle.sync_words.specs.declared.access.Access.TheVariants as access
use Rattle.sync_words.specs.declared.access.Applied.{Applied}
use Rattle.sync_words.specs.declared.access.Applied.TheVariants.{Changed, Same, NotReady}
use Rattle.sync_words.specs.declared.access.TheConstants.{LOCKED}
use Rattle.sync_words.specs.declared.event.Hand.TheVariants.{Nothing, Give, Take}
use Rattle.sync_words.specs.declared.event.Want.TheVariants as want
use Rattle.sync_words.specs.declared.label.Label.TheVariants as say
use Rattle.sync_words.specs.declared.row.Row.{Row}
use Rattle.sync_words.specs.declared.row.Row.TheVariants as row
use Rattle.sync_words.specs.declared.word.WordId.{WordId}
use Rattle.sync_words.specs.declared.word.WordId.TheVariants as word
use Rattle.sync_words.specs.Access.{applied}
use Rattle.sync_words.specs.Steps.{row_or, next_below}
use Rattle.arrival.specs.Gather as gather
use Rattle.exit_handshake.specs.Close as close
use Rattle.exit_handshake.specs.Exit as exit
use Rattle.handler_ops.specs.declared.desk.Desk.{Desk}
use Rattle.handler_ops.specs.declared.row.Row.{Row as ServerRow}
use Rattle.handler_ops.specs.declared.row.Row.TheVariants as told
use Rattle.handler_ops.specs.Course.{Desks}
use Rattle.handler_ops.specs.NextRow.{row_of}
use Rattle.handler_ops.specs.Answering.{told_on, taken_off}
use Rattle.handler_ops.specs.Told.{handed_as, with_job}
use Rattle.handler_ops.specs.Sessions.{Session as Chair, begun_session, setting_of}
use Rattle.cpu_program.specs.declared.cargo.Cargo.{Cargo}
use Rattle.cpu_program.specs.declared.cargo.Cargo.TheVariants as cargo
use Rattle.cpu_program.specs.declared.part.Part.TheVariants as part
use Rattle.cpu_program.specs.Actors.{Actor, OfProcessor, Processor}
use Rattle.cpu_program.specs.Programs.{taken, gift_of}
use Rattle.cpu_program.specs.Hands.{after_receiving, is_kind, desk_given, chair_given}
use Rattle.cpu_program.specs.Processors.{is_relaxed, is_elected, go_on, at_row, left_to, after_jobs, after_source, with_need, serve_on, begin_serving, begin_exit, owes_job, can_serve, desks_held}
use Rattle.rendezvous_core.specs.Worlds.{Lying, Turn, Moves, Waits, Rests, read, accesses, takes, gives, turn, turn_wanting}
use Rattle.schedule_laws.proofs.Loops.{Found, found_next, counted}
use Rattle.schedule_laws.proofs.Frames.{bit-le}
use Rattle.schedule_laws.proofs.Stations.{bit}
use Rattle.schedule_laws.proofs.Sums.{sum_below-same, sum_below-bound}
use Rattle.schedule_laws.proofs.Scenes.{Scene, Seat, Lead, MarkingInside, TakingSource, LookingAtExcept, GatheringFirst, FindingMissing, SignallingMissing, GatheringSecond, MarkingInsync, LockingCounter, AwaitingReports, TakingDesk, BeginningToServe, AtHandlers, Collecting, LeavingInside, Releasing, AwaitingReleased, Dismissing, AwaitingDismissed, GivingChair, LeavingInsync, UnlockingCounter, Leading, processor_at, gathering_at}
use Rattle.bound_laws.proofs.Energies.{IsPolled, RoundFits, part_round, spare, rank, energy, gives_of, part_gives, jobs_left, place_weight, jobs_weight, told_weight, vacant, vacancies, course_weight, serving_rank, serving_gives, serve_base, close_base, closing_gives, exiting_rank, waiting}
use Rattle.bound_laws.proofs.Peers.{given_is}
use Rattle.bound_laws.proofs.Places.{free_jobs}

-- WHAT AN EVENT OF THE BSP LEAVES

-- it has spent some of its energy, it gives no more jobs than before, and another processor that waits for a job has the less energy by
-- the job that was given
abbrev pub LeadMoved : SetupData → Scene → ℕ → Processor → Lying → Actor → Type 0
LeadMoved d s i p lying a =
    ((x x' : ℕ) → energy d x' a + 1 ≤ energy d x (OfProcessor p))
    × (gives_of d a ≤ gives_of d (OfProcessor p))
    × ((j : ℕ) → j < d.processors → j ≢ i → 2 * gives_of d a + waiting d (get_or lying.run j None) ≤ 2 * gives_of d (OfProcessor p) + waiting d (get_or s.lying.run j None))
    × RoundFits d a

abbrev pub LeadTurn : SetupData → Scene → ℕ → Processor → Turn → Type 0
LeadTurn d s i p (Moves e words lying a) = (e.actor ≡ i) × LeadMoved d s i p lying a
LeadTurn d s i p (Waits found) = Unit {0}
LeadTurn d s i p Rests = Unit {0}

-- a processor that has at most so much energy, may give at most so many jobs, and has begun so many visits
pub record Low (d : SetupData) (p : Processor) (most jobs visits : ℕ) : Type 0 where
  pub left : (x : ℕ) → rank d x p.part p.chair p.held ≤ most
  pub gives : part_gives d p.part p.chair ≤ jobs
  pub begun : p.visits ≡ visits
  pub round : part_round d p.part

pub weaker : (d : SetupData) (p : Processor) (k k' g g' v : ℕ) → k ≤ k' → g ≤ g' → Low d p k g v → Low d p k' g' v
weaker d p k k' g g' v a b h = record { left = λ x. let u = h.left x in omega (arith, a, u); gives = let u = h.gives in omega (arith, b, u); begun = h.begun; round = h.round }

-- where nothing is laid on a word `run`
pub moved : (d : SetupData) (s : Scene) (i : ℕ) (p q : Processor) (lying : Lying) (k : ℕ) → Low d q k (part_gives d p.part p.chair) p.visits
    → ((x : ℕ) → k + 1 ≤ rank d x p.part p.chair p.held) → ((j : ℕ) → get_or lying.run j None ≡ get_or s.lying.run j None) → LeadMoved d s i p lying (OfProcessor q)
moved d s i p q lying k h l same = (
  λ x x'. let a = h.left x' in let b = l x in let u = ap (spare d) h.begun in omega (arith, a, b, u),
  h.gives,
  λ j n z. let a = h.gives in let u = ap (waiting d) (same j) in omega (arith, a, u),
  h.round,
)

pub by_access : (d : SetupData) (s : Scene) (i : ℕ) (p : Processor) (word : WordId) (how : Access)
    → ((found : ℕ) → LeadMoved d s i p s.lying (taken (OfProcessor p) found).after)
    → LeadTurn d s i p (turn_wanting s.words s.lying i (OfProcessor p) (want.Access word how Nothing))
by_access d s i p word how h = go (applied (read s.words word) how)
  where
    go : (x : Applied) → LeadTurn d s i p (accesses s.words s.lying i word how Nothing (OfProcessor p) x)
    go (NotReady f) = tt
    go (Same f) = (refl, h f)
    go (Changed n f) = (refl, h f)

-- BASES

pub serve_base-le : (d : SetupData) (b : Bool) → serve_base d b ≤ 15 + 6 * d.processors
serve_base-le d true = omega arith
serve_base-le d false = omega arith

close_base-le : (d : SetupData) (b : Bool) → close_base d b ≤ 16 + 6 * d.processors + 5 * d.ops
close_base-le d true = omega arith
close_base-le d false = omega arith

closing_gives-le : (d : SetupData) (b : Bool) → closing_gives d b ≤ d.ops
closing_gives-le d true = omega arith
closing_gives-le d false = omega arith

pub told_weight-le : (r : ServerRow) → told_weight r ≤ 1
told_weight-le (told.Raising c l) = omega arith
told_weight-le _ = omega arith

pub vacant-le : (o : Option Desk) → vacant o ≤ 1
vacant-le None = omega arith
vacant-le (Some desk) = omega arith

vacancies-le : (n : ℕ) (held : Desks) → vacancies n held ≤ n
vacancies-le n held = let a = sum_below-bound n 1 (λ j. vacant (get_or held j None)) (λ j l. vacant-le (get_or held j None)) in omega (arith, a)

-- DESKS THAT STAY IN THEIR PLACES

map_vacant : (f : Desk → Desk) (o : Option Desk) → vacant (option_map f o) ≡ vacant o
map_vacant f None = refl
map_vacant f (Some desk) = refl

set_vacant : (f : Desk → Desk) (held : Desks) (c j : ℕ) → vacant (get_or (slice_set held c (option_map f (get_or held c None))) j None) ≡ vacant (get_or held j None)
set_vacant f [] c j = refl
set_vacant f (x ∷ xs) zero zero = map_vacant f x
set_vacant f (x ∷ xs) zero (suc j) = refl
set_vacant f (x ∷ xs) (suc c) zero = refl
set_vacant f (x ∷ xs) (suc c) (suc j) = set_vacant f xs c j

pub changed_vacancies : (n : ℕ) (f : Desk → Desk) (held : Desks) (c : ℕ) → vacancies n (slice_set held c (option_map f (get_or held c None))) ≡ vacancies n held
changed_vacancies n f held c =
    sum_below-same n (λ j. vacant (get_or (slice_set held c (option_map f (get_or held c None))) j None)) (λ j. vacant (get_or held j None)) (λ j l. set_vacant f held c j)

handed_vacancies : (n : ℕ) (r : ServerRow) (held : Desks) → vacancies n (handed_as r held) ≡ vacancies n held
handed_vacancies n (told.Raising c (say.Start cpu j p a)) held = changed_vacancies n (with_job j p a) held c
handed_vacancies n (told.Raising c _) held = refl
handed_vacancies n _ held = refl

-- AFTER SERVING

jobs_low : (m : Mode) (p : Processor) → p.setup.mode ≡ m → Low p.setup (go_on (after_jobs m) p) (serve_base p.setup (is_relaxed p.setup.mode)) 0 p.visits
jobs_low Traditional p e =
    let b : serve_base p.setup (is_relaxed p.setup.mode) ≡ serve_base p.setup false = ap (λ (y : Mode). serve_base p.setup (is_relaxed y)) e in
    record { left = λ x. omega (arith, b); gives = omega arith; begun = refl; round = tt }
jobs_low Relaxed p e =
    let b : serve_base p.setup (is_relaxed p.setup.mode) ≡ serve_base p.setup true = ap (λ (y : Mode). serve_base p.setup (is_relaxed y)) e in
    let a : close_base p.setup (is_relaxed p.setup.mode) ≡ close_base p.setup true = ap (λ (y : Mode). close_base p.setup (is_relaxed y)) e in
    let g : closing_gives p.setup (is_relaxed p.setup.mode) ≡ closing_gives p.setup true = ap (λ (y : Mode). closing_gives p.setup (is_relaxed y)) e in
    record { left = λ x. omega (arith, a, b); gives = omega (arith, g); begun = refl; round = tt }

pub collects_low : (p : Processor) (k : ℕ) (o : Option ℕ) → ((j : ℕ) → o ≡ Some j → serve_base p.setup (is_relaxed p.setup.mode) + 1 + (p.setup.processors - j) ≤ k)
    → serve_base p.setup (is_relaxed p.setup.mode) ≤ k → Low p.setup (go_on (row_or row.CollectJob (after_jobs p.setup.mode) o) p) k 0 p.visits
collects_low p k None h l = weaker p.setup _ _ k 0 0 p.visits l (omega arith) (jobs_low p.setup.mode p refl)
collects_low p k (Some j) h l = record { left = λ x. h j refl; gives = omega arith; begun = refl; round = tt }

need_low : (b : Bool) (p : Processor) (y : Chair) → p.chair ≡ Some y
    → Low p.setup (with_need b p) (serve_base p.setup (is_relaxed p.setup.mode) + 2 + p.setup.processors + course_weight p.setup y p.held) (jobs_left y.course.place) p.visits
need_low true p y e =
    let k : ℕ = serve_base p.setup (is_relaxed p.setup.mode) + 2 + p.setup.processors + course_weight p.setup y p.held in
    record {
      left = λ x. subst (λ (o : Option Chair). serving_rank p.setup o p.held ≤ k) (sym e) (omega arith);
      gives = subst (λ (o : Option Chair). serving_gives o ≤ jobs_left y.course.place) (sym e) (omega arith);
      begun = refl;
      round = tt;
    }
need_low false p y e =
    weaker p.setup _ _ _ 0 (jobs_left y.course.place) p.visits (omega arith) (omega arith)
    (collects_low p (serve_base p.setup (is_relaxed p.setup.mode) + 2 + p.setup.processors + course_weight p.setup y p.held) (next_below p.setup.processors (owes_job p.chair) 0)
    (λ j e. omega arith) (omega arith))

-- the next need is told
pub serves_low : (p : Processor) (y : Chair)
    → Low p.setup (serve_on y p)
    (serve_base p.setup (is_relaxed p.setup.mode) + 2 + p.setup.processors
    + (place_weight y.course.place + jobs_weight y.course.place.state.seats + told_weight (row_of (setting_of y) p.held y.course) + vacancies p.setup.processors p.held))
    (jobs_left y.course.place) p.visits
serves_low p y =
    let y' : Chair = told_on p.held y in
    let v = handed_vacancies p.setup.processors y'.told p.held in
    weaker p.setup _ _ _ (jobs_left y.course.place) (jobs_left y.course.place) p.visits (omega (arith, v)) (omega arith)
    (need_low (can_serve p.setup.processors y'.told (handed_as y'.told p.held)) (record p { chair = Some y'; held = handed_as y'.told p.held }) y' refl)

pub begins_low : (p : Processor) (o : Option Chair) → ((y : Chair) → o ≡ Some y → y.setup ≡ p.setup)
    → Low p.setup (begin_serving o p) (serve_base p.setup (is_relaxed p.setup.mode) + 5 + 2 * p.setup.processors + 5 * p.setup.ops) p.setup.ops p.visits
begins_low p None h = weaker p.setup _ _ _ 0 p.setup.ops p.visits (omega arith) (omega arith) (jobs_low p.setup.mode p refl)
begins_low p (Some y) h =
    let y' : Chair = begun_session p.me p.wave y in
    let ops : y.setup.ops ≡ p.setup.ops = ap (λ (d : SetupData). d.ops) (h y refl) in
    let a = told_weight-le (row_of (setting_of y') p.held y'.course) in
    let v = vacancies-le p.setup.processors p.held in
    let j = free_jobs y.setup.processors in
    weaker p.setup _ _ _ (jobs_left y'.course.place) p.setup.ops p.visits (omega (arith, ops, a, v, j)) (omega (arith, ops)) (serves_low p y')

source_low : (m : Mode) (p : Processor) → p.setup.mode ≡ m → ((y : Chair) → p.chair ≡ Some y → y.setup ≡ p.setup)
    → Low p.setup (at_row (after_source m) p) (25 + 10 * p.setup.processors + 5 * p.setup.ops + p.setup.t1 + p.setup.t2) p.setup.ops p.visits
source_low Traditional p e h = record { left = λ x. omega arith; gives = omega arith; begun = refl; round = tt }
source_low Relaxed p e h =
    let l = serve_base-le p.setup (is_relaxed p.setup.mode) in
    weaker p.setup _ _ _ p.setup.ops p.setup.ops p.visits (omega (arith, l)) (omega arith) (begins_low p p.chair h)

-- THE CLOSE

abbrev closed : Processor → List Bool → Row → Processor
closed p l r = left_to (close.left_of r) (record p { part = part.Closing (record { processors = p.setup.processors; me = p.me; held = l; relaxed = is_relaxed p.setup.mode; row = r }) })

after_close_low : (p : Processor) (l : List Bool) (b : Bool) → is_relaxed p.setup.mode ≡ b → ((y : Chair) → p.chair ≡ Some y → y.setup ≡ p.setup)
    → Low p.setup (closed p l (close.after_close b)) (close_base p.setup b) (closing_gives p.setup b) p.visits
after_close_low p l true e h = record { left = λ x. omega arith; gives = omega arith; begun = refl; round = tt }
after_close_low p l false e h =
    let u : serve_base p.setup (is_relaxed p.setup.mode) ≡ serve_base p.setup false = ap (serve_base p.setup) e in
    weaker p.setup _ _ _ p.setup.ops p.setup.ops p.visits (omega (arith, u)) (omega arith)
    (begins_low (record p { part = part.Closing (record { processors = p.setup.processors; me = p.me; held = l; relaxed = is_relaxed p.setup.mode; row = row.Serve }) }) p.chair h)

desks_low : (p : Processor) (l : List Bool) (b : Bool) (k : ℕ) → is_relaxed p.setup.mode ≡ b → ((y : Chair) → p.chair ≡ Some y → y.setup ≡ p.setup) → (o : Option ℕ)
    → ((j : ℕ) → o ≡ Some j → close_base p.setup b + 1 + (p.setup.processors - j) ≤ k) → close_base p.setup b ≤ k
    → Low p.setup (closed p l (row_or row.TakeDesk (close.after_close b) o)) k (closing_gives p.setup b) p.visits
desks_low p l b k e h None f g = weaker p.setup _ _ k _ _ p.visits g (omega arith) (after_close_low p l b e h)
desks_low p l b k e h (Some j) f g =
    let u : close_base p.setup (is_relaxed p.setup.mode) ≡ close_base p.setup b = ap (close_base p.setup) e in
    let w : closing_gives p.setup (is_relaxed p.setup.mode) ≡ closing_gives p.setup b = ap (closing_gives p.setup) e in
    let z = f j refl in
    record { left = λ x. omega (arith, u, z); gives = omega (arith, w); begun = refl; round = tt }

reports_low : (p : Processor) (l : List Bool) (b : Bool) (k left : ℕ) → is_relaxed p.setup.mode ≡ b → ((y : Chair) → p.chair ≡ Some y → y.setup ≡ p.setup) → (o : Option ℕ)
    → close_base p.setup b + 1 + p.setup.processors ≤ k → (left ≢ 0 → close_base p.setup b + 2 + p.setup.processors + left ≤ k)
    → Low p.setup (closed p l (if left == 0 then row_or row.TakeDesk (close.after_close b) o else row.AwaitReports left)) k (closing_gives p.setup b) p.visits
reports_low p l b k left e h o f g =
    let u : close_base p.setup (is_relaxed p.setup.mode) ≡ close_base p.setup b = ap (close_base p.setup) e in
    let w : closing_gives p.setup (is_relaxed p.setup.mode) ≡ closing_gives p.setup b = ap (closing_gives p.setup) e in
    ⊎_elim
    (λ (z : (left == 0) ≡ true). rw z (desks_low p l b k e h o (λ j q. omega (arith, f)) (omega (arith, f))))
    (λ (z : (left == 0) ≡ false). let n = eqb-false left 0 z in let y = g n in rw z (record { left = λ x. omega (arith, u, y); gives = omega (arith, w); begun = refl; round = tt }))
    (cases_Bool (left == 0))

-- THE EXIT

abbrev exited : Processor → List Bool → Row → Processor
exited p l r = left_to (exit.left_of r) (record p { part = part.Exiting (exit.exit_at p.setup.processors p.me l (is_elected p.setup.policy) r) })

abbrev ExitLow : SetupData → ℕ → Row → Type 0
ExitLow d k r = (exiting_rank d r ≤ k) × (exit.left_of r ≡ None)

exit_low : (p : Processor) (l : List Bool) (r : Row) (k : ℕ) → ExitLow p.setup k r → Low p.setup (exited p l r) k 0 p.visits
exit_low p l r k h =
    let q : Processor = record p { part = part.Exiting (exit.exit_at p.setup.processors p.me l (is_elected p.setup.policy) r) } in
    subst (λ (o : Option Row). Low p.setup (left_to o q) k 0 p.visits) (sym h.1) (record { left = λ x. h.0; gives = omega arith; begun = refl; round = tt })

rounds_low : (d : SetupData) (b : Bool) → ExitLow d 6 (exit.after_rounds b)
rounds_low d true = (omega arith, refl)
rounds_low d false = (omega arith, refl)

exit_weaker : (d : SetupData) (k k' : ℕ) (r : Row) → k ≤ k' → ExitLow d k r → ExitLow d k' r
exit_weaker d k k' r l h = (omega (arith, l, h.0), h.1)

if_low : (d : SetupData) (k : ℕ) (left : ℕ) (a b : Row) → ExitLow d k a → (left ≢ 0 → ExitLow d k b) → ExitLow d k (if left == 0 then a else b)
if_low d k left a b h g =
    ⊎_elim
    (λ (z : (left == 0) ≡ true). rw z h)
    (λ (z : (left == 0) ≡ false). rw z (g (eqb-false left 0 z)))
    (cases_Bool (left == 0))

dismissed_low : (d : SetupData) (e : exit.ExitPosition) (k left : ℕ) → 6 ≤ k → (left ≢ 0 → 7 + left ≤ k) → ExitLow d k (exit.to_dismissed e left)
dismissed_low d e k left l g = if_low d k left _ _ (exit_weaker d 6 k (exit.after_rounds e.elected) l (rounds_low d e.elected)) (λ z. (g z, refl))

aps_le : (e : exit.ExitPosition) → exit.ap_count e ≤ e.processors
aps_le e =
    let a = counted (exit.is_ap e) e.processors in
    let b = sum_below-bound e.processors 1 (λ j. bit (exit.is_ap e j)) (λ j l. bit-le (exit.is_ap e j)) in
    omega (arith, a, b)

loop_low : (d : SetupData) (k : ℕ) (at : ℕ → Row) (after : Row) (o : Option ℕ) → ((j : ℕ) → o ≡ Some j → ExitLow d k (at j)) → ExitLow d k after → ExitLow d k (row_or at after o)
loop_low d k at after None h g = g
loop_low d k at after (Some j) h g = h j refl

-- the number at which a loop goes on
on_from : (q : ℕ → Bool) (from end : ℕ) (o : Option ℕ) (j : ℕ) → Found q from end o → o ≡ Some j → (from ≤ j) × (j < end)
on_from q from end None j f e = cc
on_from q from end (Some k) j f e = let u : k ≡ j = ap (λ (o : Option ℕ). unwrap_or o 0) e in (omega (arith, u, f.0), omega (arith, u, f.1))

pub goes_on : (n : ℕ) (q : ℕ → Bool) (from j : ℕ) → next_below n q from ≡ Some j → (from ≤ j) × (j < n)
goes_on n q from j e = on_from q from n (next_below n q from) j (found_next n q from) e

dismissals_low : (d : SetupData) (e : exit.ExitPosition) (k from : ℕ) → e.processors ≡ d.processors → 7 + d.processors ≤ k
    → ((j : ℕ) → from ≤ j → j < d.processors → 8 + d.processors + (d.processors - j) ≤ k) → ExitLow d k (exit.to_dismissals e from)
dismissals_low d e k from n l h =
    let a = aps_le e in
    loop_low d k row.Dismiss _ (next_below e.processors (exit.is_ap e) from)
    (λ j q. let g = goes_on e.processors (exit.is_ap e) from j q in (h j g.0 (omega (arith, g.1, n)), refl))
    (dismissed_low d e k (exit.ap_count e) (omega (arith, l)) (λ z. omega (arith, a, n, l)))

released_low : (d : SetupData) (e : exit.ExitPosition) (k left : ℕ) → e.processors ≡ d.processors → 8 + 2 * d.processors ≤ k → (left ≢ 0 → 9 + 2 * d.processors + left ≤ k)
    → ExitLow d k (exit.to_released e left)
released_low d e k left n l g = if_low d k left _ _ (dismissals_low d e k 0 n (omega (arith, l)) (λ j a b. omega (arith, l))) (λ z. (g z, refl))

releases_low : (d : SetupData) (e : exit.ExitPosition) (k from : ℕ) → e.processors ≡ d.processors → 9 + 3 * d.processors ≤ k
    → ((j : ℕ) → from ≤ j → j < d.processors → 10 + 3 * d.processors + (d.processors - j) ≤ k) → ExitLow d k (exit.to_releases e from)
releases_low d e k from n l h =
    let a = aps_le e in
    loop_low d k row.Release _ (next_below e.processors (exit.is_ap e) from)
    (λ j q. let g = goes_on e.processors (exit.is_ap e) from j q in (h j g.0 (omega (arith, g.1, n)), refl))
    (released_low d e k (exit.ap_count e) n (omega (arith, l)) (λ z. omega (arith, a, n, l)))

-- the desk of another processor comes
pub received_desk : (P : Processor → Type 0) (p : Processor) (k : ℕ) (x : Cargo) → k ≢ p.setup.processors → ((held : Desks) → P (record p { held = held })) → P (after_receiving p k x)
received_desk P p k (cargo.Desk desk) n h = by_kind (is_kind desk.image.kind p.setup.kind)
  where
    by_kind : (b : Bool) → P (if b then record p { held = slice_set p.held k (Some desk) } else p)
    by_kind true = h (slice_set p.held k (Some desk))
    by_kind false = h p.held
received_desk P p k (cargo.Chair y) n h = rw (ne_eqb k p.setup.processors n) (h p.held)

-- the desks without jobs put nobody to work
pub laid : (d : SetupData) (xs : List (Option Cargo)) (c j : ℕ) (x : Cargo) → waiting d (Some x) ≡ 0 → waiting d (get_or (slice_set xs c (Some x)) j None) ≤ waiting d (get_or xs j None)
laid d [] c j x e = omega arith
laid d (y ∷ ys) zero zero x e = omega (arith, e)
laid d (y ∷ ys) zero (suc j) x e = omega arith
laid d (y ∷ ys) (suc c) zero x e = omega arith
laid d (y ∷ ys) (suc c) (suc j) x e = laid d ys c j x e

-- not at the handlers
abbrev pub IsOther : Lead → Type 0
IsOther BeginningToServe = ⊥
IsOther AtHandlers = ⊥
IsOther _ = Unit {0}

module _ (d : SetupData) (s : Scene) (i : ℕ) (t : Seat) (polls : IsPolled d) (chairs : (y : Chair) → t.chair ≡ Some y → y.setup ≡ d) where
  abbrev at : Lead → Processor
  at lead = processor_at d i (Leading lead) t

  abbrev TurnAt : Lead → Type 0
  TurnAt lead = LeadTurn d s i (at lead) (turn s.words s.lying i (OfProcessor (at lead)))

  mark_inside : TurnAt MarkingInside
  mark_inside = by_access d s i (at MarkingInside) word.Inside (access.Put 1) (λ f. (λ x x'. omega arith, omega arith, λ j l n. omega arith, tt))

  take_source : TurnAt TakingSource
  take_source =
      by_access d s i (at TakingSource) word.Source (access.Put 0)
      (λ f. moved d s i (at TakingSource) _ s.lying _ (source_low d.mode (record (at TakingSource) { wave = f }) refl chairs) (λ x. omega arith) (λ j. refl))

  look_at_except : TurnAt LookingAtExcept
  look_at_except = by_access d s i (at LookingAtExcept) word.Except access.Look (λ f. (λ x x'. omega arith, omega arith, λ j l n. omega arith, polls.first))

  -- all have come
  gathered : (lead : Lead) (k : ℕ) → part_gives d (at lead).part t.chair ≡ d.ops → ((x : ℕ) → 21 + 8 * d.processors + 5 * d.ops ≤ rank d x (at lead).part t.chair t.held)
      → LeadMoved d s i (at lead) s.lying (OfProcessor (go_on row.MarkInsync (record (at lead) { part = gathering_at d i row.MarkInsync t.blocked })))
  gathered lead k g l =
      let a = close_base-le d (is_relaxed d.mode) in
      let b = closing_gives-le d (is_relaxed d.mode) in
      moved d s i (at lead) (go_on row.MarkInsync (record (at lead) { part = gathering_at d i row.MarkInsync t.blocked })) s.lying (20 + 8 * d.processors + 5 * d.ops)
      (record { left = λ x. omega (arith, a); gives = omega (arith, b, g); begun = refl; round = tt }) (λ x. let u = l x in omega (arith, u)) (λ j. refl)

  -- the next that is missing
  missing : (lead : Lead) (from : ℕ) → part_gives d (at lead).part t.chair ≡ d.ops → ((x : ℕ) → 22 + 8 * d.processors + 5 * d.ops + d.t2 ≤ rank d x (at lead).part t.chair t.held)
      → ((x j : ℕ) → from ≤ j → j < d.processors → 24 + 8 * d.processors + 5 * d.ops + d.t2 + 2 * (d.processors - j) ≤ rank d x (at lead).part t.chair t.held) → (o : Option ℕ)
      → ((j : ℕ) → o ≡ Some j → (from ≤ j) × (j < d.processors))
      → LeadMoved d s i (at lead) s.lying (OfProcessor (left_to (gather.left_of (row_or row.FindMissing (row.GatherSecond 0) o)) (record (at lead) { part = gathering_at d i (row_or row.FindMissing (row.GatherSecond 0) o) t.blocked })))
  missing lead from g l h None f = (λ x x'. let a = l x in omega (arith, a), omega (arith, g), λ j q n. omega (arith, g), polls.second)
  missing lead from g l h (Some j) f = let y = f j refl in (λ x x'. let a = h x j y.0 y.1 in omega (arith, a), omega (arith, g), λ k q n. omega (arith, g), tt)

  gather_first : (looks : ℕ) → looks < d.t1 → TurnAt (GatheringFirst looks)
  gather_first looks l =
      by_access d s i (at (GatheringFirst looks)) word.Counter access.Look
      (λ f.
      ⊎_elim
      (λ (z : nat_le d.processors (f + t.blocked) ≡ true). simp z (gathered (GatheringFirst looks) 0 refl (λ x. omega arith)))
      (λ (z : nat_le d.processors (f + t.blocked) ≡ false).
      simp z
      (⊎_elim
      (λ (q : (looks + 1 == d.t1) ≡ true).
      simp q (missing (GatheringFirst looks) 0 refl (λ x. omega arith) (λ x j a b. omega (arith, b)) (next_below d.processors (gather.is_other i) 0) (λ j e. goes_on d.processors (gather.is_other i) 0 j e)))
      (λ (q : (looks + 1 == d.t1) ≡ false).
      let u = eqb-false (looks + 1) d.t1 q in simp q (λ x x'. omega (arith, u, l), omega arith, λ j b n. omega arith, omega (arith, u, l)))
      (cases_Bool (looks + 1 == d.t1))))
      (cases_Bool (nat_le d.processors (f + t.blocked))))

  find_missing : (j : ℕ) → TurnAt (FindingMissing j)
  find_missing j =
      by_access d s i (at (FindingMissing j)) (word.Present j) access.Look
      (λ f.
      ⊎_elim
      (λ (z : (f == 0) ≡ true). simp z (λ x x'. omega arith, omega arith, λ k l n. omega arith, tt))
      (λ (z : (f == 0) ≡ false).
      simp z
      (missing (FindingMissing j) (j + 1) refl (λ x. omega arith) (λ x k a b. omega (arith, a, b)) (next_below d.processors (gather.is_other i) (j + 1)) (λ k e. goes_on d.processors (gather.is_other i) (j + 1) k e)))
      (cases_Bool (f == 0)))

  signal_missing : (j : ℕ) → TurnAt (SignallingMissing j)
  signal_missing j =
      by_access d s i (at (SignallingMissing j)) (word.Pend j) access.Signal
      (λ f. missing (SignallingMissing j) (j + 1) refl (λ x. omega arith) (λ x k a b. omega (arith, a, b)) (next_below d.processors (gather.is_other i) (j + 1)) (λ k e. goes_on d.processors (gather.is_other i) (j + 1) k e))

  gather_second : (looks : ℕ) → looks < d.t2 → TurnAt (GatheringSecond looks)
  gather_second looks l =
      by_access d s i (at (GatheringSecond looks)) word.Counter access.Look
      (λ f.
      ⊎_elim
      (λ (z : nat_le d.processors (f + t.blocked) ≡ true). simp z (gathered (GatheringSecond looks) 0 refl (λ x. omega arith)))
      (λ (z : nat_le d.processors (f + t.blocked) ≡ false).
      simp z
      (⊎_elim
      (λ (q : (looks + 1 == d.t2) ≡ true). simp q (gathered (GatheringSecond looks) 0 refl (λ x. omega arith)))
      (λ (q : (looks + 1 == d.t2) ≡ false).
      let u = eqb-false (looks + 1) d.t2 q in simp q (λ x x'. omega (arith, u, l), omega arith, λ j b n. omega arith, omega (arith, u, l)))
      (cases_Bool (looks + 1 == d.t2))))
      (cases_Bool (nat_le d.processors (f + t.blocked))))

  mark_insync : TurnAt MarkingInsync
  mark_insync = by_access d s i (at MarkingInsync) word.Insync (access.Put 1) (λ f. (λ x x'. omega arith, omega arith, λ j l n. omega arith, tt))

  -- the counter counts at most all processors
  lock_counter : s.words.counter ≤ d.processors → TurnAt LockingCounter
  lock_counter few = (
    refl,
    moved d s i (at LockingCounter) _ s.lying _
        (reports_low (at LockingCounter) t.listed (is_relaxed d.mode) (close_base d (is_relaxed d.mode) + 2 + 2 * d.processors) (s.words.counter - 1) refl chairs _ (omega arith) (λ z. omega (arith, few)))
        (λ x. omega arith) (λ j. refl),
  )

  await_reports : (left : ℕ) → TurnAt (AwaitingReports left)
  await_reports left =
      by_access d s i (at (AwaitingReports left)) (word.Run i) access.Down
      (λ f. moved d s i (at (AwaitingReports left)) _ s.lying _
      (reports_low (at (AwaitingReports left)) t.listed (is_relaxed d.mode) (close_base d (is_relaxed d.mode) + 1 + d.processors + left) (left - 1) refl chairs _ (omega arith) (λ z. omega (arith, z)))
      (λ x. omega arith) (λ j. refl))

  take_desk : (j : ℕ) → j < d.processors → TurnAt (TakingDesk j)
  take_desk j below = go (applied (get_or s.words.present j 0) (access.Claim 1 2))
    where
      desks : (held : Desks) (lying : Lying) → lying.run ≡ s.lying.run → (f : ℕ) → LeadMoved d s i (at (TakingDesk j)) lying (taken (OfProcessor (record (at (TakingDesk j)) { held = held })) f).after
      desks held lying e f =
          moved d s i (at (TakingDesk j)) _ lying _
          (desks_low (record (at (TakingDesk j)) { held = held }) t.listed (is_relaxed d.mode) (close_base d (is_relaxed d.mode) + (d.processors - j)) refl chairs _
          (λ k q. let g = goes_on d.processors _ (j + 1) k q in omega (arith, g.0, g.1)) (omega arith))
          (λ x. omega arith) (λ k. ap (λ (xs : List (Option Cargo)). get_or xs k None) e)

      took : (n f : ℕ) (o : Option Cargo) → LeadTurn d s i (at (TakingDesk j)) (takes s.words s.lying i (word.Present j) (access.Claim 1 2) n f (OfProcessor (at (TakingDesk j))) o)
      took n f None = tt
      took n f (Some x) = (
        refl,
        received_desk (λ q. LeadMoved d s i (at (TakingDesk j)) (record s.lying { present = slice_set s.lying.present j None }) (taken (OfProcessor q) f).after) (at (TakingDesk j)) j x (λ z. omega (arith, z, below))
            (λ held. desks held (record s.lying { present = slice_set s.lying.present j None }) refl f),
      )

      go : (x : Applied) → LeadTurn d s i (at (TakingDesk j)) (accesses s.words s.lying i (word.Present j) (access.Claim 1 2) (Take j) (OfProcessor (at (TakingDesk j))) x)
      go (NotReady f) = tt
      go (Same f) = (refl, desks t.held s.lying refl f)
      go (Changed n f) = took n f (get_or s.lying.present j None)

  collect_job : (j : ℕ) → j < d.processors → TurnAt (Collecting j)
  collect_job j below = go (applied (get_or s.words.busy j 0) (access.Await 2 0))
    where
      jobs : (held : Desks) (lying : Lying) → lying.run ≡ s.lying.run → (f : ℕ) → LeadMoved d s i (at (Collecting j)) lying (taken (OfProcessor (record (at (Collecting j)) { held = held })) f).after
      jobs held lying e f =
          moved d s i (at (Collecting j)) _ lying _
          (collects_low (record (at (Collecting j)) { held = taken_off j held }) (serve_base d (is_relaxed d.mode) + (d.processors - j)) _
          (λ k q. let g = goes_on d.processors _ (j + 1) k q in omega (arith, g.0, g.1)) (omega arith))
          (λ x. omega arith) (λ k. ap (λ (xs : List (Option Cargo)). get_or xs k None) e)

      took : (n f : ℕ) (o : Option Cargo) → LeadTurn d s i (at (Collecting j)) (takes s.words s.lying i (word.Busy j) (access.Await 2 0) n f (OfProcessor (at (Collecting j))) o)
      took n f None = tt
      took n f (Some x) = (
        refl,
        received_desk (λ q. LeadMoved d s i (at (Collecting j)) (record s.lying { busy = slice_set s.lying.busy j None }) (taken (OfProcessor q) f).after) (at (Collecting j)) j x (λ z. omega (arith, z, below))
            (λ held. jobs held (record s.lying { busy = slice_set s.lying.busy j None }) refl f),
      )

      go : (x : Applied) → LeadTurn d s i (at (Collecting j)) (accesses s.words s.lying i (word.Busy j) (access.Await 2 0) (Take j) (OfProcessor (at (Collecting j))) x)
      go (NotReady f) = tt
      go (Same f) = (refl, jobs t.held s.lying refl f)
      go (Changed n f) = took n f (get_or s.lying.busy j None)

  leave_inside : TurnAt LeavingInside
  leave_inside =
      let listed : List Bool = desks_held t.held in
      let e : exit.ExitPosition = exit.exit_at d.processors i listed (is_elected d.policy) row.AwaitSessionEnd in
      let h = releases_low d e (10 + 4 * d.processors) 0 refl (omega arith) (λ j a b. omega arith) in
      by_access d s i (at LeavingInside) word.Inside (access.Put 0)
      (λ f. moved d s i (at LeavingInside) (begin_exit (at LeavingInside)) s.lying (10 + 4 * d.processors) (record { left = λ x. h.0; gives = omega arith; begun = refl; round = tt }) (λ x. omega arith) (λ j. refl))

  -- the desk that is given back has no job
  module _ (j : ℕ) (below : j < d.processors) (idle : (desk : Desk) → get_or t.held j None ≡ Some desk → desk.job ≡ None) where
    abbrev releaser : Processor
    releaser = at (Releasing j)

    abbrev exits : exit.ExitPosition
    exits = exit.exit_at d.processors i t.listed (is_elected d.policy) (row.Release j)

    next_low : ExitLow d (9 + 3 * d.processors + (d.processors - j)) (exit.to_releases exits (j + 1))
    next_low = releases_low d exits (9 + 3 * d.processors + (d.processors - j)) (j + 1) refl (omega arith) (λ k a b. omega (arith, a, b))

    quiet : (desk : Desk) → desk.job ≡ None → waiting d (Some (cargo.Desk desk)) ≡ 0
    quiet desk z = rw z refl

    let_on : (q : Processor) → Low d q (9 + 3 * d.processors + (d.processors - j)) 0 t.visits → (lying : Lying)
        → ((k : ℕ) → waiting d (get_or lying.run k None) ≤ waiting d (get_or s.lying.run k None)) → LeadMoved d s i releaser lying (OfProcessor q)
    let_on q h lying w =
        (λ x x'. let a = h.left x' in let u = ap (spare d) h.begun in omega (arith, a, u), h.gives, λ k l n. let a = h.gives in let b = w k in omega (arith, a, b), h.round)

    gave_desk : (n f : ℕ) (o : Option Cargo) → ((x : Cargo) → o ≡ Some x → waiting d (Some x) ≡ 0)
        → LeadTurn d s i releaser (gives s.words s.lying i (word.Run j) access.Up n f (OfProcessor releaser) o)
    gave_desk n f None w = tt
    gave_desk n f (Some x) w = (
      refl,
      given_is (λ q. LeadMoved d s i releaser (record s.lying { run = slice_set s.lying.run j (Some x) }) (taken (OfProcessor q) f).after) releaser j
          (λ held chair ran. let_on _ (exit_low (record releaser { held = held; chair = chair; ran = ran }) t.listed _ _ next_low) (record s.lying { run = slice_set s.lying.run j (Some x) })
          (λ k. laid d s.lying.run j k x (w x refl))),
    )

    cargo_is : (x y : Cargo) → Some x ≡ Some y → x ≡ y
    cargo_is x y z = ap (λ (o : Option Cargo). unwrap_or o x) z

    gift_quiet : (o : Option Desk) → get_or t.held j None ≡ o → (x : Cargo) → desk_given releaser o ≡ Some x → waiting d (Some x) ≡ 0
    gift_quiet None z x y = cc
    gift_quiet (Some desk) z x y = subst (λ (u : Cargo). waiting d (Some u) ≡ 0) (cargo_is (cargo.Desk desk) x y) (quiet desk (idle desk z))

    raises_run : (x : Applied) → LeadTurn d s i releaser (accesses s.words s.lying i (word.Run j) access.Up (Give j) (OfProcessor releaser) x)
    raises_run (NotReady f) = tt
    raises_run (Same f) = (refl, let_on _ (exit_low releaser t.listed _ _ next_low) s.lying (λ k. omega arith))
    raises_run (Changed n f) =
        gave_desk n f (gift_of (OfProcessor releaser))
        (λ x y. gift_quiet (get_or t.held j None) refl x
        (subst (λ (b : Bool). (if b then chair_given t.chair else desk_given releaser (get_or t.held j None)) ≡ Some x) (ne_eqb j d.processors (λ z. omega (arith, z, below))) y))

    release : TurnAt (Releasing j)
    release = raises_run (applied (get_or s.words.run j 0) access.Up)

  await_released : (left : ℕ) → TurnAt (AwaitingReleased left)
  await_released left =
      let e : exit.ExitPosition = exit.exit_at d.processors i t.listed (is_elected d.policy) (row.AwaitReleased left) in
      let low = released_low d e (8 + 2 * d.processors + left) (left - 1) refl (omega arith) (λ z. omega (arith, z)) in
      by_access d s i (at (AwaitingReleased left)) (word.Run i) access.Down
      (λ f. moved d s i (at (AwaitingReleased left)) _ s.lying _ (exit_low (at (AwaitingReleased left)) t.listed _ _ low) (λ x. omega arith) (λ j. refl))

  dismiss : (j : ℕ) → TurnAt (Dismissing j)
  dismiss j =
      let e : exit.ExitPosition = exit.exit_at d.processors i t.listed (is_elected d.policy) (row.Dismiss j) in
      let low = dismissals_low d e (7 + d.processors + (d.processors - j)) (j + 1) refl (omega arith) (λ k a b. omega (arith, a, b)) in
      by_access d s i (at (Dismissing j)) (word.Run j) access.Up
      (λ f. moved d s i (at (Dismissing j)) _ s.lying _ (exit_low (at (Dismissing j)) t.listed _ _ low) (λ x. omega arith) (λ j. refl))

  await_dismissed : (left : ℕ) → TurnAt (AwaitingDismissed left)
  await_dismissed left =
      let e : exit.ExitPosition = exit.exit_at d.processors i t.listed (is_elected d.policy) (row.AwaitDismissed left) in
      let low = dismissed_low d e (6 + left) (left - 1) (omega arith) (λ z. omega (arith, z)) in
      by_access d s i (at (AwaitingDismissed left)) (word.Run i) access.Down
      (λ f. moved d s i (at (AwaitingDismissed left)) _ s.lying _ (exit_low (at (AwaitingDismissed left)) t.listed _ _ low) (λ x. omega arith) (λ j. refl))

  give_chair : TurnAt GivingChair
  give_chair = gave 16777215 s.words.bsp _
    where
      gave : (n f : ℕ) (o : Option Cargo) → LeadTurn d s i (at GivingChair) (gives s.words s.lying i word.Bsp (access.Put LOCKED) n f (OfProcessor (at GivingChair)) o)
      gave n f None = tt
      gave n f (Some x) = (
        refl,
        given_is (λ q. LeadMoved d s i (at GivingChair) (record s.lying { bsp = Some x }) (taken (OfProcessor q) f).after) (at GivingChair) d.processors
            (λ held chair ran. (λ x x'. omega arith, omega arith, λ j l n. omega arith, tt)),
      )

  leave_insync : TurnAt LeavingInsync
  leave_insync = by_access d s i (at LeavingInsync) word.Insync (access.Put 0) (λ f. (λ x x'. omega arith, omega arith, λ j l n. omega arith, tt))

  unlock_counter : TurnAt UnlockingCounter
  unlock_counter = by_access d s i (at UnlockingCounter) word.Counter (access.Put 0) (λ f. (λ x x'. omega arith, omega arith, λ j l n. omega arith, tt))

  -- what the invariant says of a BSP that isn't at its handlers
  pub record IsLeadAt (lead : Lead) : Type 0 where
    pub counter : lead ≡ LockingCounter → s.words.counter ≤ d.processors
    pub desk : (j : ℕ) → lead ≡ TakingDesk j → j < d.processors
    pub job : (j : ℕ) → lead ≡ Collecting j → j < d.processors
    pub released : (j : ℕ) → lead ≡ Releasing j → (j < d.processors) × ((desk : Desk) → get_or t.held j None ≡ Some desk → desk.job ≡ None)
    pub round : RoundFits d (OfProcessor (at lead))

  pub lead_turn : (lead : Lead) → IsOther lead → IsLeadAt lead → TurnAt lead
  lead_turn MarkingInside b h = mark_inside
  lead_turn TakingSource b h = take_source
  lead_turn LookingAtExcept b h = look_at_except
  lead_turn (GatheringFirst looks) b h = gather_first looks h.round
  lead_turn (FindingMissing j) b h = find_missing j
  lead_turn (SignallingMissing j) b h = signal_missing j
  lead_turn (GatheringSecond looks) b h = gather_second looks h.round
  lead_turn MarkingInsync b h = mark_insync
  lead_turn LockingCounter b h = lock_counter (h.counter refl)
  lead_turn (AwaitingReports left) b h = await_reports left
  lead_turn (TakingDesk j) b h = take_desk j (h.desk j refl)
  lead_turn BeginningToServe b h = absurd b
  lead_turn AtHandlers b h = absurd b
  lead_turn (Collecting j) b h = collect_job j (h.job j refl)
  lead_turn LeavingInside b h = leave_inside
  lead_turn (Releasing j) b h = let y = h.released j refl in release j y.0 y.1
  lead_turn (AwaitingReleased left) b h = await_released left
  lead_turn (Dismissing j) b h = dismiss j
  lead_turn (AwaitingDismissed left) b h = await_dismissed left
  lead_turn GivingChair b h = give_chair
  lead_turn LeavingInsync b h = leave_insync
  lead_turn UnlockingCounter b h = unlock_counter

-- The serving list of the session that there is: a place stands for it, and the jobs at that place are those of the processors.
use Rattle.std.proofs.Common.{◌≡◌, ◌≢◌, ◌<◌, ◌≤◌, ◌↔◌, ◌⊎◌, ℕ, Bool, true, false, List, [], ◌∷◌, ◌++◌, length, slice_index_or, slice_set, IsSomeAnd, is_some, Option, Some, None, refl, sym, ap, subst, ⊎_elim, ◌∙◌, true≢false, arith, get_or-set_same, get_or-set_other, length-set}
use Rattle.std.proofs.lemmas.Bool.{cases_eq}
use Rattle.smm_base.specs.declared.kinds.HandlerType.{HandlerType}
use Rattle.smm_base.specs.declared.status.Status.{Status}
use Rattle.cpu_table.specs.Data.{SetupData}
use Rattle.sync_words.specs.declared.label.Label.{Label}
use Rattle.sync_words.specs.declared.label.Label.TheVariants as say
use Rattle.handler_ops.specs.declared.desk.Job.{Job}
use Rattle.serving_place.specs.declared.seat.Seat.{Seat}
use Rattle.serving_place.specs.declared.seat.Seat.TheVariants.{Free, Open}
use Rattle.serving_place.specs.Serving.{Serving, seat, run_at, HasOpen}
use Rattle.serving_place.specs.Forms.{Program, Event, Own, Ran, IsWhole, IsPrefix}
use Rattle.serving_place.specs.Beginning.{program_of, walks_of}
use Rattle.serving_place.specs.Places.{OpenWalk, Begun, Place, HasMore, Accepts, IsOver, next, at_first}
use Rattle.serving_place.specs.Stands.{StandsFor, Follows}
use Rattle.handler_ops.specs.Course.{after_all}
use Rattle.rendezvous_machine.specs.Machines.{Machine, Session, member}
use Rattle.rendezvous_machine.specs.Listed.{first_serving, place_by, nothing_left, is_over, grown, grown_unless}
use Rattle.rendezvous_machine.proofs.Jobs.{IsStart, JobsBy, step_jobs}

-- what is known of serving lists in general
pub record Standing : Type 0 where
  pub begins : (program : Program) (w : ℕ) (kinds : List HandlerType) (s : Serving) → StandsFor program w kinds s (at_first w kinds s) []
  pub follows : (program : Program) (w : ℕ) (kinds : List HandlerType) (s : Serving) (p : Place) (es : List Event) (e : Event)
      → StandsFor program w kinds s p es → Follows program w kinds s p es e
  pub whole : (program : Program) (w : ℕ) (kinds : List HandlerType) (s : Serving) (p : Place) (es : List Event)
      → StandsFor program w kinds s p es → IsOver p ↔ IsWhole program w kinds s es

after_push : (program : Program) (p : Place) (es : List Event) (e : Event) → after_all program p (es ++ e ∷ []) ≡ next program (after_all program p es) e
after_push program p [] e = refl
after_push program p (x ∷ es) e = after_push program (next program p x) es e

-- a place is over, and then takes no label
stuck : (program : Program) (kinds : List HandlerType) (walks : List OpenWalk) (b : Option Begun) (s : Serving) (l : Label)
    → (HasMore kinds walks b → ⊥) → Accepts program (record { kinds = kinds; walks = walks; begun = b; state = s }) (Own l) → ⊥
stuck program [] [] None s l o a = a
stuck program (k ∷ ks) ws b s l o a = o tt
stuck program [] (w ∷ ws) b s l o a = o tt
stuck program [] [] (Some b) s l o a = o tt

pub over_stuck : (program : Program) (p : Place) (l : Label) → IsOver p → Accepts program p (Own l) → ⊥
over_stuck program p l o a = stuck program p.kinds p.walks p.begun p.state l o a

has_more : (kinds : List HandlerType) (walks : List OpenWalk) (b : Option Begun) → nothing_left kinds walks b ≡ false → HasMore kinds walks b
has_more [] [] None e = absurd (true≢false e)
has_more (k ∷ ks) ws b e = tt
has_more [] (w ∷ ws) b e = tt
has_more [] [] (Some b) e = tt

has_none : (kinds : List HandlerType) (walks : List OpenWalk) (b : Option Begun) → nothing_left kinds walks b ≡ true → HasMore kinds walks b → ⊥
has_none [] [] None e h = h
has_none (k ∷ ks) ws b e h = absurd (true≢false (sym e))
has_none [] (w ∷ ws) b e h = absurd (true≢false (sym e))
has_none [] [] (Some b) e h = absurd (true≢false (sym e))

abbrev pub Jobs : Type 0
Jobs = ℕ → Option Job

abbrev pub IsOpenJob : Option Job → ℕ → Type 0
IsOpenJob None n = ⊥
IsOpenJob (Some job) n = (job.number ≡ n) × (job.done ≡ None)

abbrev pub NoJobs : Jobs → Type 0
NoJobs jobs = (c : ℕ) → jobs c ≡ None

-- a processor's open job is that of its seat
abbrev pub Seated : Jobs → List Seat → Type 0
Seated jobs qs = (c n : ℕ) → IsOpenJob (jobs c) n → HasOpen (slice_index_or qs c Free) n

pub record Fit (d : SetupData) (least w : ℕ) (begin : Serving) (jobs : Jobs) (es : List Event) (p : Place) (done : Bool) : Type 0 where
  pub stands : StandsFor (program_of d) w (walks_of d.waves w) begin p es
  pub seated : Seated jobs p.state.seats
  pub size : length p.state.seats ≡ d.processors
  pub given : least ≤ p.state.given
  pub over : done ≡ true → IsOver p × NoJobs jobs

-- before serving there are no jobs
pub record Unbegun (least : ℕ) (jobs : Jobs) (done : Bool) : Type 0 where
  pub none : NoJobs jobs
  pub undone : done ≡ false
  pub zero_least : least ≡ 0

abbrev pub FitsList : SetupData → ℕ → Serving → Jobs → Option ℕ → Option (List Event) → Bool → Type 0
FitsList d least begin jobs served None done = Unbegun least jobs done
FitsList d least begin jobs None (Some es) done = ⊥
FitsList d least begin jobs (Some w) (Some es) done = Fit d least w begin jobs es (place_by d begin (Some w) (Some es)) done

abbrev pub FitsJobs : SetupData → ℕ → Serving → Jobs → Option Session → Type 0
FitsJobs d least begin jobs None = NoJobs jobs × (least ≡ 0)
FitsJobs d least begin jobs (Some s) = FitsList d least begin jobs s.served s.serving s.is_done

abbrev pub jobs_of : Machine → Jobs
jobs_of m = λ c. (member m c).job

abbrev pub JobsFit : SetupData → ℕ → Machine → Type 0
JobsFit d least m = FitsJobs d least (first_serving d m) (jobs_of m) m.session

-- equal jobs
same_open : (o p : Option Job) (n : ℕ) → p ≡ o → IsOpenJob p n → IsOpenJob o n
same_open o p n e h = subst (λ x. IsOpenJob x n) e h

refit_list : (d : SetupData) (least : ℕ) (begin : Serving) (jobs others : Jobs) (served : Option ℕ) (serving : Option (List Event)) (done : Bool)
    → ((c : ℕ) → others c ≡ jobs c) → FitsList d least begin jobs served serving done → FitsList d least begin others served serving done
refit_list d least begin jobs others served None done e h = record { none = λ c. e c ∙ h.none c; undone = h.undone; zero_least = h.zero_least }
refit_list d least begin jobs others None (Some es) done e h = h
refit_list d least begin jobs others (Some w) (Some es) done e h =
    record {
      stands = h.stands;
      seated = λ c n x. h.seated c n (same_open (jobs c) (others c) n (e c) x);
      size = h.size;
      given = h.given;
      over = λ t. ((h.over t).0, λ c. e c ∙ (h.over t).1 c);
    }

pub refit : (d : SetupData) (least : ℕ) (begin : Serving) (jobs others : Jobs) (o : Option Session)
    → ((c : ℕ) → others c ≡ jobs c) → FitsJobs d least begin jobs o → FitsJobs d least begin others o
refit d least begin jobs others None e h = (λ c. e c ∙ h.0 c, h.1)
refit d least begin jobs others (Some s) e h = refit_list d least begin jobs others s.served s.serving s.is_done e h

-- a place that takes an own label
abbrev pub AfterLabel : Label → Jobs → Jobs → ℕ → ℕ → Type 0
AfterLabel l jobs others least more =
    (g h : ℕ) (qs rs : List Seat) → JobsBy l g qs h rs → Seated jobs qs → least ≤ g → Seated others rs × (length rs ≡ length qs) × (more ≤ h)

taken_place : (d : SetupData) (least more w : ℕ) (begin : Serving) (jobs others : Jobs) (es : List Event) (p : Place) (done : Bool) (l : Label) (std : Standing)
    → AfterLabel l jobs others least more → Accepts (program_of d) p (Own l)
    → Fit d least w begin jobs es p done → Fit d more w begin others (es ++ Own l ∷ []) (next (program_of d) p (Own l)) done
taken_place d least more w begin jobs others es p done l std f a h =
    let by = step_jobs (program_of d) p l a in
    let r = f p.state.given (next (program_of d) p (Own l)).state.given p.state.seats (next (program_of d) p (Own l)).state.seats by h.seated h.given in
    record {
      stands = (std.follows (program_of d) w (walks_of d.waves w) begin p es (Own l) h.stands).after a;
      seated = r.0;
      size = r.1 ∙ h.size;
      given = r.2;
      over = λ t. absurd (over_stuck (program_of d) p l (h.over t).0 a);
    }

-- the list can be followed by the label
abbrev pub CanFollow : SetupData → Serving → Label → Option ℕ → Option (List Event) → Type 0
CanFollow d begin l served serving =
    IsSomeAnd served (λ w. IsSomeAnd serving (λ es. IsPrefix (program_of d) w (walks_of d.waves w) begin (es ++ Own l ∷ [])))

pub said_fits : (d : SetupData) (least more : ℕ) (begin : Serving) (jobs others : Jobs) (l : Label) (std : Standing) → AfterLabel l jobs others least more
    → (served : Option ℕ) (serving : Option (List Event)) (done : Bool) → CanFollow d begin l served serving
    → FitsList d least begin jobs served serving done → FitsList d more begin others served (grown (Own l) serving) done
said_fits d least more begin jobs others l std f None None done x h = absurd x
said_fits d least more begin jobs others l std f (Some w) None done x h = absurd x
said_fits d least more begin jobs others l std f None (Some es) done x h = absurd h
said_fits d least more begin jobs others l std f (Some w) (Some es) done x h =
    let p = place_by d begin (Some w) (Some es) in
    let a : Accepts (program_of d) p (Own l) = (std.follows (program_of d) w (walks_of d.waves w) begin p es (Own l) h.stands).exact.1 x in
    subst (λ q. Fit d more w begin others (es ++ Own l ∷ []) q done) (sym (after_push (program_of d) (at_first w (walks_of d.waves w) begin) es (Own l)))
    (taken_place d least more w begin jobs others es p done l std f a h)

-- labels that give and take no job
pub plain_seats : (jobs : Jobs) (least : ℕ) (g h : ℕ) (qs rs : List Seat) → (h ≡ g) × (rs ≡ qs) → Seated jobs qs → least ≤ g
    → Seated jobs rs × (length rs ≡ length qs) × (least ≤ h)
plain_seats jobs least g h qs rs by s k = (subst (Seated jobs) (sym by.1) s, ap length by.1, subst (λ x. least ≤ x) (sym by.0) k)

-- a start
pub record GivenTo (jobs others : Jobs) (c j : ℕ) : Type 0 where
  pub elsewhere : (i : ℕ) → i ≢ c → others i ≡ jobs i
  pub there : (n : ℕ) → IsOpenJob (others c) n → j ≡ n

start_seats : (jobs others : Jobs) (c j : ℕ) (least more : ℕ) → GivenTo jobs others c j → more ≤ j
    → (g h : ℕ) (qs rs : List Seat) → IsStart g qs h rs c j → Seated jobs qs → least ≤ g
    → Seated others rs × (length rs ≡ length qs) × (more ≤ h)
start_seats jobs others c j least more o k g h qs rs by s q = (
  λ i n x. subst (λ ys. HasOpen (slice_index_or ys i Free) n) (sym by.seats)
      (⊎_elim (λ (e : i ≡ c).
      subst (λ z. HasOpen (slice_index_or (slice_set qs c (Open j by.token)) z Free) n) (sym e)
      (subst (λ z. HasOpen z n) (sym (get_or-set_same qs c (Open j by.token) Free by.there)) (o.there n (subst (λ z. IsOpenJob (others z) n) e x))))
      (λ (e : i ≢ c).
      subst (λ z. HasOpen z n) (sym (get_or-set_other qs c i (Open j by.token) Free e)) (s i n (same_open (jobs i) (others i) n (o.elsewhere i e) x)))
      (cases_eq i c)),
  ap length by.seats ∙ length-set qs c (Open j by.token),
  subst (λ x. more ≤ x) (sym by.last) k,
)

-- a job is over: the others are as before
pub record OverAt (jobs others : Jobs) (c : ℕ) : Type 0 where
  pub elsewhere : (i : ℕ) → i ≢ c → others i ≡ jobs i
  pub over : (n : ℕ) → IsOpenJob (others c) n → ⊥

over_open : (jobs others : Jobs) (c : ℕ) → OverAt jobs others c → (i n : ℕ) → IsOpenJob (others i) n → (i ≢ c) × IsOpenJob (jobs i) n
over_open jobs others c o i n x =
    let e : i ≢ c = λ e. o.over n (subst (λ z. IsOpenJob (others z) n) e x) in (e, same_open (jobs i) (others i) n (o.elsewhere i e) x)

over_seats : (jobs others : Jobs) (c : ℕ) → OverAt jobs others c → (qs : List Seat) (q : Seat) → Seated jobs qs → Seated others (slice_set qs c q)
over_seats jobs others c o qs q s i n x =
    let y = over_open jobs others c o i n x in subst (λ z. HasOpen z n) (sym (get_or-set_other qs c i q Free y.0)) (s i n y.1)

collect_seats : (jobs others : Jobs) (c : ℕ) (least : ℕ) → OverAt jobs others c
    → (g h : ℕ) (qs rs : List Seat) → (h ≡ g) × (rs ≡ slice_set qs c Free) → Seated jobs qs → least ≤ g
    → Seated others rs × (length rs ≡ length qs) × (least ≤ h)
collect_seats jobs others c least o g h qs rs by s k =
    (subst (Seated others) (sym by.1) (over_seats jobs others c o qs Free s), ap length by.1 ∙ length-set qs c Free, subst (λ x. least ≤ x) (sym by.0) k)

-- a job is over, and the list stays
stays_fit : (d : SetupData) (least w c : ℕ) (begin : Serving) (jobs others : Jobs) (es : List Event) (p : Place) (done : Bool) → OverAt jobs others c
    → (NoJobs jobs → NoJobs others) → Fit d least w begin jobs es p done → Fit d least w begin others es p done
stays_fit d least w c begin jobs others es p done o none h =
    record {
      stands = h.stands;
      seated = λ i n x. h.seated i n (over_open jobs others c o i n x).1;
      size = h.size;
      given = h.given;
      over = λ t. ((h.over t).0, none (h.over t).1);
    }

open_some : (o : Option Job) (n : ℕ) → IsOpenJob o n → o ≡ None → ⊥
open_some None n x e = x
open_some (Some job) n x e = cc

ran_place : (d : SetupData) (least w i n x : ℕ) (S : Status) (begin : Serving) (jobs others : Jobs) (es : List Event) (p : Place) (done : Bool) (std : Standing)
    → OverAt jobs others i → IsOpenJob (jobs i) n → is_over p ≡ false
    → Fit d least w begin jobs es p done → Fit d least w begin others (es ++ Ran i n x S ∷ []) (next (program_of d) p (Ran i n x S)) done
ran_place d least w i n x S begin jobs others es p done std o opened more h =
    let a : Accepts (program_of d) p (Ran i n x S) = (has_more p.kinds p.walks p.begun more, h.seated i n opened) in
    record {
      stands = (std.follows (program_of d) w (walks_of d.waves w) begin p es (Ran i n x S) h.stands).after a;
      seated = over_seats jobs others i o p.state.seats (run_at (seat p.state i) x S) h.seated;
      size = length-set p.state.seats i (run_at (seat p.state i) x S) ∙ h.size;
      given = h.given;
      over = λ t. absurd (open_some (jobs i) n opened ((h.over t).1 i));
    }

ran_unless : (d : SetupData) (least w i n x : ℕ) (S : Status) (begin : Serving) (jobs others : Jobs) (es : List Event) (done : Bool) (std : Standing) (b : Bool)
    → OverAt jobs others i → IsOpenJob (jobs i) n → is_over (place_by d begin (Some w) (Some es)) ≡ b
    → FitsList d least begin jobs (Some w) (Some es) done → FitsList d least begin others (Some w) (grown_unless b (Ran i n x S) (Some es)) done
ran_unless d least w i n x S begin jobs others es done std true o opened e h =
    stays_fit d least w i begin jobs others es (place_by d begin (Some w) (Some es)) done o (λ none. absurd (open_some (jobs i) n opened (none i))) h
ran_unless d least w i n x S begin jobs others es done std false o opened e h =
    subst (λ q. Fit d least w begin others (es ++ Ran i n x S ∷ []) q done)
    (sym (after_push (program_of d) (at_first w (walks_of d.waves w) begin) es (Ran i n x S)))
    (ran_place d least w i n x S begin jobs others es (place_by d begin (Some w) (Some es)) done std o opened e h)

pub ran_fits : (d : SetupData) (least i n x : ℕ) (S : Status) (begin : Serving) (jobs others : Jobs) (std : Standing) → OverAt jobs others i → IsOpenJob (jobs i) n
    → (served : Option ℕ) (serving : Option (List Event)) (done : Bool) → FitsList d least begin jobs served serving done
    → FitsList d least begin others served (grown_unless (is_over (place_by d begin served serving)) (Ran i n x S) serving) done
ran_fits d least i n x S begin jobs others std o opened served None done h = absurd (open_some (jobs i) n opened (h.none i))
ran_fits d least i n x S begin jobs others std o opened None (Some es) done h = absurd h
ran_fits d least i n x S begin jobs others std o opened (Some w) (Some es) done h =
    ran_unless d least w i n x S begin jobs others es done std (is_over (place_by d begin (Some w) (Some es))) o opened refl h

-- the list is whole
abbrev pub IsAll : SetupData → Serving → Option ℕ → Option (List Event) → Type 0
IsAll d begin served serving = IsSomeAnd served (λ w. IsSomeAnd serving (λ es. IsWhole (program_of d) w (walks_of d.waves w) begin es))

pub all_over : (d : SetupData) (least w : ℕ) (begin : Serving) (jobs : Jobs) (es : List Event) (p : Place) (done : Bool) (std : Standing)
    → Fit d least w begin jobs es p done → IsWhole (program_of d) w (walks_of d.waves w) begin es → IsOver p
all_over d least w begin jobs es p done std h x = (std.whole (program_of d) w (walks_of d.waves w) begin p es h.stands).1 x

collect_unless : (d : SetupData) (least w c : ℕ) (begin : Serving) (jobs others : Jobs) (es : List Event) (done : Bool) (std : Standing) (b : Bool)
    → OverAt jobs others c → (NoJobs jobs → NoJobs others) → is_over (place_by d begin (Some w) (Some es)) ≡ b
    → CanFollow d begin (say.Collect c) (Some w) (Some es) ⊎ IsAll d begin (Some w) (Some es)
    → FitsList d least begin jobs (Some w) (Some es) done
    → FitsList d least begin others (Some w) (grown_unless b (Own (say.Collect c)) (Some es)) done
collect_unless d least w c begin jobs others es done std true o none e x h =
    stays_fit d least w c begin jobs others es (place_by d begin (Some w) (Some es)) done o none h
collect_unless d least w c begin jobs others es done std false o none e x h =
    ⊎_elim (λ f. said_fits d least least begin jobs others (say.Collect c) std (collect_seats jobs others c least o) (Some w) (Some es) done f h)
    (λ a. let p = place_by d begin (Some w) (Some es) in
    absurd (all_over d least w begin jobs es p done std h a (has_more p.kinds p.walks p.begun e))) x

none_grown : (b : Bool) (e : Event) → grown_unless b e None ≡ None
none_grown true e = refl
none_grown false e = refl

pub collect_fits : (d : SetupData) (least c : ℕ) (begin : Serving) (jobs others : Jobs) (std : Standing) → OverAt jobs others c → (NoJobs jobs → NoJobs others)
    → (served : Option ℕ) (serving : Option (List Event)) (done : Bool) → CanFollow d begin (say.Collect c) served serving ⊎ IsAll d begin served serving
    → FitsList d least begin jobs served serving done
    → FitsList d least begin others served (grown_unless (is_over (place_by d begin served serving)) (Own (say.Collect c)) serving) done
collect_fits d least c begin jobs others std o none served None done x h =
    subst (λ z. FitsList d least begin others served z done) (sym (none_grown (is_over (place_by d begin served None)) (Own (say.Collect c))))
    (record { none = none h.none; undone = h.undone; zero_least = h.zero_least })
collect_fits d least c begin jobs others std o none None (Some es) done x h = absurd h
collect_fits d least c begin jobs others std o none (Some w) (Some es) done x h =
    collect_unless d least w c begin jobs others es done std (is_over (place_by d begin (Some w) (Some es))) o none refl x h

pub start_fits : (d : SetupData) (least more c j p a : ℕ) (begin : Serving) (jobs others : Jobs) (std : Standing) → GivenTo jobs others c j → more ≤ j
    → (served : Option ℕ) (serving : Option (List Event)) (done : Bool) → CanFollow d begin (say.Start c j p a) served serving
    → FitsList d least begin jobs served serving done → FitsList d more begin others served (grown (Own (say.Start c j p a)) serving) done
start_fits d least more c j p a begin jobs others std o k served serving done x h =
    said_fits d least more begin jobs others (say.Start c j p a) std (start_seats jobs others c j least more o k) served serving done x h

-- the number of a start is above all that were given, and its processor is one of the platform's
pub record Starting (d : SetupData) (least c j : ℕ) : Type 0 where
  pub above : least < j
  pub there : c < d.processors

pub start_is : (d : SetupData) (least c j p a : ℕ) (begin : Serving) (jobs : Jobs) (std : Standing)
    → (served : Option ℕ) (serving : Option (List Event)) (done : Bool) → CanFollow d begin (say.Start c j p a) served serving
    → FitsList d least begin jobs served serving done → Starting d least c j
start_is d least c j p a begin jobs std None None done x h = absurd x
start_is d least c j p a begin jobs std (Some w) None done x h = absurd x
start_is d least c j p a begin jobs std None (Some es) done x h = absurd h
start_is d least c j p a begin jobs std (Some w) (Some es) done x h =
    let q = place_by d begin (Some w) (Some es) in
    let acc : Accepts (program_of d) q (Own (say.Start c j p a)) = (std.follows (program_of d) w (walks_of d.waves w) begin q es (Own (say.Start c j p a)) h.stands).exact.1 x in
    let by = step_jobs (program_of d) q (say.Start c j p a) acc in
    let number = by.number in
    let given = h.given in
    record { above = omega arith; there = subst (λ n. c < n) h.size by.there }

pub begun_fits : (d : SetupData) (least w : ℕ) (begin : Serving) (jobs : Jobs) (std : Standing) → length begin.seats ≡ d.processors
    → (served : Option ℕ) (serving : Option (List Event)) (done : Bool) → served ≡ Some w → serving ≡ None
    → FitsList d least begin jobs served serving done → FitsList d least begin jobs served (Some (Own (say.Begin w) ∷ [])) done
begun_fits d least w begin jobs std size served (Some es) done e n h = cc
begun_fits d least w begin jobs std size None None done e n h = cc
begun_fits d least w begin jobs std size (Some v) None done e n h =
    let same : v ≡ w = some_same v w e in
    subst (λ k. FitsList d least begin jobs (Some k) (Some (Own (say.Begin w) ∷ [])) done) (sym same)
    (record {
      stands = (std.follows (program_of d) w (walks_of d.waves w) begin (at_first w (walks_of d.waves w) begin) [] (Own (say.Begin w)) (std.begins (program_of d) w (walks_of d.waves w) begin)).after refl;
      seated = λ c k x. absurd (open_some (jobs c) k x (h.none c));
      size = size;
      given = subst (λ k. k ≤ begin.given) (sym h.zero_least) (omega arith);
      over = λ t. absurd (true≢false (sym t ∙ h.undone));
    })
  where
    some_same : (x y : ℕ) → Some x ≡ Some y → x ≡ y
    some_same x y p = cc

pub served_fits : (d : SetupData) (least w : ℕ) (begin : Serving) (jobs : Jobs) (served : Option ℕ) (serving : Option (List Event)) (done : Bool) → served ≡ None
    → FitsList d least begin jobs served serving done → FitsList d least begin jobs (Some w) serving done
served_fits d least w begin jobs served None done e h = h
served_fits d least w begin jobs None (Some es) done e h = absurd h
served_fits d least w begin jobs (Some v) (Some es) done e h = cc

pub done_fits : (d : SetupData) (least : ℕ) (begin : Serving) (jobs : Jobs) (std : Standing) (served : Option ℕ) (serving : Option (List Event)) (done : Bool)
    → IsAll d begin served serving → NoJobs jobs → FitsList d least begin jobs served serving done → FitsList d least begin jobs served serving true
done_fits d least begin jobs std None None done x n h = absurd x
done_fits d least begin jobs std (Some w) None done x n h = absurd x
done_fits d least begin jobs std None (Some es) done x n h = absurd h
done_fits d least begin jobs std (Some w) (Some es) done x n h =
    record {
      stands = h.stands;
      seated = h.seated;
      size = h.size;
      given = h.given;
      over = λ t. (all_over d least w begin jobs es (place_by d begin (Some w) (Some es)) done std h x, n);
    }

-- at the end of the session no job is left
pub none_left : (d : SetupData) (least : ℕ) (begin : Serving) (jobs : Jobs) (served : Option ℕ) (serving : Option (List Event)) (done : Bool) → done ≡ true
    → FitsList d least begin jobs served serving done → NoJobs jobs
none_left d least begin jobs served None done e h = h.none
none_left d least begin jobs None (Some es) done e h = absurd h
none_left d least begin jobs (Some w) (Some es) done e h = (h.over e).1

-- a list is whole exactly where nothing is left to say at its place
nothing_whole : (kinds : List HandlerType) (walks : List OpenWalk) (b : Option Begun) → (HasMore kinds walks b → ⊥) → nothing_left kinds walks b ≡ true
nothing_whole [] [] None o = refl
nothing_whole (k ∷ ks) ws b o = absurd (o tt)
nothing_whole [] (w ∷ ws) b o = absurd (o tt)
nothing_whole [] [] (Some b) o = absurd (o tt)

pub whole_there : (d : SetupData) (least : ℕ) (begin : Serving) (jobs : Jobs) (std : Standing) (served : Option ℕ) (serving : Option (List Event)) (done : Bool)
    → FitsList d least begin jobs served serving done → is_some serving ≡ true → (is_over (place_by d begin served serving) ≡ true) ↔ IsAll d begin served serving
whole_there d least begin jobs std served None done h t = absurd (true≢false (sym t))
whole_there d least begin jobs std None (Some es) done h t = absurd h
whole_there d least begin jobs std (Some w) (Some es) done h t =
    let p = place_by d begin (Some w) (Some es) in
    let both = std.whole (program_of d) w (walks_of d.waves w) begin p es h.stands in
    (λ o. both.0 (has_none p.kinds p.walks p.begun o), λ x. nothing_whole p.kinds p.walks p.begun (both.1 x))

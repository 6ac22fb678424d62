-- Every label keeps that a place stands for the serving list, with the processors' jobs.
use Rattle.std.proofs.Common.{◌≡◌, ◌↔◌, ◌≢◌, ◌<◌, ◌⊎◌, ℕ, zero, suc, Bool, true, false, List, [], ◌∷◌, length, replicate, slice_index_or, slice_set, IsSomeAnd, is_some, Option, Some, None, refl, sym, ap, subst, inl, inr, ⊎_elim, ◌∙◌, true≢false, arith, get_or-set_other, length-set}
use Rattle.std.proofs.lemmas.List.{length-map}
use Rattle.std.specs.Option.{option_map}
use Rattle.smm_base.specs.declared.status.Status.{Status}
use Rattle.cpu_table.specs.Data.{SetupData}
use Rattle.sync_words.specs.declared.label.Label.{Label}
use Rattle.sync_words.specs.declared.label.Label.TheVariants as say
use Rattle.handler_ops.specs.declared.desk.Job.{Job}
use Rattle.serving_place.specs.declared.seat.Seat.TheVariants.{Free}
use Rattle.serving_place.specs.Serving.{Serving}
use Rattle.serving_place.specs.Forms.{Own, Ran}
use Rattle.rendezvous_machine.specs.Machines.{Machine, Session, Member, Gone, nobody, member}
use Rattle.rendezvous_machine.specs.Listed.{first_serving, place_by, place_in, place_of, is_over, grown_unless, CanSay, IsServed}
use Rattle.rendezvous_machine.specs.Services.{written}
use Rattle.rendezvous_machine.specs.Rules.{Rule, IsLeast, Answers}
use Rattle.rendezvous_machine.specs.Effects.{effect, with_member, entered, resumed, worked, answered, given, serves, gathers, made_ready, has_expired, made_closed, made_begun, made_done, says, hears, enclosed, cleared}
use Rattle.rendezvous_machine.specs.Histories.{is_end}
use Rattle.rendezvous_machine.proofs.Changes.{session_after, session_is}
use Rattle.rendezvous_machine.proofs.Sets.{set_at, set_elsewhere, mapped}
use Rattle.rendezvous_machine.proofs.Lists.{Standing, Jobs, IsOpenJob, NoJobs, FitsList, FitsJobs, JobsFit, jobs_of, refit, OverAt, GivenTo, AfterLabel, said_fits, plain_seats, ran_fits, collect_fits, start_fits, start_is, Starting, begun_fits, served_fits, done_fits, none_left, whole_there}

-- JOBS

abbrev pub is_work : Label → Bool
is_work (say.Start c j p a) = true
is_work (say.Run j result S) = true
is_work (say.Collect c) = true
is_work _ = false

job_kept : (m : Machine) (i : ℕ) (x : Member) → x.job ≡ (member m i).job → (c : ℕ) → (member (with_member i x m) c).job ≡ (member m c).job
job_kept m i x e c = set_at (λ k y. y.job ≡ (member m k).job) m.members i c x e refl

pub jobs_same : (d : SetupData) (m : Machine) (i : ℕ) (l : Label) → is_work l ≡ false → (c : ℕ) → (member (effect d m i l) c).job ≡ (member m c).job
jobs_same d m i say.Enter n c = job_kept m i (entered d i (member m i)) refl c
jobs_same d m i say.Turn n c = job_kept m i (record (member m i) { phase = Gone }) refl c
jobs_same d m i say.Arrive n c = set_at (λ k y. y.job ≡ (member m k).job) m.members i c _ refl refl
jobs_same d m i say.Late n c = job_kept m i (record (member m i) { phase = Gone }) refl c
jobs_same d m i say.Quit n c = job_kept m i (record (member m i) { phase = Gone }) refl c
jobs_same d m i say.Report n c = set_at (λ k y. y.job ≡ (member m k).job) m.members i c _ refl refl
jobs_same d m i (say.Close k) n c = ap (λ y. y.job) (mapped enclosed refl m.members c)
jobs_same d m i (say.Write k register width x S) n c = job_kept m k (record (member m k) { image = written S register width x (member m k).image }) refl c
jobs_same d m i (say.Start k j p a) n c = absurd (true≢false n)
jobs_same d m i (say.Run j result S) n c = absurd (true≢false n)
jobs_same d m i (say.Collect k) n c = absurd (true≢false n)
jobs_same d m i (say.Release k) n c = job_kept m k (record (member m k) { is_released = true }) refl c
jobs_same d m i say.Depart n c = job_kept m i (record (member m i) { phase = Gone; has_departed = true }) refl c
jobs_same d m i say.End n c =
    ap (λ y. y.job) (mapped cleared refl (slice_set m.members i (record (member m i) { phase = Gone })) c) ∙ job_kept m i (record (member m i) { phase = Gone }) refl c
jobs_same d m i (say.Resume how) n c = job_kept m i (resumed (member m i)) refl c
jobs_same d m i say.Off n c = set_at (λ k y. y.job ≡ (member m k).job) m.members i c _ refl refl
jobs_same d m i _ n c = refl

begin_same : (d : SetupData) (m : Machine) (i : ℕ) (l : Label) → is_end l ≡ false → first_serving d (effect d m i l) ≡ first_serving d m
begin_same d m i say.End n = absurd (true≢false n)
begin_same d m i _ n = refl

pub set_other : (xs : List Member) (i j : ℕ) (x : Member) → j ≢ i → (slice_index_or (slice_set xs i x) j nobody).job ≡ (slice_index_or xs j nobody).job
set_other xs i j x e = ap (λ y. y.job) (get_or-set_other xs i j x nobody e)

pub finished_open : (o : Option Job) (answer : ℕ × Status) (n : ℕ) → IsOpenJob (option_map (answered answer) o) n → ⊥
finished_open None answer n x = x
finished_open (Some job) answer n x = not_none x.1
  where
    not_none : Some answer ≡ None → ⊥
    not_none e = cc

-- the entry that was set has no open job
pub no_open : (xs : List Member) (c : ℕ) (x : Member) → ((n : ℕ) → IsOpenJob x.job n → ⊥) → (n : ℕ) → IsOpenJob (slice_index_or (slice_set xs c x) c nobody).job n → ⊥
no_open xs c x f n =
    set_elsewhere (λ k y. k ≡ c → IsOpenJob y.job n → ⊥) xs c c x (λ e. f n) (λ e z. z) (λ other within e. absurd (other e)) refl

ran_over : (d : SetupData) (m : Machine) (i result : ℕ) (S : Status) → OverAt (jobs_of m) (λ c. (member (with_member i (worked d (result, S) (member m i)) m) c).job) i
ran_over d m i result S =
    record {
      elsewhere = λ c e. set_other m.members i c (worked d (result, S) (member m i)) e;
      over = no_open m.members i (worked d (result, S) (member m i)) (finished_open (member m i).job (result, S));
    }

collect_over : (m : Machine) (c : ℕ) → OverAt (jobs_of m) (λ k. (member (with_member c (record (member m c) { job = None }) m) k).job) c
collect_over m c =
    record {
      elsewhere = λ k e. set_other m.members c k (record (member m c) { job = None }) e;
      over = no_open m.members c (record (member m c) { job = None }) (λ n z. z);
    }

collect_none : (m : Machine) (c : ℕ) → NoJobs (jobs_of m) → NoJobs (λ k. (member (with_member c (record (member m c) { job = None }) m) k).job)
collect_none m c none k = set_at (λ z y. y.job ≡ None) m.members c k (record (member m c) { job = None }) refl (none k)

given_to : (m : Machine) (c j p a : ℕ) → GivenTo (jobs_of m) (λ k. (member (with_member c (record (member m c) { job = Some (given j p a) }) m) k).job) c j
given_to m c j p a =
    record {
      elsewhere = λ k e. set_other m.members c k (record (member m c) { job = Some (given j p a) }) e;
      there = λ n. set_elsewhere (λ k y. k ≡ c → IsOpenJob y.job n → j ≡ n) m.members c c (record (member m c) { job = Some (given j p a) })
          (λ e x. x.0) (λ e x. absurd x) (λ other within e. absurd (other e)) refl;
    }

-- no job in range is no job at all
no_jobs : (xs : List Member) → ((j : ℕ) → j < length xs → (slice_index_or xs j nobody).job ≡ None) → (c : ℕ) → (slice_index_or xs c nobody).job ≡ None
no_jobs [] f c = refl
no_jobs (x ∷ xs) f zero = f zero (omega arith)
no_jobs (x ∷ xs) f (suc c) = no_jobs xs (λ j within. f (suc j) (omega arith)) c

-- SESSIONS

carry : (d : SetupData) (least : ℕ) (begin : Serving) (jobs : Jobs) (o : Option Session) (f : Session → Session)
    → ((s : Session) → FitsList d least begin jobs s.served s.serving s.is_done → FitsList d least begin jobs (f s).served (f s).serving (f s).is_done)
    → FitsJobs d least begin jobs o → FitsJobs d least begin jobs (option_map f o)
carry d least begin jobs None f k h = h
carry d least begin jobs (Some s) f k h = k s h

carry_rule : (d : SetupData) (least more : ℕ) (begin : Serving) (jobs others : Jobs) (o : Option Session) (F : Session → Type 0) (f : Session → Session)
    → ((s : Session) → F s → FitsList d least begin jobs s.served s.serving s.is_done → FitsList d more begin others (f s).served (f s).serving (f s).is_done)
    → IsSomeAnd o F → FitsJobs d least begin jobs o → FitsJobs d more begin others (option_map f o)
carry_rule d least more begin jobs others None F f k r h = absurd r
carry_rule d least more begin jobs others (Some s) F f k r h = k s r h

elected_fits : (d : SetupData) (least i : ℕ) (begin : Serving) (jobs : Jobs) (o : Option Session) → o ≡ None → FitsJobs d least begin jobs o
    → FitsJobs d least begin jobs (session_after true i say.Elect o)
elected_fits d least i begin jobs None e h = record { none = h.0; undone = refl; zero_least = h.1 }
elected_fits d least i begin jobs (Some s) e h = cc

-- a label by which only the list grows
plain : (d : SetupData) (least i : ℕ) (m : Machine) (l : Label) (std : Standing) → AfterLabel l (jobs_of m) (jobs_of m) least least
    → IsSomeAnd m.session (λ s. (s.bsp ≡ i) × CanSay d m l s) → JobsFit d least m
    → FitsJobs d least (first_serving d m) (jobs_of m) (option_map (says l) m.session)
plain d least i m l std f r h =
    carry_rule d least least (first_serving d m) (jobs_of m) (jobs_of m) m.session _ (says l)
    (λ s q x. said_fits d least least (first_serving d m) (jobs_of m) (jobs_of m) l std f s.served s.serving s.is_done q.1 x) r h

seats_at_first : (n : ℕ) → length (replicate n Free) ≡ n
seats_at_first zero = refl
seats_at_first (suc n) = ap suc (seats_at_first n)

after_fits : (std : Standing) (d : SetupData) (least : ℕ) (m : Machine) (i : ℕ) (l : Label) → is_end l ≡ false → is_work l ≡ false → Rule d m i l → JobsFit d least m
    → FitsJobs d least (first_serving d m) (jobs_of m) (session_after (is_over (place_of d m)) i l m.session)
after_fits std d least m i say.Silent n k r h = carry d least _ _ m.session _ (λ s x. x) h
after_fits std d least m i (say.Excepted e) n k r h = carry d least _ _ m.session _ (λ s x. x) h
after_fits std d least m i (say.Wave w) n k r h = carry d least _ _ m.session _ (λ s x. x) h
after_fits std d least m i say.Enter n k r h = carry d least _ _ m.session _ (λ s x. x) h
after_fits std d least m i say.Turn n k r h = carry d least _ _ m.session _ (λ s x. x) h
after_fits std d least m i say.Arrive n k r h = carry d least _ _ m.session _ (λ s x. x) h
after_fits std d least m i say.Late n k r h = carry d least _ _ m.session _ (λ s x. x) h
after_fits std d least m i say.Elect n k r h = elected_fits d least i _ _ m.session r.1 h
after_fits std d least m i (say.Served w) n k r h =
    carry_rule d least least _ _ _ m.session _ (serves w) (λ s q x. served_fits d least w _ _ s.served s.serving s.is_done q.1.0 x) r h
after_fits std d least m i (say.Gather e) n k r h = carry d least _ _ m.session (gathers e) (λ s x. x) h
after_fits std d least m i (say.Ready c) n k r h = carry d least _ _ m.session made_ready (λ s x. x) h
after_fits std d least m i (say.Expire e) n k r h = carry d least _ _ m.session (has_expired e) (λ s x. x) h
after_fits std d least m i say.Quit n k r h = carry d least _ _ m.session _ (λ s x. x) h
after_fits std d least m i say.Report n k r h = carry d least _ _ m.session _ (λ s x. x) h
after_fits std d least m i (say.Close c) n k r h = carry d least _ _ m.session made_closed (λ s x. x) h
after_fits std d least m i (say.Begin w) n k r h =
    carry_rule d least least (first_serving d m) (jobs_of m) (jobs_of m) m.session _ (made_begun w)
    (λ s q x. begun_fits d least w (first_serving d m) (jobs_of m) std (seats_at_first d.processors) s.served s.serving s.is_done q.1.0 q.1.1 x) r h
after_fits std d least m i (say.Read c register width x S) n k r h = plain d least i m (say.Read c register width x S) std (plain_seats (jobs_of m) least) r.0 h
after_fits std d least m i (say.Write c register width x S) n k r h = plain d least i m (say.Write c register width x S) std (plain_seats (jobs_of m) least) r.0 h
after_fits std d least m i (say.Refuse c cause) n k r h = plain d least i m (say.Refuse c cause) std (plain_seats (jobs_of m) least) r.0 h
after_fits std d least m i (say.Start c j p a) n k r h = absurd (true≢false k)
after_fits std d least m i (say.Run j result S) n k r h = absurd (true≢false k)
after_fits std d least m i (say.Collect c) n k r h = absurd (true≢false k)
after_fits std d least m i say.Done n k r h =
    carry_rule d least least (first_serving d m) (jobs_of m) (jobs_of m) m.session _ made_done
    (λ s q x. done_fits d least (first_serving d m) (jobs_of m) std s.served s.serving s.is_done q.1.1 (no_jobs m.members r.2) x) r.0 h
after_fits std d least m i (say.Release c) n k r h = carry d least _ _ m.session _ (λ s x. x) h
after_fits std d least m i say.Depart n k r h = carry d least _ _ m.session _ (λ s x. x) h
after_fits std d least m i say.End n k r h = absurd (true≢false n)
after_fits std d least m i (say.Resume how) n k r h = carry d least _ _ m.session _ (λ s x. x) h
after_fits std d least m i say.Off n k r h = carry d least _ _ m.session _ (λ s x. x) h
after_fits std d least m i l n k r h = plain d least i m l std (plain_seats (jobs_of m) least) r h

-- a job is run
ran_in : (d : SetupData) (least i n x : ℕ) (S : Status) (begin : Serving) (jobs others : Jobs) (std : Standing) → OverAt jobs others i → IsOpenJob (jobs i) n
    → (o : Option Session) → FitsJobs d least begin jobs o
    → FitsJobs d least begin others (option_map (hears (is_over (place_in d begin o)) (Ran i n x S)) o)
ran_in d least i n x S begin jobs others std over opened None h = absurd (not_both (jobs i) n opened (h.0 i))
  where
    not_both : (o : Option Job) (n : ℕ) → IsOpenJob o n → o ≡ None → ⊥
    not_both None n y e = y
    not_both (Some job) n y e = cc
ran_in d least i n x S begin jobs others std over opened (Some s) h = ran_fits d least i n x S begin jobs others std over opened s.served s.serving s.is_done h

collected_in : (d : SetupData) (least i c : ℕ) (m : Machine) (begin : Serving) (jobs others : Jobs) (std : Standing) → begin ≡ first_serving d m → OverAt jobs others c → (NoJobs jobs → NoJobs others)
    → (o : Option Session) → IsSomeAnd o (λ s. (s.bsp ≡ i) × (CanSay d m (say.Collect c) s ⊎ (IsServed d m s × IsLeast m c))) → FitsJobs d least begin jobs o
    → FitsJobs d least begin others (option_map (hears (is_over (place_in d begin o)) (Own (say.Collect c))) o)
collected_in d least i c m begin jobs others std same over none None r h = absurd r
collected_in d least i c m begin jobs others std same over none (Some s) r h =
    subst (λ b. FitsList d least b jobs s.served s.serving s.is_done
    → FitsList d least b others s.served (grown_unless (is_over (place_by d b s.served s.serving)) (Own (say.Collect c)) s.serving) s.is_done)
    (sym same)
    (collect_fits d least c (first_serving d m) jobs others std over none s.served s.serving s.is_done (weaken r.1)) h
  where
    weaken : CanSay d m (say.Collect c) s ⊎ (IsServed d m s × IsLeast m c) → CanSay d m (say.Collect c) s ⊎ IsServed d m s
    weaken x = ⊎_elim (λ y. inl y) (λ y. inr y.0) x

pub open_of : (d : SetupData) (x : Member) (j result : ℕ) (S : Status) → Answers d x j result S → IsOpenJob x.job j
open_of d x j result S h = from x.job _ h
  where
    from : (o : Option Job) (G : Job → Type 0) → IsSomeAnd o (λ job. (job.number ≡ j) × (job.done ≡ None) × G job) → IsOpenJob o j
    from None G y = y
    from (Some job) G y = (y.0, y.1)

pub fit_step : (std : Standing) (d : SetupData) (least : ℕ) (m : Machine) (i : ℕ) (l : Label) → is_end l ≡ false → Rule d m i l → JobsFit d least m → JobsFit d least (effect d m i l)
fit_step std d least m i (say.Start c j p a) n r h =
    carry_rule d least least (first_serving d m) (jobs_of m) _ m.session _ (says (say.Start c j p a))
    (λ s q x. let y = start_is d least c j p a (first_serving d m) (jobs_of m) std s.served s.serving s.is_done q.1 x in
    let above = y.above in
    start_fits d least least c j p a (first_serving d m) (jobs_of m) _ std (given_to m c j p a) (omega arith) s.served s.serving s.is_done q.1 x) r.0 h
fit_step std d least m i (say.Run j result S) n r h =
    ran_in d least i j result S (first_serving d m) (jobs_of m) _ std (ran_over d m i result S) (open_of d (member m i) j result S r.1) m.session h
fit_step std d least m i (say.Collect c) n r h =
    collected_in d least i c m (first_serving d m) (jobs_of m) _ std refl (collect_over m c) (collect_none m c) m.session r.0 h
fit_step std d least m i l n r h =
    subst (λ b. FitsJobs d least b (jobs_of (effect d m i l)) (effect d m i l).session) (sym (begin_same d m i l n))
    (refit d least (first_serving d m) (jobs_of m) (jobs_of (effect d m i l)) (effect d m i l).session (jobs_same d m i l refl)
    (subst (λ o. FitsJobs d least (first_serving d m) (jobs_of m) o) (sym (session_is d m i l)) (after_fits std d least m i l n refl r h)))

ended_jobs : (d : SetupData) (least i : ℕ) (begin : Serving) (jobs : Jobs) (o : Option Session) → IsSomeAnd o (λ s. (s.bsp ≡ i) × (s.is_done ≡ true))
    → FitsJobs d least begin jobs o → NoJobs jobs
ended_jobs d least i begin jobs None r h = absurd r
ended_jobs d least i begin jobs (Some s) r h = none_left d least begin jobs s.served s.serving s.is_done r.1 h

pub none_at_end : (d : SetupData) (least : ℕ) (m : Machine) (i : ℕ) → Rule d m i say.End → JobsFit d least m → NoJobs (jobs_of m)
none_at_end d least m i r h = ended_jobs d least i (first_serving d m) (jobs_of m) m.session r.0 h

pub fit_any : (std : Standing) (d : SetupData) (m : Machine) (i : ℕ) (l : Label) → Rule d m i l → JobsFit d 0 m → JobsFit d 0 (effect d m i l)
fit_any std d m i say.End r h = (λ c. jobs_same d m i say.End refl c ∙ none_at_end d 0 m i r h c, refl)
fit_any std d m i l r h = fit_step std d 0 m i l refl r h

pub start_in : (std : Standing) (d : SetupData) (least : ℕ) (m : Machine) (i c j p a : ℕ) → Rule d m i (say.Start c j p a) → JobsFit d least m → Starting d least c j
start_in std d least m i c j p a r h = from (first_serving d m) refl m.session r.0 h
  where
    from : (begin : Serving) → begin ≡ first_serving d m → (o : Option Session) → IsSomeAnd o (λ s. (s.bsp ≡ i) × CanSay d m (say.Start c j p a) s) → FitsJobs d least begin (jobs_of m) o → Starting d least c j
    from begin e None x y = absurd x
    from begin e (Some s) x y =
        start_is d least c j p a (first_serving d m) (jobs_of m) std s.served s.serving s.is_done x.1 (subst (λ b. FitsList d least b (jobs_of m) s.served s.serving s.is_done) e y)

-- within the session that gives a job the numbers are at least the job's
pub fit_start : (std : Standing) (d : SetupData) (least : ℕ) (m : Machine) (i c j p a : ℕ) → Rule d m i (say.Start c j p a) → JobsFit d least m → JobsFit d j (effect d m i (say.Start c j p a))
fit_start std d least m i c j p a r h =
    carry_rule d least j (first_serving d m) (jobs_of m) _ m.session _ (says (say.Start c j p a))
    (λ s q x. start_fits d least j c j p a (first_serving d m) (jobs_of m) _ std (given_to m c j p a) (omega arith) s.served s.serving s.is_done q.1 x) r.0 h

-- how many processors there are
pub same_length : (d : SetupData) (m : Machine) (i : ℕ) (l : Label) → length (effect d m i l).members ≡ length m.members
same_length d m i say.Enter = length-set m.members i _
same_length d m i say.Turn = length-set m.members i _
same_length d m i say.Arrive = length-set m.members i _
same_length d m i say.Late = length-set m.members i _
same_length d m i say.Quit = length-set m.members i _
same_length d m i say.Report = length-set m.members i _
same_length d m i (say.Close k) = length-map m.members enclosed
same_length d m i (say.Write k register width x S) = length-set m.members k _
same_length d m i (say.Start k j p a) = length-set m.members k _
same_length d m i (say.Run j result S) = length-set m.members i _
same_length d m i (say.Collect k) = length-set m.members k _
same_length d m i (say.Release k) = length-set m.members k _
same_length d m i say.Depart = length-set m.members i _
same_length d m i say.End = length-map (slice_set m.members i (record (member m i) { phase = Gone })) cleared ∙ length-set m.members i _
same_length d m i (say.Resume how) = length-set m.members i _
same_length d m i say.Off = length-set m.members i _
same_length d m i _ = refl

-- what the place that stands for the list says of it
pub whole_in : (std : Standing) (d : SetupData) (least : ℕ) (m : Machine) (o : Option Session) → FitsJobs d least (first_serving d m) (jobs_of m) o
    → IsSomeAnd o (λ s. is_some s.serving ≡ true) → (is_over (place_in d (first_serving d m) o) ≡ true) ↔ IsSomeAnd o (IsServed d m)
whole_in std d least m None h t = absurd t
whole_in std d least m (Some s) h t = whole_there d least (first_serving d m) (jobs_of m) std s.served s.serving s.is_done h t

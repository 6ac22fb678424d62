-- In every run of the rendezvous machine each label's numbers fit its fields.
use Rattle.std.proofs.Common.{◌≡◌, ◌≢◌, ◌<◌, ◌≤◌, ◌^◌, ◌+◌, ◌⊎◌, ℕ, zero, suc, Bool, true, false, List, [], ◌∷◌, ◌++◌, length, replicate, slice_index_or, IfSome, IsSomeAnd, Option, Some, None, refl, sym, subst, inl, inr, ⊎_elim, ◌∙◌, true≢false, arith}
use Rattle.std.specs.Option.{option_map}
use Rattle.std.proofs.lemmas.List.{length-replicate}
use Rattle.std.proofs.lemmas.List.Sums.{count_by-le-length}
use Rattle.smm_base.specs.declared.status.Status.{Status}
use Rattle.smm_base.specs.Register.{register_number}
use Rattle.save_state_access.specs.Reading.{ReadAnswer}
use Rattle.cpu_table.specs.Data.{SetupData}
use Rattle.chipset.specs.Bounds.{IsPlatform}
use Rattle.chipset.proofs.WaveLemmas.{waves_few, blocked_few}
use Rattle.cpu_table.specs.declared.waves.Wave.{Wave}
use Rattle.sync_words.specs.declared.label.Label.{Label}
use Rattle.sync_words.specs.declared.label.Label.TheVariants as say
use Rattle.trace_text.specs.Spelling.{IsLabel}
use Rattle.handler_ops.specs.declared.desk.Job.{Job}
use Rattle.handler_ops.specs.Course.{after_all, shown_value, read_of}
use Rattle.handler_ops.specs.Procedures.{job_on}
use Rattle.handler_registry.specs.Registrations.{Registrations}
use Rattle.smram_pool.specs.State.{PoolState}
use Rattle.serving_place.specs.declared.seat.Seat.{Seat}
use Rattle.serving_place.specs.declared.seat.Seat.TheVariants.{Free, Open, Done}
use Rattle.serving_place.specs.Serving.{Serving, HasOpen}
use Rattle.serving_place.specs.Forms.{Program, Event, Own, Ran}
use Rattle.serving_place.specs.Beginning.{program_of, walks_of, at_begin}
use Rattle.serving_place.specs.Places.{Place, Accepts, next, at_first, ended}
use Rattle.rendezvous_machine.specs.Machines.{Machine, Session, Member, member, nobody, is_counted, count_of}
use Rattle.rendezvous_machine.specs.Listed.{first_serving, place_by, place_in, place_of, is_over, grown, grown_unless, CanSay}
use Rattle.rendezvous_machine.specs.Services.{Target, NoProcessor, JobOpen, JobFinished, Image, ReadShows, target, setting}
use Rattle.rendezvous_machine.specs.Rules.{Rule}
use Rattle.rendezvous_machine.specs.Effects.{effect, opened, serves, gathers, made_ready, has_expired, made_closed, made_begun, made_done, says, hears}
use Rattle.rendezvous_machine.specs.Runs.{Said, IsRun}
use Rattle.rendezvous_machine.proofs.Changes.{session_after, session_is, step_of, with_rule, without_rule}
use Rattle.rendezvous_machine.proofs.Waves.{known}
use Rattle.rendezvous_machine.proofs.Lists.{Standing, Jobs, IsOpenJob, FitsList, FitsJobs, JobsFit, jobs_of, CanFollow, IsAll, whole_there}
use Rattle.rendezvous_machine.proofs.Working.{fit_any, open_of, same_length}
use Rattle.report_laws.specs.Widths.{KindsFit, WavesFit}
use Rattle.report_laws.proofs.Values.{read_shows, job_fits}
use Rattle.report_laws.proofs.Pools.{PoolFits}
use Rattle.report_laws.proofs.Servings.{SeatFits, ReadFits, EachLive}
use Rattle.report_laws.proofs.Steps.{ProgramFits, PlaceFits, step_goes, run_goes}

-- what is asked of a platform
pub record PlatformFits (d : SetupData) : Type 0 where
  pub platform : IsPlatform d
  pub units : d.ops < 2 ^ 32
  pub program : ProgramFits (program_of d)
  pub kinds : WavesFit d.waves

-- THE PLACE

after_push : (program : Program) (p : Place) (es : List Event) (e : Event) → after_all program p (es ++ e ∷ []) ≡ next program (after_all program p es) e
after_push program p [] e = refl
after_push program p (x ∷ es) e = after_push program (next program p x) es e

accepts_by : (std : Standing) (d : SetupData) (begin : Serving) (jobs : Jobs) (l : Label) (served : Option ℕ) (serving : Option (List Event)) (done : Bool)
    → CanFollow d begin l served serving → FitsList d 0 begin jobs served serving done → Accepts (program_of d) (place_by d begin served serving) (Own l)
accepts_by std d begin jobs l None None done x h = absurd x
accepts_by std d begin jobs l None (Some es) done x h = absurd x
accepts_by std d begin jobs l (Some w) None done x h = absurd x
accepts_by std d begin jobs l (Some w) (Some es) done x h =
    (std.follows (program_of d) w (walks_of d.waves w) begin (place_by d begin (Some w) (Some es)) es (Own l) h.stands).exact.1 x

place_said : (d : SetupData) (begin : Serving) (l : Label) (served : Option ℕ) (serving : Option (List Event)) → CanFollow d begin l served serving
    → place_by d begin served (grown (Own l) serving) ≡ next (program_of d) (place_by d begin served serving) (Own l)
place_said d begin l None None x = absurd x
place_said d begin l None (Some es) x = absurd x
place_said d begin l (Some w) None x = absurd x
place_said d begin l (Some w) (Some es) x = after_push (program_of d) (at_first w (walks_of d.waves w) begin) es (Own l)

-- what a label says, and the place after it
record Speaks (d : SetupData) (begin : Serving) (l : Label) (o : Option Session) : Type 0 where
  label : IsLabel l
  place : PlaceFits (place_in d begin o)

-- what is kept of the machine: its numbers are those of the platform
pub record Numbered (d : SetupData) (m : Machine) : Type 0 where
  pub waves : m.waves ≤ length d.waves
  pub source : m.source ≤ m.waves
  pub excepted : m.last_excepted ≤ 64
  pub served : IfSome m.session (λ s. IfSome s.served (λ w. w ≤ length d.waves))
  pub members : length m.members ≡ d.processors
  pub jobs : JobsFit d 0 m
  pub place : PlaceFits (place_of d m)

pub record Stepped (d : SetupData) (m : Machine) (i : ℕ) (l : Label) : Type 0 where
  pub label : IsLabel l
  pub place : PlaceFits (place_of d (effect d m i l))

abbrev pub EachLabel : List Said → Type 0
EachLabel [] = Unit {0}
EachLabel (e ∷ es) = IsLabel e.1 × EachLabel es

some_same : (x y : ℕ) → Some x ≡ Some y → x ≡ y
some_same x y e = cc

module _ (std : Standing) (d : SetupData) (fits : PlatformFits d) where
  -- said while serving
  serve_goes : (begin : Serving) (jobs : Jobs) (i : ℕ) (l : Label) (o : Option Session) → IsSomeAnd o (λ s. (s.bsp ≡ i) × CanFollow d begin l s.served s.serving)
      → FitsJobs d 0 begin jobs o → PlaceFits (place_in d begin o) → ReadFits l → Speaks d begin l (option_map (says l) o)
  serve_goes begin jobs i l None x h f r = absurd x
  serve_goes begin jobs i l (Some s) x h f r =
      let goes = step_goes (program_of d) fits.program (place_by d begin s.served s.serving) l f r (accepts_by std d begin jobs l s.served s.serving s.is_done x.1 h) in
      record { label = goes.label; place = subst PlaceFits (sym (place_said d begin l s.served s.serving x.1)) goes.place }

  -- the place stays
  stays : (begin : Serving) (f : Session → Session) (o : Option Session) → ((s : Session) → place_by d begin (f s).served (f s).serving ≡ place_by d begin s.served s.serving)
      → PlaceFits (place_in d begin o) → PlaceFits (place_in d begin (option_map f o))
  stays begin f None same h = h
  stays begin f (Some s) same h = subst PlaceFits (sym (same s)) h

  elected : (begin : Serving) (i : ℕ) (o : Option Session) → o ≡ None → PlaceFits (place_in d begin o) → PlaceFits (place_in d begin (Some (opened i)))
  elected begin i None e h = h
  elected begin i (Some s) e h = cc

  served_by : (begin : Serving) (jobs : Jobs) (w : ℕ) (served : Option ℕ) (serving : Option (List Event)) (done : Bool) → served ≡ None → FitsList d 0 begin jobs served serving done
      → PlaceFits (place_by d begin served serving) → PlaceFits (place_by d begin (Some w) serving)
  served_by begin jobs w None None done e h f = f
  served_by begin jobs w None (Some es) done e h f = absurd h
  served_by begin jobs w (Some v) serving done e h f = cc

  served_goes : (begin : Serving) (jobs : Jobs) (i w v : ℕ) (o : Option Session) → IsSomeAnd o (λ s. (s.bsp ≡ i) × ((s.served ≡ None) × (w ≡ v))) → FitsJobs d 0 begin jobs o
      → PlaceFits (place_in d begin o) → PlaceFits (place_in d begin (option_map (serves w) o))
  served_goes begin jobs i w v None x h f = absurd x
  served_goes begin jobs i w v (Some s) x h f = served_by begin jobs w s.served s.serving s.is_done x.1.0 h f

  kinds_in : (waves : List Wave) (n : ℕ) → WavesFit waves → KindsFit (walks_of waves (suc n))
  kinds_in [] n h = tt
  kinds_in (wave ∷ waves) zero h = h.0
  kinds_in (wave ∷ waves) (suc n) h = kinds_in waves n h.1

  kinds_of : (w : ℕ) → KindsFit (walks_of d.waves w)
  kinds_of zero = tt
  kinds_of (suc n) = kinds_in d.waves n fits.kinds

  -- a place that hasn't begun
  begun_by : (begin : Serving) (w : ℕ) (served : Option ℕ) (serving : Option (List Event)) → served ≡ Some w → serving ≡ None → PlaceFits (place_by d begin served serving)
      → PlaceFits (place_by d begin served (Some (Own (say.Begin w) ∷ [])))
  begun_by begin w None serving e n f = cc
  begun_by begin w (Some v) None e n f = record { kinds = kinds_of v; walks = tt; begun = tt; known = f.known; units = f.units }
  begun_by begin w (Some v) (Some es) e n f = cc

  begun_goes : (begin : Serving) (i w : ℕ) (P : Session → Type 0) (o : Option Session) → IsSomeAnd o (λ s. (s.bsp ≡ i) × ((s.served ≡ Some w) × (s.serving ≡ None) × P s))
      → PlaceFits (place_in d begin o) → PlaceFits (place_in d begin (option_map (made_begun w) o))
  begun_goes begin i w P None x f = absurd x
  begun_goes begin i w P (Some s) x f = begun_by begin w s.served s.serving x.1.0 x.1.1 f

  -- JOBS

  open_few : (q : Seat) (n : ℕ) → HasOpen q n → SeatFits q → n < 2 ^ 32
  open_few Free n h k = absurd h
  open_few (Open j t) n h k = subst (λ z. z < 2 ^ 32) h k
  open_few (Done j t x S) n h k = absurd h

  none_open : (o : Option Job) (n : ℕ) → o ≡ None → IsOpenJob o n → ⊥
  none_open None n e h = h
  none_open (Some job) n e h = cc

  number_by : (begin : Serving) (jobs : Jobs) (i n : ℕ) (served : Option ℕ) (serving : Option (List Event)) (done : Bool) → FitsList d 0 begin jobs served serving done
      → PlaceFits (place_by d begin served serving) → IsOpenJob (jobs i) n → n < 2 ^ 32
  number_by begin jobs i n served None done h f x = absurd (none_open (jobs i) n (h.none i) x)
  number_by begin jobs i n None (Some es) done h f x = absurd h
  number_by begin jobs i n (Some w) (Some es) done h f x =
      open_few (slice_index_or (place_by d begin (Some w) (Some es)).state.seats i Free) n (h.seated i n x) (f.known.seats_fit i)

  number_in : (begin : Serving) (jobs : Jobs) (i n : ℕ) (o : Option Session) → FitsJobs d 0 begin jobs o → PlaceFits (place_in d begin o) → IsOpenJob (jobs i) n → n < 2 ^ 32
  number_in begin jobs i n None h f x = absurd (none_open (jobs i) n (h.0 i) x)
  number_in begin jobs i n (Some s) h f x = number_by begin jobs i n s.served s.serving s.is_done h f x

  result_in : (o : Option Job) (i j result : ℕ) (S : Status) (x : Member) → IsSomeAnd o (λ job. (job.number ≡ j) × (job.done ≡ None) × ((job_on d.procedures job x.image).answer ≡ (result, S))) → result < 2 ^ 64
  result_in None i j result S x h = absurd h
  result_in (Some job) i j result S x h = subst (λ (a : ℕ × Status). a.0 < 2 ^ 64) h.2 (job_fits d.procedures job x.image)

  ran_unless : (b : Bool) (begin : Serving) (i j x : ℕ) (S : Status) (served : Option ℕ) (serving : Option (List Event)) → x < 2 ^ 64 → PlaceFits (place_by d begin served serving)
      → PlaceFits (place_by d begin served (grown_unless b (Ran i j x S) serving))
  ran_unless true begin i j x S served serving few f = f
  ran_unless false begin i j x S None serving few f = f
  ran_unless false begin i j x S (Some w) None few f = f
  ran_unless false begin i j x S (Some w) (Some es) few f =
      subst PlaceFits (sym (after_push (program_of d) (at_first w (walks_of d.waves w) begin) es (Ran i j x S)))
      (run_goes (program_of d) fits.program (place_by d begin (Some w) (Some es)) i j x S f few)

  ran_goes : (b : Bool) (begin : Serving) (i j x : ℕ) (S : Status) (o : Option Session) → x < 2 ^ 64 → PlaceFits (place_in d begin o) → PlaceFits (place_in d begin (option_map (hears b (Ran i j x S)) o))
  ran_goes b begin i j x S None few f = f
  ran_goes b begin i j x S (Some s) few f = ran_unless b begin i j x S s.served s.serving few f

  -- a job is collected: by the list, or after it
  collect_by : (b : Bool) (begin : Serving) (jobs : Jobs) (c : ℕ) (served : Option ℕ) (serving : Option (List Event)) (done : Bool) → is_over (place_by d begin served serving) ≡ b
      → CanFollow d begin (say.Collect c) served serving ⊎ IsAll d begin served serving → FitsList d 0 begin jobs served serving done → PlaceFits (place_by d begin served serving)
      → PlaceFits (place_by d begin served (grown_unless b (Own (say.Collect c)) serving))
  collect_by true begin jobs c served serving done e x h f = f
  collect_by false begin jobs c None serving done e x h f = f
  collect_by false begin jobs c (Some w) None done e x h f = f
  collect_by false begin jobs c (Some w) (Some es) done e x h f =
      ⊎_elim
      (λ (y : CanFollow d begin (say.Collect c) (Some w) (Some es)).
      subst PlaceFits (sym (after_push (program_of d) (at_first w (walks_of d.waves w) begin) es (Own (say.Collect c))))
      (step_goes (program_of d) fits.program (place_by d begin (Some w) (Some es)) (say.Collect c) f tt (accepts_by std d begin jobs (say.Collect c) (Some w) (Some es) done y h)).place)
      (λ (y : IsAll d begin (Some w) (Some es)). absurd (true≢false (sym ((whole_there d 0 begin jobs std (Some w) (Some es) done h refl).1 y) ∙ e)))
      x

  collect_goes : (begin : Serving) (jobs : Jobs) (i c : ℕ) (P : Session → Type 0) (o : Option Session)
      → IsSomeAnd o (λ s. (s.bsp ≡ i) × (CanFollow d begin (say.Collect c) s.served s.serving ⊎ (IsAll d begin s.served s.serving × P s))) → FitsJobs d 0 begin jobs o
      → PlaceFits (place_in d begin o) → PlaceFits (place_in d begin (option_map (hears (is_over (place_in d begin o)) (Own (say.Collect c))) o))
  collect_goes begin jobs i c P None x h f = f
  collect_goes begin jobs i c P (Some s) x h f =
      collect_by (is_over (place_by d begin s.served s.serving)) begin jobs c s.served s.serving s.is_done refl
      (⊎_elim (λ (y : CanFollow d begin (say.Collect c) s.served s.serving). inl y) (λ (y : IsAll d begin s.served s.serving × P s). inr y.0) x.1) h f

  -- THE MACHINE

  count_few : (m : Machine) → length m.members ≡ d.processors → count_of m ≤ 64
  count_few m e = let most = count_by-le-length is_counted m.members in let n = fits.platform.few.1 in omega (arith, most, e, n)

  reads_fit : (t : Target) (answer : Bool → ReadAnswer) (x : ℕ) (S : Status) → ((b : Bool) → shown_value (answer b) < 2 ^ 64) → ReadShows t answer x S → x < 2 ^ 64
  reads_fit NoProcessor answer x S f h = let z = h.0 in omega (arith, z)
  reads_fit JobOpen answer x S f h = let z = h.0 in omega (arith, z)
  reads_fit JobFinished answer x S f h = absurd h
  reads_fit (Image b) answer x S f h = subst (λ z. z < 2 ^ 64) (sym h.0) (f b)

  served_at : (o : Option ℕ) (w : ℕ) → o ≡ Some w → IfSome o (λ v. v ≤ length d.waves) → w ≤ length d.waves
  served_at None w e k = cc
  served_at (Some v) w e k = subst (λ z. z ≤ length d.waves) (some_same v w e) k

  served_few : (o : Option Session) (i w : ℕ) (P Q : Session → Type 0) → IsSomeAnd o (λ s. (s.bsp ≡ i) × ((s.served ≡ Some w) × P s × Q s)) → IfSome o (λ s. IfSome s.served (λ v. v ≤ length d.waves)) → w ≤ length d.waves
  served_few None i w P Q h k = absurd h
  served_few (Some s) i w P Q h k = served_at s.served w h.1.0 k

  source_is : (o : Option Session) (i w v : ℕ) (P : Session → Type 0) → IsSomeAnd o (λ s. (s.bsp ≡ i) × (P s × (w ≡ v))) → w ≡ v
  source_is None i w v P h = absurd h
  source_is (Some s) i w v P h = h.1.1

  gathers_is : (o : Option Session) (i e v : ℕ) (P Q : Session → Type 0) → IsSomeAnd o (λ s. (s.bsp ≡ i) × (P s × Q s × (e ≡ v))) → e ≡ v
  gathers_is None i e v P Q h = absurd h
  gathers_is (Some s) i e v P Q h = h.1.2

  round_is : (o : Option Session) (i k : ℕ) (P Q : Session → Type 0) → IsSomeAnd o (λ s. (s.bsp ≡ i) × (P s × (s.expired + 1 ≡ k) × (k ≤ 2) × Q s)) → (1 ≤ k) × (k ≤ 2)
  round_is None i k P Q h = absurd h
  round_is (Some s) i k P Q h = let e = h.1.1 in let l = h.1.2 in (omega (arith, e), l)

  -- a processor with a job, or in the closed set, is one of the platform's
  job_within : (xs : List Member) (c : ℕ) (F : Job → Type 0) → IsSomeAnd (slice_index_or xs c nobody).job F → c < length xs
  job_within [] c F h = absurd h
  job_within (x ∷ xs) zero F h = omega arith
  job_within (x ∷ xs) (suc c) F h = omega (arith, job_within xs c F h)

  closed_within : (xs : List Member) (c : ℕ) → (slice_index_or xs c nobody).in_closed_set ≡ true → c < length xs
  closed_within [] c h = absurd (true≢false (sym h))
  closed_within (x ∷ xs) zero h = omega arith
  closed_within (x ∷ xs) (suc c) h = omega (arith, closed_within xs c h)

  -- a new session begins with what the last one left
  zeros : (n k : ℕ) → slice_index_or (replicate n 0) k 0 < 2 ^ 64
  zeros zero k = omega arith
  zeros (suc n) zero = omega arith
  zeros (suc n) (suc k) = zeros n k

  frees : (n k : ℕ) → SeatFits (slice_index_or (replicate n Free) k Free)
  frees zero k = tt
  frees (suc n) zero = tt
  frees (suc n) (suc k) = frees n k

  pub begins : (g : Registrations) (pool : PoolState) → EachLive g.live → g.last < 2 ^ 32 → PoolFits pool → PlaceFits (ended (at_begin d g pool))
  begins g pool live last p =
      record {
        kinds = tt;
        walks = tt;
        begun = tt;
        known =
            record {
              variables_fit = zeros 8;
              live_fit = live;
              last_fits = last;
              pool_fits = p;
              few = subst (λ n. n ≤ 64) (sym (length-replicate d.processors Free)) fits.platform.few.1;
              seats_fit = frees d.processors;
              tokens_fit = tt;
            };
        units = let u = fits.units in omega (arith, u);
      }

  plain : (m : Machine) (i : ℕ) (l : Label) → IsSomeAnd m.session (λ s. (s.bsp ≡ i) × CanSay d m l s) → ReadFits l → Numbered d m → Speaks d (first_serving d m) l (option_map (says l) m.session)
  plain m i l x r h = serve_goes (first_serving d m) (jobs_of m) i l m.session x h.jobs h.place r

  step_fits : (m : Machine) (i : ℕ) (l : Label) → Rule d m i l → Numbered d m → Stepped d m i l
  step_fits m i say.Silent r h = record { label = tt; place = h.place }
  step_fits m i (say.Excepted e) r h =
      let few = blocked_few d (m.waves + 1) fits.platform in let e_is = r.2 in record { label = omega (arith, few, e_is); place = h.place }
  step_fits m i (say.Wave w) r h = let few = waves_few d fits.platform in let below = r.0.1 in let w_is = r.2 in record { label = omega (arith, few, below, w_is); place = h.place }
  step_fits m i say.Enter r h = record { label = tt; place = h.place }
  step_fits m i say.Turn r h = record { label = tt; place = h.place }
  step_fits m i say.Arrive r h = record { label = tt; place = h.place }
  step_fits m i say.Late r h = record { label = tt; place = h.place }
  step_fits m i say.Elect r h = record { label = tt; place = elected (first_serving d m) i m.session r.1 h.place }
  step_fits m i (say.Served w) r h =
      let few = waves_few d fits.platform in
      let w_is = source_is m.session i w m.source _ r in
      let source = h.source in
      let waves = h.waves in
      record { label = omega (arith, few, w_is, source, waves); place = served_goes (first_serving d m) (jobs_of m) i w m.source m.session r h.jobs h.place }
  step_fits m i (say.Gather e) r h =
      let e_is = gathers_is m.session i e m.last_excepted _ _ r.0 in
      let few = h.excepted in
      record { label = omega (arith, e_is, few); place = stays (first_serving d m) (gathers e) m.session (λ s. refl) h.place }
  step_fits m i (say.Ready n) r h =
      let few = count_few m h.members in
      let n_is = r.1 in
      record { label = omega (arith, few, n_is); place = stays (first_serving d m) made_ready m.session (λ s. refl) h.place }
  step_fits m i (say.Expire k) r h = record { label = round_is m.session i k _ _ r; place = stays (first_serving d m) (has_expired k) m.session (λ s. refl) h.place }
  step_fits m i say.Quit r h = record { label = tt; place = h.place }
  step_fits m i say.Report r h = record { label = tt; place = h.place }
  step_fits m i (say.Close n) r h =
      let few = count_few m h.members in
      let n_is = r.1 in
      record { label = omega (arith, few, n_is); place = stays (first_serving d m) made_closed m.session (λ s. refl) h.place }
  step_fits m i (say.Begin w) r h =
      let few = waves_few d fits.platform in
      let below = served_few m.session i w _ _ r h.served in
      record { label = omega (arith, few, below); place = begun_goes (first_serving d m) i w _ m.session r h.place }
  step_fits m i (say.Read c register width x S) r h =
      let shown : x < 2 ^ 64 =
      reads_fit (target d m i c) (λ b. read_of (setting d i) b (member m c).image c (register_number register) width) x S
      (λ b. (read_shows (member m c).image b (slice_index_or d.ids c 0) (register_number register) (replicate width 0)).value) r.1 in
      let s = plain m i (say.Read c register width x S) r.0 shown h in
      record { label = s.label; place = s.place }
  step_fits m i (say.Write c register width x S) r h = let s = plain m i (say.Write c register width x S) r.0 tt h in record { label = s.label; place = s.place }
  step_fits m i (say.Refuse c cause) r h = let s = plain m i (say.Refuse c cause) r.0 tt h in record { label = s.label; place = s.place }
  step_fits m i (say.Start c j p a) r h = let s = plain m i (say.Start c j p a) r.0 tt h in record { label = s.label; place = s.place }
  step_fits m i (say.Run j result S) r h =
      let x = result_in (member m i).job i j result S (member m i) r.1 in
      let number = number_in (first_serving d m) (jobs_of m) i j m.session h.jobs h.place (open_of d (member m i) j result S r.1) in
      record { label = (number, x); place = ran_goes (is_over (place_of d m)) (first_serving d m) i j result S m.session x h.place }
  step_fits m i (say.Collect c) r h =
      let within = job_within m.members c _ r.1 in
      let size = h.members in
      let few = fits.platform.few.1 in
      record { label = omega (arith, within, size, few); place = collect_goes (first_serving d m) (jobs_of m) i c _ m.session r.0 h.jobs h.place }
  step_fits m i say.Done r h = record { label = tt; place = stays (first_serving d m) made_done m.session (λ s. refl) h.place }
  step_fits m i (say.Release c) r h =
      let within = closed_within m.members c r.2 in
      let size = h.members in
      let few = fits.platform.few.1 in
      record { label = omega (arith, within, size, few); place = h.place }
  step_fits m i say.Depart r h = record { label = tt; place = h.place }
  step_fits m i say.End r h =
      let k = h.place.known in
      record { label = tt; place = begins (place_of d m).state.registrations (place_of d m).state.pool k.live_fit k.last_fits k.pool_fits }
  step_fits m i (say.Resume how) r h = record { label = tt; place = h.place }
  step_fits m i say.Off r h = record { label = tt; place = h.place }
  step_fits m i l r h = let s = plain m i l r tt h in record { label = s.label; place = s.place }

  -- WHAT STAYS

  waves_after : (m : Machine) (i : ℕ) (l : Label) → Rule d m i l → m.waves ≤ length d.waves → (effect d m i l).waves ≤ length d.waves
  waves_after m i (say.Wave w) r h = let below = r.0.1 in let w_is = r.2 in omega (arith, below, w_is)
  waves_after m i _ r h = h

  excepted_after : (m : Machine) (i : ℕ) (l : Label) → Rule d m i l → m.last_excepted ≤ 64 → (effect d m i l).last_excepted ≤ 64
  excepted_after m i (say.Excepted e) r h = let few = blocked_few d (m.waves + 1) fits.platform in let e_is = r.2 in omega (arith, few, e_is)
  excepted_after m i _ r h = h

  served_after : (m : Machine) (i : ℕ) (l : Label) → Rule d m i l → m.source ≤ length d.waves → IfSome m.session (λ s. IfSome s.served (λ w. w ≤ length d.waves))
      → IfSome (session_after (is_over (place_of d m)) i l m.session) (λ s. IfSome s.served (λ w. w ≤ length d.waves))
  served_after m i say.Elect r k h = tt
  served_after m i say.End r k h = tt
  served_after m i (say.Served w) r k h =
      with_rule m.session _ (λ s. IfSome s.served (λ w. w ≤ length d.waves)) (λ s. IfSome s.served (λ w. w ≤ length d.waves)) (serves w) (λ s q b. let e = q.1.1 in omega (arith, e, k)) r h
  served_after m i l r k h =
      without_rule m.session (λ s. IfSome s.served (λ w. w ≤ length d.waves)) (λ s. IfSome s.served (λ w. w ≤ length d.waves)) (step_of (is_over (place_of d m)) i l) (λ s b. b) h

  pub numbered_after : (m : Machine) (i : ℕ) (l : Label) → Rule d m i l → Numbered d m → Numbered d (effect d m i l)
  numbered_after m i l r h =
      let source = h.source in
      let waves = h.waves in
      record {
        waves = waves_after m i l r h.waves;
        source = known d m i l r h.source;
        excepted = excepted_after m i l r h.excepted;
        served = subst (λ o. IfSome o (λ s. IfSome s.served (λ w. w ≤ length d.waves))) (sym (session_is d m i l)) (served_after m i l r (omega (arith, source, waves)) h.served);
        members = same_length d m i l ∙ h.members;
        jobs = fit_any std d m i l r h.jobs;
        place = (step_fits m i l r h).place;
      }

  -- the labels of a run
  pub labels_fit : (m : Machine) (es : List Said) → IsRun d m es → Numbered d m → EachLabel es
  labels_fit m [] run h = tt
  labels_fit m (e ∷ es) run h = ((step_fits m e.0 e.1 run.0 h).label, labels_fit (effect d m e.0 e.1) es run.1 (numbered_after m e.0 e.1 run.0 h))

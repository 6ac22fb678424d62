-- A job that was given is run once before the session ends, with the result of its procedure.
use Rattle.std.proofs.Common.{◌≡◌, ◌≢◌, ◌<◌, ◌⊎◌, ℕ, zero, suc, ◌+◌, Bool, true, false, ◌&&◌, ◌==◌, cond, List, [], ◌∷◌, ◌++◌, length, map, zip, count_by, slice_index_or, IsSomeAnd, IsSome, is_some, Option, Some, None, refl, sym, ap, subst, inl, inr, ⊎_elim, ◌∙◌, true≢false, arith, get_or-set_same, eq-eqb, ne_eqb, zero-add}
use Rattle.std.proofs.lemmas.List.Sums.{sum_by-cons}
use Rattle.std.proofs.lemmas.Bool.{cases_eq}
use Rattle.smm_base.specs.declared.status.Status.{Status}
use Rattle.save_state_map.specs.Images.{ImageContents}
use Rattle.cpu_regs.specs.Registers.{Registers}
use Rattle.cpu_table.specs.Data.{SetupData}
use Rattle.sync_words.specs.declared.label.Label.{Label}
use Rattle.sync_words.specs.declared.label.Label.TheVariants as say
use Rattle.handler_ops.specs.declared.desk.Job.{Job}
use Rattle.handler_ops.specs.Procedures.{job_on}
use Rattle.rendezvous_machine.specs.Machines.{Machine, Member, nobody, member, first_member, beginning}
use Rattle.rendezvous_machine.specs.Rules.{Rule}
use Rattle.rendezvous_machine.specs.Effects.{effect, worked, given}
use Rattle.rendezvous_machine.specs.Runs.{Said, IsRun, machine_after}
use Rattle.rendezvous_machine.specs.Histories.{is_end, has_end, is_run}
use Rattle.rendezvous_machine.proofs.Walks.{front_of, rest_of, neither, kept, kept_open}
use Rattle.rendezvous_machine.proofs.Sets.{set_elsewhere}
use Rattle.rendezvous_machine.proofs.Lists.{Standing, IsOpenJob, JobsFit}
use Rattle.rendezvous_machine.proofs.Working.{jobs_same, fit_step, fit_any, fit_start, start_in, none_at_end, finished_open, set_other, open_of, same_length}

-- the job was run, or another one was given
abbrev IsPast : ℕ → ℕ → Machine → Type 0
IsPast c j m = IsOpenJob (member m c).job j → ⊥

abbrev IsGiven : ℕ → ℕ → ℕ → ℕ → Machine → Type 0
IsGiven c j p a m = (member m c).job ≡ Some (given j p a)

not_run : (a b : Bool) → (a ≡ true → b ≡ true → ⊥) → (a && b) ≡ false
not_run true true n = absurd (n refl refl)
not_run true false n = refl
not_run false b n = refl

is_same : (x y : ℕ) → (x == y) ≡ true → x ≡ y
is_same x y e = ⊎_elim (λ (k : x ≡ y). k) (λ (k : x ≢ y). absurd (true≢false (sym e ∙ ne_eqb x y k))) (cases_eq x y)

same_job : (o : Option Job) (j n : ℕ) → IsOpenJob o j → j ≡ n → IsOpenJob o n
same_job o j n x e = subst (λ k. IsOpenJob o k) e x

not_here : {A : Type 0} (o : Option A) (x : A) → o ≡ None → o ≡ Some x → ⊥
not_here None x e f = cc
not_here (Some y) x e f = cc

-- each label leaves it past
past_step : (std : Standing) (d : SetupData) (m : Machine) (i : ℕ) (l : Label) (c j : ℕ) → Rule d m i l → JobsFit d j m → IsPast c j m
    → (is_run c j (i, l) ≡ false) × IsPast c j (effect d m i l)
past_step std d m i (say.Start k n p a) c j r h past =
    let above = (start_in std d j m i k n p a r h).above in (
      refl,
      set_elsewhere (λ z y. z ≡ c → IsOpenJob y.job j → ⊥) m.members k c (record (member m k) { job = Some (given n p a) })
          (λ e x. let same = x.0 in omega arith) (λ e x. x) (λ other within e. past) refl,
    )
past_step std d m i (say.Run n result S) c j r h past =
    let opened = open_of d (member m i) n result S r.1 in (
      not_run (n == j) (i == c) (λ e f. past (subst (λ k. IsOpenJob (member m k).job j) (is_same i c f) (same_job (member m i).job n j opened (is_same n j e)))),
      set_elsewhere (λ z y. z ≡ c → IsOpenJob y.job j → ⊥) m.members i c (worked d (result, S) (member m i))
          (λ e. finished_open (member m i).job (result, S) j) (λ e x. x) (λ other within e. past) refl,
    )
past_step std d m i (say.Collect k) c j r h past = (
  refl,
  set_elsewhere (λ z y. z ≡ c → IsOpenJob y.job j → ⊥) m.members k c (record (member m k) { job = None }) (λ e x. x) (λ e x. x) (λ other within e. past) refl,
)
past_step std d m i l c j r h past = (refl, λ x. past (subst (λ o. IsOpenJob o j) (jobs_same d m i l refl c) x))

-- each label leaves it given, but the run of it
record WasRun (d : SetupData) (m : Machine) (i : ℕ) (l : Label) (c j : ℕ) : Type 0 where
  run : is_run c j (i, l) ≡ true
  past : IsPast c j (effect d m i l)

record StaysGiven (d : SetupData) (m : Machine) (i : ℕ) (l : Label) (c j p a : ℕ) : Type 0 where
  other : is_run c j (i, l) ≡ false
  given_still : IsGiven c j p a (effect d m i l)

number_of_given : (o : Option Job) (j n p a : ℕ) → o ≡ Some (given j p a) → IsOpenJob o n → j ≡ n
number_of_given None j n p a e x = absurd x
number_of_given (Some job) j n p a e x = let same = number_same job e in sym same ∙ x.0
  where
    number_same : (job : Job) → Some job ≡ Some (given j p a) → job.number ≡ j
    number_same job e = ap (λ o. number_or o) e
      where
        number_or : Option Job → ℕ
        number_or None = 0
        number_or (Some x) = x.number

not_finished : (o : Option Job) (j p a : ℕ) → o ≡ Some (given j p a) → IsSomeAnd o (λ job. IsSome job.done) → ⊥
not_finished None j p a e x = x
not_finished (Some job) j p a e x = absurd (true≢false (sym x ∙ ap done_or e))
  where
    done_or : Option Job → Bool
    done_or None = false
    done_or (Some y) = is_some y.done

given_run : (d : SetupData) (m : Machine) (i n result : ℕ) (S : Status) (c j p a : ℕ) → Rule d m i (say.Run n result S) → IsGiven c j p a m → (i ≡ c) ⊎ (i ≢ c)
    → StaysGiven d m i (say.Run n result S) c j p a ⊎ WasRun d m i (say.Run n result S) c j
given_run d m i n result S c j p a r g (inl e) =
    let opened = open_of d (member m i) n result S r.1 in
    let number : j ≡ n = number_of_given (member m i).job j n p a (subst (λ k. (member m k).job ≡ Some (given j p a)) (sym e) g) opened in
    inr (record {
      run = both (n == j) (i == c) (eq-eqb n j (sym number)) (eq-eqb i c e);
      past = set_elsewhere (λ z y. z ≡ c → IsOpenJob y.job j → ⊥) m.members i c (worked d (result, S) (member m i))
          (λ q. finished_open (member m i).job (result, S) j) (λ q x. x) (λ other within q x. absurd (other (sym e))) refl;
    })
  where
    both : (x y : Bool) → x ≡ true → y ≡ true → (x && y) ≡ true
    both true y q k = k
    both false y q k = q
given_run d m i n result S c j p a r g (inr e) =
    inl (record {
      other = not_run (n == j) (i == c) (λ q k. e (is_same i c k));
      given_still = set_other m.members i c (worked d (result, S) (member m i)) (λ q. e (sym q)) ∙ g;
    })

given_step : (d : SetupData) (m : Machine) (i : ℕ) (l : Label) (c j p a : ℕ) → Rule d m i l → IsGiven c j p a m
    → StaysGiven d m i l c j p a ⊎ WasRun d m i l c j
given_step d m i (say.Start k n q b) c j p a r g =
    inl (record {
      other = refl;
      given_still = set_other m.members k c (record (member m k) { job = Some (given n q b) })
          (λ e. not_here (member m k).job (given j p a) r.2 (subst (λ z. (member m z).job ≡ Some (given j p a)) e g)) ∙ g;
    })
given_step d m i (say.Run n result S) c j p a r g = given_run d m i n result S c j p a r g (cases_eq i c)
given_step d m i (say.Collect k) c j p a r g =
    inl (record {
      other = refl;
      given_still = set_other m.members k c (record (member m k) { job = None })
          (λ e. not_finished (member m k).job j p a (subst (λ z. (member m z).job ≡ Some (given j p a)) e g) r.1) ∙ g;
    })
given_step d m i l c j p a r g = inl (record { other = refl; given_still = jobs_same d m i l refl c ∙ g })

-- COUNTING

counted_no : (c j : ℕ) (e : Said) (es : List Said) → is_run c j e ≡ false → count_by (is_run c j) (e ∷ es) ≡ count_by (is_run c j) es
counted_no c j e es n =
    sum_by-cons (λ x. cond (is_run c j x) 1 0) e es ∙ ap (λ b. cond b 1 0 + count_by (is_run c j) es) n ∙ zero-add (count_by (is_run c j) es)

counted_yes : (c j : ℕ) (e : Said) (es : List Said) → is_run c j e ≡ true → count_by (is_run c j) (e ∷ es) ≡ 1 + count_by (is_run c j) es
counted_yes c j e es n = sum_by-cons (λ x. cond (is_run c j x) 1 0) e es ∙ ap (λ b. cond b 1 0 + count_by (is_run c j) es) n

past_count : (std : Standing) (d : SetupData) (m : Machine) (c j : ℕ) (es : List Said) → has_end es ≡ false → IsRun d m es → JobsFit d j m → IsPast c j m
    → (count_by (is_run c j) es ≡ 0) × IsPast c j (machine_after d m es)
past_count std d m c j [] n r h past = (refl, past)
past_count std d m c j (e ∷ es) n r h past =
    let ends = neither (is_end e.1) (has_end es) n in
    let s = past_step std d m e.0 e.1 c j r.0 h past in
    let t = past_count std d (effect d m e.0 e.1) c j es ends.1 r.1 (fit_step std d j m e.0 e.1 ends.0 r.0 h) s.1 in
    (counted_no c j e es s.0 ∙ t.0, t.1)

record RanOnce (d : SetupData) (m : Machine) (c j : ℕ) (es : List Said) : Type 0 where
  once : count_by (is_run c j) es ≡ 1
  past : IsPast c j (machine_after d m es)

record StillOpen (d : SetupData) (m : Machine) (c j p a : ℕ) (es : List Said) : Type 0 where
  never : count_by (is_run c j) es ≡ 0
  given_still : IsGiven c j p a (machine_after d m es)

given_count : (std : Standing) (d : SetupData) (m : Machine) (c j p a : ℕ) (es : List Said) → has_end es ≡ false → IsRun d m es → JobsFit d j m → IsGiven c j p a m
    → StillOpen d m c j p a es ⊎ RanOnce d m c j es
given_count std d m c j p a [] n r h g = inl (record { never = refl; given_still = g })
given_count std d m c j p a (e ∷ es) n r h g =
    let ends = neither (is_end e.1) (has_end es) n in
    let after = effect d m e.0 e.1 in
    let fit = fit_step std d j m e.0 e.1 ends.0 r.0 h in
    ⊎_elim
    (λ (s : StaysGiven d m e.0 e.1 c j p a).
    ⊎_elim (λ (t : StillOpen d after c j p a es). inl (record { never = counted_no c j e es s.other ∙ t.never; given_still = t.given_still }))
    (λ (t : RanOnce d after c j es). inr (record { once = counted_no c j e es s.other ∙ t.once; past = t.past }))
    (given_count std d after c j p a es ends.1 r.1 fit s.given_still))
    (λ (s : WasRun d m e.0 e.1 c j).
    let t = past_count std d after c j es ends.1 r.1 fit s.past in
    inr (record { once = counted_yes c j e es s.run ∙ ap (λ k. 1 + k) t.0; past = t.1 }))
    (given_step d m e.0 e.1 c j p a r.0 g)

-- THE LAWS

-- what is known in the state in which a job is given
record Begins (d : SetupData) (m : Machine) (i c j p a : ℕ) : Type 0 where
  fit : JobsFit d j (effect d m i (say.Start c j p a))
  is_given : IsGiven c j p a (effect d m i (say.Start c j p a))

start_begins : (std : Standing) (d : SetupData) (m : Machine) (before : List Said) (i c j p a : ℕ) → JobsFit d 0 m → length m.members ≡ d.processors
    → IsRun d m before → Rule d (machine_after d m before) i (say.Start c j p a) → Begins d (machine_after d m before) i c j p a
start_begins std d m before i c j p a h size r q =
    let now = machine_after d m before in
    let fit = kept d (JobsFit d 0) (fit_any std d) m before r h in
    let long : length now.members ≡ d.processors = kept d (λ x. length x.members ≡ d.processors) (λ x k l s e. same_length d x k l ∙ e) m before r size in
    let there = (start_in std d 0 now i c j p a q fit).there in
    record {
      fit = fit_start std d 0 now i c j p a q fit;
      is_given = ap (λ y. y.job) (get_or-set_same now.members c (record (member now c) { job = Some (given j p a) }) nobody (subst (λ n. c < n) (sym long) there));
    }

none_given : (o : Option Job) (j p a : ℕ) → o ≡ None → o ≡ Some (given j p a) → ⊥
none_given o j p a e f = not_here o (given j p a) e f

pub runs_once : (std : Standing) (d : SetupData) (m : Machine) (before middle after : List Said) (i k c j p a : ℕ) → JobsFit d 0 m → length m.members ≡ d.processors
    → IsRun d m (before ++ ((i, say.Start c j p a) ∷ (middle ++ ((k, say.End) ∷ after)))) → has_end middle ≡ false
    → count_by (is_run c j) middle ≡ 1
runs_once std d m before middle after i k c j p a h size r n =
    let first = machine_after d m before in
    let r1 = rest_of d m before ((i, say.Start c j p a) ∷ (middle ++ ((k, say.End) ∷ after))) r in
    let second = effect d first i (say.Start c j p a) in
    let run = front_of d second middle ((k, say.End) ∷ after) r1.1 in
    let r2 = rest_of d second middle ((k, say.End) ∷ after) r1.1 in
    let b = start_begins std d m before i c j p a h size (front_of d m before ((i, say.Start c j p a) ∷ (middle ++ ((k, say.End) ∷ after))) r) r1.0 in
    let last = machine_after d second middle in
    let fit = kept_open d (JobsFit d j) (λ x y l e q z. fit_step std d j x y l e q z) second middle n run b.fit in
    ⊎_elim
    (λ (s : StillOpen d second c j p a middle). absurd (none_given (member last c).job j p a (none_at_end d j last k r2.0 fit c) s.given_still))
    (λ (s : RanOnce d second c j middle). s.once)
    (given_count std d second c j p a middle n run b.fit b.is_given)

-- the answer of a run is that of the job
answer_is : (d : SetupData) (x : Member) (o : Option Job) (c j p a result : ℕ) (S : Status) → o ≡ Some (given j p a)
    → IsSomeAnd o (λ job. (job.number ≡ j) × (job.done ≡ None) × ((job_on d.procedures job x.image).answer ≡ (result, S)))
    → (job_on d.procedures (given j p a) x.image).answer ≡ (result, S)
answer_is d x None c j p a result S e h = absurd h
answer_is d x (Some job) c j p a result S e h = subst (λ y. (job_on d.procedures y x.image).answer ≡ (result, S)) (some_same job e) h.2
  where
    some_same : (y : Job) → Some y ≡ Some (given j p a) → y ≡ given j p a
    some_same y q = ap (λ z. job_or z) q
      where
        job_or : Option Job → Job
        job_or None = y
        job_or (Some z) = z

pub answers : (std : Standing) (d : SetupData) (m : Machine) (before middle after : List Said) (i c j p a result : ℕ) (S : Status) → JobsFit d 0 m → length m.members ≡ d.processors
    → IsRun d m (before ++ ((i, say.Start c j p a) ∷ (middle ++ ((c, say.Run j result S) ∷ after)))) → has_end middle ≡ false
    → (job_on d.procedures (given j p a) (member (machine_after d (effect d (machine_after d m before) i (say.Start c j p a)) middle) c).image).answer ≡ (result, S)
answers std d m before middle after i c j p a result S h size r n =
    let first = machine_after d m before in
    let r1 = rest_of d m before ((i, say.Start c j p a) ∷ (middle ++ ((c, say.Run j result S) ∷ after))) r in
    let second = effect d first i (say.Start c j p a) in
    let run = front_of d second middle ((c, say.Run j result S) ∷ after) r1.1 in
    let r2 = rest_of d second middle ((c, say.Run j result S) ∷ after) r1.1 in
    let b = start_begins std d m before i c j p a h size (front_of d m before ((i, say.Start c j p a) ∷ (middle ++ ((c, say.Run j result S) ∷ after))) r) r1.0 in
    let last = machine_after d second middle in
    ⊎_elim
    (λ (s : StillOpen d second c j p a middle). answer_is d (member last c) (member last c).job c j p a result S s.given_still r2.0.1)
    (λ (s : RanOnce d second c j middle). absurd (s.past (open_of d (member last c) j result S r2.0.1)))
    (given_count std d second c j p a middle n run b.fit b.is_given)

-- the beginning has no jobs, and a member for each processor
first_jobs : (xs : List (Registers × ImageContents)) (c : ℕ) → (slice_index_or (map (λ x. first_member x.0 x.1) xs) c nobody).job ≡ None
first_jobs [] c = refl
first_jobs (x ∷ xs) zero = refl
first_jobs (x ∷ xs) (suc c) = first_jobs xs c

pub first_fit : (d : SetupData) (registers : List Registers) (images : List ImageContents) → JobsFit d 0 (beginning d registers images)
first_fit d registers images = (λ c. first_jobs (zip registers images) c, refl)

pub first_length : (registers : List Registers) (images : List ImageContents) (n : ℕ) → length registers ≡ n → length images ≡ n
    → length (map (λ x. first_member x.0 x.1) (zip registers images)) ≡ n
first_length [] images n e f = e
first_length (r ∷ rs) [] n e f = f
first_length (r ∷ rs) (m ∷ ms) zero e f = cc
first_length (r ∷ rs) (m ∷ ms) (suc n) e f = ap suc (first_length rs ms n (omega arith) (omega arith))

-- Each test of processors tells its fact.
use Rattle.std.proofs.Common.{◌≡◌, ◌≢◌, ◌<◌, ◌+◌, ◌↔◌, ◌⊎◌, ℕ, zero, suc, Bool, true, false, List, [], ◌∷◌, length, slice_index_or, Option, Some, None, IsSome, IsSomeAnd, refl, sym, ap, arith, ◌∙◌}
use Rattle.std.specs.Prelude.{◌==◌, ◌&&◌, ◌||◌, not, if◌then◌else◌, is_none, is_some, take}
use Rattle.std.specs.List.{list_all, enumerate_from}
use Rattle.smm_base.specs.declared.kinds.After.{After}
use Rattle.smm_base.specs.declared.kinds.After.TheVariants as after
use Rattle.smm_base.specs.declared.registers.Register.{Register}
use Rattle.smm_base.specs.declared.status.Status.{Status}
use Rattle.smm_base.specs.declared.status.Status.TheVariants.{InvalidParameter, NotReady}
use Rattle.smm_base.specs.Register.{register_number}
use Rattle.save_state_map.specs.Images.{ImageContents}
use Rattle.save_state_access.specs.Reading.{ReadAnswer}
use Rattle.save_state_access.specs.Writing.{WriteAnswer}
use Rattle.cpu_table.specs.Data.{SetupData}
use Rattle.cpu_table.specs.declared.handlers.ProcedureDef.{ProcedureDef}
use Rattle.handler_ops.specs.declared.desk.Job.{Job}
use Rattle.handler_ops.specs.Course.{write_of, shown_value}
use Rattle.handler_ops.specs.Procedures.{job_on}
use Rattle.serving_judge.specs.Words.{is_status}
use Rattle.serving_judge.proofs.Telling.{Tells, never, nothing, both, three, along, number_tells}
use Rattle.serving_judge.proofs.Labels.{status_tells}
use Rattle.rendezvous_machine.specs.declared.phase.Phase.{Phase}
use Rattle.rendezvous_machine.specs.declared.phase.Phase.TheVariants.{Out, In, Counted, Here, Gone}
use Rattle.rendezvous_machine.specs.Machines.{Machine, Member, nobody, member, is_here, is_counted, EachOther, AllReported, AllReleased, AllDeparted, AllCollected}
use Rattle.rendezvous_machine.specs.Rules.{Answers, HasFinished, IsLeast}
use Rattle.rendezvous_machine.specs.Services.{Target, NoProcessor, JobOpen, JobFinished, Image, target, ReadShows, WriteShows, Reads, Writes}
use Rattle.trace_members.specs.Members.{is_out, is_in, is_waiting, is_gone, is_after, each_other, reports, is_let, has_left, has_no_job, all_collected, is_least, is_answer, answers_by, answers, is_finished, read_shows, reads, write_shows, writes}

-- PHASES

pub out_tells : (p : Phase) → Tells (is_out p) (p ≡ Out)
out_tells Out = (λ e. refl, λ e. refl)
out_tells _ = never (λ e. cc)

pub in_tells : (p : Phase) → Tells (is_in p) (p ≡ In)
in_tells In = (λ e. refl, λ e. refl)
in_tells _ = never (λ e. cc)

pub waiting_tells : (p : Phase) → Tells (is_waiting p) (p ≡ Counted)
waiting_tells Counted = (λ e. refl, λ e. refl)
waiting_tells _ = never (λ e. cc)

pub here_tells : (p : Phase) → Tells (is_here p) (p ≡ Here)
here_tells Here = (λ e. refl, λ e. refl)
here_tells _ = never (λ e. cc)

pub gone_tells : (p : Phase) → Tells (is_gone p) (p ≡ Gone)
gone_tells Gone = (λ e. refl, λ e. refl)
gone_tells _ = never (λ e. cc)

pub after_tells : (a b : After) → Tells (is_after a b) (a ≡ b)
after_tells after.Halt after.Halt = (λ e. refl, λ e. refl)
after_tells after.Next after.Next = (λ e. refl, λ e. refl)
after_tells after.Retry after.Retry = (λ e. refl, λ e. refl)
after_tells after.Halt _ = never (λ e. cc)
after_tells after.Next _ = never (λ e. cc)
after_tells after.Retry _ = never (λ e. cc)

-- FLAGS AND OPTIONS

pub flag_tells : (b : Bool) → Tells b (b ≡ true)
flag_tells b = (λ e. e, λ e. e)

pub unset_tells : (b : Bool) → Tells (not b) (b ≡ false)
unset_tells true = (λ e. absurd cc, λ e. absurd cc)
unset_tells false = (λ e. refl, λ e. refl)

pub none_tells : {A : Type 0} (o : Option A) → Tells (is_none o) (o ≡ None)
none_tells None = (λ e. refl, λ e. refl)
none_tells (Some x) = never (λ e. cc)

pub some_tells : {A : Type 0} (o : Option A) → Tells (is_some o) (IsSome o)
some_tells o = (λ e. e, λ e. e)

-- ALL PROCESSORS

-- where one thing holds the other does
implied : (a b : Bool) {A : Type 0} → Tells b A → Tells (not a || b) (a ≡ true → A)
implied true b h = (λ e t. h.0 e, λ f. h.1 (f refl))
implied false b h = (λ e t. absurd cc, λ f. refl)

passes : (but k : ℕ) (b : Bool) {A : Type 0} → Tells b A → Tells (k == but || b) (k ≢ but → A)
passes but k b {A = A} h = by_test (k == but) (number_tells k but)
  where
    by_test : (t : Bool) → Tells t (k ≡ but) → Tells (t || b) (k ≢ but → A)
    by_test true n = (λ e f. absurd (f (n.0 refl)), λ f. refl)
    by_test false n = (λ e f. h.0 e, λ f. h.1 (f (λ same. let x : false ≡ true = n.1 same in absurd cc)))

each_from : (test : Member → Bool) (P : Member → Type 0) → ((x : Member) → Tells (test x) (P x)) → (but k : ℕ) (xs : List Member)
    → Tells (list_all (λ e. e.0 == but || test e.1) (enumerate_from k xs)) ((j : ℕ) → j < length xs → k + j ≢ but → P (slice_index_or xs j nobody))
each_from test P h but k [] = (λ e j within. absurd (omega arith), λ f. refl)
each_from test P h but k (x ∷ xs) =
    along
    (λ (y : (k ≢ but → P x) × ((j : ℕ) → j < length xs → (k + 1) + j ≢ but → P (slice_index_or xs j nobody))). (λ j. from y j))
    (λ f. (
      λ e. f 0 (omega arith) (λ same. e (omega (arith, same))),
      λ j within e. f (suc j) (omega arith) (λ same. e (omega (arith, same))),
    ))
    (both (k == but || test x) _ (passes but k (test x) (h x)) (each_from test P h but (k + 1) xs))
  where
    from : (k ≢ but → P x) × ((j : ℕ) → j < length xs → (k + 1) + j ≢ but → P (slice_index_or xs j nobody))
        → (j : ℕ) → j < length (x ∷ xs) → k + j ≢ but → P (slice_index_or (x ∷ xs) j nobody)
    from y zero within e = y.0 (λ same. e (omega (arith, same)))
    from y (suc j) within e = y.1 j (omega arith) (λ same. e (omega (arith, same)))

each_tells : (m : Machine) (but : ℕ) (test has : Member → Bool) (P : Member → Type 0) → ((x : Member) → Tells (test x) (has x ≡ true → P x))
    → Tells (each_other m.members but test) (EachOther m but has P)
each_tells m but test has P h =
    along
    (λ (f : (j : ℕ) → j < length m.members → 0 + j ≢ but → has (member m j) ≡ true → P (member m j)). (λ j within e. f j within (λ same. e (omega (arith, same)))))
    (λ f j within e. f j within (λ same. e (omega (arith, same))))
    (each_from test (λ x. has x ≡ true → P x) h but 0 m.members)

pub reported_tells : (m : Machine) (bsp : ℕ) → Tells (each_other m.members bsp reports) (AllReported m bsp)
reported_tells m bsp = each_tells m bsp reports is_counted (λ x. x.phase ≡ Here) (λ x. implied (is_counted x) (is_here x.phase) (here_tells x.phase))

pub released_tells : (m : Machine) (bsp : ℕ) → Tells (each_other m.members bsp is_let) (AllReleased m bsp)
released_tells m bsp = each_tells m bsp is_let (λ x. x.in_closed_set) (λ x. x.is_released ≡ true) (λ x. implied x.in_closed_set x.is_released (flag_tells x.is_released))

pub departed_tells : (m : Machine) (bsp : ℕ) → Tells (each_other m.members bsp has_left) (AllDeparted m bsp)
departed_tells m bsp = each_tells m bsp has_left (λ x. x.in_closed_set) (λ x. x.has_departed ≡ true) (λ x. implied x.in_closed_set x.has_departed (flag_tells x.has_departed))

jobless : (xs : List Member) → Tells (list_all has_no_job xs) ((j : ℕ) → j < length xs → (slice_index_or xs j nobody).job ≡ None)
jobless [] = (λ e j within. absurd (omega arith), λ f. refl)
jobless (x ∷ xs) =
    along
    (λ (y : (x.job ≡ None) × ((j : ℕ) → j < length xs → (slice_index_or xs j nobody).job ≡ None)). from y)
    (λ f. (f 0 (omega arith), λ j within. f (suc j) (omega arith)))
    (both (is_none x.job) (list_all has_no_job xs) (none_tells x.job) (jobless xs))
  where
    from : (x.job ≡ None) × ((j : ℕ) → j < length xs → (slice_index_or xs j nobody).job ≡ None)
        → (j : ℕ) → j < length (x ∷ xs) → (slice_index_or (x ∷ xs) j nobody).job ≡ None
    from y zero within = y.0
    from y (suc j) within = y.1 j (omega arith)

pub collected_tells : (m : Machine) → Tells (all_collected m.members) (AllCollected m)
collected_tells m = jobless m.members

least_in : (xs : List Member) (c : ℕ) → Tells (list_all has_no_job (take c xs)) ((j : ℕ) → j < c → (slice_index_or xs j nobody).job ≡ None)
least_in [] zero = (λ e j within. absurd (omega arith), λ f. refl)
least_in [] (suc c) = (λ e j within. refl, λ f. refl)
least_in (x ∷ xs) zero = (λ e j within. absurd (omega arith), λ f. refl)
least_in (x ∷ xs) (suc c) =
    along
    (λ (y : (x.job ≡ None) × ((j : ℕ) → j < c → (slice_index_or xs j nobody).job ≡ None)). from y)
    (λ f. (f 0 (omega arith), λ j within. f (suc j) (omega arith)))
    (both (is_none x.job) (list_all has_no_job (take c xs)) (none_tells x.job) (least_in xs c))
  where
    from : (x.job ≡ None) × ((j : ℕ) → j < c → (slice_index_or xs j nobody).job ≡ None)
        → (j : ℕ) → j < suc c → (slice_index_or (x ∷ xs) j nobody).job ≡ None
    from y zero within = y.0
    from y (suc j) within = y.1 j (omega arith)

pub least_tells : (m : Machine) (c : ℕ) → Tells (is_least m.members c) (IsLeast m c)
least_tells m c = least_in m.members c

-- JOBS

answer_tells : (a : ℕ × Status) (result : ℕ) (S : Status) → Tells (is_answer a result S) (a ≡ (result, S))
answer_tells a result S =
    along (λ (y : (a.0 ≡ result) × (S ≡ a.1)). λ t. (y.0 t, sym y.1 t))
    (λ e. (ap (λ (z : ℕ × Status). z.0) e, sym (ap (λ (z : ℕ × Status). z.1) e)))
    (both (a.0 == result) (is_status a.1 S) (number_tells a.0 result) (status_tells a.1 S))

answers_in : (procedures : List ProcedureDef) (image : ImageContents) (o : Option Job) (j result : ℕ) (S : Status)
    → Tells (answers_by procedures image o j result S)
    (IsSomeAnd o (λ job. (job.number ≡ j) × (job.done ≡ None) × ((job_on procedures job image).answer ≡ (result, S))))
answers_in procedures image None j result S = nothing
answers_in procedures image (Some job) j result S =
    three (both (job.number == j) _ (number_tells job.number j)
    (both (is_none job.done) _ (none_tells job.done) (answer_tells (job_on procedures job image).answer result S)))

pub answers_tell : (d : SetupData) (x : Member) (j result : ℕ) (S : Status) → Tells (answers d.procedures x j result S) (Answers d x j result S)
answers_tell d x j result S = answers_in d.procedures x.image x.job j result S

finished_in : (o : Option Job) → Tells (is_finished o) (IsSomeAnd o (λ job. IsSome job.done))
finished_in None = nothing
finished_in (Some job) = some_tells job.done

pub finished_tells : (x : Member) → Tells (is_finished x.job) (HasFinished x)
finished_tells x = finished_in x.job

-- IMAGES

read_tells : (t : Target) (answer : Bool → ReadAnswer) (x : ℕ) (S : Status) → Tells (read_shows t answer x S) (ReadShows t answer x S)
read_tells NoProcessor answer x S = both (x == 0) (is_status InvalidParameter S) (number_tells x 0) (status_tells InvalidParameter S)
read_tells JobOpen answer x S = both (x == 0) (is_status NotReady S) (number_tells x 0) (status_tells NotReady S)
read_tells JobFinished answer x S = nothing
read_tells (Image present) answer x S =
    both (x == shown_value (answer present)) (is_status (answer present).status S) (number_tells x (shown_value (answer present))) (status_tells (answer present).status S)

write_tells : (t : Target) (answer : Bool → WriteAnswer) (S : Status) → Tells (write_shows t (λ present. (answer present).status) S) (WriteShows t answer S)
write_tells NoProcessor answer S = status_tells InvalidParameter S
write_tells JobOpen answer S = status_tells NotReady S
write_tells JobFinished answer S = nothing
write_tells (Image present) answer S = status_tells (answer present).status S

pub reads_tell : (d : SetupData) (m : Machine) (bsp c : ℕ) (register : Register) (width x : ℕ) (S : Status)
    → Tells (reads d m.members bsp c register width x S) (Reads d m bsp c register width x S)
reads_tell d m bsp c register width x S = read_tells (target d m bsp c) _ x S

pub writes_tell : (d : SetupData) (m : Machine) (bsp c : ℕ) (register : Register) (width x : ℕ) (S : Status)
    → Tells (writes d m.members bsp c register width x S) (Writes d m bsp c register width x S)
writes_tell d m bsp c register width x S =
    write_tells (target d m bsp c) (λ present. write_of present (member m c).image (register_number register) width x) S

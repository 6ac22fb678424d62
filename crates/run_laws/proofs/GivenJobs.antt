-- A processor's open job is one that the labels tell of, and a job that the labels tell of is open.
use Rattle.std.proofs.Common.{◌≡◌, ◌≢◌, ◌<◌, ℕ, Bool, true, false, ◌&&◌, ◌==◌, List, [], ◌∷◌, ◌++◌, length, slice_index_or, slice_set, IsSomeAnd, IsSome, is_some, Option, Some, None, refl, sym, ap, subst, ◌∙◌, true≢false, get_or-set_same, eq-eqb, ne_eqb, append_assoc}
use Rattle.smm_base.specs.declared.status.Status.{Status}
use Rattle.save_state_map.specs.Images.{ImageContents}
use Rattle.cpu_regs.specs.Registers.{Registers}
use Rattle.cpu_table.specs.Data.{SetupData}
use Rattle.sync_words.specs.declared.label.Label.{Label}
use Rattle.sync_words.specs.declared.label.Label.TheVariants as say
use Rattle.handler_ops.specs.declared.desk.Job.{Job}
use Rattle.rendezvous_machine.specs.Machines.{Machine, Member, nobody, member, beginning}
use Rattle.rendezvous_machine.specs.Rules.{Rule}
use Rattle.rendezvous_machine.specs.Effects.{effect, worked, given}
use Rattle.rendezvous_machine.specs.Runs.{Said, IsRun, machine_after}
use Rattle.rendezvous_machine.specs.Histories.{is_end, has_end, is_run}
use Rattle.rendezvous_machine.proofs.Walks.{front_of, rest_of, after_both, neither, kept, history}
use Rattle.rendezvous_machine.proofs.Sets.{set_elsewhere}
use Rattle.rendezvous_machine.proofs.Lists.{Standing, IsOpenJob, JobsFit}
use Rattle.rendezvous_machine.proofs.Working.{jobs_same, fit_any, none_at_end, start_in, finished_open, open_of, set_other, same_length}
use Rattle.rendezvous_machine.proofs.Once.{first_fit}
use Rattle.run_laws.specs.Facts.{has_run, HasJob}

-- THE LABELS GROW

no_end : (es : List Said) (e : Said) → has_end es ≡ false → is_end e.1 ≡ false → has_end (es ++ e ∷ []) ≡ false
no_end [] e n k = rw k refl
no_end (x ∷ es) e n k = let both = neither (is_end x.1) (has_end es) n in rw (both.0) (no_end es e both.1 k)

no_run : (c j : ℕ) (es : List Said) (e : Said) → has_run c j es ≡ false → is_run c j e ≡ false → has_run c j (es ++ e ∷ []) ≡ false
no_run c j [] e n k = rw k refl
no_run c j (x ∷ es) e n k = let both = neither (is_run c j x) (has_run c j es) n in rw (both.0) (no_run c j es e both.1 k)

pub job_later : (c j : ℕ) (past : List Said) (e : Said) → is_end e.1 ≡ false → is_run c j e ≡ false → HasJob c j past → HasJob c j (past ++ e ∷ [])
job_later c j past e n k h =
    record {
      front = h.front;
      back = h.back ++ e ∷ [];
      giver = h.giver;
      procedure = h.procedure;
      argument = h.argument;
      whole = ap (λ xs. xs ++ e ∷ []) h.whole ∙ append_assoc h.front ((h.giver, say.Start c j h.procedure h.argument) ∷ h.back) (e ∷ []);
      waits = no_run c j h.back e h.waits k;
      since = no_end h.back e h.since n;
    }

job_now : (i c j p a : ℕ) (past : List Said) → HasJob c j (past ++ (i, say.Start c j p a) ∷ [])
job_now i c j p a past = record { front = past; back = []; giver = i; procedure = p; argument = a; whole = refl; waits = refl; since = refl }

-- AN OPEN JOB WAS GIVEN

abbrev pub AreTold : List Said → Machine → Type 0
AreTold past m = (c j : ℕ) → IsOpenJob (member m c).job j → HasJob c j past

other_run : (c j i n : ℕ) → i ≢ c → ((n == j) && (i == c)) ≡ false
other_run c j i n e = by_second (n == j) (i == c) (ne_eqb i c e)
  where
    by_second : (x y : Bool) → y ≡ false → (x && y) ≡ false
    by_second true y k = k
    by_second false y k = refl

none_open : (o : Option Job) (j : ℕ) → o ≡ None → IsOpenJob o j → ⊥
none_open None j e h = h
none_open (Some job) j e h = cc

-- a job was put on a processor: one that is open is told of, and so are those of the others
put_told : (past : List Said) (m : Machine) (i c z : ℕ) (l : Label) (x : Member) → is_end l ≡ false
    → ((j : ℕ) → IsOpenJob x.job j → HasJob z j (past ++ (i, l) ∷ []))
    → (c ≢ z → (j : ℕ) → is_run c j (i, l) ≡ false) → AreTold past m → (j : ℕ) → IsOpenJob (slice_index_or (slice_set m.members z x) c nobody).job j
    → HasJob c j (past ++ (i, l) ∷ [])
put_told past m i c z l x n new other h j =
    set_elsewhere (λ k y. IsOpenJob y.job j → HasJob k j (past ++ (i, l) ∷ [])) m.members z c x (new j) (λ q. absurd q)
    (λ e within q. job_later c j past (i, l) n (other e j) (h c j q))

told_step : (std : Standing) (d : SetupData) (past : List Said) (m : Machine) (i : ℕ) (l : Label) → Rule d m i l → JobsFit d 0 m → AreTold past m
    → AreTold (past ++ (i, l) ∷ []) (effect d m i l)
told_step std d past m i (say.Start z n p a) r f h = λ c.
    put_told past m i c z (say.Start z n p a) (record (member m z) { job = Some (given n p a) }) refl
    (λ j q. subst (λ k. HasJob z k (past ++ (i, say.Start z n p a) ∷ [])) q.0 (job_now i z n p a past)) (λ e j. refl) h
told_step std d past m i (say.Run n x S) r f h = λ c.
    put_told past m i c i (say.Run n x S) (worked d (x, S) (member m i)) refl
    (λ j q. absurd (finished_open (member m i).job (x, S) j q)) (λ e j. other_run c j i n (λ k. e (sym k))) h
told_step std d past m i (say.Collect z) r f h = λ c.
    put_told past m i c z (say.Collect z) (record (member m z) { job = None }) refl (λ j q. absurd q) (λ e j. refl) h
told_step std d past m i say.End r f h = λ c j q. absurd (none_open (member (effect d m i say.End) c).job j (jobs_same d m i say.End refl c ∙ none_at_end d 0 m i r f c) q)
told_step std d past m i l r f h = λ c j q.
    job_later c j past (i, l) refl refl (h c j (subst (λ o. IsOpenJob o j) (jobs_same d m i l refl c) q))

pub all_told : (std : Standing) (d : SetupData) (m : Machine) (es : List Said) → IsRun d m es → JobsFit d 0 m → AreTold [] m → AreTold es (machine_after d m es)
all_told std d m es r f h =
    (history d (λ past x. JobsFit d 0 x × AreTold past x) (λ past x i l q y. (fit_any std d x i l q y.0, told_step std d past x i l q y.0 y.1)) [] m es r (f, h)).1

pub ran : (std : Standing) (d : SetupData) (m : Machine) (before after : List Said) (c j answer : ℕ) (S : Status) → JobsFit d 0 m → AreTold [] m
    → IsRun d m (before ++ ((c, say.Run j answer S) ∷ after)) → HasJob c j before
ran std d m before after c j answer S f h r =
    let last = machine_after d m before in
    all_told std d m before (front_of d m before ((c, say.Run j answer S) ∷ after) r) f h c j
    (open_of d (member last c) j answer S (rest_of d m before ((c, say.Run j answer S) ∷ after) r).0.1)

pub first_told : (d : SetupData) (registers : List Registers) (images : List ImageContents) → AreTold [] (beginning d registers images)
first_told d registers images c j q = absurd (none_open (member (beginning d registers images) c).job j ((first_fit d registers images).0 c) q)

-- A JOB THAT WAS GIVEN IS OPEN

same_number : (o : Option Job) (j n : ℕ) → IsOpenJob o j → IsOpenJob o n → j ≡ n
same_number None j n h k = absurd h
same_number (Some job) j n h k = sym h.0 ∙ k.0

not_finished : (o : Option Job) (j : ℕ) → IsOpenJob o j → IsSomeAnd o (λ job. IsSome job.done) → ⊥
not_finished None j h k = h
not_finished (Some job) j h k = true≢false (sym k ∙ ap is_some h.1)

open_set : (m : Machine) (z c j : ℕ) (x : Member) → c ≢ z → IsOpenJob (member m c).job j → IsOpenJob (slice_index_or (slice_set m.members z x) c nobody).job j
open_set m z c j x e h = subst (λ o. IsOpenJob o j) (sym (set_other m.members z c x e)) h

open_at : (m : Machine) (z c j : ℕ) → c ≡ z → IsOpenJob (member m c).job j → IsOpenJob (member m z).job j
open_at m z c j e h = subst (λ k. IsOpenJob (member m k).job j) e h

was_run : (c j i n : ℕ) → n ≡ j → i ≡ c → ((n == j) && (i == c)) ≡ false → ⊥
was_run c j i n e f k = true≢false (sym (both (n == j) (i == c) (eq-eqb n j e) (eq-eqb i c f)) ∙ k)
  where
    both : (x y : Bool) → x ≡ true → y ≡ true → (x && y) ≡ true
    both true y q t = t
    both false y q t = q

open_step : (d : SetupData) (c j : ℕ) (m : Machine) (i : ℕ) (l : Label) → is_end l ≡ false → is_run c j (i, l) ≡ false → Rule d m i l
    → IsOpenJob (member m c).job j → IsOpenJob (member (effect d m i l) c).job j
open_step d c j m i (say.Start z n p a) k q r h =
    open_set m z c j (record (member m z) { job = Some (given n p a) }) (λ e. none_open (member m z).job j r.2 (open_at m z c j e h)) h
open_step d c j m i (say.Run n x S) k q r h =
    open_set m i c j (worked d (x, S) (member m i))
    (λ e. was_run c j i n (same_number (member m i).job n j (open_of d (member m i) n x S r.1) (open_at m i c j e h)) (sym e) q) h
open_step d c j m i (say.Collect z) k q r h =
    open_set m z c j (record (member m z) { job = None }) (λ e. not_finished (member m z).job j (open_at m z c j e h) r.1) h
open_step d c j m i l k q r h = subst (λ o. IsOpenJob o j) (sym (jobs_same d m i l refl c)) h

open_along : (d : SetupData) (c j : ℕ) (m : Machine) (es : List Said) → has_end es ≡ false → has_run c j es ≡ false → IsRun d m es
    → IsOpenJob (member m c).job j → IsOpenJob (member (machine_after d m es) c).job j
open_along d c j m [] n k r h = h
open_along d c j m (e ∷ es) n k r h =
    let ends = neither (is_end e.1) (has_end es) n in
    let runs = neither (is_run c j e) (has_run c j es) k in
    open_along d c j (effect d m e.0 e.1) es ends.1 runs.1 r.1 (open_step d c j m e.0 e.1 ends.0 runs.0 r.0 h)

given_there : (std : Standing) (d : SetupData) (m : Machine) (i c j p a : ℕ) → Rule d m i (say.Start c j p a) → JobsFit d 0 m → length m.members ≡ d.processors
    → IsOpenJob (member (effect d m i (say.Start c j p a)) c).job j
given_there std d m i c j p a r f size =
    subst (λ y. IsOpenJob y.job j)
    (sym (get_or-set_same m.members c (record (member m c) { job = Some (given j p a) }) nobody (subst (λ n. c < n) (sym size) (start_in std d 0 m i c j p a r f).there)))
    (refl, refl)

pub still_open : (std : Standing) (d : SetupData) (m : Machine) (es : List Said) (c j : ℕ) → JobsFit d 0 m → length m.members ≡ d.processors → IsRun d m es → HasJob c j es
    → IsOpenJob (member (machine_after d m es) c).job j
still_open std d m es c j f size run h =
    let l = say.Start c j h.procedure h.argument in
    let r = subst (IsRun d m) h.whole run in
    let first = machine_after d m h.front in
    let walked = front_of d m h.front ((h.giver, l) ∷ h.back) r in
    let r1 = rest_of d m h.front ((h.giver, l) ∷ h.back) r in
    let long : length first.members ≡ d.processors = kept d (λ x. length x.members ≡ d.processors) (λ x k q s e. same_length d x k q ∙ e) m h.front walked size in
    let opened = given_there std d first h.giver c j h.procedure h.argument r1.0 (kept d (JobsFit d 0) (fit_any std d) m h.front walked f) long in
    let last = open_along d c j (effect d first h.giver l) h.back h.since h.waits r1.1 opened in
    subst (λ z. IsOpenJob (member (machine_after d m z) c).job j) (sym h.whole)
    (subst (λ z. IsOpenJob (member z c).job j) (sym (after_both d m h.front ((h.giver, l) ∷ h.back))) last)

pub idle : (std : Standing) (d : SetupData) (m : Machine) (before after : List Said) (i c j p a n : ℕ) → JobsFit d 0 m → length m.members ≡ d.processors
    → IsRun d m (before ++ ((i, say.Start c j p a) ∷ after)) → HasJob c n before → ⊥
idle std d m before after i c j p a n f size r h =
    none_open (member (machine_after d m before) c).job n (rest_of d m before ((i, say.Start c j p a) ∷ after) r).0.2
    (still_open std d m before c n f size (front_of d m before ((i, say.Start c j p a) ∷ after) r) h)

-- Each refused job has its cause in the labels before it, and a job is given only where no cause holds.
use Rattle.std.proofs.Common.{◌≡◌, ◌<◌, ◌⊎◌, ℕ, zero, suc, Bool, true, false, not, ◌&&◌, ◌==◌, List, [], ◌∷◌, length, slice_index_or, IsSomeAnd, Option, Some, None, refl, sym, ap, subst, inl, ⊎_elim, ◌∙◌, true≢false, arith, get_or-set_same}
use Rattle.std.proofs.lemmas.Bool.{ltb-true, ltb-false, eqb-true, eq-eqb}
use Rattle.std.specs.Prelude.{nat_lt, nat_le, is_none, if◌then◌else◌}
use Rattle.save_state_map.specs.Images.{ImageContents}
use Rattle.cpu_regs.specs.Registers.{Registers}
use Rattle.cpu_table.specs.Data.{SetupData}
use Rattle.cpu_table.specs.declared.handlers.OpDef.TheVariants as op
use Rattle.sync_words.specs.declared.label.Label.{Label}
use Rattle.sync_words.specs.declared.label.Label.TheVariants as say
use Rattle.sync_words.specs.declared.label.StartRefusal.{StartRefusal}
use Rattle.sync_words.specs.declared.label.StartRefusal.TheVariants.{OutOfRange, BootProcessor, UnknownProcedure, Tokens, Busy, Absent}
use Rattle.handler_ops.specs.declared.desk.Job.{Job}
use Rattle.serving_place.specs.Serving.{Serving, tokens_out}
use Rattle.serving_place.specs.Operations.{procedure_place}
use Rattle.serving_place.specs.Forms.{Event, Own}
use Rattle.serving_place.specs.Beginning.{program_of, walks_of}
use Rattle.serving_place.specs.Places.{Accepts}
use Rattle.serving_place.specs.Due.{Due, Doing, due}
use Rattle.rendezvous_machine.specs.declared.phase.Phase.TheVariants.{Counted, Here}
use Rattle.rendezvous_machine.specs.Machines.{Machine, Session, Member, nobody, member, beginning, is_here, IsBsp}
use Rattle.rendezvous_machine.specs.Listed.{first_serving, place_by, place_in, place_of, CanSay}
use Rattle.rendezvous_machine.specs.Refusals.{is_open, or_else, cause_for, refusal_due}
use Rattle.rendezvous_machine.specs.Rules.{Rule}
use Rattle.rendezvous_machine.specs.Effects.{effect}
use Rattle.rendezvous_machine.specs.Runs.{Said, IsRun, machine_after}
use Rattle.rendezvous_machine.specs.Histories.{HasSaid}
use Rattle.rendezvous_machine.proofs.Walks.{front_of, rest_of, after_both, kept, history}
use Rattle.rendezvous_machine.proofs.Sets.{AllFit, fits}
use Rattle.rendezvous_machine.proofs.Told.{AllTold, told}
use Rattle.rendezvous_machine.proofs.Lists.{Standing, IsOpenJob, Jobs, FitsList, FitsJobs, JobsFit, CanFollow, jobs_of, over_stuck}
use Rattle.rendezvous_machine.proofs.Working.{fit_any}
use Rattle.rendezvous_machine.proofs.Lawful.{first_all}
use Rattle.run_laws.specs.Facts.{IsOther, Explains}
use Rattle.run_laws.proofs.Members.{IsDone, IsMember, IsMembership, Stays, AllStay, members_stay}
use Rattle.run_laws.proofs.GivenJobs.{AreTold, all_told}
use Rattle.run_laws.proofs.Starts.{StartsOn, at_start}

-- WHAT MAY BE SAID

module _ (std : Standing) (d : SetupData) (l : Label) where
  listed : (begin : Serving) (jobs : Jobs) (served : Option ℕ) (serving : Option (List Event)) (done : Bool) → CanFollow d begin l served serving
      → FitsList d 0 begin jobs served serving done → Accepts (program_of d) (place_by d begin served serving) (Own l) × (done ≡ true → ⊥)
  listed begin jobs None None done x h = absurd x
  listed begin jobs (Some w) None done x h = absurd x
  listed begin jobs None (Some es) done x h = absurd h
  listed begin jobs (Some w) (Some es) done x h =
      let p = place_by d begin (Some w) (Some es) in
      let a : Accepts (program_of d) p (Own l) = (std.follows (program_of d) w (walks_of d.waves w) begin p es (Own l) h.stands).exact.1 x in
      (a, λ e. over_stuck (program_of d) p l (h.over e).0 a)

  by_session : (m : Machine) (i : ℕ) (o : Option Session) → IsSomeAnd o (λ s. (s.bsp ≡ i) × CanSay d m l s) → FitsJobs d 0 (first_serving d m) (jobs_of m) o
      → Accepts (program_of d) (place_in d (first_serving d m) o) (Own l) × (IsSomeAnd o (λ s. s.is_done ≡ true) → ⊥)
  by_session m i None x y = absurd x
  by_session m i (Some s) x y = listed (first_serving d m) (jobs_of m) s.served s.serving s.is_done x.1 y

  -- the place that stands for the list takes the label, and the session isn't done
  accepted : (m : Machine) (i : ℕ) → IsBsp m i (CanSay d m l) → JobsFit d 0 m → Accepts (program_of d) (place_of d m) (Own l) × (IsDone m → ⊥)
  accepted m i x f = by_session m i m.session x f

-- THE CAUSE

-- each test of the causes as it has to be
abbrev Tells : (in_range own busy here : Bool) → StartRefusal → Type 0
Tells in_range own busy here OutOfRange = in_range ≡ false
Tells in_range own busy here BootProcessor = own ≡ true
Tells in_range own busy here UnknownProcedure = (in_range ≡ true) × (own ≡ false)
Tells in_range own busy here Tokens = (in_range ≡ true) × (own ≡ false)
Tells in_range own busy here Busy = (in_range ≡ true) × (own ≡ false) × (busy ≡ true)
Tells in_range own busy here Absent = (in_range ≡ true) × (own ≡ false) × (here ≡ false)

abbrev found : (in_range own unknown full busy here : Bool) → Option StartRefusal
found in_range own unknown full busy here =
    or_else (if not in_range then Some OutOfRange
    else (if own then Some BootProcessor
    else (if unknown then Some UnknownProcedure
    else (if full then Some Tokens else None))))
    (if busy then Some Busy else (if here then None else Some Absent))

this_cause : (x y : StartRefusal) → Some x ≡ Some y → x ≡ y
this_cause x y e = ap (λ o. cause_or o) e
  where
    cause_or : Option StartRefusal → StartRefusal
    cause_or None = x
    cause_or (Some z) = z

tells : (in_range own unknown full busy here : Bool) (cause : StartRefusal) → found in_range own unknown full busy here ≡ Some cause → Tells in_range own busy here cause
tells false own unknown full busy here cause e = subst (Tells false own busy here) (this_cause OutOfRange cause e) refl
tells true true unknown full busy here cause e = subst (Tells true true busy here) (this_cause BootProcessor cause e) refl
tells true false true full busy here cause e = subst (Tells true false busy here) (this_cause UnknownProcedure cause e) (refl, refl)
tells true false false true busy here cause e = subst (Tells true false busy here) (this_cause Tokens cause e) (refl, refl)
tells true false false false true here cause e = subst (Tells true false true here) (this_cause Busy cause e) (refl, refl, refl)
tells true false false false false false cause e = subst (Tells true false false false) (this_cause Absent cause e) (refl, refl, refl)
tells true false false false false true cause e = cc

none_found : (in_range own unknown full busy here : Bool) → found in_range own unknown full busy here ≡ None → (in_range ≡ true) × (own ≡ false) × (here ≡ true)
none_found false own unknown full busy here e = cc
none_found true true unknown full busy here e = cc
none_found true false true full busy here e = cc
none_found true false false true busy here e = cc
none_found true false false false true here e = cc
none_found true false false false false false e = cc
none_found true false false false false true e = (refl, refl, refl)

-- the tests for a processor
abbrev TellsOf : SetupData → Machine → ℕ → ℕ → Bool → StartRefusal → Type 0
TellsOf d m i c is_launch cause = Tells (nat_lt c d.processors) (c == i) (is_launch && is_open (member m c).job) (is_here (member m c).phase) cause

second_true : (a b : Bool) → (a && b) ≡ true → b ≡ true
second_true true b e = e
second_true false b e = absurd (true≢false (sym e))

cause_told : (d : SetupData) (m : Machine) (i c : ℕ) (s : Serving) (x : Due) (cause : StartRefusal) → StartsOn c x → refusal_due d m i s x ≡ Some cause
    → (is_launch : Bool) × TellsOf d m i c is_launch cause
cause_told d m i c s (Doing n (op.Start cpu name arg into)) cause e h = (
  false,
  tells (nat_lt c d.processors) (c == i) (is_none (procedure_place d.procedures name)) (false && nat_le 64 (tokens_out s)) (false && is_open (member m c).job) (is_here (member m c).phase) cause
      (subst (λ k. cause_for d m i s false k name ≡ Some cause) (sym e) h),
)
cause_told d m i c s (Doing n (op.Launch cpu name arg into)) cause e h = (
  true,
  tells (nat_lt c d.processors) (c == i) (is_none (procedure_place d.procedures name)) (true && nat_le 64 (tokens_out s)) (true && is_open (member m c).job) (is_here (member m c).phase) cause
      (subst (λ k. cause_for d m i s true k name ≡ Some cause) (sym e) h),
)
cause_told d m i c s _ cause e h = absurd e

none_told : (d : SetupData) (m : Machine) (i c : ℕ) (s : Serving) (x : Due) → StartsOn c x → refusal_due d m i s x ≡ None
    → (nat_lt c d.processors ≡ true) × ((c == i) ≡ false) × (is_here (member m c).phase ≡ true)
none_told d m i c s (Doing n (op.Start cpu name arg into)) e h =
    none_found (nat_lt c d.processors) (c == i) (is_none (procedure_place d.procedures name)) (false && nat_le 64 (tokens_out s)) (false && is_open (member m c).job) (is_here (member m c).phase)
    (subst (λ k. cause_for d m i s false k name ≡ None) (sym e) h)
none_told d m i c s (Doing n (op.Launch cpu name arg into)) e h =
    none_found (nat_lt c d.processors) (c == i) (is_none (procedure_place d.procedures name)) (true && nat_le 64 (tokens_out s)) (true && is_open (member m c).job) (is_here (member m c).phase)
    (subst (λ k. cause_for d m i s true k name ≡ None) (sym e) h)
none_told d m i c s _ e h = absurd e

-- WHO IS THERE

being_here : IsMembership is_here
being_here = record { here = refl; out = refl; inside = refl; gone = refl }

here_stays : (c i : ℕ) (l : Label) → Stays is_here c i l
here_stays c i say.Quit = λ e. refl
here_stays c i _ = tt

all_here : (c : ℕ) (es : List Said) → AllStay is_here c es
all_here c [] = tt
all_here c (e ∷ es) = (here_stays c e.0 e.1, all_here c es)

-- who reports was counted in, so it is one of the members
in_range : (xs : List Member) (c : ℕ) → (slice_index_or xs c nobody).phase ≡ Counted → c < length xs
in_range [] c e = cc
in_range (x ∷ xs) zero e = omega arith
in_range (x ∷ xs) (suc c) e = let l = in_range xs c e in omega arith

reports : (d : SetupData) (m : Machine) (c : ℕ) → Rule d m c say.Report → IsMember is_here c (effect d m c say.Report)
reports d m c r = ap (λ y. is_here y.phase) (get_or-set_same m.members c (record (member m c) { phase = Here }) nobody (in_range m.members c r.0))

-- a processor that has reported is there until the session is done
here_then : (d : SetupData) (m : Machine) (c : ℕ) (es : List Said) → IsRun d m es → AllFit m → HasSaid c say.Report es
    → IsMember is_here c (machine_after d m es) ⊎ IsDone (machine_after d m es)
here_then d m c es run fit h =
    let r = subst (IsRun d m) h.whole run in
    let first = machine_after d m h.front in
    let r1 = rest_of d m h.front ((c, say.Report) ∷ h.back) r in
    let fit1 : AllFit first = kept d AllFit (fits d) m h.front (front_of d m h.front ((c, say.Report) ∷ h.back) r) fit in
    let last = members_stay is_here being_here d c (effect d first c say.Report) h.back h.since (all_here c h.back) r1.1 (fits d first c say.Report r1.0 fit1)
    (inl (reports d first c r1.0)) in
    subst (λ z. IsMember is_here c (machine_after d m z) ⊎ IsDone (machine_after d m z)) (sym h.whole)
    (subst (λ z. IsMember is_here c z ⊎ IsDone z) (sym (after_both d m h.front ((c, say.Report) ∷ h.back))) last)

-- THE LAWS

other_one : (d : SetupData) (i c : ℕ) → nat_lt c d.processors ≡ true → (c == i) ≡ false → IsOther d i c
other_one d i c e f = (ltb-true c d.processors e, λ k. true≢false (sym (eq-eqb c i k) ∙ f))

an_open : (o : Option Job) → is_open o ≡ true → (j : ℕ) × IsOpenJob o j
an_open None e = absurd (true≢false (sym e))
an_open (Some job) e = (job.number, (refl, no_answer job.done e))
  where
    no_answer : {A : Type 0} (o : Option A) → is_none o ≡ true → o ≡ None
    no_answer None e = refl
    no_answer (Some x) e = absurd (true≢false (sym e))

pub first_running : (d : SetupData) (registers : List Registers) (images : List ImageContents) → AllTold [] (beginning d registers images)
first_running d registers images c t = absurd (true≢false (sym t ∙ (first_all d registers images c).1))

-- what is known of the state after the labels
record Known (d : SetupData) (past : List Said) (m : Machine) : Type 0 where
  jobs : AreTold past m
  running : AllTold past m
  reported : (c : ℕ) → HasSaid c say.Report past → IsMember is_here c m ⊎ IsDone m

explain : (d : SetupData) (past : List Said) (m : Machine) (i c : ℕ) (is_launch : Bool) (cause : StartRefusal) → Known d past m → (IsDone m → ⊥)
    → TellsOf d m i c is_launch cause → Explains d past i c cause
explain d past m i c is_launch OutOfRange k u t = ltb-false c d.processors t
explain d past m i c is_launch BootProcessor k u t = eqb-true c i t
explain d past m i c is_launch UnknownProcedure k u t = other_one d i c t.0 t.1
explain d past m i c is_launch Tokens k u t = other_one d i c t.0 t.1
explain d past m i c is_launch Busy k u t =
    let o = an_open (member m c).job (second_true is_launch (is_open (member m c).job) t.2) in
    (other_one d i c t.0 t.1, (o.0, k.jobs c o.0 o.1))
explain d past m i c is_launch Absent k u t = (
  other_one d i c t.0 t.1,
  λ h. ⊎_elim (λ (x : IsMember is_here c m). true≢false (sym x ∙ t.2)) (λ (x : IsDone m). u x) (k.reported c h),
)

module _ (std : Standing) (d : SetupData) (m : Machine) (before : List Said) (f : JobsFit d 0 m) (fit : AllFit m) (jobs : AreTold [] m) (first : AllTold [] m)
    (run : IsRun d m before) where
  known : Known d before (machine_after d m before)
  known =
      record {
        jobs = all_told std d m before run f jobs;
        running = (history d (λ past x. AllFit x × AllTold past x) (λ past x k l q h. (fits d x k l q h.0, told d past x k l q h.0 h.1)) [] m before run (fit, first)).1;
        reported = λ c h. here_then d m c before run fit h;
      }

  fits_then : JobsFit d 0 (machine_after d m before)
  fits_then = kept d (JobsFit d 0) (fit_any std d) m before run f

  pub explained : (i c : ℕ) (cause : StartRefusal) → Rule d (machine_after d m before) i (say.Refuse c cause) → Explains d before i c cause
  explained i c cause r =
      let now = machine_after d m before in
      let a = accepted std d (say.Refuse c cause) now i r.0 fits_then in
      let t = cause_told d now i c (place_of d now).state (due (program_of d) (place_of d now)) cause
      (at_start (program_of d) (place_of d now) c (say.Refuse c cause) refl a.0) r.1 in
      explain d before now i c t.0 cause known a.1 t.1

  pub given_to : (i c j p a : ℕ) → Rule d (machine_after d m before) i (say.Start c j p a) → IsOther d i c × HasSaid c say.Report before
  given_to i c j p a r =
      let now = machine_after d m before in
      let x = accepted std d (say.Start c j p a) now i r.0 fits_then in
      let t = none_told d now i c (place_of d now).state (due (program_of d) (place_of d now))
      (at_start (program_of d) (place_of d now) c (say.Start c j p a) refl x.0) r.1 in
      (other_one d i c t.0 t.1, known.running c t.2)

-- What a check loads, judges and tells.
use Rattle.std.proofs.Common.{◌≡◌, ℕ, ◌^◌, ◌<◌, ◌≤◌, ◌⊎◌, inl, inr, List, Option, None, Some, Result, Ok, Err, IfErr, OnOk, refl, ap, sym, ◌∙◌, arith}
use Rattle.smm_base.specs.Sink.{appended}
use Rattle.smm_base.specs.Store.{FileMap}
use Rattle.save_state_map.specs.Images.{ImageContents}
use Rattle.cpu_table.specs.Data.{SetupData}
use Rattle.smbase_reloc.specs.declared.error.RelocError.{RelocError}
use Rattle.rendezvous_core.specs.Starts.{start_refusal, first_registers}
use Rattle.trace_check.specs.Judged.{first_judged}
use Rattle.trace_judge.specs.declared.fault.TraceFault.{TraceFault}
use Rattle.trace_judge.specs.Verdicts.{verdict}
use Rattle.smm_command.specs.declared.command.Check.{Check}
use Rattle.smm_command.specs.declared.command.Command.TheVariants as command
use Rattle.smm_player.specs.declared.fault.Fault.{Fault}
use Rattle.smm_player.specs.declared.fault.Fault.TheVariants.{Refused, Write, Save, Memory}
use Rattle.smm_player.specs.declared.images.ImagesFault.TheVariants as fault
use Rattle.smm_player.specs.declared.refusal.Refusal.{Refusal}
use Rattle.smm_player.specs.declared.refusal.Refusal.TheVariants.{Read, TooLong, Platform, Images, Schedule, Trace}
use Rattle.platform_document.specs.Reading.{read_then}
use Rattle.smm_player.specs.Due.{Finding, or_refusal, judged_or, trace_due, trace_with, trace_plan_due, trace_judged, IsDue, RefusalCause}
use Rattle.smm_player.specs.Ending.{EndsJudging, EndsWriting, UnlessSaved}
use Rattle.smm_player.specs.Loading.{LoadCause, RefusedReading, StopsReading}
use Rattle.smm_player.specs.Outcome.{written_outcome, run_line, due}
use Rattle.smm_player.specs.Performing.{Performs, StopsAt, WroteBefore}
use Rattle.smm_player.specs.Traces.{TracePlan, trace_plan, IsJudgeable}
use Rattle.smm_player.proofs.LoadLemmas.{cause_first}

-- LOADING

pub trace_due_with : (names : Check) (setup : SetupData) (images : List ImageContents) (files : Option FileMap) (bytes : List ℕ) → IsDue (trace_due names.trace) files bytes → IsDue (trace_with names setup images) files (trace_plan setup images bytes)
trace_due_with names setup images None bytes is = tt
trace_due_with names setup images (Some held) bytes is = let next : List ℕ → Finding TracePlan = λ bytes. Ok (trace_plan setup images bytes) in ap (λ r. read_then r next) is

-- JUDGING

abbrev verdict_of : TracePlan → Result (Unit {0}) TraceFault
verdict_of p = verdict p.setup.processors (first_judged p.setup (first_registers p.setup p.images) p.images) p.bytes

judged_by : (p : TracePlan) (refusal : Option RelocError) → start_refusal p.setup p.images ≡ refusal → trace_judged p ≡ judged_or refusal (verdict_of p)
unfolding trace_judged
judged_by p refusal is = ap (λ o. judged_or o (verdict_of p)) is

-- the trace of a run
pub judged_is : (p : TracePlan) → start_refusal p.setup p.images ≡ None → Ok tt ≡ verdict p.setup.processors (first_judged p.setup (first_registers p.setup p.images) p.images) p.bytes → trace_judged p ≡ Ok tt
judged_is p none is = judged_by p None none ∙ ap (or_refusal Trace) (sym is)

-- another one
pub judged_stops : (p : TracePlan) (fault : TraceFault) → start_refusal p.setup p.images ≡ None → Err fault ≡ verdict p.setup.processors (first_judged p.setup (first_registers p.setup p.images) p.images) p.bytes → StopsReading (trace_judged p) (Refused (Trace fault))
judged_stops p fault none is = judged_by p None none ∙ ap (or_refusal Trace) (sym is)

-- where a processor can't begin
pub unjudged : (p : TracePlan) (error : RelocError) → start_refusal p.setup p.images ≡ Some error → StopsReading (trace_judged p) (Refused (Images (fault.NotRelocated error)))
unjudged p error some = judged_by p (Some error) some

-- so it is a trace in the subject's words
ok_verdict : (p : TracePlan) (refusal : Option RelocError) → judged_or refusal (verdict_of p) ≡ Ok tt → verdict_of p ≡ Ok tt
ok_verdict p (Some error) is = absurd cc
ok_verdict p None is = by (verdict_of p) refl is where
  by : (r : Result (Unit {0}) TraceFault) → verdict_of p ≡ r → or_refusal Trace r ≡ Ok tt → verdict_of p ≡ Ok tt
  by (Ok x) same is = same
  by (Err fault) same is = absurd cc

pub judged_verdict : (p : TracePlan) → trace_judged p ≡ Ok tt → verdict p.setup.processors (first_judged p.setup (first_registers p.setup p.images) p.images) p.bytes ≡ Ok tt
judged_verdict p is = ok_verdict p (start_refusal p.setup p.images) (sym (judged_by p (start_refusal p.setup p.images) refl) ∙ is)

-- THE COMMAND

-- what is found of the plan that is due is what is due of the command
found_due : (names : Check) (held : FileMap) (p : TracePlan) → trace_plan_due names held ≡ Ok p → due (command.Check names) held ≡ read_then (trace_judged p) (λ _. Ok (written_outcome run_line))
found_due names held p is = ap (λ r. read_then r (λ (p : TracePlan). read_then (trace_judged p) (λ _. Ok (written_outcome run_line)))) is

pub check_due : (names : Check) (files : Option FileMap) (p : TracePlan) → IsDue (trace_plan_due names) files p → trace_judged p ≡ Ok tt → IsDue (due (command.Check names)) files (written_outcome run_line)
check_due names None p is judged = tt
check_due names (Some held) p is judged = found_due names held p is ∙ ap (λ r. read_then r (λ (x : Unit {0}). Ok (written_outcome run_line))) judged

refused_due : (names : Check) (held : FileMap) (p : TracePlan) (refusal : Refusal) → trace_plan_due names held ≡ Ok p → trace_judged p ≡ Err refusal → due (command.Check names) held ≡ Err refusal
refused_due names held p refusal is judged = found_due names held p is ∙ ap (λ r. read_then r (λ (x : Unit {0}). Ok (written_outcome run_line))) judged

-- a refusal of what was found has its cause
judged_cause : (names : Check) (files : Option FileMap) (l : Type 0) (p : TracePlan) (refusal : Refusal) → IsDue (trace_plan_due names) files p → RefusedReading (trace_judged p) refusal → RefusalCause (due (command.Check names)) files l refusal
judged_cause names files l p (Read name) is found = absurd found
judged_cause names files l p (TooLong name limit) is found = absurd found
judged_cause names None l p (Platform error) is found = tt
judged_cause names (Some held) l p (Platform error) is found = refused_due names held p (Platform error) is found
judged_cause names None l p (Images error) is found = tt
judged_cause names (Some held) l p (Images error) is found = refused_due names held p (Images error) is found
judged_cause names None l p (Schedule error) is found = tt
judged_cause names (Some held) l p (Schedule error) is found = refused_due names held p (Schedule error) is found
judged_cause names None l p (Trace error) is found = tt
judged_cause names (Some held) l p (Trace error) is found = refused_due names held p (Trace error) is found

pub check_stops : {T : Type 0} (r : Result T Fault) (names : Check) (files : Option FileMap) (l w s : Type 0) (before after : Option (List ℕ)) (p : TracePlan) → IsDue (trace_plan_due names) files p → IfErr r (EndsJudging w (trace_judged p) before after run_line) →
    IfErr r (StopsAt (command.Check names) files l w s)
check_stops (Ok x) names files l w s before after p is ends = tt
check_stops (Err (Refused refusal)) names files l w s before after p is ends = judged_cause names files l p refusal is ends.0
check_stops (Err Write) names files l w s before after p is ends = ends.0
check_stops (Err Save) names files l w s before after p is ends = absurd ends
check_stops (Err Memory) names files l w s before after p is ends = tt

pub check_wrote : {T : Type 0} (r : Result T Fault) (names : Check) (files : Option FileMap) (w : Type 0) (before after : Option (List ℕ)) (p : TracePlan) → IsDue (trace_plan_due names) files p → IfErr r (EndsJudging w (trace_judged p) before after run_line) →
    IfErr r (WroteBefore (command.Check names) files before after)
check_wrote (Ok x) names files w before after p is ends = tt
check_wrote (Err (Refused refusal)) names files w before after p is ends = ends.1
check_wrote (Err Write) names files w before after p is ends = (written_outcome run_line, check_due names files p is ends.1, ends.2)
check_wrote (Err Save) names files w before after p is ends = absurd ends
check_wrote (Err Memory) names files w before after p is ends = elim ends [ inl same ↦ inl same | inr x ↦ inr (written_outcome run_line, check_due names files p is x.0, x.1) ]

pub check_performed : {T : Type 0} (r : Result T Fault) (names : Check) (files files' : Option FileMap) (before after : Option (List ℕ)) (p : TracePlan) → IsJudgeable p → IsDue (trace_plan_due names) files p → OnOk r (trace_judged p ≡ Ok tt) →
    OnOk r (after ≡ appended before run_line) → OnOk r (Performs (command.Check names) files files' before after)
check_performed (Ok x) names files files' before after p judgeable is judged written = record { plan = p; judgeable = judgeable; is_due = is; judged = judged; written = written }
check_performed (Err fault) names files files' before after p judgeable is judged written = tt

-- a fault of the files
pub check_inputs_stop : (names : Check) (files : Option FileMap) (l w s : Type 0) (fault : Fault) → LoadCause (trace_plan_due names) files l fault → StopsAt (command.Check names) files l w s fault
check_inputs_stop names files l w s (Refused refusal) cause = cause_first (trace_plan_due names) (λ p _. read_then (trace_judged p) (λ _. Ok (written_outcome run_line))) files l refusal cause
check_inputs_stop names files l w s Write cause = absurd cause
check_inputs_stop names files l w s Save cause = absurd cause
check_inputs_stop names files l w s Memory cause = tt

pub check_inputs_wrote : (names : Check) (l : Type 0) (files : Option FileMap) (before : Option (List ℕ)) (fault : Fault) → LoadCause (trace_plan_due names) files l fault → WroteBefore (command.Check names) files before before fault
check_inputs_wrote names l files before (Refused refusal) cause = refl
check_inputs_wrote names l files before Write cause = absurd cause
check_inputs_wrote names l files before Save cause = absurd cause
check_inputs_wrote names l files before Memory cause = inl refl

-- nothing of the store changed
pub stays_unsaved : {T : Type 0} (r : Result T Fault) (stays : Type 0) → stays → IfErr r (UnlessSaved stays)
stays_unsaved (Ok x) stays stay = tt
stays_unsaved (Err (Refused refusal)) stays stay = stay
stays_unsaved (Err Write) stays stay = stay
stays_unsaved (Err Save) stays stay = tt
stays_unsaved (Err Memory) stays stay = stay

-- what was judged, and then written
pub judging_ends : {T : Type 0} (r : Result T Fault) (w : Type 0) (found : Finding (Unit {0})) (before after : Option (List ℕ)) (bytes : List ℕ) → found ≡ Ok tt → IfErr r (EndsWriting w before after bytes) → IfErr r (EndsJudging w found before after bytes)
judging_ends (Ok x) w found before after bytes is ends = tt
judging_ends (Err (Refused refusal)) w found before after bytes is ends = absurd ends
judging_ends (Err Write) w found before after bytes is ends = (ends.0, is, ends.1)
judging_ends (Err Save) w found before after bytes is ends = absurd ends
judging_ends (Err Memory) w found before after bytes is ends = inr (is, ends)

pub judging_stops : (fault : Fault) (w : Type 0) (found : Finding (Unit {0})) (before : Option (List ℕ)) (bytes : List ℕ) → StopsReading found fault → EndsJudging w found before before bytes fault
judging_stops (Refused refusal) w found before bytes stops = (stops, refl)
judging_stops Write w found before bytes stops = absurd stops
judging_stops Save w found before bytes stops = absurd stops
judging_stops Memory w found before bytes stops = inl refl

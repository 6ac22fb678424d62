-- What a judgement says of the bytes.
use Rattle.std.proofs.Common.{◌≡◌, ◌≢◌, ◌↔◌, ℕ, zero, suc, ◌+◌, ◌^◌, ◌<◌, ◌≤◌, ◌==◌, ◌&&◌, inl, inr, Bool, true, false, List, [], ◌∷◌, ◌++◌, length, All, Option, None, Some, Result, Ok, Err, refl, ap, sym, subst, ◌∙◌, append-nil, append_assoc, length-append, arith, if◌then◌else◌}
use Rattle.std.proofs.lemmas.Bool.{and_parts, and_from, eqb-true, eq-eqb, false≢true}
use Rattle.std.proofs.lemmas.List.Elements.{All-nil, All-head, All-tail}
use Rattle.std.proofs.lemmas.List.Sums.{count_by-le-length}
use Rattle.std.proofs.lemmas.Option.{none-some}
use Rattle.cpu_table.specs.Data.{SetupData}
use Rattle.sync_words.specs.Texts.{event_line}
use Rattle.sync_words.specs.declared.event.Event.{Event}
use Rattle.trace_text.specs.declared.last.Totals.{Totals}
use Rattle.trace_text.specs.Last.{last_line, AreNumbers}
use Rattle.trace_text.specs.Spelling.{IsSpelling, StandsAt}
use Rattle.rendezvous_core.specs.Worlds.{labels}
use Rattle.rendezvous_machine.specs.Machines.{Machine}
use Rattle.rendezvous_machine.specs.Rules as rules
use Rattle.rendezvous_machine.specs.Runs.{IsRun, machine_after}
use Rattle.trace_check.specs.declared.broken.Broken.{Broken}
use Rattle.trace_check.specs.Judged.{Judged}
use Rattle.trace_check.specs.Stands.{StandsFor, answer_by}
use Rattle.trace_check.specs.Verdicts.{rule_of}
use Rattle.trace_check.specs.Verdicts as checks
use Rattle.trace_judge.specs.declared.fault.LineFault.TheVariants.{Text, Rule}
use Rattle.trace_judge.specs.declared.fault.TraceFault.{TraceFault}
use Rattle.trace_judge.specs.declared.walk.Walk.{Walk}
use Rattle.trace_judge.specs.Tallies.{Tells, tally_of, is_told, session_count, unserved_count, is_end, is_wave}
use Rattle.trace_judge.specs.Traces.{event_lines, IsTrace, IsNoLine, FaultsBehind, IsFirstFault}
use Rattle.trace_judge.specs.Verdicts.{Verdict, at_fault, answer_to, event_at, last_at, first_walk, advanced, line_of, closed, last_verdict, by_answer, judged_by, verdict_within, verdict}
use Rattle.trace_judge.proofs.Lines.{stand_both, stand_whole, stands_behind, none_past, event_long, last_long, event_said, event_read, last_said, last_read, last_apart}
use Rattle.trace_judge.proofs.Sofar.{IsSoFar, AllJudged, rule_first, after_more, further, lines_on}

-- THE ANSWER AND THE RULE

by_test : (b : Bool) (number : ℕ) (P : Type 0) → (answer_by b number ≡ Ok tt → P) → (answer_by b number ≡ Err (record { rule = number }) → P) → P
by_test true number P accepts refuses = accepts refl
by_test false number P accepts refuses = refuses refl

-- an answer is one of two
by_two : (j : Judged) (event : Event) (P : Type 0) → (answer_to j event ≡ Ok tt → P) → (answer_to j event ≡ Err (record { rule = rule_of event.label }) → P) → P
unfolding answer_to
by_two j event P accepts refuses = by_test (checks.verdict j event.actor event.label) (rule_of event.label) P accepts refuses

module _ (judges : AllJudged) (d : SetupData) (m : Machine) where
  ok_rule : (j : Judged) (event : Event) → StandsFor d j m → answer_to j event ≡ Ok tt → rules.Rule d m event.actor event.label
  unfolding answer_to
  ok_rule j event stands is = (judges d j m event.actor event.label stands).exact.0 is

  rule_ok : (j : Judged) (event : Event) → StandsFor d j m → rules.Rule d m event.actor event.label → answer_to j event ≡ Ok tt
  unfolding answer_to
  rule_ok j event stands rule = (judges d j m event.actor event.label stands).exact.1 rule

-- NUMBERS

told_is : (totals : Totals) (past : List Event) → is_told (tally_of past) totals ≡ true → Tells totals past
told_is totals past told =
    let (front, unserved) = and_parts (totals.events == length past && totals.sessions == session_count past) (totals.unserved == unserved_count past) told in
    let (events, sessions) = and_parts (totals.events == length past) (totals.sessions == session_count past) front in
    record { events_are = eqb-true totals.events (length past) events; sessions_are = eqb-true totals.sessions (session_count past) sessions; unserved_are = eqb-true totals.unserved (unserved_count past) unserved }

is_told_of : (totals : Totals) (past : List Event) → Tells totals past → is_told (tally_of past) totals ≡ true
is_told_of totals past tells =
    and_from (totals.events == length past && totals.sessions == session_count past) (totals.unserved == unserved_count past)
    (and_from (totals.events == length past) (totals.sessions == session_count past) (eq-eqb totals.events (length past) tells.events_are) (eq-eqb totals.sessions (session_count past) tells.sessions_are))
    (eq-eqb totals.unserved (unserved_count past) tells.unserved_are)

-- there are no more events than bytes
few_events : (n : ℕ) (events : List Event) → length events ≤ length (event_lines n events)
few_events n [] = omega arith
few_events n (event ∷ events) =
    omega (arith, few_events n events, event_long n event, length-append (event_line n event) (event_lines n events))

are_numbers : (n : ℕ) (totals : Totals) (events : List Event) (bytes : List ℕ) → length bytes < 2 ^ 64 → bytes ≡ event_lines n events ++ last_line totals → Tells totals events → AreNumbers totals
are_numbers n totals events bytes small is tells =
    let long : length bytes ≡ length (event_lines n events) + length (last_line totals) = ap length is ∙ length-append (event_lines n events) (last_line totals) in
    let few = few_events n events in
    let sessions = count_by-le-length (λ (e : Event). is_end e.label) events in
    let waves = count_by-le-length (λ (e : Event). is_wave e.label) events in
    record {
      events = omega (arith, small, long, few, tells.events_are);
      sessions = omega (arith, small, long, few, sessions, tells.sessions_are);
      unserved = omega (arith, small, long, few, waves, tells.unserved_are);
    }

-- WHERE ALL IS ACCEPTED

closed_ok : (bytes : List ℕ) (line next : ℕ) → closed bytes line next ≡ Ok tt → next ≡ length bytes
closed_ok bytes line next ok = by_end (next == length bytes) refl ok where
  by_end : (b : Bool) → (next == length bytes) ≡ b → (if b then Ok tt else at_fault (line + 1) Text) ≡ Ok tt → next ≡ length bytes
  by_end true same ok = eqb-true next (length bytes) same
  by_end false same ok = absurd cc

told_ok : (bytes : List ℕ) (w : Walk) (last : Totals × ℕ) → last_verdict bytes w (Some last) ≡ Ok tt → (is_told w.tally last.0 ≡ true) × (last.1 ≡ length bytes)
told_ok bytes w last ok = by_told (is_told w.tally last.0) refl ok where
  by_told : (b : Bool) → is_told w.tally last.0 ≡ b → (if b then closed bytes (line_of w) last.1 else at_fault (line_of w) (Rule 32)) ≡ Ok tt → (is_told w.tally last.0 ≡ true) × (last.1 ≡ length bytes)
  by_told true same ok = (same, closed_ok bytes (line_of w) last.1 ok)
  by_told false same ok = absurd cc

module _ (judges : AllJudged) (d : SetupData) (few : d.processors < 2 ^ 16) (m : Machine) (bytes : List ℕ) where
  abbrev n : ℕ
  n = d.processors

  stands_place : (w : Walk) (past : List Event) (text : List ℕ) → IsSoFar d m bytes w past → StandsAt bytes (length (event_lines n past)) text → StandsAt bytes w.at text
  stands_place w past text so stands = let Q : ℕ → Type 0 = λ at. StandsAt bytes at text in subst Q (sym so.place) stands

  from_place : (w : Walk) (past : List Event) (text : List ℕ) → IsSoFar d m bytes w past → StandsAt bytes w.at text → StandsAt bytes (length (event_lines n past)) text
  from_place w past text so stands = let Q : ℕ → Type 0 = λ at. StandsAt bytes at text in subst Q so.place stands

  trace_of : (w : Walk) (past : List Event) (last : Totals × ℕ) → IsSoFar d m bytes w past → last_at bytes w.at ≡ Some last → is_told w.tally last.0 ≡ true → last.1 ≡ length bytes → IsTrace d m bytes
  trace_of w past last so is told whole =
      let said = last_said bytes w.at last is in
      let long : length (event_lines n past ++ last_line last.0) ≡ length bytes = omega (arith, length-append (event_lines n past) (last_line last.0), so.place, said.after, whole) in
      record {
        events = past;
        totals = last.0;
        spelled = so.spelled;
        lines = stand_whole bytes (event_lines n past ++ last_line last.0) (stand_both bytes (event_lines n past) (last_line last.0) so.lines (from_place w past (last_line last.0) so said.stands)) long;
        run = so.run;
        told = told_is last.0 past (ap (λ t. is_told t last.0) (sym so.tally) ∙ told);
      }

  sound_last : (w : Walk) (past : List Event) → IsSoFar d m bytes w past → (r : Option (Totals × ℕ)) → last_at bytes w.at ≡ r → last_verdict bytes w r ≡ Ok tt → IsTrace d m bytes
  sound_last w past so None is ok = absurd cc
  sound_last w past so (Some last) is ok = let (told, whole) = told_ok bytes w last ok in trace_of w past last so is told whole

  -- behind an event that is accepted
  goes_on : (w : Walk) (past : List Event) (read : Event × ℕ) → IsSoFar d m bytes w past → event_at n bytes w.at ≡ Some read → answer_to w.machine read.0 ≡ Ok tt → IsSoFar d m bytes (advanced w read) (past ++ read.0 ∷ [])
  goes_on w past read so is accepted =
      let said = event_said n few bytes w.at read is in
      let rule = ok_rule judges d (machine_after d m (labels past)) w.machine read.0 so.stands_for accepted in
      further judges d m bytes w past read.0 so said.spelling said.stands rule read.1 said.after

  sound_event : (w : Walk) (past : List Event) (next : Walk → Verdict) → IsSoFar d m bytes w past → ((w' : Walk) (past' : List Event) → IsSoFar d m bytes w' past' → next w' ≡ Ok tt → IsTrace d m bytes) →
      (r : Option (Event × ℕ)) → event_at n bytes w.at ≡ r → judged_by next bytes w r ≡ Ok tt → IsTrace d m bytes
  sound_event w past next so later None is ok = sound_last w past so (last_at bytes w.at) refl ok
  sound_event w past next so later (Some read) is ok =
      by_two w.machine read.0 (IsTrace d m bytes)
      (λ accepted. later (advanced w read) (past ++ read.0 ∷ []) (goes_on w past read so is accepted) (sym (ap (λ answer. by_answer (line_of w) answer (next (advanced w read))) accepted) ∙ ok))
      (λ refused. let wrong : at_fault (line_of w) (Rule (rule_of read.0.label)) ≡ Ok tt = sym (ap (λ answer. by_answer (line_of w) answer (next (advanced w read))) refused) ∙ ok in absurd cc)

  sound : (k : ℕ) (w : Walk) (past : List Event) → IsSoFar d m bytes w past → verdict_within k n bytes w ≡ Ok tt → IsTrace d m bytes
  sound zero w past so ok = absurd cc
  sound (suc k) w past so ok = sound_event w past (verdict_within k n bytes) so (λ w' past' so' ok'. sound k w' past' so' ok') (event_at n bytes w.at) refl ok

  -- WHERE THE BYTES ARE A TRACE

  complete_last : (next : Walk → Verdict) (w : Walk) (past : List Event) (totals : Totals) → IsSoFar d m bytes w past → AreNumbers totals → bytes ≡ event_lines n past ++ last_line totals → Tells totals past →
      judged_by next bytes w (event_at n bytes w.at) ≡ Ok tt
  complete_last next w past totals so are is tells =
      let front = event_lines n past in
      let line = last_line totals in
      let after = w.at + length line in
      let stands : StandsAt bytes w.at line = stands_place w past line so (stands_behind bytes front line [] (is ∙ ap (λ text. front ++ text) (sym (append-nil line)))) in
      let last = last_read bytes w.at totals are stands in
      let none = last_apart n bytes w.at (totals, after) last in
      let told : is_told w.tally totals ≡ true = ap (λ t. is_told t totals) so.tally ∙ is_told_of totals past tells in
      let ends : after ≡ length bytes = omega (arith, so.place, ap length is, length-append front line) in
      ap (judged_by next bytes w) none ∙ ap (last_verdict bytes w) last ∙ ap (λ b. if b then closed bytes (line_of w) after else at_fault (line_of w) (Rule 32)) told
      ∙ ap (λ b. if b then Ok tt else at_fault (line_of w + 1) Text) (eq-eqb after (length bytes) ends)

  complete : (rest : List Event) (k : ℕ) (w : Walk) (past : List Event) (totals : Totals) → IsSoFar d m bytes w past → AreNumbers totals → bytes ≡ event_lines n past ++ (event_lines n rest ++ last_line totals) → All (IsSpelling n) rest →
      IsRun d (machine_after d m (labels past)) (labels rest) → Tells totals (past ++ rest) → length rest < k → verdict_within k n bytes w ≡ Ok tt
  complete rest zero w past totals so are is spelled run tells less = absurd (omega (arith, less))
  complete [] (suc k) w past totals so are is spelled run tells less =
      complete_last (verdict_within k n bytes) w past totals so are is (subst (Tells totals) (append-nil past) tells)
  complete (event ∷ rest) (suc k) w past totals so are is spelled run tells less =
      let front = event_lines n past in
      let line = event_line n event in
      let later = event_lines n rest in
      let after = w.at + length line in
      let own : IsSpelling n event = All-head (IsSpelling n) event rest spelled in
      let parts : bytes ≡ front ++ (line ++ (later ++ last_line totals)) = is ∙ ap (λ text. front ++ text) (append_assoc line later (last_line totals)) in
      let stands : StandsAt bytes w.at line = stands_place w past line so (stands_behind bytes front line (later ++ last_line totals) parts) in
      let read = event_read n few bytes w.at event own stands in
      let now = machine_after d m (labels past) in
      let (rule, runs) = rule_first d now event.actor event.label (labels rest) run in
      let accepted = rule_ok judges d now w.machine event so.stands_for rule in
      let so_on : IsSoFar d m bytes (advanced w (event, after)) (past ++ event ∷ []) = further judges d m bytes w past event so own stands rule after refl in
      let P : Machine → Type 0 = λ x. IsRun d x (labels rest) in
      let T : List Event → Type 0 = λ events. Tells totals events in
      ap (judged_by (verdict_within k n bytes) bytes w) read
      ∙ ap (λ answer. by_answer (line_of w) answer (verdict_within k n bytes (advanced w (event, after)))) accepted
      ∙ complete rest k (advanced w (event, after)) (past ++ event ∷ []) totals so_on are
      (parts ∙ sym (append_assoc front line (later ++ last_line totals)) ∙ ap (λ text. text ++ (later ++ last_line totals)) (sym (lines_on n past event)))
      (All-tail (IsSpelling n) event rest spelled) (subst P (sym (after_more judges d m bytes w past event so own stands rule)) runs)
      (subst T (sym (append_assoc past (event ∷ []) rest)) tells) (omega (arith, less))

  -- THE FIRST FAULT

  faults_at : (w : Walk) (past : List Event) (fault : TraceFault) → IsSoFar d m bytes w past → FaultsBehind d (machine_after d m (labels past)) bytes past fault → IsFirstFault d m bytes fault
  faults_at w past fault so faults = record { events = past; spelled = so.spelled; stand = so.lines; run = so.run; faults = faults }

  line_is : (w : Walk) (past : List Event) → IsSoFar d m bytes w past → line_of w ≡ length past + 1
  line_is w past so = ap (λ t. t.events + 1) so.tally

  same_fault : (fault other : TraceFault) → ◌≡◌ {A = Verdict} (Err fault) (Err other) → other ≡ fault
  same_fault fault other is = cc

  no_text : (w : Walk) (past : List Event) (fault : TraceFault) → IsSoFar d m bytes w past → at_fault (line_of w) Text ≡ Err fault → IsNoLine n bytes (length (event_lines n past)) → IsFirstFault d m bytes fault
  no_text w past fault so is none =
      faults_at w past fault so (inl (same_fault (record { line = line_of w; fault = Text }) fault is ∙ ap (λ (line : ℕ). record { line = line; fault = Text }) (line_is w past so), none))

  no_line_past : (w : Walk) (past : List Event) → IsSoFar d m bytes w past → length bytes ≤ w.at → IsNoLine n bytes (length (event_lines n past))
  no_line_past w past so long =
      let end : length bytes ≤ length (event_lines n past) = omega (arith, so.place, long) in
      record {
        no_event = λ event spelled stands. none_past bytes (event_line n event) (length (event_lines n past)) end (event_long n event) stands;
        no_last = λ totals are stands. none_past bytes (last_line totals) (length (event_lines n past)) end (last_long totals) stands;
      }

  -- no event stands there: a last line that is wrong, or one behind which more follows, or neither
  at_last : (w : Walk) (past : List Event) (fault : TraceFault) (last : Totals × ℕ) → IsSoFar d m bytes w past → last_at bytes w.at ≡ Some last → last_verdict bytes w (Some last) ≡ Err fault → IsFirstFault d m bytes fault
  at_last w past fault last so is verdict_is = by_told (is_told w.tally last.0) refl verdict_is where
    place : StandsAt bytes (length (event_lines n past)) (last_line last.0)
    place = from_place w past (last_line last.0) so (last_said bytes w.at last is).stands

    by_told : (b : Bool) → is_told w.tally last.0 ≡ b → (if b then closed bytes (line_of w) last.1 else at_fault (line_of w) (Rule 32)) ≡ Err fault → IsFirstFault d m bytes fault
    by_told false same verdict_is =
        let apart : Tells last.0 past → ⊥ = λ tells. false≢true (sym same ∙ ap (λ t. is_told t last.0) so.tally ∙ is_told_of last.0 past tells) in
        let which = same_fault (record { line = line_of w; fault = Rule 32 }) fault verdict_is ∙ ap (λ (line : ℕ). record { line = line; fault = Rule 32 }) (line_is w past so) in
        faults_at w past fault so (inr (inr (inl (which, record { totals = last.0; stands = place; apart = apart }))))
    by_told true same verdict_is = by_end (last.1 == length bytes) refl verdict_is where
      by_end : (b : Bool) → (last.1 == length bytes) ≡ b → (if b then Ok tt else at_fault (line_of w + 1) Text) ≡ Err fault → IsFirstFault d m bytes fault
      by_end true whole verdict_is = absurd cc
      by_end false goes verdict_is =
          let said = last_said bytes w.at last is in
          let follows : length (event_lines n past) + length (last_line last.0) ≢ length bytes =
          λ e. false≢true (sym goes ∙ eq-eqb last.1 (length bytes) (omega (arith, said.after, so.place, e))) in
          let which = same_fault (record { line = line_of w + 1; fault = Text }) fault verdict_is ∙ ap (λ (line : ℕ). record { line = line + 1; fault = Text }) (line_is w past so) in
          let tells = told_is last.0 past (ap (λ t. is_told t last.0) (sym so.tally) ∙ same) in
          faults_at w past fault so (inr (inr (inr (which, record { totals = last.0; stands = place; told = tells; follows = follows }))))

  no_event_there : (w : Walk) (past : List Event) → IsSoFar d m bytes w past → event_at n bytes w.at ≡ None → last_at bytes w.at ≡ None → IsNoLine n bytes (length (event_lines n past))
  no_event_there w past so none no_last =
      record {
        no_event = λ event spelled stands. none-some _ (sym none ∙ event_read n few bytes w.at event spelled (stands_place w past (event_line n event) so stands));
        no_last = λ totals are stands. none-some _ (sym no_last ∙ last_read bytes w.at totals are (stands_place w past (last_line totals) so stands));
      }

  faulty_last : (w : Walk) (past : List Event) (fault : TraceFault) → IsSoFar d m bytes w past → event_at n bytes w.at ≡ None → (r : Option (Totals × ℕ)) → last_at bytes w.at ≡ r → last_verdict bytes w r ≡ Err fault → IsFirstFault d m bytes fault
  faulty_last w past fault so none None is verdict_is = no_text w past fault so verdict_is (no_event_there w past so none is)
  faulty_last w past fault so none (Some last) is verdict_is = at_last w past fault last so is verdict_is

  -- an event that breaks its rule
  broken : (w : Walk) (past : List Event) (fault : TraceFault) (read : Event × ℕ) → IsSoFar d m bytes w past → event_at n bytes w.at ≡ Some read → answer_to w.machine read.0 ≡ Err (record { rule = rule_of read.0.label }) →
      at_fault (line_of w) (Rule (rule_of read.0.label)) ≡ Err fault → IsFirstFault d m bytes fault
  broken w past fault read so is refused verdict_is =
      let said = event_said n few bytes w.at read is in
      let now = machine_after d m (labels past) in
      let which = same_fault (record { line = line_of w; fault = Rule (rule_of read.0.label) }) fault verdict_is ∙ ap (λ (line : ℕ). record { line = line; fault = Rule (rule_of read.0.label) }) (line_is w past so) in
      faults_at w past fault so
      (inr (inl (
        rule_of read.0.label,
        which,
        record {
          event = read.0;
          spelled = said.spelling;
          stands = from_place w past (event_line n read.0) so said.stands;
          breaks = λ rule. ok_apart (sym (rule_ok judges d now w.machine read.0 so.stands_for rule) ∙ refused);
          rule_is = refl;
        },
      )))
    where
      ok_apart : {broken : Broken} → ◌≡◌ {A = Result (Unit {0}) Broken} (Ok tt) (Err broken) → ⊥
      ok_apart is = cc

  faulty_event : (w : Walk) (past : List Event) (fault : TraceFault) (next : Walk → Verdict) → IsSoFar d m bytes w past → ((w' : Walk) (past' : List Event) → IsSoFar d m bytes w' past' → w.at + 1 ≤ w'.at → next w' ≡ Err fault → IsFirstFault d m bytes fault) →
      (r : Option (Event × ℕ)) → event_at n bytes w.at ≡ r → judged_by next bytes w r ≡ Err fault → IsFirstFault d m bytes fault
  faulty_event w past fault next so later None is verdict_is = faulty_last w past fault so is (last_at bytes w.at) refl verdict_is
  faulty_event w past fault next so later (Some read) is verdict_is =
      let by : Result (Unit {0}) Broken → Verdict = λ answer. by_answer (line_of w) answer (next (advanced w read)) in
      let beyond : w.at + 1 ≤ read.1 = omega (arith, (event_said n few bytes w.at read is).after, event_long n read.0) in
      by_two w.machine read.0 (IsFirstFault d m bytes fault)
      (λ accepted. later (advanced w read) (past ++ read.0 ∷ []) (goes_on w past read so is accepted) beyond (sym (ap by accepted) ∙ verdict_is))
      (λ refused. broken w past fault read so is refused (sym (ap by refused) ∙ verdict_is))

  faulty : (k : ℕ) (w : Walk) (past : List Event) (fault : TraceFault) → IsSoFar d m bytes w past → length bytes ≤ w.at + k → verdict_within k n bytes w ≡ Err fault → IsFirstFault d m bytes fault
  faulty zero w past fault so long verdict_is = no_text w past fault so verdict_is (no_line_past w past so (omega (arith, long)))
  faulty (suc k) w past fault so long verdict_is =
      faulty_event w past fault (verdict_within k n bytes) so (λ w' past' so' beyond verdict_is'. faulty k w' past' fault so' (omega (arith, long, beyond)) verdict_is') (event_at n bytes w.at) refl verdict_is

  -- ALL FROM THE BEGINNING

  first_so_far : (j : Judged) → StandsFor d j m → IsSoFar d m bytes (first_walk j) []
  first_so_far j stands = record { spelled = All-nil (IsSpelling n); run = tt; stands_for = stands; place = refl; lines = refl; tally = refl }

  pub accepts : (j : Judged) → StandsFor d j m → length bytes < 2 ^ 64 → (verdict n j bytes ≡ Ok tt) ↔ IsTrace d m bytes
  unfolding verdict
  accepts j stands small = (to, from) where
    to : verdict_within (length bytes) n bytes (first_walk j) ≡ Ok tt → IsTrace d m bytes
    to ok = sound (length bytes) (first_walk j) [] (first_so_far j stands) ok

    from : IsTrace d m bytes → verdict_within (length bytes) n bytes (first_walk j) ≡ Ok tt
    from trace =
        let long : length bytes ≡ length (event_lines n trace.events) + length (last_line trace.totals) = ap length trace.lines ∙ length-append (event_lines n trace.events) (last_line trace.totals) in
        let less : length trace.events < length bytes = omega (arith, long, few_events n trace.events, last_long trace.totals) in
        complete trace.events (length bytes) (first_walk j) [] trace.totals (first_so_far j stands) (are_numbers n trace.totals trace.events bytes small trace.lines trace.told) trace.lines trace.spelled trace.run trace.told less

  pub refuses : (j : Judged) (fault : TraceFault) → StandsFor d j m → verdict n j bytes ≡ Err fault → IsFirstFault d m bytes fault
  unfolding verdict
  refuses j fault stands is = faulty (length bytes) (first_walk j) [] fault (first_so_far j stands) (omega arith) is

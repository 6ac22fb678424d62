-- What holds of a walk behind the lines of some events.
use Rattle.std.proofs.Common.{◌≡◌, ℕ, ◌+◌, Bool, true, false, cond, List, [], ◌∷◌, ◌++◌, length, All, refl, ap, sym, subst, ◌∙◌, append-nil, length-append, arith}
use Rattle.std.specs.List.{sum_by, count_by}
use Rattle.std.proofs.lemmas.Grind.{flat_map-append}
use Rattle.std.proofs.lemmas.List.Elements.{All-nil, All-cons, All-append}
use Rattle.std.proofs.lemmas.List.Sums.{sum_by-append, sum_by-cons}
use Rattle.cpu_table.specs.Data.{SetupData}
use Rattle.sync_words.specs.Texts.{event_line}
use Rattle.sync_words.specs.declared.event.Event.{Event}
use Rattle.sync_words.specs.declared.label.Label.{Label}
use Rattle.sync_words.specs.declared.label.Label.TheVariants as say
use Rattle.trace_text.specs.Spelling.{IsSpelling, StandsAt}
use Rattle.rendezvous_core.specs.Worlds.{labels, with_label}
use Rattle.rendezvous_machine.specs.Machines.{Machine}
use Rattle.rendezvous_machine.specs.Rules.{Rule}
use Rattle.rendezvous_machine.specs.Effects.{effect}
use Rattle.rendezvous_machine.specs.Runs.{Said, IsRun, machine_after}
use Rattle.trace_check.specs.Judged.{Judged}
use Rattle.trace_check.specs.Stands.{StandsFor, Judges}
use Rattle.trace_judge.specs.declared.tally.Tally.{Tally}
use Rattle.trace_judge.specs.declared.walk.Walk.{Walk}
use Rattle.trace_judge.specs.Tallies.{is_end, is_wave, is_served, tally_of, one_if, counted}
use Rattle.trace_judge.specs.Traces.{event_lines}
use Rattle.trace_judge.specs.Verdicts.{judged_after, advanced}
use Rattle.trace_judge.proofs.Lines.{stand_both}

-- LABELS

labels_on : (past more : List Event) → labels (past ++ more) ≡ labels past ++ labels more
labels_on [] more = refl
labels_on (event ∷ past) more = ap (with_label event.actor event.label) (labels_on past more) ∙ label_first event.actor event.label (labels past) (labels more) where
  label_first : (i : ℕ) (l : Label) (xs ys : List Said) → with_label i l (xs ++ ys) ≡ with_label i l xs ++ ys
  label_first i say.Silent xs ys = refl
  label_first i l xs ys = refl

run_on : (d : SetupData) (m : Machine) (xs ys : List Said) → IsRun d m xs → IsRun d (machine_after d m xs) ys → IsRun d m (xs ++ ys)
run_on d m [] ys run more = more
run_on d m (e ∷ es) ys run more = (run.0, run_on d (effect d m e.0 e.1) es ys run.1 more)

after_on : (d : SetupData) (m : Machine) (xs ys : List Said) → machine_after d m (xs ++ ys) ≡ machine_after d (machine_after d m xs) ys
after_on d m [] ys = refl
after_on d m (e ∷ es) ys = after_on d (effect d m e.0 e.1) es ys

-- one label, which may be the silent one
run_one : (d : SetupData) (m : Machine) (i : ℕ) (l : Label) → Rule d m i l → IsRun d m (with_label i l [])
run_one d m i say.Silent rule = tt
run_one d m i l rule = (rule, tt)

after_one : (d : SetupData) (m : Machine) (i : ℕ) (l : Label) → machine_after d m (with_label i l []) ≡ effect d m i l
after_one d m i say.Silent = refl
after_one d m i l = refl

-- the first label of a run, and the rest
pub rule_first : (d : SetupData) (m : Machine) (i : ℕ) (l : Label) (es : List Said) → IsRun d m (with_label i l es) → Rule d m i l × IsRun d (effect d m i l) es
rule_first d m i say.Silent es run = (tt, run)
rule_first d m i l es run = run

-- COUNTS

one_more : {X : Type 0} (test : X → Bool) (xs : List X) (x : X) → count_by test (xs ++ x ∷ []) ≡ count_by test xs + one_if (test x)
one_more {X = X} test xs x =
    let f : X → ℕ = λ y. cond (test y) 1 0 in
    let both : sum_by f (xs ++ x ∷ []) ≡ sum_by f xs + sum_by f (x ∷ []) = sum_by-append f xs (x ∷ []) in
    let one : sum_by f (x ∷ []) ≡ f x + sum_by f [] = sum_by-cons f x [] in
    let same : f x ≡ one_if (test x) = as_one (test x) in
    let none : sum_by f [] ≡ 0 = refl in
    omega (arith, both, one, same, none)
  where
    as_one : (b : Bool) → cond b 1 0 ≡ one_if b
    as_one true = refl
    as_one false = refl

pub tally_on : (past : List Event) (event : Event) → counted (tally_of past) event.label ≡ tally_of (past ++ event ∷ [])
tally_on past event = λ t. record {
  events = sym (length-append past (event ∷ [])) t;
  sessions = sym (one_more (λ (e : Event). is_end e.label) past event) t;
  waves = sym (one_more (λ (e : Event). is_wave e.label) past event) t;
  served = sym (one_more (λ (e : Event). is_served e.label) past event) t;
}

-- LINES

pub lines_on : (n : ℕ) (past : List Event) (event : Event) → event_lines n (past ++ event ∷ []) ≡ event_lines n past ++ event_line n event
lines_on n past event = flat_map-append (event_line n) past (event ∷ []) ∙ ap (λ xs. event_lines n past ++ xs) (append-nil (event_line n event))

-- behind the lines of these events, whose labels are a run from a state of the machine
pub record IsSoFar (d : SetupData) (m : Machine) (bytes : List ℕ) (w : Walk) (past : List Event) : Type 0 where
  pub spelled : All (IsSpelling d.processors) past
  pub run : IsRun d m (labels past)
  pub stands_for : StandsFor d w.machine (machine_after d m (labels past))
  pub place : w.at ≡ length (event_lines d.processors past)
  pub lines : StandsAt bytes 0 (event_lines d.processors past)
  pub tally : w.tally ≡ tally_of past

-- what the checker's law says of all labels
abbrev pub AllJudged : Type 0
AllJudged = (d : SetupData) (j : Judged) (m : Machine) (i : ℕ) (l : Label) → StandsFor d j m → Judges d j m i l

-- an event more whose rule holds
module _ (judges : AllJudged) (d : SetupData) (m : Machine) (bytes : List ℕ) (w : Walk) (past : List Event) (event : Event) (so_far : IsSoFar d m bytes w past) (spelled : IsSpelling d.processors event)
    (stands : StandsAt bytes w.at (event_line d.processors event)) (rule : Rule d (machine_after d m (labels past)) event.actor event.label) where
  abbrev pub now : Machine
  now = machine_after d m (labels past)

  on : labels (past ++ event ∷ []) ≡ labels past ++ with_label event.actor event.label []
  on = labels_on past (event ∷ [])

  run_more : IsRun d m (labels (past ++ event ∷ []))
  run_more = subst (IsRun d m) (sym on) (run_on d m (labels past) (with_label event.actor event.label []) so_far.run (run_one d now event.actor event.label rule))

  pub after_more : machine_after d m (labels (past ++ event ∷ [])) ≡ effect d now event.actor event.label
  after_more = ap (machine_after d m) on ∙ after_on d m (labels past) (with_label event.actor event.label []) ∙ after_one d now event.actor event.label

  stands_more : StandsFor d (judged_after w.machine event) (machine_after d m (labels (past ++ event ∷ [])))
  unfolding judged_after
  stands_more =
      let P : Machine → Type 0 = λ x. StandsFor d (judged_after w.machine event) x in
      subst P (sym after_more) ((judges d w.machine now event.actor event.label so_far.stands_for).after rule)

  lines_more : StandsAt bytes 0 (event_lines d.processors (past ++ event ∷ []))
  lines_more =
      let P : List ℕ → Type 0 = λ text. StandsAt bytes 0 text in
      let Q : ℕ → Type 0 = λ at. StandsAt bytes at (event_line d.processors event) in
      subst P (sym (lines_on d.processors past event)) (stand_both bytes (event_lines d.processors past) (event_line d.processors event) so_far.lines (subst Q so_far.place stands))

  place_more : w.at + length (event_line d.processors event) ≡ length (event_lines d.processors (past ++ event ∷ []))
  place_more =
      let long : length (event_lines d.processors (past ++ event ∷ [])) ≡ length (event_lines d.processors past) + length (event_line d.processors event) =
      ap length (lines_on d.processors past event) ∙ length-append (event_lines d.processors past) (event_line d.processors event) in
      omega (arith, so_far.place, long)

  pub further : (next : ℕ) → next ≡ w.at + length (event_line d.processors event) → IsSoFar d m bytes (advanced w (event, next)) (past ++ event ∷ [])
  further next is =
      record {
        spelled = All-append (IsSpelling d.processors) past (event ∷ []) so_far.spelled (All-cons (IsSpelling d.processors) event [] spelled (All-nil (IsSpelling d.processors)));
        run = run_more;
        stands_for = stands_more;
        place = is ∙ place_more;
        lines = lines_more;
        tally = ap (λ (t : Tally). counted t event.label) so_far.tally ∙ tally_on past event;
      }

-- The judgement from line to line.
use Rattle.std.proofs.Common.{◌≡◌, ℕ, suc, ◌+◌, ◌-◌, ◌<◌, ◌≤◌, Bool, true, false, List, length, None, Some, Result, Ok, Err, refl, ap, sym, subst, ◌∙◌, arith}
use Rattle.sync_words.specs.declared.event.Event.{Event}
use Rattle.trace_check.specs.declared.broken.Broken.{Broken}
use Rattle.trace_check.specs.Judged.{Judged}
use Rattle.trace_judge.specs.declared.fault.LineFault.TheVariants.{Text}
use Rattle.trace_judge.specs.declared.fault.TraceFault.{TraceFault}
use Rattle.trace_judge.specs.declared.walk.Walk.{Walk}
use Rattle.trace_judge.specs.Tallies.{IsTallyBelow, one_if, is_end, is_wave, is_served}
use Rattle.trace_judge.specs.Verdicts.{Verdict, at_fault, answer_to, event_at, last_at, advanced, line_of, last_verdict, by_answer, judged_by, verdict_within, first_walk, verdict}

-- one line is judged, and so many fewer are left
with_line : (n line : ℕ) (bytes : List ℕ) (w : Walk) → line < length bytes →
    verdict_within (length bytes - line) n bytes w ≡ judged_by (verdict_within (length bytes - (line + 1)) n bytes) bytes w (event_at n bytes w.at)
with_line n line bytes w within =
    let one : length bytes - line ≡ suc (length bytes - (line + 1)) = omega (arith, within) in
    ap (λ k. verdict_within k n bytes w) one

-- behind an event that the checker accepts
pub next_line : (n line : ℕ) (bytes : List ℕ) (w next : Walk) (read : Event × ℕ) → line < length bytes → event_at n bytes w.at ≡ Some read → answer_to w.machine read.0 ≡ Ok tt → next ≡ advanced w read →
    verdict_within (length bytes - (line + 1)) n bytes next ≡ verdict_within (length bytes - line) n bytes w
next_line n line bytes w next read within stands accepted is =
    ap (verdict_within (length bytes - (line + 1)) n bytes) is
    ∙ sym (with_line n line bytes w within ∙ ap (judged_by (verdict_within (length bytes - (line + 1)) n bytes) bytes w) stands
    ∙ ap (λ answer. by_answer (line_of w) answer (verdict_within (length bytes - (line + 1)) n bytes (advanced w read))) accepted)

ok_apart : {fault : TraceFault} → ◌≡◌ {A = Verdict} (Ok tt) (Err fault) → ⊥
ok_apart is = cc

same_broken : (line : ℕ) (answer : Result (Unit {0}) Broken) (rest : Verdict) (fault : TraceFault) → by_answer line answer (Ok tt) ≡ Err fault → by_answer line answer rest ≡ Err fault
same_broken line (Ok _) rest fault is = absurd (ok_apart is)
same_broken line (Err broken) rest fault is = is

-- at an event that breaks its rule
pub broken_line : (n line : ℕ) (bytes : List ℕ) (w : Walk) (read : Event × ℕ) (fault : TraceFault) → line < length bytes → event_at n bytes w.at ≡ Some read → by_answer (line_of w) (answer_to w.machine read.0) (Ok tt) ≡ Err fault →
    verdict_within (length bytes - line) n bytes w ≡ Err fault
broken_line n line bytes w read fault within stands breaks =
    with_line n line bytes w within ∙ ap (judged_by (verdict_within (length bytes - (line + 1)) n bytes) bytes w) stands
    ∙ same_broken (line_of w) (answer_to w.machine read.0) (verdict_within (length bytes - (line + 1)) n bytes (advanced w read)) fault breaks

-- where there is no event
pub ended_line : (n line : ℕ) (bytes : List ℕ) (w : Walk) → line < length bytes → event_at n bytes w.at ≡ None → verdict_within (length bytes - line) n bytes w ≡ last_verdict bytes w (last_at bytes w.at)
ended_line n line bytes w within none = with_line n line bytes w within ∙ ap (judged_by (verdict_within (length bytes - (line + 1)) n bytes) bytes w) none

-- where all lines were judged
pub no_line_left : (n line : ℕ) (bytes : List ℕ) (w : Walk) → length bytes ≤ line → verdict_within (length bytes - line) n bytes w ≡ at_fault (line_of w) Text
no_line_left n line bytes w past = let none : length bytes - line ≡ 0 = omega (arith, past) in ap (λ k. verdict_within k n bytes w) none

-- the judgement of all
pub whole : (n : ℕ) (judged : Judged) (bytes : List ℕ) → verdict_within (length bytes) n bytes (first_walk judged) ≡ verdict n judged bytes
unfolding verdict
whole n judged bytes = refl

one_at_most : (b : Bool) → one_if b ≤ 1
one_at_most true = omega arith
one_at_most false = omega arith

-- the numbers stay small
pub next_below : (line : ℕ) (w next : Walk) (read : Event × ℕ) → IsTallyBelow (line + 1) w.tally → next ≡ advanced w read → IsTallyBelow (line + 1 + 1) next.tally
next_below line w next read few is =
    let P : Walk → Type 0 = λ walk. IsTallyBelow (line + 1 + 1) walk.tally in
    subst P (sym is) record {
      events = omega (arith, few.events);
      sessions = omega (arith, few.sessions, one_at_most (is_end read.0.label));
      waves = omega (arith, few.waves, one_at_most (is_wave read.0.label));
      served = omega (arith, few.served, one_at_most (is_served read.0.label));
    }

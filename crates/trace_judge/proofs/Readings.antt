-- What the readers of lines answer is what the judgement reads.
use Rattle.std.proofs.Common.{◌≡◌, ℕ, ◌+◌, ◌^◌, ◌<◌, List, length, codes, Option, Some, None, Result, Ok, Err, IfSome, IfNone, IfOk, IfErr, option_map, option_and_then, refl, ap, sym, subst, ◌∙◌}
use Rattle.std.specs.Result.{result_ok}
use Rattle.std.proofs.lemmas.Option.{option_and_then_some}
use Rattle.sync_words.specs.Texts.{space, event_line}
use Rattle.sync_words.specs.declared.event.Event.{Event}
use Rattle.trace_text.specs.declared.last.Totals.{Totals}
use Rattle.trace_text.specs.Last.{last_line, AreNumbers, complete_of, stripped, behind, unserved_of, sessions_of, events_of, totals_of, totals_with}
use Rattle.trace_text.specs.Readings.{pair_at, split_first, line_at, wide}
use Rattle.trace_text.specs.Spelling.{IsSpelling, StandsAt}
use Rattle.trace_text.proofs.Numbers.{number_spells}
use Rattle.trace_text.proofs.Spells.{map_some}
use Rattle.trace_judge.specs.Verdicts.{event_at, last_at}
use Rattle.trace_judge.proofs.Lines.{event_said, event_read, last_said, last_read}

-- THE NUMBERS OF A LAST LINE

-- what holds of each part holds of the pair that is read
pair_said : {A B : Type 0} (first : List ℕ → Option A) (second : List ℕ → Option B) (P : A → Type 0) (Q : B → Type 0) → ((text : List ℕ) (a : A) → first text ≡ Some a → P a) → ((text : List ℕ) (b : B) → second text ≡ Some b → Q b) →
    (text : List ℕ) (p : A × B) → pair_at space first second text ≡ Some p → P p.0 × Q p.1
pair_said first second P Q one two text p is =
    option_and_then_some (λ texts. option_and_then (λ a. option_map (λ b. (a, b)) (second texts.1)) (first texts.0)) (split_first space text) p is (λ texts split reads.
    option_and_then_some (λ a. option_map (λ b. (a, b)) (second texts.1)) (first texts.0) p reads (λ a first_is more.
    map_some (λ b. (a, b)) (second texts.1) p more (λ b second_is same.
    subst (λ q. P q.0 × Q q.1) same (one texts.0 a first_is, two texts.1 b second_is))))

behind_said : {V : Type 0} (name : List ℕ) (read : List ℕ → Option V) (P : V → Type 0) → ((text : List ℕ) (v : V) → read text ≡ Some v → P v) → (text : List ℕ) (v : V) → behind name read text ≡ Some v → P v
behind_said name read P one text v is = option_and_then_some read (stripped name text) v is (λ rest strips reads. one rest v reads)

abbrev IsWide : ℕ → Type 0
IsWide n = n < 2 ^ 64

wide_said : (text : List ℕ) (n : ℕ) → wide text ≡ Some n → IsWide n
wide_said text n is = (number_spells.said text n is).0

unserved_said : (text : List ℕ) (n : ℕ) → unserved_of text ≡ Some n → IsWide n
unserved_said text n is = behind_said (codes "unserved ") wide IsWide wide_said text n is

sessions_said : (text : List ℕ) (p : ℕ × ℕ) → sessions_of text ≡ Some p → IsWide p.0 × IsWide p.1
sessions_said text p is =
    behind_said (codes "sessions ") (pair_at space wide unserved_of) (λ p. IsWide p.0 × IsWide p.1) (λ text p is. pair_said wide unserved_of IsWide IsWide wide_said unserved_said text p is) text p is

abbrev AreWide : ℕ × (ℕ × ℕ) → Type 0
AreWide p = IsWide p.0 × (IsWide p.1.0 × IsWide p.1.1)

events_numbers : (text : List ℕ) (p : ℕ × (ℕ × ℕ)) → events_of text ≡ Some p → AreWide p
events_numbers text p is =
    behind_said (codes "events ") (pair_at space wide sessions_of) AreWide (λ text p is. pair_said wide sessions_of IsWide (λ q. IsWide q.0 × IsWide q.1) wide_said sessions_said text p is) text p is

totals_numbers : (text : List ℕ) (totals : Totals) → totals_of text ≡ Some totals → AreNumbers totals
totals_numbers text totals is =
    map_some totals_with (pair_at space complete_of events_of text) totals is (λ p whole same.
    let (_, fit) = pair_said complete_of events_of (λ _. Unit {0}) AreWide (λ _ _ _. tt) events_numbers text p whole in
    subst AreNumbers same record { events = fit.0; sessions = fit.1.0; unserved = fit.1.1 })

pub last_numbers : (bytes : List ℕ) (at : ℕ) (read : Totals × ℕ) → last_at bytes at ≡ Some read → AreNumbers read.0
unfolding last_at
last_numbers bytes at read is =
    option_and_then_some (λ line. option_map (λ totals. (totals, at + length line + 1)) (totals_of line)) (line_at 128 bytes at) read is (λ line found reads.
    map_some (λ totals. (totals, at + length line + 1)) (totals_of line) read reads (λ totals spelled same.
    subst (λ p. AreNumbers p.0) same (totals_numbers line totals spelled)))

-- WHAT THE READERS ANSWER

pub event_result : {E : Type 0} (n : ℕ) → n < 2 ^ 16 → (bytes : List ℕ) (at : ℕ) (r : Result (Event × ℕ) E) → IfOk r (λ r. IsSpelling n r.0) → IfOk r (λ r. StandsAt bytes at (event_line n r.0)) → IfOk r (λ r. r.1 ≡ at + length (event_line n r.0)) →
    IfErr r (λ _. (event : Event) → IsSpelling n event → StandsAt bytes at (event_line n event) → ⊥) → result_ok r ≡ event_at n bytes at
event_result n few bytes at (Ok read) spelled stands after refused =
    sym (event_read n few bytes at read.0 spelled stands ∙ ap (λ (next : ℕ). Some (read.0, next)) (sym after))
event_result n few bytes at (Err e) spelled stands after refused = by_read (event_at n bytes at) refl where
  by_read : (o : Option (Event × ℕ)) → event_at n bytes at ≡ o → None ≡ event_at n bytes at
  by_read None is = sym is
  by_read (Some read) is = let said = event_said n few bytes at read is in absurd (refused read.0 said.spelling said.stands)

pub last_result : (bytes : List ℕ) (at : ℕ) (r : Option (Totals × ℕ)) → IfSome r (λ r. AreNumbers r.0) → IfSome r (λ r. StandsAt bytes at (last_line r.0)) → IfSome r (λ r. r.1 ≡ at + length (last_line r.0)) →
    IfNone r ((totals : Totals) → AreNumbers totals → StandsAt bytes at (last_line totals) → ⊥) → r ≡ last_at bytes at
last_result bytes at (Some read) are stands after refused =
    sym (last_read bytes at read.0 are stands ∙ ap (λ (next : ℕ). Some (read.0, next)) (sym after))
last_result bytes at None are stands after refused = by_read (last_at bytes at) refl where
  by_read : (o : Option (Totals × ℕ)) → last_at bytes at ≡ o → None ≡ last_at bytes at
  by_read None is = sym is
  by_read (Some read) is = absurd (refused read.0 (last_numbers bytes at read is) (last_said bytes at read is).stands)

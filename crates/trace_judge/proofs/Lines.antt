-- Where lines stand, and what is read there.
use Rattle.std.proofs.Common.{◌≡◌, ℕ, zero, suc, ◌+◌, ◌^◌, ◌<◌, ◌≤◌, Bool, true, false, List, [], ◌∷◌, ◌++◌, length, take, drop, codes, None, Some, option_map, option_and_then, refl, ap, sym, ◌∙◌, length-append, arith, if◌then◌else◌}
use Rattle.std.proofs.Math.Seq.{take-add, take-append_seam, drop-append_seam}
use Rattle.std.proofs.lemmas.List.{take_all}
use Rattle.std.proofs.lemmas.Option.{none-some, option_and_then_some}
use Rattle.std.proofs.lemmas.Slice.Eq.{bytes_eq-Decides}
use Rattle.std.specs.Str.{bytes_eq}
use Rattle.sync_words.specs.Texts.{space, line_end, event_text, event_line}
use Rattle.sync_words.specs.declared.event.Event.{Event}
use Rattle.trace_text.specs.declared.last.Totals.{Totals}
use Rattle.trace_text.specs.Last.{totals_text, last_line, AreNumbers, complete_of, events_of, totals_of, totals_with}
use Rattle.trace_text.specs.Readings.{pair_in, pair_at, split_first, actor_of, after_actor, event_with, is_within, tested, event_of, line_at}
use Rattle.trace_text.specs.Spelling.{IsSpelling, StandsAt}
use Rattle.trace_text.proofs.Lines.{IsRead, reading_said, reading_gives}
use Rattle.trace_text.proofs.LastLines as last
use Rattle.trace_text.proofs.Spells.{map_some}
use Rattle.trace_judge.specs.Verdicts.{event_at, last_at}

-- what stands at the beginning, and what stands behind it, stand at the beginning together
pub stand_both : (bytes first second : List ℕ) → StandsAt bytes 0 first → StandsAt bytes (length first) second → StandsAt bytes 0 (first ++ second)
stand_both bytes first second here there =
    ap (λ k. take k bytes) (length-append first second) ∙ take-add (length first) (length second) bytes
    ∙ ap (λ xs. xs ++ take (length second) (drop (length first) bytes)) here ∙ ap (λ xs. first ++ xs) there

-- what stands at the beginning is all, if it is as long
pub stand_whole : (bytes text : List ℕ) → StandsAt bytes 0 text → length text ≡ length bytes → bytes ≡ text
stand_whole bytes text stands long = sym (take_all (length text) bytes (omega (arith, long))) ∙ stands

-- a part stands behind what is before it
pub stands_behind : (bytes front text rest : List ℕ) → bytes ≡ front ++ (text ++ rest) → StandsAt bytes (length front) text
stands_behind bytes front text rest is =
    ap (λ xs. take (length text) (drop (length front) xs)) is ∙ ap (take (length text)) (drop-append_seam front (text ++ rest)) ∙ take-append_seam text rest

-- and what is before it at the beginning
pub stands_first : (bytes front rest : List ℕ) → bytes ≡ front ++ rest → StandsAt bytes 0 front
stands_first bytes front rest is = ap (λ xs. take (length front) xs) is ∙ take-append_seam front rest

drop_past : (at : ℕ) (bytes : List ℕ) → length bytes ≤ at → drop at bytes ≡ []
drop_past zero [] past = refl
drop_past (suc at) [] past = refl
drop_past zero (byte ∷ bytes) past = absurd (omega (arith, past))
drop_past (suc at) (byte ∷ bytes) past = drop_past at bytes (omega (arith, past))

none_of_nothing : (k : ℕ) → ◌≡◌ {A = List ℕ} (take k []) []
none_of_nothing zero = refl
none_of_nothing (suc k) = refl

-- no text stands past the end
pub none_past : (bytes text : List ℕ) (at : ℕ) → length bytes ≤ at → 0 < length text → StandsAt bytes at text → ⊥
none_past bytes text at past some stands =
    let nothing : [] ≡ text = sym (ap (take (length text)) (drop_past at bytes past) ∙ none_of_nothing (length text)) ∙ stands in
    let few : 0 ≡ length text = ap length nothing in
    omega (arith, few, some)

-- each line has a byte
pub event_long : (n : ℕ) (event : Event) → 0 < length (event_line n event)
event_long n event = omega (arith, length-append (event_text n event) (line_end ∷ []))

pub last_long : (totals : Totals) → 0 < length (last_line totals)
last_long totals = omega (arith, length-append (totals_text totals.complete totals.events totals.sessions totals.unserved) (line_end ∷ []))

-- WHAT IS READ

pub event_said : (n : ℕ) → n < 2 ^ 16 → (bytes : List ℕ) (at : ℕ) (read : Event × ℕ) → event_at n bytes at ≡ Some read → IsRead n bytes at read.0 read.1
unfolding event_at
event_said n few bytes at read is = reading_said n few bytes at read is

pub event_read : (n : ℕ) → n < 2 ^ 16 → (bytes : List ℕ) (at : ℕ) (event : Event) → IsSpelling n event → StandsAt bytes at (event_line n event) → event_at n bytes at ≡ Some (event, at + length (event_line n event))
unfolding event_at
event_read n few bytes at event spelled stands = reading_gives n few bytes at event spelled stands

pub last_said : (bytes : List ℕ) (at : ℕ) (read : Totals × ℕ) → last_at bytes at ≡ Some read → last.IsLast bytes at read.0 read.1
unfolding last_at
last_said bytes at read is = last.reading_said bytes at read is

pub last_read : (bytes : List ℕ) (at : ℕ) (totals : Totals) → AreNumbers totals → StandsAt bytes at (last_line totals) → last_at bytes at ≡ Some (totals, at + length (last_line totals))
unfolding last_at
last_read bytes at totals are stands = last.reading_gives bytes at totals are stands

-- A LAST LINE IS NO EVENT'S

first_word : (word : List ℕ) (complete : Bool) → complete_of word ≡ Some complete → (n : ℕ) → actor_of n word ≡ None
first_word word complete is n = by_first (bytes_eq word (codes "complete")) (bytes_eq word (codes "unfinished")) refl refl where
  by_first : (first second : Bool) → bytes_eq word (codes "complete") ≡ first → bytes_eq word (codes "unfinished") ≡ second → actor_of n word ≡ None
  by_first true second a b = ap (actor_of n) ((bytes_eq-Decides word (codes "complete")).0 a)
  by_first false true a b = ap (actor_of n) ((bytes_eq-Decides word (codes "unfinished")).0 b)
  by_first false false a b = absurd (none-some _ (sym (ap (λ t. if t then Some true else if bytes_eq word (codes "unfinished") then Some false else None) a ∙ ap (λ t. if t then Some false else None) b) ∙ is))

not_both : (n : ℕ) (text : List ℕ) (totals : Totals) → totals_of text ≡ Some totals → event_of n text ≡ None
not_both n text totals is =
    map_some totals_with (pair_at space complete_of events_of text) totals is (λ p whole same.
    option_and_then_some (λ texts. option_and_then (λ a. option_map (λ b. (a, b)) (events_of texts.1)) (complete_of texts.0)) (split_first space text) p whole (λ texts split reads.
    option_and_then_some (λ a. option_map (λ b. (a, b)) (events_of texts.1)) (complete_of texts.0) p reads (λ complete first more.
    ap (λ parts. tested (is_within n) (option_map event_with (pair_in (actor_of n) after_actor parts))) split
    ∙ ap (λ o. tested (is_within n) (option_map event_with (option_and_then (λ a. option_map (λ b. (a, b)) (after_actor texts.1)) o))) (first_word texts.0 complete first n))))

pub last_apart : (n : ℕ) (bytes : List ℕ) (at : ℕ) (read : Totals × ℕ) → last_at bytes at ≡ Some read → event_at n bytes at ≡ None
unfolding event_at last_at
last_apart n bytes at read is =
    option_and_then_some (λ line. option_map (λ totals. (totals, at + length line + 1)) (totals_of line)) (line_at 128 bytes at) read is (λ line found reads.
    map_some (λ totals. (totals, at + length line + 1)) (totals_of line) read reads (λ totals spelled same.
    ap (option_and_then (λ text. option_map (λ event. (event, at + length text + 1)) (event_of n text))) found
    ∙ ap (option_map (λ event. (event, at + length line + 1))) (not_both n line totals spelled)))

-- Lines of events, and where they stand.
use Rattle.std.proofs.Common.{◌≡◌, ℕ, ◌+◌, ◌^◌, ◌<◌, ◌≤◌, true, not, ◌&&◌, ◌==◌, nat_le, List, [], ◌∷◌, ◌++◌, length, take, Option, Some, None, option_map, option_and_then, decimal, IsUtf8, refl, ap, sym, subst, ◌∙◌, le-leb, leb-true, append-nil, length-append, arith}
use Rattle.std.proofs.lemmas.Bool.{and_parts, and_from}
use Rattle.std.proofs.lemmas.Bool.Decides.{nat_tests}
use Rattle.std.proofs.lemmas.List.{take_at}
use Rattle.std.proofs.lemmas.Option.{same_Some, option_and_then_some}
use Rattle.sync_words.specs.Steps.{IsWord}
use Rattle.sync_words.specs.Texts.{space, line_end, actor_text, word_text, access_text, label_text, event_text, event_line}
use Rattle.sync_words.specs.declared.access.Access.{Access}
use Rattle.sync_words.specs.declared.access.TheConstants.{LOCKED}
use Rattle.sync_words.specs.declared.event.Event.{Event}
use Rattle.sync_words.specs.declared.label.Label.{Label}
use Rattle.sync_words.specs.declared.word.WordId.{WordId}
use Rattle.trace_text.specs.Readings.{pair_at, actor_of, after_access, after_word, after_actor, is_word, has_up_to, event_with, is_within, event_of, line_at, reading}
use Rattle.trace_text.specs.Spelling.{HasUpTo, IsLabel, IsSpelling, StandsAt}
use Rattle.trace_text.proofs.Accesses.{greatest, access_spells, access_within, access_wider, access_passes, access_is, access_fits}
use Rattle.trace_text.proofs.Bytes.{is_field_byte, is_word_byte, is_line_byte, field_is_word, word_is_line, Within, all_weaker, weaker, none, both, one_more, decimal_within}
use Rattle.trace_text.proofs.Ends.{line_said, text_found, text_utf8}
use Rattle.trace_text.proofs.Labels.{middle_spells, label_spells, label_within}
use Rattle.trace_text.proofs.Places.{IsActor, actor_spells, actor_within, word_spells, word_within, word_passes, word_is, word_fits}
use Rattle.trace_text.proofs.Spells.{Spells, trailing, pairs, tested_some, tested_gives, map_some}
use Rattle.trace_text.proofs.Splits.{Lacks}

-- no word has a space in it
pub space_free : (b : ℕ) → is_word_byte b ≡ true → not (b == space) ≡ true
space_free b is = grind (arith, nat_tests)

lacks_space : (k : ℕ) (w : List ℕ) → Within is_word_byte k w → Lacks space w
lacks_space k w within = all_weaker is_word_byte (λ b. not (b == space)) space_free w within.bytes

pub as_word : {k : ℕ} {w : List ℕ} → Within is_field_byte k w → Within is_word_byte k w
as_word {k = k} within = weaker is_word_byte k field_is_word (omega arith) within

pub as_line : {k : ℕ} {w : List ℕ} → Within is_word_byte k w → Within is_line_byte k w
as_line {k = k} within = weaker is_line_byte k word_is_line (omega arith) within

access_bytes : (access : Access) → HasUpTo greatest access → Lacks space (access_text access)
access_bytes access fit = lacks_space 27 (access_text access) (access_wider access fit)

abbrev AfterAccess : ℕ × Label → Type 0
AfterAccess p = (p.0 < 2 ^ 32) × IsLabel p.1

abbrev AfterWord : Access × (ℕ × Label) → Type 0
AfterWord p = HasUpTo greatest p.0 × AfterAccess p.1

abbrev AfterActor : WordId × (Access × (ℕ × Label)) → Type 0
AfterActor p = IsWord (2 ^ 16) p.0 × AfterWord p.1

abbrev Parts : ℕ → ℕ × (WordId × (Access × (ℕ × Label))) → Type 0
Parts n p = IsActor n p.0 × AfterActor p.1

after_access_spells : Spells AfterAccess (λ p. decimal p.0 ++ space ∷ (label_text p.1 ++ [])) after_access
after_access_spells = pairs space (λ found less. lacks_space 10 (decimal found) (as_word (decimal_within 10 found (omega arith) (omega (arith, less)) (omega (arith, less))))) middle_spells (trailing label_spells)

after_word_spells : Spells AfterWord (λ p. access_text p.0 ++ space ∷ (decimal p.1.0 ++ space ∷ (label_text p.1.1 ++ []))) after_word
after_word_spells = pairs space access_bytes access_spells after_access_spells

after_actor_spells : Spells AfterActor (λ p. word_text p.0 ++ space ∷ (access_text p.1.0 ++ space ∷ (decimal p.1.1.0 ++ space ∷ (label_text p.1.1.1 ++ [])))) after_actor
after_actor_spells = pairs space (λ word fit. lacks_space 12 (word_text word) (as_word (word_within word fit))) word_spells after_word_spells

parts_spell : (n : ℕ) → n < 2 ^ 16 →
    Spells (Parts n) (λ p. actor_text n p.0 ++ space ∷ (word_text p.1.0 ++ space ∷ (access_text p.1.1.0 ++ space ∷ (decimal p.1.1.1.0 ++ space ∷ (label_text p.1.1.1.1 ++ []))))) (pair_at space (actor_of n) after_actor)
parts_spell n few = pairs space (λ actor fit. lacks_space 6 (actor_text n actor) (as_word (actor_within n actor fit.0))) (actor_spells n few) after_actor_spells

-- what is read is a spelling
abbrev IsEventOf : ℕ → List ℕ → Event → Type 0
IsEventOf n text event = IsSpelling n event × (text ≡ event_text n event)

with_parts : (n : ℕ) (text : List ℕ) (p : ℕ × (WordId × (Access × (ℕ × Label)))) → is_within n (event_with p) ≡ true → Parts n p → text ≡ event_text n (event_with p) → IsEventOf n text (event_with p)
with_parts n text p within fit same =
    let (front, found) = and_parts (is_word n p.1.0 && has_up_to LOCKED p.1.1.0) (nat_le p.1.1.1.0 LOCKED) within in
    let (word, access) = and_parts (is_word n p.1.0) (has_up_to LOCKED p.1.1.0) front in (
      record {
        actor = fit.0.1;
        word = word_is n p.1.0 word;
        access = access_is LOCKED p.1.1.0 access;
        found = leb-true p.1.1.1.0 LOCKED found;
        label = fit.1.1.1.1;
      },
      same,
    )

event_said : (n : ℕ) → n < 2 ^ 16 → (text : List ℕ) (event : Event) → event_of n text ≡ Some event → IsEventOf n text event
event_said n few text event is =
    let (reads, within) = tested_some (is_within n) (option_map event_with (pair_at space (actor_of n) after_actor text)) event is in
    map_some event_with (pair_at space (actor_of n) after_actor text) event reads (λ p whole same.
    let (fit, spelled) = (parts_spell n few).said text p whole in
    subst (IsEventOf n text) same (with_parts n text p (subst (λ e. is_within n e ≡ true) (sym same) within) fit spelled))

-- each spelling is read
found_less : (found : ℕ) → found ≤ LOCKED → found < 2 ^ 32
found_less found less = omega (arith, less)

event_gives : (n : ℕ) → n < 2 ^ 16 → (event : Event) → IsSpelling n event → event_of n (event_text n event) ≡ Some event
event_gives n few event is =
    let fit : Parts n (event.actor, (event.word, (event.access, (event.found, event.label)))) =
    ((omega (arith, few, is.actor), is.actor), (word_fits n event.word few is.word, (access_fits event.access is.access, (found_less event.found is.found, is.label)))) in
    let reads = ap (option_map event_with) ((parts_spell n few).gives (event.actor, (event.word, (event.access, (event.found, event.label)))) fit) in
    tested_gives (is_within n) (option_map event_with (pair_at space (actor_of n) after_actor (event_text n event))) event reads
    (and_from (is_word n event.word && has_up_to LOCKED event.access) (nat_le event.found LOCKED)
    (and_from (is_word n event.word) (has_up_to LOCKED event.access) (word_passes n event.word is.word) (access_passes LOCKED event.access is.access)) (le-leb event.found LOCKED is.found))

pub event_spells : (n : ℕ) → n < 2 ^ 16 → Spells (IsSpelling n) (event_text n) (event_of n)
event_spells n few = record { said = event_said n few; gives = event_gives n few }

-- no text is that of two events
pub one_event : (n : ℕ) → n < 2 ^ 16 → (event other : Event) → IsSpelling n event → IsSpelling n other → event_text n event ≡ event_text n other → event ≡ other
one_event n few event other is too same = same_Some event other (sym (event_gives n few event is) ∙ ap (event_of n) same ∙ event_gives n few other too)

-- the bytes of a line, and their number
pub spaced : {k : ℕ} {w : List ℕ} → Within is_line_byte k w → Within is_line_byte (1 + k) (space ∷ w)
spaced within = one_more space refl within

locked_within : (n : ℕ) → n ≤ LOCKED → Within is_field_byte 8 (decimal n)
locked_within n less = decimal_within 8 n (omega arith) (omega (arith, less)) (omega (arith, less))

pub event_within : (n : ℕ) → n < 2 ^ 16 → (event : Event) → IsSpelling n event → Within is_line_byte 127 (event_text n event)
event_within n few event is =
    weaker is_line_byte 127 (λ b is. is) (omega arith)
    (both (as_line (as_word (actor_within n event.actor (omega (arith, few, is.actor)))))
    (both (spaced (as_line (as_word (word_within event.word (word_fits n event.word few is.word)))))
    (both (spaced (as_line (access_within event.access is.access)))
    (both (spaced (as_line (as_word (locked_within event.found is.found))))
    (both (spaced (as_line (label_within event.label is.label))) none)))))

event_utf8 : (n : ℕ) → n < 2 ^ 16 → (event : Event) → IsSpelling n event → IsUtf8 (event_text n event)
event_utf8 n few event is = text_utf8 127 (event_text n event) (event_within n few event is)

-- a line that isn't UTF-8 spells nothing
none_by : (n : ℕ) → n < 2 ^ 16 → (line : List ℕ) (o : Option Event) → event_of n line ≡ o → (IsUtf8 line → ⊥) → None ≡ o
none_by n few line None is strange = refl
none_by n few line (Some event) is strange =
    let (spelling, same) = event_said n few line event is in
    absurd (strange (subst IsUtf8 (sym same) (event_utf8 n few event spelling)))

pub none_where_strange : (n : ℕ) → n < 2 ^ 16 → (line : List ℕ) → (IsUtf8 line → ⊥) → None ≡ event_of n line
none_where_strange n few line strange = none_by n few line (event_of n line) refl strange

-- the line of an event is found
pub line_gives : (n : ℕ) → n < 2 ^ 16 → (bytes : List ℕ) (at : ℕ) (event : Event) → IsSpelling n event → StandsAt bytes at (event_line n event) → line_at 128 bytes at ≡ Some (event_text n event)
line_gives n few bytes at event is stands = text_found bytes at (event_text n event) (event_within n few event is) stands

pub one_place : (n : ℕ) → n < 2 ^ 16 → (bytes : List ℕ) (at : ℕ) (event other : Event) → IsSpelling n event → IsSpelling n other → StandsAt bytes at (event_line n event) → StandsAt bytes at (event_line n other) → event ≡ other
one_place n few bytes at event other is too stands stands_too =
    one_event n few event other is too (same_Some (event_text n event) (event_text n other) (sym (line_gives n few bytes at event is stands) ∙ line_gives n few bytes at other too stands_too))

pub line_few : (n : ℕ) → n < 2 ^ 16 → (event : Event) → IsSpelling n event → length (event_line n event) ≤ 128
line_few n few event is = omega (arith, length-append (event_text n event) (line_end ∷ []), (event_within n few event is).few)

-- a line stands at the first place of itself
stands_first : (text : List ℕ) → StandsAt text 0 text
stands_first text = ap (λ w. take (length text) w) (sym (append-nil text)) ∙ take_at text [] (length text) refl

pub one_line : (n : ℕ) → n < 2 ^ 16 → (event other : Event) → IsSpelling n event → IsSpelling n other → event_line n event ≡ event_line n other → event ≡ other
one_line n few event other is too same =
    one_place n few (event_line n event) 0 event other is too (stands_first (event_line n event)) (subst (λ line. StandsAt line 0 (event_line n other)) (sym same) (stands_first (event_line n other)))

-- what is read at a place
pub record IsRead (n : ℕ) (bytes : List ℕ) (at : ℕ) (event : Event) (next : ℕ) : Type 0 where
  pub spelling : IsSpelling n event
  pub stands : StandsAt bytes at (event_line n event)
  pub after : next ≡ at + length (event_line n event)

pub reading_said : (n : ℕ) → n < 2 ^ 16 → (bytes : List ℕ) (at : ℕ) (r : Event × ℕ) → reading n bytes at ≡ Some r → IsRead n bytes at r.0 r.1
reading_said n few bytes at r is =
    option_and_then_some (λ line. option_map (λ event. (event, at + length line + 1)) (event_of n line)) (line_at 128 bytes at) r is (λ line found is.
    map_some (λ event. (event, at + length line + 1)) (event_of n line) r is (λ event spelled same.
    let (spelling, text) = event_said n few line event spelled in
    let stands : StandsAt bytes at (event_line n event) = subst (λ t. StandsAt bytes at (t ++ line_end ∷ [])) text (line_said 128 bytes at line found) in
    let after : at + length line + 1 ≡ at + length (event_line n event) = omega (arith, ap length text, length-append (event_text n event) (line_end ∷ [])) in
    subst (λ p. IsRead n bytes at p.0 p.1) same record { spelling = spelling; stands = stands; after = after }))

pub reading_gives : (n : ℕ) → n < 2 ^ 16 → (bytes : List ℕ) (at : ℕ) (event : Event) → IsSpelling n event → StandsAt bytes at (event_line n event) → reading n bytes at ≡ Some (event, at + length (event_line n event))
reading_gives n few bytes at event is stands =
    let after : at + length (event_text n event) + 1 ≡ at + length (event_line n event) = omega (arith, length-append (event_text n event) (line_end ∷ [])) in
    ap (option_and_then (λ line. option_map (λ event. (event, at + length line + 1)) (event_of n line))) (line_gives n few bytes at event is stands)
    ∙ ap (option_map (λ e. (e, at + length (event_text n event) + 1))) (event_gives n few event is)
    ∙ ap (λ next. Some (event, next)) after

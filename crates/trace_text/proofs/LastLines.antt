-- The last line of a trace.
use Rattle.std.proofs.Common.{◌≡◌, ℕ, ◌+◌, ◌^◌, ◌<◌, Bool, true, false, not, ◌==◌, List, [], ◌∷◌, ◌++◌, length, drop, eqb, codes, decimal, Option, Some, None, IfSome, IfNone, IsUtf8, MatchOption, Bor, option_map, option_and_then, refl, ap, sym, subst, ◌∙◌, length-append, if◌then◌else◌, arith}
use Rattle.std.specs.List.{starts_with}
use Rattle.std.specs.Str.Pattern.{FindsTextPrefix, StripsPrefix}
use Rattle.std.proofs.lemmas.Option.{none-some, cond_some, option_and_then_some}
use Rattle.std.proofs.lemmas.Str.Pattern.{starts_text}
use Rattle.sync_words.specs.Texts.{space, line_end}
use Rattle.trace_text.specs.Last.{totals_text, last_line, AreNumbers, complete_of, stripped, behind, unserved_of, sessions_of, events_of, totals_with, totals_of, last_reading}
use Rattle.trace_text.specs.Readings.{pair_at, line_at}
use Rattle.trace_text.specs.Spelling.{StandsAt}
use Rattle.trace_text.specs.declared.last.Totals.{Totals}
use Rattle.trace_text.proofs.Bytes.{is_word_byte, is_line_byte, Within, all_weaker, weaker, none, both, wide_within}
use Rattle.trace_text.proofs.Ends.{line_said, text_found, text_utf8}
use Rattle.trace_text.proofs.Fields.{Any}
use Rattle.trace_text.proofs.Numbers.{number_spells}
use Rattle.trace_text.proofs.Places.{starts_whole}
use Rattle.trace_text.proofs.Lines.{space_free, as_word, as_line, spaced}
use Rattle.trace_text.proofs.Spells.{Spells, word_case, trailing, pairs, map_some}
use Rattle.trace_text.proofs.Splits.{Lacks}

-- a text behind another one
stripped_said : (name text rest : List ℕ) → stripped name text ≡ Some rest → text ≡ name ++ rest
stripped_said name text rest is =
    let (starts, same) = cond_some (starts_with eqb text name) (drop (length name) text) rest is in
    starts_whole name text starts ∙ ap (λ back. name ++ back) same

behind_spells : {V : Type 0} {fits : V → Type 0} {text : V → List ℕ} {read : List ℕ → Option V} (name : List ℕ) → ((rest : List ℕ) → stripped name (name ++ rest) ≡ Some rest) → Spells fits text read →
    Spells fits (λ v. name ++ text v) (behind name read)
behind_spells {text = text} {read = read} name begins spells = record {
  said = λ w v is.
      option_and_then_some read (stripped name w) v is (λ rest strips reads.
      let (fit, same) = spells.said rest v reads in
      (fit, stripped_said name w rest strips ∙ ap (λ back. name ++ back) same));
  gives = λ v fit. ap (option_and_then read) (begins (text v)) ∙ spells.gives v fit;
}

-- what `strip_prefix` gives
pub strips_some : (name text rest : List ℕ) → StripsPrefix (FindsTextPrefix name) text rest → Some rest ≡ stripped name text
strips_some name text rest strips =
    let n = strips.0 in
    let found = strips.1 in
    let starts = starts_text true name text (n, found, rw found.0 found.2) in
    let behind : rest ≡ drop (length name) text = strips.2 ∙ ap (λ k. drop k text) found.0 in
    ap Some behind ∙ ap (λ b. if b then Some (drop (length name) text) else None) starts

pub strips_none : (name text : List ℕ) → FindsTextPrefix name text None → None ≡ stripped name text
strips_none name text lacks = ap (λ b. if b then Some (drop (length name) text) else None) (starts_text false name text lacks)

-- the first word
abbrev complete_text : Bool → List ℕ
complete_text complete = if complete then codes "complete" else codes "unfinished"

complete_said : (text : List ℕ) (complete : Bool) → complete_of text ≡ Some complete → text ≡ complete_text complete
complete_said text complete is =
    word_case text (codes "complete") true complete _ (λ b. text ≡ complete_text b) is (λ e. e) (λ is.
    word_case text (codes "unfinished") false complete None (λ b. text ≡ complete_text b) is (λ e. e) (λ is. absurd (none-some complete is)))

complete_gives : (complete : Bool) → complete_of (complete_text complete) ≡ Some complete
complete_gives true = refl
complete_gives false = refl

complete_spells : Spells Any complete_text complete_of
complete_spells = record { said = λ w v is. (tt, complete_said w v is); gives = λ v fit. complete_gives v }

complete_lacks : (complete : Bool) → Any complete → Lacks space (complete_text complete)
complete_lacks true any = refl
complete_lacks false any = refl

abbrev IsWide : ℕ → Type 0
IsWide n = n < 2 ^ 64

number_lacks : (n : ℕ) → IsWide n → Lacks space (decimal n)
number_lacks n small = all_weaker is_word_byte (λ b. not (b == space)) space_free (decimal n) (as_word (wide_within n small)).bytes

unserved_spells : Spells IsWide (λ n. codes "unserved " ++ (decimal n ++ [])) unserved_of
unserved_spells = behind_spells (codes "unserved ") (λ rest. refl) (trailing number_spells)

sessions_spells : Spells (λ p. IsWide p.0 × IsWide p.1) (λ p. codes "sessions " ++ (decimal p.0 ++ space ∷ (codes "unserved " ++ (decimal p.1 ++ [])))) sessions_of
sessions_spells = behind_spells (codes "sessions ") (λ rest. refl) (pairs space number_lacks number_spells unserved_spells)

events_spells : Spells (λ p. IsWide p.0 × (IsWide p.1.0 × IsWide p.1.1)) (λ p. codes "events " ++ (decimal p.0 ++ space ∷ (codes "sessions " ++ (decimal p.1.0 ++ space ∷ (codes "unserved " ++ (decimal p.1.1 ++ [])))))) events_of
events_spells = behind_spells (codes "events ") (λ rest. refl) (pairs space number_lacks number_spells sessions_spells)

abbrev text_of : Totals → List ℕ
text_of totals = totals_text totals.complete totals.events totals.sessions totals.unserved

parts_spell : Spells (λ p. Any p.0 × (IsWide p.1.0 × (IsWide p.1.1.0 × IsWide p.1.1.1))) (λ p. text_of (totals_with p)) (pair_at space complete_of events_of)
parts_spell = pairs space complete_lacks complete_spells events_spells

totals_said : (text : List ℕ) (totals : Totals) → totals_of text ≡ Some totals → AreNumbers totals × (text ≡ text_of totals)
totals_said text totals is =
    map_some totals_with (pair_at space complete_of events_of text) totals is (λ p reads same.
    let (fit, spelled) = parts_spell.said text p reads in
    subst (λ t. AreNumbers t × (text ≡ text_of t)) same (record { events = fit.1.0; sessions = fit.1.1.0; unserved = fit.1.1.1 }, spelled))

totals_gives : (totals : Totals) → AreNumbers totals → totals_of (text_of totals) ≡ Some totals
totals_gives totals are =
    ap (option_map totals_with) (parts_spell.gives (totals.complete, (totals.events, (totals.sessions, totals.unserved))) (tt, (are.events, (are.sessions, are.unserved))))

word_within : (complete : Bool) → Within is_line_byte 10 (complete_text complete)
word_within true = record { bytes = refl; few = omega arith }
word_within false = record { bytes = refl; few = omega arith }

named : (name : List ℕ) (k n : ℕ) → Within is_line_byte k name → n < 2 ^ 64 → {rest : List ℕ} {m : ℕ} → Within is_line_byte m rest → Within is_line_byte (1 + k + (1 + 20 + m)) ((space ∷ name) ++ ((space ∷ decimal n) ++ rest))
named name k n within small behind = both (spaced within) (both (spaced (as_line (as_word (wide_within n small)))) behind)

totals_within : (totals : Totals) → AreNumbers totals → Within is_line_byte 127 (text_of totals)
totals_within totals are =
    weaker is_line_byte 127 (λ b is. is) (omega arith)
    (both (word_within totals.complete)
    (named (codes "events") 6 totals.events record { bytes = refl; few = omega arith } are.events
    (named (codes "sessions") 8 totals.sessions record { bytes = refl; few = omega arith } are.sessions
    (named (codes "unserved") 8 totals.unserved record { bytes = refl; few = omega arith } are.unserved none))))

none_by : (line : List ℕ) (o : Option Totals) → totals_of line ≡ o → (IsUtf8 line → ⊥) → None ≡ o
none_by line None is strange = refl
none_by line (Some totals) is strange =
    let (are, same) = totals_said line totals is in
    absurd (strange (subst IsUtf8 (sym same) (text_utf8 127 (text_of totals) (totals_within totals are))))

pub none_where_strange : (line : List ℕ) → (IsUtf8 line → ⊥) → None ≡ totals_of line
none_where_strange line strange = none_by line (totals_of line) refl strange

-- what is read at a place
pub record IsLast (bytes : List ℕ) (at : ℕ) (totals : Totals) (next : ℕ) : Type 0 where
  pub stands : StandsAt bytes at (last_line totals)
  pub after : next ≡ at + length (last_line totals)

pub reading_said : (bytes : List ℕ) (at : ℕ) (r : Totals × ℕ) → last_reading bytes at ≡ Some r → IsLast bytes at r.0 r.1
reading_said bytes at r is =
    option_and_then_some (λ line. option_map (λ totals. (totals, at + length line + 1)) (totals_of line)) (line_at 128 bytes at) r is (λ line found is.
    map_some (λ totals. (totals, at + length line + 1)) (totals_of line) r is (λ totals spelled same.
    let (are, text) = totals_said line totals spelled in
    let stands : StandsAt bytes at (last_line totals) = subst (λ t. StandsAt bytes at (t ++ line_end ∷ [])) text (line_said 128 bytes at line found) in
    let after : at + length line + 1 ≡ at + length (last_line totals) = omega (arith, ap length text, length-append (text_of totals) (line_end ∷ [])) in
    subst (λ p. IsLast bytes at p.0 p.1) same record { stands = stands; after = after }))

pub reading_gives : (bytes : List ℕ) (at : ℕ) (totals : Totals) → AreNumbers totals → StandsAt bytes at (last_line totals) → last_reading bytes at ≡ Some (totals, at + length (last_line totals))
reading_gives bytes at totals are stands =
    let after : at + length (text_of totals) + 1 ≡ at + length (last_line totals) = omega (arith, length-append (text_of totals) (line_end ∷ [])) in
    ap (option_and_then (λ line. option_map (λ t. (t, at + length line + 1)) (totals_of line))) (text_found bytes at (text_of totals) (totals_within totals are) stands)
    ∙ ap (option_map (λ t. (t, at + length (text_of totals) + 1))) (totals_gives totals are)
    ∙ ap (λ next. Some (totals, next)) after

pub strips_is : (name text : List ℕ) (r : Option (Bor (List ℕ))) → MatchOption r (FindsTextPrefix name text None) (λ x. StripsPrefix (FindsTextPrefix name) text x.now) → option_map (λ rest. rest.now) r ≡ stripped name text
strips_is name text None cases = strips_none name text cases
strips_is name text (Some x) cases = strips_some name text x.now cases

-- what is read of a place, in the words of a call
pub stands_of : (bytes : List ℕ) (at : ℕ) (r : Option (Totals × ℕ)) → r ≡ last_reading bytes at → IfSome r (λ r. StandsAt bytes at (last_line r.0))
stands_of bytes at None is = tt
stands_of bytes at (Some r) is = (reading_said bytes at r (sym is)).stands

pub after_of : (bytes : List ℕ) (at : ℕ) (r : Option (Totals × ℕ)) → r ≡ last_reading bytes at → IfSome r (λ r. r.1 ≡ at + length (last_line r.0))
after_of bytes at None is = tt
after_of bytes at (Some r) is = (reading_said bytes at r (sym is)).after

pub refused_of : (bytes : List ℕ) (at : ℕ) (r : Option (Totals × ℕ)) → r ≡ last_reading bytes at → IfNone r ((totals : Totals) → AreNumbers totals → StandsAt bytes at (last_line totals) → ⊥)
refused_of bytes at None is = λ totals are stands. none-some (totals, at + length (last_line totals)) (is ∙ reading_gives bytes at totals are stands)
refused_of bytes at (Some r) is = tt

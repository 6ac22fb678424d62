-- Actors and words.
use Rattle.std.proofs.Common.{◌≡◌, ℕ, ◌+◌, ◌^◌, ◌<◌, ◌≤◌, Bool, true, false, ◌==◌, nat_lt, eqb, List, [], ◌∷◌, ◌++◌, length, take, drop, Option, Some, None, option_map, codes, decimal, refl, ap, sym, subst, ◌∙◌, take-append-drop, if◌then◌else◌, arith}
use Rattle.std.specs.Cmp.Lexicographic.{pointwise}
use Rattle.std.specs.List.{starts_with}
use Rattle.std.specs.Option.{option_or}
use Rattle.std.specs.Str.Pattern.{FindsTextPrefix, StripsPrefix}
use Rattle.std.proofs.lemmas.Bool.{and_parts, eqb-true, eq-eqb, ne_eqb, ltb-true, lt-ltb, false≢true}
use Rattle.std.proofs.lemmas.Bool.Decides.{nat_tests}
use Rattle.std.proofs.lemmas.Option.{none-some, same_Some}
use Rattle.std.proofs.lemmas.Str.Pattern.{starts_text}
use Rattle.sync_words.specs.Steps.{IsWord}
use Rattle.sync_words.specs.Texts.{actor_text, word_text}
use Rattle.sync_words.specs.declared.word.WordId.{WordId}
use Rattle.sync_words.specs.declared.word.WordId.TheVariants.{Counter, Bsp, Inside, Insync, Source, Except, Pend, Present, Run, Busy}
use Rattle.trace_text.specs.Readings.{tested, number_below, number_after, actor_of, processor_word, word_of, is_word}
use Rattle.trace_text.proofs.Bytes.{is_field_byte, Within, weaker, both, small_within}
use Rattle.trace_text.proofs.Numbers.{below_spells}
use Rattle.trace_text.proofs.Spells.{Spells, word_case, tested_some, tested_gives, map_some}

-- a text begins with a name
pointwise_same : (name text : List ℕ) → pointwise eqb name (take (length name) text) ≡ true → take (length name) text ≡ name
pointwise_same [] text is = refl
pointwise_same (n ∷ ns) [] is = absurd (false≢true is)
pointwise_same (n ∷ ns) (t ∷ ts) is =
    let (here, more) = and_parts (eqb n t) (pointwise eqb ns (take (length ns) ts)) is in
    λ i. sym (eqb-true n t here) i ∷ pointwise_same ns ts more i

pub starts_whole : (name text : List ℕ) → starts_with eqb text name ≡ true → text ≡ name ++ drop (length name) text
starts_whole name text is = sym (take-append-drop (length name) text) ∙ ap (λ front. front ++ drop (length name) text) (pointwise_same name text is)

if_some : {A : Type 0} (b : Bool) (o : Option A) (x : A) → (if b then o else None) ≡ Some x → (b ≡ true) × (o ≡ Some x)
if_some true o x is = (refl, is)
if_some false o x is = absurd (none-some x is)

few : 2 ^ 16 ≤ 2 ^ 64
few = omega arith

after_said : (name text : List ℕ) (n : ℕ) → number_after name text ≡ Some n → (n < 2 ^ 16) × (text ≡ name ++ decimal n)
after_said name text n is =
    let (starts, reads) = if_some (starts_with eqb text name) (number_below (2 ^ 16) (drop (length name) text)) n is in
    let (small, same) = (below_spells (2 ^ 16) few).said (drop (length name) text) n reads in
    (small, starts_whole name text starts ∙ ap (λ back. name ++ back) same)

small_gives : (n : ℕ) → n < 2 ^ 16 → number_below (2 ^ 16) (decimal n) ≡ Some n
small_gives n small = (below_spells (2 ^ 16) few).gives n small

-- what `strip_prefix` gives
pub after_strips : (name text rest : List ℕ) → StripsPrefix (FindsTextPrefix name) text rest → number_below (2 ^ 16) rest ≡ number_after name text
after_strips name text rest strips =
    let n = strips.0 in
    let found = strips.1 in
    let starts = starts_text true name text (n, found, rw found.0 found.2) in
    let behind : rest ≡ drop (length name) text = strips.2 ∙ ap (λ k. drop k text) found.0 in
    ap (number_below (2 ^ 16)) behind ∙ ap (λ b. if b then number_below (2 ^ 16) (drop (length name) text) else None) starts

pub after_lacks : (name text : List ℕ) → FindsTextPrefix name text None → None ≡ number_after name text
after_lacks name text lacks = ap (λ b. if b then number_below (2 ^ 16) (drop (length name) text) else None) (starts_text false name text lacks)

-- actors
below_from : (a n : ℕ) → a ≤ n → (a == n) ≡ false → a < n
below_from a n within is = grind (arith, nat_tests)

chip_or : (n a : ℕ) (b : Bool) → (a == n) ≡ b → a < 2 ^ 16 → a ≤ n → actor_of n (if b then codes "chip" else codes "p" ++ decimal a) ≡ Some a
chip_or n a true is small within = ap Some (sym (eqb-true a n is))
chip_or n a false is small within =
    tested_gives (λ number. nat_lt number n) (number_below (2 ^ 16) (decimal a)) a (small_gives a small)
    (lt-ltb a n (below_from a n within is))

abbrev pub IsActor : ℕ → ℕ → Type 0
IsActor n a = (a < 2 ^ 16) × (a ≤ n)

actor_said : (n : ℕ) → n < 2 ^ 16 → (text : List ℕ) (a : ℕ) → actor_of n text ≡ Some a → IsActor n a × (text ≡ actor_text n a)
actor_said n few text a is =
    word_case text (codes "chip") n a (tested (λ number. nat_lt number n) (number_after (codes "p") text)) (λ x. IsActor n x × (text ≡ actor_text n x)) is
    (λ e. ((few, omega arith), e ∙ ap (λ b. if b then codes "chip" else codes "p" ++ decimal n) (sym (eq-eqb n n refl)))) (λ is.
    let (reads, less) = tested_some (λ number. nat_lt number n) (number_after (codes "p") text) a is in
    let (small, same) = after_said (codes "p") text a reads in
    let below = ltb-true a n less in
    ((small, omega (arith, below)), same ∙ ap (λ b. if b then codes "chip" else codes "p" ++ decimal a) (sym (ne_eqb a n (λ e. omega (arith, below, e))))))

pub actor_spells : (n : ℕ) → n < 2 ^ 16 → Spells (IsActor n) (actor_text n) (actor_of n)
actor_spells n few = record { said = actor_said n few; gives = λ a fit. chip_or n a (a == n) refl fit.0 fit.1 }

-- a name with a number behind
named : (k : ℕ) (name : List ℕ) → Within is_field_byte k name → (n : ℕ) → n < 2 ^ 16 → Within is_field_byte (k + 5) (name ++ decimal n)
named k name begins n small = both begins (small_within n small)

actor_by : (a : ℕ) (b : Bool) → a < 2 ^ 16 → Within is_field_byte 6 (if b then codes "chip" else codes "p" ++ decimal a)
actor_by a true small = record { bytes = refl; few = omega arith }
actor_by a false small = weaker is_field_byte 6 (λ b is. is) (omega arith) (named 1 (codes "p") record { bytes = refl; few = omega arith } a small)

pub actor_within : (n a : ℕ) → a < 2 ^ 16 → Within is_field_byte 6 (actor_text n a)
actor_within n a small = actor_by a (a == n) small

-- words
option_or_case : {A B P : Type 0} (make : A → B) (o : Option A) (rest : Option B) (b : B) → option_or (option_map make o) rest ≡ Some b → ((a : A) → o ≡ Some a → make a ≡ b → P) → (rest ≡ Some b → P) → P
option_or_case make None rest b is here later = later is
option_or_case make (Some a) rest b is here later = here a refl (same_Some (make a) b is)

abbrev IsWordOf : List ℕ → WordId → Type 0
IsWordOf text word = IsWord (2 ^ 16) word × (text ≡ word_text word)

processor_word_said : (text : List ℕ) (word : WordId) → processor_word text ≡ Some word → IsWordOf text word
processor_word_said text word is =
    option_or_case Pend (number_after (codes "pend") text) _ word is (λ cpu reads same. subst (IsWordOf text) same (after_said (codes "pend") text cpu reads)) (λ is.
    option_or_case Present (number_after (codes "present") text) _ word is (λ cpu reads same. subst (IsWordOf text) same (after_said (codes "present") text cpu reads)) (λ is.
    option_or_case Run (number_after (codes "run") text) _ word is (λ cpu reads same. subst (IsWordOf text) same (after_said (codes "run") text cpu reads)) (λ is.
    map_some Busy (number_after (codes "busy") text) word is (λ cpu reads same. subst (IsWordOf text) same (after_said (codes "busy") text cpu reads)))))

word_said : (text : List ℕ) (word : WordId) → word_of text ≡ Some word → IsWordOf text word
word_said text word is =
    word_case text (codes "counter") Counter word _ (IsWordOf text) is (λ e. (tt, e)) (λ is.
    word_case text (codes "bsp") Bsp word _ (IsWordOf text) is (λ e. (tt, e)) (λ is.
    word_case text (codes "inside") Inside word _ (IsWordOf text) is (λ e. (tt, e)) (λ is.
    word_case text (codes "insync") Insync word _ (IsWordOf text) is (λ e. (tt, e)) (λ is.
    word_case text (codes "source") Source word _ (IsWordOf text) is (λ e. (tt, e)) (λ is.
    word_case text (codes "except") Except word (processor_word text) (IsWordOf text) is (λ e. (tt, e)) (processor_word_said text word))))))

or_first : {A : Type 0} (o rest : Option A) (a : A) → o ≡ Some a → option_or o rest ≡ Some a
or_first o rest a is = ap (λ p. option_or p rest) is

word_gives : (word : WordId) → IsWord (2 ^ 16) word → word_of (word_text word) ≡ Some word
word_gives (Pend cpu) fit = or_first _ _ (Pend cpu) (ap (option_map Pend) (small_gives cpu fit))
word_gives (Present cpu) fit = or_first _ _ (Present cpu) (ap (option_map Present) (small_gives cpu fit))
word_gives (Run cpu) fit = or_first _ _ (Run cpu) (ap (option_map Run) (small_gives cpu fit))
word_gives (Busy cpu) fit = ap (option_map Busy) (small_gives cpu fit)
word_gives _ fit = refl

pub word_spells : Spells (IsWord (2 ^ 16)) word_text word_of
word_spells = record { said = word_said; gives = word_gives }

pub word_within : (word : WordId) → IsWord (2 ^ 16) word → Within is_field_byte 12 (word_text word)
word_within (Pend cpu) fit = weaker is_field_byte 12 (λ b is. is) (omega arith) (named 4 (codes "pend") record { bytes = refl; few = omega arith } cpu fit)
word_within (Present cpu) fit = weaker is_field_byte 12 (λ b is. is) (omega arith) (named 7 (codes "present") record { bytes = refl; few = omega arith } cpu fit)
word_within (Run cpu) fit = weaker is_field_byte 12 (λ b is. is) (omega arith) (named 3 (codes "run") record { bytes = refl; few = omega arith } cpu fit)
word_within (Busy cpu) fit = weaker is_field_byte 12 (λ b is. is) (omega arith) (named 4 (codes "busy") record { bytes = refl; few = omega arith } cpu fit)
word_within _ fit = record { bytes = refl; few = omega arith }

-- the test
pub word_passes : (n : ℕ) (word : WordId) → IsWord n word → is_word n word ≡ true
word_passes n (Pend cpu) fit = lt-ltb cpu n fit
word_passes n (Present cpu) fit = lt-ltb cpu n fit
word_passes n (Run cpu) fit = lt-ltb cpu n fit
word_passes n (Busy cpu) fit = lt-ltb cpu n fit
word_passes n _ fit = refl

pub word_is : (n : ℕ) (word : WordId) → is_word n word ≡ true → IsWord n word
word_is n (Pend cpu) passes = ltb-true cpu n passes
word_is n (Present cpu) passes = ltb-true cpu n passes
word_is n (Run cpu) passes = ltb-true cpu n passes
word_is n (Busy cpu) passes = ltb-true cpu n passes
word_is n _ passes = tt

pub word_fits : (n : ℕ) (word : WordId) → n < 2 ^ 16 → IsWord n word → IsWord (2 ^ 16) word
word_fits n (Pend cpu) few fit = omega (arith, few, fit)
word_fits n (Present cpu) few fit = omega (arith, few, fit)
word_fits n (Run cpu) few fit = omega (arith, few, fit)
word_fits n (Busy cpu) few fit = omega (arith, few, fit)
word_fits n _ few fit = tt

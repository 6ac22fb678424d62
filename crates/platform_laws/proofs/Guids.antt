-- Each printed form of a GUID is a text of it, and each text of it is, in lower case, a printed form.
use Rattle.std.proofs.Common.{◌≡◌, ◌⊎◌, inl, inr, ℕ, zero, suc, ◌+◌, ◌*◌, ◌/◌, ◌%◌, ◌^◌, ◌<◌, Bool, true, false, ◌&&◌, ◌||◌, ◌==◌, All, List, [], ◌∷◌, ◌++◌, length, get_or, slice_index, take, drop, Option, Some, None, refl, ap, sym, subst, ◌∙◌, if◌then◌else◌, arith}
use Rattle.std.specs.Char.{to_ascii_lowercase}
use Rattle.std.specs.Int.{w128, from_be_bytes, to_be_bytes, bytes_high_first, byte_at}
use Rattle.std.specs.List.{list_all}
use Rattle.std.specs.Str.{str_to_ascii_lowercase}
use Rattle.std.proofs.lemmas.Bool.{and_parts, eqb-true, false≢true}
use Rattle.std.proofs.lemmas.Bool.Decides.{nat_tests}
use Rattle.std.proofs.lemmas.List.{get_or-map, length-map, map-append, take-append-drop}
use Rattle.std.proofs.lemmas.List.Elements.{All-nil, All-cons}
use Rattle.std.proofs.lemmas.Option.{same_Some, none-some}
use Rattle.std.proofs.lemmas.Slice.Eq.{bytes_eq-Decides}
use Rattle.uuid.specs.Text.{IsLetter, lower, by_index, hex_digit, nibble, is_hex_digit, value_of, byte_of_digits, hyphen_place, digit_place, is_hyphen_place, digits_of, has_hyphens, has_urn_prefix, urn_prefix, simple_text, hyphenated_text, braced_text, urn_text, parsed, parsed_simple, parsed_hyphenated, parsed_braced, parsed_urn}
use Rattle.uuid.proofs.OrderLemmas.{from_be_bytes-to_be_bytes_16}
use Rattle.uuid.proofs.RoundTrips.{parses_simple, parses_hyphenated, parses_braced, parses_urn}
use Rattle.uuid.proofs.TextLemmas.{by_index_at, by_index_same}
use Rattle.platform_laws.specs.Words.{IsGuidText, IsGuid}

small_rest : (n : ℕ) → n % 256 < 256
small_rest n = omega arith

byte_small : (k n : ℕ) → byte_at k n < 256
byte_small zero n = small_rest n
byte_small (suc k) n = small_rest _

bytes_count : (k n : ℕ) → length (bytes_high_first k n) ≡ k
bytes_count zero n = refl
bytes_count (suc k) n = ap suc (bytes_count k n)

bytes_small : (k n : ℕ) → All (λ b. b < 256) (bytes_high_first k n)
bytes_small zero n = All-nil (λ b. b < 256)
bytes_small (suc k) n = All-cons (λ b. b < 256) (byte_at k n) (bytes_high_first k n) (byte_small k n) (bytes_small k n)

pub guid_written : (letter guid : ℕ) (text : List ℕ) → IsLetter letter → guid < 2 ^ 128 → IsGuidText letter (to_be_bytes w128 guid) text → IsGuid text guid
guid_written letter guid text is_letter small written = by_form written where
  bytes : List ℕ
  bytes = to_be_bytes w128 guid

  value : guid ≡ from_be_bytes w128 bytes
  value = sym (from_be_bytes-to_be_bytes_16 guid small)

  by_form : IsGuidText letter bytes text → IsGuid text guid
  by_form (inl is) = (bytes, ap parsed is ∙ sym (parses_simple letter bytes is_letter (bytes_count 16 guid) (bytes_small 16 guid)), value)
  by_form (inr (inl is)) = (bytes, ap parsed is ∙ sym (parses_hyphenated letter bytes is_letter (bytes_count 16 guid) (bytes_small 16 guid)), value)
  by_form (inr (inr (inl is))) = (bytes, ap parsed is ∙ sym (parses_braced letter bytes is_letter (bytes_count 16 guid) (bytes_small 16 guid)), value)
  by_form (inr (inr (inr is))) = (bytes, ap parsed is ∙ sym (parses_urn letter bytes is_letter (bytes_count 16 guid) (bytes_small 16 guid)), value)

-- a digit of a text, in lower case
lower_digit : (c : ℕ) → is_hex_digit c ≡ true → to_ascii_lowercase c ≡ hex_digit lower (value_of c)
lower_digit c is = grind (arith, nat_tests)

value_small : (c : ℕ) → is_hex_digit c ≡ true → value_of c < 16
value_small c is = grind (arith, nat_tests)

all_at : (p : ℕ → Bool) (xs : List ℕ) (k : ℕ) → k < length xs → list_all p xs ≡ true → p (get_or xs k 0) ≡ true
all_at p [] k within all = absurd (omega (arith, within))
all_at p (x ∷ xs) zero within all = (and_parts (p x) (list_all p xs) all).0
all_at p (x ∷ xs) (suc k) within all = all_at p xs k (omega (arith, within)) (and_parts (p x) (list_all p xs) all).1

if_some : {A : Type 0} (b : Bool) (o : Option A) (x : A) → (if b then o else None) ≡ Some x → (b ≡ true) × (o ≡ Some x)
if_some true o x is = (refl, is)
if_some false o x is = absurd (none-some x is)

record AreOf (hex bytes : List ℕ) : Type 0 where
  count : length hex ≡ 32
  digits : list_all is_hex_digit hex ≡ true
  pairs : by_index 16 (byte_of_digits hex) ≡ bytes

are_of : (hex bytes : List ℕ) → parsed_simple hex ≡ Some bytes → AreOf hex bytes
are_of hex bytes is =
    let (tests, same) = if_some ((length hex == 32) && list_all is_hex_digit hex) (Some (by_index 16 (byte_of_digits hex))) bytes is in
    let (count, digits) = and_parts (length hex == 32) (list_all is_hex_digit hex) tests in
    record { count = eqb-true (length hex) 32 count; digits = digits; pairs = same_Some (by_index 16 (byte_of_digits hex)) bytes same }

abbrev digit_in : List ℕ → ℕ → ℕ
digit_in hex k = value_of (get_or hex k 0)

byte_is : (hex bytes : List ℕ) → AreOf hex bytes → (i : ℕ) → i < 16 → slice_index bytes i ≡ digit_in hex (2 * i) * 16 + digit_in hex (2 * i + 1)
byte_is hex bytes are i within = ap (λ (bs : List ℕ). slice_index bs i) (sym are.pairs) ∙ by_index_at 16 (byte_of_digits hex) i 0 within

digit_small : (hex bytes : List ℕ) → AreOf hex bytes → (k : ℕ) → k < 32 → digit_in hex k < 16
digit_small hex bytes are k within = value_small (get_or hex k 0) (all_at is_hex_digit hex k (omega (arith, within, are.count)) are.digits)

halves : (byte high low : ℕ) → byte ≡ high * 16 + low → high < 16 → low < 16 → (byte / 16 % 16 ≡ high) × (byte % 16 ≡ low)
halves byte high low whole few less = (omega (arith, whole, few, less), omega (arith, whole, few, less))

nibble_is : (hex bytes : List ℕ) → AreOf hex bytes → (k : ℕ) → k < 32 → nibble bytes k ≡ digit_in hex k
nibble_is hex bytes are k within = by_test (k % 2 == 0) refl where
  i : ℕ
  i = k / 2

  within_half : i < 16
  within_half = omega (arith, within)

  parts : (slice_index bytes i / 16 % 16 ≡ digit_in hex (2 * i)) × (slice_index bytes i % 16 ≡ digit_in hex (2 * i + 1))
  parts = halves (slice_index bytes i) (digit_in hex (2 * i)) (digit_in hex (2 * i + 1)) (byte_is hex bytes are i within_half)
      (digit_small hex bytes are (2 * i) (omega (arith, within))) (digit_small hex bytes are (2 * i + 1) (omega (arith, within)))

  odd : (k % 2 == 0) ≡ false → 2 * i + 1 ≡ k
  odd e = grind (arith, nat_tests)

  by_test : (b : Bool) → (k % 2 == 0) ≡ b → (if b then slice_index bytes i / 16 % 16 else slice_index bytes i % 16) ≡ digit_in hex k
  by_test true e =
      let even = eqb-true (k % 2) 0 e in
      let whole : 2 * i ≡ k = omega (arith, even) in
      parts.0 ∙ ap (digit_in hex) whole
  by_test false e =
      let whole : 2 * i + 1 ≡ k = odd e in
      parts.1 ∙ ap (digit_in hex) whole

lower_at : (hex bytes : List ℕ) → AreOf hex bytes → (k : ℕ) → k < 32 → to_ascii_lowercase (get_or hex k 0) ≡ hex_digit lower (nibble bytes k)
lower_at hex bytes are k within =
    lower_digit (get_or hex k 0) (all_at is_hex_digit hex k (omega (arith, within, are.count)) are.digits) ∙ ap (hex_digit lower) (sym (nibble_is hex bytes are k within))

simple_said : (hex bytes : List ℕ) → parsed_simple hex ≡ Some bytes → str_to_ascii_lowercase hex ≡ simple_text lower bytes
simple_said hex bytes is =
    let are = are_of hex bytes is in
    by_index_same (str_to_ascii_lowercase hex) 32 (λ k. hex_digit lower (nibble bytes k)) (length-map hex to_ascii_lowercase ∙ are.count)
    (λ k d within. get_or-map to_ascii_lowercase hex k 0 d (omega (arith, within, are.count)) ∙ lower_at hex bytes are k within)

-- the hyphens
hyphen_where : (P : ℕ → Type 0) → P 8 → P 13 → P 18 → P 23 → (k : ℕ) → is_hyphen_place k ≡ true → P k
hyphen_where P a b c d k is = by_first (k == 8) refl is where
  at : (n : ℕ) → (k == n) ≡ true → P n → P k
  at n e p = subst P (sym (eqb-true k n e)) p

  by_last : (t : Bool) → (k == 23) ≡ t → t ≡ true → P k
  by_last true e is = at 23 e d
  by_last false e is = absurd (false≢true is)

  by_third : (t : Bool) → (k == 18) ≡ t → t || (k == 23) ≡ true → P k
  by_third true e is = at 18 e c
  by_third false e is = by_last (k == 23) refl is

  by_second : (t : Bool) → (k == 13) ≡ t → (t || (k == 18)) || (k == 23) ≡ true → P k
  by_second true e is = at 13 e b
  by_second false e is = by_third (k == 18) refl is

  by_first : (t : Bool) → (k == 8) ≡ t → ((t || (k == 13)) || (k == 18)) || (k == 23) ≡ true → P k
  by_first true e is = at 8 e a
  by_first false e is = by_second (k == 13) refl is

digit_there : (k : ℕ) → k < 36 → is_hyphen_place k ≡ false → (hyphen_place (digit_place k) ≡ k) × (digit_place k < 32)
digit_there k within digit = (grind (arith, nat_tests), grind (arith, nat_tests))

hyphenated_said : (s bytes : List ℕ) → parsed_hyphenated s ≡ Some bytes → str_to_ascii_lowercase s ≡ hyphenated_text lower bytes
hyphenated_said s bytes is =
    by_index_same (str_to_ascii_lowercase s) 36 (λ k. if is_hyphen_place k then 45 else hex_digit lower (nibble bytes (digit_place k))) (length-map s to_ascii_lowercase ∙ long)
    (λ k d within. get_or-map to_ascii_lowercase s k 0 d (omega (arith, within, long)) ∙ by_place k within (is_hyphen_place k) refl) where
      both : ((length s == 36) && has_hyphens s ≡ true) × (parsed_simple (digits_of s) ≡ Some bytes)
      both = if_some ((length s == 36) && has_hyphens s) (parsed_simple (digits_of s)) bytes is

      tests : (length s == 36 ≡ true) × (has_hyphens s ≡ true)
      tests = and_parts (length s == 36) (has_hyphens s) both.0

      long : length s ≡ 36
      long = eqb-true (length s) 36 tests.0

      are : AreOf (digits_of s) bytes
      are = are_of (digits_of s) bytes both.1

      first : ((slice_index s 8 == 45) && (slice_index s 13 == 45) && (slice_index s 18 == 45) ≡ true) × (slice_index s 23 == 45 ≡ true)
      first = and_parts ((slice_index s 8 == 45) && (slice_index s 13 == 45) && (slice_index s 18 == 45)) (slice_index s 23 == 45) tests.1

      second : ((slice_index s 8 == 45) && (slice_index s 13 == 45) ≡ true) × (slice_index s 18 == 45 ≡ true)
      second = and_parts ((slice_index s 8 == 45) && (slice_index s 13 == 45)) (slice_index s 18 == 45) first.0

      third : (slice_index s 8 == 45 ≡ true) × (slice_index s 13 == 45 ≡ true)
      third = and_parts (slice_index s 8 == 45) (slice_index s 13 == 45) second.0

      lower_hyphen : (k : ℕ) → (slice_index s k == 45) ≡ true → to_ascii_lowercase (slice_index s k) ≡ 45
      lower_hyphen k e = ap to_ascii_lowercase (eqb-true (slice_index s k) 45 e)

      by_place : (k : ℕ) → k < 36 → (b : Bool) → is_hyphen_place k ≡ b → to_ascii_lowercase (get_or s k 0) ≡ (if b then 45 else hex_digit lower (nibble bytes (digit_place k)))
      by_place k within true e =
          hyphen_where (λ j. to_ascii_lowercase (get_or s j 0) ≡ 45) (lower_hyphen 8 third.0) (lower_hyphen 13 third.1) (lower_hyphen 18 second.1) (lower_hyphen 23 first.1) k e
      by_place k within false e =
          let (back, small) = digit_there k within e in
          let there : get_or (digits_of s) (digit_place k) 0 ≡ slice_index s (hyphen_place (digit_place k)) = by_index_at 32 (λ i. slice_index s (hyphen_place i)) (digit_place k) 0 small in
          ap to_ascii_lowercase (ap (slice_index s) (sym back) ∙ sym there) ∙ lower_at (digits_of s) bytes are (digit_place k) small

-- the braces
last_one : (xs : List ℕ) (n : ℕ) → length xs ≡ suc n → xs ≡ take n xs ++ get_or xs n 0 ∷ []
last_one [] n long = absurd (omega (arith, long))
last_one (x ∷ []) zero long = refl
last_one (x ∷ y ∷ ys) zero long = absurd (omega (arith, long))
last_one (x ∷ xs) (suc n) long = ap (λ ys. x ∷ ys) (last_one xs n (omega (arith, long)))

braced_said : (s bytes : List ℕ) → parsed_braced s ≡ Some bytes → str_to_ascii_lowercase s ≡ braced_text lower bytes
braced_said s bytes is =
    let (tests, inner) = if_some ((length s == 38) && (slice_index s 0 == 123) && (slice_index s 37 == 125)) (parsed_hyphenated (take 36 (drop 1 s))) bytes is in
    let (front, close) = and_parts ((length s == 38) && (slice_index s 0 == 123)) (slice_index s 37 == 125) tests in
    let (long, open_is) = and_parts (length s == 38) (slice_index s 0 == 123) front in
    whole s (eqb-true (length s) 38 long) (eqb-true (slice_index s 0) 123 open_is) (eqb-true (slice_index s 37) 125 close) inner where
      whole : (xs : List ℕ) → length xs ≡ 38 → slice_index xs 0 ≡ 123 → slice_index xs 37 ≡ 125 → parsed_hyphenated (take 36 (drop 1 xs)) ≡ Some bytes → str_to_ascii_lowercase xs ≡ braced_text lower bytes
      whole [] long open_is close inner = absurd (omega (arith, long))
      whole (x ∷ xs) long open_is close inner =
          ap (λ c. to_ascii_lowercase c ∷ str_to_ascii_lowercase xs) open_is
          ∙ ap (λ ys. 123 ∷ str_to_ascii_lowercase ys) (last_one xs 36 (omega (arith, long)) ∙ ap (λ c. take 36 xs ++ c ∷ []) close)
          ∙ ap (λ ys. 123 ∷ ys) (map-append to_ascii_lowercase (take 36 xs) (125 ∷ []) ∙ ap (λ ys. ys ++ 125 ∷ []) (hyphenated_said (take 36 xs) bytes inner))

-- the prefix
urn_said : (s bytes : List ℕ) → parsed_urn s ≡ Some bytes → str_to_ascii_lowercase s ≡ urn_text lower bytes
urn_said s bytes is =
    let (tests, inner) = if_some ((length s == 45) && has_urn_prefix s) (parsed_hyphenated (drop 9 s)) bytes is in
    let (long, prefix) = and_parts (length s == 45) (has_urn_prefix s) tests in
    let front : str_to_ascii_lowercase (take 9 s) ≡ urn_prefix = (bytes_eq-Decides (str_to_ascii_lowercase (take 9 s)) (str_to_ascii_lowercase urn_prefix)).0 prefix in
    ap str_to_ascii_lowercase (sym (take-append-drop 9 s)) ∙ map-append to_ascii_lowercase (take 9 s) (drop 9 s)
    ∙ ap (λ xs. xs ++ str_to_ascii_lowercase (drop 9 s)) front ∙ ap (λ xs. urn_prefix ++ xs) (hyphenated_said (drop 9 s) bytes inner)

-- a text of any form
by_length : {A : Type 0} (b : Bool) (x y : Option A) (v : A) → (if b then x else y) ≡ Some v → (x ≡ Some v) ⊎ (y ≡ Some v)
by_length true x y v is = inl is
by_length false x y v is = inr is

text_said : (s bytes : List ℕ) → parsed s ≡ Some bytes → IsGuidText lower bytes (str_to_ascii_lowercase s)
text_said s bytes is = at_32 (by_length (length s == 32) _ _ bytes is) where
  at_45 : (parsed_urn s ≡ Some bytes) ⊎ (◌≡◌ {A = Option (List ℕ)} None (Some bytes)) → IsGuidText lower bytes (str_to_ascii_lowercase s)
  at_45 (inl here) = inr (inr (inr (urn_said s bytes here)))
  at_45 (inr none) = absurd (none-some bytes none)

  at_38 : (parsed_braced s ≡ Some bytes) ⊎ ((if length s == 45 then parsed_urn s else None) ≡ Some bytes) → IsGuidText lower bytes (str_to_ascii_lowercase s)
  at_38 (inl here) = inr (inr (inl (braced_said s bytes here)))
  at_38 (inr later) = at_45 (by_length (length s == 45) _ _ bytes later)

  at_36 : (parsed_hyphenated s ≡ Some bytes) ⊎ ((if length s == 38 then parsed_braced s else if length s == 45 then parsed_urn s else None) ≡ Some bytes) → IsGuidText lower bytes (str_to_ascii_lowercase s)
  at_36 (inl here) = inr (inl (hyphenated_said s bytes here))
  at_36 (inr later) = at_38 (by_length (length s == 38) _ _ bytes later)

  at_32 : (parsed_simple s ≡ Some bytes) ⊎ ((if length s == 36 then parsed_hyphenated s else if length s == 38 then parsed_braced s else if length s == 45 then parsed_urn s else None) ≡ Some bytes) →
      IsGuidText lower bytes (str_to_ascii_lowercase s)
  at_32 (inl here) = inl (simple_said s bytes here)
  at_32 (inr later) = at_36 (by_length (length s == 36) _ _ bytes later)

pub guid_printed : (text : List ℕ) (guid : ℕ) → IsGuid text guid → (bytes : List ℕ) × (guid ≡ from_be_bytes w128 bytes) × IsGuidText lower bytes (str_to_ascii_lowercase text)
guid_printed text guid (bytes, is, value) = (bytes, value, text_said text bytes is)

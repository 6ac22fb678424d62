-- Decimal numbers without a leading zero.
use Rattle.std.proofs.Common.{◌≡◌, ℕ, zero, suc, ◌^◌, ◌<◌, ◌≤◌, true, false, not, ◌&&◌, ◌==◌, nat_lt, nat_le, List, [], ◌∷◌, length, get_or, Some, None, Result, Ok, Err, decimal, refl, ap, sym, subst, ◌∙◌, le-leb, lt-ltb, if◌then◌else◌, arith}
use Rattle.std.specs.Char.{is_ascii_digit}
use Rattle.std.specs.List.{list_all}
use Rattle.std.specs.Result.{result_ok, OkIff}
use Rattle.std.specs.Str.Parse.{digits_value, ParsesUnsigned}
use Rattle.std.proofs.lemmas.Bool.{and_parts, and_from, leb-true, ltb-true, eq-eqb, ne_eqb, false≢true, cond-true, cond-false, and_left, and_right, false_from_ne_true}
use Rattle.std.proofs.lemmas.Fmt.{digits_decimal, digits_value-decimal, decimal-digits_value, decimal_nonempty, first_decimal, decimal_digit}
use Rattle.std.proofs.lemmas.Option.{cond_some}
use Rattle.std.proofs.lemmas.Str.Parse.{IsDigitsTest, IsNumeralModel, numerals_by_value, parse_digits}
use Rattle.trace_text.specs.Readings.{has_leading_zero, is_numeral, number_of, number_below}
use Rattle.trace_text.proofs.Spells.{Spells, spells_tested, refitted}

abbrev pub AreDigits : List ℕ → Type 0
AreDigits ds = list_all is_ascii_digit ds ≡ true

digit_range : (c : ℕ) → is_ascii_digit c ≡ true → (48 ≤ c) × (c ≤ 57)
digit_range c is = let (low, high) = and_parts (nat_le 48 c) (nat_le c 57) is in (leb-true 48 c low, leb-true c 57 high)

tells : IsDigitsTest AreDigits
tells = record {
  empty = refl;
  parts = λ c cs all. let (here, more) = and_parts (is_ascii_digit c) (list_all is_ascii_digit cs) all in (digit_range c here, more);
  more = λ c cs range all. and_from (is_ascii_digit c) (list_all is_ascii_digit cs) (and_from (nat_le 48 c) (nat_le c 57) (le-leb 48 c range.0) (le-leb c 57 range.1)) all;
}

pub model : IsNumeralModel AreDigits (digits_value 10)
model = numerals_by_value AreDigits tells

one_zero : (word : List ℕ) → not (has_leading_zero word) ≡ true → get_or word 0 0 ≡ 48 → length word ≡ 1
one_zero [] none zero_first = absurd (omega (arith, zero_first))
one_zero (c ∷ []) none zero_first = refl
one_zero (c ∷ d ∷ more) none zero_first =
    let longer : nat_lt 0 (length (d ∷ more)) ≡ true = lt-ltb 0 (length (d ∷ more)) (omega arith) in
    let both : ((c == 48) && nat_lt 0 (length (d ∷ more))) ≡ true = and_from (c == 48) (nat_lt 0 (length (d ∷ more))) (eq-eqb c 48 zero_first) longer in
    absurd (false≢true (sym (ap not both) ∙ none))

-- what a text of digits without a leading zero is
record AreNumeral (text : List ℕ) : Type 0 where
  some : 0 < length text
  digits : AreDigits text
  first : not (has_leading_zero text) ≡ true

parts_of : (text : List ℕ) → is_numeral text ≡ true → AreNumeral text
parts_of text is =
    let (front, first) = and_parts (nat_lt 0 (length text) && list_all is_ascii_digit text) (not (has_leading_zero text)) is in
    let (some, digits) = and_parts (nat_lt 0 (length text)) (list_all is_ascii_digit text) front in
    record { some = ltb-true 0 (length text) some; digits = digits; first = first }

number_said : (text : List ℕ) (n : ℕ) → number_of text ≡ Some n → (n < 2 ^ 64) × (text ≡ decimal n)
unfolding number_of
number_said text n is =
    let (tests, same) = cond_some (is_numeral text && nat_lt (digits_value 10 text) (2 ^ 64)) (digits_value 10 text) n is in
    let (numeral, fits) = and_parts (is_numeral text) (nat_lt (digits_value 10 text) (2 ^ 64)) tests in
    let are = parts_of text numeral in
    let small = ltb-true (digits_value 10 text) (2 ^ 64) fits in
    let spelled : decimal (digits_value 10 text) ≡ text = decimal-digits_value model text are.digits are.some (one_zero text are.first) small in
    (subst (λ k. k < 2 ^ 64) same small, sym spelled ∙ ap decimal same)

no_leading : (k : ℕ) → k < 2 ^ 64 → not (has_leading_zero (decimal k)) ≡ true
no_leading zero small = ap (λ ds. not (has_leading_zero ds)) (decimal_digit 0 (omega arith))
no_leading (suc k) small = first_high (decimal (suc k)) (first_decimal (suc k) (omega arith) small) where
  first_high : (ds : List ℕ) → 48 < get_or ds 0 0 → not (has_leading_zero ds) ≡ true
  first_high [] high = refl
  first_high (c ∷ cs) high = ap (λ b. not (b && nat_lt 0 (length cs))) (ne_eqb c 48 (λ same. omega (arith, high, same)))

number_gives : (n : ℕ) → n < 2 ^ 64 → number_of (decimal n) ≡ Some n
unfolding number_of
number_gives n small =
    let numeral : is_numeral (decimal n) ≡ true =
    and_from (nat_lt 0 (length (decimal n)) && list_all is_ascii_digit (decimal n)) (not (has_leading_zero (decimal n)))
    (and_from (nat_lt 0 (length (decimal n))) (list_all is_ascii_digit (decimal n)) (lt-ltb 0 (length (decimal n)) (decimal_nonempty n small)) (digits_decimal model n small)) (no_leading n small) in
    let value : digits_value 10 (decimal n) ≡ n = digits_value-decimal model n small in
    let fits : nat_lt (digits_value 10 (decimal n)) (2 ^ 64) ≡ true = lt-ltb (digits_value 10 (decimal n)) (2 ^ 64) (subst (λ k. k < 2 ^ 64) (sym value) small) in
    ap (λ b. if b then Some (digits_value 10 (decimal n)) else None) (and_from (is_numeral (decimal n)) (nat_lt (digits_value 10 (decimal n)) (2 ^ 64)) numeral fits) ∙ ap Some value

pub number_spells : Spells (λ n. n < 2 ^ 64) decimal number_of
number_spells = record { said = number_said; gives = number_gives }

-- a smaller number
pub below_spells : (limit : ℕ) → limit ≤ 2 ^ 64 → Spells (λ n. n < limit) decimal (number_below limit)
below_spells limit few =
    refitted (spells_tested (λ n. nat_lt n limit) number_spells) (λ n fit. ltb-true n limit fit.1) (λ n less. (omega (arith, few, less), lt-ltb n limit less))

-- what `parse` gives of digits
from_parse : {E : Type 0} (text : List ℕ) (r : Result ℕ E) → OkIff r ((0 < length text) × (digits_value 10 text < 2 ^ 64)) (digits_value 10 text) → is_numeral text ≡ true → result_ok r ≡ number_of text
unfolding number_of
from_parse text (Ok n) is numeral =
    let fits = lt-ltb (digits_value 10 text) (2 ^ 64) is.0.1 in
    ap Some is.1 ∙ sym (cond-true _ (Some (digits_value 10 text)) None (and_from (is_numeral text) (nat_lt (digits_value 10 text) (2 ^ 64)) numeral fits))
from_parse text (Err e) is numeral = sym (cond-false _ (Some (digits_value 10 text)) None (and_right (is_numeral text) (nat_lt (digits_value 10 text) (2 ^ 64)) wide)) where
  wide : nat_lt (digits_value 10 text) (2 ^ 64) ≡ false
  wide = false_from_ne_true (nat_lt (digits_value 10 text) (2 ^ 64)) (λ less. is ((parts_of text numeral).some, ltb-true (digits_value 10 text) (2 ^ 64) less))

pub parsed_is : {E : Type 0} (text : List ℕ) (r : Result ℕ E) → ParsesUnsigned 64 10 text r → is_numeral text ≡ true → result_ok r ≡ number_of text
parsed_is text r parses numeral = from_parse text r (parse_digits model 64 text r parses (parts_of text numeral).digits) numeral

pub not_numeral : (text : List ℕ) → is_numeral text ≡ false → None ≡ number_of text
unfolding number_of
not_numeral text is = sym (cond-false _ (Some (digits_value 10 text)) None (and_left (is_numeral text) (nat_lt (digits_value 10 text) (2 ^ 64)) is))

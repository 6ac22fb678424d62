-- A decimal number among the words.
use Rattle.std.proofs.Common.{◌≡◌, ℕ, ◌^◌, ◌<◌, ◌≤◌, true, false, not, ◌&&◌, nat_lt, nat_le, List, length, Some, None, Result, Ok, Err, refl, ap, sym, ◌∙◌, le-leb, lt-ltb}
use Rattle.std.specs.Char.{is_ascii_digit}
use Rattle.std.specs.List.{list_all}
use Rattle.std.specs.Result.{result_ok, OkIff}
use Rattle.std.specs.Str.Parse.{digits_value, ParsesUnsigned}
use Rattle.std.proofs.lemmas.Bool.{and_parts, and_from, leb-true, ltb-true, cond-true, cond-false, and_left, and_right, false_from_ne_true}
use Rattle.std.proofs.lemmas.Str.Parse.{IsDigitsTest, IsNumeralModel, numerals_by_value, parse_digits}
use Rattle.smm_command.specs.Numbers.{has_leading_zero, is_numeral, number_of}

abbrev AreDigits : List ℕ → Type 0
AreDigits ds = list_all is_ascii_digit ds ≡ true

digit_range : (c : ℕ) → is_ascii_digit c ≡ true → (48 ≤ c) × (c ≤ 57)
digit_range c is = let (low, high) = and_parts (nat_le 48 c) (nat_le c 57) is in (leb-true 48 c low, leb-true c 57 high)

tells : IsDigitsTest AreDigits
tells = record {
  empty = refl;
  parts = λ c cs all. let (here, more) = and_parts (is_ascii_digit c) (list_all is_ascii_digit cs) all in (digit_range c here, more);
  more = λ c cs range all. and_from (is_ascii_digit c) (list_all is_ascii_digit cs) (and_from (nat_le 48 c) (nat_le c 57) (le-leb 48 c range.0) (le-leb c 57 range.1)) all;
}

model : IsNumeralModel AreDigits (digits_value 10)
model = numerals_by_value AreDigits tells

-- some digits
digits_of : (word : List ℕ) → is_numeral word ≡ true → (0 < length word) × AreDigits word
digits_of word is =
    let (front, first) = and_parts (nat_lt 0 (length word) && list_all is_ascii_digit word) (not (has_leading_zero word)) is in
    let (some, digits) = and_parts (nat_lt 0 (length word)) (list_all is_ascii_digit word) front in
    (ltb-true 0 (length word) some, digits)

from_parse : {E : Type 0} (word : List ℕ) (r : Result ℕ E) → OkIff r ((0 < length word) × (digits_value 10 word < 2 ^ 32)) (digits_value 10 word) → is_numeral word ≡ true → result_ok r ≡ number_of word
unfolding number_of
from_parse word (Ok n) is numeral =
    let fits = lt-ltb (digits_value 10 word) (2 ^ 32) is.0.1 in
    ap Some is.1 ∙ sym (cond-true _ (Some (digits_value 10 word)) None (and_from (is_numeral word) (nat_lt (digits_value 10 word) (2 ^ 32)) numeral fits))
from_parse word (Err e) is numeral = sym (cond-false _ (Some (digits_value 10 word)) None (and_right (is_numeral word) (nat_lt (digits_value 10 word) (2 ^ 32)) wide)) where
  wide : nat_lt (digits_value 10 word) (2 ^ 32) ≡ false
  wide = false_from_ne_true (nat_lt (digits_value 10 word) (2 ^ 32)) (λ less. is ((digits_of word numeral).0, ltb-true (digits_value 10 word) (2 ^ 32) less))

-- what `parse` gives of a numeral
pub parsed_is : {E : Type 0} (word : List ℕ) (r : Result ℕ E) → ParsesUnsigned 32 10 word r → is_numeral word ≡ true → result_ok r ≡ number_of word
parsed_is word r parses numeral = from_parse word r (parse_digits model 32 word r parses (digits_of word numeral).1) numeral

-- a word that is none is no number
pub not_numeral : (word : List ℕ) → is_numeral word ≡ false → None ≡ number_of word
unfolding number_of
not_numeral word is = sym (cond-false _ (Some (digits_value 10 word)) None (and_left (is_numeral word) (nat_lt (digits_value 10 word) (2 ^ 32)) is))

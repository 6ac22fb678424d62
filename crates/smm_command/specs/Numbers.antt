-- Decimal numbers among the words.
use Rattle.std.specs.Prelude.{ℕ, ◌^◌, ◌==◌, nat_lt, nat_le, Bool, false, not, ◌&&◌, List, [], ◌∷◌, length, Option, None, Some, if◌then◌else◌}
use Rattle.std.specs.Char.{is_ascii_digit}
use Rattle.std.specs.List.{list_all}
use Rattle.std.specs.Option.{option_and_then}
use Rattle.std.specs.Str.Parse.{digits_value}

-- a first digit 0 with more after it
abbrev pub has_leading_zero : List ℕ → Bool
has_leading_zero [] = false
has_leading_zero (first ∷ more) = (first == 48) && nat_lt 0 (length more)

-- decimal digits without a leading zero
abbrev pub is_numeral : List ℕ → Bool
is_numeral word = nat_lt 0 (length word) && list_all is_ascii_digit word && not (has_leading_zero word)

-- the number of 32 bits that a word is
unfoldable pub number_of : List ℕ → Option ℕ
number_of word = if is_numeral word && nat_lt (digits_value 10 word) (2 ^ 32) then Some (digits_value 10 word) else None

-- the number of processors that a word is: 1 to 64
abbrev pub processors_of : List ℕ → Option ℕ
processors_of word = option_and_then (λ number. if nat_le 1 number && nat_le number 64 then Some number else None) (number_of word)

-- Decimal digits one after the other.
use Rattle.std.proofs.Common.{◌≡◌, ℕ, ◌+◌, ◌-◌, ◌*◌, ◌^◌, ◌<◌, Bool, true, false, List, length, get_or, take, refl, sym, ◌∙◌, arith}
use Rattle.std.proofs.lemmas.Bool.Decides.{nat_tests}
use Rattle.std.proofs.lemmas.Int.Digits.{digits_value_more}
use Rattle.std.proofs.lemmas.List.Folds.{list_all_at}
use Rattle.std.proofs.lemmas.Nat.{pow-add}
use Rattle.std.specs.Char.{is_ascii_digit, digit_value}
use Rattle.std.specs.List.{list_all}
use Rattle.std.specs.Str.Parse.{digits_value}

by_test : (ds : List ℕ) (i : ℕ) (test : Bool) → is_ascii_digit (get_or ds i 0) ≡ test → i < length ds → list_all is_ascii_digit ds ≡ true → test ≡ true
by_test ds i true is within all = refl
by_test ds i false is within all = sym (list_all_at is_ascii_digit ds i 0 within is) ∙ all

-- each of the digits is one
digit_at : (ds : List ℕ) (i : ℕ) → i < length ds → list_all is_ascii_digit ds ≡ true → is_ascii_digit (get_or ds i 0) ≡ true
digit_at ds i within all = by_test ds i (is_ascii_digit (get_or ds i 0)) refl within all

value_of_digit : (c : ℕ) → is_ascii_digit c ≡ true → digit_value c ≡ c - 48
value_of_digit c is = grind (arith, nat_tests)

below_ten : (c : ℕ) → is_ascii_digit c ≡ true → c - 48 < 10
below_ten c is = grind (arith, nat_tests)

-- the number with one digit more
pub one_digit_more : (ds : List ℕ) (i number digit : ℕ) → i < length ds → list_all is_ascii_digit ds ≡ true → number ≡ digits_value 10 (take i ds) → digit ≡ get_or ds i 0 - 48 →
    number * 10 + digit ≡ digits_value 10 (take (i + 1) ds)
one_digit_more ds i number digit within all so_far is =
    let value = value_of_digit (get_or ds i 0) (digit_at ds i within all) in
    let more = digits_value_more 10 ds i within in
    omega (arith, so_far, is, value, more)

-- stays small
pub small_digit_more : (ds : List ℕ) (i number digit : ℕ) → i < length ds → list_all is_ascii_digit ds ≡ true → number < 10 ^ i → digit ≡ get_or ds i 0 - 48 → number * 10 + digit < 10 ^ (i + 1)
small_digit_more ds i number digit within all small is =
    let one = below_ten (get_or ds i 0) (digit_at ds i within all) in
    let next : 10 ^ (i + 1) ≡ 10 ^ i * 10 = pow-add 10 i 1 in
    omega (arith, small, is, one, next)

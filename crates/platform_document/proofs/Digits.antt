-- Hexadecimal digits and their number.
use Rattle.std.proofs.Common.{◌≡◌, ℕ, ◌^◌, ◌<◌, ◌≤◌, true, false, ◌&&◌, ◌==◌, nat_le, cond, List, [], ◌∷◌, length, drop, None, codes, if◌then◌else◌, refl, ap, sym, subst, ◌∙◌, arith}
use Rattle.std.proofs.Math.Nat.{pow-le-pow_right}
use Rattle.std.proofs.lemmas.Bool.{and_parts}
use Rattle.std.proofs.lemmas.Bool.Decides.{nat_tests}
use Rattle.std.proofs.lemmas.Int.Digits.{digits_value-lt}
use Rattle.std.proofs.lemmas.Str.Pattern.{starts_text}
use Rattle.std.specs.Char.{is_digit, digit_value}
use Rattle.std.specs.List.{list_all}
use Rattle.std.specs.Str.Parse.{AllDigits, IsNumeral, digits_value, without_leading_plus}
use Rattle.std.specs.Str.Pattern.{FindsTextPrefix, StripsPrefix}
use Rattle.platform_document.specs.Words.{are_digits, number_of_digits, hexadecimal_of}

below : (c : ℕ) → is_digit c 16 ≡ true → digit_value c < 16
below c is = grind (arith, nat_tests)

apart : (c : ℕ) → is_digit c 16 ≡ true → (c == 43) ≡ false
apart c is = grind (arith, nat_tests)

all_digits : (ds : List ℕ) → list_all (λ c. is_digit c 16) ds ≡ true → AllDigits 16 ds
all_digits [] all = tt
all_digits (c ∷ cs) all =
    let (here, more) = and_parts (is_digit c 16) (list_all (λ d. is_digit d 16) cs) all in
    (below c here, all_digits cs more)

-- no plus stands in front of digits
as_written : (ds : List ℕ) → list_all (λ c. is_digit c 16) ds ≡ true → without_leading_plus ds ≡ ds
as_written [] all = refl
as_written (c ∷ cs) all =
    let (here, more) = and_parts (is_digit c 16) (list_all (λ d. is_digit d 16) cs) all in
    ap (λ b. drop (cond b 1 0) (c ∷ cs)) (apart c here)

fits : (ds : List ℕ) → length ds ≤ 16 → AllDigits 16 ds → digits_value 16 ds < 2 ^ 64
fits ds few all =
    let some : 0 < 16 = omega arith in
    let small = digits_value-lt 16 ds all in
    let most = pow-le-pow_right {n = 16} some few in
    omega (arith, small, most)

-- 1 to 16 digits are a numeral whose number fits into 64 bits
numeral : (ds : List ℕ) → are_digits ds ≡ true → IsNumeral 16 (without_leading_plus ds) × (digits_value 16 (without_leading_plus ds) < 2 ^ 64)
numeral ds are =
    let (count, all) = and_parts (nat_le 1 (length ds) && nat_le (length ds) 16) (list_all (λ c. is_digit c 16) ds) are in
    let (some, few) = and_parts (nat_le 1 (length ds)) (nat_le (length ds) 16) count in
    let P : List ℕ → Type 0 = λ xs. IsNumeral 16 xs × (digits_value 16 xs < 2 ^ 64) in
    let more : 0 < length ds = grind (arith, nat_tests) in
    let less : length ds ≤ 16 = grind (arith, nat_tests) in
    subst P (sym (as_written ds all)) ((more, all_digits ds all), fits ds less (all_digits ds all))

pub never_fails : (ds : List ℕ) → are_digits ds ≡ true → ¬ (IsNumeral 16 (without_leading_plus ds) × (digits_value 16 (without_leading_plus ds) < 2 ^ 64)) → ⊥
never_fails ds are fails = fails (numeral ds are)

-- a text with the prefix is read by what stands after it
pub hexadecimal_after : (s x : List ℕ) → StripsPrefix (FindsTextPrefix (codes "0x")) s x → number_of_digits x ≡ hexadecimal_of s
hexadecimal_after s x strips =
    let n = strips.0 in
    let found = strips.1 in
    let starts = starts_text true (codes "0x") s (n, found, rw found.0 found.2) in
    let rest : x ≡ drop 2 s = strips.2 ∙ ap (λ k. drop k s) found.0 in
    ap number_of_digits rest ∙ ap (λ b. if b then number_of_digits (drop 2 s) else None) starts

pub hexadecimal_without : (s : List ℕ) → FindsTextPrefix (codes "0x") s None → None ≡ hexadecimal_of s
hexadecimal_without s lacks = ap (λ b. if b then number_of_digits (drop 2 s) else None) (starts_text false (codes "0x") s lacks)

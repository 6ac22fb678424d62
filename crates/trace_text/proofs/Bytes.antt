-- Which bytes a text has, and how many.
use Rattle.std.proofs.Common.{◌≡◌, ℕ, ◌+◌, ◌^◌, ◌<◌, ◌≤◌, Bool, true, not, ◌&&◌, ◌==◌, nat_lt, List, [], ◌∷◌, ◌++◌, length, decimal, flat_map, refl, ◌∙◌, length-append, arith}
use Rattle.std.specs.Char.{is_ascii_digit}
use Rattle.std.specs.List.{list_all}
use Rattle.std.proofs.lemmas.Bool.{and_parts, and_from}
use Rattle.std.proofs.lemmas.Bool.Decides.{nat_tests}
use Rattle.std.proofs.lemmas.Fmt.{digits_decimal, length-decimal-le}
use Rattle.std.proofs.lemmas.List.Folds.{list_all-append}
use Rattle.sync_words.specs.Texts.{colon, with_arguments}
use Rattle.trace_text.proofs.Numbers.{model}

-- the bytes of a field: neither blank nor colon
abbrev pub is_field_byte : ℕ → Bool
is_field_byte b = nat_lt 32 b && nat_lt b 127 && not (b == 58)

-- the bytes of a label or an access: no blank
abbrev pub is_word_byte : ℕ → Bool
is_word_byte b = nat_lt 32 b && nat_lt b 127

-- the bytes of a line
abbrev pub is_line_byte : ℕ → Bool
is_line_byte b = nat_lt 31 b && nat_lt b 127

-- the text has such bytes, and at most so many
pub record Within (test : ℕ → Bool) (most : ℕ) (text : List ℕ) : Type 0 where
  pub bytes : list_all test text ≡ true
  pub few : length text ≤ most

pub all_weaker : (p q : ℕ → Bool) → ((b : ℕ) → p b ≡ true → q b ≡ true) → (xs : List ℕ) → list_all p xs ≡ true → list_all q xs ≡ true
all_weaker p q weaker [] all = refl
all_weaker p q weaker (x ∷ xs) all =
    let (here, more) = and_parts (p x) (list_all p xs) all in
    and_from (q x) (list_all q xs) (weaker x here) (all_weaker p q weaker xs more)

pub weaker : {p : ℕ → Bool} (q : ℕ → Bool) {k : ℕ} {xs : List ℕ} (m : ℕ) → ((b : ℕ) → p b ≡ true → q b ≡ true) → k ≤ m → Within p k xs → Within q m xs
weaker {p = p} q {k = k} {xs = xs} m implies less within = record {
  bytes = all_weaker p q implies xs within.bytes;
  few = omega (arith, within.few, less);
}

pub both : {p : ℕ → Bool} {j k : ℕ} {xs ys : List ℕ} → Within p j xs → Within p k ys → Within p (j + k) (xs ++ ys)
both {p = p} {j = j} {k = k} {xs = xs} {ys = ys} front back = record {
  bytes = list_all-append p xs ys ∙ and_from (list_all p xs) (list_all p ys) front.bytes back.bytes;
  few = omega (arith, length-append xs ys, front.few, back.few);
}

pub one_more : {p : ℕ → Bool} {k : ℕ} {xs : List ℕ} (b : ℕ) → p b ≡ true → Within p k xs → Within p (1 + k) (b ∷ xs)
one_more {p = p} {k = k} {xs = xs} b is within = record {
  bytes = and_from (p b) (list_all p xs) is within.bytes;
  few = omega (arith, within.few);
}

pub none : {p : ℕ → Bool} → Within p 0 []
none = record { bytes = refl; few = omega arith }

pub field_is_word : (b : ℕ) → is_field_byte b ≡ true → is_word_byte b ≡ true
field_is_word b is = (and_parts (nat_lt 32 b && nat_lt b 127) (not (b == 58)) is).0

pub word_is_line : (b : ℕ) → is_word_byte b ≡ true → is_line_byte b ≡ true
word_is_line b is = grind (arith, nat_tests)

digit_is_field : (b : ℕ) → is_ascii_digit b ≡ true → is_field_byte b ≡ true
digit_is_field b is = grind (arith, nat_tests)

-- a number below a power of ten
pub decimal_within : (k n : ℕ) → 0 < k → n < 10 ^ k → n < 2 ^ 64 → Within is_field_byte k (decimal n)
decimal_within k n some small fits = record {
  bytes = all_weaker is_ascii_digit is_field_byte digit_is_field (decimal n) (digits_decimal model n fits);
  few = length-decimal-le k n some small fits;
}

pub small_within : (n : ℕ) → n < 2 ^ 16 → Within is_field_byte 5 (decimal n)
small_within n small = decimal_within 5 n (omega arith) (omega (arith, small)) (omega (arith, small))

pub middle_within : (n : ℕ) → n < 2 ^ 32 → Within is_field_byte 10 (decimal n)
middle_within n small = decimal_within 10 n (omega arith) (omega (arith, small)) (omega (arith, small))

pub wide_within : (n : ℕ) → n < 2 ^ 64 → Within is_field_byte 20 (decimal n)
wide_within n small = decimal_within 20 n (omega arith) (omega (arith, small)) small

-- fields with a colon before each
abbrev pub AreFields : List ℕ → List (List ℕ) → Type 0
AreFields [] [] = Unit {0}
AreFields (k ∷ ks) (text ∷ texts) = Within is_field_byte k text × AreFields ks texts
AreFields _ _ = ⊥

abbrev pub room_of : List ℕ → ℕ
room_of [] = 0
room_of (k ∷ ks) = 1 + k + room_of ks

pub fields_within : (ks : List ℕ) (texts : List (List ℕ)) → AreFields ks texts → Within is_word_byte (room_of ks) (flat_map (λ text. colon ∷ text) texts)
fields_within [] [] are = none
fields_within [] (text ∷ texts) are = absurd are
fields_within (k ∷ ks) [] are = absurd are
fields_within (k ∷ ks) (text ∷ texts) are =
    both (one_more colon refl (weaker is_word_byte k field_is_word (omega arith) are.0)) (fields_within ks texts are.1)

-- a word with its fields
pub spelled_within : (most k : ℕ) (word : List ℕ) (ks : List ℕ) (texts : List (List ℕ)) → Within is_word_byte k word → AreFields ks texts → k + room_of ks ≤ most → Within is_word_byte most (with_arguments word texts)
spelled_within most k word ks texts begins are less = weaker is_word_byte most (λ b is. is) less (both begins (fields_within ks texts are))

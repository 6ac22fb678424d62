-- The actors that are read of a schedule are those that its text says.
use Rattle.std.proofs.Common.{◌≡◌, inl, inr, ℕ, zero, suc, ◌+◌, ◌<◌, ◌≤◌, Bool, true, false, not, ◌&&◌, ◌==◌, nat_lt, nat_le, List, [], ◌∷◌, ◌++◌, length, get_or, take, drop, All, Option, Some, None, Result, Ok, Err, option_map, cond, codes, decimal, refl, ap, sym, subst, ◌∙◌, le-leb, lt-ltb, append-nil, if◌then◌else◌, arith}
use Rattle.std.specs.Char.{is_ascii_digit}
use Rattle.std.specs.Option.{option_and_then}
use Rattle.std.specs.List.{list_all, onto_first, position, position_or_len, range_with_len, slice_split}
use Rattle.std.specs.Str.{bytes_eq}
use Rattle.std.specs.Str.Parse.{digits_value}
use Rattle.std.proofs.lemmas.Bool.{and_parts, and_from, leb-true, eqb-true, eq-eqb, ne_eqb, false≢true}
use Rattle.std.proofs.lemmas.Bool.Decides.{nat_tests}
use Rattle.std.proofs.lemmas.Fmt.{digits_decimal, digits_value-decimal, decimal-digits_value, decimal_nonempty, first_decimal, length-decimal-le, decimal_digit}
use Rattle.std.proofs.lemmas.List.Elements.{All-nil, All-cons, All-head, All-tail, All-append}
use Rattle.std.proofs.lemmas.List.Quantifiers.{position-Some}
use Rattle.std.proofs.lemmas.List.Splits.{slice_split_none, slice_split_at, slice_split-cons_yes}
use Rattle.std.proofs.lemmas.Option.{same_Some, none-some}
use Rattle.std.proofs.lemmas.Slice.Eq.{bytes_eq-Decides}
use Rattle.std.proofs.lemmas.Str.Parse.{IsDigitsTest, IsNumeralModel, numerals_by_value, digits_value_short}
use Rattle.schedule_file.specs.declared.error.ScheduleError.{ScheduleError}
use Rattle.schedule_file.specs.declared.error.ScheduleError.TheVariants.{Token, Actor, TooLong}
use Rattle.schedule_file.specs.declared.item.Item.{Item}
use Rattle.schedule_file.specs.declared.item.Who.{Who}
use Rattle.schedule_file.specs.declared.item.Who.TheVariants as who
use Rattle.schedule_file.specs.Schedule.{is_blank, has_bytes, items_of, has_leading_zero, is_numeral, numeral_of, who_of, count_of, with_count, with_star, item_of, on_ok, who_reading, repeated, form_reading, item_reading, all_actors, not_too_long, schedule_of}
use Rattle.schedule_file.specs.Steps.{items_from}
use Rattle.schedule_file.specs.Says.{SaysWho, SaysItem, BeginsApart, SaysSchedule, nothing, blank, item}

abbrev ok_value : {A E : Type 0} → A → Result A E → A
ok_value d (Ok x) = x
ok_value d (Err e) = d

same_ok : {A E : Type 0} (x y : A) → ◌≡◌ {A = Result A E} (Ok x) (Ok y) → x ≡ y
same_ok x y e = ap (ok_value x) e

abbrev is_read : {A E : Type 0} → Result A E → Bool
is_read (Ok x) = true
is_read (Err e) = false

err_ok : {A E C : Type 0} (e : E) (x : A) → ◌≡◌ {A = Result A E} (Err e) (Ok x) → C
err_ok e x is = absurd (false≢true (ap is_read is))

if_ok : {A E : Type 0} (b : Bool) (x y : A) (e : E) → ◌≡◌ {A = Result A E} (if b then Ok x else Err e) (Ok y) → (b ≡ true) × (x ≡ y)
if_ok true x y e is = (refl, same_ok x y is)
if_ok false x y e is = err_ok e y is

ok_if : {A E : Type 0} (b : Bool) (x : A) (e : E) → b ≡ true → ◌≡◌ {A = Result A E} (if b then Ok x else Err e) (Ok x)
ok_if b x e is = ap (λ c. if c then Ok x else Err e) is

-- the word `all`, or another one
word_case : {A : Type 0} (text w : List ℕ) (a b : A) (rest : Option A) (P : A → Type 0) → (if bytes_eq text w then Some a else rest) ≡ Some b → (text ≡ w → P a) → (rest ≡ Some b → P b) → P b
word_case {A = A} text w a b rest P is here later = by_test (bytes_eq text w) refl is where
  by_test : (t : Bool) → bytes_eq text w ≡ t → (if t then Some a else rest) ≡ Some b → P b
  by_test true e is = subst P (same_Some a b is) (here ((bytes_eq-Decides text w).0 e))
  by_test false e is = later is

unless_word : {A : Type 0} (text w : List ℕ) (a : A) (rest : Option A) (o : Option A) → (text ≡ w → ⊥) → rest ≡ o → (if bytes_eq text w then Some a else rest) ≡ o
unless_word {A = A} text w a rest o differs is = by_test (bytes_eq text w) refl where
  by_test : (t : Bool) → bytes_eq text w ≡ t → (if t then Some a else rest) ≡ o
  by_test true e = absurd (differs ((bytes_eq-Decides text w).0 e))
  by_test false e = is

-- numbers
abbrev AreDigits : List ℕ → Type 0
AreDigits ds = list_all is_ascii_digit ds ≡ true

digit_range : (c : ℕ) → is_ascii_digit c ≡ true → (48 ≤ c) × (c ≤ 57)
digit_range c is = let (low, high) = and_parts (nat_le 48 c) (nat_le c 57) is in (leb-true 48 c low, leb-true c 57 high)

tells : IsDigitsTest AreDigits
tells = record {
  empty = refl;
  parts = λ c cs all. let (here, more) = and_parts (is_ascii_digit c) (list_all is_ascii_digit cs) all in (digit_range c here, more);
  more = λ c cs range all. and_from (is_ascii_digit c) (list_all is_ascii_digit cs) (and_from (nat_le 48 c) (nat_le c 57) (le-leb 48 c range.0) (le-leb c 57 range.1)) all;
}

model : IsNumeralModel AreDigits (digits_value 10)
model = numerals_by_value AreDigits tells

one_zero : (word : List ℕ) → not (has_leading_zero word) ≡ true → 1 ≤ length word → get_or word 0 0 ≡ 48 → length word ≡ 1
one_zero [] none some zero_first = absurd (omega (arith, some))
one_zero (c ∷ []) none some zero_first = refl
one_zero (c ∷ d ∷ more) none some zero_first =
    let longer : nat_lt 0 (length (d ∷ more)) ≡ true = lt-ltb 0 (length (d ∷ more)) (omega arith) in
    let both : ((c == 48) && nat_lt 0 (length (d ∷ more))) ≡ true = and_from (c == 48) (nat_lt 0 (length (d ∷ more))) (eq-eqb c 48 zero_first) longer in
    absurd (false≢true (sym (ap not both) ∙ none))

abbrev is_count : List ℕ → Bool
is_count word = nat_le 1 (length word) && nat_le (length word) 5

numeral_said : (word : List ℕ) (k : ℕ) → numeral_of word ≡ Some k → word ≡ decimal k
unfolding numeral_of
numeral_said word k is = by_test (is_numeral word) refl is where
  by_test : (b : Bool) → is_numeral word ≡ b → (if b then Some (digits_value 10 word) else None) ≡ Some k → word ≡ decimal k
  by_test false e is = absurd (none-some k is)
  by_test true e is =
      let (first, no_zero) = and_parts (is_count word && list_all is_ascii_digit word) (not (has_leading_zero word)) e in
      let (counted, digits) = and_parts (is_count word) (list_all is_ascii_digit word) first in
      let (some, few) = and_parts (nat_le 1 (length word)) (nat_le (length word) 5) counted in
      let low = leb-true 1 (length word) some in
      let short = digits_value_short model word 5 digits (leb-true (length word) 5 few) in
      sym (decimal-digits_value model word digits (omega (arith, low)) (one_zero word no_zero low) (omega (arith, short))) ∙ ap decimal (same_Some (digits_value 10 word) k is)

no_leading : (k : ℕ) → k ≤ 65535 → not (has_leading_zero (decimal k)) ≡ true
no_leading zero small = ap (λ ds. not (has_leading_zero ds)) (decimal_digit 0 (omega arith))
no_leading (suc k) small = first_high (decimal (suc k)) (first_decimal (suc k) (omega arith) (omega (arith, small))) where
  first_high : (ds : List ℕ) → 48 < get_or ds 0 0 → not (has_leading_zero ds) ≡ true
  first_high [] high = refl
  first_high (c ∷ cs) high = ap (λ b. not (b && nat_lt 0 (length cs))) (ne_eqb c 48 (λ same. omega (arith, high, same)))

numeral_read : (k : ℕ) → k ≤ 65535 → numeral_of (decimal k) ≡ Some k
unfolding numeral_of
numeral_read k small =
    let some = decimal_nonempty k (omega (arith, small)) in
    let few : length (decimal k) ≤ 5 = length-decimal-le 5 k (omega arith) (omega arith) (omega (arith, small)) in
    let counted = and_from (nat_le 1 (length (decimal k))) (nat_le (length (decimal k)) 5) (le-leb 1 (length (decimal k)) some) (le-leb (length (decimal k)) 5 few) in
    let numeral : is_numeral (decimal k) ≡ true =
    and_from (is_count (decimal k) && list_all is_ascii_digit (decimal k)) (not (has_leading_zero (decimal k)))
    (and_from (is_count (decimal k)) (list_all is_ascii_digit (decimal k)) counted (digits_decimal model k (omega (arith, small)))) (no_leading k small) in
    ap (λ b. if b then Some (digits_value 10 (decimal k)) else None) numeral ∙ ap Some (digits_value-decimal model k (omega (arith, small)))

-- counts
count_said : (word : List ℕ) (c : ℕ) → count_of word ≡ Some c → (word ≡ decimal c) × (1 ≤ c) × (c ≤ 65535)
count_said word c is = by_numeral (numeral_of word) refl is where
  by_test : (k : ℕ) (b : Bool) → numeral_of word ≡ Some k → nat_le 1 k && nat_le k 65535 ≡ b → (if b then Some k else None) ≡ Some c → (word ≡ decimal c) × (1 ≤ c) × (c ≤ 65535)
  by_test k false there e is = absurd (none-some c is)
  by_test k true there e is =
      let (low, high) = and_parts (nat_le 1 k) (nat_le k 65535) e in
      subst (λ (m : ℕ). (word ≡ decimal m) × (1 ≤ m) × (m ≤ 65535)) (same_Some k c is) (numeral_said word k there, leb-true 1 k low, leb-true k 65535 high)

  by_numeral : (o : Option ℕ) → numeral_of word ≡ o → option_and_then (λ count. if nat_le 1 count && nat_le count 65535 then Some count else None) o ≡ Some c → (word ≡ decimal c) × (1 ≤ c) × (c ≤ 65535)
  by_numeral None there is = absurd (none-some c is)
  by_numeral (Some k) there is = by_test k (nat_le 1 k && nat_le k 65535) there refl is

count_read : (c : ℕ) → 1 ≤ c → c ≤ 65535 → count_of (decimal c) ≡ Some c
count_read c low high =
    ap (λ o. option_and_then (λ count. if nat_le 1 count && nat_le count 65535 then Some count else None) o) (numeral_read c high)
    ∙ ap (λ b. if b then Some c else None) (and_from (nat_le 1 c) (nat_le c 65535) (le-leb 1 c low) (le-leb c 65535 high))

-- whom a word names
abbrev ReadsWho : ℕ → ℕ → List ℕ → List ℕ → Type 0
ReadsWho n at word actors = (named : Who) × (who_of word ≡ Some named) × (who_reading n at named ≡ Ok actors)

one_said : (n at : ℕ) (word actors : List ℕ) (k : ℕ) → numeral_of word ≡ Some k → who_reading n at (who.One k) ≡ Ok actors → SaysWho n word actors
one_said n at word actors k there is =
    let (few, same) = if_ok (nat_le k n) (k ∷ []) actors (Actor at k) is in
    inr (k, leb-true k n few, numeral_said word k there, sym same)

who_said : (n at : ℕ) (word actors : List ℕ) → ReadsWho n at word actors → SaysWho n word actors
who_said n at word actors (named, there, is) =
    word_case word (codes "all") who.All named (option_map who.One (numeral_of word)) (λ w. who_reading n at w ≡ Ok actors → SaysWho n word actors) there
    (λ e all. inl (e, sym (same_ok (range_with_len 0 (n + 1)) actors all))) (by_numeral (numeral_of word) refl) is where
      by_numeral : (o : Option ℕ) → numeral_of word ≡ o → option_map who.One o ≡ Some named → who_reading n at named ≡ Ok actors → SaysWho n word actors
      by_numeral None e some is = absurd (none-some named some)
      by_numeral (Some k) e some is = one_said n at word actors k e (ap (who_reading n at) (same_Some (who.One k) named some) ∙ is)

all_is_none : numeral_of (codes "all") ≡ None
unfolding numeral_of
all_is_none = refl

who_read : (n at : ℕ) (word actors : List ℕ) → n ≤ 65535 → SaysWho n word actors → ReadsWho n at word actors
who_read n at word actors small (inl (e, same)) = (who.All, ap who_of e, ap Ok (sym same))
who_read n at word actors small (inr (k, few, e, same)) =
    let there = numeral_read k (omega (arith, small, few)) in (
      who.One k,
      ap who_of e
          ∙ unless_word (decimal k) (codes "all") who.All (option_map who.One (numeral_of (decimal k))) (Some (who.One k))
          (λ is. none-some k (sym all_is_none ∙ ap numeral_of (sym is) ∙ there)) (ap (option_map who.One) there),
      ok_if (nat_le k n) (k ∷ []) (Actor at k) (le-leb k n few) ∙ ap Ok (sym same),
    )

-- no blank and no star stands in such a word
abbrev Lacks : (ℕ → Bool) → List ℕ → Type 0
Lacks p word = All (λ x. p x ≡ false) word

abbrev is_star : ℕ → Bool
is_star byte = byte == 42

digits_lack : (p : ℕ → Bool) → ((c : ℕ) → is_ascii_digit c ≡ true → p c ≡ false) → (ds : List ℕ) → AreDigits ds → Lacks p ds
digits_lack p none [] all = All-nil (λ x. p x ≡ false)
digits_lack p none (d ∷ ds) all =
    let (here, more) = and_parts (is_ascii_digit d) (list_all is_ascii_digit ds) all in
    All-cons (λ x. p x ≡ false) d ds (none d here) (digits_lack p none ds more)

no_blank : (c : ℕ) → is_ascii_digit c ≡ true → is_blank c ≡ false
no_blank c is = grind (arith, nat_tests)

no_star : (c : ℕ) → is_ascii_digit c ≡ true → is_star c ≡ false
no_star c is = grind (arith, nat_tests)

decimal_lacks : (p : ℕ → Bool) → ((c : ℕ) → is_ascii_digit c ≡ true → p c ≡ false) → (k : ℕ) → k ≤ 65535 → Lacks p (decimal k)
decimal_lacks p none k small = digits_lack p none (decimal k) (digits_decimal model k (omega (arith, small)))

all_lacks : (p : ℕ → Bool) → p 97 ≡ false → p 108 ≡ false → Lacks p (codes "all")
all_lacks p a l = All-cons (λ x. p x ≡ false) 97 (108 ∷ 108 ∷ []) a (All-cons (λ x. p x ≡ false) 108 (108 ∷ []) l (All-cons (λ x. p x ≡ false) 108 [] l (All-nil (λ x. p x ≡ false))))

who_lacks : (p : ℕ → Bool) → p 97 ≡ false → p 108 ≡ false → ((c : ℕ) → is_ascii_digit c ≡ true → p c ≡ false) → (n : ℕ) (word actors : List ℕ) → n ≤ 65535 → SaysWho n word actors → Lacks p word
who_lacks p a l none n word actors small (inl (e, same)) = subst (Lacks p) (sym e) (all_lacks p a l)
who_lacks p a l none n word actors small (inr (k, few, e, same)) = subst (Lacks p) (sym e) (decimal_lacks p none k (omega (arith, small, few)))

-- the first star
len_lacks : (p : ℕ → Bool) (word : List ℕ) → Lacks p word → position_or_len p word ≡ length word
len_lacks p [] lacks = refl
len_lacks p (c ∷ cs) lacks =
    let more = len_lacks p cs (All-tail (λ x. p x ≡ false) c cs lacks) in
    ap (λ b. cond (not b) (1 + position_or_len p cs) 0) (All-head (λ x. p x ≡ false) c cs lacks) ∙ omega (arith, more)

len_at : (p : ℕ → Bool) (word : List ℕ) (y : ℕ) (more : List ℕ) → Lacks p word → p y ≡ true → position_or_len p (word ++ y ∷ more) ≡ length word
len_at p [] y more lacks is = ap (λ b. cond (not b) (1 + position_or_len p more) 0) is
len_at p (c ∷ cs) y more lacks is =
    let later = len_at p cs y more (All-tail (λ x. p x ≡ false) c cs lacks) is in
    ap (λ b. cond (not b) (1 + position_or_len p (cs ++ y ∷ more)) 0) (All-head (λ x. p x ≡ false) c cs lacks) ∙ omega (arith, later)

abbrev found_at_len : ℕ → ℕ → Option ℕ
found_at_len place size = cond (nat_lt place size) (Some place) None

not_less : (n : ℕ) → nat_lt n n ≡ false
not_less n = grind (arith, nat_tests)

star_none : (word : List ℕ) → Lacks is_star word → position is_star word ≡ None
star_none word lacks = ap (λ k. found_at_len k (length word)) (len_lacks is_star word lacks) ∙ ap (λ b. cond b (Some (length word)) None) (not_less (length word))

star_at : (word more : List ℕ) → Lacks is_star word → position is_star (word ++ 42 ∷ more) ≡ Some (length word)
star_at word more lacks =
    ap (λ k. found_at_len k (length (word ++ 42 ∷ more))) (len_at is_star word 42 more lacks refl)
    ∙ ap (λ b. cond b (Some (length word)) None) (lt-ltb (length word) (length (word ++ 42 ∷ more)) (longer word)) where
      longer : (xs : List ℕ) → length xs < length (xs ++ 42 ∷ more)
      longer [] = omega arith
      longer (x ∷ xs) = let later = longer xs in omega (arith, later)

take_front : (word more : List ℕ) → take (length word) (word ++ more) ≡ word
take_front [] more = refl
take_front (c ∷ cs) more = ap (λ xs. c ∷ xs) (take_front cs more)

drop_front : (word : List ℕ) (y : ℕ) (more : List ℕ) → drop (length word + 1) (word ++ y ∷ more) ≡ more
drop_front [] y more = refl
drop_front (c ∷ cs) y more =
    let next : length (c ∷ cs) + 1 ≡ suc (length cs + 1) = omega arith in
    ap (λ k. drop k (c ∷ cs ++ y ∷ more)) next ∙ drop_front cs y more

star_parts : (word : List ℕ) (star : ℕ) → position is_star word ≡ Some star → word ≡ take star word ++ 42 ∷ drop (star + 1) word
star_parts word star is =
    let first = position-Some is_star word star 0 is in
    parts word star first.0 (eqb-true (get_or word star 0) 42 first.1) where
      parts : (xs : List ℕ) (i : ℕ) → i < length xs → get_or xs i 0 ≡ 42 → xs ≡ take i xs ++ 42 ∷ drop (i + 1) xs
      parts [] i within at = absurd (omega (arith, within))
      parts (x ∷ xs) zero within at = ap (λ c. c ∷ xs) at
      parts (x ∷ xs) (suc i) within at =
          let next : suc (i + 1) ≡ suc i + 1 = omega arith in
          ap (λ cs. x ∷ cs) (parts xs i (omega (arith, within)) at) ∙ ap (λ k. x ∷ take i xs ++ 42 ∷ drop k (x ∷ xs)) next

-- items
abbrev item_is : Who → ℕ → Item
item_is named count = record { who = named; count = count }

on_ok_said : {A B : Type 0} (r : Result A ScheduleError) (next : A → Result B ScheduleError) (y : B) → on_ok next r ≡ Ok y → (x : A) × (r ≡ Ok x) × (next x ≡ Ok y)
on_ok_said (Ok x) next y is = (x, refl, is)
on_ok_said (Err error) next y is = err_ok error y is

on_ok_read : {A B : Type 0} (r : Result A ScheduleError) (next : A → Result B ScheduleError) (x : A) (y : B) → r ≡ Ok x → next x ≡ Ok y → on_ok next r ≡ Ok y
on_ok_read r next x y is more = ap (on_ok next) is ∙ more

counted_said : (w : Option Who) (c : Option ℕ) (it : Item) → with_count w c ≡ Some it → (w ≡ Some it.who) × (c ≡ Some it.count)
counted_said None c it is = absurd (none-some it is)
counted_said (Some named) None it is = absurd (none-some it is)
counted_said (Some named) (Some count) it is =
    let same = same_Some (item_is named count) it is in
    (ap (λ (i : Item). Some i.who) same, ap (λ (i : Item). Some i.count) same)

item_said : (n at : ℕ) (word actors : List ℕ) → item_reading n at word ≡ Ok actors → SaysItem n word actors
unfolding item_reading
item_said n at word actors is = by_item (item_of word) refl is where
  by_star : (o : Option ℕ) (it : Item) (once : List ℕ) → position is_star word ≡ o → with_star word o ≡ Some it → who_reading n at it.who ≡ Ok once → repeated it.count once ≡ actors → SaysItem n word actors
  by_star None it once e form named often =
      let (w, c) = counted_said (who_of word) (Some 1) it form in
      let one : repeated 1 once ≡ actors = ap (λ k. repeated k once) (same_Some 1 it.count c) ∙ often in
      inl (who_said n at word actors (it.who, w, named ∙ ap Ok (sym (append-nil once) ∙ one)))
  by_star (Some star) it once e form named often =
      let (w, c) = counted_said (who_of (take star word)) (count_of (drop (star + 1) word)) it form in
      let (written, low, high) = count_said (drop (star + 1) word) it.count c in
      inr (record {
        word = take star word;
        once = once;
        count = it.count;
        who = who_said n at (take star word) once (it.who, w, named);
        count_fits = (low, high);
        written = star_parts word star e ∙ ap (λ ds. take star word ++ 42 ∷ ds) written;
        often = sym often;
      })

  by_item : (o : Option Item) → item_of word ≡ o → form_reading n at o ≡ Ok actors → SaysItem n word actors
  by_item None e is = err_ok (Token at) actors is
  by_item (Some it) e is =
      let (once, named, last) = on_ok_said (who_reading n at it.who) (λ xs. Ok (repeated it.count xs)) actors is in
      by_star (position is_star word) it once refl e named (same_ok (repeated it.count once) actors last)

item_reads : (n at : ℕ) (word : List ℕ) (named : Who) (count : ℕ) (once actors : List ℕ) → item_of word ≡ Some (item_is named count) → who_reading n at named ≡ Ok once → repeated count once ≡ actors → item_reading n at word ≡ Ok actors
unfolding item_reading
item_reads n at word named count once actors form reading often =
    ap (form_reading n at) form ∙ on_ok_read (who_reading n at named) (λ xs. Ok (repeated count xs)) once actors reading (ap Ok often)

item_read : (n at : ℕ) (word actors : List ℕ) → n ≤ 65535 → SaysItem n word actors → item_reading n at word ≡ Ok actors
item_read n at word actors small (inl says) =
    let (named, there, reading) = who_read n at word actors small says in
    item_reads n at word named 1 actors actors (ap (with_star word) (star_none word (who_lacks is_star refl refl no_star n word actors small says)) ∙ ap (λ w. with_count w (Some 1)) there) reading (append-nil actors)
item_read n at word actors small (inr says) =
    let (named, there, reading) = who_read n at says.word says.once small says.who in
    let lacks = who_lacks is_star refl refl no_star n says.word says.once small says.who in
    let whole : List ℕ = says.word ++ 42 ∷ decimal says.count in
    let front : with_count (who_of (take (length says.word) whole)) (count_of (drop (length says.word + 1) whole)) ≡ Some (item_is named says.count) =
    ap (λ w. with_count (who_of w) (count_of (drop (length says.word + 1) whole))) (take_front says.word (42 ∷ decimal says.count))
    ∙ ap (λ c. with_count (who_of says.word) (count_of c)) (drop_front says.word 42 (decimal says.count))
    ∙ ap (λ w. with_count w (count_of (decimal says.count))) there ∙ ap (λ c. with_count (Some named) c) (count_read says.count says.count_fits.0 says.count_fits.1) in
    item_reads n at word named says.count says.once actors (ap item_of says.written ∙ (ap (with_star whole) (star_at says.word (decimal says.count) lacks) ∙ front)) reading (sym says.often)

-- an item has bytes, none of which is blank
item_lacks : (n : ℕ) (word actors : List ℕ) → n ≤ 65535 → SaysItem n word actors → Lacks is_blank word
item_lacks n word actors small (inl says) = who_lacks is_blank refl refl no_blank n word actors small says
item_lacks n word actors small (inr says) =
    subst (Lacks is_blank) (sym says.written)
    (All-append (λ x. is_blank x ≡ false) says.word (42 ∷ decimal says.count) (who_lacks is_blank refl refl no_blank n says.word says.once small says.who)
    (All-cons (λ x. is_blank x ≡ false) 42 (decimal says.count) refl (decimal_lacks is_blank no_blank says.count says.count_fits.1)))

bytes_there : (word : List ℕ) → 0 < length word → has_bytes word ≡ true
bytes_there [] some = absurd (omega (arith, some))
bytes_there (c ∷ cs) some = refl

bytes_after : (word more : List ℕ) (c : ℕ) → has_bytes (word ++ c ∷ more) ≡ true
bytes_after [] more c = refl
bytes_after (x ∷ xs) more c = refl

item_bytes : (n : ℕ) (word actors : List ℕ) → n ≤ 65535 → SaysItem n word actors → has_bytes word ≡ true
item_bytes n word actors small (inl (inl (e, same))) = ap has_bytes e
item_bytes n word actors small (inl (inr (k, few, e, same))) = ap has_bytes e ∙ bytes_there (decimal k) (decimal_nonempty k (omega (arith, small, few)))
item_bytes n word actors small (inr says) = ap has_bytes says.written ∙ bytes_after says.word (decimal says.count) 42

-- an item before others
first_item : (n at : ℕ) (word actors : List ℕ) (parts : List (List ℕ)) (more : List ℕ) → has_bytes word ≡ true → item_reading n at word ≡ Ok actors → all_actors n (items_from (at + length word + 1) parts) ≡ Ok more →
    all_actors n (items_from at (word ∷ parts)) ≡ Ok (actors ++ more)
first_item n at word actors parts more bytes reading rest =
    ap (λ b. all_actors n (cond b ((at, word) ∷ items_from (at + length word + 1) parts) (items_from (at + length word + 1) parts))) bytes
    ∙ on_ok_read (item_reading n at word) (λ xs. on_ok (λ ys. Ok (xs ++ ys)) (all_actors n (items_from (at + length word + 1) parts))) actors (actors ++ more) reading
    (on_ok_read (all_actors n (items_from (at + length word + 1) parts)) (λ ys. Ok (actors ++ ys)) more (actors ++ more) rest refl)

abbrev Reads : ℕ → List ℕ → List ℕ → Type 0
Reads n text actors = (at : ℕ) → all_actors n (items_from at (slice_split is_blank text)) ≡ Ok actors

item_before : (n : ℕ) (word actors text more : List ℕ) → n ≤ 65535 → SaysItem n word actors → BeginsApart text → Reads n text more → Reads n (word ++ text) (actors ++ more)
item_before n word actors [] more small says apart rest at =
    ap (λ parts. all_actors n (items_from at parts)) (ap (slice_split is_blank) (append-nil word) ∙ slice_split_none is_blank word (item_lacks n word actors small says))
    ∙ first_item n at word actors [] more (item_bytes n word actors small says) (item_read n at word actors small says) (rest at)
item_before n word actors (byte ∷ text) more small says apart rest at =
    let later : all_actors n (items_from (at + length word + 1) (slice_split is_blank text)) ≡ Ok more =
    ap (λ k. all_actors n (items_from k (slice_split is_blank text))) (omega arith)
    ∙ sym (ap (λ parts. all_actors n (items_from (at + length word) parts)) (slice_split-cons_yes is_blank byte text apart)) ∙ rest (at + length word) in
    ap (λ parts. all_actors n (items_from at parts)) (slice_split_at is_blank word byte text (item_lacks n word actors small says) apart)
    ∙ first_item n at word actors (slice_split is_blank text) more (item_bytes n word actors small says) (item_read n at word actors small says) later

all_read : (n : ℕ) (text actors : List ℕ) → n ≤ 65535 → SaysSchedule n text actors → Reads n text actors
all_read n _ _ small nothing at = refl
all_read n _ _ small (blank byte text actors is rest) at = ap (λ parts. all_actors n (items_from at parts)) (slice_split-cons_yes is_blank byte text is) ∙ all_read n text actors small rest (at + 0 + 1)
all_read n _ _ small (item word actors text more says apart rest) at = item_before n word actors text more small says apart (all_read n text more small rest) at

-- the parts of a text
data Splits : List ℕ → List (List ℕ) → Type 0 where
  last : (part : List ℕ) → Splits part (part ∷ [])
  next : (part : List ℕ) (byte : ℕ) (text : List ℕ) (parts : List (List ℕ)) → is_blank byte ≡ true → Splits text parts → Splits (part ++ byte ∷ text) (part ∷ parts)

splits_onto : (c : ℕ) (text : List ℕ) (parts : List (List ℕ)) → Splits text parts → Splits (c ∷ text) (onto_first c parts)
splits_onto c _ _ (last part) = last (c ∷ part)
splits_onto c _ _ (next part byte text parts is rest) = next (c ∷ part) byte text parts is rest

splits_of : (text : List ℕ) → Splits text (slice_split is_blank text)
splits_of [] = last []
splits_of (c ∷ text) = by_test (is_blank c) refl (splits_of text) where
  by_test : (b : Bool) → is_blank c ≡ b → Splits text (slice_split is_blank text) → Splits (c ∷ text) (cond b ([] ∷ slice_split is_blank text) (onto_first c (slice_split is_blank text)))
  by_test true e rest = next [] c text (slice_split is_blank text) e rest
  by_test false e rest = splits_onto c text (slice_split is_blank text) rest

record FirstSaid (n : ℕ) (word : List ℕ) (later : Result (List ℕ) ScheduleError) (actors : List ℕ) : Type 0 where
  said : List ℕ
  more : List ℕ
  item_says : SaysItem n word said
  rest : later ≡ Ok more
  whole : said ++ more ≡ actors

first_said : (n at : ℕ) (word : List ℕ) (later : Result (List ℕ) ScheduleError) (actors : List ℕ) → on_ok (λ xs. on_ok (λ ys. Ok (xs ++ ys)) later) (item_reading n at word) ≡ Ok actors → FirstSaid n word later actors
first_said n at word later actors is =
    let (said, there, more_is) = on_ok_said (item_reading n at word) (λ xs. on_ok (λ ys. Ok (xs ++ ys)) later) actors is in
    let (more, rest, last_is) = on_ok_said later (λ ys. Ok (said ++ ys)) actors more_is in
    record { said = said; more = more; item_says = item_said n at word said there; rest = rest; whole = same_ok (said ++ more) actors last_is }

all_said : (n at : ℕ) (text : List ℕ) (parts : List (List ℕ)) (actors : List ℕ) → Splits text parts → all_actors n (items_from at parts) ≡ Ok actors → SaysSchedule n text actors
all_said n at _ _ actors (last []) is = subst (SaysSchedule n []) (same_ok [] actors is) nothing
all_said n at _ _ actors (last (c ∷ cs)) is =
    let out = first_said n at (c ∷ cs) (Ok []) actors is in
    let whole : out.said ++ [] ≡ actors = ap (λ ys. out.said ++ ys) (same_ok [] out.more out.rest) ∙ out.whole in
    subst (λ text. SaysSchedule n text actors) (append-nil (c ∷ cs)) (subst (SaysSchedule n ((c ∷ cs) ++ [])) whole (item (c ∷ cs) out.said [] [] out.item_says tt nothing))
all_said n at _ _ actors (next [] byte text parts is_blank_byte rest) is = blank byte text actors is_blank_byte (all_said n (at + 0 + 1) text parts actors rest is)
all_said n at _ _ actors (next (c ∷ cs) byte text parts is_blank_byte rest) is =
    let after = at + length (c ∷ cs) + 1 in
    let out = first_said n at (c ∷ cs) (all_actors n (items_from after parts)) actors is in
    subst (SaysSchedule n ((c ∷ cs) ++ byte ∷ text)) out.whole
    (item (c ∷ cs) out.said (byte ∷ text) out.more out.item_says is_blank_byte (blank byte text out.more is_blank_byte (all_said n after text parts out.more rest out.rest)))

-- the laws
few_said : (n : ℕ) (text actors : List ℕ) → schedule_of n text ≡ Ok actors → (all_actors n (items_of text) ≡ Ok actors) × (length actors ≤ 4194304)
unfolding schedule_of
few_said n text actors is =
    let (all, there, last_is) = on_ok_said (all_actors n (items_of text)) not_too_long actors is in
    let (few, same) = if_ok (nat_le (length all) 4194304) all actors TooLong last_is in
    (there ∙ ap Ok same, subst (λ (xs : List ℕ). length xs ≤ 4194304) same (leb-true (length all) 4194304 few))

pub schedule_said : (n : ℕ) (text actors : List ℕ) → schedule_of n text ≡ Ok actors → SaysSchedule n text actors × (length actors ≤ 4194304)
schedule_said n text actors is =
    let (all, few) = few_said n text actors is in
    (all_said n 0 text (slice_split is_blank text) actors (splits_of text) all, few)

pub schedule_read : (n : ℕ) (text actors : List ℕ) → n ≤ 65535 → SaysSchedule n text actors → length actors ≤ 4194304 → schedule_of n text ≡ Ok actors
unfolding schedule_of
schedule_read n text actors small says few =
    on_ok_read (all_actors n (items_of text)) not_too_long actors actors (all_read n text actors small says 0) (ok_if (nat_le (length actors) 4194304) actors TooLong (le-leb (length actors) 4194304 few))

pub schedule_long : (n : ℕ) (text actors : List ℕ) → n ≤ 65535 → SaysSchedule n text actors → 4194304 < length actors → schedule_of n text ≡ Err TooLong
unfolding schedule_of
schedule_long n text actors small says many = ap (on_ok not_too_long) (all_read n text actors small says 0) ∙ ap (λ b. if b then Ok actors else Err TooLong) (too_many (length actors) many) where
  too_many : (k : ℕ) → 4194304 < k → nat_le k 4194304 ≡ false
  too_many k many = grind (arith, nat_tests)

-- Lists that grow by one element at the end.
use Rattle.std.proofs.Common.{◌≡◌, ◌<◌, ◌≤◌, All, eqb, ℕ, zero, suc, ◌+◌, ◌==◌, Bool, true, false, not, ◌&&◌, ◌||◌, List, [], ◌∷◌, ◌++◌, get_or, length, refl, ap, sym, subst, ◌∙◌, arith}
use Rattle.std.proofs.lemmas.Bool.{and_parts, false≢true}
use Rattle.std.specs.Cmp.{nat_eq_equiv}
use Rattle.std.specs.List.{IsDistinct, list_any, list_all, range_with_len}
use Rattle.std.proofs.lemmas.List.Elements.{All-from_get_or}
use Rattle.std.proofs.lemmas.List.FromFn.{get_or-range_with_len, length-range_with_len}
use Rattle.std.proofs.lemmas.Map.Keys.{IsDistinct-from_apart, IsDistinct-push}
use Rattle.std.proofs.lemmas.Bool.{ne_eqb}
use Rattle.cpu_table.specs.Distinct.{are_distinct}

and_both : (a b : Bool) → a ≡ true → b ≡ true → a && b ≡ true
and_both true b x y = y
and_both false b x y = x

pub or_neither : (a b : Bool) → a || b ≡ false → (a ≡ false) × (b ≡ false)
or_neither true b x = absurd (false≢true (sym x))
or_neither false b x = (refl, x)

neither_or : (a b : Bool) → a ≡ false → b ≡ false → a || b ≡ false
neither_or a b x y = rw (x, y)

pub not_false : (a : Bool) → not a ≡ true → a ≡ false
not_false true x = absurd (false≢true x)
not_false false x = refl

-- what holds of all holds with one more of which it holds
pub all_more : {A : Type 0} (p : A → Bool) (xs : List A) (x : A) → list_all p xs ≡ true → p x ≡ true → list_all p (xs ++ x ∷ []) ≡ true
all_more p [] x all one = and_both (p x) true one refl
all_more p (y ∷ ys) x all one =
    let (here, more) = and_parts (p y) (list_all p ys) all in
    and_both (p y) (list_all p (ys ++ x ∷ [])) here (all_more p ys x more one)

-- what holds of none holds of none with one more of which it doesn't hold
any_more : {A : Type 0} (p : A → Bool) (xs : List A) (x : A) → list_any p xs ≡ false → p x ≡ false → list_any p (xs ++ x ∷ []) ≡ false
any_more p [] x none one = neither_or (p x) false one refl
any_more p (y ∷ ys) x none one =
    let (here, more) = or_neither (p y) (list_any p ys) none in
    neither_or (p y) (list_any p (ys ++ x ∷ [])) here (any_more p ys x more one)

-- a new element leaves a list without two that are the same
pub distinct_more : {A : Type 0} (same : A → A → Bool) (xs : List A) (x : A) → are_distinct same xs ≡ true → list_any (λ y. same y x) xs ≡ false → are_distinct same (xs ++ x ∷ []) ≡ true
distinct_more same [] x distinct fresh = refl
distinct_more same (y ∷ ys) x distinct fresh =
    let (here, more) = and_parts (not (list_any (same y) ys)) (are_distinct same ys) distinct in
    let (apart, others) = or_neither (same y x) (list_any (λ z. same z x) ys) fresh in
    and_both (not (list_any (same y) (ys ++ x ∷ []))) (are_distinct same (ys ++ x ∷ []))
    (ap not (any_more (same y) ys x (not_false (list_any (same y) ys) here) apart))
    (distinct_more same ys x more others)

-- the numbers below a number, and that number
pub range_more : (a n : ℕ) → range_with_len a n ++ (a + n) ∷ [] ≡ range_with_len a (n + 1)
range_more a zero = ap (λ m. m ∷ []) (omega arith)
range_more a (suc n) =
    let next : a + suc n ≡ a + 1 + n = omega arith in
    let later : suc n + 1 ≡ suc (n + 1) = omega arith in
    ap (λ m. a ∷ (range_with_len (a + 1) n ++ m ∷ [])) next ∙ ap (λ xs. a ∷ xs) (range_more (a + 1) n) ∙ ap (λ m. range_with_len a m) (sym later)

-- from 0 on
pub numbers_more : (n : ℕ) → range_with_len 0 n ++ n ∷ [] ≡ range_with_len 0 (n + 1)
numbers_more n =
    let same : n ≡ 0 + n = omega arith in
    ap (λ m. range_with_len 0 n ++ m ∷ []) same ∙ range_more 0 n

pub none_distinct : IsDistinct eqb []
unfolding IsDistinct
none_distinct = tt

-- one more number keeps numbers distinct where none before it is the same
either_way : (xs : List ℕ) (y : ℕ) → list_any (eqb y) xs ≡ list_any (λ x. x == y) xs
either_way [] y = refl
either_way (x ∷ xs) y = ap (λ b. b || list_any (eqb y) xs) (nat_eq_equiv.symm y x) ∙ ap (λ b. (x == y) || b) (either_way xs y)

pub numbers_distinct_more : (xs : List ℕ) (y : ℕ) → IsDistinct eqb xs → list_any (λ x. x == y) xs ≡ false → IsDistinct eqb (xs ++ y ∷ [])
numbers_distinct_more xs y distinct fresh = IsDistinct-push nat_eq_equiv xs y distinct (either_way xs y ∙ fresh)

-- the numbers below a number are so many, and no two the same
pub numbers_count : (xs : List ℕ) (n : ℕ) → xs ≡ range_with_len 0 n → length xs ≡ n
numbers_count xs n is = ap length is ∙ length-range_with_len 0 n

apart_at : (n i j d : ℕ) → i < j → j < length (range_with_len 0 n) → eqb (get_or (range_with_len 0 n) i d) (get_or (range_with_len 0 n) j d) ≡ false
apart_at n i j d less within =
    let count = length-range_with_len 0 n in
    let first : get_or (range_with_len 0 n) i d ≡ 0 + i = get_or-range_with_len 0 n i d (omega (arith, less, within, count)) in
    let second : get_or (range_with_len 0 n) j d ≡ 0 + j = get_or-range_with_len 0 n j d (omega (arith, within, count)) in
    ne_eqb (get_or (range_with_len 0 n) i d) (get_or (range_with_len 0 n) j d) (λ same. omega (arith, first, second, same, less))

pub numbers_distinct : (xs : List ℕ) (n : ℕ) → xs ≡ range_with_len 0 n → IsDistinct eqb xs
numbers_distinct xs n is = subst (λ (ys : List ℕ). IsDistinct eqb ys) (sym is) (IsDistinct-from_apart eqb (range_with_len 0 n) (apart_at n))

-- and each is below it
pub numbers_small : (xs : List ℕ) (n limit : ℕ) → n ≤ limit → xs ≡ range_with_len 0 n → All (λ x. x < limit) xs
numbers_small xs n limit few is =
    subst (λ (ys : List ℕ). All (λ x. x < limit) ys) (sym is) (All-from_get_or (λ x. x < limit) (range_with_len 0 n) 0 (λ i within. small_at i within)) where
      small_at : (i : ℕ) → i < length (range_with_len 0 n) → get_or (range_with_len 0 n) i 0 < limit
      small_at i within =
          let count = length-range_with_len 0 n in
          let value : get_or (range_with_len 0 n) i 0 ≡ 0 + i = get_or-range_with_len 0 n i 0 (omega (arith, within, count)) in
          omega (arith, value, within, count, few)

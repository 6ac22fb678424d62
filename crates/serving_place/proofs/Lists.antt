-- Loops over lists: the last item of a kind, how many pass, and the handlers that were registered so far.
use Rattle.std.proofs.Common.{◌≡◌, ◌<◌, ◌≤◌, ◌+◌, ◌++◌, ℕ, suc, Bool, true, false, List, [], ◌∷◌, length, reverse, drop, get_or, Option, Some, None, refl, sym, ap, ◌∙◌, arith, cond, not, inl, inr, add-one}
use Rattle.std.proofs.Math.Seq.{drop-cons}
use Rattle.std.proofs.lemmas.List.{reverse-append, drop_all, append-nil}
use Rattle.std.proofs.lemmas.List.Elements.{filter-append}
use Rattle.std.proofs.lemmas.Bool.{lt-ltb, le-ltb, cases_lt}
use Rattle.std.specs.Prelude.{option_map, position, nat_lt}
use Rattle.std.specs.List.{find, filter, position_or_len}
use Rattle.cpu_table.specs.declared.handlers.HandlerDef.{HandlerDef}
use Rattle.handler_registry.specs.Registrations.{Registrations}
use Rattle.serving_place.specs.Serving.{Seat, owes_token, owner}
use Rattle.serving_place.specs.Beginning.{registered_if, registered_from}

pub drop_step : {A : Type 0} (xs : List A) (i : ℕ) (d : A) → i < length xs → drop i xs ≡ get_or xs i d ∷ drop (i + 1) xs
drop_step xs i d h = drop-cons xs i d h ∙ ap (λ n. get_or xs i d ∷ drop n xs) (sym (add-one i))

-- this one, or where there is none the other
abbrev pub first_of : {A : Type 0} → Option A → Option A → Option A
first_of None o = o
first_of (Some x) o = Some x

abbrev pub passing : {A : Type 0} → Bool → A → Option A
passing true x = Some x
passing false x = None

-- the last item that passes, or what was found before
abbrev pub last_from : {A : Type 0} → (A → Bool) → Option A → List A → Option A
last_from p found [] = found
last_from p found (x ∷ xs) = last_from p (first_of (passing (p x) x) found) xs

first_of_assoc : {A : Type 0} (a b c : Option A) → first_of a (first_of b c) ≡ first_of (first_of a b) c
first_of_assoc None b c = refl
first_of_assoc (Some x) b c = refl

first_of_none : {A : Type 0} (a : Option A) → first_of a None ≡ a
first_of_none None = refl
first_of_none (Some x) = refl

find_one : {A : Type 0} (p : A → Bool) (x : A) → find p (x ∷ []) ≡ passing (p x) x
find_one p x = by_test (p x) refl
  where
    by_test : (b : Bool) → p x ≡ b → find p (x ∷ []) ≡ passing b x
    by_test true e = rw e refl
    by_test false e = rw e refl

find_append : {A : Type 0} (p : A → Bool) (xs ys : List A) → find p (xs ++ ys) ≡ first_of (find p xs) (find p ys)
find_append p [] ys = refl
find_append p (x ∷ xs) ys = by_test (p x) refl (find_append p xs ys)
  where
    by_test : (b : Bool) → p x ≡ b → find p (xs ++ ys) ≡ first_of (find p xs) (find p ys) → find p (x ∷ xs ++ ys) ≡ first_of (find p (x ∷ xs)) (find p ys)
    by_test true e h = rw e refl
    by_test false e h = rw e h

pub last_is : {A : Type 0} (p : A → Bool) (found : Option A) (xs : List A) → last_from p found xs ≡ first_of (find p (reverse xs)) found
last_is p found [] = refl
last_is p found (x ∷ xs) =
    last_is p (first_of (passing (p x) x) found) xs
    ∙ first_of_assoc (find p (reverse xs)) (passing (p x) x) found
    ∙ ap (λ o. first_of o found)
    (ap (first_of (find p (reverse xs))) (sym (find_one p x)) ∙ sym (find_append p (reverse xs) (x ∷ [])) ∙ ap (find p) (sym (reverse-append (x ∷ []) xs)))

pub last_whole : {A : Type 0} (p : A → Bool) (xs : List A) → last_from p None xs ≡ find p (reverse xs)
last_whole p xs = last_is p None xs ∙ first_of_none (find p (reverse xs))

-- one step
pub last_step : {A : Type 0} (p : A → Bool) (found next : Option A) (xs : List A) (i : ℕ) (d : A) → i < length xs → next ≡ cond (p (get_or xs i d)) (Some (get_or xs i d)) found
    → last_from p next (drop (i + 1) xs) ≡ last_from p found (drop i xs)
last_step p found next xs i d h n =
    ap (λ o. last_from p o (drop (i + 1) xs)) (n ∙ by_test (p (get_or xs i d))) ∙ sym (ap (last_from p found) (drop_step xs i d h))
  where
    by_test : (b : Bool) → cond b (Some (get_or xs i d)) found ≡ first_of (passing b (get_or xs i d)) found
    by_test true = refl
    by_test false = refl

-- how many of the items that are left pass
pub count_step : {A : Type 0} (p : A → Bool) (xs : List A) (i : ℕ) (d : A) (b : Bool) (n : ℕ) → i < length xs → b ≡ p (get_or xs i d) → n ≡ cond b 1 0
    → length (filter p (drop i xs)) ≡ n + length (filter p (drop (i + 1) xs))
count_step p xs i d b n h t e = ap (λ ys. length (filter p ys)) (drop_step xs i d h) ∙ by_test b (sym t) ∙ ap (λ m. m + length (filter p (drop (i + 1) xs))) (sym e)
  where
    by_test : (b : Bool) → p (get_or xs i d) ≡ b → length (filter p (get_or xs i d ∷ drop (i + 1) xs)) ≡ cond b 1 0 + length (filter p (drop (i + 1) xs))
    by_test true t = rw t (omega arith)
    by_test false t = rw t (omega arith)

lt_suc : (a b : ℕ) → nat_lt (suc a) (suc b) ≡ nat_lt a b
lt_suc a b = elim (cases_lt a b) [
  | inl h ↦ rw (lt-ltb a b h, lt-ltb (suc a) (suc b) (omega (arith, h))) refl
  | inr h ↦ rw (le-ltb a b h, le-ltb (suc a) (suc b) (omega (arith, h))) refl
]

shifted : (b : Bool) (m : ℕ) → option_map suc (cond b (Some m) None) ≡ cond b (Some (suc m)) None
shifted true m = refl
shifted false m = refl

pub owner_is : (job : ℕ) (qs : List Seat) → owner job qs ≡ position (owes_token job) qs
owner_is job [] = refl
owner_is job (q ∷ qs) = at_test (owes_token job q) (owner_is job qs)
  where
    m : ℕ
    m = position_or_len (owes_token job) qs

    one : suc m ≡ 1 + m
    one = omega arith

    at_test : (b : Bool) → owner job qs ≡ position (owes_token job) qs
        → cond b (Some 0) (option_map suc (owner job qs)) ≡ cond (nat_lt (cond (not b) (1 + m) 0) (suc (length qs))) (Some (cond (not b) (1 + m) 0)) None
    at_test true h = rw (lt-ltb 0 (suc (length qs)) (omega arith)) refl
    at_test false h = ap (option_map suc) h ∙ shifted (nat_lt m (length qs)) m ∙ ap (λ b. cond b (Some (suc m)) None) (sym (lt_suc m (length qs)))
        ∙ ap (λ k. cond (nat_lt k (suc (length qs))) (Some k) None) one

-- one handler more of the file
pub registered_step : (g next : Registrations) (ds : List HandlerDef) (h : ℕ) (x : HandlerDef) → h < length ds → x ≡ get_or ds h x → next ≡ registered_if x.kind h g
    → registered_from (h + 1) (drop (h + 1) ds) next ≡ registered_from h (drop h ds) g
registered_step g next ds h x a e n =
    ap (registered_from (h + 1) (drop (h + 1) ds)) n
    ∙ sym (ap (λ xs. registered_from h xs g) (drop_step ds h x a ∙ ap (λ y. y ∷ drop (h + 1) ds) (sym e)))

pub registered_all : (g : Registrations) (ds : List HandlerDef) (h : ℕ) → length ds ≤ h → registered_from h (drop h ds) g ≡ g
registered_all g ds h a = ap (λ xs. registered_from h xs g) (drop_all h ds a)

pub last_all : {A : Type 0} (p : A → Bool) (found : Option A) (xs : List A) (i : ℕ) → length xs ≤ i → last_from p found (drop i xs) ≡ found
last_all p found xs i a = ap (last_from p found) (drop_all i xs a)

pub count_all : {A : Type 0} (p : A → Bool) (xs : List A) (i : ℕ) → length xs ≤ i → length (filter p (drop i xs)) ≡ 0
count_all p xs i a = ap (λ ys. length (filter p ys)) (drop_all i xs a)

pub filter_reverse : {A : Type 0} (p : A → Bool) (xs : List A) → filter p (reverse xs) ≡ reverse (filter p xs)
filter_reverse p [] = refl
filter_reverse p (x ∷ xs) =
    ap (filter p) (reverse-append (x ∷ []) xs)
    ∙ filter-append p (reverse xs) (x ∷ [])
    ∙ ap (λ zs. zs ++ filter p (x ∷ [])) (filter_reverse p xs)
    ∙ at_test (p x)
  where
    at_test : (b : Bool) → reverse (filter p xs) ++ cond b (x ∷ []) [] ≡ reverse (cond b (x ∷ filter p xs) (filter p xs))
    at_test true = sym (reverse-append (x ∷ []) (filter p xs))
    at_test false = append-nil _

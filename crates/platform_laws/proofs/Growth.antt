-- What fits element by element fits as a whole, and the other way round.
use Rattle.std.proofs.Common.{◌≡◌, ℕ, ◌≤◌, Bool, true, false, not, ◌||◌, List, [], ◌∷◌, ◌++◌, length, Option, Some, None, Ok, refl, ap, sym, subst, ◌∙◌, arith}
use Rattle.std.specs.Prelude.{MatchOption}
use Rattle.std.specs.List.{list_any, list_all}
use Rattle.std.proofs.lemmas.Bool.{and_parts, and_from, false≢true}
use Rattle.cpu_table.specs.Distinct.{are_distinct}
use Rattle.toml.specs.Data.{Data, Members}
use Rattle.platform_document.specs.declared.path.Path.{Path}
use Rattle.platform_document.specs.Path.{key_text}
use Rattle.platform_document.specs.Reading.{Reading, read_then, data_list, list_of, list_at, entries_of, each}
use Rattle.platform_laws.specs.Values.{IsListOf, SaysList}
use Rattle.platform_laws.proofs.Readings.{split, joined, same_ok, list_value_said, list_value_read, list_said, list_read}
use Rattle.platform_laws.proofs.Lists.{EachFits, each_said, each_read, each_count}

pub each_all : {A : Type 0} (Fit : List A → A → Type 0) (p : A → Bool) → ((done : List A) (x : A) → Fit done x → p x ≡ true) → (xs done : List A) → EachFits Fit done xs → list_all p xs ≡ true
each_all Fit p one [] done fits = refl
each_all Fit p one (x ∷ xs) done fits = and_from (p x) (list_all p xs) (one done x fits.0) (each_all Fit p one xs (done ++ x ∷ []) fits.1)

pub each_any : {A : Type 0} (xs done : List A) → EachFits (λ d x. Unit {0}) done xs
each_any [] done = tt
each_any (x ∷ xs) done = (tt, each_any xs (done ++ x ∷ []))

pub all_true : {A : Type 0} (xs : List A) → list_all (λ x. true) xs ≡ true
all_true [] = refl
all_true (x ∷ xs) = all_true xs

or_neither : (a b : Bool) → a || b ≡ false → (a ≡ false) × (b ≡ false)
or_neither true b x = absurd (false≢true (sym x))
or_neither false b x = (refl, x)

neither_or : (a b : Bool) → a ≡ false → b ≡ false → a || b ≡ false
neither_or a b x y = ap (λ c. c || b) x ∙ y

not_false : (a : Bool) → not a ≡ true → a ≡ false
not_false true x = absurd (false≢true x)
not_false false x = refl

-- one more at the end
pub any_more : {A : Type 0} (p : A → Bool) (xs : List A) (x : A) (more : List A) → list_any p (xs ++ x ∷ more) ≡ false → (list_any p (xs ++ more) ≡ false) × (p x ≡ false)
any_more p [] x more none = let (here, rest) = or_neither (p x) (list_any p more) none in (rest, here)
any_more p (y ∷ ys) x more none =
    let (here, rest) = or_neither (p y) (list_any p (ys ++ x ∷ more)) none in
    let (others, last) = any_more p ys x more rest in
    (neither_or (p y) (list_any p (ys ++ more)) here others, last)

pub any_with : {A : Type 0} (p : A → Bool) (xs : List A) (x : A) → list_any p xs ≡ false → p x ≡ false → list_any p (xs ++ x ∷ []) ≡ false
any_with p [] x none one = neither_or (p x) false one refl
any_with p (y ∷ ys) x none one =
    let (here, rest) = or_neither (p y) (list_any p ys) none in
    neither_or (p y) (list_any p (ys ++ x ∷ [])) here (any_with p ys x rest one)

pub distinct_with : {A : Type 0} (same : A → A → Bool) (xs : List A) (x : A) → are_distinct same xs ≡ true → list_any (λ y. same y x) xs ≡ false → are_distinct same (xs ++ x ∷ []) ≡ true
distinct_with same [] x distinct fresh = refl
distinct_with same (y ∷ ys) x distinct fresh =
    let (here, more) = and_parts (not (list_any (same y) ys)) (are_distinct same ys) distinct in
    let (apart, others) = or_neither (same y x) (list_any (λ z. same z x) ys) fresh in
    and_from (not (list_any (same y) (ys ++ x ∷ []))) (are_distinct same (ys ++ x ∷ []))
    (ap not (any_with (same y) ys x (not_false (list_any (same y) ys) here) apart))
    (distinct_with same ys x more others)

one_before : {A : Type 0} (xs : List A) (y : A) (ys : List A) → (xs ++ y ∷ []) ++ ys ≡ xs ++ y ∷ ys
one_before [] y ys = refl
one_before (x ∷ xs) y ys = ap (λ zs. x ∷ zs) (one_before xs y ys)

nil_after : {A : Type 0} (xs : List A) → xs ++ [] ≡ xs
nil_after [] = refl
nil_after (x ∷ xs) = ap (λ ys. x ∷ ys) (nil_after xs)

pub each_distinct : {A : Type 0} (Fit : List A → A → Type 0) (same : A → A → Bool) → ((done : List A) (x : A) → Fit done x → list_any (λ y. same y x) done ≡ false) →
    (xs done : List A) → are_distinct same done ≡ true → EachFits Fit done xs → are_distinct same (done ++ xs) ≡ true
each_distinct Fit same one [] done distinct fits = ap (are_distinct same) (nil_after done) ∙ distinct
each_distinct Fit same one (x ∷ xs) done distinct fits =
    ap (are_distinct same) (sym (one_before done x xs)) ∙ each_distinct Fit same one xs (done ++ x ∷ []) (distinct_with same done x distinct (one done x fits.0)) fits.1

-- an element is the same as none before it
fresh_at : {A : Type 0} (same : A → A → Bool) (done : List A) (x : A) (xs : List A) → are_distinct same (done ++ x ∷ xs) ≡ true → list_any (λ y. same y x) done ≡ false
fresh_at same [] x xs distinct = refl
fresh_at same (y ∷ ys) x xs distinct =
    let (here, more) = and_parts (not (list_any (same y) (ys ++ x ∷ xs))) (are_distinct same (ys ++ x ∷ xs)) distinct in
    neither_or (same y x) (list_any (λ z. same z x) ys) ((any_more (same y) ys x xs (not_false (list_any (same y) (ys ++ x ∷ xs)) here)).1) (fresh_at same ys x xs more)

pub each_both : {A : Type 0} (p q : A → Bool) (xs done : List A) → list_all p xs ≡ true → list_all q xs ≡ true → EachFits (λ d x. (p x ≡ true) × (q x ≡ true)) done xs
each_both p q [] done ps qs = tt
each_both p q (x ∷ xs) done ps qs =
    let (p_here, p_more) = and_parts (p x) (list_all p xs) ps in
    let (q_here, q_more) = and_parts (q x) (list_all q xs) qs in
    ((p_here, q_here), each_both p q xs (done ++ x ∷ []) p_more q_more)

pub each_one : {A : Type 0} (p : A → Bool) (xs done : List A) → list_all p xs ≡ true → EachFits (λ d x. p x ≡ true) done xs
each_one p [] done ps = tt
each_one p (x ∷ xs) done ps = let (here, more) = and_parts (p x) (list_all p xs) ps in (here, each_one p xs (done ++ x ∷ []) more)

pub each_apart : {A : Type 0} (p q : A → Bool) (same : A → A → Bool) (xs done : List A) → list_all p xs ≡ true → list_all q xs ≡ true → are_distinct same (done ++ xs) ≡ true →
    EachFits (λ d x. (p x ≡ true) × (q x ≡ true) × (list_any (λ y. same y x) d ≡ false)) done xs
each_apart p q same [] done ps qs distinct = tt
each_apart p q same (x ∷ xs) done ps qs distinct =
    let (p_here, p_more) = and_parts (p x) (list_all p xs) ps in
    let (q_here, q_more) = and_parts (q x) (list_all q xs) qs in
    ((p_here, q_here, fresh_at same done x xs distinct), each_apart p q same xs (done ++ x ∷ []) p_more q_more (ap (are_distinct same) (one_before done x xs) ∙ distinct))

-- a list value whose elements are read
pub record IsRead {A : Type 0} (Says : Data → A → Type 0) (Fit : List A → A → Type 0) (first last : ℕ) (v : Data) (entries : List Data) (all : List A) : Type 0 where
  pub says : IsListOf Says all v
  pub low : first ≤ length all
  pub high : length all ≤ last
  pub count : length entries ≡ length all
  pub fits : EachFits Fit [] all

pub value_said : {A : Type 0} (path : Path) (first last : ℕ) (v : Data) (read : List A → Data → Reading A) (Says : Data → A → Type 0) (Fit : List A → A → Type 0) →
    ((done : List A) (w : Data) (x : A) → read done w ≡ Ok x → Says w x × Fit done x) →
    (entries : List Data) (all : List A) → list_of path first last v ≡ Ok entries → each read [] entries ≡ Ok all → IsRead Says Fit first last v entries all
value_said {A = A} path first last v read Says Fit one entries all there is =
    let (items, kind, same, low, high) = list_value_said path first last v entries there in
    let (xs, whole, says, fits) = each_said read Says Fit one items [] all (ap (each read []) same ∙ is) in
    let count = each_count Says items xs says in
    let P : List A → Type 0 = λ ys. IsRead Says Fit first last v entries ys in
    subst P (sym whole) (record {
      says = (items, kind, says);
      low = subst (λ (n : ℕ). first ≤ n) count low;
      high = subst (λ (n : ℕ). n ≤ last) count high;
      count = ap length (sym same) ∙ count;
      fits = fits;
    })

pub list_each_said : {A : Type 0} (path : Path) (first last : ℕ) (t : Members) (read : List A → Data → Reading A) (Says : Data → A → Type 0) (Fit : List A → A → Type 0) →
    ((done : List A) (w : Data) (x : A) → read done w ≡ Ok x → Says w x × Fit done x) →
    (all : List A) → read_then (list_at path first last t) (each read []) ≡ Ok all → SaysList Says t (key_text path.key) all × (first ≤ length all) × (length all ≤ last) × EachFits Fit [] all
list_each_said path first last t read Says Fit one all is =
    let (entries, there, rest) = split (list_at path first last t) (each read []) all is in
    let (v, member, value) = list_said path first last t entries there in
    let found = value_said path first last v read Says Fit one entries all value rest in
    ((v, member, found.says), found.low, found.high, found.fits)

pub value_read : {A : Type 0} (path : Path) (first last : ℕ) (v : Data) (read : List A → Data → Reading A) (Says : Data → A → Type 0) (Fit : List A → A → Type 0) →
    ((done : List A) (w : Data) (x : A) → Says w x → Fit done x → read done w ≡ Ok x) →
    (all : List A) → IsListOf Says all v → first ≤ length all → length all ≤ last → EachFits Fit [] all →
    (entries : List Data) × (list_of path first last v ≡ Ok entries) × (each read [] entries ≡ Ok all)
value_read path first last v read Says Fit one all (items, kind, says) low high fits =
    let count = sym (each_count Says items all says) in
    (data_list items, list_value_read path first last v items kind (subst (λ (n : ℕ). first ≤ n) count low) (subst (λ (n : ℕ). n ≤ last) count high), each_read read Says Fit one items [] all says fits)

pub list_each_read : {A : Type 0} (path : Path) (first last : ℕ) (t : Members) (read : List A → Data → Reading A) (Says : Data → A → Type 0) (Fit : List A → A → Type 0) →
    ((done : List A) (w : Data) (x : A) → Says w x → Fit done x → read done w ≡ Ok x) →
    (all : List A) → SaysList Says t (key_text path.key) all → first ≤ length all → length all ≤ last → EachFits Fit [] all → read_then (list_at path first last t) (each read []) ≡ Ok all
list_each_read path first last t read Says Fit one all (v, member, says) low high fits =
    let (entries, there, rest) = value_read path first last v read Says Fit one all says low high fits in
    joined (list_at path first last t) (each read []) entries all (list_read path first last t entries v member there) rest

-- a list of tables that may be missing
pub record AreEntries {A : Type 0} (path : Path) (last : ℕ) (o : Option Data) (Says : List Data → Data → A → Type 0) (Fit : List Data → List A → A → Type 0) (all : List A) : Type 0 where
  pub entries : List Data
  pub listed : entries_of path last o ≡ Ok entries
  pub says : MatchOption o (all ≡ []) (IsListOf (Says entries) all)
  pub few : length all ≤ last
  pub count : length entries ≡ length all
  pub fits : EachFits (Fit entries) [] all

pub entries_said : {A : Type 0} (path : Path) (last : ℕ) (o : Option Data) (read : List Data → List A → Data → Reading A) (Says : List Data → Data → A → Type 0) (Fit : List Data → List A → A → Type 0) →
    ((entries : List Data) (done : List A) (w : Data) (x : A) → read entries done w ≡ Ok x → Says entries w x × Fit entries done x) →
    (all : List A) → read_then (entries_of path last o) (λ entries. each (read entries) [] entries) ≡ Ok all → AreEntries path last o Says Fit all
entries_said {A = A} path last None read Says Fit one all is =
    let P : List A → Type 0 = λ ys. AreEntries path last None Says Fit ys in
    subst P (same_ok [] all is) (record { entries = []; listed = refl; says = refl; few = omega arith; count = refl; fits = tt })
entries_said path last (Some v) read Says Fit one all is =
    let (entries, there, rest) = split (list_of path 0 last v) (λ es. each (read es) [] es) all is in
    let found = value_said path 0 last v (read entries) (Says entries) (Fit entries) (one entries) entries all there rest in
    record { entries = entries; listed = there; says = found.says; few = found.high; count = found.count; fits = found.fits }

pub entries_read : {A : Type 0} (path : Path) (last : ℕ) (o : Option Data) (read : List Data → List A → Data → Reading A) (Says : Data → A → Type 0) (Fit : List A → A → Type 0) (all : List A) →
    ((entries : List Data) → entries_of path last o ≡ Ok entries → (done : List A) (w : Data) (x : A) → Says w x → Fit done x → read entries done w ≡ Ok x) →
    MatchOption o (all ≡ []) (IsListOf Says all) → length all ≤ last → EachFits Fit [] all → read_then (entries_of path last o) (λ entries. each (read entries) [] entries) ≡ Ok all
entries_read path last None read Says Fit all one says few fits = ap Ok (sym says)
entries_read path last (Some v) read Says Fit all one (items, kind, says) few fits =
    let count = sym (each_count Says items all says) in
    let there = list_value_read path 0 last v items kind (omega arith) (subst (λ (n : ℕ). n ≤ last) count few) in
    joined (list_of path 0 last v) (λ es. each (read es) [] es) (data_list items) all there
    (each_read (read (data_list items)) Says Fit (one (data_list items) there) items [] all says fits)

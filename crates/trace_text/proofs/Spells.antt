-- A reader of texts that is exact: what it reads has this text, and the text of each value is read as it.
use Rattle.std.proofs.Common.{◌≡◌, ℕ, Bool, true, false, List, [], ◌∷◌, ◌++◌, Option, Some, None, option_map, option_and_then, refl, ap, sym, subst, ◌∙◌, append-nil, if◌then◌else◌}
use Rattle.std.specs.Str.{bytes_eq}
use Rattle.std.proofs.lemmas.Bool.{false_from_ne_true}
use Rattle.std.proofs.lemmas.Option.{none-some, same_Some, cond_some, option_and_then_some}
use Rattle.std.proofs.lemmas.Slice.Eq.{bytes_eq-Decides}
use Rattle.trace_text.specs.Readings.{tested, split_first, pair_in, pair_at}
use Rattle.trace_text.proofs.Splits.{Lacks, split_whole, split_gives}

pub record Spells {V : Type 0} (fits : V → Type 0) (text : V → List ℕ) (read : List ℕ → Option V) : Type 0 where
  pub said : (w : List ℕ) (v : V) → read w ≡ Some v → fits v × (w ≡ text v)
  pub gives : (v : V) → fits v → read (text v) ≡ Some v

-- the same values, told otherwise
pub refitted : {V : Type 0} {fits other : V → Type 0} {text : V → List ℕ} {read : List ℕ → Option V} → Spells fits text read → ((v : V) → fits v → other v) → ((v : V) → other v → fits v) →
    Spells other text read
refitted spells to from = record {
  said = λ w v is. let (fit, same) = spells.said w v is in (to v fit, same);
  gives = λ v fit. spells.gives v (from v fit);
}

-- what is read, where it passes a test
pub tested_some : {V : Type 0} (test : V → Bool) (o : Option V) (v : V) → tested test o ≡ Some v → (o ≡ Some v) × (test v ≡ true)
tested_some test None v is = absurd (none-some v is)
tested_some test (Some a) v is =
    let (passes, same) = cond_some (test a) a v is in
    (ap Some same, subst (λ x. test x ≡ true) same passes)

pub tested_gives : {V : Type 0} (test : V → Bool) (o : Option V) (v : V) → o ≡ Some v → test v ≡ true → tested test o ≡ Some v
tested_gives test o v is passes = ap (tested test) is ∙ ap (λ b. if b then Some v else None) passes

pub spells_tested : {V : Type 0} {fits : V → Type 0} {text : V → List ℕ} {read : List ℕ → Option V} (test : V → Bool) → Spells fits text read →
    Spells (λ v. fits v × (test v ≡ true)) text (λ w. tested test (read w))
spells_tested {read = read} test spells = record {
  said = λ w v is.
      let (reads, passes) = tested_some test (read w) v is in
      let (fit, same) = spells.said w v reads in
      ((fit, passes), same);
  gives = λ v fit. tested_gives test _ v (spells.gives v fit.0) fit.1;
}

-- a text of nothing behind it
pub trailing : {V : Type 0} {fits : V → Type 0} {text : V → List ℕ} {read : List ℕ → Option V} → Spells fits text read → Spells fits (λ v. text v ++ []) read
trailing {text = text} {read = read} spells = record {
  said = λ w v is. let (fit, same) = spells.said w v is in (fit, same ∙ sym (append-nil (text v)));
  gives = λ v fit. ap read (append-nil (text v)) ∙ spells.gives v fit;
}

-- a value that is made of what is read
pub map_some : {A B P : Type 0} (f : A → B) (o : Option A) (b : B) → option_map f o ≡ Some b → ((a : A) → o ≡ Some a → f a ≡ b → P) → P
map_some f None b is next = absurd (none-some b is)
map_some f (Some a) b is next = next a refl (same_Some (f a) b is)

-- two parts with a separator between, which the first has not
pub pairs : {A B : Type 0} {fits_first : A → Type 0} {first : A → List ℕ} {read_first : List ℕ → Option A} {fits_second : B → Type 0} {second : B → List ℕ} {read_second : List ℕ → Option B}
    (separator : ℕ) → ((a : A) → fits_first a → Lacks separator (first a)) → Spells fits_first first read_first → Spells fits_second second read_second →
    Spells (λ p. fits_first p.0 × fits_second p.1) (λ p. first p.0 ++ separator ∷ second p.1) (pair_at separator read_first read_second)
pairs {A = A} {B = B} {fits_first = fits_first} {first = first} {read_first = read_first} {fits_second = fits_second} {second = second} {read_second = read_second} separator lacks one two = record {
  said = pair_said;
  gives = λ p fit. pair_gives p.0 p.1 fit.0 fit.1;
} where
  pair_said : (w : List ℕ) (p : A × B) → pair_at separator read_first read_second w ≡ Some p → (fits_first p.0 × fits_second p.1) × (w ≡ first p.0 ++ separator ∷ second p.1)
  pair_said w p is =
      option_and_then_some (λ texts. option_and_then (λ a. option_map (λ b. (a, b)) (read_second texts.1)) (read_first texts.0)) (split_first separator w) p is (λ texts split is.
      option_and_then_some (λ a. option_map (λ b. (a, b)) (read_second texts.1)) (read_first texts.0) p is (λ a reads is.
      map_some (λ b. (a, b)) (read_second texts.1) p is (λ b reads_too same.
      let (fit, front) = one.said texts.0 a reads in
      let (fit_too, back) = two.said texts.1 b reads_too in
      subst (λ q. (fits_first q.0 × fits_second q.1) × (w ≡ first q.0 ++ separator ∷ second q.1)) same
      ((fit, fit_too), split_whole separator w texts.0 texts.1 split ∙ (λ i. front i ++ separator ∷ back i)))))

  pair_gives : (a : A) (b : B) → fits_first a → fits_second b → pair_at separator read_first read_second (first a ++ separator ∷ second b) ≡ Some (a, b)
  pair_gives a b fit fit_too =
      ap (pair_in read_first read_second) (split_gives separator (first a) (second b) (lacks a fit))
      ∙ ap (option_and_then (λ x. option_map (λ y. (x, y)) (read_second (second b)))) (one.gives a fit)
      ∙ ap (option_map (λ y. (a, y))) (two.gives b fit_too)

-- a word that is the next one of a list, or one of the rest
pub word_case : {A : Type 0} (text w : List ℕ) (a b : A) (rest : Option A) (P : A → Type 0) → (if bytes_eq text w then Some a else rest) ≡ Some b → (text ≡ w → P a) → (rest ≡ Some b → P b) → P b
word_case {A = A} text w a b rest P is here later = by_test (bytes_eq text w) refl is where
  by_test : (t : Bool) → bytes_eq text w ≡ t → (if t then Some a else rest) ≡ Some b → P b
  by_test true e is = subst P (same_Some a b is) (here ((bytes_eq-Decides text w).0 e))
  by_test false e is = later is

-- a word with fields that is the next one of a list, or one of the rest
pub fields_case : {A V : Type 0} {fits : V → Type 0} {spelled : V → List ℕ} {read : List ℕ → Option V} (text w fields : List ℕ) (make : V → A) (b : A) (rest : Option A) (P : A → Type 0) →
    Spells fits spelled read → (if bytes_eq text w then option_map make (read fields) else rest) ≡ Some b → ((v : V) → fits v → text ≡ w → fields ≡ spelled v → P (make v)) → (rest ≡ Some b → P b) → P b
fields_case {A = A} {read = read} text w fields make b rest P spells is here later = by_test (bytes_eq text w) refl is where
  by_test : (t : Bool) → bytes_eq text w ≡ t → (if t then option_map make (read fields) else rest) ≡ Some b → P b
  by_test true e is =
      map_some make (read fields) b is (λ v reads same.
      let (fit, behind) = spells.said fields v reads in
      subst P same (here v fit ((bytes_eq-Decides text w).0 e) behind))
  by_test false e is = later is

-- a word that is none of these
pub passed : {A : Type 0} (text w : List ℕ) (x y z : A) → (text ≡ w → ⊥) → z ≡ y → z ≡ (if bytes_eq text w then x else y)
passed text w x y z differs rest = rest ∙ ap (λ t. if t then x else y) (sym (false_from_ne_true (bytes_eq text w) (λ same. differs ((bytes_eq-Decides text w).0 same))))

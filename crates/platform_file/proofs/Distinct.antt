-- The test that no two items of a list are the same holds exactly where the list is distinct.
use Rattle.std.proofs.Common.{◌≡◌, Bool, true, false, not, List, [], ◌∷◌, map, refl}
use Rattle.std.specs.List.{list_any, AllByRecursion, IsDistinct}
use Rattle.std.proofs.lemmas.Bool.{and_parts}
use Rattle.cpu_table.specs.Distinct.{are_distinct}
use Rattle.platform_file.proofs.Growing.{or_neither, not_false}

module _ {A K : Type 0} (key : A → K) (same : K → K → Bool) where
  -- the items have the same key
  abbrev alike : A → A → Bool
  alike a b = same (key a) (key b)

  none_alike : (x : A) (xs : List A) → list_any (alike x) xs ≡ false → AllByRecursion (λ k. same (key x) k ≡ false) (map key xs)
  none_alike x [] none = tt
  none_alike x (y ∷ ys) none =
      let (here, rest) = or_neither (alike x y) (list_any (alike x) ys) none in (here, none_alike x ys rest)

  all_apart : (x : A) (xs : List A) → AllByRecursion (λ k. same (key x) k ≡ false) (map key xs) → list_any (alike x) xs ≡ false
  all_apart x [] all = refl
  all_apart x (y ∷ ys) all = rw (all.0) (all_apart x ys all.1)

  pub keys_distinct : (xs : List A) → are_distinct (λ a b. same (key a) (key b)) xs ≡ true → IsDistinct same (map key xs)
  unfolding IsDistinct
  keys_distinct [] distinct = tt
  keys_distinct (x ∷ xs) distinct =
      let (here, more) = and_parts (not (list_any (alike x) xs)) (are_distinct alike xs) distinct in
      (none_alike x xs (not_false (list_any (alike x) xs) here), keys_distinct xs more)

  pub distinct_keys : (xs : List A) → IsDistinct same (map key xs) → are_distinct (λ a b. same (key a) (key b)) xs ≡ true
  unfolding IsDistinct
  distinct_keys [] distinct = refl
  distinct_keys (x ∷ xs) distinct = rw (all_apart x xs distinct.0) (distinct_keys xs distinct.1)

pub same_list : {A : Type 0} (xs : List A) → map (λ x. x) xs ≡ xs
same_list [] = refl
same_list (x ∷ xs) = cc (same_list xs)

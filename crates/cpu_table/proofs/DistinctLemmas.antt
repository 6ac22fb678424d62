-- What stays distinct.
use Rattle.std.proofs.Common.{◌≡◌, ◌==◌, eqb, ℕ, false, ◌||◌, List, [], ◌∷◌, ◌++◌, refl, ap, ◌∙◌}
use Rattle.std.specs.Cmp.{nat_eq_equiv}
use Rattle.std.specs.List.{IsDistinct, list_any}
use Rattle.std.proofs.lemmas.Map.Keys.{IsDistinct-push}

either_way : (xs : List ℕ) (y : ℕ) → list_any (eqb y) xs ≡ list_any (λ x. x == y) xs
either_way [] y = refl
either_way (x ∷ xs) y = ap (λ b. b || list_any (eqb y) xs) (nat_eq_equiv.symm y x) ∙ ap (λ b. (x == y) || b) (either_way xs y)

-- one more number keeps them distinct where none before it is the same
pub distinct_push : (xs : List ℕ) (y : ℕ) → IsDistinct eqb xs → list_any (λ x. x == y) xs ≡ false → IsDistinct eqb (xs ++ y ∷ [])
distinct_push xs y distinct fresh = IsDistinct-push nat_eq_equiv xs y distinct (either_way xs y ∙ fresh)

pub none_distinct : IsDistinct eqb []
unfolding IsDistinct
none_distinct = tt

-- A list of ids without two that are the same is refused by no table.
use Rattle.std.proofs.Common.{◌≡◌, ℕ, zero, suc, ◌==◌, ◌≤◌, Bool, true, false, ◌||◌, eqb, List, [], ◌∷◌, length, take, Some, refl, subst, sym, arith}
use Rattle.std.specs.Prelude.{slice_get}
use Rattle.std.proofs.lemmas.Bool.{false≢true}
use Rattle.std.proofs.lemmas.Option.{same_Some}
use Rattle.std.proofs.lemmas.Map.Keys.{IsDistinct-head, IsDistinct-tail}
use Rattle.std.specs.List.{AllByRecursion, IsDistinct, list_any}
use Rattle.cpu_table.specs.Table.{Refuses}
use Rattle.cpu_table.specs.declared.table.TableError.{TableError}
use Rattle.cpu_table.specs.declared.table.TableError.TheVariants.{TooMany, Repeated, NoMemory}

-- a number that differs from each of a list differs from the one at a place
apart : (x id : ℕ) (xs : List ℕ) (p : ℕ) → AllByRecursion (λ y. eqb x y ≡ false) xs → slice_get xs p ≡ Some id → (x == id) ≡ false
apart x id [] p alone there = cc
apart x id (y ∷ ys) zero alone there = subst (λ (z : ℕ). (x == z) ≡ false) (same_Some _ _ there) alone.0
apart x id (y ∷ ys) (suc p) alone there = apart x id ys p alone.1 there

first_apart : (same others : Bool) → same ≡ false → same || others ≡ true → others ≡ true
first_apart true others apart some = absurd (false≢true (sym apart))
first_apart false others apart some = some

-- so none stands before its place
no_repeat : (ids : List ℕ) (id place : ℕ) → IsDistinct eqb ids → slice_get ids place ≡ Some id → list_any (λ x. x == id) (take place ids) ≡ true → ⊥
no_repeat [] id place distinct there earlier = cc
no_repeat (x ∷ xs) id zero distinct there earlier = false≢true earlier
no_repeat (x ∷ xs) id (suc p) distinct there earlier =
    let differs = apart x id xs p (IsDistinct-head eqb x xs distinct) there in
    no_repeat xs id p (IsDistinct-tail eqb x xs distinct) there (first_apart (x == id) (list_any (λ y. y == id) (take p xs)) differs earlier)

pub only_memory : (ids : List ℕ) (error : TableError) → length ids ≤ 64 → IsDistinct eqb ids → Refuses ids error → error ≡ NoMemory
only_memory ids (TooMany count) few distinct refuses = absurd (omega (arith, few, refuses.0))
only_memory ids (Repeated id) few distinct refuses =
    let first = refuses.1.1 in
    absurd (no_repeat ids id refuses.1.0 distinct first.there first.earlier)
only_memory ids NoMemory few distinct refuses = refl

-- Lists of actors.
use Rattle.std.proofs.Common.{◌≡◌, ℕ, suc, zero, ◌+◌, ◌*◌, List, [], ◌∷◌, ◌++◌, length, ap, sym, ◌∙◌, arith, append_assoc, append-nil, add-one, length-append}
use Rattle.std.proofs.lemmas.List.{map-id}
use Rattle.std.proofs.lemmas.List.FromFn.{map-range_with_len_more, length-range_with_len}
use Rattle.std.specs.List.{range_with_len}
use Rattle.schedule_file.specs.Schedule.{repeated}
use Rattle.schedule_file.specs.Steps.{round_of}

range-more : (first place : ℕ) → range_with_len first (place + 1) ≡ range_with_len first place ++ (first + place) ∷ []
range-more first place =
    sym (map-id (range_with_len first (place + 1))) ∙ map-range_with_len_more (λ x. x) first place (first + place) (omega arith)
    ∙ ap (λ actors. actors ++ (first + place) ∷ []) (map-id (range_with_len first place))

-- one actor more
pub range_more : (before : List ℕ) (first place : ℕ) → (before ++ range_with_len first place) ++ (first + place) ∷ [] ≡ before ++ range_with_len first (place + 1)
range_more before first place = append_assoc before (range_with_len first place) ((first + place) ∷ []) ∙ ap (λ actors. before ++ actors) (sym (range-more first place))

repeated-suc : (count : ℕ) (actors : List ℕ) → repeated (suc count) actors ≡ repeated count actors ++ actors
repeated-suc zero actors = append-nil actors
repeated-suc (suc count) actors = ap (λ more. actors ++ more) (repeated-suc count actors) ∙ sym (append_assoc actors (repeated count actors) actors)

-- once more
pub repeated_more : (before : List ℕ) (count : ℕ) (actors : List ℕ) → (before ++ repeated count actors) ++ actors ≡ before ++ repeated (count + 1) actors
repeated_more before count actors = append_assoc before (repeated count actors) actors ∙ ap (λ more. before ++ more) (sym (rw add-one (repeated-suc count actors)))

length-repeated : (count : ℕ) (actors : List ℕ) → length (repeated count actors) ≡ count * length actors
length-repeated zero actors = omega arith
length-repeated (suc count) actors = omega (arith, length-append actors (repeated count actors), length-repeated count actors)

-- how many actors a round has
pub length-round_of : (first actors times : ℕ) → length (round_of first actors times) ≡ times * actors
length-round_of first actors times = length-repeated times (range_with_len first actors) ∙ ap (λ n. times * n) (length-range_with_len first actors)

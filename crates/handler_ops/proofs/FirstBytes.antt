-- The number that is read where the bytes behind those that were read are 0.
use Rattle.std.proofs.Common.{◌≡◌, ℕ, zero, suc, ◌-◌, List, [], ◌∷◌, ◌++◌, drop, replicate, refl, ap, ◌∙◌}
use Rattle.std.proofs.lemmas.List.{drop-replicate}
use Rattle.std.specs.Prelude.{slice_index, Bool}
use Rattle.byteorder.specs.Endian.{little_from, little_number}
use Rattle.smm_base.specs.declared.status.Status.{Status}
use Rattle.smm_base.specs.declared.status.Status.TheVariants.{Success}
use Rattle.save_state_map.specs.Images.{ImageContents}
use Rattle.save_state_access.specs.Reading.{read_answer}
use Rattle.handler_ops.specs.Course.{value_on, shown_value}

index_zeros : (w i : ℕ) → slice_index (replicate w 0) i ≡ 0
index_zeros zero i = refl
index_zeros (suc w) zero = refl
index_zeros (suc w) (suc i) = index_zeros w i

index_pad : (xs : List ℕ) (k i : ℕ) → slice_index (xs ++ replicate k 0) i ≡ slice_index xs i
index_pad [] k i = index_zeros k i
index_pad (x ∷ xs) k zero = refl
index_pad (x ∷ xs) k (suc i) = index_pad xs k i

little_pad : (n i k : ℕ) (xs : List ℕ) → little_from i n (xs ++ replicate k 0) ≡ little_from i n xs
little_pad zero i k xs = refl
little_pad (suc n) i k xs = rw (index_pad xs k i, little_pad n (suc i) k xs) refl

little_zeros : (n i w : ℕ) → little_from i n (replicate w 0) ≡ 0
little_zeros zero i w = refl
little_zeros (suc n) i w = rw (index_zeros w i, little_zeros n (suc i) w) refl

shown : (S : Status) (out : List ℕ) (w k : ℕ) → ((S ≡ Success → ⊥) → out ≡ replicate w 0) → little_from 0 8 (out ++ replicate k 0) ≡ value_on S out
shown Success out w k h = little_pad 8 0 k out
shown _ out w k h = ap (λ (xs : List ℕ). little_from 0 8 (xs ++ replicate k 0)) (h (λ q. cc)) ∙ little_pad 8 0 k (replicate w 0) ∙ little_zeros 8 0 w

-- a read into the first bytes of 256 zeros
pub read_shows : (m : ImageContents) (present : Bool) (id reg w : ℕ) (old out : List ℕ) (S : Status) → old ≡ replicate w 0
    → S ≡ (read_answer m present id reg old).status → out ≡ (read_answer m present id reg old).out → ((S ≡ Success → ⊥) → out ≡ old)
    → little_number 8 (out ++ drop w (replicate 256 0)) ≡ shown_value (read_answer m present id reg (replicate w 0))
read_shows m present id reg w old out S e f g h =
    ap (λ (xs : List ℕ). little_from 0 8 (out ++ xs)) (drop-replicate w 256 0)
    ∙ shown S out w (256 - w) (λ d. h d ∙ e)
    ∙ ap (λ (T : Status). value_on T out) (f ∙ ap (λ (xs : List ℕ). (read_answer m present id reg xs).status) e)
    ∙ ap (λ (xs : List ℕ). value_on (read_answer m present id reg (replicate w 0)).status xs) (g ∙ ap (λ (xs : List ℕ). (read_answer m present id reg xs).out) e)

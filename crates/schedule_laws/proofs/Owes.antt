-- Whether a job is still owed, as the BSP collects them by number.
use Rattle.std.proofs.Common.{ℕ, zero, suc, ◌≡◌, ◌<◌, ◌≤◌, arith, Bool, false, refl, sym, ⊎_elim, ◌∙◌}
use Rattle.std.proofs.lemmas.Bool.{cases_lt}
use Rattle.schedule_laws.proofs.Invariant.{still_owed}

-- below the number that it is at none is
pub owed_below : (n j : ℕ) (b : Bool) → j < n → still_owed n j b ≡ false
owed_below zero j b l = absurd (omega (arith, l))
owed_below (suc n) zero b l = refl
owed_below (suc n) (suc j) b l = owed_below n j b (omega (arith, l))

-- and from there on those that the server gave
pub owed_from : (n j : ℕ) (b : Bool) → n ≤ j → still_owed n j b ≡ b
owed_from zero j b l = refl
owed_from (suc n) zero b l = absurd (omega (arith, l))
owed_from (suc n) (suc j) b l = owed_from n j b (omega (arith, l))

-- it goes over one that was given none, or whose job was collected
pub owed_on : (n k j : ℕ) (b : Bool) → n ≤ k → (n ≤ j → j < k → b ≡ false) → still_owed k j b ≡ still_owed n j b
owed_on n k j b le none =
    ⊎_elim
    (λ (l : j < n). owed_below k j b (omega (arith, l, le)) ∙ sym (owed_below n j b l))
    (λ (l : n ≤ j).
    ⊎_elim
    (λ (g : j < k). owed_below k j b g ∙ sym (owed_from n j b l ∙ none l g))
    (λ (g : k ≤ j). owed_from k j b g ∙ sym (owed_from n j b l))
    (cases_lt j k))
    (cases_lt j n)

-- where no job is left from there on, none is
pub owed_none : (n j : ℕ) (b : Bool) → (n ≤ j → b ≡ false) → still_owed n j b ≡ false
owed_none n j b none =
    ⊎_elim (λ (l : j < n). owed_below n j b l) (λ (l : n ≤ j). owed_from n j b l ∙ none l) (cases_lt j n)

-- What a search over processors finds, and when a round of looks has another.
use Rattle.std.proofs.Common.{ℕ, ◌≡◌, ◌≢◌, ◌+◌, ◌-◌, ◌<◌, ◌≤◌, not, Bool, true, false, cond, zero, suc, Option, Some, None, inl, inr, refl, subst, arith}
use Rattle.std.proofs.lemmas.Bool.{eq-eqb}
use Rattle.std.proofs.lemmas.Bool.Decides.{eqb_tells}
use Rattle.std.specs.Prelude.{IfSome}
use Rattle.std.specs.List.{find, range_with_len}
use Rattle.sync_words.specs.Steps.{next_below}
use Rattle.arrival.specs.Gather.{is_other}
use Rattle.arrival.specs.Rounds.{is_last_look}

-- what is found is in the range, and passes the test
abbrev Finds : (ℕ → Bool) → ℕ → ℕ → ℕ → Type 0
Finds test from count j = (from ≤ j) × (j < from + count) × (test j ≡ true)

found_at : (b : Bool) (test : ℕ → Bool) (from count j : ℕ) →
    test from ≡ b →
    cond b (Some from) (find test (range_with_len (from + 1) count)) ≡ Some j →
    (find test (range_with_len (from + 1) count) ≡ Some j → Finds test (from + 1) count j) →
    Finds test from (suc count) j
found_at true test from count j passes is later =
    let same : from ≡ j = cc in
    (omega arith, omega arith, subst (λ k. test k ≡ true) same passes)
found_at false test from count j fails is later = let l = later is in (omega (arith, l.0), omega (arith, l.1), l.2)

finds : (test : ℕ → Bool) (from count j : ℕ) → find test (range_with_len from count) ≡ Some j → Finds test from count j
finds test from zero j is = absurd cc
finds test from (suc count) j is = found_at (test from) test from count j refl is (finds test (from + 1) count j)

passes_apart : (b : Bool) → not b ≡ true → b ≡ true → ⊥
passes_apart true fails holds = cc
passes_apart false fails holds = cc

other_apart : (me j : ℕ) → is_other me j ≡ true → j ≢ me
other_apart me j is = λ same. passes_apart _ is (eq-eqb j me same)

of_option : (o : Option ℕ) (P : ℕ → Type 0) → ((j : ℕ) → o ≡ Some j → P j) → IfSome o P
of_option None P at = tt
of_option (Some j) P at = at j refl

pub other_found : (processors me from : ℕ) → IfSome (next_below processors (is_other me) from) (λ j. (j < processors) × (j ≢ me))
other_found processors me from =
    of_option
    (next_below processors (is_other me) from)
    (λ j. (j < processors) × (j ≢ me))
    (λ j is.
    let f = finds (is_other me) from (processors - from) j is in
    let low = f.0 in
    let high = f.1 in
    (omega arith, other_apart me j f.2))

pub more_looks : (looks most : ℕ) → looks < most → is_last_look looks most ≡ false → looks + 1 < most
more_looks looks most within more =
    elim (eqb_tells (looks + 1) most) [ inl last ↦ absurd (let holds = last.0 in cc) | inr other ↦ omega (arith, other.1) ]

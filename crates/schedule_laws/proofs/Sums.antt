-- Sums of a function over the numbers below n: how a change of one term moves them, and what they say of the gaps between two.
use Rattle.std.proofs.Common.{ℕ, zero, suc, ◌+◌, ◌*◌, ◌≡◌, ◌≢◌, ◌<◌, ◌≤◌, arith, ⊎_elim, ap, refl}
use Rattle.std.proofs.lemmas.Bool.{cases_eq}

unfoldable pub sum_below : ℕ → (ℕ → ℕ) → ℕ
sum_below zero f = 0
sum_below (suc n) f = sum_below n f + f n

pub sum_below-same : (n : ℕ) (f g : ℕ → ℕ) → ((j : ℕ) → j < n → f j ≡ g j) → sum_below n f ≡ sum_below n g
unfolding sum_below
sum_below-same zero f g e = refl
sum_below-same (suc n) f g e =
    let ih = sum_below-same n f g (λ j h. e j (omega arith)) in
    let last = e n (omega arith) in
    omega arith

pub sum_below-le : (n : ℕ) (f g : ℕ → ℕ) → ((j : ℕ) → j < n → f j ≤ g j) → sum_below n f ≤ sum_below n g
unfolding sum_below
sum_below-le zero f g e = omega arith
sum_below-le (suc n) f g e =
    let ih = sum_below-le n f g (λ j h. e j (omega arith)) in
    let last = e n (omega arith) in
    omega arith

-- one term changes
pub sum_below-change : (n : ℕ) (f g : ℕ → ℕ) (i : ℕ) → i < n → ((j : ℕ) → j < n → j ≢ i → f j ≡ g j) → sum_below n g + f i ≡ sum_below n f + g i
unfolding sum_below
sum_below-change zero f g i h e = absurd (omega arith)
sum_below-change (suc n) f g i h e =
    ⊎_elim
    (λ (q : i ≡ n).
    let front = sum_below-same n f g (λ j l. e j (omega arith) (omega arith)) in
    let fi = ap f q in
    let gi = ap g q in
    omega arith)
    (λ (q : i ≢ n).
    let ih = sum_below-change n f g i (omega arith) (λ j l d. e j (omega arith) d) in
    let last = e n (omega arith) (omega arith) in
    omega arith)
    (cases_eq i n)

pub sum_below-one_gap : (n : ℕ) (f g : ℕ → ℕ) (b : ℕ) → b < n → ((j : ℕ) → j < n → f j ≤ g j) → sum_below n f + g b ≤ sum_below n g + f b
unfolding sum_below
sum_below-one_gap zero f g b h e = absurd (omega arith)
sum_below-one_gap (suc n) f g b h e =
    ⊎_elim
    (λ (q : b ≡ n).
    let front = sum_below-le n f g (λ j l. e j (omega arith)) in
    let fi = ap f q in
    let gi = ap g q in
    omega arith)
    (λ (q : b ≢ n).
    let ih = sum_below-one_gap n f g b (omega arith) (λ j l. e j (omega arith)) in
    let last = e n (omega arith) in
    omega arith)
    (cases_eq b n)

-- of two functions one of which is below the other, the gaps at two places are at most the gap of the sums
pub sum_below-two_gaps : (n : ℕ) (f g : ℕ → ℕ) (b i : ℕ) → b < n → i < n → b ≢ i → ((j : ℕ) → j < n → f j ≤ g j) → sum_below n f + g b + g i ≤ sum_below n g + f b + f i
unfolding sum_below
sum_below-two_gaps zero f g b i h k d e = absurd (omega arith)
sum_below-two_gaps (suc n) f g b i h k d e =
    ⊎_elim
    (λ (q : b ≡ n).
    let front = sum_below-one_gap n f g i (omega arith) (λ j l. e j (omega arith)) in
    let fi = ap f q in
    let gi = ap g q in
    omega arith)
    (λ (q : b ≢ n).
    ⊎_elim
    (λ (r : i ≡ n).
    let front = sum_below-one_gap n f g b (omega arith) (λ j l. e j (omega arith)) in
    let fi = ap f r in
    let gi = ap g r in
    omega arith)
    (λ (r : i ≢ n).
    let ih = sum_below-two_gaps n f g b i (omega arith) (omega arith) d (λ j l. e j (omega arith)) in
    let last = e n (omega arith) in
    omega arith)
    (cases_eq i n))
    (cases_eq b n)

pub sum_below-scale : (n k : ℕ) (f : ℕ → ℕ) → sum_below n (λ j. k * f j) ≡ k * sum_below n f
unfolding sum_below
sum_below-scale zero k f = omega arith
sum_below-scale (suc n) k f =
    let ih = sum_below-scale n k f in
    omega arith

pub sum_below-zero : (n : ℕ) (f : ℕ → ℕ) → ((j : ℕ) → j < n → f j ≡ 0) → sum_below n f ≡ 0
unfolding sum_below
sum_below-zero zero f e = refl
sum_below-zero (suc n) f e =
    let ih = sum_below-zero n f (λ j h. e j (omega arith)) in
    let last = e n (omega arith) in
    omega arith

pub sum_below-bound : (n k : ℕ) (f : ℕ → ℕ) → ((j : ℕ) → j < n → f j ≤ k) → sum_below n f ≤ k * n
unfolding sum_below
sum_below-bound zero k f e = omega arith
sum_below-bound (suc n) k f e =
    let ih = sum_below-bound n k f (λ j h. e j (omega arith)) in
    let last = e n (omega arith) in
    omega arith

pub sum_below-head : (n : ℕ) (f : ℕ → ℕ) → sum_below (suc n) f ≡ f 0 + sum_below n (λ j. f (suc j))
unfolding sum_below
sum_below-head zero f = omega arith
sum_below-head (suc n) f =
    let ih = sum_below-head n f in
    omega arith

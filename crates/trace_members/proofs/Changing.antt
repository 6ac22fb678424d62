-- One processor of a list is changed, and all of them, one after the other.
use Rattle.std.proofs.Common.{◌≡◌, ◌≤◌, ◌+◌, ℕ, zero, suc, List, [], ◌∷◌, length, slice_index_or, slice_set, map, refl, ap, sym, ◌∙◌, arith, add-one}
use Rattle.rendezvous_machine.specs.Machines.{Member, nobody}

-- none beyond the last
pub past : (members : List Member) (i : ℕ) (x : Member) → length members ≤ i → members ≡ slice_set members i x
past [] i x h = refl
past (y ∷ members) zero x h = absurd (omega (arith, h))
past (y ∷ members) (suc i) x h = ap (λ ms. y ∷ ms) (past members i x (omega (arith, h)))

-- so many of them are changed
abbrev pub mapped_to : (Member → Member) → ℕ → List Member → List Member
mapped_to f i [] = []
mapped_to f zero (x ∷ xs) = x ∷ xs
mapped_to f (suc i) (x ∷ xs) = f x ∷ mapped_to f i xs

pub mapped_zero : (f : Member → Member) (xs : List Member) → mapped_to f 0 xs ≡ xs
mapped_zero f [] = refl
mapped_zero f (x ∷ xs) = refl

pub mapped_length : (f : Member → Member) (i : ℕ) (xs : List Member) → length (mapped_to f i xs) ≡ length xs
mapped_length f i [] = refl
mapped_length f zero (x ∷ xs) = refl
mapped_length f (suc i) (x ∷ xs) = ap suc (mapped_length f i xs)

mapped_more : (f : Member → Member) (i : ℕ) (xs : List Member)
    → slice_set (mapped_to f i xs) i (f (slice_index_or (mapped_to f i xs) i nobody)) ≡ mapped_to f (suc i) xs
mapped_more f i [] = refl
mapped_more f zero (x ∷ xs) = ap (λ ys. f x ∷ ys) (sym (mapped_zero f xs))
mapped_more f (suc i) (x ∷ xs) = ap (λ ys. f x ∷ ys) (mapped_more f i xs)

pub mapped_next : (f : Member → Member) (i : ℕ) (xs : List Member)
    → slice_set (mapped_to f i xs) i (f (slice_index_or (mapped_to f i xs) i nobody)) ≡ mapped_to f (i + 1) xs
mapped_next f i xs = mapped_more f i xs ∙ ap (λ n. mapped_to f n xs) (sym (add-one i))

pub mapped_all : (f : Member → Member) (i : ℕ) (xs : List Member) → length xs ≤ i → mapped_to f i xs ≡ map f xs
mapped_all f i [] h = refl
mapped_all f zero (x ∷ xs) h = absurd (omega (arith, h))
mapped_all f (suc i) (x ∷ xs) h = ap (λ ys. f x ∷ ys) (mapped_all f i xs (omega (arith, h)))

-- Names that are looked up in a list.
use Rattle.std.proofs.Common.{◌≡◌, ℕ, Bool, true, false, cond, List, [], ◌∷◌, Option, Some, refl}
use Rattle.std.specs.Prelude.{find, IfSome}
use Rattle.std.specs.Str.{bytes_eq}
use Rattle.std.proofs.lemmas.Slice.Eq.{bytes_eq-Decides}

-- the first element passes the test, or what is found behind it does
first_or_rest : {X : Type 0} (P : X → Type 0) (x : X) (rest : Option X) (passes : Bool) → (passes ≡ true → P x) → IfSome rest P → IfSome (cond passes (Some x) rest) P
first_or_rest P x rest true here behind = here refl
first_or_rest P x rest false here behind = behind

-- what follows from the test holds of what is found
pub found_passes : {X : Type 0} (test : X → Bool) (P : X → Type 0) → ((x : X) → test x ≡ true → P x) → (xs : List X) → IfSome (find test xs) P
found_passes test P follows [] = tt
found_passes test P follows (x ∷ xs) = first_or_rest P x (find test xs) (test x) (follows x) (found_passes test P follows xs)

-- what is found by a name has it
pub found_has_name : {X : Type 0} (name : X → List ℕ) (text : List ℕ) (xs : List X) → IfSome (find (λ x. bytes_eq (name x) text) xs) (λ x. name x ≡ text)
found_has_name name text xs = found_passes (λ x. bytes_eq (name x) text) (λ x. name x ≡ text) (λ x. (bytes_eq-Decides (name x) text).0) xs

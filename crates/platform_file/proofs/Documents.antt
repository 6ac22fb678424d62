-- A document as the code holds it, and as its definitions see it.
use Rattle.std.proofs.Common.{◌≡◌, ℕ, suc, ◌+◌, Bool, true, false, not, cond, List, [], ◌∷◌, length, map, Option, Some, None, refl, ap, ◌∙◌, if◌then◌else◌}
use Rattle.std.specs.Prelude.{IsTrue, nat_lt}
use Rattle.std.specs.List.{position, position_or_len, prefix_len}
use Rattle.std.proofs.lemmas.Bool.{false≢true}
use Rattle.std.proofs.Math.Bool.{Bool-set}
use Rattle.toml.specs.Data.{Members}
use Rattle.smm_base.specs.Kinds.{is_io_length, is_io_type}
use Rattle.platform_file.specs.Causes.{on_true, instruction}

-- the first place at which a test of the view passes
prefix_of_views : {A B : Type 0} (f : A → B) (p : B → Bool) (xs : List A) → prefix_len p (map f xs) ≡ prefix_len (λ x. p (f x)) xs
prefix_of_views f p [] = refl
prefix_of_views f p (x ∷ xs) = ap (λ n. cond (p (f x)) (1 + n) 0) (prefix_of_views f p xs)

length_of_views : {A B : Type 0} (f : A → B) (xs : List A) → length (map f xs) ≡ length xs
length_of_views f [] = refl
length_of_views f (x ∷ xs) = ap suc (length_of_views f xs)

pub position_of_views : {A B : Type 0} (f : A → B) (p : B → Bool) (xs : List A) → position p (map f xs) ≡ position (λ x. p (f x)) xs
position_of_views f p xs =
    ap (λ n. cond (nat_lt n (length (map f xs))) (Some n) None) (prefix_of_views f (λ y. not (p y)) xs)
    ∙ ap (λ n. cond (nat_lt (position_or_len (λ x. p (f x)) xs) n) (Some (position_or_len (λ x. p (f x)) xs)) None) (length_of_views f xs)

-- bytes that are no document
pub no_document : (b : Bool) (o : Option Members) → (b ≡ true → o ≡ None) → (if b then o else None) ≡ None
no_document true o none = none refl
no_document false o none = refl

-- a test that passes
pub on_true_passes : {A : Type 0} (b : Bool) (passes : IsTrue b) (pass : IsTrue b → Option A) → on_true b pass ≡ pass passes
on_true_passes true passes pass = ap pass (Bool-set true true refl passes)
on_true_passes false passes pass = absurd (false≢true passes)

pub instruction_is : (port length kind : ℕ) (length_is_valid : IsTrue (is_io_length length)) (kind_is_valid : IsTrue (is_io_type kind)) →
    instruction port length kind ≡ Some (record { port = port; length = length; kind = kind; length_is_valid = length_is_valid; kind_is_valid = kind_is_valid })
instruction_is port length kind length_is_valid kind_is_valid =
    on_true_passes (is_io_length length) length_is_valid _ ∙ on_true_passes (is_io_type kind) kind_is_valid _

-- What a sink was given.
use Rattle.std.specs.Prelude.{◌≡◌, ℕ, zero, suc, ◌+◌, ◌-◌, List, [], ◌∷◌, ◌++◌, Option, None, Some, length, take, drop, refl}
use Rattle.std.proofs.Common.{ap, sym, ◌∙◌, append_assoc, append-nil, length-drop, arith}
use Rattle.std.proofs.lemmas.List.{take_all}
use Rattle.std.proofs.Math.Seq.{take-add, take-append-add, take-length}

-- the bytes written with a piece more, where they are told
abbrev pub appended : Option (List ℕ) → List ℕ → Option (List ℕ)
appended None piece = None
appended (Some bytes) piece = Some (bytes ++ piece)

-- some front part of the piece was written, maybe none of it or all
abbrev pub GainsPrefix : Option (List ℕ) → Option (List ℕ) → List ℕ → Type 0
GainsPrefix before after piece = (n : ℕ) × (after ≡ appended before (take n piece))

-- an empty piece changes nothing
pub appended-nil : (before : Option (List ℕ)) → appended before [] ≡ before
appended-nil None = refl
appended-nil (Some bytes) = ap Some (append-nil bytes)

-- two pieces in turn are both together
pub appended-append : (before : Option (List ℕ)) (first second : List ℕ) → appended (appended before first) second ≡ appended before (first ++ second)
appended-append None first second = refl
appended-append (Some bytes) first second = ap Some (append_assoc bytes first second)

-- a piece that is written as far as n, and then m bytes of the rest
pub appended-further : (before after : Option (List ℕ)) (n m : ℕ) (piece : List ℕ) → after ≡ appended (appended before (take n piece)) (take m (take (length piece - n) (drop n piece))) → after ≡ appended before (take (n + m) piece)
appended-further before after n m piece is =
    is ∙ appended-append before (take n piece) _ ∙ ap (appended before) (ap (λ xs. take n piece ++ take m xs) (take_all (length piece - n) (drop n piece) (omega (arith, length-drop n piece))) ∙ sym (take-add n m piece))

-- all of a piece is a front part of it
pub GainsPrefix-whole : (before after : Option (List ℕ)) (piece : List ℕ) → after ≡ appended before piece → GainsPrefix before after piece
GainsPrefix-whole before after piece is = (length piece, is ∙ ap (appended before) (sym (take-length piece)))

-- nothing is a front part of a piece
pub GainsPrefix-none : (before : Option (List ℕ)) (piece : List ℕ) → GainsPrefix before before piece
GainsPrefix-none before piece = (0, sym (appended-nil before))

-- the first n elements of a list are the first elements of a longer one
front_of_longer : (n : ℕ) (piece rest : List ℕ) → (m : ℕ) × (take m (piece ++ rest) ≡ take n piece)
front_of_longer zero piece rest = (0, refl)
front_of_longer (suc n) [] rest = (0, refl)
front_of_longer (suc n) (x ∷ xs) rest = let more = front_of_longer n xs rest in (suc more.0, ap (λ ys. x ∷ ys) more.1)

-- a front part of a piece is one of a longer piece
pub GainsPrefix-longer : (before after : Option (List ℕ)) (piece rest : List ℕ) → GainsPrefix before after piece → GainsPrefix before after (piece ++ rest)
GainsPrefix-longer before after piece rest gains =
    let front = front_of_longer gains.0 piece rest in (front.0, gains.1 ∙ ap (appended before) (sym front.1))

-- a front part of a second piece, after the whole first
pub GainsPrefix-after : (before after : Option (List ℕ)) (first second : List ℕ) → GainsPrefix (appended before first) after second → GainsPrefix before after (first ++ second)
GainsPrefix-after before after first second gains =
    (length first + gains.0, gains.1 ∙ appended-append before first (take gains.0 second) ∙ ap (appended before) (sym (take-append-add first second gains.0)))

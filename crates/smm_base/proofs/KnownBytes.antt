-- Bytes that are written in turn.
use Rattle.std.proofs.Common.{ℕ, ◌+◌, ◌-◌, List, ◌++◌, length, take, drop, Option, None, Some, ap, ◌∙◌, append_assoc, length-drop, arith}
use Rattle.std.specs.Io.KnownBytes.{Appends}
use Rattle.std.proofs.lemmas.List.{take_all}
use Rattle.std.proofs.Math.Seq.{take-add}

-- two writes in turn
pub Appends-append : (first second third : Option (List ℕ)) (xs ys : List ℕ) → Appends first second xs → Appends second third ys → Appends first third (xs ++ ys)
Appends-append None second third xs ys a b = tt
Appends-append (Some p) None third xs ys a b = absurd a
Appends-append (Some p) (Some q) None xs ys a b = absurd b
Appends-append (Some p) (Some q) (Some r) xs ys a b = b ∙ ap (λ zs. zs ++ ys) a ∙ append_assoc p xs ys

-- a list is written as far as n, and then m bytes of the rest
pub Appends-further : (first second third : Option (List ℕ)) (n m : ℕ) (bytes : List ℕ) → Appends first second (take n bytes) → Appends second third (take m (take (length bytes - n) (drop n bytes))) → Appends first third (take (n + m) bytes)
Appends-further first second third n m bytes a b =
    rw (take-add n m bytes, ← take_all (length bytes - n) (drop n bytes) (omega (arith, length-drop n bytes))) (Appends-append first second third _ _ a b)

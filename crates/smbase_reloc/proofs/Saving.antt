-- A save state at the end of the default area is read as it was put, and the bytes that stood there come back.
use Rattle.std.proofs.Common.{◌≡◌, ℕ, ◌≤◌, List, ◌++◌, length, take, drop, sym, ap, ◌∙◌}
use Rattle.std.proofs.lemmas.List.{take-append-drop, length-take-le}
use Rattle.std.proofs.Math.Seq.{drop-append_seam, take-append_seam}

pub read_back : (k : ℕ) (area state : List ℕ) → k ≤ length area → drop k (take k area ++ state) ≡ state
read_back k area state within =
    ap (λ (n : ℕ). drop n (take k area ++ state)) (sym (length-take-le k area within)) ∙ drop-append_seam (take k area) state

pub put_back : (k : ℕ) (area state : List ℕ) → k ≤ length area → take k (take k area ++ state) ++ drop k area ≡ area
put_back k area state within =
    ap (λ (xs : List ℕ). xs ++ drop k area) (ap (λ (n : ℕ). take n (take k area ++ state)) (sym (length-take-le k area within)) ∙ take-append_seam (take k area) state)
    ∙ take-append-drop k area

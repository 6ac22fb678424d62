-- Readings one after another, and lists that are read element by element.
use Rattle.std.proofs.Common.{◌≡◌, ℕ, ◌+◌, ◌<◌, ◌≤◌, List, [], ◌∷◌, ◌++◌, length, length-append, map, drop, get_or, Ok, ap, sym, ◌∙◌, inl, inr, add-one, arith}
use Rattle.std.proofs.Math.Seq.{drop-cons}
use Rattle.std.proofs.lemmas.List.{drop_all}
use Rattle.toml.specs.Data.{Data}
use Rattle.platform_document.specs.declared.fault.WalkFault.{WalkFault}
use Rattle.platform_document.specs.Reading.{Reading, read_then, StopsAt, each}

-- where the first step reads, the second one decides
pub then_found : {A B : Type 0} (r : Reading A) (next : A → Reading B) (a : A) → r ≡ Ok a → read_then r next ≡ next a
then_found r next a is = ap (λ x. read_then x next) is

-- the rest of a list from one place on, where this value stands
next_value : {V : Type 0} (vs : List V) (i : ℕ) (v : V) → i < length vs → v ≡ get_or vs i v → drop i vs ≡ v ∷ drop (i + 1) vs
next_value vs i v within at = drop-cons vs i v within ∙ ap (λ n. get_or vs i v ∷ drop n vs) (sym (add-one i)) ∙ ap (λ x. x ∷ drop (i + 1) vs) (sym at)

rest_next : {A V : Type 0} (read : List A → Data → Reading A) (see : V → Data) (done seen : List A) (vs : List V) (i : ℕ) (v : V) → i < length vs → v ≡ get_or vs i v → seen ≡ done →
    each read done (map see (drop i vs)) ≡ read_then (read seen (see v)) (λ x. each read (done ++ x ∷ []) (map see (drop (i + 1) vs)))
rest_next read see done seen vs i v within at same =
    ap (λ ys. each read done (map see ys)) (next_value vs i v within at)
    ∙ ap (λ ys. read_then (read ys (see v)) (λ x. each read (done ++ x ∷ []) (map see (drop (i + 1) vs)))) (sym same)

-- an element that was read, by the elements before it as the reader saw them
pub each_found : {A V : Type 0} (read : List A → Data → Reading A) (see : V → Data) (done seen : List A) (x : A) (vs : List V) (i : ℕ) (v : V) → i < length vs → v ≡ get_or vs i v → seen ≡ done →
    read seen (see v) ≡ Ok x → each read (done ++ x ∷ []) (map see (drop (i + 1) vs)) ≡ each read done (map see (drop i vs))
each_found read see done seen x vs i v within at same is =
    sym (rest_next read see done seen vs i v within at same ∙ then_found (read seen (see v)) (λ y. each read (done ++ y ∷ []) (map see (drop (i + 1) vs))) x is)

-- an element at which reading stops
pub each_stops : {A V : Type 0} (read : List A → Data → Reading A) (see : V → Data) (done seen : List A) (vs : List V) (i : ℕ) (v : V) (fault : WalkFault) (all : Reading (List A)) → i < length vs → v ≡ get_or vs i v → seen ≡ done →
    StopsAt (read seen (see v)) fault → each read done (map see (drop i vs)) ≡ all → StopsAt all fault
each_stops {A = A} read see done seen vs i v fault all within at same stops is =
    let later : Reading A → Reading (List A) = λ (r : Reading A). read_then r (λ y. each read (done ++ y ∷ []) (map see (drop (i + 1) vs))) in
    elim stops [ inl e ↦ inl e | inr e ↦ inr (sym is ∙ rest_next read see done seen vs i v within at same ∙ ap later e) ]

-- the end of the list
pub each_ends : {A V : Type 0} (read : List A → Data → Reading A) (see : V → Data) (done : List A) (vs : List V) (i : ℕ) (all : Reading (List A)) → length vs ≤ i → each read done (map see (drop i vs)) ≡ all → all ≡ Ok done
each_ends read see done vs i all past is = sym is ∙ ap (λ ys. each read done (map see ys)) (drop_all i vs past)

-- one more element
pub length_more : {A : Type 0} (xs : List A) (x : A) (n : ℕ) → length xs ≡ n → length (xs ++ x ∷ []) ≡ n + 1
length_more xs x n is = omega (arith, length-append xs (x ∷ []), is)

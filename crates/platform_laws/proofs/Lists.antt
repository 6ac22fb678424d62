-- Lists that are read element by element.
use Rattle.std.proofs.Common.{◌≡◌, suc, List, [], ◌∷◌, ◌++◌, length, Ok, refl, ap, sym, ◌∙◌}
use Rattle.toml.specs.Data.{Data, Items, no_items, item}
use Rattle.platform_document.specs.Reading.{Reading, data_list, each}
use Rattle.platform_laws.specs.Values.{EachSays}
use Rattle.platform_laws.proofs.Readings.{split, joined, same_ok}

-- each of a list fits after those before it
abbrev pub EachFits : {A : Type 0} → (List A → A → Type 0) → List A → List A → Type 0
EachFits Fit done [] = Unit {0}
EachFits Fit done (x ∷ xs) = Fit done x × EachFits Fit (done ++ x ∷ []) xs

nil_after : {A : Type 0} (xs : List A) → xs ++ [] ≡ xs
nil_after [] = refl
nil_after (x ∷ xs) = ap (λ ys. x ∷ ys) (nil_after xs)

one_before : {A : Type 0} (xs : List A) (y : A) (ys : List A) → (xs ++ y ∷ []) ++ ys ≡ xs ++ y ∷ ys
one_before [] y ys = refl
one_before (x ∷ xs) y ys = ap (λ zs. x ∷ zs) (one_before xs y ys)

pub each_said : {A : Type 0} (read : List A → Data → Reading A) (Says : Data → A → Type 0) (Fit : List A → A → Type 0) →
    ((done : List A) (v : Data) (x : A) → read done v ≡ Ok x → Says v x × Fit done x) →
    (items : Items) (done all : List A) → each read done (data_list items) ≡ Ok all → (xs : List A) × (all ≡ done ++ xs) × EachSays Says items xs × EachFits Fit done xs
each_said read Says Fit one no_items done all is = ([], sym (same_ok done all is) ∙ sym (nil_after done), tt, tt)
each_said read Says Fit one (item v vs) done all is =
    let (x, here, rest) = split (read done v) (λ y. each read (done ++ y ∷ []) (data_list vs)) all is in
    let (xs, whole, says, fits) = each_said read Says Fit one vs (done ++ x ∷ []) all rest in
    let (says_one, fits_one) = one done v x here in
    (x ∷ xs, whole ∙ one_before done x xs, (says_one, says), (fits_one, fits))

pub each_read : {A : Type 0} (read : List A → Data → Reading A) (Says : Data → A → Type 0) (Fit : List A → A → Type 0) →
    ((done : List A) (v : Data) (x : A) → Says v x → Fit done x → read done v ≡ Ok x) →
    (items : Items) (done xs : List A) → EachSays Says items xs → EachFits Fit done xs → each read done (data_list items) ≡ Ok (done ++ xs)
each_read read Says Fit one no_items done [] says fits = ap Ok (sym (nil_after done))
each_read read Says Fit one no_items done (x ∷ xs) says fits = absurd says
each_read read Says Fit one (item v vs) done [] says fits = absurd says
each_read read Says Fit one (item v vs) done (x ∷ xs) says fits =
    joined (read done v) (λ y. each read (done ++ y ∷ []) (data_list vs)) x (done ++ x ∷ xs) (one done v x says.0 fits.0)
    (each_read read Says Fit one vs (done ++ x ∷ []) xs says.1 fits.1 ∙ ap Ok (one_before done x xs))

-- such a list has as many elements
pub each_count : {A : Type 0} (Says : Data → A → Type 0) (items : Items) (xs : List A) → EachSays Says items xs → length (data_list items) ≡ length xs
each_count Says no_items [] says = refl
each_count Says no_items (x ∷ xs) says = absurd says
each_count Says (item v vs) [] says = absurd says
each_count Says (item v vs) (x ∷ xs) says = ap suc (each_count Says vs xs says.1)

-- what says so much says also less
pub each_weaker : {A : Type 0} (Says More : Data → A → Type 0) → ((v : Data) (x : A) → More v x → Says v x) → (items : Items) (xs : List A) → EachSays More items xs → EachSays Says items xs
each_weaker Says More less no_items [] says = tt
each_weaker Says More less no_items (x ∷ xs) says = absurd says
each_weaker Says More less (item v vs) [] says = absurd says
each_weaker Says More less (item v vs) (x ∷ xs) says = (less v x says.0, each_weaker Says More less vs xs says.1)

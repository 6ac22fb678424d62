-- A text, and its parts before and behind a separator.
use Rattle.std.proofs.Common.{◌≡◌, ◌≢◌, ℕ, suc, ◌+◌, ◌<◌, ◌≤◌, Bool, true, false, not, nat_lt, ◌==◌, List, [], ◌∷◌, ◌++◌, length, take, drop, get_or, Option, Some, None, option_map, refl, ap, sym, subst, ◌∙◌, cond, if◌then◌else◌, arith}
use Rattle.std.specs.List.{list_all, position, position_or_len}
use Rattle.std.proofs.lemmas.Bool.{and_parts, and_from, both_ways, not-true, not_from_false, eqb-true, eq-eqb, ltb-false, ne_eqb}
use Rattle.std.proofs.lemmas.List.{drop_more, get_or-take, length-take-le, take-append-drop}
use Rattle.std.proofs.lemmas.List.Quantifiers.{position-Some}
use Rattle.std.proofs.lemmas.List.Sums.{prefix_len_passes}
use Rattle.std.proofs.lemmas.Option.{none-some, some_pair_parts}
use Rattle.trace_text.specs.Readings.{split_first}

-- no byte of the text is the separator
abbrev pub Lacks : ℕ → List ℕ → Type 0
Lacks separator text = list_all (λ byte. not (byte == separator)) text ≡ true

pub lacks_from : (c : ℕ) (w : List ℕ) → ((i : ℕ) → i < length w → get_or w i 0 ≢ c) → Lacks c w
lacks_from c [] differs = refl
lacks_from c (b ∷ bs) differs =
    and_from (not (b == c)) (list_all (λ byte. not (byte == c)) bs) (not_from_false (b == c) (ne_eqb b c (differs 0 (omega arith))))
    (lacks_from c bs (λ i within. differs (suc i) (omega (arith, within))))

pub split_none : (c : ℕ) (w : List ℕ) → Lacks c w → split_first c w ≡ None
split_none c [] lacks = refl
split_none c (b ∷ bs) lacks =
    let (here, more) = and_parts (not (b == c)) (list_all (λ byte. not (byte == c)) bs) lacks in
    rw (not-true (b == c) here, split_none c bs more) refl

-- a text of one byte more, by whether that byte is the separator
abbrev pub split_on : ℕ → List ℕ → Bool → Option (List ℕ × List ℕ) → Option (List ℕ × List ℕ)
split_on b bs t o = if t then Some ([], bs) else option_map (λ parts. (b ∷ parts.0, parts.1)) o

-- a text that begins so is split there
pub split_gives : (c : ℕ) (x y : List ℕ) → Lacks c x → split_first c (x ++ c ∷ y) ≡ Some (x, y)
split_gives c [] y lacks = ap (λ t. split_on c y t (split_first c y)) (eq-eqb c c refl)
split_gives c (b ∷ bs) y lacks =
    let (here, more) = and_parts (not (b == c)) (list_all (λ byte. not (byte == c)) bs) lacks in
    rw (not-true (b == c) here, split_gives c bs y more) refl

whole_step : (c b : ℕ) (bs x y : List ℕ) (t : Bool) (o : Option (List ℕ × List ℕ)) → (b == c) ≡ t → ((p q : List ℕ) → o ≡ Some (p, q) → bs ≡ p ++ c ∷ q) →
    split_on b bs t o ≡ Some (x, y) → b ∷ bs ≡ x ++ c ∷ y
whole_step c b bs x y true o is rest found =
    let (front, back) = some_pair_parts [] x bs y found in
    λ i. front i ++ eqb-true b c is i ∷ back i
whole_step c b bs x y false None is rest found = absurd (none-some (x, y) found)
whole_step c b bs x y false (Some (p, q)) is rest found =
    let (front, back) = some_pair_parts (b ∷ p) x q y found in
    ap (λ t. b ∷ t) (rest p q refl) ∙ (λ i. front i ++ c ∷ back i)

-- the parts are those of the text
pub split_whole : (c : ℕ) (w x y : List ℕ) → split_first c w ≡ Some (x, y) → w ≡ x ++ c ∷ y
split_whole c [] x y found = absurd (none-some (x, y) found)
split_whole c (b ∷ bs) x y found = whole_step c b bs x y (b == c) (split_first c bs) refl (split_whole c bs) found

-- a separator that stands nowhere first
passes_all : (c : ℕ) (w : List ℕ) (t : Bool) → nat_lt (position_or_len (λ b. b == c) w) (length w) ≡ t →
    ◌≡◌ {A = Option ℕ} (cond t (Some (position_or_len (λ b. b == c) w)) None) None → length w ≤ position_or_len (λ b. b == c) w
passes_all c w true is found = absurd (none-some (position_or_len (λ b. b == c) w) (sym found))
passes_all c w false is found = ltb-false (position_or_len (λ b. b == c) w) (length w) is

pub place_none : (c : ℕ) (w : List ℕ) → position (λ b. b == c) w ≡ None → split_first c w ≡ None
place_none c w found =
    let long : length w ≤ position_or_len (λ b. b == c) w = passes_all c w (nat_lt (position_or_len (λ b. b == c) w) (length w)) refl found in
    split_none c w (lacks_from c w (λ i within is. both_ways (get_or w i 0 == c)
    (not-true (get_or w i 0 == c) (prefix_len_passes (λ b. not (b == c)) w i 0 (omega (arith, within, long)))) (eq-eqb (get_or w i 0) c is)))

-- the parts around the place where it stands first
pub place_some : (c : ℕ) (w : List ℕ) (i : ℕ) → position (λ b. b == c) w ≡ Some i → split_first c w ≡ Some (take i w, drop (i + 1) w)
place_some c w i found =
    let (within, here, before) = position-Some (λ b. b == c) w i 0 found in
    let whole : w ≡ take i w ++ c ∷ drop (i + 1) w =
    sym (take-append-drop i w) ∙ ap (λ t. take i w ++ t) (drop_more w i 0 within ∙ ap (λ t. t ∷ drop (i + 1) w) (eqb-true (get_or w i 0) c here)) in
    ap (split_first c) whole ∙ split_gives c (take i w) (drop (i + 1) w)
    (lacks_from c (take i w) (λ k inside is.
    let early : k < i = subst (λ n. k < n) (length-take-le i w (omega (arith, within))) inside in
    both_ways (get_or w k 0 == c) (before k early) (eq-eqb (get_or w k 0) c (sym (get_or-take i w k 0 early) ∙ is))))

-- a separator of ASCII is found at an ASCII character
pub place_small : (c : ℕ) (w : List ℕ) (i : ℕ) → c < 128 → position (λ b. b == c) w ≡ Some i → (i < length w) × (get_or w i 0 < 128)
place_small c w i small found =
    let (within, here, _) = position-Some (λ b. b == c) w i 0 found in
    (within, subst (λ b. b < 128) (sym (eqb-true (get_or w i 0) c here)) small)

-- Numbers whose low bytes are replaced.
use Rattle.std.proofs.Common.{◌≡◌, ◌↔◌, ℕ, zero, suc, ◌+◌, ◌-◌, ◌*◌, ◌/◌, ◌%◌, ◌^◌, ◌<◌, ◌≤◌, inl, inr, Bool, true, false, List, [], ◌∷◌, ◌++◌, length, get_or, take, drop, Option, Some, refl, sym, ap, subst, ◌∙◌, append_assoc, arith}
use Rattle.std.specs.Prelude.{◌==◌, ◌||◌, IsTrue, option_map}
use Rattle.std.specs.Bool.{OnTrue}
use Rattle.std.specs.Int.{byte_at, bytes_low_first}
use Rattle.std.proofs.Math.Nat.{div-div-eq-div-mul, pow-succ'}
use Rattle.std.proofs.lemmas.List.{length-append, length-take-le, length-drop, drop-append-le, drop-drop, take-append-drop, get_or-drop, get_or-take, get_or_past, get_or-append_right, get_or_append_left}
use Rattle.std.proofs.lemmas.Bool.{cases_lt}
use Rattle.std.proofs.lemmas.Bool.Decides.{nat_tests}
use Rattle.byteorder.specs.Endian.{little_from, little_number, little_bytes}
use Rattle.byteorder.specs.Numbers.{little_from-cons, little_from-lt, length-bytes_low_first}
use Rattle.save_state_map.specs.declared.field.Place.{Place}
use Rattle.save_state_map.specs.declared.field.Field.{Field}
use Rattle.save_state_map.specs.Fields.{field_place}
use Rattle.save_state_map.specs.Images.{ImageContents, IsImage, Accepts, number_at, with_number_at, with_number, field_of, with_field}
use Rattle.save_state_map.proofs.Apart.{fields_within}
use Rattle.save_state_map.proofs.Places.{accepted_at}
use Rattle.save_state_access.specs.declared.table.Parts.TheVariants.{One}
use Rattle.save_state_access.specs.Writing.{with_bytes, with_low_bytes}

abbrev pub IsBytes : List ℕ → Type 0
IsBytes xs = (i : ℕ) → get_or xs i 0 < 256

-- ---- a number's bytes are those that it was read from

byte_shift : (i y : ℕ) → byte_at (suc i) y ≡ byte_at i (y / 256)
byte_shift zero y = refl
byte_shift (suc i) y =
    ap (λ (p : ℕ). y / p % 256) (pow-succ' 256 (suc i)) ∙ ap (λ (q : ℕ). q % 256) (sym (div-div-eq-div-mul y 256 (256 ^ suc i)))

bytes_shift : (n i y : ℕ) → bytes_low_first (suc i) n y ≡ bytes_low_first i n (y / 256)
bytes_shift zero i y = refl
bytes_shift (suc n) i y = rw (byte_shift i y, bytes_shift n (suc i) y) refl

pub bytes_of_number : (n : ℕ) (xs : List ℕ) → n ≤ length xs → IsBytes xs → bytes_low_first 0 n (little_from 0 n xs) ≡ take n xs
bytes_of_number zero xs long each = refl
bytes_of_number (suc n) [] long each = absurd (omega arith)
bytes_of_number (suc n) (x ∷ xs) long each =
    let rest : ℕ = little_from 0 n xs in
    let number : little_from 0 (suc n) (x ∷ xs) ≡ x + 256 * rest = ap (λ (r : ℕ). x + 256 * r) (little_from-cons 0 n x xs) in
    let byte : x < 256 = each 0 in
    let first : (x + 256 * rest) % 256 ≡ x = omega arith in
    let others : (x + 256 * rest) / 256 ≡ rest = omega arith in
    ap (λ (y : ℕ). bytes_low_first 0 (suc n) y) number
    ∙ ap (λ (b : ℕ). b ∷ bytes_low_first 1 n (x + 256 * rest)) first
    ∙ ap (λ (l : List ℕ). x ∷ l) (bytes_shift n 0 (x + 256 * rest) ∙ ap (λ (y : ℕ). bytes_low_first 0 n y) others ∙ bytes_of_number n xs (omega arith) (λ i. each (suc i)))

pub fewer_bytes : (k n i y : ℕ) → k ≤ n → take k (bytes_low_first i n y) ≡ bytes_low_first i k y
fewer_bytes zero n i y le = refl
fewer_bytes (suc k) zero i y le = absurd (omega arith)
fewer_bytes (suc k) (suc n) i y le = ap (λ (l : List ℕ). byte_at i y ∷ l) (fewer_bytes k n (suc i) y (omega arith))

-- ---- replacing the front of a list

take_over : (new own : List ℕ) (n : ℕ) → length new ≤ n → n ≤ length own → take n (new ++ drop (length new) own) ≡ new ++ drop (length new) (take n own)
take_over [] own n fits long = refl
take_over (x ∷ new) own zero fits long = absurd (omega arith)
take_over (x ∷ new) [] (suc n) fits long = absurd (omega arith)
take_over (x ∷ new) (y ∷ own) (suc n) fits long = ap (λ (l : List ℕ). x ∷ l) (take_over new own n (omega arith) (omega arith))

front_stays : (w n o : ℕ) (m : List ℕ) → w ≤ n → o + n ≤ length m → drop w (take n (drop o m)) ++ drop (o + n) m ≡ drop (o + w) m
front_stays w n o m le within =
    let rest : List ℕ = drop o m in
    let long : length (take n rest) ≡ n = length-take-le n rest (omega (arith, length-drop o m)) in
    ap (λ (l : List ℕ). drop w (take n rest) ++ l) (sym (drop-drop n o m))
    ∙ sym (drop-append-le w (take n rest) (drop n rest) (omega arith))
    ∙ ap (λ (l : List ℕ). drop w l) (take-append-drop n rest) ∙ drop-drop w o m

pub append_bytes : (xs ys : List ℕ) → IsBytes xs → IsBytes ys → IsBytes (xs ++ ys)
append_bytes xs ys left right i =
    elim (cases_lt i (length xs)) [
      | inl lt ↦ rw (get_or_append_left xs ys 0 i lt) (left i)
      | inr le ↦ rw (get_or-append_right xs ys (length xs) i 0 refl le) (right (i - length xs))
    ]

byte_lt : (i y : ℕ) → byte_at i y < 256
byte_lt zero y = omega arith
byte_lt (suc i) y = omega arith

number_bytes : (n i y k : ℕ) → get_or (bytes_low_first i n y) k 0 < 256
number_bytes zero i y k = omega arith
number_bytes (suc n) i y zero = byte_lt i y
number_bytes (suc n) i y (suc k) = number_bytes n (suc i) y k

-- a number's bytes with others in place of the lowest
abbrev pub replaced : List ℕ → ℕ → List ℕ
replaced new number = new ++ drop (length new) (bytes_low_first 0 8 number)

replaced_bytes : (new : List ℕ) (number : ℕ) → IsBytes new → IsBytes (replaced new number)
replaced_bytes new number each =
    append_bytes new (drop (length new) (bytes_low_first 0 8 number)) each
    (λ i. rw (get_or-drop (length new) (bytes_low_first 0 8 number) i 0) (number_bytes 8 0 number (length new + i)))

length-replaced : (new : List ℕ) (number : ℕ) → length new ≤ 8 → length (replaced new number) ≡ 8
length-replaced new number le =
    omega (arith, length-append new (drop (length new) (bytes_low_first 0 8 number)), length-drop (length new) (bytes_low_first 0 8 number), length-bytes_low_first 0 8 number)

-- ---- in an image

replaced_fits : (p : Place) (new : List ℕ) (number : ℕ) → IsBytes new → little_number p.width (replaced new number) < 256 ^ p.width
replaced_fits p new number each = little_from-lt 0 p.width (replaced new number) (replaced_bytes new number each)

replaced_at : (p : Place) (new m : List ℕ) → p.width ≤ 8 → length new ≤ p.width → p.offset + p.width ≤ length m → IsBytes new → IsBytes m
    → with_number_at p (little_number p.width (replaced new (number_at p m))) m ≡ take p.offset m ++ new ++ drop (p.offset + length new) m
replaced_at p new m small fits within each all =
    let n : ℕ = p.width in
    let own : List ℕ = bytes_low_first 0 8 (number_at p m) in
    let here : List ℕ = drop p.offset m in
    let full : length own ≡ 8 = length-bytes_low_first 0 8 (number_at p m) in
    let long : n ≤ length (replaced new (number_at p m)) = omega (arith, length-replaced new (number_at p m) (omega arith)) in
    let there : n ≤ length here = omega (arith, length-drop p.offset m) in
    let read : take n own ≡ take n here = fewer_bytes n 8 0 (number_at p m) small ∙ bytes_of_number n here there (λ i. rw (get_or-drop p.offset m i 0) (all (p.offset + i))) in
    let written : little_bytes n (little_number n (replaced new (number_at p m))) ≡ new ++ drop (length new) (take n here) =
    bytes_of_number n (replaced new (number_at p m)) long (replaced_bytes new (number_at p m) each)
    ∙ take_over new own n fits (omega arith)
    ∙ ap (λ (l : List ℕ). new ++ drop (length new) l) read in
    ap (λ (l : List ℕ). take p.offset m ++ l ++ drop (p.offset + n) m) written
    ∙ ap (λ (l : List ℕ). l ++ drop (p.offset + n) m) (sym (append_assoc (take p.offset m) new (drop (length new) (take n here))))
    ∙ append_assoc (take p.offset m ++ new) (drop (length new) (take n here)) (drop (p.offset + n) m)
    ∙ ap (λ (l : List ℕ). take p.offset m ++ new ++ l) (front_stays (length new) n p.offset m fits within)

abbrev with_list : ImageContents → List ℕ → ImageContents
with_list m bytes = record { kind = m.kind; bytes = bytes }

abbrev with_field_at : ImageContents → Option Place → ℕ → ImageContents
with_field_at m o number = with_list m (with_number o number m.bytes)

abbrev with_bytes_at : ImageContents → Option Place → List ℕ → ImageContents
with_bytes_at m o new = with_list m (with_bytes o new m.bytes)

-- what setting a field to a number with replaced low bytes leaves
pub low_written : (done : Bool) (m after : ImageContents) (field : Field) (p : Place) (new : List ℕ) (number : ℕ) → IsImage m → IsBytes new → p.width ≤ 8 → length new ≤ p.width
    → Some p ≡ field_place m.kind field → Some number ≡ field_of m field
    → IsTrue done ↔ Accepts m field (little_number p.width (replaced new number))
    → OnTrue done (after ≡ with_field m field (little_number p.width (replaced new number)))
    → after ≡ with_low_bytes m (One field) new
low_written false m after field p new number image each small fits there has accepted changed =
    let no : false ≡ true = accepted.1 (accepted_at m field (little_number p.width (replaced new number)) p there (replaced_fits p new number each)) in
    absurd cc
low_written true m after field p new number image each small fits there has accepted changed =
    let own : Some number ≡ option_map (λ place. number_at place m.bytes) (Some p) = subst (λ (o : Option Place). Some number ≡ option_map (λ place. number_at place m.bytes) o) (sym there) has in
    let same : number ≡ number_at p m.bytes = cc in
    let within : p.offset + p.width ≤ length m.bytes = rw image.size (fields_within m.kind field p (sym there)) in
    let bytes : with_number_at p (little_number p.width (replaced new number)) m.bytes ≡ with_bytes (Some p) new m.bytes = rw same (replaced_at p new m.bytes small fits within each image.each) in
    changed ∙ subst (λ (o : Option Place). with_field_at m o (little_number p.width (replaced new number)) ≡ with_bytes_at m o new) there
    (ap (λ (b : List ℕ). with_list m b) bytes)

-- a field has at most eight bytes
pub width_small : (n : ℕ) → IsTrue (n == 2 || n == 4 || n == 8) → n ≤ 8
width_small n valid = grind (arith, nat_tests)

-- the front of bytes is bytes
pub take_is_bytes : (n : ℕ) (xs : List ℕ) → n ≤ length xs → IsBytes xs → IsBytes (take n xs)
take_is_bytes n xs long each i =
    elim (cases_lt i n) [
      | inl lt ↦ rw (get_or-take n xs i 0 lt) (each i)
      | inr le ↦ rw (get_or_past (take n xs) i 0 (omega (arith, length-take-le n xs long))) (omega arith)
    ]

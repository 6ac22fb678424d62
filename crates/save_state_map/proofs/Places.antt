-- Numbers at their places in an image.
use Rattle.std.proofs.Common.{◌≡◌, ◌≢◌, ℕ, zero, suc, ◌+◌, ◌-◌, ◌^◌, ◌<◌, ◌≤◌, ◌⊎◌, inl, inr, List, ◌++◌, length, take, drop, get_or, Option, Some, None, option_map, refl, sym, ap, subst, ◌∙◌, append_assoc, arith}
use Rattle.std.specs.Prelude.{IsSomeAnd, IfSome}
use Rattle.std.specs.Int.{byte_at, bytes_low_first}
use Rattle.std.proofs.lemmas.List.{length-append, length-take, length-drop, length-take-le, drop_at, get_or-append_right, get_or_append_left, get_or-take, get_or-drop, get_or_past}
use Rattle.std.proofs.lemmas.Bool.{cases_lt}
use Rattle.byteorder.specs.Endian.{little_from, little_number, little_bytes}
use Rattle.byteorder.specs.Numbers.{little_number-reads_back, little_from-lt, length-bytes_low_first}
use Rattle.save_state_map.specs.declared.field.Place.{Place}
use Rattle.save_state_map.specs.declared.field.Field.{Field}
use Rattle.save_state_map.specs.Fields.{field_place}
use Rattle.save_state_map.specs.Images.{ImageContents, IsImage, IsApart, IsOutside, number_at, with_number_at, with_number, field_of, with_field, Accepts}
use Rattle.save_state_map.proofs.Apart.{fields_apart, fields_within}

-- a field that has a place takes each number that fits it
pub accepted_at : (m : ImageContents) (field : Field) (number : ℕ) (place : Place) → Some place ≡ field_place m.kind field → number < 256 ^ place.width → Accepts m field number
accepted_at m field number place e fits = subst (λ (o : Option Place). IsSomeAnd o (λ p. number < 256 ^ p.width)) e fits

-- ---- one place in a list of bytes

length-front : (p : Place) (bytes : List ℕ) → p.offset + p.width ≤ length bytes → length (take p.offset bytes) ≡ p.offset
length-front p bytes within = length-take-le p.offset bytes (omega arith)

length-with_number_at : (p : Place) (x : ℕ) (bytes : List ℕ) → p.offset + p.width ≤ length bytes → length (with_number_at p x bytes) ≡ length bytes
length-with_number_at p x bytes within =
    omega (
      arith,
      length-append (take p.offset bytes ++ little_bytes p.width x) (drop (p.offset + p.width) bytes),
      length-append (take p.offset bytes) (little_bytes p.width x),
      length-front p bytes within,
      length-bytes_low_first 0 p.width x,
      length-drop (p.offset + p.width) bytes,
    )

number_reads_back : (p : Place) (x : ℕ) (bytes : List ℕ) → p.offset + p.width ≤ length bytes → x < 256 ^ p.width → number_at p (with_number_at p x bytes) ≡ x
number_reads_back p x bytes within fits =
    ap (λ (b : List ℕ). little_number p.width (drop p.offset b)) (append_assoc (take p.offset bytes) (little_bytes p.width x) (drop (p.offset + p.width) bytes))
    ∙ ap (λ (b : List ℕ). little_number p.width b) (drop_at (take p.offset bytes) (little_bytes p.width x ++ drop (p.offset + p.width) bytes) p.offset (length-front p bytes within))
    ∙ little_number-reads_back p.width x (drop (p.offset + p.width) bytes) fits

byte_outside : (p : Place) (x : ℕ) (bytes : List ℕ) (at : ℕ) → p.offset + p.width ≤ length bytes → IsOutside p at → get_or (with_number_at p x bytes) at 0 ≡ get_or bytes at 0
byte_outside p x bytes at within (inl before) =
    let front = length-front p bytes within in
    ap (λ (b : List ℕ). get_or b at 0) (append_assoc (take p.offset bytes) (little_bytes p.width x) (drop (p.offset + p.width) bytes))
    ∙ get_or_append_left (take p.offset bytes) (little_bytes p.width x ++ drop (p.offset + p.width) bytes) 0 at (omega arith)
    ∙ get_or-take p.offset bytes at 0 before
byte_outside p x bytes at within (inr behind) =
    let front : length (take p.offset bytes ++ little_bytes p.width x) ≡ p.offset + p.width = omega (arith, length-append (take p.offset bytes) (little_bytes p.width x), length-front p bytes within, length-bytes_low_first 0 p.width x) in
    let there : (p.offset + p.width) + (at - (p.offset + p.width)) ≡ at = omega arith in
    get_or-append_right (take p.offset bytes ++ little_bytes p.width x) (drop (p.offset + p.width) bytes) (p.offset + p.width) at 0 front behind
    ∙ get_or-drop (p.offset + p.width) bytes (at - (p.offset + p.width)) 0
    ∙ ap (λ (k : ℕ). get_or bytes k 0) there

little_from-same : (n i : ℕ) (xs ys : List ℕ) → ((k : ℕ) → i ≤ k → k < i + n → get_or xs k 0 ≡ get_or ys k 0) → little_from i n xs ≡ little_from i n ys
little_from-same zero i xs ys same = refl
little_from-same (suc n) i xs ys same =
    let here : get_or xs i 0 ≡ get_or ys i 0 = same i (omega arith) (omega arith) in
    let rest : little_from (suc i) n xs ≡ little_from (suc i) n ys = little_from-same n (suc i) xs ys (λ k low high. same k (omega arith) (omega arith)) in
    rw (here, rest) refl

number_elsewhere : (p q : Place) (x : ℕ) (bytes : List ℕ) → p.offset + p.width ≤ length bytes → IsApart p q → number_at q (with_number_at p x bytes) ≡ number_at q bytes
number_elsewhere p q x bytes within apart =
    little_from-same q.width 0 (drop q.offset (with_number_at p x bytes)) (drop q.offset bytes)
    (λ k low high.
    let outside : IsOutside p (q.offset + k) = elim apart [ inl before ↦ inr (omega arith) | inr behind ↦ inl (omega arith) ] in
    get_or-drop q.offset (with_number_at p x bytes) k 0 ∙ byte_outside p x bytes (q.offset + k) within outside ∙ sym (get_or-drop q.offset bytes k 0))

-- the bytes of a number are bytes
byte_at-lt : (i x : ℕ) → byte_at i x < 256
byte_at-lt zero x = omega arith
byte_at-lt (suc i) x = omega arith

little_bytes-lt : (n i x at : ℕ) → get_or (bytes_low_first i n x) at 0 < 256
little_bytes-lt zero i x at = omega arith
little_bytes-lt (suc n) i x zero = byte_at-lt i x
little_bytes-lt (suc n) i x (suc at) = little_bytes-lt n (suc i) x at

append_bytes : (xs ys : List ℕ) → ((i : ℕ) → get_or xs i 0 < 256) → ((i : ℕ) → get_or ys i 0 < 256) → (i : ℕ) → get_or (xs ++ ys) i 0 < 256
append_bytes xs ys left right i =
    elim (cases_lt i (length xs)) [
      | inl lt ↦ rw (get_or_append_left xs ys 0 i lt) (left i)
      | inr le ↦ rw (get_or-append_right xs ys (length xs) i 0 refl le) (right (i - length xs))
    ]

take_bytes : (n : ℕ) (xs : List ℕ) → ((i : ℕ) → get_or xs i 0 < 256) → (i : ℕ) → get_or (take n xs) i 0 < 256
take_bytes n xs each i =
    elim (cases_lt i n) [
      | inl lt ↦ rw (get_or-take n xs i 0 lt) (each i)
      | inr le ↦ rw (get_or_past (take n xs) i 0 (omega (arith, length-take n xs))) (omega arith)
    ]

with_number_at_bytes : (p : Place) (x : ℕ) (bytes : List ℕ) → ((i : ℕ) → get_or bytes i 0 < 256) → (i : ℕ) → get_or (with_number_at p x bytes) i 0 < 256
with_number_at_bytes p x bytes each =
    append_bytes (take p.offset bytes ++ little_bytes p.width x) (drop (p.offset + p.width) bytes)
    (append_bytes (take p.offset bytes) (little_bytes p.width x) (take_bytes p.offset bytes each) (little_bytes-lt p.width 0 x))
    (λ i. rw (get_or-drop (p.offset + p.width) bytes i 0) (each ((p.offset + p.width) + i)))

-- ---- fields of an image

-- the place of a field that the image's map has, or none
place_or_none : (o : Option Place) → (o ≡ None) ⊎ ((p : Place) × (o ≡ Some p))
place_or_none None = inl refl
place_or_none (Some p) = inr (p, refl)

within_image : (m : ImageContents) (f : Field) (p : Place) → IsImage m → field_place m.kind f ≡ Some p → p.offset + p.width ≤ length m.bytes
within_image m f p image there = rw image.size (fields_within m.kind f p there)

-- a number that a field took is read back
pub field_reads_back : (m : ImageContents) (f : Field) (x : ℕ) → IsImage m → Accepts m f x → field_of (with_field m f x) f ≡ Some x
field_reads_back m f x image taken =
    elim (place_or_none (field_place m.kind f)) [
      | inl none ↦ absurd (subst (λ (o : Option Place). IsSomeAnd o (λ p. x < 256 ^ p.width)) none taken)
      | inr (p, there) ↦
          let fits : x < 256 ^ p.width = subst (λ (o : Option Place). IsSomeAnd o (λ p. x < 256 ^ p.width)) there taken in
          subst (λ (o : Option Place). option_map (λ place. number_at place (with_number o x m.bytes)) o ≡ Some x) (sym there)
          (ap (λ (n : ℕ). Some n) (number_reads_back p x m.bytes (within_image m f p image there) fits))
    ]

-- every other field keeps its number
pub other_field_stays : (m : ImageContents) (f g : Field) (x : ℕ) → IsImage m → f ≢ g → field_of (with_field m f x) g ≡ field_of m g
other_field_stays m f g x image differ =
    elim (place_or_none (field_place m.kind f)) [
      | inl none ↦ subst (λ (o : Option Place). option_map (λ place. number_at place (with_number o x m.bytes)) (field_place m.kind g) ≡ field_of m g) (sym none) refl
      | inr (p, there) ↦
          subst (λ (o : Option Place). option_map (λ place. number_at place (with_number o x m.bytes)) (field_place m.kind g) ≡ field_of m g) (sym there)
          (elim (place_or_none (field_place m.kind g)) [
            | inl none ↦ subst (λ (o : Option Place). option_map (λ place. number_at place (with_number_at p x m.bytes)) o ≡ option_map (λ place. number_at place m.bytes) o) (sym none) refl
            | inr (q, here) ↦ subst (λ (o : Option Place). option_map (λ place. number_at place (with_number_at p x m.bytes)) o ≡ option_map (λ place. number_at place m.bytes) o) (sym here)
                (ap (λ (n : ℕ). Some n) (number_elsewhere p q x m.bytes (within_image m f p image there) (fields_apart m.kind f g p q differ there here)))
          ])
    ]

-- a byte outside the field stays
pub other_byte_stays : (m : ImageContents) (f : Field) (x at : ℕ) → IsImage m → IfSome (field_place m.kind f) (λ p. IsOutside p at) → get_or (with_field m f x).bytes at 0 ≡ get_or m.bytes at 0
other_byte_stays m f x at image outside =
    elim (place_or_none (field_place m.kind f)) [
      | inl none ↦ subst (λ (o : Option Place). get_or (with_number o x m.bytes) at 0 ≡ get_or m.bytes at 0) (sym none) refl
      | inr (p, there) ↦
          let out : IsOutside p at = subst (λ (o : Option Place). IfSome o (λ p. IsOutside p at)) there outside in
          subst (λ (o : Option Place). get_or (with_number o x m.bytes) at 0 ≡ get_or m.bytes at 0) (sym there) (byte_outside p x m.bytes at (within_image m f p image there) out)
    ]

-- an image stays an image
pub stays_image : (m : ImageContents) (f : Field) (x : ℕ) → IsImage m → IsImage (with_field m f x)
stays_image m f x image =
    elim (place_or_none (field_place m.kind f)) [
      | inl none ↦ subst (λ (o : Option Place). IsImage (record { kind = m.kind; bytes = with_number o x m.bytes })) (sym none) image
      | inr (p, there) ↦ subst (λ (o : Option Place). IsImage (record { kind = m.kind; bytes = with_number o x m.bytes })) (sym there)
          (record { size = length-with_number_at p x m.bytes (within_image m f p image there) ∙ image.size; each = with_number_at_bytes p x m.bytes image.each })
    ]

-- an image takes the numbers that it has
pub takes_own : (m : ImageContents) (f : Field) (x : ℕ) → IsImage m → field_of m f ≡ Some x → Accepts m f x
takes_own m f x image has =
    elim (place_or_none (field_place m.kind f)) [
      | inl none ↦
          let nothing : option_map (λ place. number_at place m.bytes) None ≡ Some x = subst (λ (o : Option Place). option_map (λ place. number_at place m.bytes) o ≡ Some x) none has in
          absurd cc
      | inr (p, there) ↦
          let own : option_map (λ place. number_at place m.bytes) (Some p) ≡ Some x = subst (λ (o : Option Place). option_map (λ place. number_at place m.bytes) o ≡ Some x) there has in
          let number : number_at p m.bytes ≡ x = cc in
          accepted_at m f x p (sym there) (rw (← number) (little_from-lt 0 p.width (drop p.offset m.bytes) (λ k. rw (get_or-drop p.offset m.bytes k 0) (image.each (p.offset + k)))))
    ]

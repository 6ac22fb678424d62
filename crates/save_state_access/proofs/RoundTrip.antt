-- What was written into a register is read from it.
use Rattle.std.proofs.Common.{◌≡◌, ℕ, ◌+◌, ◌<◌, ◌≤◌, Bool, true, leb, ◌⊎◌, inl, inr, List, ◌++◌, length, take, drop, Option, Some, None, option_map, refl, sym, ap, subst, ◌∙◌, append_assoc, arith}
use Rattle.std.specs.Prelude.{All, IfSome, IsSomeAnd}
use Rattle.std.specs.List.{list_all}
use Rattle.std.proofs.lemmas.List.{length-take-le, length-drop, length-append, take-take, take_at, drop_at, get_or-drop, get_or_past}
use Rattle.std.proofs.lemmas.Bool.{cases_lt, leb-true}
use Rattle.byteorder.specs.Endian.{little_bytes}
use Rattle.save_state_map.specs.declared.field.Place.{Place}
use Rattle.smm_base.specs.declared.kinds.MapKind.{MapKind}
use Rattle.smm_base.specs.declared.kinds.MapKind.TheVariants.{Ia32, Intel64}
use Rattle.save_state_map.specs.declared.field.Field.{Field}
use Rattle.save_state_map.specs.declared.field.TheConstants.{FIELDS}
use Rattle.save_state_map.specs.Fields.{field_place}
use Rattle.save_state_map.specs.Images.{ImageContents, IsImage, number_at}
use Rattle.save_state_map.proofs.Apart.{all_fields, fields_within}
use Rattle.save_state_access.specs.declared.table.Parts.{Parts}
use Rattle.save_state_access.specs.declared.table.Parts.TheVariants.{Missing, One, Pair}
use Rattle.save_state_access.specs.Reading.{register_bytes}
use Rattle.save_state_access.specs.Writing.{is_written, with_bytes, with_low_bytes}
use Rattle.save_state_access.proofs.LowBytes.{IsBytes, bytes_of_number, fewer_bytes, append_bytes, take_is_bytes}

-- the low bytes of the number at a place where bytes were put are those bytes
pub put_then_read : (p : Place) (new m : List ℕ) → p.width ≤ 8 → length new ≤ p.width → p.offset + p.width ≤ length m → IsBytes new → IsBytes m
    → take (length new) (little_bytes 8 (number_at p (take p.offset m ++ new ++ drop (p.offset + length new) m))) ≡ new
put_then_read p new m small fits within each all =
    let w : ℕ = length new in
    let after : List ℕ = take p.offset m ++ new ++ drop (p.offset + w) m in
    let front : length (take p.offset m) ≡ p.offset = length-take-le p.offset m (omega arith) in
    let size : length after ≡ length m = omega (arith, length-append (take p.offset m ++ new) (drop (p.offset + w) m), length-append (take p.offset m) new, front, length-drop (p.offset + w) m) in
    let here : List ℕ = drop p.offset after in
    let long : p.width ≤ length here = omega (arith, length-drop p.offset after, size) in
    let bytes : IsBytes after = append_bytes (take p.offset m ++ new) (drop (p.offset + w) m) (append_bytes (take p.offset m) new (take_is_bytes p.offset m (omega arith) all) each) (λ i. rw (get_or-drop (p.offset + w) m i 0) (all ((p.offset + w) + i))) in
    let there : here ≡ new ++ drop (p.offset + w) m = ap (λ (l : List ℕ). drop p.offset l) (append_assoc (take p.offset m) new (drop (p.offset + w) m)) ∙ drop_at (take p.offset m) (new ++ drop (p.offset + w) m) p.offset front in
    fewer_bytes w 8 0 (number_at p after) (omega arith)
    ∙ sym (fewer_bytes w p.width 0 (number_at p after) fits)
    ∙ ap (λ (l : List ℕ). take w l) (bytes_of_number p.width here long (λ i. rw (get_or-drop p.offset after i 0) (bytes (p.offset + i))))
    ∙ take-take w p.width here fits
    ∙ ap (λ (l : List ℕ). take w l) there ∙ take_at new (drop (p.offset + w) m) w refl

-- a place, or none
place_or_none : (o : Option Place) → (o ≡ None) ⊎ ((p : Place) × (o ≡ Some p))
place_or_none None = inl refl
place_or_none (Some p) = inr (p, refl)

-- no field has more than eight bytes
abbrev is_narrow : Option Place → Bool
is_narrow (Some p) = leb p.width 8
is_narrow None = true

all_narrow : (kind : MapKind) → list_all (λ f. is_narrow (field_place kind f)) FIELDS ≡ true
all_narrow Ia32 = refl
all_narrow Intel64 = refl

width_bound : (kind : MapKind) (f : Field) (p : Place) → field_place kind f ≡ Some p → p.width ≤ 8
width_bound kind f p there =
    let test : is_narrow (field_place kind f) ≡ true = all_fields (λ g. is_narrow (field_place kind g)) (all_narrow kind) f in
    let here : is_narrow (Some p) ≡ true = subst (λ (o : Option Place). is_narrow o ≡ true) there test in
    leb-true p.width 8 here

-- the register of one field, with the field's place in hand
abbrev placed : List ℕ → Option Place → Option (ℕ × List ℕ)
placed bytes o = option_map (λ place. (place.width, little_bytes 8 (number_at place bytes))) o

read_at : (o : Option Place) (new m : List ℕ) → IfSome o (λ p. (p.width ≤ 8) × (p.offset + p.width ≤ length m)) → IsSomeAnd (placed m o) (λ r. length new ≤ r.0) → IsBytes new → IsBytes m
    → IsSomeAnd (placed (with_bytes o new m) o) (λ r. take (length new) r.1 ≡ new)
read_at None new m within fits each all = absurd fits
read_at (Some p) new m within fits each all = put_then_read p new m within.0 fits within.1 each all

within_at : (m : ImageContents) (f : Field) → IsImage m → IfSome (field_place m.kind f) (λ p. (p.width ≤ 8) × (p.offset + p.width ≤ length m.bytes))
within_at m f image =
    elim (place_or_none (field_place m.kind f)) [
      | inl none ↦ subst (λ (o : Option Place). IfSome o (λ p. (p.width ≤ 8) × (p.offset + p.width ≤ length m.bytes))) (sym none) tt
      | inr (p, there) ↦ subst (λ (o : Option Place). IfSome o (λ p. (p.width ≤ 8) × (p.offset + p.width ≤ length m.bytes))) (sym there)
          (width_bound m.kind f p there, rw image.size (fields_within m.kind f p there))
    ]

-- the low bytes that were written are the low bytes that are read
pub written_is_read : (m : ImageContents) (parts : Parts) (new : List ℕ) → IsImage m → IsBytes new → is_written parts ≡ true → IsSomeAnd (register_bytes m parts) (λ register. length new ≤ register.0)
    → IsSomeAnd (register_bytes (with_low_bytes m parts new) parts) (λ register. take (length new) register.1 ≡ new)
written_is_read m Missing new image each can fits = absurd cc
written_is_read m (One f) new image each can fits = read_at (field_place m.kind f) new m.bytes (within_at m f image) fits each image.each
written_is_read m (Pair low high) new image each can fits = absurd cc

-- each byte of a list is below 256, at any place
pub all_bytes : (xs : List ℕ) → All (λ byte. byte < 256) xs → IsBytes xs
all_bytes xs each i =
    elim (cases_lt i (length xs)) [
      | inl lt ↦ each i 0 lt
      | inr le ↦ rw (get_or_past xs i 0 le) (omega arith)
    ]

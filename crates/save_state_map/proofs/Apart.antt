-- No two fields of a map have a byte in common.
use Rattle.std.proofs.Common.{◌≡◌, ◌≢◌, ℕ, zero, suc, ◌+◌, ◌≤◌, Bool, true, false, ◌&&◌, ◌||◌, List, [], ◌∷◌, Option, Some, None, refl, sym, ap, subst, ◌∙◌, eqb, leb, ◌⊎◌, inl, inr}
use Rattle.std.specs.List.{list_all, slice_get}
use Rattle.std.proofs.lemmas.Bool.{eqb-true, leb-true}
use Rattle.smm_base.specs.declared.kinds.MapKind.{MapKind}
use Rattle.smm_base.specs.declared.kinds.MapKind.TheVariants.{Ia32, Intel64}
use Rattle.save_state_map.specs.declared.field.Place.{Place}
use Rattle.save_state_map.specs.declared.field.Field.{Field}
use Rattle.save_state_map.specs.declared.field.Field.TheVariants.{Cr0}
use Rattle.save_state_map.specs.declared.field.TheConstants.{FIELDS}
use Rattle.save_state_map.specs.Fields.{field_index, field_place, image_length}
use Rattle.save_state_map.specs.Images.{IsApart}

-- each field stands in the list at its index
pub listed : (f : Field) → slice_get FIELDS (field_index f) ≡ Some f
listed Cr0 = refl
listed _ = refl

-- fields with one index are one field
pub same_index : (f g : Field) → field_index f ≡ field_index g → f ≡ g
same_index f g e =
    let left = listed f in
    let right = listed g in
    let both : slice_get FIELDS (field_index f) ≡ slice_get FIELDS (field_index g) = ap (slice_get FIELDS) e in
    cc

and_both : (a b : Bool) → (a && b) ≡ true → (a ≡ true) × (b ≡ true)
and_both true b e = (refl, e)
and_both false b e = absurd cc

or_either : (a b : Bool) → (a || b) ≡ true → (a ≡ true) ⊎ (b ≡ true)
or_either true b e = inl refl
or_either false b e = inr e

-- what passes of a list that passes
all_at : (p : Field → Bool) (xs : List Field) (i : ℕ) (f : Field) → list_all p xs ≡ true → slice_get xs i ≡ Some f → p f ≡ true
all_at p [] i f all at = absurd cc
all_at p (x ∷ xs) zero f all at =
    let here : x ≡ f = cc in
    ap p (sym here) ∙ (and_both (p x) (list_all p xs) all).0
all_at p (x ∷ xs) (suc i) f all at = all_at p xs i f (and_both (p x) (list_all p xs) all).1 at

pub all_fields : (p : Field → Bool) → list_all p FIELDS ≡ true → (f : Field) → p f ≡ true
all_fields p all f = all_at p FIELDS (field_index f) f all (listed f)

-- whether one of two places ends before the other begins
abbrev ends_before : Option Place → Option Place → Bool
ends_before (Some p) (Some q) = leb (p.offset + p.width) q.offset || leb (q.offset + q.width) p.offset
ends_before _ _ = true

abbrev is_apart : MapKind → Field → Field → Bool
is_apart kind f g = eqb (field_index f) (field_index g) || ends_before (field_place kind f) (field_place kind g)

-- the test of each pair of fields
all_apart : (kind : MapKind) → list_all (λ f. list_all (λ g. is_apart kind f g) FIELDS) FIELDS ≡ true
all_apart Ia32 = refl
all_apart Intel64 = refl

pub fields_apart : (kind : MapKind) (f g : Field) (p q : Place) → f ≢ g → field_place kind f ≡ Some p → field_place kind g ≡ Some q → IsApart p q
fields_apart kind f g p q differ there here =
    let row = all_fields (λ f. list_all (λ g. is_apart kind f g) FIELDS) (all_apart kind) f in
    let pair : is_apart kind f g ≡ true = all_fields (λ g. is_apart kind f g) row g in
    elim (or_either (eqb (field_index f) (field_index g)) (ends_before (field_place kind f) (field_place kind g)) pair) [
      | inl same ↦ absurd (differ (same_index f g (eqb-true _ _ same)))
      | inr apart ↦
          let first : ends_before (Some p) (field_place kind g) ≡ true = subst (λ (o : Option Place). ends_before o (field_place kind g) ≡ true) there apart in
          let placed : ends_before (Some p) (Some q) ≡ true = subst (λ (o : Option Place). ends_before (Some p) o ≡ true) here first in
          elim (or_either (leb (p.offset + p.width) q.offset) (leb (q.offset + q.width) p.offset) placed) [
            | inl before ↦ inl (leb-true _ _ before)
            | inr behind ↦ inr (leb-true _ _ behind)
          ]
    ]

-- ---- each field lies within its image

abbrev ends_within : MapKind → Option Place → Bool
ends_within kind (Some p) = leb (p.offset + p.width) (image_length kind)
ends_within kind None = true

all_within : (kind : MapKind) → list_all (λ f. ends_within kind (field_place kind f)) FIELDS ≡ true
all_within Ia32 = refl
all_within Intel64 = refl

pub fields_within : (kind : MapKind) (f : Field) (p : Place) → field_place kind f ≡ Some p → p.offset + p.width ≤ image_length kind
fields_within kind f p there =
    let test : ends_within kind (field_place kind f) ≡ true = all_fields (λ f. ends_within kind (field_place kind f)) (all_within kind) f in
    let here : ends_within kind (Some p) ≡ true = subst (λ (o : Option Place). ends_within kind o ≡ true) there test in
    leb-true (p.offset + p.width) (image_length kind) here

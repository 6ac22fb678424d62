-- The registers that an image holds.
use Rattle.std.proofs.Common.{◌≡◌, ℕ, zero, suc, ◌+◌, ◌^◌, ◌<◌, ◌≤◌, inl, inr, Bool, true, false, cond, List, [], ◌∷◌, length, get_or, set, map, Option, Some, None, refl, sym, ap, subst, ◌∙◌, arith}
use Rattle.std.specs.Prelude.{unwrap_or, option_map, is_some, ◌&&◌, not, IsSomeAnd}
use Rattle.std.specs.List.{slice_get}
use Rattle.std.proofs.lemmas.List.{ext_get_or, length-map, get_or-set_same, get_or-set_other}
use Rattle.std.proofs.lemmas.Bool.{cases_eq}
use Rattle.std.proofs.Math.Nat.{one-le-pow}
use Rattle.save_state_map.specs.declared.field.Place.{Place}
use Rattle.save_state_map.specs.declared.field.Field.{Field}
use Rattle.save_state_map.specs.declared.field.TheConstants.{FIELDS}
use Rattle.save_state_map.specs.Fields.{field_place, field_index}
use Rattle.save_state_map.specs.Images.{ImageContents, IsImage, field_of, number_at}
use Rattle.save_state_map.proofs.Places.{takes_own}
use Rattle.save_state_map.proofs.Apart.{listed}
use Rattle.cpu_regs.specs.Registers.{IsRegisters, is_event_field, is_kept, kept_number, loaded, register_of}

-- a list made of another is read where the other is
map_at : {X : Type 0} (f : X → ℕ) (xs : List X) (i : ℕ) (x : X) → slice_get xs i ≡ Some x → get_or (map f xs) i 0 ≡ f x
map_at f [] i x at = absurd cc
map_at f (y ∷ xs) zero x at =
    let here : y ≡ x = cc in
    ap f here
map_at f (y ∷ xs) (suc i) x at = map_at f xs i x at

-- the number of a field among the numbers of all fields
pub mapped_number : (f : Field → ℕ) (field : Field) → get_or (map f FIELDS) (field_index field) 0 ≡ f field
mapped_number f field = map_at f FIELDS (field_index field) field (listed field)

-- one step of filling a list of numbers with those of another
pub filled_more : (xs ys : List ℕ) (n i y : ℕ) → length xs ≡ n → i < n → y ≡ get_or ys i 0 → ((k : ℕ) → k < i → get_or xs k 0 ≡ get_or ys k 0) → (k : ℕ) → k < i + 1 → get_or (set xs i y) k 0 ≡ get_or ys k 0
filled_more xs ys n i y size lt here before k below =
    elim (cases_eq k i) [
      | inl same ↦ rw same (get_or-set_same xs i y 0 (omega arith) ∙ here)
      | inr other ↦ get_or-set_other xs i k y 0 other ∙ before k (omega arith)
    ]

-- a list that was filled whole is the other
pub filled : (xs ys : List ℕ) (n i : ℕ) → length xs ≡ n → length ys ≡ n → n ≤ i → ((k : ℕ) → k < i → get_or xs k 0 ≡ get_or ys k 0) → xs ≡ ys
filled xs ys n i size other le same = ext_get_or 0 xs ys (omega arith) (λ k lt. same k (omega arith))

-- an image's number of a field fits the field
number_fits : (m : ImageContents) (field : Field) (place : Place) → IsImage m → field_place m.kind field ≡ Some place → unwrap_or (field_of m field) 0 < 256 ^ place.width
number_fits m field place image there =
    let number : ℕ = unwrap_or (field_of m field) 0 in
    let read : field_of m field ≡ Some number = subst (λ (o : Option Place). option_map (λ p. number_at p m.bytes) o ≡ Some (unwrap_or (option_map (λ p. number_at p m.bytes) o) 0)) (sym there) refl in
    subst (λ (o : Option Place). IsSomeAnd o (λ p. number < 256 ^ p.width)) there (takes_own m field number image read)

power_pos : (n : ℕ) → 0 < 256 ^ n
power_pos n = let h = one-le-pow n 256 (omega arith) in omega arith

kept_fits : (m : ImageContents) (field : Field) (place : Place) (kept : Bool) → IsImage m → field_place m.kind field ≡ Some place → cond kept (unwrap_or (field_of m field) 0) 0 < 256 ^ place.width
kept_fits m field place true image there = number_fits m field place image there
kept_fits m field place false image there = power_pos place.width

-- what an image holds are registers
pub loaded_registers : (m : ImageContents) → IsImage m → IsRegisters (loaded m)
loaded_registers m image =
    record {
      size = length-map FIELDS (kept_number m);
      fit = λ field place there. rw (mapped_number (kept_number m) field) (kept_fits m field place (is_kept m.kind field) image there);
      others = λ field out. mapped_number (kept_number m) field ∙ ap (λ (b : Bool). cond b (unwrap_or (field_of m field) 0) 0) out;
    }

-- a field's number where the map has it and it tells of no interrupt, with the field's place in hand
kept_where : (bytes : List ℕ) (o : Option Place) (event : Bool)
    → cond (is_some o && not event) (Some (cond (is_some o && not event) (unwrap_or (option_map (λ p. number_at p bytes) o) 0) 0)) None
    ≡ cond event None (option_map (λ p. number_at p bytes) o)
kept_where bytes None true = refl
kept_where bytes None false = refl
kept_where bytes (Some place) true = refl
kept_where bytes (Some place) false = refl

-- the registers that are loaded from an image are its fields, but for those that tell of the interrupt
pub loaded_fields : (m : ImageContents) (field : Field) → register_of (loaded m) field ≡ cond (is_event_field field) None (field_of m field)
loaded_fields m field =
    ap (λ (n : ℕ). cond (is_kept m.kind field) (Some n) None) (mapped_number (kept_number m) field)
    ∙ kept_where m.bytes (field_place m.kind field) (is_event_field field)

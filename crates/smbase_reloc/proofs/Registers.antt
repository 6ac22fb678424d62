-- Registers that are loaded from a save state in which SMBASE was replaced.
use Rattle.std.proofs.Common.{◌≡◌, ◌≢◌, ℕ, ◌^◌, ◌<◌, Bool, true, false, if◌then◌else◌, List, length, map, set, Option, Some, None, refl, sym, ap, ◌∙◌, arith}
use Rattle.std.specs.Prelude.{unwrap_or, IsSomeAnd}
use Rattle.std.proofs.lemmas.List.{get_or-set_same, get_or-set_other}
use Rattle.smm_base.specs.declared.kinds.MapKind.{MapKind}
use Rattle.smm_base.specs.declared.kinds.MapKind.TheVariants.{Ia32, Intel64}
use Rattle.save_state_map.specs.declared.field.Field.{Field}
use Rattle.save_state_map.specs.declared.field.Field.TheVariants.{Smbase}
use Rattle.save_state_map.specs.declared.field.TheConstants.{FIELDS}
use Rattle.save_state_map.specs.Fields.{field_place, field_index}
use Rattle.save_state_map.specs.Images.{ImageContents, IsImage, Accepts, field_of, with_field}
use Rattle.cpu_regs.specs.Registers.{Registers, IsRegisters, is_kept, kept_number, number_of, register_of, loaded}
use Rattle.smbase_reloc.specs.Relocation.{with_smbase}

abbrev is_smbase : Field → Bool
is_smbase Smbase = true
is_smbase _ = false

same : (f : Field) → is_smbase f ≡ true → f ≡ Smbase
same Smbase h = refl
same _ h = absurd cc

differs : (f : Field) → is_smbase f ≡ false → f ≢ Smbase
differs f h e =
    let t : true ≡ false = sym (ap is_smbase e) ∙ h in absurd cc

-- both maps have SMBASE, in 4 bytes, and registers keep it
pub kept : (kind : MapKind) → is_kept kind Smbase ≡ true
kept Ia32 = refl
kept Intel64 = refl

takes : (kind : MapKind) (x : ℕ) → x < 2 ^ 32 → IsSomeAnd (field_place kind Smbase) (λ place. x < 256 ^ place.width)
takes Ia32 x h = h
takes Intel64 x h = h

pub accepts : (m : ImageContents) (x : ℕ) → x < 2 ^ 32 → Accepts m Smbase x
accepts m x h = takes m.kind x h

abbrev pub ReadsBack : Type 0
ReadsBack = (m : ImageContents) (f : Field) (x : ℕ) → IsImage m → Accepts m f x → field_of (with_field m f x) f ≡ Some x

abbrev pub OthersStay : Type 0
OthersStay = (m : ImageContents) (f g : Field) (x : ℕ) → IsImage m → f ≢ g → field_of (with_field m f x) g ≡ field_of m g

abbrev replaced : (Field → ℕ) → ℕ → Field → ℕ
replaced g x f = if is_smbase f then x else g f

each_by : ReadsBack → OthersStay → (m : ImageContents) (x : ℕ) (f : Field) (b : Bool) → IsImage m → Accepts m Smbase x → is_smbase f ≡ b → kept_number (with_field m Smbase x) f ≡ (if b then x else kept_number m f)
each_by reads others m x f true image fits is =
    let it : f ≡ Smbase = same f is in
    let there : kept_number (with_field m Smbase x) Smbase ≡ x =
    ap (λ (b : Bool). if b then unwrap_or (field_of (with_field m Smbase x) Smbase) 0 else 0) (kept m.kind) ∙ ap (λ (o : Option ℕ). unwrap_or o 0) (reads m Smbase x image fits) in
    ap (kept_number (with_field m Smbase x)) it ∙ there
each_by reads others m x f false image fits is =
    ap (λ (o : Option ℕ). if is_kept m.kind f then unwrap_or o 0 else 0) (others m Smbase f x image (λ e. differs f is (sym e)))

set_mapped : (g : Field → ℕ) (x : ℕ) → map (replaced g x) FIELDS ≡ set (map g FIELDS) (field_index Smbase) x
set_mapped g x = refl

pub loaded_with_smbase : ReadsBack → OthersStay → (m : ImageContents) (x : ℕ) → IsImage m → Accepts m Smbase x → loaded (with_field m Smbase x) ≡ with_smbase x (loaded m)
loaded_with_smbase reads others m x image fits =
    let each : (f : Field) → kept_number (with_field m Smbase x) f ≡ replaced (kept_number m) x f = λ f. each_by reads others m x f (is_smbase f) image fits refl in
    let numbers : map (kept_number (with_field m Smbase x)) FIELDS ≡ set (map (kept_number m) FIELDS) (field_index Smbase) x = (λ t. map (λ f. each f t) FIELDS) ∙ set_mapped (kept_number m) x in
    ap (λ (ns : List ℕ). record { kind = m.kind; numbers = ns }) numbers

-- what the registers hold then
pub smbase_is : (r : Registers) (x : ℕ) → IsRegisters r → register_of (with_smbase x r) Smbase ≡ Some x
smbase_is r x are =
    let size : length r.numbers ≡ 44 = are.size in
    ap (λ (b : Bool). if b then Some (number_of (with_smbase x r) Smbase) else None) (kept r.kind) ∙ ap Some (get_or-set_same r.numbers 36 x 0 (omega (arith, size)))

apart : (f : Field) → is_smbase f ≡ false → field_index f ≢ 36
apart Smbase h = absurd cc
apart _ h = omega arith

other_by : (r : Registers) (x : ℕ) (f : Field) (b : Bool) → is_smbase f ≡ b → Smbase ≢ f → register_of (with_smbase x r) f ≡ register_of r f
other_by r x f true is other = absurd (other (sym (same f is)))
other_by r x f false is other = ap (λ (n : ℕ). if is_kept r.kind f then Some n else None) (get_or-set_other r.numbers 36 (field_index f) x 0 (apart f is))

pub other_is : (r : Registers) (x : ℕ) (f : Field) → Smbase ≢ f → register_of (with_smbase x r) f ≡ register_of r f
other_is r x f other = other_by r x f (is_smbase f) refl other

-- What entering leaves in an image, and that resuming from it gives the registers back.
use Rattle.std.proofs.Common.{◌≡◌, ◌≢◌, ◌↔◌, ℕ, zero, suc, ◌+◌, ◌^◌, ◌<◌, ◌≤◌, ◌⊎◌, inl, inr, Bool, true, false, ◌&&◌, not, cond, List, [], ◌∷◌, length, get_or, drop, map, Option, Some, None, is_some, refl, sym, ap, subst, ◌∙◌, zero-add, arith}
use Rattle.std.specs.Prelude.{unwrap_or, option_map, IsTrue, IfSome}
use Rattle.std.specs.Bool.{OnTrue, OnFalse}
use Rattle.std.specs.List.{slice_get, range_with_len}
use Rattle.std.proofs.lemmas.List.{drop_more, drop_all, ext_get_or, length-map, get_or-map}
use Rattle.std.proofs.lemmas.Bool.Decides.{eqb_tells, nat_tests}
use Rattle.std.proofs.lemmas.List.FromFn.{get_or-range_with_len}
use Rattle.smm_base.specs.declared.kinds.MapKind.{MapKind}
use Rattle.smm_base.specs.declared.kinds.MapKind.TheVariants.{Ia32, Intel64}
use Rattle.smm_base.specs.Kinds.{is_io_length, is_io_type}
use Rattle.smm_base.specs.declared.kinds.IoCause.{IoCause}
use Rattle.smm_base.specs.declared.kinds.Cause.{Cause}
use Rattle.save_state_map.specs.declared.field.Place.{Place}
use Rattle.save_state_map.specs.declared.field.Field.{Field}
use Rattle.save_state_map.specs.declared.field.Field.TheVariants.{Cr0, AutoHalt, IoState, IoRestart, IoMemoryAddress}
use Rattle.save_state_map.specs.declared.field.TheConstants.{FIELDS}
use Rattle.save_state_map.specs.Fields.{field_place, field_index}
use Rattle.save_state_map.specs.Images.{ImageContents, IsImage, Accepts, field_of, with_field, with_number}
use Rattle.save_state_map.proofs.Places.{accepted_at, field_reads_back, other_field_stays, other_byte_stays, stays_image}
use Rattle.save_state_map.proofs.Apart.{listed, same_index}
use Rattle.cpu_regs.specs.Registers.{Registers, IsRegisters, is_event_field, is_kept, number_of, kept_number, loaded}
use Rattle.cpu_regs.specs.Entering.{io_state, event_number, entered, with_fields, saved, IsOfNoField}

-- each number fits its field, in this map
abbrev pub AllFit : MapKind → (Field → ℕ) → Type 0
AllFit kind numbers = (field : Field) (place : Place) → field_place kind field ≡ Some place → numbers field < 256 ^ place.width

-- a place, or none
place_or_none : (o : Option Place) → (o ≡ None) ⊎ ((p : Place) × (o ≡ Some p))
place_or_none None = inl refl
place_or_none (Some p) = inr (p, refl)

-- ---- one field after the other

-- what setting a field leaves, whether the map has the field or not
pub field_set : (done : Bool) (m new : ImageContents) (field : Field) (x : ℕ) → ((place : Place) → field_place m.kind field ≡ Some place → x < 256 ^ place.width)
    → IsTrue done ↔ Accepts m field x → OnTrue done (new ≡ with_field m field x) → OnFalse done (new ≡ m) → new ≡ with_field m field x
field_set true m new field x fits accepted changed refused = changed
field_set false m new field x fits accepted changed refused =
    elim (place_or_none (field_place m.kind field)) [
      | inl none ↦ refused ∙ subst (λ (o : Option Place). m ≡ record { kind = m.kind; bytes = with_number o x m.bytes }) (sym none) refl
      | inr (place, there) ↦ let no : false ≡ true = accepted.1 (accepted_at m field x place (sym there) (fits place there)) in absurd cc
    ]

pub goes_on : (numbers : Field → ℕ) (fields : List Field) (i : ℕ) (d : Field) (m new total : ImageContents) → i < length fields
    → with_fields numbers (drop i fields) m ≡ total → new ≡ with_field m (get_or fields i d) (numbers (get_or fields i d)) → with_fields numbers (drop (i + 1) fields) new ≡ total
unfolding with_fields
goes_on numbers fields i d m new total lt so_far step =
    let front : drop i fields ≡ get_or fields i d ∷ drop (i + 1) fields = drop_more fields i d lt in
    ap (with_fields numbers (drop (i + 1) fields)) step ∙ sym (ap (λ (fs : List Field). with_fields numbers fs m) front) ∙ so_far

pub ends : (numbers : Field → ℕ) (fields : List Field) (i : ℕ) (m total : ImageContents) → length fields ≤ i → with_fields numbers (drop i fields) m ≡ total → m ≡ total
unfolding with_fields
ends numbers fields i m total le so_far = sym (ap (λ (fs : List Field). with_fields numbers fs m) (drop_all i fields le)) ∙ so_far

-- ---- what stands in the fields afterwards

pub kind_stays : (numbers : Field → ℕ) (fields : List Field) (m : ImageContents) → (with_fields numbers fields m).kind ≡ m.kind
unfolding with_fields
kind_stays numbers [] m = refl
kind_stays numbers (field ∷ fields) m = kind_stays numbers fields (with_field m field (numbers field))

still : (numbers : Field → ℕ) (g : Field) (fields : List Field) (m : ImageContents) (f : Field) → IsImage m → g ≢ f
    → (field_of m f ≡ Some (numbers f)) ⊎ ((i : ℕ) × (slice_get (g ∷ fields) i ≡ Some f)) → (field_of (with_field m g (numbers g)) f ≡ Some (numbers f)) ⊎ ((i : ℕ) × (slice_get fields i ≡ Some f))
still numbers g fields m f image differ (inl has) = inl (other_field_stays m g f (numbers g) image differ ∙ has)
still numbers g fields m f image differ (inr (zero, at)) = absurd (differ cc)
still numbers g fields m f image differ (inr (suc i, at)) = inr (i, at)

put_field : (numbers : Field → ℕ) (fields : List Field) (m : ImageContents) (f : Field) (place : Place) → IsImage m → field_place m.kind f ≡ Some place → numbers f < 256 ^ place.width
    → (field_of m f ≡ Some (numbers f)) ⊎ ((i : ℕ) × (slice_get fields i ≡ Some f)) → field_of (with_fields numbers fields m) f ≡ Some (numbers f)
unfolding with_fields
put_field numbers [] m f place image there fits (inl has) = has
put_field numbers [] m f place image there fits (inr (i, at)) = absurd cc
put_field numbers (g ∷ fields) m f place image there fits known =
    let next : ImageContents = with_field m g (numbers g) in
    let next_image : IsImage next = stays_image m g (numbers g) image in
    elim (eqb_tells (field_index g) (field_index f)) [
      | inl same ↦
          let e : g ≡ f = same_index g f same.1 in
          let taken : Accepts m f (numbers f) = accepted_at m f (numbers f) place (sym there) fits in
          let now : field_of next f ≡ Some (numbers f) = subst (λ (h : Field). field_of (with_field m h (numbers h)) f ≡ Some (numbers f)) (sym e) (field_reads_back m f (numbers f) image taken) in
          put_field numbers fields next f place next_image there fits (inl now)
      | inr other ↦
          let differ : g ≢ f = λ e. other.1 (ap field_index e) in
          put_field numbers fields next f place next_image there fits (still numbers g fields m f image differ known)
    ]

-- each field of the map holds its number
pub each_field : (numbers : Field → ℕ) (m : ImageContents) (f : Field) → IsImage m → AllFit m.kind numbers
    → field_of (with_fields numbers FIELDS m) f ≡ option_map (λ (_ : Place). numbers f) (field_place m.kind f)
each_field numbers m f image fit =
    elim (place_or_none (field_place m.kind f)) [
      | inl none ↦
          let nothing : field_of (with_fields numbers FIELDS m) f ≡ None = rw (kind_stays numbers FIELDS m, none) refl in
          nothing ∙ subst (λ (o : Option Place). None ≡ option_map (λ (_ : Place). numbers f) o) (sym none) refl
      | inr (place, there) ↦
          put_field numbers FIELDS m f place image there (fit f place there) (inr (field_index f, listed f))
          ∙ subst (λ (o : Option Place). Some (numbers f) ≡ option_map (λ (_ : Place). numbers f) o) (sym there) refl
    ]

-- a byte of no field stays
pub byte_stays : (numbers : Field → ℕ) (fields : List Field) (m : ImageContents) (at : ℕ) → IsImage m → IsOfNoField m.kind at → get_or (with_fields numbers fields m).bytes at 0 ≡ get_or m.bytes at 0
unfolding with_fields
byte_stays numbers [] m at image none = refl
byte_stays numbers (f ∷ fields) m at image none =
    byte_stays numbers fields (with_field m f (numbers f)) at (stays_image m f (numbers f) image) none ∙ other_byte_stays m f (numbers f) at image (none f)

pub image_stays : (numbers : Field → ℕ) (fields : List Field) (m : ImageContents) → IsImage m → IsImage (with_fields numbers fields m)
unfolding with_fields
image_stays numbers [] m image = image
image_stays numbers (f ∷ fields) m image = image_stays numbers fields (with_field m f (numbers f)) (stays_image m f (numbers f) image)

-- ---- the numbers that entering writes

power_is : (n : ℕ) (place : Place) (x : ℕ) → place.width ≡ n → x < 256 ^ n → x < 256 ^ place.width
power_is n place x e fits = subst (λ (k : ℕ). x < 256 ^ k) (sym e) fits

halt_fits : (b : Bool) → cond b 1 0 < 256 ^ 2
halt_fits true = omega arith
halt_fits false = omega arith

width_is : (o : Option Place) (there : Place) (place : Place) → o ≡ Some there → o ≡ Some place → place.width ≡ there.width
width_is o there place e f =
    let same : place ≡ there = cc in
    ap (λ (p : Place). p.width) same

event_fits : (kind : MapKind) (cause : Cause) (field : Field) (place : Place) → io_state cause.io < 2 ^ 32 → is_event_field field ≡ true → field_place kind field ≡ Some place → event_number cause field < 256 ^ place.width
event_fits Ia32 cause AutoHalt place small event there = power_is 2 place (event_number cause AutoHalt) (width_is (field_place Ia32 AutoHalt) _ place refl there) (halt_fits cause.halt)
event_fits Intel64 cause AutoHalt place small event there = power_is 2 place (event_number cause AutoHalt) (width_is (field_place Intel64 AutoHalt) _ place refl there) (halt_fits cause.halt)
event_fits Ia32 cause IoState place small event there = power_is 4 place (io_state cause.io) (width_is (field_place Ia32 IoState) _ place refl there) small
event_fits Intel64 cause IoState place small event there = power_is 4 place (io_state cause.io) (width_is (field_place Intel64 IoState) _ place refl there) small
event_fits Ia32 cause IoRestart place small event there = power_is 2 place 0 (width_is (field_place Ia32 IoRestart) _ place refl there) (omega arith)
event_fits Intel64 cause IoRestart place small event there = power_is 2 place 0 (width_is (field_place Intel64 IoRestart) _ place refl there) (omega arith)
event_fits Ia32 cause IoMemoryAddress place small event there = power_is 4 place 0 (width_is (field_place Ia32 IoMemoryAddress) _ place refl there) (omega arith)
event_fits Intel64 cause IoMemoryAddress place small event there = power_is 8 place 0 (width_is (field_place Intel64 IoMemoryAddress) _ place refl there) (omega arith)
event_fits kind cause field place small event there = absurd cc

chosen_fits : (event : Bool) (x y limit : ℕ) → (event ≡ true → x < limit) → y < limit → cond event x y < limit
chosen_fits true x y limit left right = left refl
chosen_fits false x y limit left right = right

pub entered_fits : (registers : Registers) (cause : Cause) → IsRegisters registers → io_state cause.io < 2 ^ 32 → AllFit registers.kind (entered registers cause)
entered_fits registers cause are small field place there =
    chosen_fits (is_event_field field) (event_number cause field) (number_of registers field) (256 ^ place.width)
    (λ event. event_fits registers.kind cause field place small event there) (are.fit field place there)

-- ---- entering and resuming

-- the fields stand in the list at their indexes
indexes : (k : ℕ) → k < length FIELDS → field_index (get_or FIELDS k Cr0) ≡ k
indexes k lt =
    let all : map field_index FIELDS ≡ range_with_len 0 44 = refl in
    sym (get_or-map field_index FIELDS k Cr0 0 lt) ∙ ap (λ (xs : List ℕ). get_or xs k 0) all ∙ get_or-range_with_len 0 44 k 0 lt ∙ zero-add k

kept_parts : (some event : Bool) → (some && not event) ≡ true → (some ≡ true) × (event ≡ false)
kept_parts true false e = (refl, refl)
kept_parts true true e = absurd cc
kept_parts false event e = absurd cc

-- a kept field is read back
read_kept : (registers : Registers) (cause : Cause) (m : ImageContents) (field : Field) → IsImage m → AllFit m.kind (entered registers cause)
    → is_kept m.kind field ≡ true → unwrap_or (field_of (saved registers cause m) field) 0 ≡ number_of registers field
read_kept registers cause m field image fit kept =
    let parts = kept_parts (is_some (field_place m.kind field)) (is_event_field field) kept in
    let number : entered registers cause field ≡ number_of registers field = ap (λ (b : Bool). cond b (event_number cause field) (number_of registers field)) parts.1 in
    elim (place_or_none (field_place m.kind field)) [
      | inl none ↦ let no : is_some {T = Place} None ≡ true = subst (λ (o : Option Place). is_some o ≡ true) none parts.0 in absurd cc
      | inr (place, there) ↦
          ap (λ (o : Option ℕ). unwrap_or o 0) (each_field (entered registers cause) m field image fit ∙ ap (λ (o : Option Place). option_map (λ (_ : Place). entered registers cause field) o) there) ∙ number
    ]

same_number : (registers : Registers) (cause : Cause) (m : ImageContents) (field : Field) (kept : Bool) → IsRegisters registers → IsImage m → registers.kind ≡ m.kind → AllFit m.kind (entered registers cause)
    → is_kept m.kind field ≡ kept → cond kept (unwrap_or (field_of (saved registers cause m) field) 0) 0 ≡ number_of registers field
same_number registers cause m field true are image kinds fit e = read_kept registers cause m field image fit e
same_number registers cause m field false are image kinds fit e = sym (are.others field (ap (λ (k : MapKind). is_kept k field) kinds ∙ e))

-- resuming from the image that entering left gives the same registers
pub registers_back : (registers : Registers) (cause : Cause) (m : ImageContents) → IsRegisters registers → IsImage m → registers.kind ≡ m.kind → io_state cause.io < 2 ^ 32
    → loaded (saved registers cause m) ≡ registers
registers_back registers cause m are image kinds small =
    let fit : AllFit m.kind (entered registers cause) = subst (λ (k : MapKind). AllFit k (entered registers cause)) kinds (entered_fits registers cause are small) in
    let kind : (saved registers cause m).kind ≡ registers.kind = kind_stays (entered registers cause) FIELDS m ∙ sym kinds in
    let read : Field → ℕ = kept_number (saved registers cause m) in
    let numbers : map read FIELDS ≡ registers.numbers = ext_get_or 0 (map read FIELDS) registers.numbers (length-map FIELDS read ∙ sym are.size)
    (λ k lt.
    let in_list : k < length FIELDS = omega (arith, length-map FIELDS read) in
    let field : Field = get_or FIELDS k Cr0 in
    let one : read field ≡ number_of registers field =
    ap (λ (j : MapKind). cond (is_kept j field) (unwrap_or (field_of (saved registers cause m) field) 0) 0) (kind_stays (entered registers cause) FIELDS m)
    ∙ same_number registers cause m field (is_kept m.kind field) are image kinds fit refl in
    get_or-map read FIELDS k Cr0 0 in_list ∙ one ∙ ap (λ (i : ℕ). get_or registers.numbers i 0) (indexes k in_list)) in
    ap (λ (k : MapKind). record { kind = k; numbers = map read FIELDS }) kind ∙ ap (λ (xs : List ℕ). record { kind = registers.kind; numbers = xs }) numbers

-- a length and a type of an I/O cause are small
length_small : (n : ℕ) → IsTrue (is_io_length n) → n ≤ 4
length_small n valid = grind (arith, nat_tests)

type_small : (n : ℕ) → IsTrue (is_io_type n) → n ≤ 9
type_small n valid = grind (arith, nat_tests)

-- the I/O state fits its four bytes
pub state_fits : (io : Option IoCause) → IfSome io (λ i. i.port < 2 ^ 16) → io_state io < 2 ^ 32
state_fits None ports = omega arith
state_fits (Some io) ports =
    let length = length_small io.length io.length_is_valid in
    let kind = type_small io.kind io.kind_is_valid in
    omega arith

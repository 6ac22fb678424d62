-- What happens to desks keeps their number, and the kind of each image.
use Rattle.std.proofs.Common.{◌≡◌, ◌∙◌, ℕ, zero, suc, ◌==◌, Bool, true, false, not, ◌&&◌, List, [], ◌∷◌, length, Option, Some, None, slice_set, refl}
use Rattle.std.proofs.lemmas.List.{length-set}
use Rattle.std.specs.Prelude.{option_map, nat_lt, is_none, if◌then◌else◌, IfSome}
use Rattle.smm_base.specs.Register.{register_number}
use Rattle.smm_base.specs.declared.kinds.Cause.{Cause}
use Rattle.smm_base.specs.declared.kinds.MapKind.{MapKind}
use Rattle.smm_base.specs.declared.registers.Register.TheVariants as registers
use Rattle.smm_base.specs.declared.status.Status.{Status}
use Rattle.smm_base.specs.declared.status.Status.TheVariants.{Success, InvalidParameter, NotFound, Unsupported}
use Rattle.save_state_map.specs.declared.field.TheConstants.{FIELDS}
use Rattle.save_state_map.specs.Images.{ImageContents}
use Rattle.save_state_access.specs.declared.table.Parts.{Parts}
use Rattle.save_state_access.specs.declared.table.Parts.TheVariants.{Missing, One, Pair}
use Rattle.save_state_access.specs.Table.{parts_numbered}
use Rattle.save_state_access.specs.Reading.{first_case, register_at, width_at}
use Rattle.save_state_access.specs.Writing.{WriteAnswer, write_answer, with_low_bytes, is_written, starts_halt}
use Rattle.cpu_regs.specs.Registers.{Registers}
use Rattle.cpu_regs.specs.Entering.{entered}
use Rattle.cpu_regs.proofs.Saving.{kind_stays}
use Rattle.sync_words.specs.declared.label.Label.{Label}
use Rattle.sync_words.specs.declared.label.Label.TheVariants as say
use Rattle.handler_ops.specs.declared.desk.Desk.{Desk}
use Rattle.handler_ops.specs.declared.row.Row.{Row}
use Rattle.handler_ops.specs.declared.row.Row.TheVariants as row
use Rattle.handler_ops.specs.Course.{Desks, desk_of, low_bytes}
use Rattle.handler_ops.specs.Told.{with_job, given_job, handed_as}
use Rattle.handler_ops.specs.Answering.{without_job, taken_off, written_on, kept_as}
use Rattle.cpu_program.specs.Bounds.{AreOfKind, IsOfKind}
use Rattle.cpu_program.specs.Processors.{desk_saved}

-- THE KIND OF AN IMAGE

abbrev EachKeeps : MapKind → List (Bool × WriteAnswer) → Type 0
EachKeeps kind [] = Unit {0}
EachKeeps kind (case ∷ cases) = (case.1.image.kind ≡ kind) × EachKeeps kind cases

chosen_keeps : (b : Bool) (kind : MapKind) (first second : WriteAnswer) → first.image.kind ≡ kind → second.image.kind ≡ kind → (if b then first else second).image.kind ≡ kind
chosen_keeps true kind first second one other = one
chosen_keeps false kind first second one other = other

first_keeps : (kind : MapKind) (cases : List (Bool × WriteAnswer)) (answer : WriteAnswer) → EachKeeps kind cases → answer.image.kind ≡ kind → (first_case cases answer).image.kind ≡ kind
first_keeps kind [] answer each last = last
first_keeps kind (case ∷ cases) answer each last = chosen_keeps case.0 kind case.1 (first_case cases answer) each.0 (first_keeps kind cases answer each.1 last)

low_keeps : (m : ImageContents) (parts : Parts) (new : List ℕ) → (with_low_bytes m parts new).kind ≡ m.kind
low_keeps m Missing new = refl
low_keeps m (One field) new = refl
low_keeps m (Pair low high) new = refl

abbrev stays : ImageContents → Status → WriteAnswer
stays m status = record { status = status; image = m }

pub write_keeps : (m : ImageContents) (present : Bool) (number : ℕ) (new : List ℕ) → (write_answer m present number new).image.kind ≡ m.kind
write_keeps m present number new =
    first_keeps m.kind
    ((length new == 0, stays m InvalidParameter)
    ∷ (number == register_number registers.ProcessorId, stays m Success)
    ∷ (not present, stays m InvalidParameter)
    ∷ (number == register_number registers.Lma, stays m Success)
    ∷ (number == register_number registers.Io, stays m NotFound)
    ∷ (is_none (register_at m number), stays m NotFound)
    ∷ (not (is_written (parts_numbered number)), stays m Unsupported)
    ∷ (nat_lt (width_at m number) (length new), stays m InvalidParameter)
    ∷ (number == register_number registers.AutoHalt && starts_halt m new, stays m Unsupported)
    ∷ [])
    (record { status = Success; image = with_low_bytes m (parts_numbered number) new })
    (refl, (refl, (refl, (refl, (refl, (refl, (refl, (refl, (refl, tt)))))))))
    (low_keeps m (parts_numbered number) new)

-- THE DESKS

pub no_kind : (kind : MapKind) (o : Option Desk) → o ≡ None → IfSome o (IsOfKind kind)
no_kind kind None e = tt
no_kind kind (Some desk) e = absurd cc

pub mapped_kind : (kind : MapKind) (f : Desk → Desk) (o : Option Desk) → ((desk : Desk) → (f desk).image.kind ≡ desk.image.kind) → IfSome o (IsOfKind kind)
    → IfSome (option_map f o) (IsOfKind kind)
mapped_kind kind f None keeps h = tt
mapped_kind kind f (Some desk) keeps h = keeps desk ∙ h

pub set_kind : (kind : MapKind) (held : Desks) (k : ℕ) (o : Option Desk) → AreOfKind kind held → IfSome o (IsOfKind kind) → AreOfKind kind (slice_set held k o)
set_kind kind [] k o h e c = h c
set_kind kind (x ∷ xs) zero o h e zero = e
set_kind kind (x ∷ xs) zero o h e (suc c) = h (suc c)
set_kind kind (x ∷ xs) (suc k) o h e zero = h zero
set_kind kind (x ∷ xs) (suc k) o h e (suc c) = set_kind kind xs k o (λ i. h (suc i)) e c

pub changed_kind : (kind : MapKind) (held : Desks) (k : ℕ) (f : Desk → Desk) → ((desk : Desk) → (f desk).image.kind ≡ desk.image.kind) → AreOfKind kind held
    → AreOfKind kind (slice_set held k (option_map f (desk_of held k)))
changed_kind kind held k f keeps h = set_kind kind held k (option_map f (desk_of held k)) h (mapped_kind kind f (desk_of held k) keeps (h k))

pub saved_kind : (kind : MapKind) (held : Desks) (k : ℕ) (registers : Registers) (cause : Cause) → AreOfKind kind held
    → AreOfKind kind (slice_set held k (option_map (desk_saved registers cause) (desk_of held k)))
saved_kind kind held k registers cause h = changed_kind kind held k (desk_saved registers cause) (λ desk. kind_stays (entered registers cause) FIELDS desk.image) h

pub off_kind : (kind : MapKind) (c : ℕ) (held : Desks) → AreOfKind kind held → AreOfKind kind (taken_off c held)
off_kind kind c held h = changed_kind kind held c without_job (λ desk. refl) h

pub off_len : (c : ℕ) (held : Desks) → length (taken_off c held) ≡ length held
off_len c held = length-set held c (option_map without_job (desk_of held c))

-- a session that tells its need, and one that is answered
given_kind : (kind : MapKind) (c : ℕ) (label : Label) (held : Desks) → AreOfKind kind held → AreOfKind kind (given_job c label held)
given_kind kind c (say.Start cpu j p a) held h = changed_kind kind held c (with_job j p a) (λ desk. refl) h
given_kind kind c _ held h = h

given_len : (c : ℕ) (label : Label) (held : Desks) → length (given_job c label held) ≡ length held
given_len c (say.Start cpu j p a) held = length-set held c (option_map (with_job j p a) (desk_of held c))
given_len c _ held = refl

pub handed_kind : (kind : MapKind) (r : Row) (held : Desks) → AreOfKind kind held → AreOfKind kind (handed_as r held)
handed_kind kind (row.Raising c l) held h = given_kind kind c l held h
handed_kind kind _ held h = h

pub handed_len : (r : Row) (held : Desks) → length (handed_as r held) ≡ length held
handed_len (row.Raising c l) held = given_len c l held
handed_len _ held = refl

claimed_kind : (kind : MapKind) (b : Bool) (c : ℕ) (held : Desks) → AreOfKind kind held → AreOfKind kind (if b then taken_off c held else held)
claimed_kind kind true c held h = off_kind kind c held h
claimed_kind kind false c held h = h

claimed_len : (b : Bool) (c : ℕ) (held : Desks) → length (if b then taken_off c held else held) ≡ length held
claimed_len true c held = off_len c held
claimed_len false c held = refl

pub answered_kind : (kind : MapKind) (r : Row) (found : ℕ) (held : Desks) → AreOfKind kind held → AreOfKind kind (kept_as r found held)
answered_kind kind (row.ClaimingJob c l) found held h = claimed_kind kind (found == 2) c held h
answered_kind kind (row.AwaitingJob c) found held h = off_kind kind c held h
answered_kind kind (row.Writing c reg width x) found held h =
    changed_kind kind held c (written_on reg width x) (λ desk. write_keeps desk.image true reg (low_bytes width x)) h
answered_kind kind _ found held h = h

pub answered_len : (r : Row) (found : ℕ) (held : Desks) → length (kept_as r found held) ≡ length held
answered_len (row.ClaimingJob c l) found held = claimed_len (found == 2) c held
answered_len (row.AwaitingJob c) found held = off_len c held
answered_len (row.Writing c reg width x) found held = length-set held c (option_map (written_on reg width x) (desk_of held c))
answered_len _ found held = refl

-- What changes an image keeps its kind: a visit that begins, a write, and a job that is run.
use Rattle.std.proofs.Common.{◌≡◌, ◌∙◌, ℕ, ◌==◌, Bool, true, false, not, ◌&&◌, List, [], ◌∷◌, length, Option, Some, None, refl}
use Rattle.std.specs.Prelude.{nat_lt, is_none, if◌then◌else◌, slice_get}
use Rattle.smm_base.specs.Register.{register_number}
use Rattle.smm_base.specs.declared.kinds.Cause.{Cause}
use Rattle.smm_base.specs.declared.kinds.MapKind.{MapKind}
use Rattle.smm_base.specs.declared.registers.Register.{Register}
use Rattle.smm_base.specs.declared.registers.Register.TheVariants as registers
use Rattle.smm_base.specs.declared.status.Status.{Status}
use Rattle.smm_base.specs.declared.status.Status.TheVariants.{Success, InvalidParameter, NotFound, Unsupported}
use Rattle.save_state_map.specs.declared.field.TheConstants.{FIELDS}
use Rattle.save_state_map.specs.Images.{ImageContents}
use Rattle.save_state_access.specs.declared.table.Parts.{Parts}
use Rattle.save_state_access.specs.declared.table.Parts.TheVariants.{Missing, One, Pair}
use Rattle.save_state_access.specs.Table.{parts_numbered}
use Rattle.save_state_access.specs.Reading.{first_case, register_at, width_at}
use Rattle.save_state_access.specs.Writing.{WriteAnswer, write_answer, with_low_bytes, is_written, starts_halt}
use Rattle.cpu_regs.specs.Registers.{Registers}
use Rattle.cpu_regs.specs.Entering.{entered, saved}
use Rattle.cpu_regs.proofs.Saving.{kind_stays}
use Rattle.cpu_table.specs.Data.{SetupData}
use Rattle.cpu_table.specs.declared.handlers.Act.{Act}
use Rattle.cpu_table.specs.declared.handlers.Act.TheVariants.{Get, Put}
use Rattle.cpu_table.specs.declared.handlers.ProcedureDef.{ProcedureDef}
use Rattle.handler_ops.specs.declared.desk.Job.{Job}
use Rattle.handler_ops.specs.Course.{low_bytes}
use Rattle.handler_ops.specs.Procedures.{act_on, procedure_on}
use Rattle.rendezvous_machine.specs.Effects.{image_run}
use Rattle.rendezvous_machine.specs.Services.{written}

pub saved_kind : (r : Registers) (cause : Cause) (m : ImageContents) → (saved r cause m).kind ≡ m.kind
saved_kind r cause m = kind_stays (entered r cause) FIELDS m

-- A WRITE

abbrev EachKeeps : MapKind → List (Bool × WriteAnswer) → Type 0
EachKeeps kind [] = Unit {0}
EachKeeps kind (case ∷ cases) = (case.1.image.kind ≡ kind) × EachKeeps kind cases

chosen_keeps : (b : Bool) (kind : MapKind) (first second : WriteAnswer) → first.image.kind ≡ kind → second.image.kind ≡ kind → (if b then first else second).image.kind ≡ kind
chosen_keeps true kind first second one other = one
chosen_keeps false kind first second one other = other

first_keeps : (kind : MapKind) (cases : List (Bool × WriteAnswer)) (answer : WriteAnswer) → EachKeeps kind cases → answer.image.kind ≡ kind
    → (first_case cases answer).image.kind ≡ kind
first_keeps kind [] answer each last = last
first_keeps kind (case ∷ cases) answer each last = chosen_keeps case.0 kind case.1 (first_case cases answer) each.0 (first_keeps kind cases answer each.1 last)

low_keeps : (m : ImageContents) (parts : Parts) (new : List ℕ) → (with_low_bytes m parts new).kind ≡ m.kind
low_keeps m Missing new = refl
low_keeps m (One field) new = refl
low_keeps m (Pair low high) new = refl

abbrev refused : ImageContents → Status → WriteAnswer
refused m status = record { status = status; image = m }

pub write_kind : (m : ImageContents) (present : Bool) (number : ℕ) (new : List ℕ) → (write_answer m present number new).image.kind ≡ m.kind
write_kind m present number new =
    first_keeps m.kind
    ((length new == 0, refused m InvalidParameter)
    ∷ (number == register_number registers.ProcessorId, refused m Success)
    ∷ (not present, refused m InvalidParameter)
    ∷ (number == register_number registers.Lma, refused m Success)
    ∷ (number == register_number registers.Io, refused m NotFound)
    ∷ (is_none (register_at m number), refused m NotFound)
    ∷ (not (is_written (parts_numbered number)), refused m Unsupported)
    ∷ (nat_lt (width_at m number) (length new), refused m InvalidParameter)
    ∷ (number == register_number registers.AutoHalt && starts_halt m new, refused m Unsupported)
    ∷ [])
    (record { status = Success; image = with_low_bytes m (parts_numbered number) new })
    (refl, (refl, (refl, (refl, (refl, (refl, (refl, (refl, (refl, tt)))))))))
    (low_keeps m (parts_numbered number) new)

pub written_kind : (S : Status) (register : Register) (width x : ℕ) (image : ImageContents) → (written S register width x image).kind ≡ image.kind
written_kind Success register width x image = write_kind image true (register_number register) (low_bytes width x)
written_kind _ register width x image = refl

-- A JOB

act_kind : (act : Act) (reg arg : ℕ) (m : ImageContents) → (act_on act reg arg m).image.kind ≡ m.kind
act_kind Get reg arg m = refl
act_kind Put reg arg m = write_kind m true reg _

procedure_kind : (p : Option ProcedureDef) (arg : ℕ) (m : ImageContents) → (procedure_on p arg m).image.kind ≡ m.kind
procedure_kind None arg m = refl
procedure_kind (Some p) arg m = act_kind p.act p.reg arg m

pub run_kind : (d : SetupData) (job : Option Job) (m : ImageContents) → (image_run d job m).kind ≡ m.kind
run_kind d None m = refl
run_kind d (Some job) m = procedure_kind (slice_get d.procedures job.procedure) job.arg m

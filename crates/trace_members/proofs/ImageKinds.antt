-- A processor's registers and its image stay of one kind.
use Rattle.std.proofs.Common.{◌≡◌, ◌∙◌, ℕ, Some, refl, sym}
use Rattle.smm_base.specs.declared.kinds.Cause.{Cause}
use Rattle.smm_base.specs.declared.kinds.MapKind.{MapKind}
use Rattle.smm_base.specs.declared.registers.Register.{Register}
use Rattle.smm_base.specs.declared.status.Status.{Status}
use Rattle.save_state_map.specs.Images.{ImageContents}
use Rattle.cpu_table.specs.Data.{data_of}
use Rattle.cpu_table.specs.declared.setup.Setup.{Setup}
use Rattle.cpu_regs.specs.Registers.{Registers, loaded}
use Rattle.cpu_regs.specs.Entering.{saved}
use Rattle.handler_ops.specs.declared.desk.Job.{Job}
use Rattle.handler_ops.specs.Procedures.{job_on}
use Rattle.rendezvous_machine.specs.Services.{written}
use Rattle.rendezvous_machine.proofs.ImageKinds.{saved_kind, written_kind, run_kind}

pub still_saved : (k : MapKind) (registers : Registers) (cause : Cause) (m : ImageContents) → k ≡ m.kind → k ≡ (saved registers cause m).kind
still_saved k registers cause m e = e ∙ sym (saved_kind registers cause m)

pub loaded_kind : (m : ImageContents) → (loaded m).kind ≡ m.kind
loaded_kind m = refl

pub still_written : (k : MapKind) (S : Status) (register : Register) (width x : ℕ) (m : ImageContents) → k ≡ m.kind → k ≡ (written S register width x m).kind
still_written k S register width x m e = e ∙ sym (written_kind S register width x m)

pub still_worked : (k : MapKind) (setup : Setup) (job : Job) (m : ImageContents) → k ≡ m.kind → k ≡ (job_on setup.procedures job m).image.kind
still_worked k setup job m e = e ∙ sym (run_kind (data_of setup) (Some job) m)

-- What becomes of one processor, in the list of all.
use Rattle.std.specs.Prelude.{ℕ, ◌+◌, true, List, slice_set, Option}
use Rattle.smm_base.specs.declared.kinds.Cause.{Cause}
use Rattle.smm_base.specs.declared.registers.Register.{Register}
use Rattle.smm_base.specs.declared.status.Status.{Status}
use Rattle.cpu_regs.specs.Entering.{saved}
use Rattle.cpu_table.specs.Data.{SetupData}
use Rattle.handler_ops.specs.declared.desk.Job.{Job}
use Rattle.rendezvous_machine.specs.Machines.{Member}
use Rattle.rendezvous_machine.specs.declared.phase.Phase.{Phase}
use Rattle.rendezvous_machine.specs.declared.phase.Phase.TheVariants.{In, Gone}
use Rattle.rendezvous_machine.specs.Services.{written}
use Rattle.rendezvous_machine.specs.Effects.{resumed, worked}
use Rattle.trace_members.specs.Members.{member_in}

abbrev pub in_phase : ℕ → Phase → List Member → List Member
in_phase i phase members = slice_set members i (record (member_in members i) { phase = phase })

abbrev pub with_job : ℕ → Option Job → List Member → List Member
with_job c job members = slice_set members c (record (member_in members c) { job = job })

-- a visit begins, with this cause
abbrev pub entered : Cause → Member → Member
entered cause x = record x { phase = In; visits = x.visits + 1; image = saved x.registers cause x.image }

abbrev pub in_visit : ℕ → Cause → List Member → List Member
in_visit i cause members = slice_set members i (entered cause (member_in members i))

abbrev pub with_write : ℕ → Register → ℕ → ℕ → Status → List Member → List Member
with_write c register width x S members =
    slice_set members c (record (member_in members c) { image = written S register width x (member_in members c).image })

abbrev pub with_run : SetupData → ℕ → ℕ × Status → List Member → List Member
with_run d i answer members = slice_set members i (worked d answer (member_in members i))

abbrev pub with_release : ℕ → List Member → List Member
with_release c members = slice_set members c (record (member_in members c) { is_released = true })

abbrev pub with_departure : ℕ → List Member → List Member
with_departure i members = slice_set members i (record (member_in members i) { phase = Gone; has_departed = true })

abbrev pub with_resume : ℕ → List Member → List Member
with_resume i members = slice_set members i (resumed (member_in members i))

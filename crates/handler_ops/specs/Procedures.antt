-- What a procedure does with the image of the processor that runs it.
use Rattle.std.specs.Prelude.{◌≡◌, ◌<◌, ℕ, true, List, length, replicate, slice_get, Option, Some, None}
use Rattle.smm_base.specs.declared.status.Status.{Status}
use Rattle.smm_base.specs.declared.status.Status.TheVariants.{NotFound}
use Rattle.save_state_map.specs.Images.{ImageContents}
use Rattle.save_state_access.specs.Reading.{ReadAnswer, read_answer}
use Rattle.save_state_access.specs.Writing.{WriteAnswer, write_answer}
use Rattle.save_state_access.specs.Width.{own_width}
use Rattle.cpu_table.specs.declared.handlers.Act.{Act}
use Rattle.cpu_table.specs.declared.handlers.Act.TheVariants.{Get, Put}
use Rattle.cpu_table.specs.declared.handlers.ProcedureDef.{ProcedureDef}
use Rattle.handler_ops.specs.declared.desk.Desk.{Desk}
use Rattle.handler_ops.specs.declared.desk.Job.{Job}
use Rattle.handler_ops.specs.Course.{shown_value, low_bytes}

-- a result and a status, and the image after it
pub record Ran : Type 0 where
  pub answer : ℕ × Status
  pub image : ImageContents

-- A procedure uses the register's own width, and the id 0, since a desk doesn't name its processor.
abbrev pub read_whole : ImageContents → ℕ → ReadAnswer
read_whole m reg = read_answer m true 0 reg (replicate (own_width m.kind reg) 0)

abbrev pub write_whole : ImageContents → ℕ → ℕ → WriteAnswer
write_whole m reg arg = write_answer m true reg (low_bytes (own_width m.kind reg) arg)

-- a get gives the first 8 bytes read, or 0; a put gives 0
abbrev pub act_on : Act → ℕ → ℕ → ImageContents → Ran
act_on Get reg arg m = record { answer = (shown_value (read_whole m reg), (read_whole m reg).status); image = m }
act_on Put reg arg m = record { answer = (0, (write_whole m reg arg).status); image = (write_whole m reg arg).image }

abbrev pub procedure_on : Option ProcedureDef → ℕ → ImageContents → Ran
procedure_on None arg m = record { answer = (0, NotFound); image = m }
procedure_on (Some p) arg m = act_on p.act p.reg arg m

abbrev pub job_on : List ProcedureDef → Job → ImageContents → Ran
job_on procedures job m = procedure_on (slice_get procedures job.procedure) job.arg m

-- a job that is still to be run, of one of the procedures
abbrev pub CanRun : List ProcedureDef → Job → Type 0
CanRun procedures job = (job.done ≡ None) × (job.procedure < length procedures)

-- the desk after its job was run
abbrev pub desk_with : Job → Ran → Desk
desk_with job ran = record { image = ran.image; job = Some (record job { done = Some ran.answer }) }

-- The processors by number, and what the rules ask of them, as tests.
use Rattle.std.specs.Prelude.{ℕ, ◌==◌, nat_lt, ◌&&◌, ◌||◌, not, Bool, true, false, if◌then◌else◌, List, Option, Some, None, is_none, is_some, take, map, zip, slice_index_or}
use Rattle.std.specs.List.{list_all, enumerate_from, count_by}
use Rattle.smm_base.specs.declared.kinds.After.{After}
use Rattle.smm_base.specs.declared.kinds.After.TheVariants as after
use Rattle.smm_base.specs.declared.registers.Register.{Register}
use Rattle.smm_base.specs.declared.status.Status.{Status}
use Rattle.smm_base.specs.declared.status.Status.TheVariants.{InvalidParameter, NotReady}
use Rattle.smm_base.specs.Register.{register_number}
use Rattle.save_state_map.specs.Images.{ImageContents}
use Rattle.save_state_access.specs.Reading.{ReadAnswer}
use Rattle.cpu_table.specs.Data.{SetupData}
use Rattle.cpu_table.specs.declared.handlers.ProcedureDef.{ProcedureDef}
use Rattle.handler_ops.specs.declared.desk.Job.{Job}
use Rattle.handler_ops.specs.Course.{read_of, write_of, shown_value}
use Rattle.handler_ops.specs.Procedures.{job_on}
use Rattle.serving_judge.specs.Words.{is_status}
use Rattle.cpu_regs.specs.Registers.{Registers}
use Rattle.rendezvous_machine.specs.Machines.{Member, nobody, first_member, is_here, is_counted}
use Rattle.rendezvous_machine.specs.declared.phase.Phase.{Phase}
use Rattle.rendezvous_machine.specs.declared.phase.Phase.TheVariants.{Out, In, Counted, Gone}
use Rattle.rendezvous_machine.specs.Services.{Target, NoProcessor, JobOpen, JobFinished, Image, by_job, setting}

abbrev pub member_in : List Member → ℕ → Member
member_in members i = slice_index_or members i nobody

-- the processors with these registers and these images, before any visit
abbrev pub firsts : List Registers → List ImageContents → List Member
firsts registers images = map (λ x. first_member x.0 x.1) (zip registers images)

-- PHASES

abbrev pub is_out : Phase → Bool
is_out Out = true
is_out _ = false

abbrev pub is_in : Phase → Bool
is_in In = true
is_in _ = false

abbrev pub is_waiting : Phase → Bool
is_waiting Counted = true
is_waiting _ = false

abbrev pub is_gone : Phase → Bool
is_gone Gone = true
is_gone _ = false

abbrev pub is_after : After → After → Bool
is_after after.Halt after.Halt = true
is_after after.Next after.Next = true
is_after after.Retry after.Retry = true
is_after _ _ = false

-- ALL PROCESSORS

-- each processor but this one passes
abbrev pub each_other : List Member → ℕ → (Member → Bool) → Bool
each_other members but test = list_all (λ e. e.0 == but || test e.1) (enumerate_from 0 members)

-- a member of the session has reported
abbrev pub reports : Member → Bool
reports x = not (is_counted x) || is_here x.phase

-- a processor of the closed set is released, and has departed
abbrev pub is_let : Member → Bool
is_let x = not x.in_closed_set || x.is_released

abbrev pub has_left : Member → Bool
has_left x = not x.in_closed_set || x.has_departed

abbrev pub has_no_job : Member → Bool
has_no_job x = is_none x.job

abbrev pub all_collected : List Member → Bool
all_collected members = list_all has_no_job members

abbrev pub is_least : List Member → ℕ → Bool
is_least members c = list_all has_no_job (take c members)

abbrev pub count_in : List Member → ℕ
count_in members = count_by is_counted members

-- JOBS

abbrev pub is_answer : ℕ × Status → ℕ → Status → Bool
is_answer answer result S = answer.0 == result && is_status answer.1 S

abbrev pub answers_by : List ProcedureDef → ImageContents → Option Job → ℕ → ℕ → Status → Bool
answers_by procedures image None j result S = false
answers_by procedures image (Some job) j result S =
    job.number == j && (is_none job.done && is_answer (job_on procedures job image).answer result S)

-- the processor's open job has this number, and gives this result and status on its image
abbrev pub answers : List ProcedureDef → Member → ℕ → ℕ → Status → Bool
answers procedures x j result S = answers_by procedures x.image x.job j result S

abbrev pub is_finished : Option Job → Bool
is_finished None = false
is_finished (Some job) = is_some job.done

-- IMAGES

-- what the boot processor reaches
abbrev pub target_in : ℕ → List Member → ℕ → ℕ → Target
target_in processors members bsp c =
    if not (nat_lt c processors) then NoProcessor
    else (if c == bsp then Image true else by_job (member_in members c).job (is_here (member_in members c).phase))

abbrev pub shows_read : ReadAnswer → ℕ → Status → Bool
shows_read answer x S = x == shown_value answer && is_status answer.status S

abbrev pub read_shows : Target → (Bool → ReadAnswer) → ℕ → Status → Bool
read_shows NoProcessor answer x S = x == 0 && is_status InvalidParameter S
read_shows JobOpen answer x S = x == 0 && is_status NotReady S
read_shows JobFinished answer x S = false
read_shows (Image present) answer x S = shows_read (answer present) x S

abbrev pub reads : SetupData → List Member → ℕ → ℕ → Register → ℕ → ℕ → Status → Bool
reads d members bsp c register width x S =
    read_shows (target_in d.processors members bsp c)
    (λ present. read_of (setting d bsp) present (member_in members c).image c (register_number register) width) x S

abbrev pub write_shows : Target → (Bool → Status) → Status → Bool
write_shows NoProcessor answer S = is_status InvalidParameter S
write_shows JobOpen answer S = is_status NotReady S
write_shows JobFinished answer S = false
write_shows (Image present) answer S = is_status (answer present) S

abbrev pub writes : SetupData → List Member → ℕ → ℕ → Register → ℕ → ℕ → Status → Bool
writes d members bsp c register width x S =
    write_shows (target_in d.processors members bsp c)
    (λ present. (write_of present (member_in members c).image (register_number register) width x).status) S

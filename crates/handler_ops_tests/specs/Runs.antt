-- Whether a processor can run the job on its desk.
use Rattle.std.specs.Prelude.{Bool, ◌&&◌, is_none, nat_lt, length}
use Rattle.cpu_table.specs.Data.{SetupData}
use Rattle.handler_ops.specs.declared.desk.Job.{Job}

-- the job is one of the platform's procedures, and is still to be run
abbrev pub can_run : SetupData → Job → Bool
can_run d job = is_none job.done && nat_lt job.procedure (length d.procedures)

-- The replay of a processor that refuses a job while it has one, by computation.
use Rattle.std.proofs.Common.{refl}
use Rattle.cpu_program.specs.Processors.{desks_held}
use Rattle.cpu_regs.specs.Entering.{with_fields}
use Rattle.replay_rows.specs.Platforms as platform
use Rattle.replay_rows.specs.Schedules as schedule
use Rattle.replay_rows.specs.Replays.{SaysInEssence, busy_labels}

pub busy : SaysInEssence platform.with_jobs schedule.busy busy_labels
unfolding SaysInEssence desks_held with_fields
busy x y = refl

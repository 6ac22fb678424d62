-- The replay of a processor that gives up, by computation.
use Rattle.std.proofs.Common.{refl}
use Rattle.cpu_program.specs.Processors.{desks_held}
use Rattle.cpu_regs.specs.Entering.{with_fields}
use Rattle.replay_rows.specs.Platforms as platform
use Rattle.replay_rows.specs.Schedules as schedule
use Rattle.replay_rows.specs.Replays.{SaysInEssence, gives_up_labels}

pub gives_up : SaysInEssence platform.plain schedule.gives_up gives_up_labels
unfolding SaysInEssence desks_held with_fields
gives_up x y = refl

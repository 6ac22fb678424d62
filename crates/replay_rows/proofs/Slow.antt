-- The replay of a processor that is slow to leave, by computation.
use Rattle.std.proofs.Common.{refl}
use Rattle.cpu_program.specs.Processors.{desks_held}
use Rattle.cpu_regs.specs.Entering.{with_fields}
use Rattle.replay_rows.specs.Platforms as platform
use Rattle.replay_rows.specs.Schedules as schedule
use Rattle.replay_rows.specs.Replays.{SaysInEssence, slow_labels}

pub slow : SaysInEssence platform.two_waves schedule.slow slow_labels
unfolding SaysInEssence desks_held with_fields
slow x y = refl

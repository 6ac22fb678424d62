-- The replays by computation.
use Rattle.std.proofs.Common.{refl}
use Rattle.cpu_program.specs.Processors.{desks_held}
use Rattle.replay_rows.specs.Platforms as platform
use Rattle.replay_rows.specs.Schedules as schedule
use Rattle.replay_rows.specs.Replays.{Says, late_labels, signalled_labels, in_vain_labels}

pub late : Says platform.plain schedule.late late_labels
unfolding Says desks_held
late x y = refl

pub signalled : Says platform.fixed_delayed schedule.signalled signalled_labels
unfolding Says
signalled x y = refl

pub in_vain : Says platform.fixed_absent schedule.in_vain in_vain_labels
unfolding Says
in_vain x y = refl

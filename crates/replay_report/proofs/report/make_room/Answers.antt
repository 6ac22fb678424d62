use Rattle.smm_base.specs.Calls.{stays}
use Rattle.replay_report.proofs.report.make_room.Goals as goal

pub returns-else-len-clause-moved : goal.returns-else-len-clause-moved
returns-else-len-clause-moved g c = stays

use Rattle.smm_base.specs.Calls.{stays}
use Rattle.smm_player.proofs.making.make.Goals as goal

pub returns-in-Err-clause-moved : goal.returns-in-Err-clause-moved
returns-in-Err-clause-moved g c = stays

use Rattle.smm_base.specs.Calls.{stays}
use Rattle.smm_player.proofs.ending.finish.Goals as goal

pub returns-in-Ok-clause-moved : goal.returns-in-Ok-clause-moved
returns-in-Ok-clause-moved g c = stays

pub returns-in-Err-Write-clause-moved : goal.returns-in-Err-Write-clause-moved
returns-in-Err-Write-clause-moved g c = stays

pub returns-in-Err-Save-clause-moved : goal.returns-in-Err-Save-clause-moved
returns-in-Err-Save-clause-moved g c = stays

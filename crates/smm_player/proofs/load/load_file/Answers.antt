use Rattle.smm_base.specs.Calls.{one_call}
use Rattle.smm_player.proofs.load.load_file.Goals as goal

pub returns-in-Ok-clause-moved : goal.returns-in-Ok-clause-moved
returns-in-Ok-clause-moved g c = one_call _ _ _ c.load.ensures.moved

pub returns-in-Err-clause-moved : goal.returns-in-Err-clause-moved
returns-in-Err-clause-moved g c = one_call _ _ _ c.load.ensures.moved

use Rattle.smm_base.specs.Calls.{stays, one_call}
use Rattle.smm_player.proofs.step.save_images.Goals as goal

pub returns-in-Err-clause-moved : goal.returns-in-Err-clause-moved
returns-in-Err-clause-moved g c = stays

pub returns-in-Ok-save-clause-moved : goal.returns-in-Ok-save-clause-moved
returns-in-Ok-save-clause-moved g c = one_call _ _ _ c.save.ensures.moved

pub returns-in-Err-Failed-clause-moved : goal.returns-in-Err-Failed-clause-moved
returns-in-Err-Failed-clause-moved g c = one_call _ _ _ c.save.ensures.moved

pub returns-clause-moved : goal.returns-clause-moved
returns-clause-moved g c = one_call _ _ _ c.save.ensures.moved

use Rattle.smm_player.proofs.EndLemmas.{save_ends}
use Rattle.smm_base.specs.Calls.{stays}
use Rattle.smm_player.proofs.step.conclude.Goals as goal

pub returns-in-Ok-clause-ends : goal.returns-in-Ok-clause-ends
returns-in-Ok-clause-ends g c = save_ends c.save_images.result _ _ _ _ _ _ c.save_images.ensures.fault (rw (← c.complete.ensures, ← c.events.ensures, ← c.deref.ensures.value) c.in-Ok.ensures.appends)

pub returns-in-Ok-clause-saved : goal.returns-in-Ok-clause-saved
returns-in-Ok-clause-saved g c = rw (← c.images.ensures) c.save_images.ensures.saved

pub returns-in-Err-Failed-clause-store_moved : goal.returns-in-Err-Failed-clause-store_moved
returns-in-Err-Failed-clause-store_moved g c = stays

pub returns-in-Err-NoMemory-clause-store_moved : goal.returns-in-Err-NoMemory-clause-store_moved
returns-in-Err-NoMemory-clause-store_moved g c = stays

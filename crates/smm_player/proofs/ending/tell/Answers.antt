use Rattle.std.proofs.Common.{inl, refl}
use Rattle.smm_base.specs.Calls.{leads_on}
use Rattle.smm_base.specs.Sink.{GainsPrefix-whole}
use Rattle.smm_player.proofs.ending.tell.Goals as goal

pub returns-in-Ok-clause-tells : goal.returns-in-Ok-clause-tells
returns-in-Ok-clause-tells g c = inl (refl, (GainsPrefix-whole _ _ _ c.in-Ok.ensures.appends, inl c.in-Ok.ensures.appends))

pub returns-in-Err-NoMemory-clause-moved : goal.returns-in-Err-NoMemory-clause-moved
returns-in-Err-NoMemory-clause-moved g c = leads_on c.write_all.ensures.moved c.end_without_memory.ensures.moved

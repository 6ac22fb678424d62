use Rattle.smm_base.specs.Sink.{GainsPrefix-whole}
use Rattle.smm_player.proofs.ending.end_without_memory.Goals as goal

pub returns-in-Ok-clause-prefix : goal.returns-in-Ok-clause-prefix
returns-in-Ok-clause-prefix g c = GainsPrefix-whole _ _ _ c.in-Ok.ensures.appends

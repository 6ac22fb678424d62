use Rattle.trace_text.proofs.Spells.{passed}
use Rattle.trace_text.proofs.label.read_procedure.Goals as goal

pub returns-in_default : goal.returns-in_default
returns-in_default c = passed _ _ _ _ _ c.in_default.not-check (passed _ _ _ _ _ c.in_default.not-wait (passed _ _ _ _ _ c.in_default.not-refuse (passed _ _ _ _ _ c.in_default.not-start (passed _ _ _ _ _ c.in_default.not-run (passed _ _ _ _ _ c.in_default.not-collect (c.read_service.ensures))))))

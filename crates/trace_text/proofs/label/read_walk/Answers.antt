use Rattle.trace_text.proofs.Spells.{passed}
use Rattle.trace_text.proofs.label.read_walk.Goals as goal

pub returns-in_default : goal.returns-in_default
returns-in_default c = passed _ _ _ _ _ c.in_default.not-begin (passed _ _ _ _ _ c.in_default.not-manage (passed _ _ _ _ _ c.in_default.not-deep (passed _ _ _ _ _ c.in_default.not-call (passed _ _ _ _ _ c.in_default.not-return (passed _ _ _ _ _ c.in_default.not-answer (c.read_procedure.ensures))))))

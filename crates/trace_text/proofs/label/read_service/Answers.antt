use Rattle.std.proofs.Common.{refl}
use Rattle.trace_text.proofs.Spells.{passed}
use Rattle.trace_text.proofs.label.read_service.Goals as goal

pub returns-in_default : goal.returns-in_default
returns-in_default c = passed _ _ _ _ _ c.in_default.not-set (passed _ _ _ _ _ c.in_default.not-read (passed _ _ _ _ _ c.in_default.not-write (passed _ _ _ _ _ c.in_default.not-alloc (passed _ _ _ _ _ c.in_default.not-free (passed _ _ _ _ _ c.in_default.not-register (passed _ _ _ _ _ c.in_default.not-unregister (refl)))))))

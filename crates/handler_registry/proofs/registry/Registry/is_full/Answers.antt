use Rattle.std.proofs.Common.{refl, ne_eqb}
use Rattle.handler_registry.proofs.KeptLemmas.{full_shown}
use Rattle.handler_registry.proofs.registry.Registry.is_full.Goals as goal

pub returns-then-len-eq-MOST_LIVE : goal.returns-then-len-eq-MOST_LIVE
returns-then-len-eq-MOST_LIVE c = rw (← c.self.view_is, full_shown _ _ _ _ c.self.invariant, ← c.self.inside.order.ok.0, ← c.len.ensures, c.if-len-eq-MOST_LIVE.true) refl

pub returns-else-len-eq-MOST_LIVE : goal.returns-else-len-eq-MOST_LIVE
returns-else-len-eq-MOST_LIVE c = rw (← c.self.view_is, full_shown _ _ _ _ c.self.invariant, ← c.self.inside.order.ok.0, ← c.len.ensures, ne_eqb c.len.result 64 c.if-len-eq-MOST_LIVE.false) refl

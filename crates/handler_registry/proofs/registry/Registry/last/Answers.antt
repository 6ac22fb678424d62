use Rattle.std.proofs.Common.{subst}
use Rattle.handler_registry.specs.Registrations.{Registrations, IsRegistered}
use Rattle.handler_registry.proofs.KeptLemmas.{kept_registered}
use Rattle.handler_registry.proofs.registry.Registry.last.Goals as goal

pub returns-clause-kept : goal.returns-clause-kept
returns-clause-kept c = subst (λ (s : Registrations). IsRegistered s) c.self.view_is (kept_registered _ _ _ _ c.self.invariant)

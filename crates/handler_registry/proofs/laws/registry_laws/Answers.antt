use Rattle.std.proofs.Common.{arith}
use Rattle.handler_registry.proofs.LawLemmas.{given_once, kept, least}
use Rattle.handler_registry.proofs.laws.registry_laws.Goals as goal

pub returns-clause-given_once : goal.returns-clause-given_once
returns-clause-given_once c = given_once

pub returns-clause-at_first : goal.returns-clause-at_first
returns-clause-at_first c = record { few = omega arith; rising = tt }

pub returns-clause-kept : goal.returns-clause-kept
returns-clause-kept c = kept

pub returns-clause-least : goal.returns-clause-least
returns-clause-least c = least

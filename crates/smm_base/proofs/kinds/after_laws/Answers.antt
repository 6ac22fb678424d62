use Rattle.std.proofs.Common.{◌≡◌, Some, refl}
use Rattle.smm_base.specs.declared.kinds.After.{After}
use Rattle.smm_base.specs.declared.kinds.After.TheVariants.{Halt}
use Rattle.smm_base.specs.declared.kinds.TheConstants.{WAYS_ON}
use Rattle.smm_base.specs.Kinds.{after_text, after_named}
use Rattle.smm_base.proofs.Names.{found_has_name}
use Rattle.smm_base.proofs.kinds.after_laws.Goals as goal

by_name : (after : After) → after_named (after_text after) ≡ Some after
by_name Halt = refl
by_name _ = refl

pub returns-clause-named : goal.returns-clause-named
returns-clause-named c = λ text. found_has_name after_text text WAYS_ON

pub returns-clause-names : goal.returns-clause-names
returns-clause-names c = by_name

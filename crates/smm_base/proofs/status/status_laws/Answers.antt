use Rattle.std.proofs.Common.{◌≡◌, Some, refl}
use Rattle.smm_base.specs.declared.status.Status.{Status}
use Rattle.smm_base.specs.declared.status.Status.TheVariants.{Success}
use Rattle.smm_base.specs.declared.status.TheConstants.{STATUSES}
use Rattle.smm_base.specs.Status.{status_text, status_named}
use Rattle.smm_base.proofs.Names.{found_has_name}
use Rattle.smm_base.proofs.status.status_laws.Goals as goal

by_name : (status : Status) → status_named (status_text status) ≡ Some status
by_name Success = refl
by_name _ = refl

pub returns-clause-named : goal.returns-clause-named
returns-clause-named c = λ text. found_has_name status_text text STATUSES

pub returns-clause-names : goal.returns-clause-names
returns-clause-names c = by_name

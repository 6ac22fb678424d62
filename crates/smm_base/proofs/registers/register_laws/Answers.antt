use Rattle.std.proofs.Common.{◌≡◌, Some, refl}
use Rattle.std.specs.Prelude.{◌==◌}
use Rattle.std.proofs.lemmas.Bool.{eqb-true}
use Rattle.smm_base.specs.declared.registers.Register.{Register}
use Rattle.smm_base.specs.declared.registers.Register.TheVariants.{GdtBase}
use Rattle.smm_base.specs.Register.{registers, register_number, register_text, register_named, register_numbered}
use Rattle.smm_base.proofs.Names.{found_passes, found_has_name}
use Rattle.smm_base.proofs.registers.register_laws.Goals as goal

by_number : (register : Register) → register_numbered (register_number register) ≡ Some register
by_number GdtBase = refl
by_number _ = refl

by_name : (register : Register) → register_named (register_text register) ≡ Some register
by_name GdtBase = refl
by_name _ = refl

pub returns-clause-numbered : goal.returns-clause-numbered
returns-clause-numbered c = λ number. found_passes (λ register. register_number register == number) (λ register. register_number register ≡ number) (λ register. eqb-true (register_number register) number) registers

pub returns-clause-named : goal.returns-clause-named
returns-clause-named c = λ text. found_has_name register_text text registers

pub returns-clause-numbers : goal.returns-clause-numbers
returns-clause-numbers c = by_number

pub returns-clause-names : goal.returns-clause-names
returns-clause-names c = by_name

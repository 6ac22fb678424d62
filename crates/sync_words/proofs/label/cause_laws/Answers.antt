use Rattle.std.proofs.Common.{◌≡◌, Some, refl}
use Rattle.smm_base.proofs.Names.{found_has_name}
use Rattle.sync_words.specs.declared.label.StartRefusal.{StartRefusal}
use Rattle.sync_words.specs.declared.label.StartRefusal.TheVariants.{OutOfRange}
use Rattle.sync_words.specs.declared.label.TheConstants.{CAUSES}
use Rattle.sync_words.specs.Texts.{cause_text, cause_named}
use Rattle.sync_words.proofs.label.cause_laws.Goals as goal

by_name : (cause : StartRefusal) → cause_named (cause_text cause) ≡ Some cause
by_name OutOfRange = refl
by_name _ = refl

pub returns-clause-named : goal.returns-clause-named
returns-clause-named c = λ text. found_has_name cause_text text CAUSES

pub returns-clause-names : goal.returns-clause-names
returns-clause-names c = by_name

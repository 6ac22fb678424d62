use Rattle.smbase_reloc.proofs.Every.{each_at}
use Rattle.smbase_reloc.proofs.Refusals.{none_refused}
use Rattle.smbase_reloc.proofs.Registers.{smbase_is, other_is}
use Rattle.smbase_reloc.proofs.laws.relocation_laws.Goals as goal

pub returns-clause-each : goal.returns-clause-each
returns-clause-each c = each_at

pub returns-clause-smbase : goal.returns-clause-smbase
returns-clause-smbase c = smbase_is

pub returns-clause-others : goal.returns-clause-others
returns-clause-others c = other_is

pub returns-clause-relocatable : goal.returns-clause-relocatable
returns-clause-relocatable c = none_refused

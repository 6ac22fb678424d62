use Rattle.std.proofs.Common.{refl}
use Rattle.smi_manage.proofs.AnswerLemmas.{one_more, answer}
use Rattle.smi_manage.proofs.WalkLemmas.{calls_live}
use Rattle.smi_manage.proofs.laws.walk_laws.Goals as goal

pub returns-clause-at_first : goal.returns-clause-at_first
returns-clause-at_first c = λ kind state. refl

pub returns-clause-one_more : goal.returns-clause-one_more
returns-clause-one_more c = one_more

pub returns-clause-answer : goal.returns-clause-answer
returns-clause-answer c = answer

pub returns-clause-calls : goal.returns-clause-calls
returns-clause-calls c = calls_live

use Rattle.trace_judge.proofs.Tracing.{accepts, refuses}
use Rattle.trace_judge.proofs.laws.judge_laws.Goals as goal

pub returns-clause-accepts : goal.returns-clause-accepts
returns-clause-accepts c = λ d registers images bytes few small. accepts c.trace_laws.ensures.judges d few _ bytes _ (c.trace_laws.ensures.begins d registers images) small

pub returns-clause-refuses : goal.returns-clause-refuses
returns-clause-refuses c = λ d registers images bytes fault few is. refuses c.trace_laws.ensures.judges d few _ bytes _ fault (c.trace_laws.ensures.begins d registers images) is

use Rattle.ap_procedure.proofs.LawLemmas.{kept_given}
use Rattle.ap_procedure.proofs.jobs.Jobs.give.Goals as goal

pub invariant_of-self : goal.invariant_of-self
invariant_of-self c = rw (c.issue.ensures, c.from.ensures) (kept_given c.args.cpu c.args.with_token _ c.self.invariant)

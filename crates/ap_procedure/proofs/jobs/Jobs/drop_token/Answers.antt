use Rattle.ap_procedure.proofs.LawLemmas.{kept_dropped}
use Rattle.ap_procedure.proofs.jobs.Jobs.drop_token.Goals as goal

pub invariant_of-self : goal.invariant_of-self
invariant_of-self c = rw (c.remove.ensures) (kept_dropped c.args.job _ c.self.invariant)

use Rattle.std.proofs.Common.{Some}
use Rattle.ap_procedure.proofs.LawLemmas.{kept_collected}
use Rattle.ap_procedure.proofs.jobs.Jobs.collect.Goals as goal

pub invariant_of-self : goal.invariant_of-self
invariant_of-self c = rw (c.finish.ensures, c.from-place.ensures) (kept_collected c.args.cpu (Some c.in-Some.job) c.args.outcome c.args.status _ c.self.invariant)

use Rattle.platform_gen.proofs.PlanLemmas.{plan_fits}
use Rattle.platform_gen.proofs.plan.generated_plan.Goals as goal

pub returns-clause-fits : goal.returns-clause-fits
returns-clause-fits c = plan_fits c.in_ok-plan.plan c.args.n _ c.requires.some c.requires.few c.in_ok-plan.ensures

use Rattle.chipset.specs.contracts.chipset.Chipset as the
use Rattle.chipset.proofs.StepLemmas.{chipset_steps}
use Rattle.chipset.proofs.chipset.Chipset.take.Goals as goal

pub invariant_of-self : goal.invariant_of-self
invariant_of-self c =
    chipset_steps (the.the_view c.self.inside) c.args.self.now c.args.found c.taken-label.result.1 c.taken-label.result.2 c.self.view_is c.taken-label.ensures.after
    c.self.invariant

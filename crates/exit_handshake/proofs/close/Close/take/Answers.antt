use Rattle.exit_handshake.specs.contracts.close.Close as the
use Rattle.exit_handshake.proofs.CloseLemmas.{close_steps}
use Rattle.exit_handshake.proofs.close.Close.take.Goals as goal

pub invariant_of-self : goal.invariant_of-self
invariant_of-self c =
    close_steps (the.the_view c.self.inside) c.args.self.now c.found.result c.taken-label.result.1 c.self.view_is c.taken-label.ensures.after c.self.invariant

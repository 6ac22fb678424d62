use Rattle.exit_handshake.specs.contracts.exit.Exit as the
use Rattle.exit_handshake.proofs.ExitLemmas.{exit_steps}
use Rattle.exit_handshake.proofs.exit.Exit.take.Goals as goal

pub invariant_of-self : goal.invariant_of-self
invariant_of-self c =
    exit_steps (the.the_view c.self.inside) c.args.self.now c.found.result c.taken-label.result.1 c.self.view_is c.taken-label.ensures.after c.self.invariant

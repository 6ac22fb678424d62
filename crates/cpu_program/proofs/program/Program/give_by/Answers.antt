use Rattle.std.proofs.Common.{◌∙◌, ap, sym, subst}
use Rattle.cpu_program.specs.Bounds.{IsActor}
use Rattle.cpu_program.specs.Programs.{want_of}
use Rattle.cpu_program.specs.Views.{actor_in}
use Rattle.cpu_program.proofs.StayLemmas.{given_stays}
use Rattle.cpu_program.proofs.WantLemmas.{giving_keeps}
use Rattle.cpu_program.proofs.program.Program.give_by.Goals as goal

pub invariant_of-self : goal.invariant_of-self
invariant_of-self c = subst IsActor (sym c.give.ensures.after) (given_stays (actor_in c.self.inside.state) c.self.invariant)

pub returns-clause-wants : goal.returns-clause-wants
returns-clause-wants c = ap want_of c.give.ensures.after ∙ giving_keeps (actor_in c.self.inside.state) c.self.invariant ∙ ap want_of c.self.view_is

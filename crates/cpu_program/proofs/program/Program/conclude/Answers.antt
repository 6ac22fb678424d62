use Rattle.std.proofs.Common.{sym, subst}
use Rattle.sync_words.specs.Steps.{Accepts}
use Rattle.cpu_program.specs.Actors.{Actor}
use Rattle.cpu_program.specs.Bounds.{IsActor}
use Rattle.cpu_program.specs.Programs.{want_of}
use Rattle.cpu_program.specs.Views.{actor_in}
use Rattle.cpu_program.proofs.StayLemmas.{taken_stays}
use Rattle.cpu_program.proofs.program.Program.conclude.Goals as goal

pub invariant_of-self : goal.invariant_of-self
invariant_of-self c =
    subst IsActor (sym c.take.ensures.after)
    (taken_stays (actor_in c.self.inside.state) c.args.applied c.self.invariant (subst (λ (a : Actor). Accepts (want_of a) c.args.applied) (sym c.self.view_is) c.requires))

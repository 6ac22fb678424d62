use Rattle.std.proofs.Common.{sym, subst}
use Rattle.sync_words.specs.declared.event.Want.{Want}
use Rattle.sync_words.specs.Steps.{IsWantWithin}
use Rattle.cpu_program.specs.Actors.{Actor}
use Rattle.cpu_program.specs.Bounds.{IsActor}
use Rattle.cpu_program.specs.Programs.{processors_of, want_of}
use Rattle.cpu_program.specs.Views.{actor_in}
use Rattle.cpu_program.proofs.WantLemmas.{want_within}
use Rattle.cpu_program.proofs.program.Program.want.Goals as goal

pub returns-clause-within : goal.returns-clause-within
returns-clause-within c =
    subst (λ (w : Want). IsWantWithin (processors_of c.args.self.now) w) (sym c.want.ensures)
    (subst (λ (a : Actor). IsWantWithin (processors_of a) (want_of (actor_in c.self.inside.state))) c.self.view_is
    (want_within (actor_in c.self.inside.state) c.self.invariant))

pub returns-clause-bounds : goal.returns-clause-bounds
returns-clause-bounds c = subst IsActor c.self.view_is c.self.invariant

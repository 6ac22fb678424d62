use Rattle.std.proofs.Common.{sym, subst}
use Rattle.cpu_table.specs.Data.{data_of}
use Rattle.cpu_program.specs.Bounds.{IsActor}
use Rattle.cpu_program.proofs.StayLemmas.{actor_stays, own_actor, chair_same}
use Rattle.chipset.proofs.StepLemmas.{platform_of}
use Rattle.cpu_program.proofs.program.Program.new.Goals as goal

pub invariant_of-result : goal.invariant_of-result
invariant_of-result c =
    subst IsActor (sym c.in_ok-state.ensures)
    (actor_stays (data_of c.args.setup.now) c.args.actor c.args.start c.args.regs c.args.chair (platform_of c.args.setup.now)
    (own_actor c.args.start c.args.setup.now.processors c.args.actor c.requires.image) c.requires.images c.requires.kinds
    (chair_same c.args.chair (data_of c.args.setup.now) c.requires.chair))

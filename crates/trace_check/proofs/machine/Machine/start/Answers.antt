use Rattle.cpu_table.specs.Data.{data_of}
use Rattle.trace_check.proofs.FirstKept.{first_is_kept}
use Rattle.trace_check.proofs.machine.Machine.start.Goals as goal

pub invariant_of-result : goal.invariant_of-result
invariant_of-result c =
    first_is_kept (data_of c.args.setup.now) c.args.registers.now c.args.images.now c.in_ok-kept.kept c.requires.registers_count c.requires.count c.in_ok-kept.ensures

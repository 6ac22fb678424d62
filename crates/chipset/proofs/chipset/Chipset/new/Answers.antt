use Rattle.cpu_table.specs.Data.{data_of}
use Rattle.chipset.proofs.StepLemmas.{begins, platform_of}
use Rattle.chipset.proofs.chipset.Chipset.new.Goals as goal

pub invariant_of-result : goal.invariant_of-result
invariant_of-result c = begins (data_of c.args.setup) (platform_of c.args.setup)

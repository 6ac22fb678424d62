use Rattle.cpu_table.specs.Data.{data_of}
use Rattle.chipset.proofs.StepLemmas.{platform_of}
use Rattle.chipset.proofs.WaveLemmas.{arrivals_few}
use Rattle.chipset.proofs.chipset.Chipset.blocked.Goals as goal

pub count_blocked-requires : goal.count_blocked-requires
count_blocked-requires c =
    rw (c.arrivals_of.ensures, c.as_slice.ensures) (arrivals_few (data_of c.self.inside.setup) c.self.inside.wave (platform_of c.self.inside.setup))

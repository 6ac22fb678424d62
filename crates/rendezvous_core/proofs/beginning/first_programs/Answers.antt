-- The registers are those of the start.
use Rattle.std.proofs.Common.{◌∙◌}
use Rattle.cpu_table.specs.Data.{data_of}
use Rattle.rendezvous_core.proofs.StartLemmas.{first_are}
use Rattle.rendezvous_core.proofs.beginning.first_programs.Goals as goal

pub programs_with-requires-clause-registers : goal.programs_with-requires-clause-registers
programs_with-requires-clause-registers c =
    first_are (data_of c.args.setup.now) c.args.images.now c.as_slice.result.now c.requires.images (c.as_slice.ensures.value ∙ c.in_ok-registers.ensures)

use Rattle.platform_numbers.proofs.Files.{file_fits}
use Rattle.platform_numbers.proofs.laws.file_numbers.Goals as goal

pub returns : goal.returns
returns c = record { fit = λ bytes d is. file_fits bytes d (c.platform_laws.ensures.file_stands bytes d is) }

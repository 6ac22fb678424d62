use Rattle.platform_file.proofs.Documents.{instruction_is}
use Rattle.platform_file.proofs.causes.instruction.Goals as goal

pub returns : goal.returns
returns c = instruction_is c.args.port c.args.length c.args.kind _ _

use Rattle.trace_text.proofs.LastLines.{strips_is}
use Rattle.trace_text.proofs.last.strip.Goals as goal

pub returns : goal.returns
returns c = strips_is c.args.name.now c.args.text.now c.strip_prefix.result c.strip_prefix.ensures.cases

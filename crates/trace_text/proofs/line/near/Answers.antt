use Rattle.std.proofs.Common.{◌∙◌}
use Rattle.trace_text.proofs.Ends.{least_is, rest_is}
use Rattle.trace_text.proofs.line.near.Goals as goal

pub returns-in-Some : goal.returns-in-Some
returns-in-Some c =
    least_is c.in-Some.rest.now 128 c.min.result c.min.ensures ∙ rest_is c.args.bytes.now c.args.at c.in-Some.rest.now c.in-Some.ensures.lookup.0.2

use Rattle.std.proofs.Common.{◌∙◌}
use Rattle.trace_text.proofs.Numbers.{parsed_is}
use Rattle.trace_text.proofs.field.parse_digits.Goals as goal

pub returns : goal.returns
returns c = c.ok.ensures.value ∙ parsed_is c.args.digits.now c.parse.result c.parse.ensures.value.0 c.requires

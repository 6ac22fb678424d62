use Rattle.std.proofs.Common.{◌∙◌}
use Rattle.trace_text.proofs.Places.{after_strips, after_lacks}
use Rattle.trace_text.proofs.place.number_after.Goals as goal

pub returns-in_err-strip_prefix : goal.returns-in_err-strip_prefix
returns-in_err-strip_prefix c = c.from_residual.ensures ∙ after_lacks c.args.name.now c.args.text.now c.in_err-strip_prefix.ensures.cases

pub returns : goal.returns
returns c = c.read.ensures ∙ after_strips c.args.name.now c.args.text.now c.in_ok-strip_prefix.field-0.now c.in_ok-strip_prefix.ensures.cases

use Rattle.std.proofs.Common.{ap, sym, ◌∙◌}
use Rattle.trace_text.specs.Readings.{is_numeral}
use Rattle.trace_text.proofs.Numbers.{not_numeral}
use Rattle.trace_text.proofs.field.U64Field.read.Goals as goal

pub returns-else-is_numeral : goal.returns-else-is_numeral
returns-else-is_numeral c = not_numeral c.args.text.now (sym (c.if-is_numeral.ensures ∙ ap is_numeral c.as_bytes.ensures.value))

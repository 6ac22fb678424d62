use Rattle.std.proofs.Common.{ap, sym, ◌∙◌}
use Rattle.smm_command.specs.Numbers.{is_numeral}
use Rattle.smm_command.proofs.NumberLemmas.{not_numeral}
use Rattle.smm_command.proofs.recipe.read_number.Goals as goal

pub returns-else-is_numeral : goal.returns-else-is_numeral
returns-else-is_numeral c = not_numeral c.args.word.now (sym (c.if-is_numeral.ensures ∙ ap is_numeral c.as_bytes.ensures.value))

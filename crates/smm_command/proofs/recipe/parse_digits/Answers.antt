use Rattle.std.proofs.Common.{◌∙◌}
use Rattle.smm_command.proofs.NumberLemmas.{parsed_is}
use Rattle.smm_command.proofs.recipe.parse_digits.Goals as goal

pub returns : goal.returns
returns c = c.ok.ensures.value ∙ parsed_is c.args.digits.now c.parse.result c.parse.ensures.value.0 c.requires

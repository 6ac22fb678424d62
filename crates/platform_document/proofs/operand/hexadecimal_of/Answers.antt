use Rattle.std.proofs.Common.{◌∙◌}
use Rattle.platform_document.proofs.Digits.{hexadecimal_after, hexadecimal_without}
use Rattle.platform_document.proofs.operand.hexadecimal_of.Goals as goal

pub returns-in-Some : goal.returns-in-Some
returns-in-Some c = c.number_of_digits.ensures ∙ hexadecimal_after c.args.text.now c.in-Some.digits.now c.in-Some.ensures.cases

pub returns-in-None : goal.returns-in-None
returns-in-None c = hexadecimal_without c.args.text.now c.in-None.ensures.cases

use Rattle.std.proofs.Common.{◌∙◌, sym, ap}
use Rattle.platform_document.specs.Words.{are_digits}
use Rattle.platform_document.proofs.Digits.{never_fails}
use Rattle.platform_document.proofs.operand.number_of_digits.Goals as goal

pub unreachable-requires : goal.unreachable-requires
unreachable-requires c = never_fails c.args.digits.now (sym (c.if-not-are_digits.ensures ∙ ap are_digits c.as_bytes.ensures.value)) c.in-Err.ensures.value

use Rattle.std.proofs.Common.{◌∙◌, ap}
use Rattle.std.specs.String.{string_bytes}
use Rattle.platform_gen.specs.Texts.{statuses_text, writes_text}
use Rattle.platform_gen.proofs.PlanLemmas.{text_is}
use Rattle.platform_gen.proofs.text.text_of.Goals as goal

pub returns : goal.returns
returns c =
    text_is c.args.plan.now (string_bytes c.in_ok-format.field-0) c.mode_word-mode.result.now (string_bytes c.in_ok-first.first) (string_bytes c.in_ok-second.second) (string_bytes c.in_ok-ops.ops) c.mode_word-mode.ensures
    (c.in_ok-first.ensures ∙ ap statuses_text c.as_slice.ensures)
    (c.in_ok-second.ensures ∙ ap statuses_text c.as_slice-2.ensures)
    (c.in_ok-ops.ensures ∙ ap writes_text c.as_slice-3.ensures)
    c.in_ok-format.ensures.ok

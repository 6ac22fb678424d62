use Rattle.std.proofs.Common.{◌∙◌, ap, arith}
use Rattle.std.specs.Str.{bytes_eq}
use Rattle.uuid.specs.Text.{lower, hyphenated_text}
use Rattle.trace_text.proofs.Fields.{spells_by}
use Rattle.trace_text.proofs.field.spells_guid.Goals as goal

pub returns : goal.returns
returns c =
    spells_by c.args.guid c.args.text.now c.eq.result (omega (arith, c.ranges.guid))
    (c.eq.ensures ∙ ap (λ w. bytes_eq w c.args.text.now) (c.encode_lower-spelled.ensures.text ∙ ap (hyphenated_text lower) (c.hyphenated.ensures ∙ c.from_u128.ensures)))

use Rattle.std.proofs.Common.{◌∙◌}
use Rattle.trace_text.proofs.Fields.{guid_some, guid_other, guid_none}
use Rattle.trace_text.proofs.field.read_guid.Goals as goal

pub returns-in_err-guid : goal.returns-in_err-guid
returns-in_err-guid c = c.from_residual.ensures ∙ guid_none c.args.text.now c.in_err-guid.ensures

pub returns-then-spells_guid : goal.returns-then-spells_guid
returns-then-spells_guid c = guid_some c.args.text.now c.in_ok-guid.guid c.in_ok-guid.ensures c.if-spells_guid.ensures

pub returns-else-spells_guid : goal.returns-else-spells_guid
returns-else-spells_guid c = guid_other c.args.text.now c.in_ok-guid.guid c.in_ok-guid.ensures c.if-spells_guid.ensures

use Rattle.std.proofs.Common.{ap, sym, option_map}
use Rattle.std.specs.Int.{w128, from_be_bytes}
use Rattle.uuid.specs.Text.{parsed}
use Rattle.trace_text.proofs.Fields.{none_where_refused}
use Rattle.trace_text.proofs.field.parse_guid.Goals as goal

pub returns-in-Err : goal.returns-in-Err
returns-in-Err c =
    sym (ap (option_map (from_be_bytes w128)) (none_where_refused c.try_parse.result _ (parsed c.args.text.now) c.in-Err.is c.try_parse.ensures.ok))

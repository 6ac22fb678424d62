use Rattle.std.proofs.Common.{ap, sym, option_map}
use Rattle.std.specs.Int.{w128, from_be_bytes}
use Rattle.smm_base.specs.declared.kinds.HandlerType.TheVariants.{Typed}
use Rattle.uuid.specs.Text.{parsed}
use Rattle.platform_document.proofs.Documents.{none_where_refused}
use Rattle.platform_document.proofs.word.guid_list.Goals as goal

pub returns-in-Err : goal.returns-in-Err
returns-in-Err c =
    sym (ap (option_map (λ bytes. Typed (from_be_bytes w128 bytes))) (none_where_refused c.try_parse.result _ (parsed c.args.text.now) c.in-Err.is c.try_parse.ensures.ok))

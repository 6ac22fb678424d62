use Rattle.std.proofs.Common.{◌∙◌, ap, option_map, string_bytes}
use Rattle.platform_document.proofs.Documents.{of_ref, unknown_of_keys}
use Rattle.platform_document.proofs.document.unknown_in.Goals as goal

pub returns : goal.returns
returns c = of_ref c.first_other.result ∙ ap (option_map string_bytes) c.first_other.ensures ∙ unknown_of_keys c.args.known.now c.args.table.now.entries

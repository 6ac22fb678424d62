use Rattle.std.proofs.Common.{◌∙◌, sym, string_bytes}
use Rattle.std.proofs.lemmas.List.{length-map}
use Rattle.smm_command.proofs.command.count_words.Goals as goal

pub returns : goal.returns
returns c = c.len.ensures ∙ c.args.words.now.ok.0 ∙ sym (length-map c.args.words.now.items string_bytes)

use Rattle.std.proofs.Common.{inl, inr}
use Rattle.std.specs.Str.{is_utf8}
use Rattle.std.proofs.lemmas.Str.{IsUtf8-from_is_utf8, is_utf8-from_IsUtf8}
use Rattle.toml.specs.Parse.{parse_document}
use Rattle.platform_file.proofs.Documents.{no_document}
use Rattle.platform_file.proofs.platform.document_of.Goals as goal

pub returns-in-Ok-clause-document : goal.returns-in-Ok-clause-document
returns-in-Ok-clause-document c = rw (is_utf8-from_IsUtf8 c.args.bytes.now c.in-Ok.ensures.ok.0) c.in-Ok.ensures.ok.1

pub returns-in-Err-clause-refused : goal.returns-in-Err-clause-refused
returns-in-Err-clause-refused c =
    elim c.refusal.ensures [
      | inl memory ↦ inl memory
      | inr other ↦ inr (other.0, no_document (is_utf8 c.args.bytes.now) (parse_document c.args.bytes.now) (λ valid. c.in-Err.ensures.refused other.1 (IsUtf8-from_is_utf8 c.args.bytes.now valid)))
    ]

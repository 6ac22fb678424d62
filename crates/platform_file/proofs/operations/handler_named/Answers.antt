use Rattle.std.proofs.Common.{◌∙◌, sym}
use Rattle.toml.specs.View.{view}
use Rattle.platform_file.specs.Operations.{has_name}
use Rattle.platform_file.proofs.Documents.{position_of_views}
use Rattle.platform_file.proofs.operations.handler_named.Goals as goal

pub returns-clause-place : goal.returns-clause-place
returns-clause-place c = c.place_of.ensures.place ∙ sym (position_of_views view (has_name c.args.name.now) c.args.handlers.now)

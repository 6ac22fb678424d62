-- Those that the test keeps.
use Rattle.std.proofs.Common.{rules, not}
use Rattle.std.specs.Prelude.{◌==◌}
use Rattle.std.proofs.lemmas.Fn.{filter_same}
use Rattle.serving_place.proofs.token.remove_job.Goals as goal

pub returns-clause-items : goal.returns-clause-items
returns-clause-items c = filter_same _ (λ t. not (t.job == c.args.job)) _ (λ x b f' k. search rules) _ _ c.retain.ensures.filtered

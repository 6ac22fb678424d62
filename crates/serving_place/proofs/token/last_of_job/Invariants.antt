use Rattle.std.proofs.Common.{◌≡◌, drop, reverse}
use Rattle.std.specs.Prelude.{◌==◌}
use Rattle.std.specs.List.{find}
use Rattle.serving_place.proofs.Lists.{last_from}
use Rattle.serving_place.proofs.token.last_of_job.Given as goal

abbrev pub invariant-loop-token : goal.invariant-loop-token
invariant-loop-token l = last_from (λ t. t.job == l.job) l.found (drop l.token-index l.tokens) ≡ find (λ t. t.job == l.job) (reverse l.tokens)

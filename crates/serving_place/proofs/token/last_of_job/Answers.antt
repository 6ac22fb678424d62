-- The last one that was found is the first from behind.
use Rattle.std.proofs.Common.{◌≤◌, ◌∙◌, length, sym, arith}
use Rattle.std.specs.Prelude.{◌==◌}
use Rattle.serving_place.proofs.Lists.{last_whole, last_step, last_all}
use Rattle.serving_place.proofs.token.last_of_job.Goals as goal

pub loop-token-init : goal.loop-token-init
loop-token-init c = last_whole (λ t. t.job == c.args.job) c.args.tokens.now

pub loop-token-preserved : goal.loop-token-preserved
loop-token-preserved c =
    last_step (λ t. t.job == c.args.job) c.loop-token.found _ c.args.tokens.now c.loop-token.token-index _ c.loop-token-test.true c.later-found.ensures
    ∙ c.loop-token.invariant

pub returns : goal.returns
returns c =
    let past : length c.args.tokens.now ≤ c.loop-token.token-index = omega (arith, c.loop-token-test.false) in
    sym (last_all (λ t. t.job == c.args.job) c.loop-token.found c.args.tokens.now c.loop-token.token-index past) ∙ c.loop-token.invariant

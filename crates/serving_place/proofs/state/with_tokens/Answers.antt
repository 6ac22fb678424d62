-- Each seat is counted once.
use Rattle.std.proofs.Common.{◌≤◌, length, arith}
use Rattle.serving_place.specs.Serving.{has_token}
use Rattle.serving_place.proofs.Lists.{count_step, count_all}
use Rattle.serving_place.proofs.state.with_tokens.Goals as goal

pub loop-seat-preserved : goal.loop-seat-preserved
loop-seat-preserved c =
    let step = count_step has_token c.args.seats.now c.loop-seat.seat-index _ c.has_token.result c.one_if-count.result c.loop-seat-test.true c.has_token.ensures c.one_if-count.ensures.value in
    record {
      left = omega (arith, step, c.loop-seat.invariant.left);
      few = omega (arith, c.loop-seat.invariant.few, c.one_if-count.ensures.few);
    }

pub returns-clause-value : goal.returns-clause-value
returns-clause-value c =
    let past : length c.args.seats.now ≤ c.loop-seat.seat-index = omega (arith, c.loop-seat-test.false) in
    omega (arith, count_all has_token c.args.seats.now c.loop-seat.seat-index past, c.loop-seat.invariant.left)

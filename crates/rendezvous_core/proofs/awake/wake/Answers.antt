-- All flags are set.
use Rattle.std.proofs.Common.{◌∙◌, true, length, length-set, arith}
use Rattle.rendezvous_core.proofs.Asleep.{set_more, all_set}
use Rattle.rendezvous_core.proofs.awake.wake.Goals as goal

pub loop-place-preserved : goal.loop-place-preserved
loop-place-preserved c =
    let so_far = c.loop-place.invariant in
    let same = c.loop-place.auto.awake in
    record {
      size = length-set c.loop-place.awake c.loop-place.place true ∙ so_far.size;
      done = set_more c.loop-place.awake c.loop-place.place (omega (arith, same, c.loop-place-test.true)) so_far.done;
    }

pub returns : goal.returns
returns c =
    let past = c.loop-place-test.false in
    all_set c.loop-place.awake (length c.args.awake.now) c.loop-place.auto.awake (λ k below. c.loop-place.invariant.done k (omega (arith, past, below)))

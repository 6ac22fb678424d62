-- One handler of the file after the other.
use Rattle.std.proofs.Common.{◌≤◌, ◌∙◌, length, sym, arith}
use Rattle.serving_place.proofs.Lists.{registered_step, registered_all}
use Rattle.serving_place.proofs.beginning.registered.Goals as goal

pub loop-place-preserved : goal.loop-place-preserved
loop-place-preserved c =
    registered_step c.loop-place.registry _ c.args.handlers.now c.loop-place.place c.index-handlers-place.result c.loop-place-test.true c.index-handlers-place.is c.register_if.ensures
    ∙ c.loop-place.invariant

pub returns : goal.returns
returns c =
    let past : length c.args.handlers.now ≤ c.loop-place.place = omega (arith, c.loop-place-test.false) in
    sym (registered_all c.loop-place.registry c.args.handlers.now c.loop-place.place past) ∙ c.loop-place.invariant

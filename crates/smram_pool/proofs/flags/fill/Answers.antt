use Rattle.std.proofs.Common.{◌+◌, ap, sym, ◌∙◌}
use Rattle.std.proofs.Math.ListN.{set}
use Rattle.smram_pool.proofs.FlagLemmas.{filled_more, filled_zero}
use Rattle.smram_pool.proofs.flags.fill.Goals as goal

pub loop-i-init : goal.loop-i-init
loop-i-init c = sym (filled_zero c.args.index c.args.value c.args.flags.now)

pub loop-i-preserved : goal.loop-i-preserved
loop-i-preserved c =
    ap (λ fs. set fs (c.args.index + c.loop-i.i) c.args.value) c.loop-i.invariant ∙ filled_more c.args.index c.loop-i.i c.args.value c.args.flags.now

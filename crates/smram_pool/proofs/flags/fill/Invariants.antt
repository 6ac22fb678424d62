use Rattle.std.proofs.Common.{◌≡◌}
use Rattle.smram_pool.specs.Views.{filled}
use Rattle.smram_pool.proofs.flags.fill.Given as goal

abbrev pub invariant-loop-i : goal.invariant-loop-i
invariant-loop-i l = l.flags ≡ filled l.index l.i l.value l.initial.flags

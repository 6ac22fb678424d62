use Rattle.std.proofs.Common.{◌≡◌, ◌<◌, ◌≤◌, drop}
use Rattle.smram_pool.specs.Views.{first_run}
use Rattle.smram_pool.proofs.FlagLemmas.{scan}
use Rattle.smram_pool.proofs.flags.find_run.Given as goal

abbrev pub invariant-loop-index : goal.invariant-loop-index
invariant-loop-index l =
    record {
      left : scan l.count l.length l.index (drop l.index l.flags) ≡ first_run l.count l.flags;
      short : l.length < l.count;
      within : l.length ≤ l.index;
    }

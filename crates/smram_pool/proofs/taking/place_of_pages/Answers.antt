use Rattle.std.proofs.Common.{sym, ap, ◌∙◌}
use Rattle.smram_pool.specs.Taking.{run_place}
use Rattle.smram_pool.proofs.FlagLemmas.{run_found, taken_at}
use Rattle.smram_pool.proofs.taking.place_of_pages.Goals as goal

pub returns-in-Some : goal.returns-in-Some
returns-in-Some c =
    sym (ap run_place (run_found c.args.count c.args.start c.args.free.now c.requires.some
    ∙ ap (taken_at c.args.count c.args.start c.args.free.now) (sym c.in-Some.ensures.run)))

pub returns-in-None : goal.returns-in-None
returns-in-None c =
    sym (ap run_place (run_found c.args.count c.args.start c.args.free.now c.requires.some
    ∙ ap (taken_at c.args.count c.args.start c.args.free.now) (sym c.in-None.ensures.run)))

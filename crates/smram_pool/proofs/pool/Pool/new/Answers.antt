use Rattle.smram_pool.proofs.PoolLemmas.{IsNew, new_is}
use Rattle.smram_pool.proofs.pool.Pool.new.Goals as goal

pub invariant_of-result : goal.invariant_of-result
invariant_of-result c =
    let is_new : IsNew c.args.start c.args.pages c.in_ok-lists.lists c.in_ok-live.live.items c.in_ok-free.free.items c.in_ok-runs.runs.items =
    new_is c.args.start c.args.pages c.in_ok-lists.lists c.in_ok-live.live.items c.in_ok-free.free.items c.in_ok-runs.runs.items c.requires.begins c.requires.low c.requires.few
    c.in_ok-lists.ensures c.in_ok-live.ensures c.in_ok-free.ensures c.in_ok-runs.ensures in
    is_new.holds

pub returns : goal.returns
returns c =
    let is_new : IsNew c.args.start c.args.pages c.in_ok-lists.lists c.in_ok-live.live.items c.in_ok-free.free.items c.in_ok-runs.runs.items =
    new_is c.args.start c.args.pages c.in_ok-lists.lists c.in_ok-live.live.items c.in_ok-free.free.items c.in_ok-runs.runs.items c.requires.begins c.requires.low c.requires.few
    c.in_ok-lists.ensures c.in_ok-live.ensures c.in_ok-free.ensures c.in_ok-runs.ensures in
    is_new.state

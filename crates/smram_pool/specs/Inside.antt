-- The pool's fields, what they stand for and what is true of them.
use Rattle.smram_pool.specs.declared.pool.Pool.TheInside.{Inside}
use Rattle.smram_pool.specs.State.{PoolState}
use Rattle.smram_pool.specs.Together.{state_at, Holds}

abbrev pub state_of : Inside → PoolState
state_of p = state_at p.start p.lists p.live.items p.free.items p.runs.items

abbrev pub HoldsTogether : Inside → Type 0
HoldsTogether p = Holds p.start p.lists p.live.items p.free.items p.runs.items

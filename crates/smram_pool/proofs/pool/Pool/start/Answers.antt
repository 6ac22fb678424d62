use Rattle.smram_pool.specs.State.{PoolState}
use Rattle.smram_pool.specs.Partition.{IsPartition, IsWellFormed}
use Rattle.smram_pool.specs.Order.{IsInOrder}
use Rattle.smram_pool.specs.Inside.{state_of}
use Rattle.smram_pool.proofs.RangeLemmas.{partition_is}
use Rattle.smram_pool.proofs.OrderLemmas.{in_order}
use Rattle.smram_pool.proofs.pool.Pool.start.Goals as goal
use Rattle.std.proofs.Common.{subst}

pub returns-clause-partition : goal.returns-clause-partition
returns-clause-partition c =
    let P : PoolState → Type 0 = λ s. IsPartition s in
    subst P c.self.view_is (partition_is (state_of c.self.inside) c.self.invariant.well_formed)

pub returns-clause-well_formed : goal.returns-clause-well_formed
returns-clause-well_formed c =
    let P : PoolState → Type 0 = λ s. IsWellFormed s in
    subst P c.self.view_is c.self.invariant.well_formed

pub returns-clause-order : goal.returns-clause-order
returns-clause-order c =
    let P : PoolState → Type 0 = λ s. IsInOrder s in
    let inside = c.self.inside in
    subst P c.self.view_is (in_order inside.start inside.lists inside.live.items inside.free.items inside.runs.items)

use Rattle.smram_pool.proofs.RangeLemmas.{partition_is}
use Rattle.smram_pool.proofs.WellFormedLemmas.{keeps_allocated, keeps_freed, keeps_pages_allocated, keeps_pages_freed, fresh_is}
use Rattle.smram_pool.proofs.laws.pool_laws.Goals as goal

pub returns-clause-partition : goal.returns-clause-partition
returns-clause-partition c = partition_is

pub returns-clause-new_holds : goal.returns-clause-new_holds
returns-clause-new_holds c = fresh_is

pub returns-clause-alloc_keeps : goal.returns-clause-alloc_keeps
returns-clause-alloc_keeps c = keeps_allocated

pub returns-clause-free_keeps : goal.returns-clause-free_keeps
returns-clause-free_keeps c = keeps_freed

pub returns-clause-alloc_pages_keeps : goal.returns-clause-alloc_pages_keeps
returns-clause-alloc_pages_keeps c = keeps_pages_allocated

pub returns-clause-free_pages_keeps : goal.returns-clause-free_pages_keeps
returns-clause-free_pages_keeps c = keeps_pages_freed

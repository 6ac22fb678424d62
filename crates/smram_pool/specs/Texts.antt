-- How a refusal of the pool is printed.
use Rattle.std.specs.Prelude.{ℕ, ◌++◌, List, codes, decimal}
use Rattle.smram_pool.specs.declared.error.PoolError.{PoolError}
use Rattle.smram_pool.specs.declared.error.PoolError.TheVariants.{Zero, OutOfResources, NotABlock}

-- the cause, and the place
abbrev pub pool_error_text : PoolError → List ℕ
pool_error_text Zero = codes "zero"
pool_error_text OutOfResources = codes "out-of-resources"
pool_error_text (NotABlock place) = codes "not-a-block " ++ decimal place

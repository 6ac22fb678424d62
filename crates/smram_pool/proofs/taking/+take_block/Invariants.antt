use Rattle.smram_pool.proofs.taking.+take_block.Given as goal

abbrev pub decreases-take_block : goal.decreases-take_block
decreases-take_block l = l.halvings

use Rattle.smram_pool.proofs.taking.+place_of_block.Given as goal

abbrev pub decreases-place_of_block : goal.decreases-place_of_block
decreases-place_of_block l = l.halvings

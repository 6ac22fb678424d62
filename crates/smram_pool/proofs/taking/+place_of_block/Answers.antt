-- Where a list is empty, the place of half a block is that of the larger one.
use Rattle.std.proofs.Common.{◌≡◌, ◌<◌, ◌-◌, ℕ, List, [], length, get_or, sym, ap, ◌∙◌, arith}
use Rattle.smram_pool.specs.Shelf.{Shelf}
use Rattle.smram_pool.specs.Shelves.{lists_of}
use Rattle.smram_pool.specs.State.{block_taken}
use Rattle.smram_pool.specs.Taking.{place_taken}
use Rattle.smram_pool.specs.Views.{free_from}
use Rattle.smram_pool.proofs.TakingLemmas.{taken_half, first_none, list_at, place_half}
use Rattle.smram_pool.proofs.taking.+place_of_block.Goals as goal

pub returns-in-None : goal.returns-in-None
returns-in-None t c =
    let lists : List Shelf = c.args.lists.now in
    let i : ℕ = c.args.halvings - 1 in
    let ps : List ℕ = free_from c.args.start c.args.free.now in
    let there : i < length lists = omega (arith, c.requires.shelves.six) in
    let empty : get_or (lists_of lists) i [] ≡ [] = list_at lists i c.index-lists-halvings.result there
    ∙ ap (λ (s : Shelf). s.places) (sym c.index-lists-halvings.is) ∙ first_none c.index-lists-halvings.result.places (sym c.in-None.ensures) in
    c.place_of_block.ensures ∙ place_half i (block_taken i (lists_of lists) ps)
    ∙ ap place_taken (sym (taken_half c.args.halvings (lists_of lists) ps (omega arith) empty))

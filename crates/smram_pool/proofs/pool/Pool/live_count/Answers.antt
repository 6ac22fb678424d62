use Rattle.std.proofs.Common.{ℕ, List, Option, None, get_or, sym, ap, ◌∙◌, arith}
use Rattle.smram_pool.specs.State.{PoolState, found}
use Rattle.smram_pool.specs.Views.{marked}
use Rattle.smram_pool.proofs.MarkLemmas.{marked-found, marked-missing}
use Rattle.smram_pool.proofs.pool.Pool.live_count.Goals as goal

pub returns-in-Some : goal.returns-in-Some
returns-in-Some c =
    let marks : List (Option ℕ) = c.self.inside.runs.items in
    let start : ℕ = c.self.inside.start in
    c.mark_at.ensures
    ∙ ap (λ (ms : List (Option ℕ)). get_or ms c.in-Some.page None) c.as_slice.ensures.value
    ∙ sym (marked-found start 4096 c.in-Some.page marks (omega arith))
    ∙ ap (λ (p : ℕ). found p (marked start 4096 marks)) (sym c.in-Some.ensures)
    ∙ ap (λ (s : PoolState). found c.args.place s.runs) c.self.view_is

pub returns-in-None : goal.returns-in-None
returns-in-None c =
    sym (marked-missing c.args.place c.self.inside.start 4096 c.self.inside.runs.items c.in-None.ensures)
    ∙ ap (λ (s : PoolState). found c.args.place s.runs) c.self.view_is

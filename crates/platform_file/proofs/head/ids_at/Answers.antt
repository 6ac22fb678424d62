use Rattle.std.proofs.Common.{ℕ, ◌≤◌, ◌∙◌, List, eqb, ap, sym, subst, length, arith}
use Rattle.std.specs.List.{IsDistinct}
use Rattle.platform_file.proofs.Tables.{only_memory}
use Rattle.platform_file.proofs.head.ids_at.Goals as goal

pub fault_of-requires : goal.fault_of-requires
fault_of-requires c =
    let count = ap length c.deref.ensures.value ∙ c.in_ok-ids.ensures.count in
    let few : length c.deref.result.now ≤ 64 = omega (arith, count, c.requires) in
    only_memory c.deref.result.now c.in-Err.error few (subst (λ (ids : List ℕ). IsDistinct eqb ids) (sym c.deref.ensures.value) c.in_ok-ids.ensures.distinct) c.in-Err.ensures.refused

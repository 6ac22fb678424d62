use Rattle.std.proofs.Common.{◌≡◌, ◌==◌, IsTrue, eqb, false, ℕ, List, [], ◌∷◌, ◌++◌, get_or, subst, sym, arith}
use Rattle.std.specs.List.{IsDistinct, list_any}
use Rattle.std.proofs.lemmas.Grind.{common_steps}
use Rattle.std.proofs.lemmas.Option.{slice_get-get_or}
use Rattle.cpu_table.proofs.DistinctLemmas.{distinct_push, none_distinct}
use Rattle.cpu_table.proofs.table.CpuTable.new.Goals as goal

pub loop-id-preserved : goal.loop-id-preserved
loop-id-preserved c =
    let id : ℕ = get_or c.args.ids.now c.loop-id.id-index 0 in
    let fresh : list_any (λ x. x == id) c.loop-id.held.items ≡ false = cc (c.contains.ensures.value, c.if-contains.false, c.deref.ensures.value) in
    let grown : c.push.new.self.items ≡ c.loop-id.held.items ++ id ∷ [] = grind (arith, common_steps) in
    record {
      same = grind (arith, common_steps);
      distinct = subst (λ (ids : List ℕ). IsDistinct eqb ids) (sym grown) (distinct_push c.loop-id.held.items id c.loop-id.invariant.distinct fresh);
    }

pub loop-id-init : goal.loop-id-init
loop-id-init c = record {
  same = c.new-held.ensures.items;
  distinct = subst (λ (ids : List ℕ). IsDistinct eqb ids) (sym c.new-held.ensures.items) none_distinct;
}

pub returns-then-contains-clause-refused : goal.returns-then-contains-clause-refused
returns-then-contains-clause-refused c = (
  omega (arith, c.if-ids-gt-MOST_PROCESSORS.false),
  (
    c.loop-id.id-index,
    record {
      there = slice_get-get_or c.args.ids.now c.loop-id.id-index 0 c.loop-id-test.true;
      earlier = subst (λ (held : List ℕ). IsTrue (list_any (λ x. x == get_or c.args.ids.now c.loop-id.id-index 0) held)) c.loop-id.invariant.same (cc (c.contains.ensures.value, c.if-contains.true, c.deref.ensures.value));
      first = subst (λ (ids : List ℕ). IsDistinct eqb ids) c.loop-id.invariant.same c.loop-id.invariant.distinct;
    },
  ),
)

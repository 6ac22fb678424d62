use Rattle.std.proofs.Common.{ℕ, ◌<◌, All, List, eqb, map, length, ap, subst, ◌∙◌, sym, inr, arith}
use Rattle.std.proofs.lemmas.List.Elements.{All-nil, All-push}
use Rattle.std.proofs.lemmas.Result.{err_from_is_err_and}
use Rattle.toml.specs.View.{view}
use Rattle.std.specs.List.{IsDistinct}
use Rattle.platform_document.specs.Reading.{each}
use Rattle.platform_file.specs.Head.{id_after}
use Rattle.platform_file.proofs.Growing.{none_distinct, numbers_distinct_more}
use Rattle.platform_document.proofs.Chains.{each_found, each_stops, each_ends, length_more}
use Rattle.platform_file.proofs.head.ids_in.Goals as goal

pub returns-in_err-id-clause-refused : goal.returns-in_err-id-clause-refused
returns-in_err-id-clause-refused c =
    let p = err_from_is_err_and c.from_residual-in_err-id.result c.from_residual-in_err-id.ensures.1 in
    let stops = each_stops id_after view c.loop-value.ids.items c.deref.result.now c.args.values.now c.loop-value.value-index c.value-item.result c.in_err-id.field-0.0 _ c.loop-value-test.true c.value-item.is c.deref.ensures.value (inr (sym c.in_err-id.ensures.id)) c.loop-value.invariant.so_far in
    rw (p.1, p.2) stops

pub loop-value-preserved : goal.loop-value-preserved
loop-value-preserved c =
    let next = each_found id_after view c.loop-value.ids.items c.deref.result.now c.in_ok-id.id c.args.values.now c.loop-value.value-index c.value-item.result c.loop-value-test.true c.value-item.is c.deref.ensures.value (sym c.in_ok-id.ensures.id) in
    record {
      so_far = rw c.in_ok-push.ensures.items (next ∙ c.loop-value.invariant.so_far);
      count = rw c.in_ok-push.ensures.items (length_more c.loop-value.ids.items c.in_ok-id.id c.loop-value.value-index c.loop-value.invariant.count);
      within = omega (arith, c.loop-value-test.true);
      distinct = rw c.in_ok-push.ensures.items (numbers_distinct_more c.loop-value.ids.items c.in_ok-id.id c.loop-value.invariant.distinct (rw c.deref.ensures.value at c.in_ok-id.ensures.fresh));
      small = rw c.in_ok-push.ensures.items (All-push (λ (id : ℕ). id < 9223372036854775808) c.loop-value.ids.items c.in_ok-id.id c.loop-value.invariant.small c.in_ok-id.ensures.small);
    }

pub returns-clause-ids : goal.returns-clause-ids
returns-clause-ids c = each_ends id_after view c.loop-value.ids.items c.args.values.now c.loop-value.value-index _ (omega (arith, c.loop-value-test.false)) c.loop-value.invariant.so_far

pub returns-clause-count : goal.returns-clause-count
returns-clause-count c = omega (arith, c.loop-value-test.false, c.loop-value.invariant.within, c.loop-value.invariant.count)

pub loop-value-init : goal.loop-value-init
loop-value-init c =
    let none = sym c.in_ok-ids.ensures.items in
    record {
      count = ap length c.in_ok-ids.ensures.items;
      within = omega arith;
      distinct = subst (λ (ids : List ℕ). IsDistinct eqb ids) none none_distinct;
      small = subst (λ (ids : List ℕ). All (λ id. id < 9223372036854775808) ids) none (All-nil (λ (id : ℕ). id < 9223372036854775808));
      so_far = ap (λ (ids : List ℕ). each id_after ids (map view c.args.values.now)) c.in_ok-ids.ensures.items;
    }

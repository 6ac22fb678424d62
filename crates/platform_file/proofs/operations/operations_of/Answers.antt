use Rattle.std.proofs.Common.{◌∙◌, arith, map, length}
use Rattle.std.proofs.lemmas.Result.{err_from_is_err_and}
use Rattle.toml.specs.View.{view}
use Rattle.platform_document.proofs.Chains.{each_found, each_stops, each_ends, length_more}
use Rattle.platform_file.proofs.Growing.{all_more}
use Rattle.cpu_table.specs.Ranges.{op_fits}
use Rattle.platform_file.specs.Operations.{operation_after}
use Rattle.platform_file.proofs.operations.operations_of.Goals as goal

pub returns-in_err-operation-clause-refused : goal.returns-in_err-operation-clause-refused
returns-in_err-operation-clause-refused c =
    let p = err_from_is_err_and c.from_residual-in_err-operation.result c.from_residual-in_err-operation.ensures.1 in
    let stops = each_stops (operation_after (map view c.args.handlers.now) c.args.handler) view c.loop-value.operations.items c.deref.result.now c.args.values.now c.loop-value.value-index c.value-item.result c.in_err-operation.field-0.0 _ c.loop-value-test.true c.value-item.is c.deref.ensures.value c.in_err-operation.ensures.refused c.loop-value.invariant.so_far in
    rw (p.1, p.2) stops

pub loop-value-preserved : goal.loop-value-preserved
loop-value-preserved c =
    let next = each_found (operation_after (map view c.args.handlers.now) c.args.handler) view c.loop-value.operations.items c.deref.result.now c.in_ok-operation.operation c.args.values.now c.loop-value.value-index c.value-item.result c.loop-value-test.true c.value-item.is c.deref.ensures.value c.in_ok-operation.ensures.operation in
    record {
      so_far = rw c.in_ok-push.ensures.items (next ∙ c.loop-value.invariant.so_far);
      count = rw c.in_ok-push.ensures.items (length_more c.loop-value.operations.items c.in_ok-operation.operation c.loop-value.value-index c.loop-value.invariant.count);
      within = omega (arith, c.loop-value-test.true);
      fit = rw c.in_ok-push.ensures.items (all_more (op_fits (length c.args.handlers.now)) c.loop-value.operations.items c.in_ok-operation.operation c.loop-value.invariant.fit c.in_ok-operation.ensures.fits);
    }

pub returns-clause-operations : goal.returns-clause-operations
returns-clause-operations c = each_ends (operation_after (map view c.args.handlers.now) c.args.handler) view c.loop-value.operations.items c.args.values.now c.loop-value.value-index _ (omega (arith, c.loop-value-test.false)) c.loop-value.invariant.so_far

pub returns-clause-count : goal.returns-clause-count
returns-clause-count c = omega (arith, c.loop-value-test.false, c.loop-value.invariant.within, c.loop-value.invariant.count)

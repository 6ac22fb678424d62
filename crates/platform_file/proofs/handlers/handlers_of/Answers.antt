use Rattle.std.proofs.Common.{◌≡◌, ◌∙◌, arith, map, length}
use Rattle.std.proofs.lemmas.Result.{err_from_is_err_and}
use Rattle.toml.specs.View.{view}
use Rattle.platform_document.proofs.Chains.{each_found, each_stops, each_ends, length_more}
use Rattle.platform_file.proofs.Growing.{all_more, distinct_more}
use Rattle.cpu_table.specs.Ranges.{same_text, handler_fits}
use Rattle.cpu_table.specs.declared.handlers.HandlerDef.{HandlerDef}
use Rattle.platform_file.specs.Handlers.{handler_after}
use Rattle.platform_file.proofs.Fits.{handlers_are_fit}
use Rattle.platform_file.proofs.handlers.handlers_of.Goals as goal

pub returns-in_err-handler-clause-refused : goal.returns-in_err-handler-clause-refused
returns-in_err-handler-clause-refused c =
    let p = err_from_is_err_and c.from_residual-in_err-handler.result c.from_residual-in_err-handler.ensures.1 in
    let stops = each_stops (handler_after (map view c.args.handlers.now)) view c.loop-value.defs.items c.deref.result.now c.args.handlers.now c.loop-value.value-index c.value-item.result c.in_err-handler.field-0.0 _ c.loop-value-test.true c.value-item.is c.deref.ensures.value (c.in_err-handler.ensures.refused) c.loop-value.invariant.so_far in
    rw (p.1, p.2) stops

pub loop-value-preserved : goal.loop-value-preserved
loop-value-preserved c =
    let next = each_found (handler_after (map view c.args.handlers.now)) view c.loop-value.defs.items c.deref.result.now c.in_ok-handler.handler c.args.handlers.now c.loop-value.value-index c.value-item.result c.loop-value-test.true c.value-item.is c.deref.ensures.value (c.in_ok-handler.ensures.handler) in
    record {
      so_far = rw c.in_ok-push.ensures.items (next ∙ c.loop-value.invariant.so_far);
      count = rw c.in_ok-push.ensures.items (length_more c.loop-value.defs.items c.in_ok-handler.handler c.loop-value.value-index c.loop-value.invariant.count);
      within = omega (arith, c.loop-value-test.true);
      fit = rw c.in_ok-push.ensures.items (all_more (handler_fits (length c.args.handlers.now)) c.loop-value.defs.items c.in_ok-handler.handler c.loop-value.invariant.fit c.in_ok-handler.ensures.fits);
      distinct = rw c.in_ok-push.ensures.items (distinct_more (λ (a : HandlerDef) (b : HandlerDef). same_text a.name b.name) c.loop-value.defs.items c.in_ok-handler.handler c.loop-value.invariant.distinct (rw c.deref.ensures.value at c.in_ok-handler.ensures.fresh));
    }

pub returns-clause-handlers : goal.returns-clause-handlers
returns-clause-handlers c = each_ends (handler_after (map view c.args.handlers.now)) view c.loop-value.defs.items c.args.handlers.now c.loop-value.value-index _ (omega (arith, c.loop-value-test.false)) c.loop-value.invariant.so_far

pub returns-clause-fit : goal.returns-clause-fit
returns-clause-fit c =
    let all : length c.loop-value.defs.items ≡ length c.args.handlers.now = omega (arith, c.loop-value-test.false, c.loop-value.invariant.within, c.loop-value.invariant.count) in
    handlers_are_fit c.loop-value.defs.items (length c.args.handlers.now) all c.requires c.loop-value.invariant.fit c.loop-value.invariant.distinct

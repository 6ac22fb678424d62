use Rattle.std.proofs.Common.{◌∙◌, arith}
use Rattle.std.proofs.lemmas.Result.{err_from_is_err_and}
use Rattle.toml.specs.View.{view}
use Rattle.platform_document.proofs.Chains.{each_found, each_stops, each_ends, length_more}
use Rattle.platform_file.proofs.Growing.{all_more, distinct_more}
use Rattle.cpu_table.specs.Ranges.{same_visit, cause_fits}
use Rattle.platform_file.specs.Causes.{cause_after}
use Rattle.platform_file.proofs.Fits.{causes_are_fit}
use Rattle.platform_file.proofs.causes.causes_of.Goals as goal

pub returns-in_err-cause-clause-refused : goal.returns-in_err-cause-clause-refused
returns-in_err-cause-clause-refused c =
    let p = err_from_is_err_and c.from_residual-in_err-cause.result c.from_residual-in_err-cause.ensures.1 in
    let stops = each_stops (cause_after c.args.processors c.args.visits) view c.loop-value.causes.items c.deref.result.now c.args.values.now c.loop-value.value-index c.value-item.result c.in_err-cause.field-0.0 _ c.loop-value-test.true c.value-item.is c.deref.ensures.value (c.in_err-cause.ensures.refused) c.loop-value.invariant.so_far in
    rw (p.1, p.2) stops

pub loop-value-preserved : goal.loop-value-preserved
loop-value-preserved c =
    let next = each_found (cause_after c.args.processors c.args.visits) view c.loop-value.causes.items c.deref.result.now c.in_ok-cause.cause c.args.values.now c.loop-value.value-index c.value-item.result c.loop-value-test.true c.value-item.is c.deref.ensures.value (c.in_ok-cause.ensures.cause) in
    record {
      so_far = rw c.in_ok-push.ensures.items (next ∙ c.loop-value.invariant.so_far);
      count = rw c.in_ok-push.ensures.items (length_more c.loop-value.causes.items c.in_ok-cause.cause c.loop-value.value-index c.loop-value.invariant.count);
      within = omega (arith, c.loop-value-test.true);
      fit = rw c.in_ok-push.ensures.items (all_more (cause_fits c.args.processors c.args.visits) c.loop-value.causes.items c.in_ok-cause.cause c.loop-value.invariant.fit c.in_ok-cause.ensures.fits);
      distinct = rw c.in_ok-push.ensures.items (distinct_more same_visit c.loop-value.causes.items c.in_ok-cause.cause c.loop-value.invariant.distinct (rw c.deref.ensures.value at c.in_ok-cause.ensures.fresh));
    }

pub returns-clause-causes : goal.returns-clause-causes
returns-clause-causes c = each_ends (cause_after c.args.processors c.args.visits) view c.loop-value.causes.items c.args.values.now c.loop-value.value-index _ (omega (arith, c.loop-value-test.false)) c.loop-value.invariant.so_far

pub returns-clause-fit : goal.returns-clause-fit
returns-clause-fit c =
    causes_are_fit c.args.processors c.args.visits c.loop-value.causes.items (omega (arith, c.requires.few, c.loop-value.invariant.within, c.loop-value.invariant.count)) c.loop-value.invariant.fit c.loop-value.invariant.distinct

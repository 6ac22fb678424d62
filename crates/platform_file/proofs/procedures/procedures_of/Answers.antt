use Rattle.std.proofs.Common.{◌∙◌, arith}
use Rattle.std.proofs.lemmas.Result.{err_from_is_err_and}
use Rattle.toml.specs.View.{view}
use Rattle.platform_document.proofs.Chains.{each_found, each_stops, each_ends, length_more}
use Rattle.platform_file.proofs.Growing.{all_more, distinct_more}
use Rattle.cpu_table.specs.Ranges.{same_text, procedure_fits}
use Rattle.cpu_table.specs.declared.handlers.ProcedureDef.{ProcedureDef}
use Rattle.platform_file.specs.Handlers.{procedure_after}
use Rattle.platform_file.proofs.Fits.{procedures_are_fit}
use Rattle.platform_file.proofs.procedures.procedures_of.Goals as goal

pub returns-in_err-procedure-clause-refused : goal.returns-in_err-procedure-clause-refused
returns-in_err-procedure-clause-refused c =
    let p = err_from_is_err_and c.from_residual-in_err-procedure.result c.from_residual-in_err-procedure.ensures.1 in
    let stops = each_stops procedure_after view c.loop-value.procedures.items c.deref.result.now c.args.values.now c.loop-value.value-index c.value-item.result c.in_err-procedure.field-0.0 _ c.loop-value-test.true c.value-item.is c.deref.ensures.value (c.in_err-procedure.ensures.refused) c.loop-value.invariant.so_far in
    rw (p.1, p.2) stops

pub loop-value-preserved : goal.loop-value-preserved
loop-value-preserved c =
    let next = each_found procedure_after view c.loop-value.procedures.items c.deref.result.now c.in_ok-procedure.procedure c.args.values.now c.loop-value.value-index c.value-item.result c.loop-value-test.true c.value-item.is c.deref.ensures.value (c.in_ok-procedure.ensures.procedure) in
    record {
      so_far = rw c.in_ok-push.ensures.items (next ∙ c.loop-value.invariant.so_far);
      count = rw c.in_ok-push.ensures.items (length_more c.loop-value.procedures.items c.in_ok-procedure.procedure c.loop-value.value-index c.loop-value.invariant.count);
      within = omega (arith, c.loop-value-test.true);
      fit = rw c.in_ok-push.ensures.items (all_more procedure_fits c.loop-value.procedures.items c.in_ok-procedure.procedure c.loop-value.invariant.fit c.in_ok-procedure.ensures.fits);
      distinct = rw c.in_ok-push.ensures.items (distinct_more (λ (a : ProcedureDef) (b : ProcedureDef). same_text a.name b.name) c.loop-value.procedures.items c.in_ok-procedure.procedure c.loop-value.invariant.distinct (rw c.deref.ensures.value at c.in_ok-procedure.ensures.fresh));
    }

pub returns-clause-procedures : goal.returns-clause-procedures
returns-clause-procedures c = each_ends procedure_after view c.loop-value.procedures.items c.args.values.now c.loop-value.value-index _ (omega (arith, c.loop-value-test.false)) c.loop-value.invariant.so_far

pub returns-clause-fit : goal.returns-clause-fit
returns-clause-fit c =
    procedures_are_fit c.loop-value.procedures.items (omega (arith, c.requires, c.loop-value.invariant.within, c.loop-value.invariant.count)) c.loop-value.invariant.fit c.loop-value.invariant.distinct

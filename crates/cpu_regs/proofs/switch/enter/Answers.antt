use Rattle.std.proofs.Common.{◌≡◌, ◌<◌, ◌^◌, sym, ap, subst, ◌∙◌}
use Rattle.smm_base.specs.declared.kinds.MapKind.{MapKind}
use Rattle.save_state_map.specs.declared.field.TheConstants.{FIELDS}
use Rattle.save_state_map.specs.Images.{ImageContents}
use Rattle.cpu_regs.specs.Entering.{io_state, entered, saved}
use Rattle.cpu_regs.proofs.Saving.{AllFit, goes_on, ends, each_field, byte_stays, entered_fits}
use Rattle.cpu_regs.proofs.switch.enter.Goals as goal

pub put-requires-clause-fits : goal.put-requires-clause-fits
put-requires-clause-fits c = λ place there.
    let small : io_state c.args.cause.now.io < 2 ^ 32 = rw (← c.io_state_of-state.ensures.state) c.io_state_of-state.ensures.fits in
    let fit : AllFit c.loop-field.image.kind (entered c.args.regs.now c.args.cause.now) = subst (λ (k : MapKind). AllFit k (entered c.args.regs.now c.args.cause.now)) (c.requires ∙ sym c.loop-field.invariant.kind) (entered_fits c.args.regs.now c.args.cause.now c.kind.ensures.registers small) in
    fit _ place there

pub loop-field-preserved : goal.loop-field-preserved
loop-field-preserved c =
    record {
      kind = ap (λ (m : ImageContents). m.kind) c.put.ensures ∙ c.loop-field.invariant.kind;
      so_far = goes_on (entered c.args.regs.now c.args.cause.now) FIELDS c.loop-field.field-index _ c.loop-field.image c.put.new.image (saved c.args.regs.now c.args.cause.now c.args.image.now) c.loop-field-test.true c.loop-field.invariant.so_far c.put.ensures;
    }

pub returns-clause-saved : goal.returns-clause-saved
returns-clause-saved c = ends (entered c.args.regs.now c.args.cause.now) FIELDS c.loop-field.field-index c.loop-field.image (saved c.args.regs.now c.args.cause.now c.args.image.now) c.loop-field-test.false c.loop-field.invariant.so_far

pub returns-clause-each_field : goal.returns-clause-each_field
returns-clause-each_field c = λ field.
    let done : c.loop-field.image ≡ saved c.args.regs.now c.args.cause.now c.args.image.now = ends (entered c.args.regs.now c.args.cause.now) FIELDS c.loop-field.field-index c.loop-field.image (saved c.args.regs.now c.args.cause.now c.args.image.now) c.loop-field-test.false c.loop-field.invariant.so_far in
    let small : io_state c.args.cause.now.io < 2 ^ 32 = rw (← c.io_state_of-state.ensures.state) c.io_state_of-state.ensures.fits in
    let fit : AllFit c.args.image.now.kind (entered c.args.regs.now c.args.cause.now) = subst (λ (k : MapKind). AllFit k (entered c.args.regs.now c.args.cause.now)) c.requires (entered_fits c.args.regs.now c.args.cause.now c.kind.ensures.registers small) in
    rw done (each_field (entered c.args.regs.now c.args.cause.now) c.args.image.now field c.kind-2.ensures.image fit)

pub returns-clause-other_bytes_stay : goal.returns-clause-other_bytes_stay
returns-clause-other_bytes_stay c = λ at none.
    let done : c.loop-field.image ≡ saved c.args.regs.now c.args.cause.now c.args.image.now = ends (entered c.args.regs.now c.args.cause.now) FIELDS c.loop-field.field-index c.loop-field.image (saved c.args.regs.now c.args.cause.now c.args.image.now) c.loop-field-test.false c.loop-field.invariant.so_far in
    rw done (byte_stays (entered c.args.regs.now c.args.cause.now) FIELDS c.args.image.now at c.kind-2.ensures.image none)

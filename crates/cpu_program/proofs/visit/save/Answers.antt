use Rattle.std.proofs.Common.{◌∙◌, Some, slice_set, sym, ap}
use Rattle.save_state_map.specs.Images.{ImageContents}
use Rattle.handler_ops.specs.declared.desk.Desk.{Desk}
use Rattle.cpu_regs.specs.Entering.{saved}
use Rattle.cpu_program.specs.Processors.{desk_saved}
use Rattle.cpu_program.proofs.DeskLemmas.{put_back}
use Rattle.cpu_program.proofs.visit.save.Goals as goal

pub returns-in-Some : goal.returns-in-Some
returns-in-Some c =
    put_back c.args.held.now c.take.new.self c.put.new.self c.args.cpu (desk_saved c.args.registers.now c.args.cause.now) c.in-Some.desk
    (sym c.in-Some.is ∙ c.take.ensures.taken)
    c.take.ensures.left
    (c.put.ensures
    ∙ ap (λ (desk : Desk). slice_set c.take.new.self c.args.cpu (Some desk)) c.set_image.ensures
    ∙ ap (λ (m : ImageContents). slice_set c.take.new.self c.args.cpu (Some (record { image = m; job = c.in-Some.desk.job }))) c.enter.ensures.saved
    ∙ ap (λ (desk : Desk). slice_set c.take.new.self c.args.cpu (Some (record { image = saved c.args.registers.now c.args.cause.now desk.image; job = c.in-Some.desk.job }))) c.get.ensures)

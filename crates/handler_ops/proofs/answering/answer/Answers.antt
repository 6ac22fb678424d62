-- The label of a read fits whatever is due.
use Rattle.std.proofs.Common.{sym, subst}
use Rattle.sync_words.specs.declared.label.Label.{Label}
use Rattle.serving_place.specs.Due.{due}
use Rattle.serving_place.specs.Progresses.{program_in, place_in, setting_in}
use Rattle.serving_place.specs.declared.saying.Saying.TheVariants.{Known}
use Rattle.serving_place.specs.Sayings.{Fits, operation_due}
use Rattle.handler_ops.proofs.Answered.{read_fits}
use Rattle.handler_ops.proofs.answering.answer.Goals as goal

pub speak-requires-clause-fits : goal.speak-requires-clause-fits
speak-requires-clause-fits c =
    let due_now = operation_due (due (program_in c.args.progress.now) (place_in c.args.progress.now)) in
    subst (λ (l : Label). Fits (Known l) due_now c.args.progress.now.state) (sym c.read_at_hand.ensures)
    (read_fits (setting_in c.args.progress.now) c.in-Reading.cpu c.in-Reading.reg c.in-Reading.width c.args.desks.now due_now c.args.progress.now.state)
